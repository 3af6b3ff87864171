use Rattle.kom_telling.proofs.sections.tell_section.Goals as goal

pub returns-in-Recipients-clause-told : goal.returns-in-Recipients-clause-told
returns-in-Recipients-clause-told g c =
    rw c.in-Recipients.is (rw (c.all_recipients.ensures) at c.tell_recipients.ensures.told)

pub returns-in-Links-clause-told : goal.returns-in-Links-clause-told
returns-in-Links-clause-told g c = rw c.in-Links.is (rw (c.all_links.ensures) at c.tell_links.ensures.told)

pub returns-in-Memberships-clause-told : goal.returns-in-Memberships-clause-told
returns-in-Memberships-clause-told g c =
    rw c.in-Memberships.is (rw (c.deref.ensures.value, c.requires.keys.memberships) at c.tell_memberships.ensures.told)

pub returns-in-Marks-clause-told : goal.returns-in-Marks-clause-told
returns-in-Marks-clause-told g c = rw c.in-Marks.is (rw (c.all_marks.ensures) at c.tell_marks.ensures.told)

pub returns-in-Items-clause-told : goal.returns-in-Items-clause-told
returns-in-Items-clause-told g c = rw c.in-Items.is (rw (c.all_items.ensures) at c.tell_items.ensures.told)

pub returns-in-Conferences-clause-told : goal.returns-in-Conferences-clause-told
returns-in-Conferences-clause-told g c =
    rw c.in-Conferences.is (rw (c.deref-in-Conferences.ensures.value, c.requires.keys.conferences) at
    c.tell_each.ensures.told)

pub returns-in-NextLocals-clause-told : goal.returns-in-NextLocals-clause-told
returns-in-NextLocals-clause-told g c =
    rw c.in-NextLocals.is (rw (c.deref-in-NextLocals.ensures.value, c.requires.keys.conferences) at
    c.tell_each-in-NextLocals.ensures.told)

pub returns-in-NextConferenceItems-clause-told : goal.returns-in-NextConferenceItems-clause-told
returns-in-NextConferenceItems-clause-told g c =
    rw c.in-NextConferenceItems.is (rw (c.deref-in-NextConferenceItems.ensures.value, c.requires.keys.conferences) at
    c.tell_each-in-NextConferenceItems.ensures.told)

pub returns-in-Persons-clause-told : goal.returns-in-Persons-clause-told
returns-in-Persons-clause-told g c =
    rw c.in-Persons.is (rw (c.deref-in-Persons.ensures.value, c.requires.keys.persons) at
    c.tell_each-in-Persons.ensures.told)

pub returns-in-Created-clause-told : goal.returns-in-Created-clause-told
returns-in-Created-clause-told g c =
    rw c.in-Created.is (rw (c.deref-in-Created.ensures.value, c.requires.keys.persons) at
    c.tell_each-in-Created.ensures.told)

pub returns-in-NextCreated-clause-told : goal.returns-in-NextCreated-clause-told
returns-in-NextCreated-clause-told g c =
    rw c.in-NextCreated.is (rw (c.deref-in-NextCreated.ensures.value, c.requires.keys.persons) at
    c.tell_each-in-NextCreated.ensures.told)

pub returns-in-Sessions-clause-told : goal.returns-in-Sessions-clause-told
returns-in-Sessions-clause-told g c =
    rw c.in-Sessions.is (rw (c.deref-in-Sessions.ensures.value, c.requires.keys.persons) at
    c.tell_each-in-Sessions.ensures.told)

pub returns-in-Texts-clause-told : goal.returns-in-Texts-clause-told
returns-in-Texts-clause-told g c =
    rw c.in-Texts.is (rw (c.deref-in-Texts.ensures.value, c.requires.keys.texts) at c.tell_each-in-Texts.ensures.told)

pub returns-in-NextTextItems-clause-told : goal.returns-in-NextTextItems-clause-told
returns-in-NextTextItems-clause-told g c =
    rw c.in-NextTextItems.is (rw (c.deref-in-NextTextItems.ensures.value, c.requires.keys.texts) at
    c.tell_each-in-NextTextItems.ensures.told)

pub tell_items-requires : goal.tell_items-requires
tell_items-requires g c = rw c.all_items.ensures c.requires.whole.items.short
