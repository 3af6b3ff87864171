-- What a change of conferences, persons or texts keeps of them, and so of what hangs on them.
use Rattle.std.proofs.Common.{◌≡◌, ℕ, ◌+◌, ◌<◌, ◌≤◌, Bool, true, false, not, ◌==◌, List, Some, refl, arith}
use Rattle.std.specs.Prelude.{map, is_none, nat_lt}
use Rattle.std.specs.List.{AllByRecursion}
use Rattle.std.proofs.lemmas.Bool.{lt-ltb, ltb-true, not-true}
use Rattle.row_table.specs.Tables.{row_of, with_row, without_row, changed_row}
use Rattle.kom_types.specs.declared.aux_items.ItemRow.{ItemRow}
use Rattle.kom_types.specs.declared.conferences.ConferenceRow.{ConferenceRow}
use Rattle.kom_types.specs.declared.memberships.MembershipRow.{MembershipRow}
use Rattle.kom_types.specs.declared.persons.PersonRow.{PersonRow}
use Rattle.kom_types.specs.declared.texts.MarkRow.{MarkRow}
use Rattle.kom_types.specs.declared.texts.Recipient.{Recipient}
use Rattle.kom_types.specs.declared.texts.TextLink.{TextLink}
use Rattle.kom_types.specs.declared.texts.TextRow.{TextRow}
use Rattle.kom_types.specs.tables.Conferences.{number_of_conference, is_letterbox}
use Rattle.kom_types.specs.tables.Persons.{number_of_person}
use Rattle.kom_types.specs.tables.Texts.{number_of_text}
use Rattle.read_ranges.specs.Reads.{ReadRow}
use Rattle.kom_model.specs.Db.{Db}
use Rattle.kom_model.specs.Whole.{IsWhole, AreConferences, ArePersons, AreTexts, AreMemberships, AreRecipients}
use Rattle.kom_model.specs.Whole.{AreLinks, AreMarks, AreItems, IsNumbered, has_conference, has_person, has_text}
use Rattle.kom_model.specs.Whole.{has_letterbox, has_drawn_local, has_drawn_created, has_conference_item}
use Rattle.kom_model.specs.Whole.{has_text_item, has_drawn_item}
use Rattle.kom_model.proofs.whole.Counts.{all-along, all-of}
use Rattle.kom_model.proofs.whole.Found.{has-with_row, has-without, has-changed, has-mapped}

-- what of conferences, persons and texts is kept where their numbers pass a test
pub record ConferencesStay (stays : ℕ → Bool) (old new : List ConferenceRow) : Type 0 where
  pub there : (number : ℕ) → stays number ≡ true → has_conference old number ≡ true → has_conference new number ≡ true
  pub letterbox : (number : ℕ) → stays number ≡ true → has_letterbox old number ≡ true
      → has_letterbox new number ≡ true
  pub local : (local number : ℕ) → stays number ≡ true → has_drawn_local old number local ≡ true
      → has_drawn_local new number local ≡ true
  pub item : (item number : ℕ) → stays number ≡ true → has_conference_item old number item ≡ true
      → has_conference_item new number item ≡ true

pub record PersonsStay (stays : ℕ → Bool) (old new : List PersonRow) : Type 0 where
  pub there : (number : ℕ) → stays number ≡ true → has_person old number ≡ true → has_person new number ≡ true
  pub created : (local number : ℕ) → stays number ≡ true → has_drawn_created old number local ≡ true
      → has_drawn_created new number local ≡ true

pub record TextsStay (stays : ℕ → Bool) (old new : List TextRow) : Type 0 where
  pub there : (number : ℕ) → stays number ≡ true → has_text old number ≡ true → has_text new number ≡ true
  pub item : (item number : ℕ) → stays number ≡ true → has_text_item old number item ≡ true
      → has_text_item new number item ≡ true

-- all of them; and all but one
abbrev pub all : ℕ → Bool
all number = true

abbrev pub other_than : ℕ → ℕ → Bool
other_than gone number = not (number == gone)

-- a number that stays as it is
pub same-number : (n : ℕ) → n ≤ n
same-number n = omega arith

-- a number is below the next one
pub next-drawn : (n : ℕ) → nat_lt n (n + 1) ≡ true
next-drawn n = lt-ltb n (n + 1) (omega arith)

-- numbers below one are below one that is not less
drawn-more : (number next next' : ℕ) → next ≤ next' → nat_lt number next ≡ true → nat_lt number next' ≡ true
drawn-more number next next' more is = lt-ltb number next' (omega (arith, ltb-true number next is, more))

-- ---- conferences
pub conferences-added : (given : ConferenceRow) (rows : List ConferenceRow) →
    is_none (row_of number_of_conference given.number rows) ≡ true →
    ConferencesStay all rows (with_row number_of_conference given rows)
conferences-added given rows absent = record {
  there = λ number stay. has-with_row number_of_conference (λ row. true) given rows absent number;
  letterbox = λ number stay. has-with_row number_of_conference (λ row. is_letterbox row.kind) given rows absent number;
  local = λ local number stay.
      has-with_row number_of_conference (λ row. nat_lt local row.next_local) given rows absent number;
  item = λ item number stay.
      has-with_row number_of_conference (λ row. nat_lt item row.next_item) given rows absent number;
}

pub conferences-gone : (gone : ℕ) (rows : List ConferenceRow) →
    ConferencesStay (other_than gone) rows (without_row number_of_conference gone rows)
conferences-gone gone rows = record {
  there = λ number stay. has-without number_of_conference (λ row. true) gone rows number (not-true _ stay);
  letterbox = λ number stay.
      has-without number_of_conference (λ row. is_letterbox row.kind) gone rows number (not-true _ stay);
  local = λ local number stay.
      has-without number_of_conference (λ row. nat_lt local row.next_local) gone rows number (not-true _ stay);
  item = λ item number stay.
      has-without number_of_conference (λ row. nat_lt item row.next_item) gone rows number (not-true _ stay);
}

-- what a change of one conference keeps
pub record ConferenceStays (change : ConferenceRow → ConferenceRow) (row : ConferenceRow) : Type 0 where
  pub letterbox : is_letterbox row.kind ≡ true → is_letterbox (change row).kind ≡ true
  pub local : row.next_local ≤ (change row).next_local
  pub item : row.next_item ≤ (change row).next_item

pub conferences-changed : (at : ℕ) (change : ConferenceRow → ConferenceRow) (rows : List ConferenceRow) →
    ((row : ConferenceRow) → (change row).number ≡ row.number) →
    ((row : ConferenceRow) → row_of number_of_conference at rows ≡ Some row → ConferenceStays change row) →
    ConferencesStay all rows (changed_row number_of_conference at change rows)
conferences-changed at change rows keeps stays = record {
  there = λ number stay. has-changed number_of_conference (λ row. true) change keeps at rows
      (λ row found is. refl) number;
  letterbox = λ number stay. has-changed number_of_conference (λ row. is_letterbox row.kind) change keeps at rows
      (λ row found is. (stays row found).letterbox is) number;
  local = λ local number stay. has-changed number_of_conference (λ row. nat_lt local row.next_local) change keeps at
      rows (λ row found is. drawn-more local _ _ (stays row found).local is) number;
  item = λ item number stay. has-changed number_of_conference (λ row. nat_lt item row.next_item) change keeps at
      rows (λ row found is. drawn-more item _ _ (stays row found).item is) number;
}

-- ---- persons
pub persons-added : (given : PersonRow) (rows : List PersonRow) →
    is_none (row_of number_of_person given.number rows) ≡ true →
    PersonsStay all rows (with_row number_of_person given rows)
persons-added given rows absent = record {
  there = λ number stay. has-with_row number_of_person (λ row. true) given rows absent number;
  created = λ local number stay.
      has-with_row number_of_person (λ row. nat_lt local row.next_created) given rows absent number;
}

pub persons-gone : (gone : ℕ) (rows : List PersonRow) →
    PersonsStay (other_than gone) rows (without_row number_of_person gone rows)
persons-gone gone rows = record {
  there = λ number stay. has-without number_of_person (λ row. true) gone rows number (not-true _ stay);
  created = λ local number stay.
      has-without number_of_person (λ row. nat_lt local row.next_created) gone rows number (not-true _ stay);
}

pub persons-changed : (at : ℕ) (change : PersonRow → PersonRow) (rows : List PersonRow) →
    ((row : PersonRow) → (change row).number ≡ row.number) →
    ((row : PersonRow) → row_of number_of_person at rows ≡ Some row → row.next_created ≤ (change row).next_created) →
    PersonsStay all rows (changed_row number_of_person at change rows)
persons-changed at change rows keeps more = record {
  there = λ number stay. has-changed number_of_person (λ row. true) change keeps at rows (λ row found is. refl) number;
  created = λ local number stay. has-changed number_of_person (λ row. nat_lt local row.next_created) change keeps at
      rows (λ row found is. drawn-more local _ _ (more row found) is) number;
}

-- ---- texts
pub texts-added : (given : TextRow) (rows : List TextRow) →
    is_none (row_of number_of_text given.number rows) ≡ true → TextsStay all rows (with_row number_of_text given rows)
texts-added given rows absent = record {
  there = λ number stay. has-with_row number_of_text (λ row. true) given rows absent number;
  item = λ item number stay. has-with_row number_of_text (λ row. nat_lt item row.next_item) given rows absent number;
}

pub texts-gone : (gone : ℕ) (rows : List TextRow) →
    TextsStay (other_than gone) rows (without_row number_of_text gone rows)
texts-gone gone rows = record {
  there = λ number stay. has-without number_of_text (λ row. true) gone rows number (not-true _ stay);
  item = λ item number stay.
      has-without number_of_text (λ row. nat_lt item row.next_item) gone rows number (not-true _ stay);
}

pub texts-changed : (at : ℕ) (change : TextRow → TextRow) (rows : List TextRow) →
    ((row : TextRow) → (change row).number ≡ row.number) →
    ((row : TextRow) → row_of number_of_text at rows ≡ Some row → row.next_item ≤ (change row).next_item) →
    TextsStay all rows (changed_row number_of_text at change rows)
texts-changed at change rows keeps more = record {
  there = λ number stay. has-changed number_of_text (λ row. true) change keeps at rows (λ row found is. refl) number;
  item = λ item number stay. has-changed number_of_text (λ row. nat_lt item row.next_item) change keeps at
      rows (λ row found is. drawn-more item _ _ (more row found) is) number;
}

pub texts-mapped : (change : TextRow → TextRow) (rows : List TextRow) →
    ((row : TextRow) → (change row).number ≡ row.number) →
    ((row : TextRow) → (change row).next_item ≡ row.next_item) → TextsStay all rows (map change rows)
texts-mapped change rows keeps same = record {
  there = λ number stay. has-mapped number_of_text (λ row. true) change keeps rows (λ row is. refl) number;
  item = λ item number stay. has-mapped number_of_text (λ row. nat_lt item row.next_item) change keeps rows
      (λ row is. rw (same row) is) number;
}

-- ---- what hangs on conferences that stay
module _ (stays : ℕ → Bool) (old new : List ConferenceRow) (kept : ConferencesStay stays old new) where
  pub persons-housed : (rows : List PersonRow) → AllByRecursion (λ row. stays row.number ≡ true) rows →
      ArePersons rows old → ArePersons rows new
  persons-housed rows stay whole = record {
    rising = whole.rising;
    housed = all-along (λ row. stays row.number ≡ true) (λ row. has_letterbox old row.number ≡ true)
        (λ row. has_letterbox new row.number ≡ true) (λ row. kept.letterbox row.number) rows stay whole.housed;
  }

  pub memberships-held : (rows : List MembershipRow) (reads : List ReadRow) (persons : List PersonRow) →
      AllByRecursion (λ row. stays row.conference ≡ true) rows → AreMemberships rows reads persons old →
      AreMemberships rows reads persons new
  memberships-held rows reads persons stay whole = record {
    person_there = whole.person_there;
    conference_there = all-along (λ row. stays row.conference ≡ true) (λ row. has_conference old row.conference ≡ true)
        (λ row. has_conference new row.conference ≡ true) (λ row. kept.there row.conference) rows stay
        whole.conference_there;
    once = whole.once;
    limited = whole.limited;
    kept = whole.kept;
    ranges = whole.ranges;
  }

  pub recipients-held : (rows : List Recipient) (texts : List TextRow) →
      AllByRecursion (λ row. stays row.conference ≡ true) rows → AreRecipients rows texts old →
      AreRecipients rows texts new
  recipients-held rows texts stay whole = record {
    text_there = whole.text_there;
    drawn = all-along (λ row. stays row.conference ≡ true) (λ row. has_drawn_local old row.conference row.local ≡ true)
        (λ row. has_drawn_local new row.conference row.local ≡ true) (λ row. kept.local row.local row.conference)
        rows stay whole.drawn;
    tagged = whole.tagged;
    once = whole.once;
    local_once = whole.local_once;
    limited = whole.limited;
  }

  item-held : (texts : List TextRow) (on_text : Bool) (object number : ℕ) →
      (on_text ≡ false → stays object ≡ true) → has_drawn_item texts old on_text object number ≡ true →
      has_drawn_item texts new on_text object number ≡ true
  item-held texts true object number stay is = is
  item-held texts false object number stay is = kept.item number object (stay refl) is

  pub items-held : (rows : List ItemRow) (texts : List TextRow) →
      AllByRecursion (λ row. row.on_text ≡ false → stays row.object ≡ true) rows → AreItems rows texts old →
      AreItems rows texts new
  items-held rows texts stay whole = record {
    drawn = all-along (λ (row : ItemRow). row.on_text ≡ false → stays row.object ≡ true)
        (λ row. has_drawn_item texts old row.on_text row.object row.item.number ≡ true)
        (λ row. has_drawn_item texts new row.on_text row.object row.item.number ≡ true)
        (λ row. item-held texts row.on_text row.object row.item.number) rows stay whole.drawn;
    known = whole.known;
    short = whole.short;
    once = whole.once;
    limited = whole.limited;
  }

-- ---- what hangs on persons that stay
module _ (stays : ℕ → Bool) (old new : List PersonRow) (kept : PersonsStay stays old new) where
  pub texts-numbered : (rows : List TextRow) →
      AllByRecursion (λ row. 0 < row.created_local → stays row.author ≡ true) rows →
      AllByRecursion (IsNumbered old) rows → AllByRecursion (IsNumbered new) rows
  texts-numbered rows stay numbered = all-along (λ row. 0 < row.created_local → stays row.author ≡ true)
      (IsNumbered old) (IsNumbered new)
      (λ row here is some. kept.created row.created_local row.author (here some) (is some)) rows stay numbered

  pub memberships-owned : (rows : List MembershipRow) (reads : List ReadRow) (conferences : List ConferenceRow) →
      AllByRecursion (λ row. stays row.person ≡ true) rows → AreMemberships rows reads old conferences →
      AreMemberships rows reads new conferences
  memberships-owned rows reads conferences stay whole = record {
    person_there = all-along (λ row. stays row.person ≡ true) (λ row. has_person old row.person ≡ true)
        (λ row. has_person new row.person ≡ true) (λ row. kept.there row.person) rows stay whole.person_there;
    conference_there = whole.conference_there;
    once = whole.once;
    limited = whole.limited;
    kept = whole.kept;
    ranges = whole.ranges;
  }

  pub marks-owned : (rows : List MarkRow) (texts : List TextRow) →
      AllByRecursion (λ row. stays row.person ≡ true) rows → AreMarks rows old texts → AreMarks rows new texts
  marks-owned rows texts stay whole = record {
    person_there = all-along (λ row. stays row.person ≡ true) (λ row. has_person old row.person ≡ true)
        (λ row. has_person new row.person ≡ true) (λ row. kept.there row.person) rows stay whole.person_there;
    text_there = whole.text_there;
    once = whole.once;
    limited = whole.limited;
  }

-- ---- what hangs on texts that stay
module _ (stays : ℕ → Bool) (old new : List TextRow) (kept : TextsStay stays old new) where
  pub recipients-written : (rows : List Recipient) (conferences : List ConferenceRow) →
      AllByRecursion (λ row. stays row.text ≡ true) rows → AreRecipients rows old conferences →
      AreRecipients rows new conferences
  recipients-written rows conferences stay whole = record {
    text_there = all-along (λ row. stays row.text ≡ true) (λ row. has_text old row.text ≡ true)
        (λ row. has_text new row.text ≡ true) (λ row. kept.there row.text) rows stay whole.text_there;
    drawn = whole.drawn;
    tagged = whole.tagged;
    once = whole.once;
    local_once = whole.local_once;
    limited = whole.limited;
  }

  pub links-written : (rows : List TextLink) → AllByRecursion (λ row. stays row.child ≡ true) rows →
      AllByRecursion (λ row. stays row.parent ≡ true) rows → AreLinks rows old → AreLinks rows new
  links-written rows child parent whole = record {
    child_there = all-along (λ row. stays row.child ≡ true) (λ row. has_text old row.child ≡ true)
        (λ row. has_text new row.child ≡ true) (λ row. kept.there row.child) rows child whole.child_there;
    parent_there = all-along (λ row. stays row.parent ≡ true) (λ row. has_text old row.parent ≡ true)
        (λ row. has_text new row.parent ≡ true) (λ row. kept.there row.parent) rows parent whole.parent_there;
    once = whole.once;
    limited_from = whole.limited_from;
    limited_into = whole.limited_into;
  }

  pub marks-written : (rows : List MarkRow) (persons : List PersonRow) →
      AllByRecursion (λ row. stays row.text ≡ true) rows → AreMarks rows persons old → AreMarks rows persons new
  marks-written rows persons stay whole = record {
    person_there = whole.person_there;
    text_there = all-along (λ row. stays row.text ≡ true) (λ row. has_text old row.text ≡ true)
        (λ row. has_text new row.text ≡ true) (λ row. kept.there row.text) rows stay whole.text_there;
    once = whole.once;
    limited = whole.limited;
  }

  item-written : (conferences : List ConferenceRow) (on_text : Bool) (object number : ℕ) →
      (on_text ≡ true → stays object ≡ true) → has_drawn_item old conferences on_text object number ≡ true →
      has_drawn_item new conferences on_text object number ≡ true
  item-written conferences true object number stay is = kept.item number object (stay refl) is
  item-written conferences false object number stay is = is

  pub items-written : (rows : List ItemRow) (conferences : List ConferenceRow) →
      AllByRecursion (λ row. row.on_text ≡ true → stays row.object ≡ true) rows → AreItems rows old conferences →
      AreItems rows new conferences
  items-written rows conferences stay whole = record {
    drawn = all-along (λ (row : ItemRow). row.on_text ≡ true → stays row.object ≡ true)
        (λ row. has_drawn_item old conferences row.on_text row.object row.item.number ≡ true)
        (λ row. has_drawn_item new conferences row.on_text row.object row.item.number ≡ true)
        (λ row. item-written conferences row.on_text row.object row.item.number) rows stay whole.drawn;
    known = whole.known;
    short = whole.short;
    once = whole.once;
    limited = whole.limited;
  }

-- ---- all rows, where the conferences, the persons, or the texts alone are changed and stay
module _ (db : Db) (whole : IsWhole db) where
  pub conferences-whole : (new : List ConferenceRow) (next : ℕ) → ConferencesStay all db.conferences new →
      AreConferences new next → IsWhole (record db { conferences = new; next_conference = next })
  conferences-whole new next stay conferences = record {
    conferences = conferences;
    persons = persons-housed all db.conferences new stay db.persons (all-of _ (λ row. refl) db.persons) whole.persons;
    texts = whole.texts;
    memberships = memberships-held all db.conferences new stay db.memberships db.reads db.persons
        (all-of _ (λ row. refl) db.memberships) whole.memberships;
    recipients = recipients-held all db.conferences new stay db.recipients db.texts
        (all-of _ (λ row. refl) db.recipients) whole.recipients;
    links = whole.links;
    marks = whole.marks;
    items = items-held all db.conferences new stay db.items db.texts (all-of _ (λ row on. refl) db.items) whole.items;
  }

  pub persons-whole : (new : List PersonRow) → PersonsStay all db.persons new → ArePersons new db.conferences →
      IsWhole (record db { persons = new })
  persons-whole new stay persons = record {
    conferences = whole.conferences;
    persons = persons;
    texts = record {
      rising = whole.texts.rising;
      drawn = whole.texts.drawn;
      limited = whole.texts.limited;
      short = whole.texts.short;
      numbered = texts-numbered all db.persons new stay db.texts (all-of _ (λ row some. refl) db.texts)
          whole.texts.numbered;
      created_once = whole.texts.created_once;
    };
    memberships = memberships-owned all db.persons new stay db.memberships db.reads db.conferences
        (all-of _ (λ row. refl) db.memberships) whole.memberships;
    recipients = whole.recipients;
    links = whole.links;
    marks = marks-owned all db.persons new stay db.marks db.texts (all-of _ (λ row. refl) db.marks) whole.marks;
    items = whole.items;
  }

  pub texts-whole : (new : List TextRow) (next : ℕ) → TextsStay all db.texts new → AreTexts new next db.persons →
      IsWhole (record db { texts = new; next_text = next })
  texts-whole new next stay texts = record {
    conferences = whole.conferences;
    persons = whole.persons;
    texts = texts;
    memberships = whole.memberships;
    recipients = recipients-written all db.texts new stay db.recipients db.conferences
        (all-of _ (λ row. refl) db.recipients) whole.recipients;
    links = links-written all db.texts new stay db.links (all-of _ (λ row. refl) db.links)
        (all-of _ (λ row. refl) db.links) whole.links;
    marks = marks-written all db.texts new stay db.marks db.persons (all-of _ (λ row. refl) db.marks) whole.marks;
    items = items-written all db.texts new stay db.items db.conferences (all-of _ (λ row on. refl) db.items)
        whole.items;
  }
