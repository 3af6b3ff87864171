-- The rights are the same without what a mask hides, if that is no more than what is hidden from a group.
use mathlib.Core.Path.{fun_ext}
use Rattle.std.proofs.Common.{◌≡◌, ℕ, Bool, true, false, not, ◌==◌, ◌||◌, ◌∷◌, Option, Some, None, refl, ap, ap₂, ◌&&◌}
use Rattle.std.proofs.Common.{◌∙◌, subst, sym, true≢false}
use Rattle.std.specs.Prelude.{IsTrue, is_some, option_map}
use Rattle.std.specs.List.{filter, list_any}
use Rattle.std.specs.Option.{IfSome}
use Rattle.std.proofs.lemmas.Bool.{not_from_true, not_from_false, and_right, or_right}
use Rattle.kom_types.specs.declared.conferences.ConferenceHead.{ConferenceHead}
use Rattle.kom_types.specs.declared.conferences.ConferenceRow.{ConferenceRow}
use Rattle.kom_types.specs.declared.texts.Recipient.{Recipient}
use Rattle.kom_types.specs.tables.Conferences.{head_of, is_secret_protected, is_read_protected}
use Rattle.kom_types.specs.tables.Conferences.{is_secret_conference}
use Rattle.kom_types.specs.tables.Memberships.{is_invitation}
use Rattle.kom_model.specs.declared.viewers.Viewer.{Viewer}
use Rattle.kom_model.specs.Db.{Db, conference_head_of, conference_of, recipients_of}
use Rattle.kom_model.specs.Effects.{IsProtected}
use Rattle.kom_model.specs.Kinds.{is_among}
use Rattle.kom_model.specs.Rights.{is_member, is_active_member, stands_for, supervises, is_let_in, sees}
use Rattle.kom_model.specs.Rights.{reads_conference, reads, reads_by_recipient, is_author, may_submit}
use Rattle.kom_laws.specs.Groups.{Group, IsInGroup, IsOfGroup, is_unseen, is_unread, weak}
use Rattle.kom_laws.specs.masking.Laws.{HidesMore}
use Rattle.kom_laws.specs.masking.Masks.{Mask, masked_db, stays_recipient}
use Rattle.kom_laws.specs.Erasing.{erased_db, mask_of}
use Rattle.kom_laws.specs.Laws.{HasSameRights, IsHiddenSame}
use Rattle.kom_laws.proofs.masking.Rows.{told}
use Rattle.kom_laws.proofs.Rows.{IfSome-found, any-thinned, any-same, any-among}
use Rattle.kom_laws.proofs.masking.Accessors.{head-masked, kind-masked, author-masked}

member-masked : (mask : Mask) (db : Db) (person conference : ℕ) →
    is_member (masked_db mask db) person conference ≡ is_member db person conference
member-masked mask db person conference =
    ap (λ kind. is_some kind) (kind-masked mask db person conference)

active-masked : (mask : Mask) (db : Db) (person conference : ℕ) →
    is_active_member (masked_db mask db) person conference ≡ is_active_member db person conference
active-masked mask db person conference =
    ap (told false (λ kind. not (is_invitation kind))) (kind-masked mask db person conference)

stands-masked : (mask : Mask) (db : Db) (person supervisor : ℕ) →
    stands_for (masked_db mask db) person supervisor ≡ stands_for db person supervisor
stands-masked mask db person supervisor =
    ap (λ active. not (person == 0) && (person == supervisor || active)) (active-masked mask db person supervisor)

let_in-masked : (mask : Mask) (db : Db) (viewer : Viewer) (conference supervisor : ℕ) →
    is_let_in (masked_db mask db) viewer conference supervisor ≡ is_let_in db viewer conference supervisor
let_in-masked mask db viewer conference supervisor =
    ap₂ (λ member stands. viewer.strong || (member || stands || viewer.person == conference))
    (member-masked mask db viewer.person conference) (stands-masked mask db viewer.person supervisor)

-- what a conference's head tells, if it tells the same
head-told : (mask : Mask) (db : Db) (tell tell' : ConferenceHead → Bool) →
    ((head : ConferenceHead) → tell head ≡ tell' head) → (conference : ℕ) →
    told false tell (conference_head_of (masked_db mask db) conference)
    ≡ told false tell' (conference_head_of db conference)
head-told mask db tell tell' same conference =
    ap₂ (λ tell found. told false tell found) (fun_ext same) (head-masked mask db conference)

pub supervises-masked : (mask : Mask) (db : Db) (person conference : ℕ) →
    supervises (masked_db mask db) person conference ≡ supervises db person conference
unfolding supervises
supervises-masked mask db person conference = head-told mask db _ _
    (λ head. stands-masked mask db person head.supervisor) conference

pub sees-masked : (mask : Mask) (db : Db) (viewer : Viewer) (conference : ℕ) →
    sees (masked_db mask db) viewer conference ≡ sees db viewer conference
unfolding sees
sees-masked mask db viewer conference = head-told mask db _ _
    (λ head. ap (λ b. not (is_secret_conference head.kind) || b)
    (let_in-masked mask db viewer conference head.supervisor)) conference

pub reads_conference-masked : (mask : Mask) (db : Db) (viewer : Viewer) (conference : ℕ) →
    reads_conference (masked_db mask db) viewer conference ≡ reads_conference db viewer conference
unfolding reads_conference
reads_conference-masked mask db viewer conference = head-told mask db _ _
    (λ head. ap (λ b. not (is_read_protected head.kind) || b)
    (let_in-masked mask db viewer conference head.supervisor)) conference

may_submit-masked : (mask : Mask) (db : Db) (viewer : Viewer) (conference : ℕ) →
    may_submit (masked_db mask db) viewer conference ≡ may_submit db viewer conference
unfolding may_submit
may_submit-masked mask db viewer conference = head-told mask db _ _
    (λ head. ap₂ (λ active stands. viewer.strong
    || (head.submitters == 0 || viewer.person == head.submitters || active) || stands)
    (active-masked mask db viewer.person head.submitters)
    (stands-masked mask db viewer.person head.supervisor)) conference

-- who is let in where texts are hidden is let in where the conference is
let_in-protected : (secret protected let_in : Bool) → (not secret || protected) ≡ true →
    (not protected || let_in) ≡ true → (not secret || let_in) ≡ true
let_in-protected false protected let_in guarded reads = refl
let_in-protected true true let_in guarded reads = reads
let_in-protected true false let_in guarded reads = absurd (true≢false (sym guarded))

found-protected : (let_in : ConferenceHead → Bool) (found : Option ConferenceRow) →
    IfSome found (λ row. IsTrue (is_secret_protected row.kind)) →
    told false (λ head. not (is_read_protected head.kind) || let_in head) (option_map head_of found) ≡ true →
    told false (λ head. not (is_secret_conference head.kind) || let_in head) (option_map head_of found) ≡ true
found-protected let_in None guarded reads = reads
found-protected let_in (Some row) guarded reads =
    let_in-protected (is_secret_conference row.kind) (is_read_protected row.kind) (let_in (head_of row)) guarded reads

-- who reads the texts of a conference sees it
pub reads-sees : (db : Db) (viewer : Viewer) (conference : ℕ) → IsProtected db →
    reads_conference db viewer conference ≡ true → sees db viewer conference ≡ true
unfolding reads_conference sees conference_head_of conference_of
reads-sees db viewer conference protected reads =
    found-protected (λ head. is_let_in db viewer conference head.supervisor) (conference_of db conference)
    (IfSome-found (λ (row : ConferenceRow). IsTrue (is_secret_protected row.kind)) (λ row. row.number == conference)
    db.conferences protected) reads

-- who looks is a person that looks by a session that is not strong
as_weak : (viewer : Viewer) (may : Viewer → Bool) → viewer.strong ≡ false → may viewer ≡ true →
    may (weak viewer.person) ≡ true
as_weak viewer may not_strong is =
    subst (λ strong. may (record { person = viewer.person; strong = strong }) ≡ true) not_strong is

-- what one of a group sees is not hidden from the group, nor is what one of it reads
pub seen-by : (group : Group) (db : Db) (viewer : Viewer) (conference : ℕ) → IsOfGroup group viewer →
    sees db viewer conference ≡ true → is_unseen group db conference ≡ false
seen-by group db viewer conference of_group is = not_from_true _ (any-among
    (λ person. sees db (weak person) conference) (0 ∷ group.persons) viewer.person of_group.0
    (as_weak viewer (λ viewer. sees db viewer conference) of_group.1 is))

pub read-by : (group : Group) (db : Db) (viewer : Viewer) (text : ℕ) → IsInGroup group viewer →
    reads db viewer text ≡ true → is_unread group db text ≡ false
read-by group db viewer text in_group is = not_from_true _ (any-among
    (λ person. reads db (weak person) text) group.persons viewer.person in_group.0
    (as_weak viewer (λ viewer. reads db viewer text) in_group.1 is))

-- what a wider mask leaves a mask leaves
shown-below : (hides wider : Bool) → (hides ≡ true → wider ≡ true) → wider ≡ false → hides ≡ false
shown-below true wider more shown = absurd (true≢false (sym (more refl) ∙ shown))
shown-below false wider more shown = refl

-- a mask of no more conferences than are unseen
module _ (group : Group) (mask : Mask) (db : Db)
    (below : (number : ℕ) → mask.conference number ≡ true → is_unseen group db number ≡ true)
    (protected : IsProtected db) where
  by_recipient-masked : (viewer : Viewer) (text : ℕ) → IsOfGroup group viewer →
      reads_by_recipient (masked_db mask db) viewer text ≡ reads_by_recipient db viewer text
  unfolding recipients_of
  by_recipient-masked viewer text of_group =
      let test : Recipient → Bool = λ row. row.text == text in
      let pass : Recipient → Bool = λ row. reads_conference db viewer row.conference in
      let same : (row : Recipient) → reads_conference (masked_db mask db) viewer row.conference ≡ pass row =
      λ row. reads_conference-masked mask db viewer row.conference in
      ap (λ pass. list_any pass (filter test (filter (stays_recipient mask) db.recipients))) (fun_ext same)
      ∙ any-thinned pass test (stays_recipient mask)
      (λ row is. not_from_false _ (and_right _ _ (shown-below (mask.conference row.conference) _
      (below row.conference) (seen-by group db viewer row.conference of_group
      (reads-sees db viewer row.conference protected is))))) db.recipients

  reads-masked : (viewer : Viewer) (text : ℕ) → IsOfGroup group viewer →
      reads (masked_db mask db) viewer text ≡ reads db viewer text
  unfolding reads
  reads-masked viewer text of_group =
      ap₂ (λ (found : Option ℕ) (by : Bool).
      told false (λ author. viewer.strong || is_author viewer.person author || by) found)
      (author-masked mask db text) (by_recipient-masked viewer text of_group)

-- what is hidden from a group is a mask of no more than that
no-more : (group : Group) (db : Db) → HidesMore (mask_of group db) (mask_of group db)
no-more group db = record {
  conference = λ number hidden. hidden;
  text = λ number hidden. hidden;
  person = λ number hidden. hidden;
}

pub reads-erased : (group : Group) (db : Db) (viewer : Viewer) (text : ℕ) → IsProtected db →
    IsOfGroup group viewer → reads (erased_db group db) viewer text ≡ reads db viewer text
reads-erased group db viewer text protected of_group =
    reads-masked group (mask_of group db) db (λ number hidden. hidden) protected viewer text of_group

pub rights-erased : (group : Group) (db : Db) (viewer : Viewer) → IsProtected db → IsOfGroup group viewer →
    HasSameRights viewer (erased_db group db) db
rights-erased group db viewer protected of_group = record {
  supervises = supervises-masked (mask_of group db) db;
  sees = sees-masked (mask_of group db) db viewer;
  reads_conference = reads_conference-masked (mask_of group db) db viewer;
  reads = λ text. reads-erased group db viewer text protected of_group;
  may_submit = may_submit-masked (mask_of group db) db viewer;
}

-- a person of a group is one of those for whom what is hidden from it is
weak-of_group : (group : Group) (person : ℕ) → is_among group.persons person ≡ true → IsOfGroup group (weak person)
weak-of_group group person among = (or_right _ _ among, refl)

pub unseen-masked : (group : Group) (mask : Mask) (db : Db) (conference : ℕ) →
    is_unseen group (masked_db mask db) conference ≡ is_unseen group db conference
unseen-masked group mask db conference = ap (λ (test : ℕ → Bool). not (list_any test (0 ∷ group.persons)))
    (fun_ext (λ person. sees-masked mask db (weak person) conference))

pub unread-masked : (group : Group) (mask : Mask) (db : Db) → IsProtected db →
    ((number : ℕ) → mask.conference number ≡ true → is_unseen group db number ≡ true) → (text : ℕ) →
    is_unread group (masked_db mask db) text ≡ is_unread group db text
unread-masked group mask db protected below text = ap not (any-same
    (λ person. reads (masked_db mask db) (weak person) text) (λ person. reads db (weak person) text) group.persons
    (λ person among. reads-masked group mask db below protected (weak person) text
    (weak-of_group group person among)))

pub hidden-masked : (group : Group) (mask : Mask) (db : Db) → IsProtected db → HidesMore mask (mask_of group db) →
    IsHiddenSame group (masked_db mask db) db
hidden-masked group mask db protected below = record {
  unseen = unseen-masked group mask db;
  unread = unread-masked group mask db protected below.conference;
}

pub hidden-erased : (group : Group) (db : Db) → IsProtected db → IsHiddenSame group (erased_db group db) db
hidden-erased group db protected = hidden-masked group (mask_of group db) db protected (no-more group db)
