-- What a caller may see and do, and what its calls read, is the same over two sets of stored rows; and so are guards.
use Rattle.std.proofs.Common.{◌≡◌, ℕ, Bool, true, false, not, ◌==◌, ◌&&◌, Option, Some, None, refl, sym, subst}
use Rattle.std.proofs.Common.{eqb-true, true≢false, inl, inr, List}
use Rattle.std.specs.Prelude.{is_some, bytes_eq}
use Rattle.std.proofs.lemmas.Bool.{or_cases}
use Rattle.kom_types.specs.declared.conferences.ConferenceRow.{ConferenceRow}
use Rattle.kom_types.specs.declared.persons.PersonRow.{PersonRow}
use Rattle.kom_types.specs.declared.seats.Seat.{Seat}
use Rattle.kom_types.specs.Names.{clash}
use Rattle.kom_types.specs.tables.Persons.{is_mighty, password_hash}
use Rattle.kom_model.specs.declared.viewers.Viewer.{Viewer}
use Rattle.kom_model.specs.Db.{Db, person_of, conference_of, conferences_of}
use Rattle.kom_model.specs.Effects.{IsProtected}
use Rattle.kom_model.specs.Rights.{reads, sees}
use Rattle.kom_model.specs.Viewers.{has_might}
use Rattle.kom_model.specs.calls.Call.{Asked, seat_of}
use Rattle.kom_model.specs.calls.Guards.{viewer_at, caller, login_guard, text_guard, conference_guard, taken_by}
use Rattle.kom_model.specs.calls.Guards.{conference_or_none_guard, text_or_none_guard, person_guard, supervisor_guard}
use Rattle.kom_model.specs.calls.Guards.{submit_guard, reads_guard, free_guard, password_guard, agrees}
use Rattle.kom_model.specs.calls.Memberships.{reads_itself}
use Rattle.kom_laws.specs.masking.Masks.{blank_person, blank_conference}
use Rattle.kom_laws.proofs.masking.Rows.{told}
use Rattle.kom_laws.specs.Groups.{Group, IsInGroup, IsOfGroup, weak}
use Rattle.kom_laws.specs.Erasing.{erased_db, mask_of}
use Rattle.kom_laws.specs.Laws.{HasSameRights, IsShownSame, IsToldSame}
use Rattle.kom_laws.proofs.Rights.{rights-erased, reads_conference-masked, seen-by, read-by}
use Rattle.kom_laws.proofs.Shown.{shown-erased}
use Rattle.kom_laws.proofs.Told.{told-erased}
use Rattle.noninterference.specs.outputs.Same.{HasSamePublic, HasSameConference, HasSameText}
use Rattle.noninterference.proofs.outputs.Masked.{public-masked, conference-masked, text-masked}
use Rattle.noninterference.proofs.outputs.Passing.{passed, numbered-passed}
use Rattle.noninterference.proofs.outputs.Rows.{told-alike, find-alike}

-- The rights, what is shown and what is told; what is hidden from nobody; a conference that is seen; and a text that is
-- read, where somebody is logged in.
pub record IsAlikeTo (viewer : Viewer) (one other : Db) : Type 0 where
  pub public : HasSamePublic one other
  pub rights : HasSameRights viewer one other
  pub itself : (person conference : ℕ) → reads_itself one person conference ≡ reads_itself other person conference
  pub shown : IsShownSame viewer one other
  pub told : login_guard viewer ≡ None → IsToldSame viewer one other
  pub conference : (number : ℕ) → sees other viewer number ≡ true → HasSameConference number one other
  pub text : (number : ℕ) → login_guard viewer ≡ None → reads other viewer number ≡ true →
      HasSameText number one other

-- somebody who is logged in is in the group itself
pub logged-in : (group : Group) (viewer : Viewer) → IsOfGroup group viewer → login_guard viewer ≡ None →
    IsInGroup group viewer
logged-in group viewer of_group passes =
    let is : not (viewer.person == 0) ≡ true = passed (not (viewer.person == 0)) 6 0 passes in
    elim (or_cases _ _ of_group.0) [
      | inl zero ↦ absurd (true≢false (sym (subst (λ n. not (n == 0) ≡ true) (sym (eqb-true 0 viewer.person zero)) is)))
      | inr among ↦ (among, of_group.1)
    ]

pub alike-erased : (group : Group) (db : Db) (viewer : Viewer) → IsProtected db → IsOfGroup group viewer →
    IsAlikeTo viewer (erased_db group db) db
alike-erased group db viewer protected of_group = record {
  public = public-masked (mask_of group db) db;
  rights = rights-erased group db viewer protected of_group;
  itself = λ person conference. reads_conference-masked (mask_of group db) db (weak person) conference;
  shown = shown-erased group db viewer of_group;
  told = λ login. told-erased group db viewer (logged-in group viewer of_group login);
  conference = λ number seen.
      conference-masked (mask_of group db) db number (seen-by group db viewer number of_group seen);
  text = λ number login read. text-masked (mask_of group db) db number
      (read-by group db viewer number (logged-in group viewer of_group login) read);
}

-- who looks from a seat
might-same : (one other : Db) → HasSamePublic one other → (person : ℕ) → has_might one person ≡ has_might other person
might-same one other public person =
    let tell : PersonRow → Bool = λ row. is_mighty row.privileges in
    told-alike blank_person tell (λ row. refl) false (person_of one person) (person_of other person)
    (public.person person)

pub viewer-same : (one other : Db) → HasSamePublic one other → (seat : Option Seat) →
    viewer_at one seat ≡ viewer_at other seat
viewer-same one other public None = refl
viewer-same one other public (Some seat) =
    let might = might-same one other public seat.person in
    λ i. record { person = seat.person; strong = seat.level == 255 && might i }

-- the same is asked over other rows
abbrev pub over : Db → Asked → Asked
over db asked = record asked { db = db }

pub caller-same : (asked : Asked) (one : Db) → IsAlikeTo (caller asked) one asked.db →
    caller (over one asked) ≡ caller asked
caller-same asked one alike = viewer-same one asked.db alike.public (seat_of asked)

module _ (viewer : Viewer) (one other : Db) (alike : IsAlikeTo viewer one other) where
  pub text-same : (text : ℕ) → text_guard one viewer text ≡ text_guard other viewer text
  text-same text = rw (alike.rights.reads text) refl

  pub conference-same : (conference : ℕ) →
      conference_guard one viewer conference ≡ conference_guard other viewer conference
  conference-same conference = rw (alike.rights.sees conference) refl

  pub text_or_none-same : (text : ℕ) → text_or_none_guard one viewer text ≡ text_or_none_guard other viewer text
  text_or_none-same text = rw (alike.rights.reads text) refl

  pub conference_or_none-same : (conference : ℕ) →
      conference_or_none_guard one viewer conference ≡ conference_or_none_guard other viewer conference
  conference_or_none-same conference = rw (alike.rights.sees conference) refl

  pub supervisor-same : (number : ℕ) → supervisor_guard one viewer number ≡ supervisor_guard other viewer number
  supervisor-same number = rw (alike.rights.supervises viewer.person number) refl

  pub submit-same : (conference : ℕ) → submit_guard one viewer conference ≡ submit_guard other viewer conference
  submit-same conference = rw (alike.rights.may_submit conference) refl

  pub reads-same : (conference : ℕ) → reads_guard one viewer conference ≡ reads_guard other viewer conference
  reads-same conference = rw (alike.rights.reads_conference conference) refl

  -- what is told of a person that nothing hides
  pub person-told : {Y : Type 0} (none : Y) (tell : PersonRow → Y) → ((row : PersonRow) →
      tell (blank_person row) ≡ tell row) → (person : ℕ) →
      told none tell (person_of one person) ≡ told none tell (person_of other person)
  person-told none tell tells person = told-alike blank_person tell tells none _ _ (alike.public.person person)

  pub there-same : (person : ℕ) → is_some (person_of one person) ≡ is_some (person_of other person)
  there-same person = person-told false (λ row. true) (λ row. refl) person

  -- what is told of a conference that nothing hides
  pub conference-told : {Y : Type 0} (none : Y) (tell : ConferenceRow → Y) → ((row : ConferenceRow) →
      tell (blank_conference row) ≡ tell row) → (number : ℕ) →
      told none tell (conference_of one number) ≡ told none tell (conference_of other number)
  conference-told none tell tells number =
      told-alike blank_conference tell tells none _ _ (alike.public.conference number)

  pub person-same : (person : ℕ) → person_guard one person ≡ person_guard other person
  person-same person = rw (there-same person) refl

  pub password-same : (person : ℕ) (password : List ℕ) →
      password_guard one viewer person password ≡ password_guard other viewer person password
  password-same person password =
      let agreed : agrees one person password ≡ agrees other person password =
      person-told false (λ row. bytes_eq row.hash (password_hash person password)) (λ row. refl) person in
      rw agreed refl

  pub free-same : (number : ℕ) (name : List ℕ) → free_guard one number name ≡ free_guard other number name
  free-same number name =
      let test : ConferenceRow → Bool = λ row. not (row.number == number) && clash row.name name in
      told-alike blank_conference taken_by (λ row. refl) None _ _
      (find-alike blank_conference test (λ row. refl) (conferences_of one) (conferences_of other)
      alike.public.conferences)

-- what a guard that lets pass says
pub seen-passed : (db : Db) (viewer : Viewer) (number : ℕ) → conference_guard db viewer number ≡ None →
    sees db viewer number ≡ true
seen-passed db viewer number passes = numbered-passed (number == 0) (sees db viewer number) 8 9 number passes

pub read-passed : (db : Db) (viewer : Viewer) (number : ℕ) → text_guard db viewer number ≡ None →
    reads db viewer number ≡ true
read-passed db viewer number passes = numbered-passed (number == 0) (reads db viewer number) 15 14 number passes
