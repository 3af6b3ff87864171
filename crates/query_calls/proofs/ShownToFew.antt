-- What is shown to few: a strong session is shown all memberships, a person its own, and who supervises a conference
-- those in it; and one that is not secret is shown with its conference.
use Rattle.std.proofs.Common.{◌≡◌, ℕ, Bool, true, false, not, ◌||◌, ◌&&◌, ◌⊎◌, eqb, List, [], ◌∷◌, filter, Option, Some}
use Rattle.std.proofs.Common.{None, is_some, option_map, refl, sym, subst, ◌∙◌, inl, inr, true≢false}
use Rattle.std.specs.List.{AllByRecursion}
use Rattle.std.proofs.lemmas.Bool.{cond_both, eqb-true, eq-eqb, or_left, or_right, and_from}
use Rattle.kom_types.specs.declared.conferences.ConferenceHead.{ConferenceHead}
use Rattle.kom_types.specs.declared.conferences.ConferenceRow.{ConferenceRow}
use Rattle.kom_types.specs.declared.memberships.MembershipRow.{MembershipRow}
use Rattle.kom_types.specs.tables.Conferences.{head_of, is_secret_conference}
use Rattle.kom_types.specs.tables.Memberships as Memberships
use Rattle.kom_types.specs.tables.Memberships.{is_membership, is_secret_membership}
use Rattle.kom_model.specs.declared.viewers.Viewer.{Viewer}
use Rattle.kom_model.specs.Db.{Db, conference_of, conference_head_of, membership_of, membership_kind_of, memberships_of}
use Rattle.kom_model.specs.Rights.{is_member, is_let_in, belongs, stands_for, supervises, sees}
use Rattle.kom_model.specs.Shown.{shows_membership}
use Rattle.kom_state.specs.Placed.{AreThere}
use Rattle.kom_state.specs.Secrecy.{is_secret_in}
use Rattle.kom_state.proofs.Placed.{all_own}
use Rattle.kom_state.proofs.TableRows.{all_both, all_weaker}

-- ---- what is shown
-- a test of a conference that is there
there_passes : (tell : ConferenceHead → Bool) → ((head : ConferenceHead) → tell head ≡ true) →
    (found : Option ConferenceRow) → is_some found ≡ true →
    elim (option_map head_of found) [ None ↦ false | Some head ↦ tell head ] ≡ true
there_passes tell passes None there = absurd (true≢false (sym there))
there_passes tell passes (Some row) there = passes (head_of row)

kind_there : (found : Option MembershipRow) → is_some found ≡ true →
    is_some (option_map (λ row. row.kind) found) ≡ true
kind_there None there = there
kind_there (Some row) there = refl

is_member-there : (db : Db) (person conference : ℕ) → is_some (membership_of db person conference) ≡ true →
    is_member db person conference ≡ true
unfolding membership_kind_of
is_member-there db person conference there = kind_there (membership_of db person conference) there

module _ (db : Db) (viewer : Viewer) (conference : ℕ)
    (there : is_some (conference_of db conference) ≡ true) where
  -- who is let in sees a conference that is there
  sees-let_in : ((supervisor : ℕ) → is_let_in db viewer conference supervisor ≡ true) →
      sees db viewer conference ≡ true
  unfolding sees conference_head_of
  sees-let_in let_in =
      there_passes (λ head. not (is_secret_conference head.kind) || is_let_in db viewer conference head.supervisor)
      (λ head. or_right (not (is_secret_conference head.kind)) (is_let_in db viewer conference head.supervisor)
      (let_in head.supervisor))
      (conference_of db conference) there

  pub sees-strong : viewer.strong ≡ true → sees db viewer conference ≡ true
  sees-strong strong =
      sees-let_in (λ supervisor. or_left viewer.strong (belongs db viewer.person conference supervisor) strong)

  -- everybody sees one that is not secret
  pub sees-plain : is_secret_in db conference ≡ false → sees db viewer conference ≡ true
  unfolding sees conference_head_of
  sees-plain plain = by (conference_of db conference) there plain
    where
      by : (found : Option ConferenceRow) → is_some found ≡ true →
          elim found [ None ↦ false | Some row ↦ is_secret_conference row.kind ] ≡ false →
          elim (option_map head_of found) [
            | None ↦ false
            | Some head ↦ not (is_secret_conference head.kind) || is_let_in db viewer conference head.supervisor
          ] ≡ true
      by None there plain = absurd (true≢false (sym there))
      by (Some row) there plain = rw plain refl

  sees-member : is_some (membership_of db viewer.person conference) ≡ true → sees db viewer conference ≡ true
  sees-member member =
      sees-let_in (λ supervisor. or_right viewer.strong (belongs db viewer.person conference supervisor)
      (or_left _ (eqb viewer.person conference)
      (or_left _ (stands_for db viewer.person supervisor) (is_member-there db viewer.person conference member))))

-- the tests of a membership that is shown to few
strong_alike : (seen secret strong own by_person by_conference : Bool) → strong ≡ true →
    (seen && (not secret || strong || own || by_person || by_conference)) ≡ seen
strong_alike true true strong own by_person by_conference is = rw is refl
strong_alike true false strong own by_person by_conference is = refl
strong_alike false secret strong own by_person by_conference is = refl

own_alike : (seen secret strong own by_person by_conference : Bool) → own ≡ true →
    (seen && (not secret || strong || own || by_person || by_conference)) ≡ seen
own_alike true true true own by_person by_conference is = refl
own_alike true true false own by_person by_conference is = rw is refl
own_alike true false strong own by_person by_conference is = refl
own_alike false secret strong own by_person by_conference is = refl

supervisor_alike : (seen others by_conference : Bool) → by_conference ≡ true →
    (seen && (others || by_conference)) ≡ seen
supervisor_alike true others by_conference is = or_right others by_conference is
supervisor_alike false others by_conference is = refl

plain_alike : (seen secret strong own by_person by_conference : Bool) → secret ≡ false →
    (seen && (not secret || strong || own || by_person || by_conference)) ≡ seen
plain_alike true true strong own by_person by_conference is = absurd (true≢false is)
plain_alike true false strong own by_person by_conference is = refl
plain_alike false secret strong own by_person by_conference is = refl

module _ (db : Db) (viewer : Viewer) (person conference kind : ℕ) where
  -- a strong session is shown all memberships of a conference, or none, and so is who supervises it
  pub shows-strong : viewer.strong ≡ true →
      shows_membership db viewer person conference kind ≡ sees db viewer conference
  unfolding shows_membership
  shows-strong strong =
      strong_alike (sees db viewer conference) (is_secret_membership kind) viewer.strong (eqb viewer.person person)
      (supervises db viewer.person person) (supervises db viewer.person conference) strong

  pub shows-supervised : supervises db viewer.person conference ≡ true →
      shows_membership db viewer person conference kind ≡ sees db viewer conference
  unfolding shows_membership
  shows-supervised by =
      supervisor_alike (sees db viewer conference)
      (not (is_secret_membership kind) || viewer.strong || eqb viewer.person person
      || supervises db viewer.person person)
      (supervises db viewer.person conference) by

  pub shows-plain : is_secret_membership kind ≡ false →
      shows_membership db viewer person conference kind ≡ sees db viewer conference
  unfolding shows_membership
  shows-plain plain =
      plain_alike (sees db viewer conference) (is_secret_membership kind) viewer.strong (eqb viewer.person person)
      (supervises db viewer.person person) (supervises db viewer.person conference) plain

  shows-own : eqb viewer.person person ≡ true →
      shows_membership db viewer person conference kind ≡ sees db viewer conference
  unfolding shows_membership
  shows-own own =
      own_alike (sees db viewer conference) (is_secret_membership kind) viewer.strong (eqb viewer.person person)
      (supervises db viewer.person person) (supervises db viewer.person conference) own

-- ---- the memberships of a person
-- a membership of the person, that is found by its conference
abbrev pub IsOwn : List MembershipRow → ℕ → MembershipRow → Type 0
IsOwn rows person row =
    (row.person ≡ person) × (is_some (Memberships.membership_of person row.conference rows) ≡ true)

found_first : (person conference : ℕ) (first : MembershipRow) (rows : List MembershipRow) →
    is_membership person conference first ≡ true ⊎
    is_some (Memberships.membership_of person conference rows) ≡ true →
    is_some (Memberships.membership_of person conference (first ∷ rows)) ≡ true
found_first person conference first rows (inl here) = rw here refl
found_first person conference first rows (inr later) =
    cond_both (is_membership person conference first) (Some first) (Memberships.membership_of person conference rows)
    (λ found. is_some found ≡ true) (λ _. refl) (λ _. later)

own_rows : (person : ℕ) (rows : List MembershipRow) →
    AllByRecursion (IsOwn rows person) (filter (λ row. eqb row.person person) rows)
own_rows person [] = tt
own_rows person (first ∷ rows) =
    let later : AllByRecursion (IsOwn (first ∷ rows) person) (filter (λ row. eqb row.person person) rows) =
    all_weaker (IsOwn rows person) (IsOwn (first ∷ rows) person)
    (λ row own. (own.0, found_first person row.conference first rows (inr own.1)))
    (filter (λ row. eqb row.person person) rows) (own_rows person rows) in
    cond_both (eqb first.person person) (first ∷ filter (λ row. eqb row.person person) rows)
    (filter (λ row. eqb row.person person) rows) (AllByRecursion (IsOwn (first ∷ rows) person))
    (λ same. (
      (
        eqb-true _ _ same,
        found_first person first.conference first rows
            (inl (and_from _ _ same (eq-eqb first.conference first.conference refl))),
      ),
      later,
    ))
    (λ _. later)

pub are_own : (db : Db) (person : ℕ) →
    AllByRecursion (λ row. (row.person ≡ person) × (is_some (membership_of db person row.conference) ≡ true))
    (memberships_of db person)
unfolding membership_of memberships_of
are_own db person = all_own (IsOwn db.memberships person) person db.memberships (own_rows person db.memberships)

module _ (db : Db) (viewer : Viewer) (person : ℕ) (there : AreThere db person) where
  -- what is known of each membership of the person
  abbrev pub IsKnown : MembershipRow → Type 0
  IsKnown row = ((row.person ≡ person) × (is_some (membership_of db person row.conference) ≡ true))
      × (is_some (conference_of db row.conference) ≡ true)

  pub all_known : AllByRecursion IsKnown (memberships_of db person)
  all_known =
      all_both (λ row. (row.person ≡ person) × (is_some (membership_of db person row.conference) ≡ true))
      (λ row. is_some (conference_of db row.conference) ≡ true) (memberships_of db person) (are_own db person) there

  abbrev pub IsShown : MembershipRow → Type 0
  IsShown row = shows_membership db viewer row.person row.conference row.kind ≡ true

  pub shown_strong : viewer.strong ≡ true → (row : MembershipRow) → IsKnown row → IsShown row
  shown_strong strong row known =
      shows-strong db viewer row.person row.conference row.kind strong
      ∙ sees-strong db viewer row.conference known.1 strong

  pub shown_own : eqb viewer.person person ≡ true → (row : MembershipRow) → IsKnown row → IsShown row
  shown_own same row known =
      let viewer_is : viewer.person ≡ person = eqb-true _ _ same in
      shows-own db viewer row.person row.conference row.kind (eq-eqb _ _ (viewer_is ∙ sym known.0.0))
      ∙ sees-member db viewer row.conference known.1
      (subst (λ one. is_some (membership_of db one row.conference) ≡ true) (sym viewer_is) known.0.1)
