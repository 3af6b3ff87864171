-- What the calls that change memberships come to fits.
use Rattle.std.proofs.Common.{◌≡◌, ℕ, ◌+◌, ◌-◌, ◌≤◌, true, false, cond, not, ◌==◌, ◌||◌, ◌&&◌, List, [], ◌∷◌}
use Rattle.std.proofs.Common.{◌++◌, length, Option, Some, None, refl, sym, ◌∙◌, inl, inr, arith, eqb-true}
use Rattle.std.proofs.Common.{nat_lt, nat_le, ap}
use Rattle.std.specs.Prelude.{is_some, bit_or, option_map}
use Rattle.std.specs.List.{AllByRecursion, find}
use Rattle.std.proofs.lemmas.Bool.{cases_Bool, and_parts, and_from, or_left, or_right, le-leb, eqb-false}
use Rattle.std.proofs.lemmas.Bool.{not-true}
use Rattle.kom_types.specs.declared.limits.TheConstants.{MOST_MEMBERSHIPS}
use Rattle.kom_types.specs.declared.errors.TheConstants as error
use Rattle.kom_types.specs.declared.effects.Counter.TheVariants as counter
use Rattle.kom_types.specs.declared.effects.Effect.{Effect}
use Rattle.kom_types.specs.declared.effects.Effect.TheVariants as effect
use Rattle.kom_types.specs.declared.memberships.MembershipRow.{MembershipRow}
use Rattle.kom_types.specs.declared.memberships.ReadRange.{ReadRange}
use Rattle.kom_types.specs.tables.Memberships.{is_membership}
use Rattle.read_ranges.specs.Changed.{rise_after, up_to, mark_unread, all_marked, size_of}
use Rattle.kom_model.specs.declared.viewers.Viewer.{Viewer}
use Rattle.kom_model.specs.Db.{Db, conference_of, person_of, membership_of, membership_kind_of, memberships_of}
use Rattle.kom_model.specs.Effects.{fits, after_effect, all_fit}
use Rattle.kom_model.specs.Rights.{is_member}
use Rattle.kom_model.specs.Shown.{shows_membership}
use Rattle.kom_model.specs.Whole.{IsWhole, RiseApart}
use Rattle.kom_model.specs.State.{AreSeated}
use Rattle.kom_model.specs.calls.Call.{Asked}
use Rattle.kom_model.specs.calls.Guards.{Guard, caller, login_guard, conference_guard, person_guard, supervisor_guard}
use Rattle.kom_model.specs.calls.Guards.{unless}
use Rattle.kom_model.specs.calls.Memberships.{reader_guards, reads_now, highest_of, drawn_local_guard, ranges_guards}
use Rattle.kom_model.specs.calls.Memberships.{range_guards, set_unread, set_last_read, set_read_ranges, sub_member}
use Rattle.kom_model.specs.calls.Memberships.{row_guard, shows_row, may_end, add_member, set_membership_type}
use Rattle.kom_model.specs.calls.Memberships.{set_member}
use Rattle.kom_model.specs.calls.Memberships.{secret_guard, joins_guards, may_join, is_near, joins}
use Rattle.kom_model.specs.calls.Memberships.{had_read, mark_as_read, mark_as_unread, local_guards}
use Rattle.kom_model.specs.calls.Memberships.{all_locals_guards}
use Rattle.kom_laws.proofs.fitting.Guards.{AllPass, one-fits, all-pass, pass-both, passed, conference-there}
use Rattle.kom_laws.proofs.fitting.Guards.{person-there}
use Rattle.kom_laws.proofs.fitting.Guards.{member-there, caller-there}
use Rattle.kom_laws.proofs.fitting.Ranges.{unmarked-rise, all_marked-rise, rise-tested, read-rises}
use Rattle.kom_laws.proofs.fitting.Sessions.{counts-fit}

-- ---- ranges
up_to-rises : (n : ℕ) → rise_after 0 (up_to n) ≡ true
up_to-rises n = elim (cases_Bool (n == 0)) [
  | inl zero ↦ rw zero refl
  | inr some ↦
      let differ = eqb-false n 0 some in
      let least : nat_le 1 n ≡ true = le-leb 1 n (omega (arith, differ)) in
      rw some (rw least refl)
]

ranges-rise : (highest place end : ℕ) (ranges : List ReadRange) → AllPass (ranges_guards highest place end ranges) →
    rise_after end ranges ≡ true
ranges-rise highest place end [] pass = refl
ranges-rise highest place end (one ∷ ranges) pass =
    let both = pass-both (range_guards highest place end one) (ranges_guards highest
    (place + 1) one.last ranges) pass in
    let valid = passed (not (one.first == 0) && nat_le one.first one.last) _ _ both.0.0 in
    let after = passed (nat_lt end one.first) _ _ both.0.1.0 in
    and_from _ _ (and_from _ _ after (and_parts (not (one.first == 0)) _ valid).1)
    (ranges-rise highest (place + 1) one.last ranges both.1)

-- ---- a membership that is found
found-pair : (person conference : ℕ) (rows : List MembershipRow) (row : MembershipRow) →
    find (is_membership person conference) rows ≡ Some row → (row.person ≡ person) × (row.conference ≡ conference)
found-pair person conference [] row found = absurd cc
found-pair person conference (first ∷ rows) row found =
    elim (cases_Bool (is_membership person conference first)) [
      | inl here ↦
          let same : first ≡ row = let some : Some first ≡ Some row = rw here at found in cc in
          let parts = and_parts (first.person == person) (first.conference == conference) here in (
            ap (λ (row : MembershipRow). row.person) (sym same) ∙ eqb-true _ _ parts.0,
            ap (λ (row : MembershipRow). row.conference) (sym same) ∙ eqb-true _ _ parts.1,
          )
      | inr there ↦ found-pair person conference rows row (rw there at found)
    ]

shown-there : (db : Db) (caller : Viewer) (person conference : ℕ) → shows_row db caller person conference ≡ true →
    is_some (membership_of db person conference) ≡ true
unfolding membership_kind_of
shown-there db caller person conference is = by (membership_of db person conference) is where
  by : (found : Option MembershipRow) →
      (elim (option_map (λ (row : MembershipRow). row.kind) found) [
        | None ↦ false
        | Some kind ↦ shows_membership db caller person conference kind
      ]) ≡ true → is_some found ≡ true
  by None is = is
  by (Some row) is = refl

module _ (asked : Asked) where
  read-fits : (conference : ℕ) (ranges : List ReadRange) → AllPass (reader_guards asked conference) →
      rise_after 0 ranges ≡ true → all_fit (reads_now asked conference ranges ∷ []) asked.db ≡ true
  unfolding fits
  read-fits conference ranges pass rise = one-fits (reads_now asked conference ranges) asked.db
      (and_from _ _ (member-there asked.db (caller asked).person conference
      (passed (is_member asked.db (caller asked).person conference) _ conference pass.1.1.0)) rise)

  pub set_unread-fits : (conference count : ℕ) → (set_unread asked conference count).early ≡ None →
      all_fit (set_unread asked conference count).rest.effects asked.db ≡ true
  set_unread-fits conference count passes =
      read-fits conference (up_to (highest_of asked.db conference - count))
      (all-pass (reader_guards asked conference) passes) (up_to-rises (highest_of asked.db conference - count))

  pub set_last_read-fits : (conference local : ℕ) → (set_last_read asked conference local).early ≡ None →
      all_fit (set_last_read asked conference local).rest.effects asked.db ≡ true
  set_last_read-fits conference local passes =
      let others : List Guard = drawn_local_guard (highest_of asked.db conference) local ∷ [] in
      let pass = all-pass (reader_guards asked conference ++ others) passes in
      read-fits conference (up_to local) (pass-both (reader_guards asked conference) others pass).0 (up_to-rises local)

  pub set_read_ranges-fits : (conference : ℕ) (ranges : List ReadRange) →
      (set_read_ranges asked conference ranges).early ≡ None →
      all_fit (set_read_ranges asked conference ranges).rest.effects asked.db ≡ true
  set_read_ranges-fits conference ranges passes =
      let others : List Guard = ranges_guards (highest_of asked.db conference) 0 0 ranges in
      let pass = all-pass (reader_guards asked conference ++ others) passes in
      let both = pass-both (reader_guards asked conference) others pass in
      read-fits conference ranges both.0 (ranges-rise (highest_of asked.db conference) 0 0 ranges both.1)

  had-read : IsWhole asked.db → (conference : ℕ) → RiseApart 1 (had_read asked conference)
  had-read whole conference = read-rises asked.db (caller asked).person conference whole

  pub mark_as_unread-fits : (conference local : ℕ) → IsWhole asked.db →
      (mark_as_unread asked conference local).early ≡ None →
      all_fit (mark_as_unread asked conference local).rest.effects asked.db ≡ true
  mark_as_unread-fits conference local whole passes =
      let others : List Guard = local_guards (highest_of asked.db conference) local in
      let pass = all-pass (reader_guards asked conference ++ others) passes in
      read-fits conference (mark_unread local (had_read asked conference))
      (pass-both (reader_guards asked conference) others pass).0
      (rise-tested _ (unmarked-rise local (had_read asked conference) (had-read whole conference)))

  -- local numbers that pass are some
  some-locals : (highest : ℕ) (locals : List ℕ) → AllPass (all_locals_guards highest locals) →
      AllByRecursion (λ n. 1 ≤ n) locals
  some-locals highest [] pass = tt
  some-locals highest (local ∷ locals) pass =
      let both = pass-both (local_guards highest local) (all_locals_guards highest locals) pass in
      let some = eqb-false local 0 (not-true _ (passed (not (local == 0)) _ 0 both.0.0)) in
      (omega (arith, some), some-locals highest locals both.1)

  pub mark_as_read-fits : (conference : ℕ) (locals : List ℕ) → IsWhole asked.db → AreSeated asked.db asked.seats →
      (mark_as_read asked conference locals).early ≡ None →
      all_fit (mark_as_read asked conference locals).rest.effects asked.db ≡ true
  unfolding fits after_effect person_of
  mark_as_read-fits conference locals whole seated passes =
      let others : List Guard = all_locals_guards (highest_of asked.db conference) locals in
      let pass = all-pass (reader_guards asked conference ++ others) passes in
      let both = pass-both (reader_guards asked conference) others pass in
      let ranges = all_marked locals (had_read asked conference) in
      let what : Effect = reads_now asked conference ranges in
      let fit : fits what asked.db ≡ true = and_from _ _ (member-there asked.db (caller asked).person conference
      (passed (is_member asked.db (caller asked).person conference) _ conference both.0.1.1.0))
      (rise-tested ranges (all_marked-rise locals (had_read asked conference)
      (some-locals (highest_of asked.db conference) locals both.1) (had-read whole conference))) in
      rw fit (counts-fit (after_effect what asked.db) (caller asked).person counter.ReadTexts
      (size_of ranges - size_of (had_read asked conference)) (caller-there asked seated both.0.0))

  pub sub_member-fits : (conference person : ℕ) → (sub_member asked conference person).early ≡ None →
      all_fit (sub_member asked conference person).rest.effects asked.db ≡ true
  unfolding fits
  sub_member-fits conference person passes =
      let pass = all-pass (login_guard (caller asked) ∷ conference_guard asked.db (caller asked) conference
      ∷ person_guard asked.db person ∷ row_guard asked.db (caller asked) person conference
      ∷ unless (may_end asked.db (caller asked) conference person) error.PERMISSION_DENIED conference ∷ []) passes in
      one-fits (effect.MemberGone person conference) asked.db (shown-there asked.db (caller asked) person conference
      (passed (shows_row asked.db (caller asked) person conference) _ conference pass.1.1.1.0))

  -- a membership of a person in a conference, which are there, where it is there or there is room
  member-fits : (person conference place priority by at kind : ℕ) → is_some (person_of asked.db person) ≡ true →
      is_some (conference_of asked.db conference) ≡ true →
      (is_some (membership_of asked.db person conference)
      || nat_lt (length (memberships_of asked.db person)) MOST_MEMBERSHIPS) ≡ true →
      all_fit (effect.MemberSet person conference place priority by at kind ∷ []) asked.db ≡ true
  unfolding fits
  member-fits person conference place priority by at kind one other room =
      one-fits (effect.MemberSet person conference place priority by at kind) asked.db
      (and_from _ _ (and_from _ _ one other) room)

  -- one that is there is set again
  again-fits : (person conference place priority kind : ℕ) (row : MembershipRow) →
      membership_of asked.db person conference ≡ Some row → is_some (person_of asked.db person) ≡ true →
      is_some (conference_of asked.db conference) ≡ true →
      all_fit (set_member row priority place kind ∷ []) asked.db ≡ true
  unfolding membership_of
  again-fits person conference place priority kind row found one other =
      let pair = found-pair person conference asked.db.memberships row found in
      let there : is_some (membership_of asked.db row.person row.conference) ≡ true =
      rw (pair.0, pair.1) (ap is_some found) in
      member-fits row.person row.conference place priority row.added_by row.added_at kind
      (rw pair.0 one) (rw pair.1 other) (or_left _ _ there)

  pub set_membership_type-fits : (person conference kind : ℕ) →
      (set_membership_type asked person conference kind).early ≡ None →
      all_fit (set_membership_type asked person conference kind).rest.effects asked.db ≡ true
  set_membership_type-fits person conference kind passes =
      let pass = all-pass (login_guard (caller asked) ∷ person_guard asked.db person
      ∷ conference_guard asked.db (caller asked) conference ∷ row_guard asked.db (caller asked) person conference
      ∷ supervisor_guard asked.db (caller asked) person ∷ secret_guard asked.db conference kind ∷ []) passes in
      by (membership_of asked.db person conference) refl (person-there asked.db person pass.1.0)
      (conference-there asked.db (caller asked) conference pass.1.1.0) where
        by : (found : Option MembershipRow) → membership_of asked.db person conference ≡ found →
            is_some (person_of asked.db person) ≡ true → is_some (conference_of asked.db conference) ≡ true →
            all_fit (elim found [
              | None ↦ []
              | Some row ↦ set_member row row.priority row.position kind ∷ []
            ]) asked.db ≡ true
        by None found one other = refl
        by (Some row) found one other = again-fits person conference row.position row.priority kind row found one other

  pub add_member-fits : (conference person priority place kind : ℕ) →
      (add_member asked conference person priority place kind).early ≡ None →
      all_fit (add_member asked conference person priority place kind).rest.effects asked.db ≡ true
  add_member-fits conference person priority place kind passes =
      let pass = all-pass (login_guard (caller asked) ∷ conference_guard asked.db (caller asked) conference
      ∷ person_guard asked.db person ∷ secret_guard asked.db conference kind
      ∷ joins_guards asked.db (caller asked) person conference) passes in
      by (membership_of asked.db person conference) refl (person-there asked.db person pass.1.1.0)
      (conference-there asked.db (caller asked) conference pass.1.0) (room pass.1.1.1.1) where
        room : AllPass (joins_guards asked.db (caller asked) person conference) →
            (is_some (membership_of asked.db person conference)
            || nat_lt (length (memberships_of asked.db person)) MOST_MEMBERSHIPS) ≡ true
        room pass = elim (cases_Bool (is_member asked.db person conference)) [
          | inl member ↦ or_left _ _ (member-there asked.db person conference member)
          | inr apart ↦
              let new : AllPass
              (unless (may_join asked.db (caller asked) person conference) error.ACCESS_DENIED conference
              ∷ unless (nat_lt (length (memberships_of asked.db person)) MOST_MEMBERSHIPS)
              error.TEMPORARY_FAILURE person
              ∷ []) = rw apart at pass in
              or_right _ _ (passed (nat_lt (length (memberships_of asked.db person)) MOST_MEMBERSHIPS) _ person new.1.0)
        ]

        by : (found : Option MembershipRow) → membership_of asked.db person conference ≡ found →
            is_some (person_of asked.db person) ≡ true → is_some (conference_of asked.db conference) ≡ true →
            (is_some (membership_of asked.db person conference)
            || nat_lt (length (memberships_of asked.db person)) MOST_MEMBERSHIPS) ≡ true →
            all_fit (elim found [
              | None ↦ joins asked person conference priority place kind ∷ []
              | Some row ↦ cond (is_near asked.db (caller asked) person) (set_member row priority place kind ∷ []) []
            ]) asked.db ≡ true
        by None found one other room = member-fits person conference place priority (caller asked).person asked.moment
            (cond (is_near asked.db (caller asked) person) kind (bit_or kind 128)) one other room
        by (Some row) found one other room = elim (cases_Bool (is_near asked.db (caller asked) person)) [
          | inl near ↦ rw near (again-fits person conference place priority kind row found one other)
          | inr far ↦ rw far refl
        ]
