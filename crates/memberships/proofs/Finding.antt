-- What look-ups in a table find: of both, and at a place of a person or of a conference.
use Rattle.std.proofs.Common.{◌≡◌, ℕ, ◌<◌, ◌≤◌, true, false, eqb, nat_eq, List, [], length, get_or, filter, Option}
use Rattle.std.proofs.Common.{Some, None, is_some, option_map, unwrap_or, slice_get, position, refl, sym, ◌∙◌, ap}
use Rattle.std.specs.List.{IsDistinct}
use Rattle.std.specs.Set.{is_member}
use Rattle.std.proofs.lemmas.Bool.{eqb-true, eq-eqb, true≢false, false≢true}
use Rattle.std.proofs.lemmas.List.{length-map}
use Rattle.std.proofs.lemmas.Map.Keys.{any_passes_from_place}
use Rattle.std.proofs.lemmas.Option.{same_Some, none-some, slice_get-map, slice_get_past, slice_get_read}
use Rattle.kom_types.specs.tables.Memberships.{membership_of, members_of, memberships_of}
use Rattle.row_slots.proofs.Members.{position-place}
use Rattle.memberships.specs.declared.kept.Kept.{Kept}
use Rattle.memberships.specs.Entries.{Key, Entry, kept_row, place_of, row_of, in_turn, rows_of, reads_of, kept_at}
use Rattle.memberships.specs.Entries.{turn_of}
use Rattle.memberships.specs.Keeping.{IsTable}
use Rattle.memberships.proofs.Leaving.{is_person}
use Rattle.memberships.proofs.Pairs.{all_filter, all_at, filter_passes}
use Rattle.memberships.proofs.Order.{length-ordered}
use Rattle.memberships.proofs.Places.{place_at}
use Rattle.memberships.proofs.Turns.{turn, AreInTurn, in_turn_is, all_in_turn}
use Rattle.memberships.proofs.Viewing.{blank, row_for, membership, members, memberships}

-- an element of a list that is another
pub element_of : (xs ys : List ℕ) (place x : ℕ) → ys ≡ xs → place < length ys → x ≡ get_or ys place x →
    slice_get xs place ≡ Some x
element_of xs ys place x same within is =
    ap (λ l. slice_get l place) (sym same) ∙ slice_get_read ys (length ys) place x refl within is

pub none_of : (xs ys : List ℕ) (place : ℕ) → ys ≡ xs → length ys ≤ place → slice_get xs place ≡ None
none_of xs ys place same past = ap (λ l. slice_get l place) (sym same) ∙ slice_get_past ys place past

-- what is kept where something is, and where nothing is
pub none_kept : (o : Option Kept) → is_some o ≡ false → o ≡ None
none_kept None none = refl
none_kept (Some v) none = absurd (true≢false none)

pub some_kept : (o : Option Kept) → is_some o ≡ true → (v : Kept) × (o ≡ Some v)
some_kept None there = absurd (false≢true there)
some_kept (Some v) there = (v, refl)

module _ (es : List Entry) (next : ℕ) (conferences persons : ℕ → List ℕ)
    (table : IsTable es next conferences persons) where
  pub found : (p c : ℕ) (v : Kept) → kept_at (p, c) es ≡ Some v →
      membership_of p c (rows_of conferences es) ≡ Some (kept_row p c (place_of c (conferences p)) v)
  found p c v there = membership es next conferences persons table p c
      ∙ ap (option_map (λ kept. row_of conferences ((p, c), kept))) there

  pub not_found : (p c : ℕ) → kept_at (p, c) es ≡ None → membership_of p c (rows_of conferences es) ≡ None
  not_found p c none =
      membership es next conferences persons table p c
      ∙ ap (option_map (λ kept. row_of conferences ((p, c), kept))) none

  pub is_there : (p c : ℕ) → is_some (membership_of p c (rows_of conferences es)) ≡ is_some (kept_at (p, c) es)
  is_there p c = ap is_some (membership es next conferences persons table p c) ∙ mapped (kept_at (p, c) es)
    where
      mapped : (o : Option Kept) → is_some (option_map (λ kept. row_of conferences ((p, c), kept)) o) ≡ is_some o
      mapped None = refl
      mapped (Some v) = refl

  pub absent_kept : (p c : ℕ) → membership_of p c (rows_of conferences es) ≡ None → kept_at (p, c) es ≡ None
  absent_kept p c none = none_kept (kept_at (p, c) es) (sym (is_there p c) ∙ ap is_some none)

  pub there_kept : (p c : ℕ) → is_some (membership_of p c (rows_of conferences es)) ≡ true →
      (v : Kept) × (kept_at (p, c) es ≡ Some v)
  there_kept p c there = some_kept (kept_at (p, c) es) (sym (is_there p c) ∙ there)

  pub rows_count : length (rows_of conferences es) ≡ length es
  unfolding rows_of in_turn
  rows_count = length-map (in_turn es) (row_of conferences) ∙ length-ordered turn es

  -- what a search in the list of a person finds
  pub place_found : (p c : ℕ) (v : Kept) → kept_at (p, c) es ≡ Some v →
      position (nat_eq c) (conferences p) ≡ Some (place_of c (conferences p))
  place_found p c v there = position-place c (conferences p) (table.listed p c ∙ ap is_some there)

  -- ---- at a place of a person

  person_place : (p place : ℕ) →
      slice_get (memberships_of p (rows_of conferences es)) place
      ≡ option_map (row_for es next conferences persons table p) (slice_get (conferences p) place)
  person_place p place =
      ap (λ l. slice_get l place) (memberships es next conferences persons table p)
      ∙ slice_get-map (row_for es next conferences persons table p) (conferences p) place

  pub person_none : (p place : ℕ) → slice_get (conferences p) place ≡ None →
      slice_get (memberships_of p (rows_of conferences es)) place ≡ None
  person_none p place none = person_place p place ∙ ap (option_map (row_for es next conferences persons table p)) none

  pub person_kept : (p place c : ℕ) → slice_get (conferences p) place ≡ Some c → is_some (kept_at (p, c) es) ≡ true
  person_kept p place c at =
      sym (table.listed p c) ∙ any_passes_from_place (nat_eq c) (conferences p) place c at (eq-eqb c c refl)

  pub person_found : (p place c : ℕ) (v : Kept) → slice_get (conferences p) place ≡ Some c →
      kept_at (p, c) es ≡ Some v →
      slice_get (memberships_of p (rows_of conferences es)) place ≡ Some (kept_row p c place v)
  person_found p place c v at there =
      person_place p place ∙ ap (option_map (row_for es next conferences persons table p)) at
      ∙ (λ i. Some (kept_row p c (place_at (conferences p) place c (table.once p) at i) (unwrap_or (there i) blank)))

  -- ---- at a place of a conference

  abbrev in_conference : ℕ → List Entry
  in_conference c = filter (λ e. eqb e.0.1 c) (in_turn es)

  turns : AreInTurn (in_turn es) (λ key. kept_at key es)
  turns = in_turn_is es table.unique table.apart

  members_place : (c place : ℕ) →
      slice_get (members_of c (rows_of conferences es)) place
      ≡ option_map (row_of conferences) (slice_get (in_conference c) place)
  members_place c place =
      ap (λ l. slice_get l place) (members es next conferences persons table c)
      ∙ slice_get-map (row_of conferences) (in_conference c) place

  pub persons_place : (c place : ℕ) →
      slice_get (persons c) place ≡ option_map (λ e. e.0.0) (slice_get (in_conference c) place)
  persons_place c place =
      ap (λ l. slice_get l place) (table.in_order c) ∙ slice_get-map (λ (e : Entry). e.0.0) (in_conference c) place

  pub conference_none : (c place : ℕ) → slice_get (persons c) place ≡ None →
      slice_get (members_of c (rows_of conferences es)) place ≡ None
  conference_none c place none = by (slice_get (in_conference c) place) refl
    where
      by : (o : Option Entry) → slice_get (in_conference c) place ≡ o →
          slice_get (members_of c (rows_of conferences es)) place ≡ None
      by None e = members_place c place ∙ ap (option_map (row_of conferences)) e
      by (Some entry) e = absurd
          (none-some entry.0.0 (sym none ∙ persons_place c place ∙ ap (option_map (λ (x : Entry). x.0.0)) e))

  pub entry_kept : (c place : ℕ) (e : Entry) → slice_get (in_conference c) place ≡ Some e → kept_at e.0 es ≡ Some e.1
  entry_kept c place e at =
      all_at (λ (x : Entry). kept_at x.0 es ≡ Some x.1) (in_conference c) place e
      (all_filter (λ (x : Entry). kept_at x.0 es ≡ Some x.1) (λ (x : Entry). eqb x.0.1 c) (in_turn es)
      (all_in_turn (λ (x : Entry). kept_at x.0 es ≡ Some x.1) (in_turn es) (λ key. kept_at key es) turns
      (λ key v there. there))) at

  -- a person with a membership is in the list of its conference
  pub person_there : (p c : ℕ) (v : Kept) → kept_at (p, c) es ≡ Some v → is_member nat_eq (persons c) p ≡ true
  person_there p c v there =
      ap (λ l. is_member nat_eq l p) (table.in_order c)
      ∙ is_person p c (in_turn es) (ap is_some (turns.found (p, c) ∙ there))

  pub entry_in : (c place : ℕ) (e : Entry) → slice_get (in_conference c) place ≡ Some e → e.0.1 ≡ c
  entry_in c place e at =
      eqb-true e.0.1 c (all_at (λ (x : Entry). eqb x.0.1 c ≡ true) (in_conference c) place e
      (filter_passes (λ (x : Entry). eqb x.0.1 c) (in_turn es)) at)

  pub conference_found : (c place person : ℕ) → slice_get (persons c) place ≡ Some person →
      membership_of person c (rows_of conferences es) ≡ slice_get (members_of c (rows_of conferences es)) place
  conference_found c place person at = by (slice_get (in_conference c) place) refl
    where
      by : (o : Option Entry) → slice_get (in_conference c) place ≡ o →
          membership_of person c (rows_of conferences es) ≡ slice_get (members_of c (rows_of conferences es)) place
      by None e = absurd (none-some person
          (sym (ap (option_map (λ (x : Entry). x.0.0)) e) ∙ sym (persons_place c place) ∙ at))
      by (Some entry) e =
          let is : entry.0.0 ≡ person =
          same_Some _ _ (sym (ap (option_map (λ (x : Entry). x.0.0)) e) ∙ sym (persons_place c place) ∙ at) in
          let of : entry.0.1 ≡ c = entry_in c place entry e in
          let key : entry.0 ≡ (person, c) = λ i. (is i, of i) in
          found person c entry.1 (ap (λ k. kept_at k es) (sym key) ∙ entry_kept c place entry e)
          ∙ ap (λ (k : Key). Some (row_of conferences (k, entry.1))) (sym key)
          ∙ sym (members_place c place ∙ ap (option_map (row_of conferences)) e)

  -- the membership of a person at a place is kept
  pub conference_kept : (c place person : ℕ) → slice_get (persons c) place ≡ Some person →
      is_some (kept_at (person, c) es) ≡ true
  conference_kept c place person at = by (slice_get (in_conference c) place) refl
    where
      by : (o : Option Entry) → slice_get (in_conference c) place ≡ o → is_some (kept_at (person, c) es) ≡ true
      by None e = absurd (none-some person
          (sym (ap (option_map (λ (x : Entry). x.0.0)) e) ∙ sym (persons_place c place) ∙ at))
      by (Some entry) e =
          let is : entry.0.0 ≡ person =
          same_Some _ _ (sym (ap (option_map (λ (x : Entry). x.0.0)) e) ∙ sym (persons_place c place) ∙ at) in
          let of : entry.0.1 ≡ c = entry_in c place entry e in
          ap is_some ((λ i. kept_at (sym is i, sym of i) es) ∙ entry_kept c place entry e)

  -- and shown there
  pub member_found : (c place person : ℕ) (v : Kept) → slice_get (persons c) place ≡ Some person →
      kept_at (person, c) es ≡ Some v →
      slice_get (members_of c (rows_of conferences es)) place
      ≡ Some (kept_row person c (place_of c (conferences person)) v)
  member_found c place person v at there = sym (conference_found c place person at) ∙ found person c v there

  pub conference_count : (c : ℕ) → length (members_of c (rows_of conferences es)) ≡ length (persons c)
  conference_count c =
      ap length (members es next conferences persons table c) ∙ length-map (in_conference c) (row_of conferences)
      ∙ sym (ap length (table.in_order c) ∙ length-map (in_conference c) (λ (e : Entry). e.0.0))

-- ---- no memberships

pub IsTable-empty : (es : List Entry) (next : ℕ) (conferences persons : ℕ → List ℕ) → es ≡ [] →
    ((p : ℕ) → conferences p ≡ []) → ((c : ℕ) → persons c ≡ []) → IsTable es next conferences persons
unfolding IsDistinct in_turn
IsTable-empty es next conferences persons none no_conferences no_persons = record {
  unique = rw none tt;
  given = λ key turn there. absurd (none-some turn (sym (ap (turn_of key) none) ∙ there));
  apart = λ one other turn there also. absurd (none-some turn (sym (ap (turn_of one) none) ∙ there));
  once = λ p. rw (no_conferences p) tt;
  listed = λ p c. rw (no_conferences p, none) refl;
  in_order = λ c. rw (no_persons c, none) refl;
}

pub rows-empty : (es : List Entry) (conferences : ℕ → List ℕ) → es ≡ [] → rows_of conferences es ≡ []
unfolding rows_of in_turn
rows-empty es conferences none = rw none refl

pub reads-empty : (es : List Entry) → es ≡ [] → reads_of es ≡ []
unfolding reads_of in_turn
reads-empty es none = rw none refl
