-- What the rows of a table are: of a person, of a conference, and of both.
use Rattle.std.proofs.Common.{◌≡◌, ℕ, Bool, true, false, cond, ◌&&◌, eqb, ltb, nat_eq, List, [], ◌∷◌, length, map}
use Rattle.std.proofs.Common.{filter, find, fold, Option, Some, None, is_some, option_map, unwrap_or, inl, inr, refl}
use Rattle.std.proofs.Common.{sym, ◌∙◌, ap, subst}
use Rattle.std.specs.FinSet as set
use Rattle.std.specs.List.{AllByRecursion, IsDistinct, range_with_len}
use Rattle.std.specs.Set.{is_member}
use Rattle.std.proofs.lemmas.Bool.{cases_Bool, eqb-true, eq-eqb, and_from}
use Rattle.std.proofs.lemmas.Bool.Decides.{Decides-eqb}
use Rattle.std.proofs.lemmas.List.{length-map}
use Rattle.std.proofs.lemmas.Map.Keys.{IsDistinct-head, IsDistinct-tail}
use Rattle.std.proofs.lemmas.Map.Made.{find_same}
use Rattle.std.proofs.lemmas.Option.{same_Some, none-some}
use Rattle.kom_types.specs.declared.memberships.MembershipRow.{MembershipRow}
use Rattle.kom_types.specs.tables.Memberships.{is_membership, membership_of, members_of, by_position, memberships_of}
use Rattle.kom_types.specs.tables.Memberships.{count_of}
use Rattle.memberships.specs.declared.kept.Kept.{Kept}
use Rattle.memberships.specs.Order.{insert_by, sort_by}
use Rattle.memberships.specs.Entries.{Key, Entry, same_key, place_of, row_of, in_turn, rows_of, kept_at}
use Rattle.memberships.specs.Keeping.{IsTable}
use Rattle.memberships.specs.Table.{IsOrderly}
use Rattle.memberships.proofs.Pairs.{Pairwise, all_map, map-map, filter-map, find-map}
use Rattle.memberships.proofs.Order.{rises_counted, rises_ordered, length-ordered, named, named-ordered, Differ}
use Rattle.memberships.proofs.Order.{differ_ordered, apart_from_named, one_order}
use Rattle.memberships.proofs.Places.{flip_eqb, same_place, places_count_up}
use Rattle.memberships.proofs.Turns.{key_decides, KeysDiffer, AreInTurn, in_turn_is, distinct_keys}

-- ---- by both

-- a test of what is made of entries that tells the key finds what is made of the key's entry
pub find-made : {X : Type 0} (made : Entry → X) (test : X → Bool) (key : Key) →
    ((e : Entry) → test (made e) ≡ same_key key e.0) → (es : List Entry) →
    find test (map made es) ≡ option_map (λ kept. made (key, kept)) (kept_at key es)
find-made made test key tells [] = refl
find-made made test key tells (e ∷ es) =
    ap (λ b. cond b (Some (made e)) (find test (map made es))) (tells e)
    ∙ elim (same_key key e.0) as (λ b. same_key key e.0 ≡ b →
    cond b (Some (made e)) (find test (map made es))
    ≡ option_map (λ kept. made (key, kept)) (cond b (Some e.1) (kept_at key es))) [
      | true ↦ λ is. ap (λ (k : Key). Some (made (k, e.1))) (sym ((key_decides key e.0).0 is))
      | false ↦ λ other. find-made made test key tells es
    ] refl

pub tells_membership : (lists : ℕ → List ℕ) (p c : ℕ) (e : Entry) →
    is_membership p c (row_of lists e) ≡ same_key (p, c) e.0
tells_membership lists p c e = λ i. flip_eqb e.0.0 p i && flip_eqb e.0.1 c i

-- ---- of a person

abbrev position : MembershipRow → ℕ
position row = row.position

abbrev conference : MembershipRow → ℕ
conference row = row.conference

-- `by_position` puts a row in its place by its position
by_position-placed : (row : MembershipRow) (rows : List MembershipRow) →
    by_position row rows ≡ insert_by position row rows
by_position-placed row [] = refl
by_position-placed row (first ∷ rows) =
    ap (λ l. cond (ltb row.position first.position) (row ∷ first ∷ rows) (first ∷ l)) (by_position-placed row rows)

memberships_of-ordered : (p : ℕ) (rows : List MembershipRow) →
    memberships_of p rows ≡ sort_by position (filter (λ row. eqb row.person p) rows)
memberships_of-ordered p rows =
    λ i. fold (λ sorted row. by_position-placed row sorted i) []
    (filter (λ (row : MembershipRow). eqb row.person p) rows)

-- the rows of a person, of entries in turn
abbrev own_rows : (ℕ → List ℕ) → ℕ → List Entry → List MembershipRow
own_rows lists p es = filter (λ row. eqb row.person p) (map (row_of lists) es)

-- the row of a person that has a conference
abbrev row_in : ℕ → List MembershipRow → Option MembershipRow
row_in c rows = named position nat_eq Decides-eqb conference c rows

abbrev ConferencesDiffer : List MembershipRow → Type 0
ConferencesDiffer rows = Differ position nat_eq Decides-eqb conference rows

row_in-own_rows : (lists : ℕ → List ℕ) (p c : ℕ) (es : List Entry) →
    row_in c (own_rows lists p es) ≡ option_map (λ kept. row_of lists ((p, c), kept)) (kept_at (p, c) es)
row_in-own_rows lists p c [] = refl
row_in-own_rows lists p c (e ∷ es) =
    let rest : row_in c (own_rows lists p es) ≡ option_map (λ kept. row_of lists ((p, c), kept)) (kept_at (p, c) es) =
    row_in-own_rows lists p c es in
    elim (cases_Bool (eqb p e.0.0)) [
      | inl is_p ↦
          let own : eqb e.0.0 p ≡ true = flip_eqb e.0.0 p ∙ is_p in
          elim (cases_Bool (eqb c e.0.1)) [
            | inl is_c ↦
                let same : e.0 ≡ (p, c) = sym ((key_decides (p, c) e.0).0 (and_from _ _ is_p is_c)) in
                rw (own, is_p, is_c) (ap (λ (k : Key). Some (row_of lists (k, e.1))) same)
            | inr no_c ↦ rw (own, is_p, no_c) rest
          ]
      | inr no_p ↦ let own : eqb e.0.0 p ≡ false = flip_eqb e.0.0 p ∙ no_p in rw (own, no_p) rest
    ]

own_rows_differ : (lists : ℕ → List ℕ) (p : ℕ) (es : List Entry) → KeysDiffer es →
    ConferencesDiffer (own_rows lists p es)
own_rows_differ lists p [] differ = tt
own_rows_differ lists p (e ∷ es) differ =
    elim (eqb e.0.0 p) as
    (λ b. eqb e.0.0 p ≡ b →
    ConferencesDiffer (cond b (row_of lists e ∷ own_rows lists p es) (own_rows lists p es))) [
      | true ↦ λ own. (others own es differ.0, own_rows_differ lists p es differ.1)
      | false ↦ λ other. own_rows_differ lists p es differ.1
    ] refl
  where
    others : eqb e.0.0 p ≡ true → (fs : List Entry) → AllByRecursion (λ f. same_key e.0 f.0 ≡ false) fs →
        AllByRecursion (λ row. nat_eq e.0.1 row.conference ≡ false) (own_rows lists p fs)
    others own [] all = tt
    others own (f ∷ fs) all =
        elim (eqb f.0.0 p) as
        (λ b. eqb f.0.0 p ≡ b →
        AllByRecursion (λ row. nat_eq e.0.1 row.conference ≡ false)
        (cond b (row_of lists f ∷ own_rows lists p fs) (own_rows lists p fs))) [
          | true ↦ λ its.
              let one_person : eqb e.0.0 f.0.0 ≡ true =
              eq-eqb e.0.0 f.0.0 (eqb-true e.0.0 p own ∙ sym (eqb-true f.0.0 p its)) in
              (ap (λ b. b && eqb e.0.1 f.0.1) (sym one_person) ∙ all.0, others own fs all.1)
          | false ↦ λ other. others own fs all.1
        ] refl

some_mapped : {A B : Type 0} (f : A → B) (o : Option A) (y : B) → option_map f o ≡ Some y →
    (x : A) × (o ≡ Some x) × (f x ≡ y)
some_mapped f None y e = absurd (none-some y e)
some_mapped f (Some x) y e = (x, refl, same_Some (f x) y e)

-- what is kept where nothing is
pub blank : Kept
blank = record {
  turn = 0;
  priority = 0;
  added_by = 0;
  added_at = 0;
  last_time_read = 0;
  kind = 0;
  read = record { numbers = set.empty; spare = 0 };
}

abbrev pub kept_or_blank : Key → List Entry → Kept
kept_or_blank key es = unwrap_or (kept_at key es) blank

module _ (es : List Entry) (next : ℕ) (conferences persons : ℕ → List ℕ)
    (table : IsTable es next conferences persons) where
  turns : AreInTurn (in_turn es) (λ key. kept_at key es)
  turns = in_turn_is es table.unique table.apart

  pub membership : (p c : ℕ) →
      membership_of p c (rows_of conferences es)
      ≡ option_map (λ kept. row_of conferences ((p, c), kept)) (kept_at (p, c) es)
  unfolding rows_of
  membership p c =
      find-made (row_of conferences) (is_membership p c) (p, c) (tells_membership conferences p c) (in_turn es)
      ∙ ap (option_map (λ kept. row_of conferences ((p, c), kept))) (turns.found (p, c))

  pub members : (c : ℕ) →
      members_of c (rows_of conferences es) ≡ map (row_of conferences) (filter (λ e. eqb e.0.1 c) (in_turn es))
  unfolding rows_of
  members c = filter-map (λ (row : MembershipRow). eqb row.conference c) (row_of conferences) (in_turn es)

  module _ (p : ℕ) where
    abbrev own : List MembershipRow
    own = own_rows conferences p (in_turn es)

    own_found : (c : ℕ) → row_in c own ≡ option_map (λ kept. row_of conferences ((p, c), kept)) (kept_at (p, c) es)
    own_found c = row_in-own_rows conferences p c (in_turn es)
        ∙ ap (option_map (λ kept. row_of conferences ((p, c), kept))) (turns.found (p, c))

    own_differ : ConferencesDiffer own
    own_differ = own_rows_differ conferences p (in_turn es) turns.differ

    is_in : (c : ℕ) (row : MembershipRow) → row_in c own ≡ Some row →
        (is_member nat_eq (conferences p) c ≡ true) × (row.position ≡ place_of c (conferences p))
    is_in c row found =
        let there = some_mapped (λ kept. row_of conferences ((p, c), kept)) (kept_at (p, c) es) row
        (sym (own_found c) ∙ found) in
        (table.listed p c ∙ ap is_some there.1, sym (ap position there.2))

    own_apart : Pairwise (λ (x y : MembershipRow). x.position ≡ y.position → ⊥) own
    own_apart = apart_from_named position nat_eq Decides-eqb conference own own_differ (λ j k x y found other e.
        let one = is_in j x found in
        let two = is_in k y other in
        same_place (conferences p) j k one.0 two.0 (sym one.1 ∙ e ∙ two.1))

    -- the row of a conference of the person
    abbrev pub row_for : ℕ → MembershipRow
    row_for c = row_of conferences ((p, c), kept_or_blank (p, c) es)

    listed_found : (c : ℕ) →
        row_in c (map row_for (conferences p))
        ≡ option_map (λ kept. row_of conferences ((p, c), kept)) (kept_at (p, c) es)
    listed_found c =
        find-map (λ (row : MembershipRow). nat_eq c row.conference) row_for (conferences p)
        ∙ ap (option_map row_for)
        (find_same Decides-eqb c (conferences p) ∙ ap (λ b. cond b (Some c) None) (table.listed p c))
        ∙ by (kept_at (p, c) es) refl
      where
        by : (o : Option Kept) → kept_at (p, c) es ≡ o →
            option_map row_for (cond (is_some (kept_at (p, c) es)) (Some c) None)
            ≡ option_map (λ kept. row_of conferences ((p, c), kept)) (kept_at (p, c) es)
        by None e = rw e refl
        by (Some v) e = rw e (ap (λ o. Some (row_of conferences ((p, c), unwrap_or o blank))) e)

    listed_counted : map position (map row_for (conferences p)) ≡ range_with_len 0 (length (conferences p))
    listed_counted = map-map position row_for (conferences p) ∙ places_count_up (conferences p) (table.once p)

    listed_differ : (cs : List ℕ) → IsDistinct nat_eq cs → ConferencesDiffer (map row_for cs)
    listed_differ [] distinct = tt
    listed_differ (c ∷ cs) distinct = (
      all_map (λ (row : MembershipRow). nat_eq c row.conference ≡ false) row_for cs
          (IsDistinct-head nat_eq c cs distinct),
      listed_differ cs (IsDistinct-tail nat_eq c cs distinct),
    )

    own_ordered : sort_by position own ≡ map row_for (conferences p)
    own_ordered =
        one_order position nat_eq Decides-eqb conference (sort_by position own) (map row_for (conferences p))
        (rises_ordered position own own_apart)
        (rises_counted position 0 (length (conferences p)) (map row_for (conferences p)) listed_counted)
        (differ_ordered position nat_eq Decides-eqb conference own own_differ)
        (listed_differ (conferences p) (table.once p))
        (λ c. named-ordered position nat_eq Decides-eqb conference c own own_differ ∙ own_found c
        ∙ sym (listed_found c))

    -- the memberships of a person are those of the list of its conferences
    pub memberships : memberships_of p (rows_of conferences es) ≡ map row_for (conferences p)
    unfolding rows_of
    memberships = memberships_of-ordered p (map (row_of conferences) (in_turn es)) ∙ own_ordered

    pub count : count_of p (rows_of conferences es) ≡ length (conferences p)
    unfolding rows_of
    count = sym (length-ordered position own) ∙ ap length own_ordered ∙ length-map (conferences p) row_for

    pub counted : map position (memberships_of p (rows_of conferences es))
        ≡ range_with_len 0 (count_of p (rows_of conferences es))
    counted = ap (map position) memberships ∙ listed_counted ∙ ap (range_with_len 0) (sym count)

  -- ---- of all

  pub orderly : IsOrderly (rows_of conferences es)
  unfolding rows_of
  orderly = record {
    once =
        subst (IsDistinct same_key)
        (sym (map-map (λ (row : MembershipRow). (row.person, row.conference)) (row_of conferences) (in_turn es)))
        (distinct_keys (in_turn es) turns.differ);
    counted = counted;
  }
