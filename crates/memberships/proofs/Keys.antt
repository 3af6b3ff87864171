-- The memberships of a person and those in a conference, each with its turn, in the order of joining.
use Rattle.std.proofs.Common.{◌≡◌, ℕ, suc, ◌<◌, ◌≤◌, ◌⊎◌, Bool, true, false, cond, ◌&&◌, ◌||◌, eqb, nat_eq, List, []}
use Rattle.std.proofs.Common.{◌∷◌, ◌++◌, length, get_or, map, filter, filter_map, Option, Some, None, is_some}
use Rattle.std.proofs.Common.{option_map}
use Rattle.std.proofs.Common.{Decides, refl, sym, ap, subst, ◌∙◌, inl, inr, arith}
use Rattle.std.specs.List.{AllByRecursion, list_any, cons_option, dedup, dedup_from}
use Rattle.std.specs.List.Sorted.{IsPermutation, IsNonDecreasingBy}
use Rattle.std.specs.Set.{is_member}
use Rattle.std.proofs.lemmas.Bool.{cases_Bool, eqb-true, eq-eqb, and_parts, and_from, and_right, true≢false}
use Rattle.std.proofs.lemmas.Bool.{false_from_ne_true}
use Rattle.std.proofs.lemmas.List.Folds.{list_any-append}
use Rattle.std.proofs.lemmas.List.Elements.{All-from_recursion, recursion_from_All}
use Rattle.std.proofs.lemmas.List.Sorted.{list_any-IsPermutation, All-permutation}
use Rattle.std.proofs.lemmas.Option.{same_Some, none-some}
use Rattle.kom_types.specs.declared.memberships.MembershipRow.{MembershipRow}
use Rattle.memberships.specs.declared.kept.Kept.{Kept}
use Rattle.memberships.specs.Entries.{Key, Entry, same_key, row_of, in_turn, rows_of, kept_at, turn_of, timed_at}
use Rattle.memberships.specs.Keeping.{IsTable}
use Rattle.memberships.proofs.Order.{Rises, Differ, named, one_order}
use Rattle.memberships.proofs.Pairs.{all_weaker, all_both, all_filter, all_map, map-map, filter-map, Pairwise}
use Rattle.memberships.proofs.Pairs.{pairwise_filter}
use Rattle.memberships.proofs.Places.{flip_eqb}
use Rattle.memberships.proofs.Turns.{key_decides, AreInTurn, in_turn_is, all_in_turn, all_kept, turn}

-- a turn, and the person and the conference of a membership
abbrev pub Timed : Type 0
Timed = ℕ × Key

abbrev when : Timed → ℕ
when x = x.0

abbrev key_in : Timed → Key
key_in x = x.1

abbrev timed : Entry → Timed
timed e = (e.1.turn, e.0)

-- whether two are the same
abbrev pub same_timed : Timed → Timed → Bool
same_timed x y = nat_eq x.0 y.0 && same_key x.1 y.1

same_decides : (x y : Timed) → Decides (same_timed x y) (x ≡ y)
same_decides x y = (
  λ holds.
      let parts = and_parts _ _ holds in
      let first : x.0 ≡ y.0 = eqb-true x.0 y.0 parts.0 in
      let second : x.1 ≡ y.1 = (key_decides x.1 y.1).0 parts.1 in
      λ i. (first i, second i),
  λ e. and_from _ _ (eq-eqb x.0 y.0 (ap (λ (z : Timed). z.0) e)) ((key_decides x.1 y.1).1 (ap (λ (z : Timed). z.1) e)),
)

-- whether a membership is of the person of a number, or in the conference of that number
abbrev pub is_at : ℕ → Key → Bool
is_at number key = eqb key.0 number || eqb key.1 number

-- whether there is one of a key
abbrev has : Key → List Timed → Bool
has key xs = list_any (λ x. same_key key x.1) xs

module _ {X : Type 0} where
  pairwise_map : {Y : Type 0} (R : Y → Y → Type 0) (f : X → Y) (xs : List X) → Pairwise (λ x y. R (f x) (f y)) xs →
      Pairwise R (map f xs)
  pairwise_map R f [] pairs = tt
  pairwise_map R f (x ∷ xs) pairs = (all_map (R (f x)) f xs pairs.0, pairwise_map R f xs pairs.1)

-- ---- which there are, of entries

module _ (es : List Entry) where
  abbrev pub IsTimed : Timed → Type 0
  IsTimed x = timed_at es x.1 ≡ Some x

  -- what a key finds
  named-timed : (k : Key) (xs : List Timed) → AllByRecursion IsTimed xs →
      named when same_key key_decides key_in k xs ≡ cond (has k xs) (timed_at es k) None
  named-timed k [] all = refl
  named-timed k (x ∷ xs) all = elim (cases_Bool (same_key k x.1)) [
    | inl is ↦
        let its : k ≡ x.1 = (key_decides k x.1).0 is in
        rw is (sym (ap (timed_at es) its ∙ all.0))
    | inr other ↦ rw other (named-timed k xs all.1)
  ]

  all_timed : (keys : List Key) → AllByRecursion IsTimed (filter_map (timed_at es) keys)
  all_timed [] = tt
  all_timed (k ∷ keys) = by (kept_at k es) refl (all_timed keys)
    where
      by : (o : Option Kept) → kept_at k es ≡ o → AllByRecursion IsTimed (filter_map (timed_at es) keys) →
          AllByRecursion IsTimed
          (cons_option (option_map (λ kept. (kept.turn, k)) o) (filter_map (timed_at es) keys))
      by None is rest = rest
      by (Some v) is rest = (ap (option_map (λ kept. (kept.turn, k))) is, rest)

  false_and : (a : Bool) → (a && false) ≡ false
  false_and a = and_right a false refl

  has-timed : (k : Key) (keys : List Key) →
      has k (filter_map (timed_at es) keys) ≡ (list_any (same_key k) keys && is_some (kept_at k es))
  has-timed k [] = refl
  has-timed k (j ∷ keys) = by (kept_at j es) refl (has-timed k keys) (cases_Bool (same_key k j))
    where
      by : (o : Option Kept) → kept_at j es ≡ o →
          has k (filter_map (timed_at es) keys) ≡ (list_any (same_key k) keys && is_some (kept_at k es)) →
          (same_key k j ≡ true) ⊎ (same_key k j ≡ false) →
          has k (cons_option (option_map (λ kept. (kept.turn, j)) o) (filter_map (timed_at es) keys))
          ≡ ((same_key k j || list_any (same_key k) keys) && is_some (kept_at k es))
      by None is rest (inl same) =
          let none : is_some (kept_at k es) ≡ false =
          ap is_some (ap (λ key. kept_at key es) ((key_decides k j).0 same) ∙ is) in
          rest ∙ ap (λ b. list_any (same_key k) keys && b) none ∙ false_and (list_any (same_key k) keys)
          ∙ rw (same, none) refl
      by None is rest (inr other) = rest ∙ rw other refl
      by (Some v) is rest (inl same) =
          let there : is_some (kept_at k es) ≡ true =
          ap is_some (ap (λ key. kept_at key es) ((key_decides k j).0 same) ∙ is) in
          rw (same, there) refl
      by (Some v) is rest (inr other) = rw other rest

-- ---- the keys of a person, and those in a conference

has_own : (n : ℕ) (k : Key) (cs : List ℕ) →
    list_any (same_key k) (map (λ c. (n, c)) cs) ≡ (nat_eq k.0 n && is_member nat_eq cs k.1)
has_own n k [] = sym (and_right (nat_eq k.0 n) false refl)
has_own n k (c ∷ cs) = by (nat_eq k.0 n) (has_own n k cs)
  where
    by : (b : Bool) → list_any (same_key k) (map (λ c. (n, c)) cs) ≡ (b && is_member nat_eq cs k.1) →
        ((b && nat_eq k.1 c) || list_any (same_key k) (map (λ c. (n, c)) cs))
        ≡ (b && (nat_eq k.1 c || is_member nat_eq cs k.1))
    by true rest = ap (λ b. nat_eq k.1 c || b) rest
    by false rest = rest

has_others : (n : ℕ) (k : Key) (ps : List ℕ) →
    list_any (same_key k) (map (λ p. (p, n)) ps) ≡ (nat_eq k.1 n && is_member nat_eq ps k.0)
has_others n k [] = sym (and_right (nat_eq k.1 n) false refl)
has_others n k (p ∷ ps) = by (nat_eq k.1 n) (nat_eq k.0 p) (has_others n k ps)
  where
    by : (b a : Bool) → list_any (same_key k) (map (λ p. (p, n)) ps) ≡ (b && is_member nat_eq ps k.0) →
        ((a && b) || list_any (same_key k) (map (λ p. (p, n)) ps)) ≡ (b && (a || is_member nat_eq ps k.0))
    by true true rest = refl
    by true false rest = rest
    by false true rest = rest
    by false false rest = rest

member_in : (p c : ℕ) (l : List Entry) →
    is_member nat_eq (map (λ e. e.0.0) (filter (λ e. eqb e.0.1 c) l)) p ≡ is_some (kept_at (p, c) l)
member_in p c [] = refl
member_in p c (e ∷ l) =
    let rest = member_in p c l in
    elim (cases_Bool (eqb e.0.1 c)) [
      | inl is ↦
          let here : eqb c e.0.1 ≡ true = flip_eqb c e.0.1 ∙ is in
          elim (cases_Bool (eqb p e.0.0)) [
            | inl same ↦ rw (is, same, here) refl
            | inr other ↦ rw (is, other) rest
          ]
      | inr ne ↦
          let elsewhere : same_key (p, c) e.0 ≡ false =
          and_right (eqb p e.0.0) (eqb c e.0.1) (flip_eqb c e.0.1 ∙ ne) in
          rw (ne, elsewhere) rest
    ]

-- ---- those that are wanted

module _ (number : ℕ) where
  abbrev pub wanted : List Entry → List Timed
  wanted l = map timed (filter (λ e. is_at number e.0) l)

  has-wanted : (k : Key) (l : List Entry) → has k (wanted l) ≡ (is_at number k && is_some (kept_at k l))
  has-wanted k [] = sym (and_right (is_at number k) false refl)
  has-wanted k (e ∷ l) =
      let rest = has-wanted k l in
      elim (cases_Bool (same_key k e.0)) [
        | inl same ↦
            let its : is_at number k ≡ is_at number e.0 = ap (is_at number) ((key_decides k e.0).0 same) in
            by (is_at number e.0) same its rest
        | inr other ↦ elim (cases_Bool (is_at number e.0)) [
          | inl at ↦ rw (at, other) rest
          | inr not_at ↦ rw (not_at, other) rest
        ]
      ]
    where
      by : (b : Bool) → same_key k e.0 ≡ true → is_at number k ≡ b →
          has k (wanted l) ≡ (is_at number k && is_some (kept_at k l)) →
          has k (map timed (cond b (e ∷ filter (λ e. is_at number e.0) l) (filter (λ e. is_at number e.0) l)))
          ≡ (is_at number k && is_some (cond (same_key k e.0) (Some e.1) (kept_at k l)))
      by true same its rest = rw (same, its) refl
      by false same its rest = rest ∙ rw its refl

-- ---- a list of them that does not fall, each kept once

module _ (es : List Entry) (apart : (one other : Key) (turn : ℕ) → turn_of one es ≡ Some turn →
    turn_of other es ≡ Some turn → one ≡ other) where
  -- those of one turn are one
  one_of_turn : (x y : Timed) → IsTimed es x → IsTimed es y → when x ≡ when y → x ≡ y
  one_of_turn x y is_x is_y e =
      let key : x.1 ≡ y.1 = apart x.1 y.1 y.0 (turn_is x is_x ∙ ap Some e) (turn_is y is_y) in
      λ i. (e i, key i)
    where
      by : (k : Key) (t : ℕ) (o : Option Kept) → option_map {U = Timed} (λ kept. (kept.turn, k)) o ≡ Some (t, k) →
          option_map (λ kept. kept.turn) o ≡ Some t
      by k t None is = absurd (none-some (t, k) is)
      by k t (Some v) is = ap Some (ap when (same_Some _ _ is))

      turn_is : (z : Timed) → IsTimed es z → turn_of z.1 es ≡ Some z.0
      turn_is z is = by z.1 z.0 (kept_at z.1 es) is

  abbrev Climbs : List Timed → Type 0
  Climbs xs = Pairwise (λ x y. when x ≤ when y) xs

  all_dedup_from : (P : Timed → Type 0) (x : Timed) (xs : List Timed) → P x → AllByRecursion P xs →
      AllByRecursion P (dedup_from same_timed x xs)
  all_dedup_from P x [] here all = (here, tt)
  all_dedup_from P x (y ∷ ys) here all =
      elim (same_timed y x) as
      (λ b. AllByRecursion P (cond b (dedup_from same_timed x ys) (x ∷ dedup_from same_timed y ys))) [
        | true ↦ all_dedup_from P x ys here all.1
        | false ↦ (here, all_dedup_from P y ys all.0 all.1)
      ]

  all_dedup : (P : Timed → Type 0) (xs : List Timed) → AllByRecursion P xs → AllByRecursion P (dedup same_timed xs)
  all_dedup P [] all = tt
  all_dedup P (x ∷ xs) all = all_dedup_from P x xs all.0 all.1

  rises_dedup_from : (x : Timed) (xs : List Timed) → Climbs (x ∷ xs) → AllByRecursion (IsTimed es) (x ∷ xs) →
      Rises when (dedup_from same_timed x xs)
  rises_dedup_from x [] climbs all = (tt, tt)
  rises_dedup_from x (y ∷ ys) climbs all = elim (cases_Bool (same_timed y x)) [
    | inl is ↦ rw is (rises_dedup_from x ys (climbs.0.1, climbs.1.1) (all.0, all.1.1))
    | inr ne ↦
        let unlike : when x ≡ when y → ⊥ =
        λ e. true≢false (sym ((same_decides y x).1 (sym (one_of_turn x y all.0 all.1.0 e))) ∙ ne) in
        let less : when x < when y = omega (arith, climbs.0.0, unlike) in
        let later : AllByRecursion (λ z. when x < when z) ys =
        all_weaker (λ (z : Timed). when y ≤ when z) (λ z. when x < when z) (λ z le. omega (arith, le, less)) ys
        climbs.1.0 in
        rw ne (
          all_dedup_from (λ z. when x < when z) y ys less later,
          rises_dedup_from y ys climbs.1 all.1,
        )
  ]

  rises_dedup : (xs : List Timed) → Climbs xs → AllByRecursion (IsTimed es) xs → Rises when (dedup same_timed xs)
  rises_dedup [] climbs all = tt
  rises_dedup (x ∷ xs) climbs all = rises_dedup_from x xs climbs all

  or_twice : (a b : Bool) → (a || b) ≡ (a || (a || b))
  or_twice true b = refl
  or_twice false b = refl

  has-dedup_from : (k : Key) (x : Timed) (xs : List Timed) → has k (dedup_from same_timed x xs) ≡ has k (x ∷ xs)
  has-dedup_from k x [] = refl
  has-dedup_from k x (y ∷ ys) = elim (cases_Bool (same_timed y x)) [
    | inl is ↦
        let it : y ≡ x = (same_decides y x).0 is in
        rw is (has-dedup_from k x ys ∙ or_twice (same_key k x.1) (has k ys)
        ∙ ap (λ z. same_key k x.1 || (same_key k z.1 || has k ys)) (sym it))
    | inr ne ↦ rw ne (ap (λ b. same_key k x.1 || b) (has-dedup_from k y ys))
  ]

  has-dedup : (k : Key) (xs : List Timed) → has k (dedup same_timed xs) ≡ has k xs
  has-dedup k [] = refl
  has-dedup k (x ∷ xs) = has-dedup_from k x xs

  -- where turns rise, keys differ
  differ_rising : (xs : List Timed) → AllByRecursion (IsTimed es) xs → Rises when xs →
      Differ when same_key key_decides key_in xs
  differ_rising [] all rises = tt
  differ_rising (x ∷ xs) all rises = (
    all_both (IsTimed es) (λ y. when x < when y) (λ y. same_key x.1 y.1 ≡ false)
        (λ y is less. false_from_ne_true _ (λ keys.
        let key : x.1 ≡ y.1 = (key_decides x.1 y.1).0 keys in
        let it : x ≡ y = same_Some x y (sym all.0 ∙ ap (timed_at es) key ∙ is) in
        omega (arith, less, ap when it))) xs all.1 rises.0,
    differ_rising xs all.1 rises.1,
  )

  climbs_above : (x : Timed) (xs : List Timed) →
      ((i : ℕ) (d : Timed) → i < length xs → when x ≤ when (get_or xs i d)) →
      AllByRecursion (λ y. when x ≤ when y) xs
  climbs_above x [] from = tt
  climbs_above x (y ∷ ys) from = (from 0 y (omega arith), climbs_above x ys (λ i d below. from (suc i) d (omega arith)))

  climbs_sorted : (xs : List Timed) → IsNonDecreasingBy when xs → Climbs xs
  climbs_sorted [] up = tt
  climbs_sorted (x ∷ xs) up = (
    climbs_above x xs (λ i d below. up 0 (suc i) d (omega arith) (omega arith)),
    climbs_sorted xs (λ i j d le below. up (suc i) (suc j) d (omega arith) (omega arith)),
  )

  -- what sorting and that leave is the one list of the same keys in which turns rise
  pub timed_once : (given sorted all : List Timed) → AllByRecursion (IsTimed es) given →
      IsPermutation given sorted → IsNonDecreasingBy when sorted → AllByRecursion (IsTimed es) all →
      Rises when all → ((k : Key) → has k given ≡ has k all) → dedup same_timed sorted ≡ all
  timed_once given sorted all timed_given moved up timed_all rises agree =
      let timed_sorted : AllByRecursion (IsTimed es) sorted =
      recursion_from_All (IsTimed es) sorted
      (All-permutation (IsTimed es) given sorted moved (All-from_recursion (IsTimed es) given timed_given)) in
      let timed_kept = all_dedup (IsTimed es) sorted timed_sorted in
      let rises_kept = rises_dedup sorted (climbs_sorted sorted up) timed_sorted in
      one_order when same_key key_decides key_in (dedup same_timed sorted) all rises_kept rises
      (differ_rising (dedup same_timed sorted) timed_kept rises_kept) (differ_rising all timed_all rises)
      (λ k. named-timed es k (dedup same_timed sorted) timed_kept
      ∙ ap (λ b. cond b (timed_at es k) None) (has-dedup k sorted
      ∙ sym (list_any-IsPermutation (λ x. same_key k x.1) given sorted moved) ∙ agree k)
      ∙ sym (named-timed es k all timed_all))

-- ---- the memberships of a table

module _ (es : List Entry) (next : ℕ) (conferences persons : ℕ → List ℕ)
    (table : IsTable es next conferences persons) (number : ℕ) where
  turns : AreInTurn (in_turn es) (λ key. kept_at key es)
  turns = in_turn_is es table.unique table.apart

  -- the keys of the lists of the number
  abbrev pub keys_of_lists : List Key
  keys_of_lists = map (λ c. (number, c)) (conferences number) ++ map (λ p. (p, number)) (persons number)

  -- a key of the person, or of the conference, of the number
  own_key : (k : Key) →
      (nat_eq k.0 number && is_some (kept_at (number, k.1) es)) ≡ (nat_eq k.0 number && is_some (kept_at k es))
  own_key k = elim (cases_Bool (nat_eq k.0 number)) [
    | inl is ↦
        let person : number ≡ k.0 = sym (eqb-true k.0 number is) in
        λ i. nat_eq k.0 number && is_some (kept_at (person i, k.1) es)
    | inr ne ↦ rw ne refl
  ]

  member_key : (k : Key) →
      (nat_eq k.1 number && is_some (kept_at (k.0, number) es)) ≡ (nat_eq k.1 number && is_some (kept_at k es))
  member_key k = elim (cases_Bool (nat_eq k.1 number)) [
    | inl is ↦
        let conference : number ≡ k.1 = sym (eqb-true k.1 number is) in
        λ i. nat_eq k.1 number && is_some (kept_at (k.0, conference i) es)
    | inr ne ↦ rw ne refl
  ]

  members : (p : ℕ) → is_member nat_eq (persons number) p ≡ is_some (kept_at (p, number) es)
  members p =
      ap (λ l. is_member nat_eq l p) (table.in_order number) ∙ member_in p number (in_turn es)
      ∙ ap is_some (turns.found (p, number))

  either : (a b c : Bool) → ((a && c || b && c) && c) ≡ ((a || b) && c)
  either true true true = refl
  either true false true = refl
  either false true true = refl
  either false false true = refl
  either true true false = refl
  either true false false = refl
  either false true false = refl
  either false false false = refl

  has_lists : (k : Key) →
      (list_any (same_key k) keys_of_lists && is_some (kept_at k es)) ≡ (is_at number k && is_some (kept_at k es))
  has_lists k =
      ap (λ b. b && is_some (kept_at k es))
      (list_any-append (same_key k) (map (λ c. (number, c)) (conferences number))
      (map (λ p. (p, number)) (persons number))
      ∙ (λ i. has_own number k (conferences number) i || has_others number k (persons number) i)
      ∙ (λ i. nat_eq k.0 number && table.listed number k.1 i || nat_eq k.1 number && members k.0 i)
      ∙ (λ i. own_key k i || member_key k i))
      ∙ either (nat_eq k.0 number) (nat_eq k.1 number) (is_some (kept_at k es))

  all_wanted : AllByRecursion (IsTimed es) (wanted number (in_turn es))
  all_wanted =
      all_map (IsTimed es) timed (filter (λ e. is_at number e.0) (in_turn es))
      (all_filter (λ e. timed_at es e.0 ≡ Some (timed e)) (λ e. is_at number e.0) (in_turn es)
      (all_in_turn (λ e. timed_at es e.0 ≡ Some (timed e)) (in_turn es) (λ key. kept_at key es) turns
      (λ key v there. ap (option_map (λ kept. (kept.turn, key))) there)))

  rises_wanted : Rises when (wanted number (in_turn es))
  rises_wanted =
      pairwise_map (λ x y. when x < when y) timed (filter (λ e. is_at number e.0) (in_turn es))
      (pairwise_filter (λ e f. turn e < turn f) (λ e. is_at number e.0) (in_turn es) turns.rises)

  -- the keys of the rows that are wanted
  keys_wanted : map key_in (wanted number (in_turn es))
      ≡ map (λ row. (row.person, row.conference))
      (filter (λ row. eqb row.person number || eqb row.conference number) (rows_of conferences es))
  unfolding rows_of
  keys_wanted =
      map-map key_in timed (filter (λ e. is_at number e.0) (in_turn es))
      ∙ sym (map-map (λ (row : MembershipRow). (row.person, row.conference)) (row_of conferences)
      (filter (λ e. is_at number e.0) (in_turn es)))
      ∙ ap (map (λ row. (row.person, row.conference)))
      (sym (filter-map (λ (row : MembershipRow). eqb row.person number || eqb row.conference number)
      (row_of conferences) (in_turn es)))

  pub keys_once : (given sorted : List Timed) → given ≡ filter_map (timed_at es) keys_of_lists →
      IsPermutation given sorted → IsNonDecreasingBy when sorted →
      map key_in (dedup same_timed sorted)
      ≡ map (λ row. (row.person, row.conference))
      (filter (λ row. eqb row.person number || eqb row.conference number) (rows_of conferences es))
  keys_once given sorted is moved up =
      ap (map key_in) (timed_once es table.apart given sorted (wanted number (in_turn es))
      (subst (AllByRecursion (IsTimed es)) (sym is) (all_timed es keys_of_lists)) moved up all_wanted rises_wanted
      (λ k. ap (has k) is ∙ has-timed es k keys_of_lists ∙ has_lists k
      ∙ sym (has-wanted number k (in_turn es)
      ∙ ap (λ o. is_at number k && is_some o) (turns.found k))))
      ∙ keys_wanted

-- ---- all memberships

module _ (es : List Entry) (next : ℕ) (conferences persons : ℕ → List ℕ)
    (table : IsTable es next conferences persons) where
  in_turns : AreInTurn (in_turn es) (λ key. kept_at key es)
  in_turns = in_turn_is es table.unique table.apart

  has-all : (k : Key) (l : List Entry) → has k (map timed l) ≡ is_some (kept_at k l)
  has-all k [] = refl
  has-all k (e ∷ l) = elim (cases_Bool (same_key k e.0)) [
    | inl same ↦ rw same refl
    | inr other ↦ rw other (has-all k l)
  ]

  -- each entry is timed, in whatever order
  all_entries : AllByRecursion (IsTimed es) (map timed es)
  all_entries = all_map (IsTimed es) timed es
      (all_kept (λ e. timed_at es e.0 ≡ Some (timed e)) es table.unique
      (λ e there. ap (option_map (λ kept. (kept.turn, e.0))) there))

  all_timed_in_turn : AllByRecursion (IsTimed es) (map timed (in_turn es))
  all_timed_in_turn = all_map (IsTimed es) timed (in_turn es)
      (all_in_turn (λ e. timed_at es e.0 ≡ Some (timed e)) (in_turn es) (λ key. kept_at key es) in_turns
      (λ key v there. ap (option_map (λ kept. (kept.turn, key))) there))

  rises_all : Rises when (map timed (in_turn es))
  rises_all = pairwise_map (λ x y. when x < when y) timed (in_turn es) in_turns.rises

  keys_all : map key_in (map timed (in_turn es)) ≡ map (λ row. (row.person, row.conference)) (rows_of conferences es)
  unfolding rows_of
  keys_all = map-map key_in timed (in_turn es)
      ∙ sym (map-map (λ (row : MembershipRow). (row.person, row.conference)) (row_of conferences) (in_turn es))

  pub keys_in_turn : (given sorted : List Timed) → given ≡ map timed es → IsPermutation given sorted →
      IsNonDecreasingBy when sorted →
      map key_in (dedup same_timed sorted) ≡ map (λ row. (row.person, row.conference)) (rows_of conferences es)
  keys_in_turn given sorted is moved up =
      ap (map key_in) (timed_once es table.apart given sorted (map timed (in_turn es))
      (subst (AllByRecursion (IsTimed es)) (sym is) all_entries) moved up all_timed_in_turn rises_all
      (λ k. ap (has k) is ∙ has-all k es ∙ sym (has-all k (in_turn es) ∙ ap is_some (in_turns.found k))))
      ∙ keys_all
