-- Lists of different numbers: the place of each, after a number is put in or taken out.
use Rattle.std.proofs.Common.{◌≡◌, ℕ, zero, suc, ◌+◌, ◌-◌, ◌<◌, ◌≤◌, min, Bool, true, false, cond, ◌||◌, eqb, ltb, leb}
use Rattle.std.proofs.Common.{nat_eq, List, [], ◌∷◌, length, get_or, slice_get, insert, map, Some, refl, sym, ◌∙◌, ap}
use Rattle.std.proofs.Common.{subst, inl, inr, zero-add, arith}
use Rattle.std.specs.Cmp.{nat_eq_equiv}
use Rattle.std.specs.List.{AllByRecursion, IsDistinct, range_with_len}
use Rattle.std.specs.Set.{remove_key, is_member}
use Rattle.std.proofs.lemmas.Bool.{cases_Bool, eqb-true, eq-eqb, true≢false, false≢true, or_parts}
use Rattle.std.proofs.lemmas.Bool.Decides.{nat_tests}
use Rattle.std.proofs.lemmas.List.Sorted.{IsPermutation-insert}
use Rattle.std.proofs.lemmas.List.Sums.{position_or_len_is}
use Rattle.std.proofs.lemmas.Map.Keys.{IsDistinct-head, IsDistinct-tail, IsDistinct-cons, IsDistinct-IsPermutation}
use Rattle.std.proofs.lemmas.Map.Keys.{apart_from_distinct}
use Rattle.std.proofs.lemmas.Map.Steps.{length-le_from_distinct_below}
use Rattle.std.proofs.lemmas.Option.{slice_get_within, get_or_from_slice_get}
use Rattle.row_slots.proofs.Members.{place_here, place_there, later, place_within, remove_here, remove_there}
use Rattle.memberships.specs.Entries.{place_of}
use Rattle.memberships.proofs.Pairs.{all_weaker, map_agree}

-- ---- tests of numbers

pub flip_eqb : (a b : ℕ) → eqb a b ≡ eqb b a
flip_eqb a b = nat_eq_equiv.symm a b

own_eqb : (a : ℕ) → eqb a a ≡ true
own_eqb a = eq-eqb a a refl

-- ---- the place of a number

pub at_place : (c : ℕ) (xs : List ℕ) (d : ℕ) → is_member nat_eq xs c ≡ true → get_or xs (place_of c xs) d ≡ c
at_place c [] d there = absurd (false≢true there)
at_place c (x ∷ xs) d there = elim (cases_Bool (eqb c x)) [
  | inl is ↦ ap (λ n. get_or (x ∷ xs) n d) (place_here c x xs is) ∙ sym (eqb-true c x is)
  | inr other ↦ ap (λ n. get_or (x ∷ xs) n d) (place_there c x xs other) ∙ at_place c xs d (later c x xs other there)
]

-- different numbers have different places
pub same_place : (xs : List ℕ) (c d : ℕ) → is_member nat_eq xs c ≡ true → is_member nat_eq xs d ≡ true →
    place_of c xs ≡ place_of d xs → c ≡ d
same_place xs c d one other e = sym (at_place c xs 0 one) ∙ ap (λ n. get_or xs n 0) e ∙ at_place d xs 0 other

pub place_at : (xs : List ℕ) (i c : ℕ) → IsDistinct nat_eq xs → slice_get xs i ≡ Some c → place_of c xs ≡ i
place_at xs i c distinct at =
    let within : i < length xs = slice_get_within xs i c at in
    let is : get_or xs i 0 ≡ c = get_or_from_slice_get xs i c 0 at in
    position_or_len_is (nat_eq c) xs i 0 (omega arith)
    (λ k below.
    flip_eqb c (get_or xs k 0) ∙ ap (eqb (get_or xs k 0)) (sym is)
    ∙ apart_from_distinct nat_eq xs k i 0 distinct below within)
    (λ _. eq-eqb c (get_or xs i 0) (sym is))

-- ---- members

-- a list of different numbers has no member equal to a number that is not there
pub others_from_absent : (c : ℕ) (xs : List ℕ) → is_member nat_eq xs c ≡ false →
    AllByRecursion (λ y. nat_eq c y ≡ false) xs
others_from_absent c [] absent = tt
others_from_absent c (x ∷ xs) absent =
    let parts = or_parts (eqb c x) (is_member nat_eq xs c) absent in
    (parts.0, others_from_absent c xs parts.1)

pub absent_from_others : (c : ℕ) (xs : List ℕ) → AllByRecursion (λ y. nat_eq c y ≡ false) xs →
    is_member nat_eq xs c ≡ false
absent_from_others c [] others = refl
absent_from_others c (x ∷ xs) others = let other : eqb c x ≡ false = others.0 in
    rw other (absent_from_others c xs others.1)

-- ---- a number is put in

pub IsDistinct-insert : (xs : List ℕ) (i c : ℕ) → IsDistinct nat_eq xs → is_member nat_eq xs c ≡ false →
    IsDistinct nat_eq (insert xs i c)
IsDistinct-insert xs i c distinct absent =
    IsDistinct-IsPermutation nat_eq flip_eqb (c ∷ xs) (insert xs i c) (IsPermutation-insert xs i c)
    (IsDistinct-cons nat_eq c xs (others_from_absent c xs absent) distinct)

pub is_member-insert : (xs : List ℕ) (i c d : ℕ) →
    is_member nat_eq (insert xs i c) d ≡ (eqb d c || is_member nat_eq xs d)
is_member-insert xs zero c d = refl
is_member-insert [] (suc i) c d = refl
is_member-insert (x ∷ xs) (suc i) c d =
    ap (λ b. eqb d x || b) (is_member-insert xs i c d) ∙ turn (eqb d x) (eqb d c) (is_member nat_eq xs d)
  where
    turn : (a b m : Bool) → (a || (b || m)) ≡ (b || (a || m))
    turn true true m = refl
    turn true false m = refl
    turn false b m = refl

-- the number stands at the place, or at the end
pub place-insert : (xs : List ℕ) (i c : ℕ) → is_member nat_eq xs c ≡ false →
    place_of c (insert xs i c) ≡ min i (length xs)
place-insert xs zero c absent = place_here c c xs (own_eqb c) ∙ omega arith
place-insert [] (suc i) c absent = place_here c c [] (own_eqb c) ∙ omega arith
place-insert (x ∷ xs) (suc i) c absent =
    let parts = or_parts (eqb c x) (is_member nat_eq xs c) absent in
    let rest : place_of c (insert xs i c) ≡ min i (length xs) = place-insert xs i c parts.1 in
    place_there c x (insert xs i c) parts.0 ∙ omega arith

-- the others from there on stand one further
abbrev pub opened_place : ℕ → ℕ → ℕ
opened_place at place = cond (leb at place) (place + 1) place

opened_next : (i n p q : ℕ) → q ≡ opened_place (min i n) p → suc q ≡ opened_place (min (suc i) (suc n)) (suc p)
opened_next i n p q e = grind (arith, nat_tests)

opened_first : (i n : ℕ) → 0 ≡ opened_place (min (suc i) (suc n)) 0
opened_first i n = grind (arith, nat_tests)

opened_all : (i n p : ℕ) → min i n ≡ 0 → suc p ≡ opened_place (min i n) p
opened_all i n p e = grind (arith, nat_tests)

pub place-insert_other : (xs : List ℕ) (i c d : ℕ) → eqb d c ≡ false →
    place_of d (insert xs i c) ≡ opened_place (min i (length xs)) (place_of d xs)
place-insert_other xs zero c d other = place_there d c xs other ∙ opened_all 0 (length xs) (place_of d xs) (omega arith)
place-insert_other [] (suc i) c d other = place_there d c [] other ∙ opened_all (suc i) 0 0 (omega arith)
place-insert_other (x ∷ xs) (suc i) c d other =
    let at : ℕ = min (suc i) (suc (length xs)) in
    elim (cases_Bool (eqb d x)) [
      | inl is ↦ place_here d x (insert xs i c) is ∙ opened_first i (length xs)
          ∙ ap (opened_place at) (sym (place_here d x xs is))
      | inr unlike ↦
          place_there d x (insert xs i c) unlike
          ∙ opened_next i (length xs) (place_of d xs) (place_of d (insert xs i c))
          (place-insert_other xs i c d other)
          ∙ ap (opened_place at) (sym (place_there d x xs unlike))
    ]

-- ---- a number is taken out

all-remove_key : (P : ℕ → Type 0) (test : ℕ → Bool) (xs : List ℕ) → AllByRecursion P xs →
    AllByRecursion P (remove_key test xs)
all-remove_key P test [] all = tt
all-remove_key P test (x ∷ xs) all = elim (test x) as (λ b. AllByRecursion P (cond b xs (x ∷ remove_key test xs))) [
  | true ↦ all.1
  | false ↦ (all.0, all-remove_key P test xs all.1)
]

pub IsDistinct-remove_key : (test : ℕ → Bool) (xs : List ℕ) → IsDistinct nat_eq xs →
    IsDistinct nat_eq (remove_key test xs)
IsDistinct-remove_key test [] distinct = distinct
IsDistinct-remove_key test (x ∷ xs) distinct =
    let rest : IsDistinct nat_eq xs = IsDistinct-tail nat_eq x xs distinct in
    elim (test x) as (λ b. IsDistinct nat_eq (cond b xs (x ∷ remove_key test xs))) [
      | true ↦ rest
      | false ↦ IsDistinct-cons nat_eq x (remove_key test xs)
          (all-remove_key (λ y. nat_eq x y ≡ false) test xs (IsDistinct-head nat_eq x xs distinct))
          (IsDistinct-remove_key test xs rest)
    ]

of_first : (c d x : ℕ) (there : ℕ → Bool) → eqb c x ≡ true → there x ≡ false →
    there d ≡ cond (eqb c d) false (eqb d x || there d)
of_first c d x there is none = elim (cases_Bool (eqb c d)) [
  | inl same ↦
      ap there (sym (eqb-true c d same) ∙ eqb-true c x is) ∙ none
      ∙ sym (ap (λ b. cond b false (eqb d x || there d)) same)
  | inr other ↦
      let apart : eqb d x ≡ false = flip_eqb d x ∙ ap (λ y. eqb y d) (sym (eqb-true c x is)) ∙ other in
      sym (λ i. cond (other i) false (apart i || there d))
]

of_later : (c d x : ℕ) (m : Bool) → eqb c x ≡ false →
    (eqb d x || cond (eqb c d) false m) ≡ cond (eqb c d) false (eqb d x || m)
of_later c d x m other = elim (cases_Bool (eqb c d)) [
  | inl same ↦
      let apart : eqb d x ≡ false = ap (λ y. eqb y x) (sym (eqb-true c d same)) ∙ other in
      (λ i. apart i || cond (same i) false m) ∙ sym (ap (λ b. cond b false (eqb d x || m)) same)
  | inr unlike ↦ ap (λ b. eqb d x || cond b false m) unlike ∙ sym (ap (λ b. cond b false (eqb d x || m)) unlike)
]

pub is_member-remove_key : (xs : List ℕ) (c d : ℕ) → IsDistinct nat_eq xs →
    is_member nat_eq (remove_key (nat_eq c) xs) d ≡ cond (eqb c d) false (is_member nat_eq xs d)
is_member-remove_key [] c d distinct =
    elim (eqb c d) as (λ b. false ≡ cond b false false) [ true ↦ refl | false ↦ refl ]
is_member-remove_key (x ∷ xs) c d distinct =
    let rest : is_member nat_eq (remove_key (nat_eq c) xs) d ≡ cond (eqb c d) false (is_member nat_eq xs d) =
    is_member-remove_key xs c d (IsDistinct-tail nat_eq x xs distinct) in
    let none : is_member nat_eq xs x ≡ false = absent_from_others x xs (IsDistinct-head nat_eq x xs distinct) in
    elim (cases_Bool (eqb c x)) [
      | inl is ↦ ap (λ l. is_member nat_eq l d) (remove_here c x xs is) ∙ of_first c d x (is_member nat_eq xs) is none
      | inr other ↦ ap (λ l. is_member nat_eq l d) (remove_there c x xs other) ∙ ap (λ b. eqb d x || b) rest
          ∙ of_later c d x (is_member nat_eq xs d) other
    ]

-- the others after it stand one nearer
abbrev pub closed_place : ℕ → ℕ → ℕ
closed_place at place = cond (ltb at place) (place - 1) place

closed_next : (a p q : ℕ) → q ≡ closed_place a p → suc q ≡ closed_place (suc a) (suc p)
closed_next a p q e = grind (arith, nat_tests)

closed_first : (a : ℕ) → 0 ≡ closed_place a 0
closed_first a = grind (arith, nat_tests)

closed_all : (p : ℕ) → p ≡ closed_place 0 (suc p)
closed_all p = grind (arith, nat_tests)

both : {a b p q : ℕ} → a ≡ b → p ≡ q → closed_place a p ≡ closed_place b q
both e f = λ i. closed_place (e i) (f i)

pub place-remove_key : (xs : List ℕ) (c d : ℕ) → is_member nat_eq xs c ≡ true → eqb d c ≡ false →
    place_of d (remove_key (nat_eq c) xs) ≡ closed_place (place_of c xs) (place_of d xs)
place-remove_key [] c d there other = absurd (false≢true there)
place-remove_key (x ∷ xs) c d there other = elim (cases_Bool (eqb c x)) [
  | inl is_c ↦ elim (cases_Bool (eqb d x)) [
    | inl is_d ↦ absurd (true≢false (sym (eq-eqb d c (eqb-true d x is_d ∙ sym (eqb-true c x is_c))) ∙ other))
    | inr no_d ↦
        ap (place_of d) (remove_here c x xs is_c) ∙ closed_all (place_of d xs)
        ∙ both (sym (place_here c x xs is_c)) (sym (place_there d x xs no_d))
  ]
  | inr no_c ↦ elim (cases_Bool (eqb d x)) [
    | inl is_d ↦
        ap (place_of d) (remove_there c x xs no_c) ∙ place_here d x (remove_key (nat_eq c) xs) is_d
        ∙ closed_first (place_of c (x ∷ xs)) ∙ ap (closed_place (place_of c (x ∷ xs))) (sym (place_here d x xs is_d))
    | inr no_d ↦
        ap (place_of d) (remove_there c x xs no_c) ∙ place_there d x (remove_key (nat_eq c) xs) no_d
        ∙ closed_next (place_of c xs) (place_of d xs) (place_of d (remove_key (nat_eq c) xs))
        (place-remove_key xs c d (later c x xs no_c there) other)
        ∙ both (sym (place_there c x xs no_c)) (sym (place_there d x xs no_d))
  ]
]

-- ---- all places

-- along a list of different numbers the places count up
counts_up : (a : ℕ) (xs : List ℕ) → IsDistinct nat_eq xs →
    map (λ c. a + place_of c xs) xs ≡ range_with_len a (length xs)
counts_up a [] distinct = refl
counts_up a (x ∷ xs) distinct =
    let first : a + place_of x (x ∷ xs) ≡ a = omega (arith, place_here x x xs (own_eqb x)) in
    let next : map (λ c. a + place_of c (x ∷ xs)) xs ≡ map (λ c. a + 1 + place_of c xs) xs =
    map_agree (λ c. a + place_of c (x ∷ xs)) (λ c. a + 1 + place_of c xs) xs
    (all_weaker (λ c. nat_eq x c ≡ false) (λ c. a + place_of c (x ∷ xs) ≡ a + 1 + place_of c xs)
    (λ c other. omega (arith, place_there c x xs (flip_eqb c x ∙ other))) xs (IsDistinct-head nat_eq x xs distinct)) in
    let rest : map (λ c. a + 1 + place_of c xs) xs ≡ range_with_len (a + 1) (length xs) =
    counts_up (a + 1) xs (IsDistinct-tail nat_eq x xs distinct) in
    λ i. first i ∷ (next ∙ rest) i

pub places_count_up : (xs : List ℕ) → IsDistinct nat_eq xs → map (λ c. place_of c xs) xs ≡ range_with_len 0 (length xs)
places_count_up xs distinct = (λ i. map (λ c. sym (zero-add (place_of c xs)) i) xs) ∙ counts_up 0 xs distinct

-- different numbers below n are no more than n
pub length-le-different : (xs : List ℕ) (n : ℕ) → IsDistinct nat_eq xs → ((i : ℕ) → i < length xs → get_or xs i 0 < n) →
    length xs ≤ n
length-le-different xs n distinct below =
    length-le_from_distinct_below xs n distinct
    (λ q there. subst (λ x. x < n) (at_place q xs 0 there) (below (place_of q xs) (place_within q xs there)))
