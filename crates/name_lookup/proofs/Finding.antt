-- What a walk of the order finds is what the rows have.
use Rattle.std.proofs.Common.{◌≡◌, ℕ, ◌+◌, ◌<◌, ◌≤◌, ◌⊎◌, true, false, cond, eqb, List, [], ◌∷◌, map, filter, length}
use Rattle.std.proofs.Common.{get_or, count_by, Option, Some, None, is_some, unwrap_or, refl, sym, ap, ap₂, ◌∙◌, suc}
use Rattle.std.proofs.Common.{inl, inr, true≢false, arith, Contains, IsPermutation}
use Rattle.std.specs.List.{AllByRecursion}
use Rattle.std.specs.List.Sorted.{IsNonDecreasing, IsPartitionPoint}
use Rattle.std.proofs.lemmas.Bool.{cases_Bool, cases_eq, cases_order, eq-eqb, ne_eqb, false_from_ne_true}
use Rattle.std.proofs.lemmas.Option.{same_Some}
use Rattle.std.proofs.lemmas.List.{get_or_default}
use Rattle.std.proofs.lemmas.List.Elements.{recursion_from_All, Contains-get_or}
use Rattle.std.proofs.lemmas.List.Sorted.{sum_by-IsPermutation}
use Rattle.kom_types.specs.Names.{clash, finds}
use Rattle.name_lookup.specs.declared.order.By.TheVariants.{Name}
use Rattle.std.specs.Map.{lookup}
use Rattle.name_lookup.specs.NamedRows.{Named, clash_of, matches_of}
use Rattle.name_lookup.specs.Order.{name_in, is_below, rows_of, StandsOnce, IsOrder}
use Rattle.name_lookup.proofs.Lists.{count_by-cons, count_by-hit, count_by-miss, count_by-filter, counted_at}
use Rattle.name_lookup.proofs.Lists.{Contains-counted}
use Rattle.name_lookup.proofs.Rows.{AllAbove, IsRising, name_at, name_at-none, name_at-rows_of, IsRising-rows_of}
use Rattle.name_lookup.proofs.Clashes.{taken_is, taken_none}
use Rattle.name_lookup.proofs.Orders.{clash_itself, first_alike}

-- ---- numbers that rise are told apart by their counts
abbrev Rises : List ℕ → Type 0
Rises [] = Unit {0}
Rises (x ∷ xs) = AllByRecursion (λ y. x ≤ y) xs × Rises xs

Rises-from : (xs : List ℕ) → IsNonDecreasing xs → Rises xs
Rises-from [] up = tt
Rises-from (x ∷ xs) up = (
  recursion_from_All (λ y. x ≤ y) xs (λ k d lt. up 0 (suc k) d (omega arith) (omega arith)),
  Rises-from xs (λ i j d le lt. up (suc i) (suc j) d (omega arith) (omega arith)),
)

count-below : (number : ℕ) (xs : List ℕ) → AllByRecursion (λ y. number < y) xs → count_by (eqb number) xs ≡ 0
count-below number [] above = refl
count-below number (x ∷ xs) above =
    let here : number < x = above.0 in
    count_by-miss (eqb number) x xs (ne_eqb number x (λ e. omega arith)) ∙ count-below number xs above.1

above_head : (low x : ℕ) (xs : List ℕ) → low < x → AllByRecursion (λ y. x ≤ y) xs → AllByRecursion (λ y. low < y) xs
above_head low x [] lt all = tt
above_head low x (y ∷ xs) lt all = let here : x ≤ y = all.0 in (omega arith, above_head low x xs lt all.1)

count-head : (x : ℕ) (xs : List ℕ) → count_by (eqb x) (x ∷ xs) ≡ 1 + count_by (eqb x) xs
count-head x xs = count_by-hit (eqb x) x xs (eq-eqb x x refl)

same_counts : (xs ys : List ℕ) → Rises xs → Rises ys → ((n : ℕ) → count_by (eqb n) xs ≡ count_by (eqb n) ys) → xs ≡ ys
same_counts [] [] up up' same = refl
same_counts [] (y ∷ ys) up up' same = absurd (omega (arith, same y, count-head y ys))
same_counts (x ∷ xs) [] up up' same = absurd (omega (arith, same x, count-head x xs))
same_counts (x ∷ xs) (y ∷ ys) up up' same = by (same_counts xs ys up.1 up'.1) (cases_order x y)
  where
    rest : x ≡ y → (n : ℕ) → count_by (eqb n) xs ≡ count_by (eqb n) ys
    rest e n =
        let heads : cond {A = ℕ} (eqb n x) 1 0 ≡ cond (eqb n y) 1 0 = ap (λ z. cond {A = ℕ} (eqb n z) 1 0) e in
        omega (arith, same n, count_by-cons (eqb n) x xs, count_by-cons (eqb n) y ys, heads)

    by : (((n : ℕ) → count_by (eqb n) xs ≡ count_by (eqb n) ys) → xs ≡ ys) →
        (x ≡ y) ⊎ ((x < y) ⊎ (y < x)) → x ∷ xs ≡ y ∷ ys
    by tails (inl e) = ap₂ (λ z zs. z ∷ zs) e (tails (rest e))
    by tails (inr (inl below)) =
        let none = count-below x (y ∷ ys) (below, above_head x y ys below up'.0) in
        absurd (omega (arith, same x, none, count-head x xs))
    by tails (inr (inr above)) =
        let none = count-below y (x ∷ xs) (above, above_head y x xs above up.0) in
        absurd (omega (arith, same y, none, count-head y ys))

-- ---- what a pattern finds
abbrev counted : List ℕ → Option (List ℕ) → ℕ
counted pattern None = 0
counted pattern (Some name) = cond (finds pattern name) 1 0

found_above : (bound : ℕ) (pattern : List ℕ) (rows : List Named) → AllAbove bound rows →
    AllByRecursion (λ y. bound ≤ y) (matches_of pattern rows)
found_above bound pattern [] above = tt
found_above bound pattern (one ∷ rows) above =
    let here : bound < one.number = above.0 in
    let rest : AllByRecursion (λ y. bound ≤ y) (matches_of pattern rows) = found_above bound pattern rows above.1 in
    elim (finds pattern one.name) as (λ b. AllByRecursion (λ y. bound ≤ y) (map (λ one. one.number)
    (cond b (one ∷ filter (λ one. finds pattern one.name) rows) (filter (λ one. finds pattern one.name) rows)))) [
      | true ↦ (omega arith, rest)
      | false ↦ rest
    ]

Rises-found : (pattern : List ℕ) (rows : List Named) → IsRising rows → Rises (matches_of pattern rows)
Rises-found pattern [] rising = tt
Rises-found pattern (one ∷ rows) rising =
    let rest : Rises (matches_of pattern rows) = Rises-found pattern rows rising.1 in
    elim (finds pattern one.name) as (λ b. Rises (map (λ one. one.number)
    (cond b (one ∷ filter (λ one. finds pattern one.name) rows) (filter (λ one. finds pattern one.name) rows)))) [
      | true ↦ (found_above one.number pattern rows rising.0, rest)
      | false ↦ rest
    ]

count-found : (number : ℕ) (pattern : List ℕ) (rows : List Named) → IsRising rows →
    count_by (eqb number) (matches_of pattern rows) ≡ counted pattern (name_at number rows)
count-found number pattern [] rising = refl
count-found number pattern (one ∷ rows) rising =
    by (count-found number pattern rows rising.1) (cases_Bool (finds pattern one.name)) (cases_eq number one.number)
  where
    by : count_by (eqb number) (matches_of pattern rows) ≡ counted pattern (name_at number rows) →
        (finds pattern one.name ≡ true) ⊎ (finds pattern one.name ≡ false) →
        (number ≡ one.number) ⊎ (number ≡ one.number → ⊥) →
        count_by (eqb number) (matches_of pattern (one ∷ rows)) ≡ counted pattern (name_at number (one ∷ rows))
    by rest (inl hit) (inl here) =
        let none = name_at-none number rows (rw here rising.0) in
        let is : eqb number one.number ≡ true = eq-eqb number one.number here in
        let later : count_by (eqb number) (matches_of pattern rows) ≡ 0 = rest ∙ ap (counted pattern) none in
        rw (hit, is, hit) (count_by-hit (eqb number) one.number (matches_of pattern rows) is ∙ ap (λ n. 1 + n) later)
    by rest (inl hit) (inr other) =
        let is : eqb number one.number ≡ false = ne_eqb number one.number other in
        rw (hit, is) (count_by-miss (eqb number) one.number (matches_of pattern rows) is ∙ rest)
    by rest (inr miss) (inl here) =
        let none = name_at-none number rows (rw here rising.0) in
        rw (miss, eq-eqb number one.number here, miss) (rest ∙ ap (counted pattern) none)
    by rest (inr miss) (inr other) = rw (miss, ne_eqb number one.number other) rest

module _ (entries : List (ℕ × List ℕ)) (order : List ℕ) where
  count-walked : (pattern : List ℕ) (number : ℕ) → StandsOnce entries order →
      count_by (eqb number) (filter (λ one. finds pattern (name_in entries one)) order)
      ≡ counted pattern (lookup (eqb number) entries)
  count-walked pattern number once =
      count_by-filter number (λ one. finds pattern (name_in entries one)) order
      ∙ by (lookup (eqb number) entries) (once number)
    where
      by : (held : Option (List ℕ)) → count_by (eqb number) order ≡ cond (is_some held) 1 0 →
          cond (finds pattern (unwrap_or held [])) (count_by (eqb number) order) 0 ≡ counted pattern held
      by None is = rw is (elim (finds pattern []) as (λ b. ◌≡◌ {A = ℕ} (cond b 0 0) 0) [ true ↦ refl | false ↦ refl ])
      by (Some name) is = rw is refl

  pub found_sorted : (pattern walked numbers : List ℕ) → IsOrder entries order →
      walked ≡ filter (λ one. finds pattern (name_in entries one)) order → IsPermutation walked numbers →
      IsNonDecreasing numbers → numbers ≡ matches_of pattern (rows_of entries)
  found_sorted pattern walked numbers is same moved up =
      let rows = rows_of entries in
      let rising = IsRising-rows_of entries in
      same_counts numbers (matches_of pattern rows) (Rises-from numbers up) (Rises-found pattern rows rising) (λ number.
      sum_by-IsPermutation (λ x. cond (eqb number x) 1 0) walked numbers moved
      ∙ ap (count_by (eqb number)) same ∙ count-walked pattern number is.once
      ∙ ap (counted pattern) (sym (name_at-rows_of number entries))
      ∙ sym (count-found number pattern rows rising))

  -- ---- the name that clashes
  pub taken_there : (name : List ℕ) (number : ℕ) → IsOrder entries order → Contains order number →
      clash name (name_in entries number) ≡ true → clash_of name (rows_of entries) ≡ Some number
  taken_there name number is at alike =
      by (lookup (eqb number) entries) refl alike (is.once number)
      (counted_at (eqb number) order at.0 at.1 (λ d.
      eq-eqb number (get_or order at.0 d) (sym at.2 ∙ get_or_default order at.0 number d at.1)))
    where
      by : (held : Option (List ℕ)) → lookup (eqb number) entries ≡ held → clash name (unwrap_or held []) ≡ true →
          count_by (eqb number) order ≡ cond (is_some held) 1 0 → 0 < count_by (eqb number) order →
          clash_of name (rows_of entries) ≡ Some number
      by None known hit none there = absurd (omega (arith, none, there))
      by (Some held) known hit once there =
          taken_is name number held (rows_of entries) is.none_clash (name_at-rows_of number entries ∙ known) hit

  -- a number that has a name stands in the order
  Contains-known : (number : ℕ) (name : List ℕ) → StandsOnce entries order → lookup (eqb number) entries ≡ Some name →
      Contains order number
  Contains-known number name once known =
      let one : count_by (eqb number) order ≡ 1 = rw known at (once number) in
      Contains-counted number order (omega (arith, one))

  name_known : (number k : ℕ) (name : List ℕ) → lookup (eqb number) entries ≡ Some name → get_or order k 0 ≡ number →
      name_in entries (get_or order k 0) ≡ name
  name_known number k name known at = ap (name_in entries) at ∙ ap (λ held. unwrap_or held []) known

  module _ (name : List ℕ) (place : ℕ) (is : IsOrder entries order)
      (point : IsPartitionPoint (λ number. is_below entries Name name number ≡ true)
      (λ number. is_below entries Name name number ≡ false) order place) where
    alike_first : (number : ℕ) (held : List ℕ) → lookup (eqb number) entries ≡ Some held → clash name held ≡ true →
        (place < length order) × (clash name (name_in entries (get_or order place 0)) ≡ true)
    alike_first number held known alike =
        let there : Contains order number = Contains-known number held is.once known in
        let at : get_or order there.0 0 ≡ number = get_or_default order there.0 0 number there.1 ∙ there.2 in
        first_alike entries name order place there.0 is.by_name there.1 point
        (ap (clash name) (name_known number there.0 held known at) ∙ alike)

    pub taken_nowhere : (place < length order → clash name (name_in entries (get_or order place 0)) ≡ false) →
        clash_of name (rows_of entries) ≡ None
    taken_nowhere apart = taken_none name (rows_of entries) (IsRising-rows_of entries) (λ number held at.
        false_from_ne_true (clash name held) (λ alike.
        let known : lookup (eqb number) entries ≡ Some held = sym (name_at-rows_of number entries) ∙ at in
        let first : (place < length order) × (clash name (name_in entries (get_or order place 0)) ≡ true) =
        alike_first number held known alike in
        true≢false (sym first.1 ∙ apart first.0)))

    -- a number stands where its name would be put
    pub stands_first : (number : ℕ) → lookup (eqb number) entries ≡ Some name →
        (place < length order) × (get_or order place 0 ≡ number)
    stands_first number known =
        let first : (place < length order) × (clash name (name_in entries (get_or order place 0)) ≡ true) =
        alike_first number name known (clash_itself name) in
        let here : clash_of name (rows_of entries) ≡ Some (get_or order place 0) =
        taken_there name (get_or order place 0) is (Contains-get_or order place 0 first.0) first.1 in
        let this : clash_of name (rows_of entries) ≡ Some number =
        taken_there name number is (Contains-known number name is.once known)
        (ap (λ held. clash name (unwrap_or held [])) known ∙ clash_itself name) in
        (first.0, same_Some (get_or order place 0) number (sym here ∙ this))
