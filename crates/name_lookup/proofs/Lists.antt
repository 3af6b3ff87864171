-- What a test keeps of a list, how many it counts, and lists in order.
use Rattle.std.proofs.Common.{◌≡◌, ℕ, ◌+◌, ◌-◌, ◌<◌, ◌≤◌, ◌⊎◌, Bool, true, false, cond, not, eqb, List, [], ◌∷◌, length}
use Rattle.std.proofs.Common.{get_or, filter, insert, remove, count_by, refl, sym, ap, subst, ◌∙◌, suc, zero, inl, inr}
use Rattle.std.proofs.Common.{arith, All, Contains, IsSortedBy, zero-add}
use Rattle.std.proofs.lemmas.Bool.{cases_Bool, cases_eq, cases_order, eq-eqb, ne_eqb}
use Rattle.std.proofs.lemmas.List.Edits.{length-insert, get_or-insert_below, get_or-insert_at, get_or-insert_above}
use Rattle.std.proofs.lemmas.List.Elements.{All-tail, All-nil, All-cons, Contains-get_or}
use Rattle.std.proofs.lemmas.List.Sums.{sum_by-cons}

-- ---- filters
module _ {X : Type 0} (p : X → Bool) where
  pub filter_everything : (xs : List X) → All (λ x. p x ≡ true) xs → filter p xs ≡ xs
  filter_everything [] all = refl
  filter_everything (x ∷ xs) all =
      let here : p x ≡ true = all 0 x (omega arith) in
      rw here (ap (λ rest. x ∷ rest) (filter_everything xs (All-tail (λ x. p x ≡ true) x xs all)))

-- ---- what is counted
pub count_by-cons : {X : Type 0} (p : X → Bool) (x : X) (xs : List X) →
    count_by p (x ∷ xs) ≡ cond (p x) 1 0 + count_by p xs
count_by-cons p x xs = sum_by-cons (λ x. cond (p x) 1 0) x xs

pub count_by-hit : {X : Type 0} (p : X → Bool) (x : X) (xs : List X) → p x ≡ true →
    count_by p (x ∷ xs) ≡ 1 + count_by p xs
count_by-hit p x xs hit = count_by-cons p x xs ∙ rw hit refl

pub count_by-miss : {X : Type 0} (p : X → Bool) (x : X) (xs : List X) → p x ≡ false →
    count_by p (x ∷ xs) ≡ count_by p xs
count_by-miss p x xs miss = count_by-cons p x xs ∙ rw miss (zero-add (count_by p xs))

pub count_by-filter : (number : ℕ) (keep : ℕ → Bool) (xs : List ℕ) →
    count_by (eqb number) (filter keep xs) ≡ cond (keep number) (count_by (eqb number) xs) 0
count_by-filter number keep [] = elim (keep number) as (λ b. ◌≡◌ {A = ℕ} 0 (cond b 0 0)) [ true ↦ refl | false ↦ refl ]
count_by-filter number keep (x ∷ xs) =
    by (count_by-filter number keep xs) (cases_eq number x) (cases_Bool (keep x))
  where
    by : count_by (eqb number) (filter keep xs) ≡ cond (keep number) (count_by (eqb number) xs) 0 →
        (number ≡ x) ⊎ (number ≡ x → ⊥) → (keep x ≡ true) ⊎ (keep x ≡ false) →
        count_by (eqb number) (filter keep (x ∷ xs)) ≡ cond (keep number) (count_by (eqb number) (x ∷ xs)) 0
    by rest (inl same) (inl hit) =
        let hit' : keep number ≡ true = rw same hit in
        let is : eqb number x ≡ true = eq-eqb number x same in
        rw (hit, hit') (count_by-hit (eqb number) x (filter keep xs) is
        ∙ ap (λ n. 1 + n) (rw hit' at rest) ∙ sym (count_by-hit (eqb number) x xs is))
    by rest (inl same) (inr miss) =
        let miss' : keep number ≡ false = rw same miss in rw (miss, miss') (rw miss' at rest)
    by rest (inr other) (inl hit) =
        let is : eqb number x ≡ false = ne_eqb number x other in
        rw hit (count_by-miss (eqb number) x (filter keep xs) is ∙ rest
        ∙ ap (λ n. cond (keep number) n 0) (sym (count_by-miss (eqb number) x xs is)))
    by rest (inr other) (inr miss) =
        let is : eqb number x ≡ false = ne_eqb number x other in
        rw miss (rest ∙ ap (λ n. cond (keep number) n 0) (sym (count_by-miss (eqb number) x xs is)))

none_counted : {X : Type 0} (p : X → Bool) (xs : List X) → count_by p xs ≡ 0 → All (λ x. not (p x) ≡ true) xs
none_counted p [] none = All-nil (λ x. not (p x) ≡ true)
none_counted p (x ∷ xs) none = by (none_counted p xs) (cases_Bool (p x))
  where
    by : (count_by p xs ≡ 0 → All (λ x. not (p x) ≡ true) xs) → (p x ≡ true) ⊎ (p x ≡ false) →
        All (λ x. not (p x) ≡ true) (x ∷ xs)
    by rest (inl hit) = absurd (omega (arith, none, count_by-hit p x xs hit))
    by rest (inr miss) =
        All-cons (λ x. not (p x) ≡ true) x xs (rw miss refl) (rest (sym (count_by-miss p x xs miss) ∙ none))

-- what is not counted is not there to be taken out
pub filter_absent : {X : Type 0} (p : X → Bool) (xs : List X) → count_by p xs ≡ 0 → filter (λ x. not (p x)) xs ≡ xs
filter_absent p xs none = filter_everything (λ x. not (p x)) xs (none_counted p xs none)

pub counted_at : {X : Type 0} (p : X → Bool) (xs : List X) (i : ℕ) → i < length xs →
    ((d : X) → p (get_or xs i d) ≡ true) → 0 < count_by p xs
counted_at p [] i lt hit = absurd (omega arith)
counted_at p (x ∷ xs) zero lt hit = omega (arith, count_by-hit p x xs (hit x))
counted_at p (x ∷ xs) (suc i) lt hit =
    omega (arith, count_by-cons p x xs, counted_at p xs i (omega arith) hit)

-- what is counted at most once is taken out at its place
pub filter_at : {X : Type 0} (p : X → Bool) (xs : List X) (i : ℕ) → count_by p xs ≤ 1 → i < length xs →
    ((d : X) → p (get_or xs i d) ≡ true) → remove xs i ≡ filter (λ x. not (p x)) xs
filter_at p [] i once lt hit = absurd (omega arith)
filter_at p (x ∷ xs) zero once lt hit =
    let here : p x ≡ true = hit x in
    rw here (sym (filter_absent p xs (omega (arith, once, count_by-hit p x xs here))))
filter_at {X} p (x ∷ xs) (suc i) once lt hit =
    let there : 0 < count_by p xs = counted_at p xs i (omega arith) hit in
    by (cases_Bool (p x)) there (filter_at p xs i)
  where
    by : (p x ≡ true) ⊎ (p x ≡ false) → 0 < count_by p xs →
        (count_by p xs ≤ 1 → i < length xs → ((d : X) → p (get_or xs i d) ≡ true) →
        remove xs i ≡ filter (λ x. not (p x)) xs) → x ∷ remove xs i ≡ filter (λ x. not (p x)) (x ∷ xs)
    by (inl here) there rest = absurd (omega (arith, once, count_by-hit p x xs here))
    by (inr miss) there rest =
        rw miss (ap (λ later. x ∷ later) (rest (omega (arith, once, count_by-miss p x xs miss)) (omega arith) hit))

-- a number that is counted stands somewhere
pub Contains-counted : (number : ℕ) (xs : List ℕ) → 0 < count_by (eqb number) xs → Contains xs number
Contains-counted number [] there = absurd (omega arith)
Contains-counted number (x ∷ xs) there = by (Contains-counted number xs) (cases_eq number x)
  where
    by : (0 < count_by (eqb number) xs → Contains xs number) → (number ≡ x) ⊎ (number ≡ x → ⊥) →
        Contains (x ∷ xs) number
    by rest (inl same) = (0, omega arith, sym same)
    by rest (inr other) =
        let later : Contains xs number =
        rest (omega (arith, there, count_by-miss (eqb number) x xs (ne_eqb number x other))) in
        (suc later.0, (let lt : later.0 < length xs = later.1 in omega arith), later.2)

-- ---- order
module _ {X : Type 0} (lt : X → X → Bool) where
  -- the same test on what is held now
  pub IsSortedBy-agree : (lt' : X → X → Bool) (xs : List X) →
      ((x y : X) → Contains xs x → Contains xs y → lt' x y ≡ lt x y) →
      IsSortedBy lt xs → IsSortedBy lt' xs
  IsSortedBy-agree lt' xs agree sorted = λ k d low high.
      agree (get_or xs (k + 1) d) (get_or xs k d)
      (Contains-get_or xs (k + 1) d high) (Contains-get_or xs k d (omega arith)) ∙ sorted k d low high

  -- an element between those that are not above it and those that are not below it
  pub IsSortedBy-insert : (xs : List X) (y : X) (i : ℕ) → i ≤ length xs → IsSortedBy lt xs →
      ((k : ℕ) (d : X) → k < i → lt y (get_or xs k d) ≡ false) →
      ((d : X) → i < length xs → lt (get_or xs i d) y ≡ false) → IsSortedBy lt (insert xs i y)
  IsSortedBy-insert xs y i le sorted below above j d z in_range =
      by (length-insert xs i y le) (cases_order (j + 1) i) (cases_order i j)
    where
      by : length (insert xs i y) ≡ length xs + 1 →
          ((j + 1) ≡ i) ⊎ (((j + 1) < i) ⊎ (i < (j + 1))) → (i ≡ j) ⊎ ((i < j) ⊎ (j < i)) →
          lt (get_or (insert xs i y) (j + 1) d) (get_or (insert xs i y) j d) ≡ false
      by long (inr (inl low)) other =
          rw (get_or-insert_below xs i y d (j + 1) low le, get_or-insert_below xs i y d j (omega arith) le)
          (sorted j d (omega arith) (omega arith))
      by long (inl next) other =
          rw (
            ← next,
            get_or-insert_at xs (j + 1) y d (omega arith),
            get_or-insert_below xs (j + 1) y d j (omega arith) (omega arith),
          )
          (below j d (omega arith))
      by long (inr (inr high)) (inl here) =
          rw (← here, get_or-insert_above xs i y d i (omega arith) le, get_or-insert_at xs i y d le)
          (above d (omega arith))
      by long (inr (inr high)) (inr (inl later)) =
          let last : (j - 1) + 1 ≡ j = omega arith in
          let held : get_or (insert xs i y) j d ≡ get_or xs (j - 1) d =
          sym (ap (λ q. get_or (insert xs i y) q d) last) ∙ get_or-insert_above xs i y d (j - 1) (omega arith) le in
          rw (get_or-insert_above xs i y d j (omega arith) le, held)
          (subst (λ q. lt (get_or xs q d) (get_or xs (j - 1) d) ≡ false) last
          (sorted (j - 1) d (omega arith) (omega arith)))
      by long (inr (inr high)) (inr (inr earlier)) = absurd (omega arith)
