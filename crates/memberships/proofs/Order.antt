-- A list in the order of a number: it has the same elements, and there is one such list.
use Rattle.std.proofs.Common.{◌≡◌, ◌≢◌, ℕ, ◌<◌, ◌≤◌, Bool, true, false, cond, ltb, List, [], ◌∷◌, length, map, fold}
use Rattle.std.proofs.Common.{find, Option, Some, None, refl, sym, ◌∙◌, ap, subst, zero, suc, ◌+◌, arith, Decides}
use Rattle.std.specs.List.{AllByRecursion, range_with_len}
use Rattle.std.specs.Option.{option_or}
use Rattle.std.proofs.lemmas.Bool.{ltb-true, ltb-false, true≢false, false_from_ne_true}
use Rattle.std.proofs.lemmas.Option.{same_Some, none-some}
use Rattle.memberships.specs.Order.{insert_by, sort_by}
use Rattle.memberships.proofs.Pairs.{all_weaker, all_both, Pairwise}

module _ {X : Type 0} (number : X → ℕ) where
  -- the numbers rise
  abbrev pub Rises : List X → Type 0
  Rises xs = Pairwise (λ x y. number x < number y) xs

  -- the numbers do not fall
  abbrev Climbs : List X → Type 0
  Climbs xs = Pairwise (λ x y. number x ≤ number y) xs

  pub all_placed : (P : X → Type 0) (x : X) (xs : List X) → P x → AllByRecursion P xs →
      AllByRecursion P (insert_by number x xs)
  all_placed P x [] here all = (here, tt)
  all_placed P x (y ∷ ys) here all =
      elim (ltb (number x) (number y)) as (λ b. AllByRecursion P (cond b (x ∷ y ∷ ys) (y ∷ insert_by number x ys))) [
        | true ↦ (here, all)
        | false ↦ (all.0, all_placed P x ys here all.1)
      ]

  -- what holds of any two elements in either order holds of them once they are in order
  pairwise_placed : (R : X → X → Type 0) → ((x y : X) → R x y → R y x) → (x : X) (xs : List X) →
      AllByRecursion (R x) xs → Pairwise R xs → Pairwise R (insert_by number x xs)
  pairwise_placed R flip x [] here pairs = (tt, tt)
  pairwise_placed R flip x (y ∷ ys) here pairs =
      elim (ltb (number x) (number y)) as (λ b. Pairwise R (cond b (x ∷ y ∷ ys) (y ∷ insert_by number x ys))) [
        | true ↦ (here, pairs)
        | false ↦ (all_placed (R y) x ys (flip x y here.0) pairs.0, pairwise_placed R flip x ys here.1 pairs.1)
      ]

  pairwise_fold : (R : X → X → Type 0) → ((x y : X) → R x y → R y x) → (sorted xs : List X) → Pairwise R sorted →
      Pairwise R xs → AllByRecursion (λ x. AllByRecursion (R x) sorted) xs →
      Pairwise R (fold (λ s x. insert_by number x s) sorted xs)
  pairwise_fold R flip sorted [] before pairs across = before
  pairwise_fold R flip sorted (x ∷ xs) before pairs across =
      pairwise_fold R flip (insert_by number x sorted) xs (pairwise_placed R flip x sorted across.0 before) pairs.1
      (all_both (R x) (λ y. AllByRecursion (R y) sorted) (λ y. AllByRecursion (R y) (insert_by number x sorted))
      (λ y one all. all_placed (R y) x sorted (flip x y one) all) xs pairs.0 across.1)

  all_nil : (P : X → List X → Type 0) → ((x : X) → P x []) → (xs : List X) → AllByRecursion (λ x. P x []) xs
  all_nil P none [] = tt
  all_nil P none (x ∷ xs) = (none x, all_nil P none xs)

  pub pairwise_ordered : (R : X → X → Type 0) → ((x y : X) → R x y → R y x) → (xs : List X) → Pairwise R xs →
      Pairwise R (sort_by number xs)
  pairwise_ordered R flip xs pairs =
      pairwise_fold R flip [] xs tt pairs (all_nil (λ x ys. AllByRecursion (R x) ys) (λ x. tt) xs)

  climbs_placed : (x : X) (xs : List X) → Climbs xs → Climbs (insert_by number x xs)
  climbs_placed x [] climbs = (tt, tt)
  climbs_placed x (y ∷ ys) climbs =
      elim (ltb (number x) (number y)) as
      (λ b. ltb (number x) (number y) ≡ b → Climbs (cond b (x ∷ y ∷ ys) (y ∷ insert_by number x ys))) [
        | true ↦ λ e.
            let below : number x < number y = ltb-true (number x) (number y) e in (
              (
                omega arith,
                all_weaker (λ z. number y ≤ number z) (λ z. number x ≤ number z) (λ z le. omega arith) ys
                    climbs.0,
              ),
              climbs,
            )
        | false ↦ λ e.
            let above : number y ≤ number x = ltb-false (number x) (number y) e in
            (all_placed (λ z. number y ≤ number z) x ys above climbs.0, climbs_placed x ys climbs.1)
      ] refl

  climbs_fold : (sorted xs : List X) → Climbs sorted → Climbs (fold (λ s x. insert_by number x s) sorted xs)
  climbs_fold sorted [] climbs = climbs
  climbs_fold sorted (x ∷ xs) climbs = climbs_fold (insert_by number x sorted) xs (climbs_placed x sorted climbs)

  rises_from_apart : (xs : List X) → Climbs xs → Pairwise (λ x y. number x ≢ number y) xs → Rises xs
  rises_from_apart [] climbs apart = tt
  rises_from_apart (x ∷ xs) climbs apart = (
    all_both (λ y. number x ≤ number y) (λ y. number x ≢ number y) (λ y. number x < number y)
        (λ y le ne. omega arith) xs climbs.0 apart.0,
    rises_from_apart xs climbs.1 apart.1,
  )

  -- in order, numbers that differ rise
  pub rises_ordered : (xs : List X) → Pairwise (λ x y. number x ≢ number y) xs → Rises (sort_by number xs)
  rises_ordered xs apart =
      rises_from_apart (sort_by number xs) (climbs_fold [] xs tt)
      (pairwise_ordered (λ x y. number x ≢ number y) (λ x y ne e. ne (sym e)) xs apart)

  -- numbers that count up rise
  above_first : (a b n : ℕ) (xs : List X) → a < b → map number xs ≡ range_with_len b n →
      AllByRecursion (λ x. a < number x) xs
  above_first a b n [] below counted = tt
  above_first a b zero (x ∷ xs) below counted = cc
  above_first a b (suc n) (x ∷ xs) below counted =
      let first : number x ≡ b = cc in
      let rest : map number xs ≡ range_with_len (b + 1) n = cc in
      (omega arith, above_first a (b + 1) n xs (omega arith) rest)

  pub rises_counted : (a n : ℕ) (xs : List X) → map number xs ≡ range_with_len a n → Rises xs
  rises_counted a n [] counted = tt
  rises_counted a zero (x ∷ xs) counted = cc
  rises_counted a (suc n) (x ∷ xs) counted =
      let first : number x ≡ a = cc in
      let rest : map number xs ≡ range_with_len (a + 1) n = cc in
      (above_first (number x) (a + 1) n xs (omega arith) rest, rises_counted (a + 1) n xs rest)

  length-placed : (x : X) (xs : List X) → length (insert_by number x xs) ≡ suc (length xs)
  length-placed x [] = refl
  length-placed x (y ∷ ys) =
      elim (ltb (number x) (number y)) as
      (λ b. length (cond b (x ∷ y ∷ ys) (y ∷ insert_by number x ys)) ≡ suc (suc (length ys))) [
        | true ↦ refl
        | false ↦ ap suc (length-placed x ys)
      ]

  length-fold : (sorted xs : List X) → length (fold (λ s x. insert_by number x s) sorted xs) ≡ length sorted + length xs
  length-fold sorted [] = omega arith
  length-fold sorted (x ∷ xs) =
      let more : length (insert_by number x sorted) ≡ suc (length sorted) = length-placed x sorted in
      let rest : length (fold (λ s x. insert_by number x s) (insert_by number x sorted) xs)
      ≡ length (insert_by number x sorted) + length xs = length-fold (insert_by number x sorted) xs in
      omega arith

  pub length-ordered : (xs : List X) → length (sort_by number xs) ≡ length xs
  length-ordered xs = omega (arith, length-fold [] xs)

  module _ {K : Type 0} (eq : K → K → Bool) (same : (a b : K) → Decides (eq a b) (a ≡ b)) (id : X → K) where
    -- the element of a name
    abbrev pub named : K → List X → Option X
    named k xs = find (λ x. eq k (id x)) xs

    -- the names differ
    abbrev pub Differ : List X → Type 0
    Differ xs = Pairwise (λ x y. eq (id x) (id y) ≡ false) xs

    own : (x : X) → eq (id x) (id x) ≡ true
    own x = (same (id x) (id x)).1 refl

    pub differ_flip : (x y : X) → eq (id x) (id y) ≡ false → eq (id y) (id x) ≡ false
    differ_flip x y differs =
        false_from_ne_true _
        (λ holds. true≢false (sym ((same (id x) (id y)).1 (sym ((same (id y) (id x)).0 holds))) ∙ differs))

    -- a name that no element has
    pub named-none : (k : K) (xs : List X) → AllByRecursion (λ y. eq k (id y) ≡ false) xs → named k xs ≡ None
    named-none k [] none = refl
    named-none k (x ∷ xs) none = let other : eq k (id x) ≡ false = none.0 in rw other (named-none k xs none.1)

    -- what a name finds has the name
    pub named_has : (k : K) (xs : List X) (x : X) → named k xs ≡ Some x → k ≡ id x
    named_has k [] x found = absurd (none-some x found)
    named_has k (y ∷ ys) x found =
        elim (eq k (id y)) as (λ b. eq k (id y) ≡ b → cond b (Some y) (named k ys) ≡ Some x → k ≡ id x) [
          | true ↦ λ e here. (same k (id y)).0 e ∙ ap id (same_Some y x here)
          | false ↦ λ e later. named_has k ys x later
        ] refl found

    -- a name that is found among the others is not that of the first
    named_later : (k : K) (x : X) (xs : List X) (y : X) → AllByRecursion (λ z. eq (id x) (id z) ≡ false) xs →
        named k xs ≡ Some y → eq k (id x) ≡ false
    named_later k x xs y none found = false_from_ne_true _ (λ holds.
        let is : k ≡ id x = (same k (id x)).0 holds in
        none-some y (sym (named-none (id x) xs none) ∙ ap (λ j. named j xs) (sym is) ∙ found))

    named_tail : (k : K) (x : X) (xs : List X) (y : X) → AllByRecursion (λ z. eq (id x) (id z) ≡ false) xs →
        named k xs ≡ Some y → named k (x ∷ xs) ≡ Some y
    named_tail k x xs y none found = let other : eq k (id x) ≡ false = named_later k x xs y none found in rw other found

    named_head : (x : X) (xs : List X) → named (id x) (x ∷ xs) ≡ Some x
    named_head x xs = let here : eq (id x) (id x) ≡ true = own x in rw here refl

    -- what holds of each element that a name finds holds of each element
    pub all_from_named : (P : X → Type 0) (xs : List X) → Differ xs → ((k : K) (y : X) → named k xs ≡ Some y → P y) →
        AllByRecursion P xs
    all_from_named P [] differ each = tt
    all_from_named P (x ∷ xs) differ each = (
      each (id x) x (named_head x xs),
      all_from_named P xs differ.1 (λ k y found. each k y (named_tail k x xs y differ.0 found)),
    )

    -- numbers that tell names differ
    pub apart_from_named : (xs : List X) → Differ xs →
        ((j k : K) (x y : X) → named j xs ≡ Some x → named k xs ≡ Some y → number x ≡ number y → j ≡ k) →
        Pairwise (λ x y. number x ≢ number y) xs
    apart_from_named [] differ tells = tt
    apart_from_named (x ∷ xs) differ tells = (
      all_from_named (λ y. number x ≢ number y) xs differ.1 (λ k y found e.
          let one : id x ≡ k = tells (id x) k x y (named_head x xs) (named_tail k x xs y differ.0 found) e in
          true≢false (sym ((same k (id x)).1 (sym one)) ∙ named_later k x xs y differ.0 found)),
      apart_from_named xs differ.1
          (λ j k a b found other. tells j k a b (named_tail j x xs a differ.0 found)
          (named_tail k x xs b differ.0 other)),
    )

    named-placed : (k : K) (x : X) (xs : List X) → AllByRecursion (λ y. eq (id x) (id y) ≡ false) xs →
        named k (insert_by number x xs) ≡ cond (eq k (id x)) (Some x) (named k xs)
    named-placed k x [] differ = refl
    named-placed k x (y ∷ ys) differ =
        elim (ltb (number x) (number y)) as
        (λ b. named k (cond b (x ∷ y ∷ ys) (y ∷ insert_by number x ys))
        ≡ cond (eq k (id x)) (Some x) (named k (y ∷ ys))) [
          | true ↦ refl
          | false ↦
              ap (λ r. cond (eq k (id y)) (Some y) r) (named-placed k x ys differ.1)
              ∙ swap_tests (eq k (id y)) (eq k (id x)) refl refl
        ]
      where
        swap_tests : (a b : Bool) → eq k (id y) ≡ a → eq k (id x) ≡ b →
            cond a (Some y) (cond b (Some x) (named k ys)) ≡ cond b (Some x) (cond a (Some y) (named k ys))
        swap_tests true true is_y is_x =
            absurd (true≢false (sym ((same (id x) (id y)).1 (sym ((same k (id x)).0 is_x) ∙ (same k (id y)).0 is_y))
            ∙ differ.0))
        swap_tests true false is_y is_x = refl
        swap_tests false true is_y is_x = refl
        swap_tests false false is_y is_x = refl

    named-fold : (k : K) (sorted xs : List X) → Differ xs →
        AllByRecursion (λ x. AllByRecursion (λ y. eq (id x) (id y) ≡ false) sorted) xs →
        named k (fold (λ s x. insert_by number x s) sorted xs) ≡ option_or (named k xs) (named k sorted)
    named-fold k sorted [] differ across = refl
    named-fold k sorted (x ∷ xs) differ across =
        named-fold k (insert_by number x sorted) xs differ.1 later
        ∙ ap (option_or (named k xs)) (named-placed k x sorted across.0)
        ∙ first (eq k (id x)) refl
      where
        later : AllByRecursion (λ z. AllByRecursion (λ y. eq (id z) (id y) ≡ false) (insert_by number x sorted)) xs
        later =
            all_both (λ z. eq (id x) (id z) ≡ false) (λ z. AllByRecursion (λ y. eq (id z) (id y) ≡ false) sorted)
            (λ z. AllByRecursion (λ y. eq (id z) (id y) ≡ false) (insert_by number x sorted))
            (λ z one all. all_placed (λ y. eq (id z) (id y) ≡ false) x sorted (differ_flip x z one) all) xs differ.0
            across.1

        first : (b : Bool) → eq k (id x) ≡ b →
            option_or (named k xs) (cond b (Some x) (named k sorted))
            ≡ option_or (cond b (Some x) (named k xs)) (named k sorted)
        first true is =
            let none : named k xs ≡ None =
            ap (λ j. named j xs) ((same k (id x)).0 is) ∙ named-none (id x) xs differ.0 in
            rw none refl
        first false is = refl

    or_none : (o : Option X) → option_or o None ≡ o
    or_none None = refl
    or_none (Some x) = refl

    -- a list in order has the same elements
    pub named-ordered : (k : K) (xs : List X) → Differ xs → named k (sort_by number xs) ≡ named k xs
    named-ordered k xs differ =
        named-fold k [] xs differ (all_nil (λ x ys. AllByRecursion (λ y. eq (id x) (id y) ≡ false) ys) (λ x. tt) xs)
        ∙ or_none (named k xs)

    pub differ_ordered : (xs : List X) → Differ xs → Differ (sort_by number xs)
    differ_ordered xs differ = pairwise_ordered (λ x y. eq (id x) (id y) ≡ false) differ_flip xs differ

    -- what holds of each element holds of the one that a name finds
    pub named_all : (P : X → Type 0) (k : K) (xs : List X) (x : X) → AllByRecursion P xs → named k xs ≡ Some x → P x
    named_all P k [] x all found = absurd (none-some x found)
    named_all P k (y ∷ ys) x all found = elim (eq k (id y)) as (λ b. cond b (Some y) (named k ys) ≡ Some x → P x) [
      | true ↦ λ here. subst P (same_Some y x here) all.0
      | false ↦ λ later. named_all P k ys x all.1 later
    ] found

    named_next : (k : K) (x : X) (xs : List X) → eq k (id x) ≡ false → named k (x ∷ xs) ≡ named k xs
    named_next k x xs other = rw other refl

    named_here : (k : K) (x : X) (xs : List X) → eq k (id x) ≡ true → named k (x ∷ xs) ≡ Some x
    named_here k x xs is = rw is refl

    -- rising lists with the same elements have the same first one
    same_first : (x y : X) (xs ys : List X) → Rises (x ∷ xs) → Rises (y ∷ ys) → named (id x) (y ∷ ys) ≡ Some x →
        named (id y) (x ∷ xs) ≡ Some y → x ≡ y
    same_first x y xs ys rises others is_x is_y = by (eq (id x) (id y)) refl
      where
        by : (b : Bool) → eq (id x) (id y) ≡ b → x ≡ y
        by true e = same_Some x y (sym is_x ∙ named_here (id x) y ys e)
        by false e =
            let below : number x < number y =
            named_all (λ z. number x < number z) (id y) xs y rises.0
            (sym (named_next (id y) x xs (differ_flip x y e)) ∙ is_y) in
            let above : number y < number x =
            named_all (λ z. number y < number z) (id x) ys x others.0 (sym (named_next (id x) y ys e) ∙ is_x) in
            absurd (omega arith)

    same_rest : (x : X) (xs ys : List X) → Differ (x ∷ xs) → Differ (x ∷ ys) →
        ((k : K) → named k (x ∷ xs) ≡ named k (x ∷ ys)) → (k : K) → named k xs ≡ named k ys
    same_rest x xs ys differ others agree k = by (eq k (id x)) refl
      where
        by : (b : Bool) → eq k (id x) ≡ b → named k xs ≡ named k ys
        by true e =
            let is : k ≡ id x = (same k (id x)).0 e in
            ap (λ j. named j xs) is ∙ named-none (id x) xs differ.0 ∙ sym (named-none (id x) ys others.0)
            ∙ ap (λ j. named j ys) (sym is)
        by false e = sym (named_next k x xs e) ∙ agree k ∙ named_next k x ys e

    -- there is one list in order
    pub one_order : (xs ys : List X) → Rises xs → Rises ys → Differ xs → Differ ys →
        ((k : K) → named k xs ≡ named k ys) → xs ≡ ys
    one_order [] [] rises others differ apart agree = refl
    one_order [] (y ∷ ys) rises others differ apart agree = absurd (none-some y (agree (id y) ∙ named_head y ys))
    one_order (x ∷ xs) [] rises others differ apart agree = absurd (none-some x (sym (agree (id x)) ∙ named_head x xs))
    one_order (x ∷ xs) (y ∷ ys) rises others differ apart agree =
        let first : x ≡ y = same_first x y xs ys rises others (sym (agree (id x)) ∙ named_head x xs)
        (agree (id y) ∙ named_head y ys) in
        let differ' : Differ (x ∷ ys) = subst (λ z. Differ (z ∷ ys)) (sym first) apart in
        let agree' : (k : K) → named k (x ∷ xs) ≡ named k (x ∷ ys) =
        λ k. agree k ∙ ap (λ z. named k (z ∷ ys)) (sym first) in
        let rest : xs ≡ ys =
        one_order xs ys rises.1 others.1 differ.1 apart.1 (same_rest x xs ys differ differ' agree') in
        λ i. first i ∷ rest i
