-- Rising ranges: which numbers they hold, and that the numbers tell the ranges.
use Rattle.std.proofs.Common.{◌≡◌, ℕ, ◌+◌, ◌<◌, ◌≤◌, Bool, true, false, ◌&&◌, leb, List, [], ◌∷◌, ◌++◌, refl, sym, ◌∙◌}
use Rattle.std.proofs.Common.{subst, inl, inr, arith}
use Rattle.std.specs.List.{list_any, AllByRecursion}
use Rattle.std.proofs.lemmas.Bool.{cases_lt, false≢true}
use Rattle.std.proofs.lemmas.Bool.Decides.{nat_tests}
use Rattle.kom_types.specs.declared.memberships.ReadRange.{ReadRange}
use Rattle.read_ranges.specs.Numbers.{range, RiseFrom, greatest}

-- whether n is in a range
abbrev pub is_in_range : ℕ → ReadRange → Bool
is_in_range n r = leb r.first n && leb n r.last

-- whether n is in one of the ranges
abbrev pub holds_in : List ReadRange → ℕ → Bool
holds_in rs n = list_any (is_in_range n) rs

-- where the ranges after these may begin
abbrev pub after : ℕ → List ReadRange → ℕ
after least [] = least
after least (r ∷ rs) = after (r.last + 2) rs

pub rise_join : (a : ℕ) (xs ys : List ReadRange) → RiseFrom a xs → RiseFrom (after a xs) ys → RiseFrom a (xs ++ ys)
rise_join a [] ys first back = back
rise_join a (x ∷ xs) ys first back = (first.0, first.1, first.2, rise_join (x.last + 2) xs ys first.3 back)

pub rise_front : (a : ℕ) (xs ys : List ReadRange) → RiseFrom a (xs ++ ys) → RiseFrom a xs
rise_front a [] ys all = tt
rise_front a (x ∷ xs) ys all = (all.0, all.1, all.2, rise_front (x.last + 2) xs ys all.3)

pub rise_back : (a : ℕ) (xs ys : List ReadRange) → RiseFrom a (xs ++ ys) → RiseFrom (after a xs) ys
rise_back a [] ys all = all
rise_back a (x ∷ xs) ys all = rise_back (x.last + 2) xs ys all.3

-- ranges that begin late enough begin late enough for less
pub rise_lower : (a b : ℕ) (xs : List ReadRange) → a ≤ b → RiseFrom b xs → RiseFrom a xs
rise_lower a b [] le rise = tt
rise_lower a b (x ∷ xs) le rise = (omega arith, rise.1, rise.2, rise.3)

-- a number below all ranges is in none
pub holds_below : (a : ℕ) (xs : List ReadRange) (n : ℕ) → RiseFrom a xs → n < a → holds_in xs n ≡ false
holds_below a [] n rise lt = refl
holds_below a (x ∷ xs) n rise lt =
    let rest : holds_in xs n ≡ false = holds_below (x.last + 2) xs n rise.3 (omega arith) in
    let here : is_in_range n x ≡ false = grind (arith, nat_tests) in
    rw (here, rest) refl

-- a number in the first range is held
pub holds_first : (x : ReadRange) (xs : List ReadRange) (n : ℕ) → x.first ≤ n → n ≤ x.last → holds_in (x ∷ xs) n ≡ true
holds_first x xs n from to = let here : is_in_range n x ≡ true = grind (arith, nat_tests) in rw here refl

-- the number after the first range is not held
pub holds_gap : (a : ℕ) (x : ReadRange) (xs : List ReadRange) → RiseFrom a (x ∷ xs) →
    holds_in (x ∷ xs) (x.last + 1) ≡ false
holds_gap a x xs rise =
    let here : is_in_range (x.last + 1) x ≡ false = grind (arith, nat_tests) in
    rw (here, holds_below (x.last + 2) xs (x.last + 1) rise.3 (omega arith)) refl

-- what is held is not below all ranges
pub held_at_least : (a : ℕ) (xs : List ReadRange) (n : ℕ) → RiseFrom a xs → holds_in xs n ≡ true → a ≤ n
held_at_least a xs n rise held = elim (cases_lt n a) [
  | inl lt ↦ absurd (false≢true (sym (holds_below a xs n rise lt) ∙ held))
  | inr le ↦ le
]

-- past the first range the others alone tell
holds_past : (x : ReadRange) (xs : List ReadRange) (n : ℕ) → x.last < n → holds_in (x ∷ xs) n ≡ holds_in xs n
holds_past x xs n lt = let here : is_in_range n x ≡ false = grind (arith, nat_tests) in rw here refl

-- the first ranges of two lists that hold the same numbers
first_begins : (a : ℕ) (x y : ReadRange) (xs ys : List ReadRange) → RiseFrom a (x ∷ xs) → RiseFrom a (y ∷ ys) →
    ((n : ℕ) → holds_in (x ∷ xs) n ≡ holds_in (y ∷ ys) n) → y.first ≤ x.first
first_begins a x y xs ys rise_x rise_y same =
    held_at_least y.first (y ∷ ys) x.first (omega arith, rise_y.1, rise_y.2, rise_y.3) (sym (same x.first)
    ∙ holds_first x xs x.first (omega arith) rise_x.1)

first_ends : (a : ℕ) (x y : ReadRange) (xs ys : List ReadRange) → RiseFrom a (x ∷ xs) → RiseFrom a (y ∷ ys) →
    ((n : ℕ) → holds_in (x ∷ xs) n ≡ holds_in (y ∷ ys) n) → y.last ≤ x.last
first_ends a x y xs ys rise_x rise_y same = elim (cases_lt x.last y.last) [
  | inl lt ↦ absurd (false≢true (sym (holds_gap a x xs rise_x) ∙ same (x.last + 1)
      ∙ holds_first y ys (x.last + 1) (omega (arith, first_begins a x y xs ys rise_x rise_y same)) (omega arith)))
  | inr le ↦ le
]

same_range : (x y : ReadRange) → x.first ≡ y.first → x.last ≡ y.last → x ≡ y
same_range x y e f = λ i. range (e i) (f i)

-- rising ranges that hold the same numbers are the same
pub one_list : (a : ℕ) (xs ys : List ReadRange) → RiseFrom a xs → RiseFrom a ys →
    ((n : ℕ) → holds_in xs n ≡ holds_in ys n) → xs ≡ ys
one_list a [] [] rise_x rise_y same = refl
one_list a [] (y ∷ ys) rise_x rise_y same = absurd (false≢true (same y.first
    ∙ holds_first y ys y.first (omega arith) rise_y.1))
one_list a (x ∷ xs) [] rise_x rise_y same = absurd (false≢true (sym (same x.first)
    ∙ holds_first x xs x.first (omega arith) rise_x.1))
one_list a (x ∷ xs) (y ∷ ys) rise_x rise_y same =
    let begins : x.first ≡ y.first = omega (
      arith,
      first_begins a x y xs ys rise_x rise_y same,
      first_begins a y x ys
          xs rise_y rise_x (λ n. sym (same n)),
    ) in
    let ends : x.last ≡ y.last = omega (
      arith,
      first_ends a x y xs ys rise_x rise_y same,
      first_ends a y x ys xs
          rise_y rise_x (λ n. sym (same n)),
    ) in
    let rest : xs ≡ ys = one_list (x.last + 2) xs ys rise_x.3 (subst (λ e. RiseFrom (e + 2) ys) (sym ends) rise_y.3)
    (λ n. elim (cases_lt x.last n) [
      | inl lt ↦ sym (holds_past x xs n lt) ∙ same n ∙ holds_past y ys n (omega arith)
      | inr le ↦ holds_below (x.last + 2) xs n rise_x.3 (omega arith)
          ∙ sym (holds_below (y.last + 2) ys n rise_y.3 (omega arith))
    ]) in
    λ i. same_range x y begins ends i ∷ rest i

-- ranges that end below n hold nothing from n on
pub held_behind : (n m : ℕ) (xs : List ReadRange) → AllByRecursion (λ r. r.last < n) xs → n ≤ m → holds_in xs m ≡ false
held_behind n m [] below le = refl
held_behind n m (x ∷ xs) below le =
    let here : is_in_range m x ≡ false = grind (arith, nat_tests) in
    rw (here, held_behind n m xs below.1 le) refl

-- what follows ranges that end early may begin early
pub after_below : (a b : ℕ) (xs : List ReadRange) → a ≤ b → AllByRecursion (λ r. r.last + 1 < b) xs → after a xs ≤ b
after_below a b [] le below = le
after_below a b (x ∷ xs) le below = after_below (x.last + 2) b xs (omega arith) below.1

-- nothing held is past the greatest number
pub held_at_most : (a : ℕ) (xs : List ReadRange) (n : ℕ) → RiseFrom a xs → holds_in xs n ≡ true → n ≤ greatest
held_at_most a [] n rise held = absurd (false≢true held)
held_at_most a (x ∷ xs) n rise held = elim (cases_lt x.last n) [
  | inl lt ↦ held_at_most (x.last + 2) xs n rise.3 (sym (holds_past x xs n lt) ∙ held)
  | inr le ↦ omega arith
]
