-- Pairs of numbers, none of which is there twice: of whom, and in what, a membership or a mark is.
use Rattle.std.proofs.Common.{◌≡◌, ℕ, ◌<◌, ◌≤◌, Bool, true, ◌==◌, ◌&&◌, List, [], ◌∷◌, ◌++◌, length}
use Rattle.std.proofs.Common.{refl, ap, arith, eqb-true, inl, inr, ◌∙◌}
use Rattle.std.specs.Prelude.{map}
use Rattle.std.specs.List.{AllByRecursion, filter}
use Rattle.std.proofs.lemmas.Bool.{cases_Bool, and_parts}
use Rattle.kom_model.proofs.whole.Counts.{all-kept, all-more, count-kept, most-more}

-- whether this is the pair of two numbers
abbrev pub is_pair : ℕ → ℕ → ℕ × ℕ → Bool
is_pair first second key = key.0 == first && key.1 == second

-- whether a pair is one of the first number
abbrev pub is_of : ℕ → ℕ × ℕ → Bool
is_of first key = key.0 == first

-- the numbers of each pair are there; no pair is there twice; and no first number has too many
pub record ArePairs (keys : List (ℕ × ℕ)) (has_first has_second : ℕ → Bool) (most : ℕ) : Type 0 where
  pub first_there : AllByRecursion (λ key. has_first key.0 ≡ true) keys
  pub second_there : AllByRecursion (λ key. has_second key.1 ≡ true) keys
  pub once : (first second : ℕ) → length (filter (is_pair first second) keys) ≤ 1
  pub limited : (first : ℕ) → length (filter (is_of first) keys) ≤ most

-- rows by their pairs
module _ {X : Type 0} (key_of : X → ℕ × ℕ) where
  pub all-keyed : (P : ℕ × ℕ → Type 0) (rows : List X) → AllByRecursion (λ row. P (key_of row)) rows →
      AllByRecursion P (map key_of rows)
  all-keyed P [] all = tt
  all-keyed P (row ∷ rows) all = (all.0, all-keyed P rows all.1)

  pub all-unkeyed : (P : ℕ × ℕ → Type 0) (rows : List X) → AllByRecursion P (map key_of rows) →
      AllByRecursion (λ row. P (key_of row)) rows
  all-unkeyed P [] all = tt
  all-unkeyed P (row ∷ rows) all = (all.0, all-unkeyed P rows all.1)

  pub filter-keyed : (test : ℕ × ℕ → Bool) (rows : List X) →
      filter test (map key_of rows) ≡ map key_of (filter (λ row. test (key_of row)) rows)
  filter-keyed test [] = refl
  filter-keyed test (row ∷ rows) = elim (cases_Bool (test (key_of row))) [
    | inl here ↦ rw here (ap (λ keys. key_of row ∷ keys) (filter-keyed test rows))
    | inr there ↦ rw there (filter-keyed test rows)
  ]

  length-keyed : (rows : List X) → length (map key_of rows) ≡ length rows
  length-keyed [] = refl
  length-keyed (row ∷ rows) = let rest = length-keyed rows in omega (arith, rest)

  pub count-keyed : (test : ℕ × ℕ → Bool) (rows : List X) →
      length (filter test (map key_of rows)) ≡ length (filter (λ row. test (key_of row)) rows)
  count-keyed test rows = ap length (filter-keyed test rows) ∙ length-keyed (filter (λ row. test (key_of row)) rows)

  pub keyed-more : (rows : List X) (given : X) → map key_of (rows ++ given ∷ []) ≡ map key_of rows ++ key_of given ∷ []
  keyed-more [] given = refl
  keyed-more (row ∷ rows) given = ap (λ keys. key_of row ∷ keys) (keyed-more rows given)

  -- a change that keeps the pairs
  pub keyed-mapped : (change : X → X) → ((row : X) → key_of (change row) ≡ key_of row) → (rows : List X) →
      map key_of (map change rows) ≡ map key_of rows
  keyed-mapped change keeps [] = refl
  keyed-mapped change keeps (row ∷ rows) =
      let first = keeps row in let rest = keyed-mapped change keeps rows in
      λ i. first i ∷ rest i

module _ (has_first has_second : ℕ → Bool) (most : ℕ) where
  -- pairs of which some go
  pub pairs-kept : (keep : ℕ × ℕ → Bool) (keys : List (ℕ × ℕ)) → ArePairs keys has_first has_second most →
      ArePairs (filter keep keys) has_first has_second most
  pairs-kept keep keys pairs = record {
    first_there = all-kept _ keep keys pairs.first_there;
    second_there = all-kept _ keep keys pairs.second_there;
    once = λ first second.
        let once = pairs.once first second in let less = count-kept (is_pair first second) keep keys in
        omega (arith, once, less);
    limited = λ first.
        let limited = pairs.limited first in let less = count-kept (is_of first) keep keys in
        omega (arith, limited, less);
  }

  -- a pair more, which was not there
  pub pairs-more : (first second : ℕ) (keys : List (ℕ × ℕ)) → has_first first ≡ true → has_second second ≡ true →
      length (filter (is_pair first second) keys) ≡ 0 → length (filter (is_of first) keys) < most →
      ArePairs keys has_first has_second most → ArePairs (keys ++ (first, second) ∷ []) has_first has_second most
  pairs-more first second keys one other none room pairs = record {
    first_there = all-more _ keys (first, second) pairs.first_there one;
    second_there = all-more _ keys (first, second) pairs.second_there other;
    once = λ first' second'. most-more (is_pair first' second') 1 keys (first, second) (pairs.once first' second')
        (λ is.
        let parts = and_parts (first == first') (second == second') is in
        let same : length (filter (is_pair first' second') keys) ≡ 0 =
        rw (← eqb-true first first' parts.0, ← eqb-true second second' parts.1) none in
        omega (arith, same));
    limited = λ first'. most-more (is_of first') most keys (first, second) (pairs.limited first')
        (λ is. rw (← eqb-true first first' is) room);
  }
