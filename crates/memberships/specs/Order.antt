-- Lists in the order of a number.
use Rattle.std.specs.Prelude.{ℕ, List, [], ◌∷◌, nat_lt, fold, if◌then◌else◌}

module _ {X : Type 0} (number : X → ℕ) where
  -- x among others: before the first that has a greater number
  abbrev pub insert_by : X → List X → List X
  insert_by x [] = x ∷ []
  insert_by x (first ∷ others) =
      if nat_lt (number x) (number first) then x ∷ first ∷ others else first ∷ insert_by x others

  -- the list in the order of its numbers
  abbrev pub sort_by : List X → List X
  sort_by xs = fold (λ sorted x. insert_by x sorted) [] xs
