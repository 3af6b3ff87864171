-- How far a walk along some numbers comes before a name that a pattern does not find.
use Rattle.std.specs.Prelude.{◌≡◌, ℕ, ◌<◌, ◌≤◌, true, List, length, slice_index}
use Rattle.name_lookup.specs.declared.steps.Step.{Step}
use Rattle.name_lookup.specs.declared.steps.Step.TheVariants.{Found, Seek, End}
use Rattle.name_lookup.specs.declared.walking.Passed.{Passed}
use Rattle.name_lookup.specs.Letters.{matches}
use Rattle.name_lookup.specs.Order.{letters_in}
use Rattle.name_lookup.specs.Steps.{IsStepOf}

-- the step at the first of some numbers whose name a pattern does not find, if there is one
abbrev pub StopsBy : Step → List (ℕ × List ℕ) → List ℕ → List ℕ → ℕ → List ℕ → Type 0
StopsBy Found entries pattern ahead place target = place ≡ length ahead
StopsBy Seek entries pattern ahead place target = (place < length ahead)
    × IsStepOf Seek pattern (letters_in entries (slice_index ahead place)) target
StopsBy End entries pattern ahead place target = (place < length ahead)
    × IsStepOf End pattern (letters_in entries (slice_index ahead place)) target

-- a pattern finds the names of so many numbers, and there the walk stops
pub record PassesFound (entries : List (ℕ × List ℕ)) (pattern ahead : List ℕ) (passed : Passed)
    (target : List ℕ) : Type 0 where
  pub within : passed.len ≤ length ahead
  pub found : (k : ℕ) → k < passed.len
      → matches pattern (letters_in entries (slice_index ahead k)) ≡ true
  pub stops : StopsBy passed.step entries pattern ahead passed.len target
