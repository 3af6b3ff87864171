-- What a walk along the order does at a name, by letters.
use Rattle.std.specs.Prelude.{◌≡◌, ℕ, zero, suc, Bool, false, IsTrue, List, [], ◌∷◌, ◌++◌, take}
use Rattle.std.specs.Ordering.{is_lt}
use Rattle.name_lookup.specs.declared.steps.Step.{Step}
use Rattle.name_lookup.specs.declared.steps.Step.TheVariants.{Found, Seek, End}
use Rattle.name_lookup.specs.Letters.{matches, after_word, through_word, ends_word}
use Rattle.name_lookup.specs.Order.{letters_cmp}

-- a pattern finds no name from this one up to a target, or at all
abbrev pub NoneUpTo : List ℕ → List ℕ → List ℕ → Type 0
NoneUpTo pattern name target = (other : List ℕ) → is_lt (letters_cmp other name) ≡ false
    → IsTrue (is_lt (letters_cmp other target)) → matches pattern other ≡ false

abbrev pub NoneFrom : List ℕ → List ℕ → Type 0
NoneFrom pattern name = (other : List ℕ) → is_lt (letters_cmp other name) ≡ false
    → matches pattern other ≡ false

-- what a step tells of a pattern and a name: the pattern finds it; or no name up to a target; or
-- none from it on
abbrev pub IsStepOf : Step → List ℕ → List ℕ → List ℕ → Type 0
IsStepOf Found pattern name target = IsTrue (matches pattern name)
IsStepOf Seek pattern name target =
    (matches pattern name ≡ false) × NoneUpTo pattern name target
IsStepOf End pattern name target = NoneFrom pattern name

-- the letters of a word, with its blank if it has one, are put after others
pub record Passes (ended : Bool) (old new before after : List ℕ) : Type 0 where
  pub ends : ended ≡ ends_word old
  pub letters : new ≡ after_word old
  pub target : after ≡ before ++ through_word old

-- what comes after all that begins with so many letters, of which the last is a blank; or nothing
abbrev pub Bumps : ℕ → List ℕ → Step → List ℕ → Type 0
Bumps zero before step after = step ≡ End
Bumps (suc start) before step after = (step ≡ Seek) × (after ≡ take start before ++ 33 ∷ [])
