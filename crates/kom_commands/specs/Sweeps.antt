-- The words of a command line that have a store swept.
use Rattle.std.specs.Prelude.{◌≡◌, ◌≢◌, ℕ, ◌≤◌, List, [], ◌∷◌, codes, length, Some}
use Rattle.kom_types.specs.declared.limits.TheConstants.{LONGEST_PASSWORD}
use Rattle.kom_commands.specs.Numbers.{number_in}

-- the words have this store swept, by a session of this person with this password
abbrev pub SweepsBy : List (List ℕ) → List ℕ → ℕ → List ℕ → Type 0
SweepsBy words store person password = (number : List ℕ)
    × (words ≡ codes "sweep" ∷ store ∷ number ∷ password ∷ []) × (store ≢ [])
    × (number_in 0 999999 number ≡ Some person) × (length password ≤ LONGEST_PASSWORD)

-- they have some store swept by this person
abbrev pub SaysSweep : List (List ℕ) → ℕ → Type 0
SaysSweep words person = (store password : List ℕ) × SweepsBy words store person password
