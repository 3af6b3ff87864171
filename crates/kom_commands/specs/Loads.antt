-- The words of a command line that have a new server loaded.
use Rattle.std.specs.Prelude.{◌≡◌, ℕ, List, [], ◌∷◌, codes, Some}
use Rattle.kom_commands.specs.Numbers.{number_in}

-- the words ask for so many calls
abbrev pub SaysLoad : List (List ℕ) → ℕ → Type 0
SaysLoad words count = (number : List ℕ) × (words ≡ codes "load" ∷ number ∷ [])
    × (number_in 0 100000 number ≡ Some count)
