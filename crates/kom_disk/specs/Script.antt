-- Which calls of a disk in memory are to fail.
use Rattle.std.specs.Prelude.{◌<◌, ◌+◌, ◌-◌, ◌^◌, ◌⊎◌, ℕ, List, Option, Contains, IsSomeAnd, min}

-- the call of this number is listed, or comes after the stop
abbrev pub IsToFail : List ℕ → Option ℕ → ℕ → Type 0
IsToFail fails stop number = Contains fails number ⊎ IsSomeAnd stop (λ last. last < number)

-- the number of the call after that one, which stands still at the end of its type
abbrev pub next_number : ℕ → ℕ
next_number made = min (made + 1) (2 ^ 64 - 1)
