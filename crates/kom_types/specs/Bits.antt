-- The bits of types, flags and privileges. (Protocol A, "Bit String".)
use Rattle.std.specs.Prelude.{ℕ, Bool, true, false, ◌==◌, not, bit_and}

-- whether some of these bits are on
abbrev pub is_on : ℕ → ℕ → Bool
is_on bits flags = not (bit_and flags bits == 0)

-- both are on, or neither is
abbrev pub alike : Bool → Bool → Bool
alike true second = second
alike false second = not second
