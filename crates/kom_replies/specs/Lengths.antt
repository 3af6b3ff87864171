-- How many bytes words take.
use Rattle.std.specs.Prelude.{ℕ, ◌+◌, ◌-◌, ◌^◌, List, length, min}

-- as many as a `u64` holds at most
abbrev pub cap_at_u64 : ℕ → ℕ
cap_at_u64 n = min n (2 ^ 64 - 1)

-- so many bytes and this word, with the space or the line feed after it
abbrev pub put_length : List ℕ → ℕ → ℕ
put_length word n = cap_at_u64 (n + (length word + 1))
