use Rattle.std.specs.Prelude.{ℕ, Bool, true, false, ◌-◌, ◌*◌, ◌+◌, ◌^◌, ◌&&◌, nat_le, nat_lt, List}
use Rattle.std.specs.Prelude.{length, fold, Option, Some, None}

-- A token of a line: a run of digits, the bytes of a Hollerith string, the braces of an array, the
-- star in place of its elements, or a sign and the run of digits directly after it, which only a
-- server's lines have. (Protocol A, "Fundamentals", "Simple data types" and "Server Replies".)
pub data Token : Type 0 where
  Digits : List ℕ → Token
  Text : List ℕ → Token
  Open : Token
  Close : Token
  Star : Token
  Signed : ℕ → List ℕ → Token

-- the number that a run of digits spells
abbrev pub number_of : List ℕ → ℕ
number_of digits = fold (λ number digit. 10 * number + (digit - 48)) 0 digits

-- a run of digits that spells an integer of the protocol: ten digits at most, below 2^32; leading
-- zeros are allowed
abbrev pub is_integer : List ℕ → Bool
is_integer digits = nat_le (length digits) 10 && nat_lt (number_of digits) (2 ^ 32)

-- the integer that a token spells, if it spells one
abbrev pub integer_of : Token → Option ℕ
integer_of (Digits digits) =
    elim (is_integer digits) [ true ↦ Some (number_of digits) | false ↦ None ]
integer_of (Text bytes) = None
integer_of Open = None
integer_of Close = None
integer_of Star = None
integer_of (Signed sign digits) = None
