-- How a greeting goes on byte by byte.
use Rattle.std.specs.Prelude.{ℕ, ◌+◌, ◌*◌, ◌-◌, true, false, nat_le, nat_lt, ◌==◌, List, [], ◌∷◌}
use Rattle.std.specs.Prelude.{◌++◌, length, fold}
use Rattle.kom_types.specs.declared.limits.TheConstants.{LONGEST_USER_NAME}
use Rattle.kom_types.specs.declared.byte_kind.ByteKind.{ByteKind}
use Rattle.kom_types.specs.declared.byte_kind.ByteKind.TheVariants as kind
use Rattle.kom_types.specs.declared.side.Side.{Side}
use Rattle.kom_types.specs.ByteKind.{kind_of}
use Rattle.kom_framing.specs.Splitting.{Opening, Nothing, Letter, Length, Name, Letters}
use Rattle.kom_framing.specs.Splitting.{opening_of}

-- a greeting's bytes so far: they go on, they are a greeting, or no greeting begins so
pub data Greets : Type 0 where
  Going : Opening → Greets
  Ended : List ℕ → Greets
  Stuck : Greets

-- a name of so many bytes, of which these have come
abbrev pub name_from : ℕ → List ℕ → Greets
name_from count name = elim (nat_lt (length name) count) [
  | true ↦ Going (Name count name)
  | false ↦ elim (length name == count) [ true ↦ Ended name | false ↦ Stuck ]
]

-- a byte after the letter
abbrev pub hear_after_letter : ℕ → ByteKind → Greets
hear_after_letter byte kind.Blank = Going Letter
hear_after_letter byte kind.Digit = Going (Length 1 (byte - 48))
hear_after_letter byte kind.LineFeed = Stuck
hear_after_letter byte kind.Hollerith = Stuck
hear_after_letter byte kind.Open = Stuck
hear_after_letter byte kind.Close = Stuck
hear_after_letter byte kind.Star = Stuck
hear_after_letter byte kind.Sign = Stuck
hear_after_letter byte kind.Other = Stuck

-- a byte after so many digits, at least one, that spell this number
abbrev pub hear_in_length : ℕ → ℕ → ℕ → ByteKind → Greets
hear_in_length count number byte kind.Digit = elim (nat_lt count 4) [
  | true ↦ Going (Length (count + 1) (10 * number + (byte - 48)))
  | false ↦ Stuck
]
hear_in_length count number byte kind.Hollerith = elim (nat_le number LONGEST_USER_NAME) [
  | true ↦ name_from number []
  | false ↦ Stuck
]
hear_in_length count number byte kind.Blank = Stuck
hear_in_length count number byte kind.LineFeed = Stuck
hear_in_length count number byte kind.Open = Stuck
hear_in_length count number byte kind.Close = Stuck
hear_in_length count number byte kind.Star = Stuck
hear_in_length count number byte kind.Sign = Stuck
hear_in_length count number byte kind.Other = Stuck

-- a greeting of which these letters are to come
abbrev pub letters_from : List ℕ → Greets
letters_from [] = Ended []
letters_from (letter ∷ letters) = Going (Letters (letter ∷ letters))

-- a byte where these letters are to come
abbrev pub hear_letter : ℕ → List ℕ → Greets
hear_letter byte [] = Stuck
hear_letter byte (letter ∷ letters) = elim (byte == letter) [
  | true ↦ letters_from letters
  | false ↦ Stuck
]

abbrev pub hear : Opening → ℕ → Greets
hear Nothing byte = elim (byte == 65) [ true ↦ Going Letter | false ↦ Stuck ]
hear Letter byte = hear_after_letter byte (kind_of byte)
hear (Length count number) byte = hear_in_length count number byte (kind_of byte)
hear (Name count name) byte = name_from count (name ++ byte ∷ [])
hear (Letters letters) byte = hear_letter byte letters

abbrev pub next : Greets → ℕ → Greets
next (Going opening) byte = hear opening byte
next (Ended name) byte = Stuck
next Stuck byte = Stuck

abbrev pub onward : Greets → List ℕ → Greets
onward state bytes = fold next state bytes

-- these bytes of a greeting
abbrev pub hear_all : Side → List ℕ → Greets
hear_all side bytes = onward (Going (opening_of side [])) bytes
