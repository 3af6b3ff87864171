-- How values are read from the left, each by its one spelling. (Protocol A, "Data Types".)
use Rattle.std.specs.Prelude.{ℕ, zero, suc, ◌*◌, ◌^◌, Bool, true, false, ◌&&◌, nat_le, nat_lt}
use Rattle.std.specs.Prelude.{bytes_eq, length}
use Rattle.std.specs.Prelude.{List, [], ◌∷◌, Option, Some, None}
use Rattle.std.specs.Fmt.{decimal}
use Rattle.kom_types.specs.Token.{Token, Digits, Text, Open, Close, Star, Signed}
use Rattle.kom_types.specs.Token.{number_of, is_integer}
use Rattle.kom_types.specs.calls.Arguments.{Taken, Took, Departs, Malformed, then, bits, elements}
use Rattle.kom_types.specs.calls.Arguments.{string}
use Rattle.kom_types.specs.calls.Arguments.{close_array, is_binary, bits_of}
use Rattle.kom_records.specs.declared.tokens.Head.{Head}

-- the number of a run of digits, if they are what a server spells it as
abbrev pub number_told : List ℕ → Option ℕ
number_told digits = elim (is_integer digits && bytes_eq (decimal (number_of digits)) digits) [
  | true ↦ Some (number_of digits)
  | false ↦ None
]

-- the number of a run of digits, if they are so many binary digits
abbrev pub bits_told : ℕ → List ℕ → Option ℕ
bits_told width digits =
    elim (is_binary width digits) [ true ↦ Some (bits_of digits) | false ↦ None ]

-- what was told, and the tokens after it
abbrev pub taken_of : {X : Type 0} → Option X → List Token → Taken X
taken_of (Some value) tail = Took value tail
taken_of None tail = Departs Malformed

abbrev pub number : List Token → Taken ℕ
number [] = Departs Malformed
number (Digits digits ∷ tail) = taken_of (number_told digits) tail
number (Text bytes ∷ tail) = Departs Malformed
number (Open ∷ tail) = Departs Malformed
number (Close ∷ tail) = Departs Malformed
number (Star ∷ tail) = Departs Malformed
number (Signed sign digits ∷ tail) = Departs Malformed

-- a sign, and a number directly after it
abbrev pub head_of : ℕ → Option ℕ → List Token → Taken Head
head_of sign (Some number) tail = Took (record { sign = sign; number = number }) tail
head_of sign None tail = Departs Malformed

abbrev pub head : List Token → Taken Head
head [] = Departs Malformed
head (Digits digits ∷ tail) = Departs Malformed
head (Text bytes ∷ tail) = Departs Malformed
head (Open ∷ tail) = Departs Malformed
head (Close ∷ tail) = Departs Malformed
head (Star ∷ tail) = Departs Malformed
head (Signed sign digits ∷ tail) = head_of sign (number_told digits) tail

-- a number that ends at 255
abbrev pub byte : List Token → Taken ℕ
byte tokens = then (number tokens) (λ value tail.
    elim (nat_le value 255) [ true ↦ Took value tail | false ↦ Departs Malformed ])

-- a truth value is 0 or 1
abbrev pub flag_of : ℕ → List Token → Taken Bool
flag_of zero tail = Took false tail
flag_of (suc zero) tail = Took true tail
flag_of (suc (suc more)) tail = Departs Malformed

abbrev pub flag : List Token → Taken Bool
flag tokens = then (number tokens) flag_of

-- a string, of as many bytes as a number of the protocol can tell
abbrev pub text : List Token → Taken (List ℕ)
text tokens = then (string tokens) (λ bytes tail.
    elim (nat_lt (length bytes) (2 ^ 32)) [ true ↦ Took bytes tail | false ↦ Departs Malformed ])

-- four bits, as the first four of eight
abbrev pub first_bits : List Token → Taken ℕ
first_bits tokens = then (bits 4 tokens) (λ value. Took (16 * value))

-- the elements of an array of this length: in braces, or a star in place of none
abbrev pub array_of : {X : Type 0} → (List Token → Taken X) → ℕ → List Token → Taken (List X)
array_of element zero (Star ∷ tail) = Took [] tail
array_of element (suc count) (Open ∷ tail) =
    then (elements element (suc count) tail) close_array
array_of element count tokens = Departs Malformed

abbrev pub array : {X : Type 0} → (List Token → Taken X) → List Token → Taken (List X)
array element tokens = then (number tokens) (array_of element)

-- what is made of a value
abbrev pub map_taken : {X Y : Type 0} → (X → Y) → Taken X → Taken Y
map_taken make taken = then taken (λ value. Took (make value))
