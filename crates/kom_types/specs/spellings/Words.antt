-- How values are spelled: each as one word or some. (Protocol A, "Data Types".)
use Rattle.std.specs.Prelude.{ℕ, zero, suc, ◌+◌, ◌/◌, ◌%◌, ◌^◌, Bool, List, [], ◌∷◌, ◌++◌, length}
use Rattle.std.specs.Prelude.{flat_map, if◌then◌else◌}
use Rattle.std.specs.Fmt.{decimal}
use Rattle.kom_types.specs.Times.{time_of}

-- the last `width` bits of a number, the highest first
abbrev pub bit_string : ℕ → ℕ → List ℕ
bit_string bits zero = []
bit_string bits (suc width) = (48 + bits / 2 ^ width % 2) ∷ bit_string bits width

-- a Hollerith string: its length, an `H`, and its bytes
abbrev pub hollerith : List ℕ → List ℕ
hollerith text = decimal (length text) ++ 72 ∷ text

-- some words of a line
abbrev pub Words : Type 0
Words = List (List ℕ)

abbrev pub number : ℕ → Words
number value = decimal value ∷ []

abbrev pub flag : Bool → Words
flag value = number (if value then 1 else 0)

abbrev pub bits : ℕ → ℕ → Words
bits width value = bit_string value width ∷ []

abbrev pub text : List ℕ → Words
text bytes = hollerith bytes ∷ []

-- an array: its length, and its elements in braces, or a star if there are none
abbrev pub array : {X : Type 0} → (X → Words) → List X → Words
array element [] = number 0 ++ (42 ∷ []) ∷ []
array element (value ∷ values) =
    number (length (value ∷ values))
    ++ (123 ∷ []) ∷ flat_map element (value ∷ values) ++ (125 ∷ []) ∷ []

-- an array whose elements were not asked for
abbrev pub array_count : ℕ → Words
array_count count = number count ++ (42 ∷ []) ∷ []

-- a moment is spelled by the calendar
abbrev pub time : ℕ → Words
time moment = let parts = time_of moment in
    number parts.seconds ++ number parts.minutes ++ number parts.hours ++ number parts.day
    ++ number parts.month ++ number parts.year ++ number parts.weekday ++ number parts.yearday
    ++ flag parts.dst
