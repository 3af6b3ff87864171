-- The arguments of a call, read from the left. (Protocol A, "Fundamentals" and "Data Types".)
use Rattle.std.specs.Prelude.{ℕ, zero, suc, ◌+◌, ◌-◌, ◌*◌, Bool, true, false, ◌==◌, ◌||◌, ◌&&◌}
use Rattle.std.specs.Prelude.{nat_le, List, [], ◌∷◌, length, fold, Some, None}
use Rattle.std.specs.List.{list_all, list_any}
use Rattle.kom_types.specs.declared.limits.TheConstants.{LONGEST_ARRAY}
use Rattle.kom_types.specs.declared.aux_items.AuxInput.{AuxInput}
use Rattle.kom_types.specs.declared.memberships.ReadRange.{ReadRange}
use Rattle.kom_types.specs.declared.texts.MiscInput.{MiscInput}
use Rattle.kom_types.specs.Token.{Token, Digits, Text, Open, Close, Star, Signed, integer_of}

-- Why a line's arguments make no call: they depart from the pattern; an integer stands in place of
-- a truth value; or an array is too long.
pub data Departure : Type 0 where
  Malformed : Departure
  BadBool : Departure
  LongArray : Departure

-- What tokens are to the rule that reads them from the left: a value, and the tokens after it.
pub data Taken (X : Type 0) : Type 0 where
  Took : X → List Token → Taken X
  Departs : Departure → Taken X

-- a value, and then what the next rule makes of it and of the tokens after it
abbrev pub then : {X Y : Type 0} → Taken X → (X → List Token → Taken Y) → Taken Y
then (Took value tail) next = next value tail
then (Departs departure) next = Departs departure

abbrev pub integer : List Token → Taken ℕ
integer [] = Departs Malformed
integer (token ∷ tail) =
    elim (integer_of token) [ Some number ↦ Took number tail | None ↦ Departs Malformed ]

-- an integer that ends at 255
abbrev pub byte : List Token → Taken ℕ
byte tokens = then (integer tokens) (λ number tail.
    elim (nat_le number 255) [ true ↦ Took number tail | false ↦ Departs Malformed ])

-- a truth value is the integer 0 or 1; that no other integer is one has an error of its own
abbrev pub flag_of : ℕ → List Token → Taken Bool
flag_of zero tail = Took false tail
flag_of (suc zero) tail = Took true tail
flag_of (suc (suc more)) tail = Departs BadBool

abbrev pub flag : List Token → Taken Bool
flag tokens = then (integer tokens) flag_of

-- so many binary digits
abbrev pub is_binary : ℕ → List ℕ → Bool
is_binary width digits =
    length digits == width && list_all (λ digit. digit == 48 || digit == 49) digits

-- the number whose binary digits these are, the first one highest
abbrev pub bits_of : List ℕ → ℕ
bits_of digits = fold (λ number digit. 2 * number + (digit - 48)) 0 digits

-- a string of bits is one token
abbrev pub bits : ℕ → List Token → Taken ℕ
bits width [] = Departs Malformed
bits width (Digits digits ∷ tail) =
    elim (is_binary width digits) [ true ↦ Took (bits_of digits) tail | false ↦ Departs Malformed ]
bits width (Text bytes ∷ tail) = Departs Malformed
bits width (Open ∷ tail) = Departs Malformed
bits width (Close ∷ tail) = Departs Malformed
bits width (Star ∷ tail) = Departs Malformed
bits width (Signed sign digits ∷ tail) = Departs Malformed

-- the bits of a conference's type: eight, or the first four, and then the others are 0
abbrev pub conference_type : List Token → Taken ℕ
conference_type tokens = elim (bits 8 tokens) [
  | Took bits tail ↦ Took bits tail
  | Departs departure ↦ then (bits 4 tokens) (λ bits. Took (16 * bits))
]

abbrev pub string : List Token → Taken (List ℕ)
string [] = Departs Malformed
string (Digits digits ∷ tail) = Departs Malformed
string (Text bytes ∷ tail) = Took bytes tail
string (Open ∷ tail) = Departs Malformed
string (Close ∷ tail) = Departs Malformed
string (Star ∷ tail) = Departs Malformed
string (Signed sign digits ∷ tail) = Departs Malformed

-- so many elements in turn
abbrev pub elements : {X : Type 0} → (List Token → Taken X) → ℕ → List Token → Taken (List X)
elements element zero tokens = Took [] tokens
elements element (suc count) tokens =
    then (element tokens) (λ value tail.
    then (elements element count tail) (λ values. Took (value ∷ values)))

-- a brace ends the elements
abbrev pub close_array : {X : Type 0} → X → List Token → Taken X
close_array values [] = Departs Malformed
close_array values (Digits digits ∷ tail) = Departs Malformed
close_array values (Text bytes ∷ tail) = Departs Malformed
close_array values (Open ∷ tail) = Departs Malformed
close_array values (Close ∷ tail) = Took values tail
close_array values (Star ∷ tail) = Departs Malformed
close_array values (Signed sign digits ∷ tail) = Departs Malformed

-- the elements of an array of this length, in braces; none may be told by a star
abbrev pub array_of : {X : Type 0} → (List Token → Taken X) → ℕ → List Token → Taken (List X)
array_of element count [] = Departs Malformed
array_of element count (Digits digits ∷ tail) = Departs Malformed
array_of element count (Text bytes ∷ tail) = Departs Malformed
array_of element count (Open ∷ tail) = then (elements element count tail) close_array
array_of element count (Close ∷ tail) = Departs Malformed
array_of element count (Star ∷ tail) =
    elim count [ zero ↦ Took [] tail | suc more ↦ Departs Malformed ]
array_of element count (Signed sign digits ∷ tail) = Departs Malformed

-- an array: its length and its elements; of one that is too long nothing more is looked at
abbrev pub array : {X : Type 0} → (List Token → Taken X) → List Token → Taken (List X)
array element tokens = then (integer tokens) (λ count tail.
    elim (nat_le count LONGEST_ARRAY) [
      | true ↦ array_of element count tail
      | false ↦ Departs LongArray
    ])

abbrev pub numbers : List Token → Taken (List ℕ)
numbers = array integer

abbrev pub read_range : List Token → Taken ReadRange
read_range tokens =
    then (integer tokens) (λ first tail.
    then (integer tail) (λ last. Took (record { first = first; last = last })))

abbrev pub read_ranges : List Token → Taken (List ReadRange)
read_ranges = array read_range

-- the tags of a text's links whose value is a number, and those whose value is a time
abbrev pub number_tags : List ℕ
number_tags = 0 ∷ 1 ∷ 2 ∷ 3 ∷ 4 ∷ 5 ∷ 6 ∷ 8 ∷ 15 ∷ []

abbrev pub time_tags : List ℕ
time_tags = 7 ∷ 9 ∷ []

abbrev pub is_tag : ℕ → List ℕ → Bool
is_tag tag tags = list_any (λ one. one == tag) tags

-- a time is eight integers and a truth value; which ones makes no difference, since no client may
-- send one
abbrev pub time : List Token → Taken ℕ
time tokens = then (elements integer 8 tokens) (λ parts tail. then (flag tail) (λ summer. Took 0))

-- the value of a link with this tag
abbrev pub misc_value : ℕ → List Token → Taken ℕ
misc_value tag tokens =
    elim (is_tag tag number_tags) [
      | true ↦ integer tokens
      | false ↦ elim (is_tag tag time_tags) [ true ↦ time tokens | false ↦ Departs Malformed ]
    ]

abbrev pub misc_input : List Token → Taken MiscInput
misc_input tokens =
    then (integer tokens) (λ tag tail.
    then (misc_value tag tail) (λ value. Took (record { tag = tag; value = value })))

abbrev pub misc_inputs : List Token → Taken (List MiscInput)
misc_inputs = array misc_input

abbrev pub aux_input : List Token → Taken AuxInput
aux_input tokens =
    then (integer tokens) (λ tag tags.
    then (bits 8 tags) (λ flags others.
    then (integer others) (λ limit tail.
    then (string tail) (λ content.
    Took (record { tag = tag; flags = flags; inherit_limit = limit; content = content })))))

abbrev pub aux_inputs : List Token → Taken (List AuxInput)
aux_inputs = array aux_input
