-- How the fields of an effect stand as bytes, and how they are read. That a number has four bytes
-- and a moment eight, the lowest first, is the store's own choice.
use Rattle.std.specs.Prelude.{◌≡◌, ℕ, zero, suc, ◌*◌, ◌^◌, ◌<◌, ◌≤◌, Bool, true, false, nat_lt}
use Rattle.std.specs.Prelude.{List, [], ◌∷◌, ◌++◌, length, take, drop, flat_map, slice_get}
use Rattle.std.specs.Prelude.{Option, Some, None, if◌then◌else◌}
use Rattle.std.specs.Int.{Width, w16, w32, w64, byte_len, to_le_bytes, from_le_bytes}
use Rattle.std.specs.Int.{to_be_bytes, from_be_bytes}
use Rattle.std.specs.List.{AllByRecursion}
use Rattle.kom_types.specs.declared.limits.TheConstants.{LAST_MOMENT}
use Rattle.kom_types.specs.declared.memberships.ReadRange.{ReadRange}

-- What a field is: a byte; two bytes, the higher first; a truth value in one byte; four bytes; four
-- bytes for what ends at 255; a moment in eight; a length in four bytes and at most so many bytes;
-- so many bytes; how many ranges there are, and the ranges; or the number of a part, from 1 on, and
-- its value in eight bytes, which has a greatest one for each part.
pub data Field : Type 0 where
  Byte : Field
  Half : Field
  Flag : Field
  Number : Field
  Small : Field
  Moment : Field
  Text : ℕ → Field
  Fixed : ℕ → Field
  Ranges : Field
  OneOf : List ℕ → Field

-- a part, and what it is set to
pub record Setting : Type 0 where
  pub part : ℕ
  pub value : ℕ

-- what stands in a field
abbrev pub Of : Field → Type 0
Of Byte = ℕ
Of Half = ℕ
Of Flag = Bool
Of Number = ℕ
Of Small = ℕ
Of Moment = ℕ
Of (Text most) = List ℕ
Of (Fixed many) = List ℕ
Of Ranges = List ReadRange
Of (OneOf greatest) = Setting

-- the greatest value of a part, if there is such a part
abbrev pub greatest_of : ℕ → List ℕ → Option ℕ
greatest_of zero greatest = None
greatest_of (suc place) greatest = slice_get greatest place

-- a range has two numbers
abbrev pub IsRange : ReadRange → Type 0
IsRange range = (range.first < 2 ^ 32) × (range.last < 2 ^ 32)

abbrev pub IsAtMost : Option ℕ → ℕ → Type 0
IsAtMost None value = ⊥
IsAtMost (Some greatest) value = (value ≤ greatest) × (value < 2 ^ 64)

-- what may stand in a field
abbrev pub IsIn : (field : Field) → Of field → Type 0
IsIn Byte n = n < 256
IsIn Half n = n < 2 ^ 16
IsIn Flag b = Unit {0}
IsIn Number n = n < 2 ^ 32
IsIn Small n = n < 256
IsIn Moment n = n ≤ LAST_MOMENT
IsIn (Text most) bytes = (length bytes ≤ most) × (length bytes < 2 ^ 32)
IsIn (Fixed many) bytes = length bytes ≡ many
IsIn Ranges ranges = (length ranges < 2 ^ 32) × AllByRecursion IsRange ranges
IsIn (OneOf greatest) set = IsAtMost (greatest_of set.part greatest) set.value

-- The length of what stands in a field is one that it may have. Of ranges only those whose numbers
-- fit are so many that four bytes tell it.
abbrev pub IsShort : (field : Field) → Of field → Type 0
IsShort Byte n = Unit {0}
IsShort Half n = Unit {0}
IsShort Flag b = Unit {0}
IsShort Number n = Unit {0}
IsShort Small n = Unit {0}
IsShort Moment n = Unit {0}
IsShort (Text most) bytes = length bytes ≤ most
IsShort (Fixed many) bytes = Unit {0}
IsShort Ranges ranges = AllByRecursion IsRange ranges → length ranges < 2 ^ 32
IsShort (OneOf greatest) set = Unit {0}

abbrev pub bit : Bool → ℕ
bit false = 0
bit true = 1

abbrev pub coded_numbers : List ℕ → List ℕ
coded_numbers numbers = flat_map (to_le_bytes w32) numbers

abbrev pub coded_range : ReadRange → List ℕ
coded_range range = to_le_bytes w32 range.first ++ to_le_bytes w32 range.last

abbrev pub coded_ranges : List ReadRange → List ℕ
coded_ranges ranges = flat_map coded_range ranges

-- the bytes of a field
abbrev pub coded_value : (field : Field) → Of field → List ℕ
coded_value Byte n = n ∷ []
coded_value Half n = to_be_bytes w16 n
coded_value Flag b = bit b ∷ []
coded_value Number n = to_le_bytes w32 n
coded_value Small n = to_le_bytes w32 n
coded_value Moment n = to_le_bytes w64 n
coded_value (Text most) bytes = to_le_bytes w32 (length bytes) ++ bytes
coded_value (Fixed many) bytes = bytes
coded_value Ranges ranges = to_le_bytes w32 (length ranges) ++ coded_ranges ranges
coded_value (OneOf greatest) set = set.part ∷ to_le_bytes w64 set.value

-- What bytes are to the rule that reads them from the left: a value, and the bytes after it; too
-- few; or none that it reads, whatever follows them.
pub data Read (X : Type 0) : Type 0 where
  Whole : X → List ℕ → Read X
  Short : Read X
  Wrong : Read X

-- a value, and then what the next rule makes of it and of the bytes after it
abbrev pub and_then : {X Y : Type 0} → Read X → (X → List ℕ → Read Y) → Read Y
and_then (Whole value rest) next = next value rest
and_then Short next = Short
and_then Wrong next = Wrong

-- so many bytes
abbrev pub bytes_at : ℕ → List ℕ → Read (List ℕ)
bytes_at many bytes =
    if nat_lt (length bytes) many then Short else Whole (take many bytes) (drop many bytes)

abbrev pub number_at : List ℕ → Read ℕ
number_at bytes =
    if nat_lt (length bytes) 4 then Short else Whole (from_le_bytes w32 bytes) (drop 4 bytes)

abbrev pub half_at : List ℕ → Read ℕ
half_at bytes =
    if nat_lt (length bytes) 2 then Short else Whole (from_be_bytes w16 bytes) (drop 2 bytes)

-- a number that has a greatest one: the bytes that are there may be past it already
abbrev pub limited_at : Width → ℕ → List ℕ → Read ℕ
limited_at w greatest bytes =
    if nat_lt greatest (from_le_bytes w bytes) then Wrong
    else if nat_lt (length bytes) (byte_len w) then Short
    else Whole (from_le_bytes w bytes) (drop (byte_len w) bytes)

abbrev pub byte_at : List ℕ → Read ℕ
byte_at [] = Short
byte_at (byte ∷ rest) = Whole byte rest

abbrev pub flag_of : ℕ → List ℕ → Read Bool
flag_of zero rest = Whole false rest
flag_of (suc zero) rest = Whole true rest
flag_of (suc (suc more)) rest = Wrong

abbrev pub flag_at : List ℕ → Read Bool
flag_at bytes = and_then (byte_at bytes) flag_of

abbrev pub ranges_of : ℕ → List ℕ → List ReadRange
ranges_of zero bytes = []
ranges_of (suc more) bytes =
    record { first = from_le_bytes w32 bytes; last = from_le_bytes w32 (drop 4 bytes) }
    ∷ ranges_of more (drop 8 bytes)

abbrev pub so_many_ranges_at : ℕ → List ℕ → Read (List ReadRange)
so_many_ranges_at many bytes =
    if nat_lt (length bytes) (8 * many) then Short
    else Whole (ranges_of many bytes) (drop (8 * many) bytes)

-- the value of a part that has this greatest one, if there is such a part
abbrev pub set_at : ℕ → Option ℕ → List ℕ → Read Setting
set_at part None bytes = Wrong
set_at part (Some greatest) bytes =
    and_then (limited_at w64 greatest bytes)
    (λ value rest. Whole (record { part = part; value = value }) rest)

-- what bytes are to a field
unfoldable pub value_at : (field : Field) → List ℕ → Read (Of field)
value_at Byte bytes = byte_at bytes
value_at Half bytes = half_at bytes
value_at Flag bytes = flag_at bytes
value_at Number bytes = number_at bytes
value_at Small bytes = limited_at w32 255 bytes
value_at Moment bytes = limited_at w64 LAST_MOMENT bytes
value_at (Text most) bytes = and_then (limited_at w32 most bytes) bytes_at
value_at (Fixed many) bytes = bytes_at many bytes
value_at Ranges bytes = and_then (number_at bytes) so_many_ranges_at
value_at (OneOf greatest) bytes =
    and_then (byte_at bytes) (λ part rest. set_at part (greatest_of part greatest) rest)

-- what stands in fields that follow each other
abbrev pub Values : List Field → Type 0
Values [] = Unit {0}
Values (field ∷ fields) = Of field × Values fields

infixr 5 ◌▸◌
abbrev pub ◌▸◌ : {A B : Type 0} → A → B → A × B
value ▸ values = (value, values)

abbrev pub AreIn : (fields : List Field) → Values fields → Type 0
AreIn [] values = Unit {0}
AreIn (field ∷ fields) values = IsIn field values.0 × AreIn fields values.1

abbrev pub AreShort : (fields : List Field) → Values fields → Type 0
AreShort [] values = Unit {0}
AreShort (field ∷ fields) values = IsShort field values.0 × AreShort fields values.1

-- the bytes of all fields, one after the other
abbrev pub coded_fields : (fields : List Field) → Values fields → List ℕ
coded_fields [] values = []
coded_fields (field ∷ fields) values = coded_value field values.0 ++ coded_fields fields values.1

-- what makes something of what stands in the fields
abbrev pub Makes : List Field → Type 0 → Type 0
Makes [] X = X
Makes (field ∷ fields) X = Of field → Makes fields X

abbrev pub made_of : {X : Type 0} → (fields : List Field) → Makes fields X → Values fields → X
made_of [] made values = made
made_of (field ∷ fields) make values = made_of fields (make values.0) values.1

-- what bytes are to fields, and what is made of what stands in them
abbrev pub made_at : {X : Type 0} → (fields : List Field) → Makes fields X → List ℕ → Read X
made_at [] made bytes = Whole made bytes
made_at (field ∷ fields) make bytes =
    and_then (value_at field bytes) (λ value rest. made_at fields (make value) rest)
