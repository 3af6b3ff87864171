-- What is too short lacks some of an effect's bytes.
use Rattle.std.proofs.Common.{◌≡◌, ℕ, zero, suc, ◌-◌, ◌*◌, ◌<◌, ◌≤◌, ◌^◌, Bool, true, false, cond, ◌⊎◌, inl, inr}
use Rattle.std.proofs.Common.{List, [], ◌∷◌, ◌++◌, length, take, drop, refl, sym, ap, subst, ◌∙◌, append_assoc}
use Rattle.std.proofs.Common.{append-nil}
use Rattle.std.proofs.Common.{length-append, arith, ltb, get_or, Option, Some, None, ◌/◌, ◌%◌}
use Rattle.std.specs.Prelude.{◌&&◌}
use Rattle.std.specs.Int.{Width, w16, w32, w64, byte_len, to_le_bytes, from_le_bytes, to_be_bytes, from_be_bytes}
use Rattle.std.specs.List.{AllByRecursion, list_all}
use Rattle.std.proofs.lemmas.Bool.{ltb-true, ltb-false}
use Rattle.std.proofs.lemmas.List.{take_at, drop_at}
use Rattle.kom_types.specs.declared.limits.TheConstants.{LAST_MOMENT}
use Rattle.kom_types.specs.declared.effects.Effect.{Effect}
use Rattle.kom_types.specs.declared.effects.Effect.TheVariants as effect
use Rattle.kom_types.specs.declared.memberships.ReadRange.{ReadRange}
use Rattle.effect_codec.specs.Fields.{Field, Byte, Half, Flag, Number, Small, Moment, Text, Fixed, Ranges, OneOf, Of}
use Rattle.effect_codec.specs.Fields.{IsIn, IsAtMost, IsRange, coded_value, coded_ranges, Read}
use Rattle.effect_codec.specs.Fields.{Whole, Short, Wrong, and_then, bytes_at, number_at, byte_at, limited_at}
use Rattle.effect_codec.specs.Fields.{flag_of, ranges_of, so_many_ranges_at, set_at, greatest_of, value_at, Values}
use Rattle.effect_codec.specs.Fields.{AreIn}
use Rattle.effect_codec.specs.Fields.{coded_fields, Makes, made_of, made_at}
use Rattle.effect_codec.specs.Table.{Row, rows, row_of, set_part}
use Rattle.effect_codec.specs.Coding.{coded_effect, effect_at, kind_at, IsInRange}
use Rattle.effect_codec.specs.Laws.{AreBytes, GoesOn}
use Rattle.effect_codec.proofs.Stays.{read_of, le_same}
use Rattle.effect_codec.proofs.Spelled.{Spells, le_4, le_8, limited_4_spelled, number_spelled, value_spelled}
use Rattle.effect_codec.proofs.Spelled.{ranges_here, length-ranges_of}
use Rattle.effect_codec.proofs.Spellings.{RowSpells, rows_spell, row_found}

-- a reading that was short was so by the one or the other of its rules
and_then_short : {X Y : Type 0} (read : Read X) (next : X → List ℕ → Read Y) → and_then read next ≡ Short
    → (read ≡ Short) ⊎ ((value : X) × (between : List ℕ) × (read ≡ Whole value between) × (next value between ≡ Short))
and_then_short (Whole value between) next is = inr (value, between, refl, is)
and_then_short Short next is = inl refl
and_then_short Wrong next is = absurd (cc is)

read_short : {X : Type 0} (value : List ℕ → X) (many : ℕ) (bytes : List ℕ) → read_of value many bytes ≡ Short
    → length bytes < many
read_short {X} value many bytes = by_test (ltb (length bytes) many) refl where
  by_test : (test : Bool) → ltb (length bytes) many ≡ test
      → cond test Short (Whole (value bytes) (drop many bytes)) ≡ Short → length bytes < many
  by_test true short is = ltb-true _ _ short
  by_test false enough is = absurd (cc is)

limited_short : (w : Width) (greatest : ℕ) (bytes : List ℕ) → limited_at w greatest bytes ≡ Short
    → (length bytes < byte_len w) × (from_le_bytes w bytes ≤ greatest)
limited_short w greatest bytes = by_test (ltb greatest (from_le_bytes w bytes)) refl where
  by_test : (test : Bool) → ltb greatest (from_le_bytes w bytes) ≡ test
      → cond test Wrong (read_of (from_le_bytes w) (byte_len w) bytes) ≡ Short
      → (length bytes < byte_len w) × (from_le_bytes w bytes ≤ greatest)
  by_test true past is = absurd (cc is)
  by_test false within is = (read_short (from_le_bytes w) (byte_len w) bytes is, ltb-false _ _ within)

-- so many zeros
abbrev zeros : ℕ → List ℕ
zeros zero = []
zeros (suc many) = 0 ∷ zeros many

length-zeros : (many : ℕ) → length (zeros many) ≡ many
length-zeros zero = refl
length-zeros (suc many) = ap suc (length-zeros many)

index_zeros : (many i : ℕ) → get_or (zeros many) i 0 ≡ 0
index_zeros zero i = refl
index_zeros (suc many) zero = refl
index_zeros (suc many) (suc i) = index_zeros many i

-- zeros after bytes change none of them
index_filled : (bytes : List ℕ) (many i : ℕ) → get_or (bytes ++ zeros many) i 0 ≡ get_or bytes i 0
index_filled [] many i = index_zeros many i
index_filled (byte ∷ bytes) many zero = refl
index_filled (byte ∷ bytes) many (suc i) = index_filled bytes many i

bytes_filled : (bytes : List ℕ) (many : ℕ) → AreBytes bytes → AreBytes (bytes ++ zeros many)
bytes_filled bytes many are i = subst (λ (b : ℕ). b < 256) (sym (index_filled bytes many i)) (are i)

length-filled : (bytes : List ℕ) (many : ℕ) → length bytes < many
    → length (bytes ++ zeros (many - length bytes)) ≡ many
length-filled bytes many short =
    omega (arith, length-append bytes (zeros (many - length bytes)), length-zeros (many - length bytes), short)

take_whole : (n : ℕ) (bytes : List ℕ) → length bytes ≡ n → take n bytes ≡ bytes
take_whole n bytes long = ap (take n) (sym (append-nil bytes)) ∙ take_at bytes [] n long

drop_whole : (n : ℕ) (bytes : List ℕ) → length bytes ≡ n → drop n bytes ≡ []
drop_whole n bytes long = ap (drop n) (sym (append-nil bytes)) ∙ drop_at bytes [] n long

-- the first bytes of a number, as many as there are, spell it when zeros follow
filled_4 : (bytes : List ℕ) → AreBytes bytes → length bytes < 4
    → (to_le_bytes w32 (from_le_bytes w32 bytes) ≡ bytes ++ zeros (4 - length bytes))
    × (from_le_bytes w32 bytes < 2 ^ 32)
filled_4 bytes are short =
    let filled : List ℕ = bytes ++ zeros (4 - length bytes) in
    let long : length filled ≡ 4 = length-filled bytes 4 short in
    let same : from_le_bytes w32 filled ≡ from_le_bytes w32 bytes =
    le_same w32 filled bytes (λ i below. index_filled bytes (4 - length bytes) i) in
    let both = le_4 filled (bytes_filled bytes (4 - length bytes) are) (omega (arith, long)) in (
      ap (to_le_bytes w32) (sym same) ∙ both.0 ∙ take_whole 4 filled long,
      subst (λ (n : ℕ). n < 2 ^ 32) same both.1,
    )

filled_8 : (bytes : List ℕ) → AreBytes bytes → length bytes < 8
    → (to_le_bytes w64 (from_le_bytes w64 bytes) ≡ bytes ++ zeros (8 - length bytes))
    × (from_le_bytes w64 bytes < 2 ^ 64)
filled_8 bytes are short =
    let filled : List ℕ = bytes ++ zeros (8 - length bytes) in
    let long : length filled ≡ 8 = length-filled bytes 8 short in
    let same : from_le_bytes w64 filled ≡ from_le_bytes w64 bytes =
    le_same w64 filled bytes (λ i below. index_filled bytes (8 - length bytes) i) in
    let both = le_8 filled (bytes_filled bytes (8 - length bytes) are) (omega (arith, long)) in (
      ap (to_le_bytes w64) (sym same) ∙ both.0 ∙ take_whole 8 filled long,
      subst (λ (n : ℕ). n < 2 ^ 64) same both.1,
    )

-- bytes that go on to something that is allowed
record Completes {X : Type 0} (spelling : X → List ℕ) (IsAllowed : X → Type 0) (bytes : List ℕ) : Type 0 where
  pub value : X
  pub missing : List ℕ
  pub allowed : IsAllowed value
  pub spelled : spelling value ≡ bytes ++ missing

abbrev FieldCompletes : Field → List ℕ → Type 0
FieldCompletes field bytes = Completes (coded_value field) (IsIn field) bytes

-- a field in which something may stand
abbrev has_value : Field → Bool
has_value Byte = true
has_value Half = true
has_value Flag = true
has_value Number = true
has_value Small = true
has_value Moment = true
has_value (Text most) = true
has_value (Fixed many) = true
has_value Ranges = true
has_value (OneOf []) = false
has_value (OneOf (first ∷ greatest)) = true

any_value : (field : Field) → has_value field ≡ true → FieldCompletes field []
any_value Byte has = record { value = 0; missing = 0 ∷ []; allowed = omega arith; spelled = refl }
any_value Half has = record { value = 0; missing = to_be_bytes w16 0; allowed = omega arith; spelled = refl }
any_value Flag has = record { value = false; missing = 0 ∷ []; allowed = tt; spelled = refl }
any_value Number has = record { value = 0; missing = to_le_bytes w32 0; allowed = omega arith; spelled = refl }
any_value Small has = record { value = 0; missing = to_le_bytes w32 0; allowed = omega arith; spelled = refl }
any_value Moment has = record { value = 0; missing = to_le_bytes w64 0; allowed = omega arith; spelled = refl }
any_value (Text most) has =
    record { value = []; missing = to_le_bytes w32 0; allowed = (omega arith, omega arith); spelled = refl }
any_value (Fixed many) has =
    record { value = zeros many; missing = zeros many; allowed = length-zeros many; spelled = refl }
any_value Ranges has =
    record { value = []; missing = to_le_bytes w32 0; allowed = (omega arith, tt); spelled = refl }
any_value (OneOf []) has = absurd (cc has)
any_value (OneOf (first ∷ greatest)) has = record {
  value = set_part 1 0;
  missing = 1 ∷ to_le_bytes w64 0;
  allowed = (omega arith, omega arith);
  spelled = refl;
}

byte_goes_on : (bytes : List ℕ) → byte_at bytes ≡ Short → bytes ≡ []
byte_goes_on [] is = refl
byte_goes_on (byte ∷ bytes) is = absurd (cc is)

flag_never_short : (n : ℕ) (bytes : List ℕ) → flag_of n bytes ≡ Short → ⊥
flag_never_short zero bytes is = cc is
flag_never_short (suc zero) bytes is = cc is
flag_never_short (suc (suc n)) bytes is = cc is

-- nothing at all goes on to whatever may stand in the field
from_nothing : (field : Field) (bytes : List ℕ) → has_value field ≡ true → bytes ≡ [] → FieldCompletes field bytes
from_nothing field bytes has none = subst (λ (l : List ℕ). FieldCompletes field l) (sym none) (any_value field has)

half_goes_on : (bytes : List ℕ) → AreBytes bytes → length bytes < 2 → FieldCompletes Half bytes
half_goes_on [] are short = any_value Half refl
half_goes_on (byte ∷ []) are short = one byte (are 0) where
  one : (b : ℕ) → b < 256 → FieldCompletes Half (b ∷ [])
  one b small =
      let high : b * 256 / 256 % 256 ≡ b = omega arith in
      let low : b * 256 % 256 ≡ 0 = omega arith in
      record {
        value = b * 256;
        missing = 0 ∷ [];
        allowed = omega arith;
        spelled = ap (λ (n : ℕ). n ∷ (b * 256 % 256) ∷ []) high ∙ ap (λ (n : ℕ). b ∷ n ∷ []) low;
      }
half_goes_on (byte ∷ other ∷ bytes) are short = absurd (omega (arith, short))

number_goes_on : (bytes : List ℕ) → AreBytes bytes → length bytes < 4 → FieldCompletes Number bytes
number_goes_on bytes are short =
    let both = filled_4 bytes are short in
    record {
      value = from_le_bytes w32 bytes;
      missing = zeros (4 - length bytes);
      allowed = both.1;
      spelled = both.0;
    }

small_goes_on : (bytes : List ℕ) → AreBytes bytes → limited_at w32 255 bytes ≡ Short → FieldCompletes Small bytes
small_goes_on bytes are is =
    let short = limited_short w32 255 bytes is in
    let both = filled_4 bytes are short.0 in
    record {
      value = from_le_bytes w32 bytes;
      missing = zeros (4 - length bytes);
      allowed = omega (arith, short.1);
      spelled = both.0;
    }

moment_goes_on : (bytes : List ℕ) → AreBytes bytes → limited_at w64 LAST_MOMENT bytes ≡ Short
    → FieldCompletes Moment bytes
moment_goes_on bytes are is =
    let short = limited_short w64 LAST_MOMENT bytes is in
    let both = filled_8 bytes are short.0 in
    record {
      value = from_le_bytes w64 bytes;
      missing = zeros (8 - length bytes);
      allowed = short.1;
      spelled = both.0;
    }

fixed_goes_on : (many : ℕ) (bytes : List ℕ) → length bytes < many → FieldCompletes (Fixed many) bytes
fixed_goes_on many bytes short = record {
  value = bytes ++ zeros (many - length bytes);
  missing = zeros (many - length bytes);
  allowed = length-filled bytes many short;
  spelled = refl;
}

text_goes_on : (most : ℕ) (bytes : List ℕ) → AreBytes bytes → value_at (Text most) bytes ≡ Short
    → FieldCompletes (Text most) bytes
unfolding value_at
text_goes_on most bytes are is = by_rule (and_then_short (limited_at w32 most bytes) bytes_at is) where
  by_rule : (limited_at w32 most bytes ≡ Short)
      ⊎ ((value : ℕ) × (between : List ℕ) × (limited_at w32 most bytes ≡ Whole value between)
      × (bytes_at value between ≡ Short)) → FieldCompletes (Text most) bytes
  by_rule (inl size) =
      let short = limited_short w32 most bytes size in
      let both = filled_4 bytes are short.0 in
      let many : ℕ = from_le_bytes w32 bytes in
      let long : length (zeros many) ≡ many = length-zeros many in
      record {
        value = zeros many;
        missing = zeros (4 - length bytes) ++ zeros many;
        allowed = (omega (arith, long, short.1), omega (arith, long, both.1));
        spelled = ap (λ (n : ℕ). to_le_bytes w32 n ++ zeros many) long
            ∙ ap (λ (l : List ℕ). l ++ zeros many) both.0 ∙ append_assoc bytes (zeros (4 - length bytes)) (zeros many);
      }
  by_rule (inr (many, between, size, text)) =
      let spells = limited_4_spelled most bytes many between are size in
      let short : length between < many = read_short (take many) many between text in
      let filled : List ℕ = between ++ zeros (many - length between) in
      let long : length filled ≡ many = length-filled between many short in
      record {
        value = filled;
        missing = zeros (many - length between);
        allowed = (omega (arith, long, spells.allowed.0), omega (arith, long, spells.allowed.1));
        spelled = ap (λ (n : ℕ). to_le_bytes w32 n ++ filled) long
            ∙ sym (append_assoc (to_le_bytes w32 many) between (zeros (many - length between)))
            ∙ ap (λ (l : List ℕ). l ++ zeros (many - length between)) (sym spells.spelled);
      }

ranges_go_on : (bytes : List ℕ) → AreBytes bytes → value_at Ranges bytes ≡ Short → FieldCompletes Ranges bytes
unfolding value_at
ranges_go_on bytes are is = by_rule (and_then_short (number_at bytes) so_many_ranges_at is) where
  filled_ranges : (many : ℕ) (between : List ℕ) → AreBytes between → length between < 8 * many
      → Spells (coded_ranges (ranges_of many (between ++ zeros (8 * many - length between))))
      (AllByRecursion IsRange (ranges_of many (between ++ zeros (8 * many - length between))))
      (between ++ zeros (8 * many - length between)) []
  filled_ranges many between left short =
      let filled : List ℕ = between ++ zeros (8 * many - length between) in
      let long : length filled ≡ 8 * many = length-filled between (8 * many) short in
      subst (λ (l : List ℕ). Spells (coded_ranges (ranges_of many filled))
      (AllByRecursion IsRange (ranges_of many filled)) filled l) (drop_whole (8 * many) filled long)
      (ranges_here many filled (bytes_filled between (8 * many - length between) left) (omega (arith, long)))

  by_rule : (number_at bytes ≡ Short)
      ⊎ ((value : ℕ) × (between : List ℕ) × (number_at bytes ≡ Whole value between)
      × (so_many_ranges_at value between ≡ Short)) → FieldCompletes Ranges bytes
  by_rule (inl size) = by_count (from_le_bytes w32 bytes) refl where
    short : length bytes < 4
    short = read_short (from_le_bytes w32) 4 bytes size

    by_count : (many : ℕ) → from_le_bytes w32 bytes ≡ many → FieldCompletes Ranges bytes
    by_count zero none = record {
      value = [];
      missing = zeros (4 - length bytes);
      allowed = (omega arith, tt);
      spelled = ap (to_le_bytes w32) (sym none) ∙ (filled_4 bytes are short).0;
    }
    by_count (suc many) some =
        let both = filled_4 bytes are short in
        let body = filled_ranges (suc many) [] (λ i. omega arith) (omega arith) in
        let ranges : List ReadRange = ranges_of (suc many) (zeros (8 * suc many - 0)) in
        let long : length ranges ≡ suc many = length-ranges_of (suc many) (zeros (8 * suc many - 0)) in
        record {
          value = ranges;
          missing = zeros (4 - length bytes) ++ coded_ranges ranges;
          allowed = (omega (arith, long, some, both.1), body.allowed);
          spelled = ap (λ (n : ℕ). to_le_bytes w32 n ++ coded_ranges ranges) (long ∙ sym some)
              ∙ ap (λ (l : List ℕ). l ++ coded_ranges ranges) both.0
              ∙ append_assoc bytes (zeros (4 - length bytes)) (coded_ranges ranges);
        }
  by_rule (inr (many, between, size, text)) =
      let spells = number_spelled bytes many between are size in
      let short : length between < 8 * many = read_short (ranges_of many) (8 * many) between text in
      let filled : List ℕ = between ++ zeros (8 * many - length between) in
      let body = filled_ranges many between spells.left short in
      let ranges : List ReadRange = ranges_of many filled in
      let long : length ranges ≡ many = length-ranges_of many filled in
      let body_is : coded_ranges ranges ≡ filled = sym (body.spelled ∙ append-nil (coded_ranges ranges)) in
      record {
        value = ranges;
        missing = zeros (8 * many - length between);
        allowed = (omega (arith, long, spells.allowed), body.allowed);
        spelled = ap (λ (n : ℕ). to_le_bytes w32 n ++ coded_ranges ranges) long
            ∙ ap (λ (l : List ℕ). to_le_bytes w32 many ++ l) body_is
            ∙ sym (append_assoc (to_le_bytes w32 many) between (zeros (8 * many - length between)))
            ∙ ap (λ (l : List ℕ). l ++ zeros (8 * many - length between)) (sym spells.spelled);
      }

set_goes_on : (greatest : List ℕ) (part : ℕ) (found : Option ℕ) (between : List ℕ) → greatest_of part greatest ≡ found
    → AreBytes between → set_at part found between ≡ Short → FieldCompletes (OneOf greatest) (part ∷ between)
set_goes_on greatest part None between found_is are is = absurd (cc is)
set_goes_on greatest part (Some last) between found_is are is = by_rule
    (and_then_short (limited_at w64 last between) (λ value rest. Whole (record { part = part; value = value }) rest) is)
  where
    by_rule : (limited_at w64 last between ≡ Short)
        ⊎ ((value : ℕ) × (rest : List ℕ) × (limited_at w64 last between ≡ Whole value rest)
        × (Whole (set_part part value) rest ≡ Short)) → FieldCompletes (OneOf greatest) (part ∷ between)
    by_rule (inl size) =
        let short = limited_short w64 last between size in
        let both = filled_8 between are short.0 in
        record {
          value = set_part part (from_le_bytes w64 between);
          missing = zeros (8 - length between);
          allowed = subst (λ (o : Option ℕ). IsAtMost o (from_le_bytes w64 between)) (sym found_is) (short.1, both.1);
          spelled = ap (λ (l : List ℕ). part ∷ l) both.0;
        }
    by_rule (inr (value, rest, size, whole)) = absurd (cc whole)

one_of_goes_on : (greatest bytes : List ℕ) → has_value (OneOf greatest) ≡ true → AreBytes bytes
    → value_at (OneOf greatest) bytes ≡ Short → FieldCompletes (OneOf greatest) bytes
unfolding value_at
one_of_goes_on greatest [] has are is = any_value (OneOf greatest) has
one_of_goes_on greatest (part ∷ between) has are is =
    set_goes_on greatest part (greatest_of part greatest) between refl (λ i. are (suc i)) is

flag_goes_on : (bytes : List ℕ) → value_at Flag bytes ≡ Short → FieldCompletes Flag bytes
unfolding value_at
flag_goes_on [] is = any_value Flag refl
flag_goes_on (byte ∷ bytes) is = absurd (flag_never_short byte bytes is)

-- what is too short for a field goes on to something that may stand there
value_goes_on : (field : Field) (bytes : List ℕ) → has_value field ≡ true → AreBytes bytes
    → value_at field bytes ≡ Short → FieldCompletes field bytes
unfolding value_at
value_goes_on Byte bytes has are is = from_nothing Byte bytes has (byte_goes_on bytes is)
value_goes_on Half bytes has are is = half_goes_on bytes are (read_short (from_be_bytes w16) 2 bytes is)
value_goes_on Flag bytes has are is = flag_goes_on bytes is
value_goes_on Number bytes has are is = number_goes_on bytes are (read_short (from_le_bytes w32) 4 bytes is)
value_goes_on Small bytes has are is = small_goes_on bytes are is
value_goes_on Moment bytes has are is = moment_goes_on bytes are is
value_goes_on (Text most) bytes has are is = text_goes_on most bytes are is
value_goes_on (Fixed many) bytes has are is = fixed_goes_on many bytes (read_short (take many) many bytes is)
value_goes_on Ranges bytes has are is = ranges_go_on bytes are is
value_goes_on (OneOf greatest) bytes has are is = one_of_goes_on greatest bytes has are is

both_true : (a b : Bool) → (a && b) ≡ true → (a ≡ true) × (b ≡ true)
both_true true b is = (refl, is)
both_true false b is = absurd (cc is)

any_values : (fields : List Field) → list_all has_value fields ≡ true → (values : Values fields) × AreIn fields values
any_values [] has = (tt, tt)
any_values (field ∷ fields) has =
    let both = both_true (has_value field) (list_all has_value fields) has in
    let first = any_value field both.0 in
    let others = any_values fields both.1 in
    ((first.value, others.0), (first.allowed, others.1))

-- what is too short for fields goes on to values that may stand in them
values_go_on : {X : Type 0} (fields : List Field) (make : Makes fields X) (bytes : List ℕ)
    → list_all has_value fields ≡ true → AreBytes bytes → made_at fields make bytes ≡ Short
    → Completes (coded_fields fields) (AreIn fields) bytes
values_go_on [] make bytes has are is = absurd (cc is)
values_go_on {X} (field ∷ fields) make bytes has are is =
    let both = both_true (has_value field) (list_all has_value fields) has in
    by_rule both.0 both.1 (λ value between left short. values_go_on fields (make value) between both.1 left short)
    (and_then_short (value_at field bytes) (λ value after. made_at fields (make value) after) is) where
      by_rule : has_value field ≡ true → list_all has_value fields ≡ true
          → ((value : Of field) (between : List ℕ) → AreBytes between → made_at fields (make value) between ≡ Short
          → Completes (coded_fields fields) (AreIn fields) between)
          → (value_at field bytes ≡ Short)
          ⊎ ((value : Of field) × (between : List ℕ) × (value_at field bytes ≡ Whole value between)
          × (made_at fields (make value) between ≡ Short))
          → Completes (coded_fields (field ∷ fields)) (AreIn (field ∷ fields)) bytes
      by_rule has_first has_others next (inl short) =
          let first = value_goes_on field bytes has_first are short in
          let others = any_values fields has_others in
          record {
            value = (first.value, others.0);
            missing = first.missing ++ coded_fields fields others.0;
            allowed = (first.allowed, others.1);
            spelled = ap (λ (l : List ℕ). l ++ coded_fields fields others.0) first.spelled
                ∙ append_assoc bytes first.missing (coded_fields fields others.0);
          }
      by_rule has_first has_others next (inr (value, between, whole, short)) =
          let first = value_spelled field bytes value between are whole in
          let others = next value between first.left short in
          record {
            value = (value, others.value);
            missing = others.missing;
            allowed = (first.allowed, others.allowed);
            spelled = ap (λ (l : List ℕ). coded_value field value ++ l) others.spelled
                ∙ sym (append_assoc (coded_value field value) between others.missing)
                ∙ ap (λ (l : List ℕ). l ++ others.missing) (sym first.spelled);
          }

-- something may stand in each field of each row, and it is what stands in those of its effect
abbrev RowCompletes : Row → Type 0
RowCompletes row = list_all has_value row.fields ≡ true

rows_complete : AllByRecursion RowCompletes rows
rows_complete = (
  refl,
  (
    refl,
    (
      refl,
      (
        refl,
        (
          refl,
          (
            refl,
            (
              refl,
              (
                refl,
                (
                  refl,
                  (
                    refl,
                    (
                      refl,
                      (
                        refl,
                        (
                          refl,
                          (
                            refl,
                            (
                              refl,
                              (refl, (refl, (refl, (refl, (refl, (refl, (refl, (refl, (refl, tt))))))))),
                            ),
                          ),
                        ),
                      ),
                    ),
                  ),
                ),
              ),
            ),
          ),
        ),
      ),
    ),
  ),
)

kind_goes_on : (kind : ℕ) (found : Option Row) (bytes : List ℕ) → AreBytes bytes → row_of kind ≡ found
    → kind_at found bytes ≡ Short → Completes coded_effect IsInRange (kind ∷ bytes)
kind_goes_on kind None bytes are found_is is = absurd (cc is)
kind_goes_on kind (Some row) bytes are found_is is =
    let spells = row_found RowSpells rows kind row rows_spell found_is in
    let completes = row_found RowCompletes rows kind row rows_complete found_is in
    let values = values_go_on row.fields row.make bytes completes.0 are is in
    let made = spells.0 values.value values.allowed in
    record {
      value = made_of row.fields row.make values.value;
      missing = values.missing;
      allowed = made.1;
      spelled = made.0 ∙ ap (λ (n : ℕ). n ∷ coded_fields row.fields values.value) spells.1
          ∙ ap (λ (l : List ℕ). kind ∷ l) values.spelled;
    }

first_effect : Completes coded_effect IsInRange []
first_effect = record {
  value = effect.ConfGone 0;
  missing = 2 ∷ to_le_bytes w32 0;
  allowed = (omega arith, tt);
  spelled = refl;
}

pub goes_on : GoesOn
goes_on bytes are is = by_bytes bytes are is where
  by_bytes : (bytes : List ℕ) → AreBytes bytes → effect_at bytes ≡ Short
      → (one : Effect) × (missing : List ℕ) × IsInRange one × (coded_effect one ≡ bytes ++ missing)
  by_bytes [] are is =
      (first_effect.value, first_effect.missing, first_effect.allowed, first_effect.spelled)
  by_bytes (kind ∷ bytes) are is =
      let on = kind_goes_on kind (row_of kind) bytes (λ i. are (suc i)) refl is in
      (on.value, on.missing, on.allowed, on.spelled)
