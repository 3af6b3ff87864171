-- What is written is read again, whatever follows it.
use Rattle.std.proofs.Common.{◌≡◌, ℕ, ◌*◌, ◌<◌, ◌≤◌, ◌^◌, Bool, true, false, cond, List, [], ◌∷◌, ◌++◌}
use Rattle.std.proofs.Common.{length, drop, refl, ap, ◌∙◌, append_assoc, length-append, arith, ltb}
use Rattle.std.proofs.Common.{Option, Some, None}
use Rattle.std.specs.Int.{Width, w16, w32, w64, byte_len, to_le_bytes, from_le_bytes, to_be_bytes}
use Rattle.std.specs.List.{AllByRecursion}
use Rattle.std.proofs.lemmas.Bool.{le-ltb}
use Rattle.std.proofs.lemmas.List.{take_at, drop_at}
use Rattle.std.proofs.lemmas.Nat.{from_le_bytes-to_le_bytes_4, from_le_bytes-to_le_bytes_8, from_be_bytes-to_be_bytes_2}
use Rattle.kom_types.specs.declared.limits.TheConstants.{LAST_MOMENT}
use Rattle.kom_types.specs.declared.memberships.ReadRange.{ReadRange}
use Rattle.effect_codec.specs.Fields.{Field, Byte, Half, Flag, Number, Small, Moment, Text, Fixed, Ranges, OneOf, Of}
use Rattle.effect_codec.specs.Fields.{Setting, IsIn, IsAtMost, IsRange, coded_value, coded_range, coded_ranges, Read}
use Rattle.effect_codec.specs.Fields.{Whole, Short, Wrong, and_then, bytes_at, number_at, half_at, limited_at}
use Rattle.effect_codec.specs.Fields.{ranges_of}
use Rattle.effect_codec.specs.Fields.{so_many_ranges_at, set_at, greatest_of, value_at, Values, AreIn, coded_fields}
use Rattle.effect_codec.specs.Fields.{Makes}
use Rattle.effect_codec.specs.Fields.{made_of}
use Rattle.effect_codec.specs.Fields.{made_at}

-- bytes of a length, before others
enough : (bytes rest : List ℕ) (many : ℕ) → length bytes ≡ many → ltb (length (bytes ++ rest)) many ≡ false
enough bytes rest many long = le-ltb _ _ (omega (arith, length-append bytes rest, long))

pub bytes_again : (bytes rest : List ℕ) (many : ℕ) → length bytes ≡ many
    → bytes_at many (bytes ++ rest) ≡ Whole bytes rest
bytes_again bytes rest many long =
    rw (enough bytes rest many long, take_at bytes rest many long, drop_at bytes rest many long) refl

pub number_again : (n : ℕ) (rest : List ℕ) → n < 2 ^ 32 → number_at (to_le_bytes w32 n ++ rest) ≡ Whole n rest
number_again n rest small =
    ap (λ (m : ℕ). cond (ltb (length (to_le_bytes w32 n ++ rest)) 4) Short
    (Whole m (drop 4 (to_le_bytes w32 n ++ rest))))
    (from_le_bytes-to_le_bytes_4 n small)
    ∙ ap (λ (b : Bool). cond b Short (Whole n (drop 4 (to_le_bytes w32 n ++ rest))))
    (enough (to_le_bytes w32 n) rest 4 refl)

pub half_again : (n : ℕ) (rest : List ℕ) → n < 2 ^ 16 → half_at (to_be_bytes w16 n ++ rest) ≡ Whole n rest
half_again n rest small =
    ap (λ (m : ℕ). cond (ltb (length (to_be_bytes w16 n ++ rest)) 2) Short
    (Whole m (drop 2 (to_be_bytes w16 n ++ rest))))
    (from_be_bytes-to_be_bytes_2 n small)
    ∙ ap (λ (b : Bool). cond b Short (Whole n (drop 2 (to_be_bytes w16 n ++ rest))))
    (enough (to_be_bytes w16 n) rest 2 refl)

-- the same of a number that has a greatest one, whatever its width
limited_again : (w : Width) (greatest n : ℕ) (bytes rest : List ℕ) → n ≤ greatest → length bytes ≡ byte_len w
    → from_le_bytes w (bytes ++ rest) ≡ n → limited_at w greatest (bytes ++ rest) ≡ Whole n rest
limited_again w greatest n bytes rest most long is =
    ap (λ (m : ℕ). cond (ltb greatest m) Wrong
    (cond (ltb (length (bytes ++ rest)) (byte_len w)) Short (Whole m (drop (byte_len w) (bytes ++ rest))))) is
    ∙ rw (le-ltb greatest n most, enough bytes rest (byte_len w) long, drop_at bytes rest (byte_len w) long) refl

pub limited_4_again : (greatest n : ℕ) (rest : List ℕ) → n ≤ greatest → n < 2 ^ 32
    → limited_at w32 greatest (to_le_bytes w32 n ++ rest) ≡ Whole n rest
limited_4_again greatest n rest most small =
    limited_again w32 greatest n (to_le_bytes w32 n) rest most refl (from_le_bytes-to_le_bytes_4 n small)

pub limited_8_again : (greatest n : ℕ) (rest : List ℕ) → n ≤ greatest → n < 2 ^ 64
    → limited_at w64 greatest (to_le_bytes w64 n ++ rest) ≡ Whole n rest
limited_8_again greatest n rest most small =
    limited_again w64 greatest n (to_le_bytes w64 n) rest most refl (from_le_bytes-to_le_bytes_8 n small)

text_again : (most : ℕ) (bytes rest : List ℕ) → length bytes ≤ most → length bytes < 2 ^ 32
    → value_at (Text most) (coded_value (Text most) bytes ++ rest) ≡ Whole bytes rest
unfolding value_at
text_again most bytes rest few small =
    ap (λ (l : List ℕ). and_then (limited_at w32 most l) bytes_at)
    (append_assoc (to_le_bytes w32 (length bytes)) bytes rest)
    ∙ ap (λ (r : Read ℕ). and_then r bytes_at) (limited_4_again most (length bytes) (bytes ++ rest) few small)
    ∙ bytes_again bytes rest (length bytes) refl

-- each range has eight bytes
pub length-coded_ranges : (ranges : List ReadRange) → length (coded_ranges ranges) ≡ 8 * length ranges
length-coded_ranges [] = refl
length-coded_ranges (range ∷ ranges) =
    omega (arith, length-append (coded_range range) (coded_ranges ranges), length-coded_ranges ranges)

ranges_of_again : (ranges : List ReadRange) (rest : List ℕ) → AllByRecursion IsRange ranges
    → ranges_of (length ranges) (coded_ranges ranges ++ rest) ≡ ranges
ranges_of_again [] rest are = refl
ranges_of_again (range ∷ ranges) rest are =
    let pair : ℕ → ℕ → ReadRange = λ first last. record { first = first; last = last } in
    let more : List ReadRange = ranges_of (length ranges) (coded_ranges ranges ++ rest) in
    ap (λ (n : ℕ). pair n (from_le_bytes w32 (to_le_bytes w32 range.last)) ∷ more)
    (from_le_bytes-to_le_bytes_4 range.first are.0.0)
    ∙ ap (λ (n : ℕ). pair range.first n ∷ more) (from_le_bytes-to_le_bytes_4 range.last are.0.1)
    ∙ ap (λ (l : List ReadRange). range ∷ l) (ranges_of_again ranges rest are.1)

so_many_ranges_again : (ranges : List ReadRange) (rest : List ℕ) → AllByRecursion IsRange ranges
    → so_many_ranges_at (length ranges) (coded_ranges ranges ++ rest) ≡ Whole ranges rest
so_many_ranges_again ranges rest are =
    let long = length-coded_ranges ranges in
    rw (
      enough (coded_ranges ranges) rest (8 * length ranges) long,
      drop_at (coded_ranges ranges) rest (8 * length ranges) long,
      ranges_of_again ranges rest are,
    ) refl

ranges_again : (ranges : List ReadRange) (rest : List ℕ) → IsIn Ranges ranges
    → value_at Ranges (coded_value Ranges ranges ++ rest) ≡ Whole ranges rest
unfolding value_at
ranges_again ranges rest is =
    ap (λ (l : List ℕ). and_then (number_at l) so_many_ranges_at)
    (append_assoc (to_le_bytes w32 (length ranges)) (coded_ranges ranges) rest)
    ∙ ap (λ (r : Read ℕ). and_then r so_many_ranges_at)
    (number_again (length ranges) (coded_ranges ranges ++ rest) is.0)
    ∙ so_many_ranges_again ranges rest is.1

one_of_again : (greatest : List ℕ) (set : Setting) (rest : List ℕ) → IsIn (OneOf greatest) set
    → value_at (OneOf greatest) (coded_value (OneOf greatest) set ++ rest) ≡ Whole set rest
unfolding value_at
one_of_again greatest set rest is = by_greatest (greatest_of set.part greatest) is where
  by_greatest : (found : Option ℕ) → IsAtMost found set.value
      → set_at set.part found (to_le_bytes w64 set.value ++ rest) ≡ Whole set rest
  by_greatest None none = absurd none
  by_greatest (Some last) most = ap
      (λ (r : Read ℕ). and_then r (λ value after. Whole (record { part = set.part; value = value }) after))
      (limited_8_again last set.value rest most.0 most.1)

-- what stands in a field is read again
pub value_again : (field : Field) (value : Of field) (rest : List ℕ) → IsIn field value
    → value_at field (coded_value field value ++ rest) ≡ Whole value rest
unfolding value_at
value_again Byte n rest is = refl
value_again Half n rest is = half_again n rest is
value_again Flag true rest is = refl
value_again Flag false rest is = refl
value_again Number n rest is = number_again n rest is
value_again Small n rest is = limited_4_again 255 n rest (omega arith) (omega arith)
value_again Moment n rest is = limited_8_again LAST_MOMENT n rest is (omega arith)
value_again (Text most) bytes rest is = text_again most bytes rest is.0 is.1
value_again (Fixed many) bytes rest is = bytes_again bytes rest many is
value_again Ranges ranges rest is = ranges_again ranges rest is
value_again (OneOf greatest) set rest is = one_of_again greatest set rest is

-- what stands in fields is read again, and the same is made of it
pub made_again : {X : Type 0} → (fields : List Field) (make : Makes fields X) (values : Values fields) (rest : List ℕ)
    → AreIn fields values →
    made_at fields make (coded_fields fields values ++ rest) ≡ Whole (made_of fields make values) rest
made_again [] make values rest are = refl
made_again {X} (field ∷ fields) make values rest are =
    let next : Of field → List ℕ → Read X = λ value after. made_at fields (make value) after in
    ap (λ (l : List ℕ). and_then (value_at field l) next)
    (append_assoc (coded_value field values.0) (coded_fields fields values.1) rest)
    ∙ ap (λ (r : Read (Of field)). and_then r next)
    (value_again field values.0 (coded_fields fields values.1 ++ rest) are.0)
    ∙ made_again fields (make values.0) values.1 rest are.1
