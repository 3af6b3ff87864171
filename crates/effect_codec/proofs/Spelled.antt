-- What is read as an effect is spelled so.
use Rattle.std.proofs.Common.{◌≡◌, ℕ, zero, suc, ◌+◌, ◌*◌, ◌<◌, ◌≤◌, ◌^◌, Bool, true, false, cond, List, [], ◌∷◌, ◌++◌}
use Rattle.std.proofs.Common.{length, take, drop, refl, sym, ap, subst, ◌∙◌, append_assoc, arith, ltb, get_or, Option}
use Rattle.std.proofs.Common.{Some, None}
use Rattle.std.specs.Int.{Width, w16, w32, w64, byte_len, to_le_bytes, from_le_bytes, to_be_bytes, from_be_bytes}
use Rattle.std.specs.List.{AllByRecursion}
use Rattle.std.proofs.lemmas.Bool.{ltb-false}
use Rattle.std.proofs.lemmas.List.{get_or-take, get_or-drop, length-take-le, length-drop, drop-drop}
use Rattle.std.proofs.lemmas.Nat.{le_bytes_4, le_bytes_8, be_bytes_2}
use Rattle.kom_types.specs.declared.limits.TheConstants.{LAST_MOMENT}
use Rattle.kom_types.specs.declared.memberships.ReadRange.{ReadRange}
use Rattle.effect_codec.specs.Fields.{Field, Byte, Half, Flag, Number, Small, Moment, Text, Fixed, Ranges, OneOf, Of}
use Rattle.effect_codec.specs.Fields.{Setting, IsIn, IsAtMost, IsRange, bit, coded_value, coded_ranges, Read}
use Rattle.effect_codec.specs.Fields.{Whole, Short, Wrong, and_then, bytes_at, number_at, half_at, byte_at, limited_at}
use Rattle.effect_codec.specs.Fields.{flag_of, ranges_of, so_many_ranges_at, set_at, greatest_of, value_at, Values}
use Rattle.effect_codec.specs.Fields.{AreIn}
use Rattle.effect_codec.specs.Fields.{coded_fields, Makes, made_of, made_at}
use Rattle.effect_codec.specs.Laws.{AreBytes}
use Rattle.effect_codec.proofs.Stays.{read_of, le_same, be_same}

-- a reading that gave a value gave it by both of its rules
pub and_then_whole : {X Y : Type 0} (read : Read X) (next : X → List ℕ → Read Y) (made : Y) (rest : List ℕ)
    → and_then read next ≡ Whole made rest
    → (value : X) × (between : List ℕ) × (read ≡ Whole value between) × (next value between ≡ Whole made rest)
and_then_whole (Whole value between) next made rest is = (value, between, refl, is)
and_then_whole Short next made rest is = absurd (cc is)
and_then_whole Wrong next made rest is = absurd (cc is)

-- what was read of so many bytes
pub record HasRead {X : Type 0} (value : List ℕ → X) (many : ℕ) (bytes : List ℕ) (found : X) (rest : List ℕ) : Type 0 where
  pub here : many ≤ length bytes
  pub found_is : found ≡ value bytes
  pub rest_is : rest ≡ drop many bytes

pub read_whole : {X : Type 0} (value : List ℕ → X) (many : ℕ) (bytes : List ℕ) (found : X) (rest : List ℕ)
    → read_of value many bytes ≡ Whole found rest → HasRead value many bytes found rest
read_whole {X} value many bytes found rest = by_test (ltb (length bytes) many) refl where
  by_test : (test : Bool) → ltb (length bytes) many ≡ test
      → cond test Short (Whole (value bytes) (drop many bytes)) ≡ Whole found rest → HasRead value many bytes found rest
  by_test true short is = absurd (cc is)
  by_test false enough is = record { here = ltb-false _ _ enough; found_is = cc is; rest_is = cc is }

pub limited_whole : (w : Width) (greatest : ℕ) (bytes : List ℕ) (found : ℕ) (rest : List ℕ)
    → limited_at w greatest bytes ≡ Whole found rest
    → HasRead (from_le_bytes w) (byte_len w) bytes found rest × (found ≤ greatest)
limited_whole w greatest bytes found rest = by_test (ltb greatest (from_le_bytes w bytes)) refl where
  by_test : (test : Bool) → ltb greatest (from_le_bytes w bytes) ≡ test
      → cond test Wrong (read_of (from_le_bytes w) (byte_len w) bytes) ≡ Whole found rest
      → HasRead (from_le_bytes w) (byte_len w) bytes found rest × (found ≤ greatest)
  by_test true past is = absurd (cc is)
  by_test false within is =
      let read = read_whole (from_le_bytes w) (byte_len w) bytes found rest is in
      let most : from_le_bytes w bytes ≤ greatest = ltb-false _ _ within in
      (read, subst (λ (n : ℕ). n ≤ greatest) (sym read.found_is) most)

-- parts of bytes are bytes
pub bytes_dropped : (n : ℕ) (bytes : List ℕ) → AreBytes bytes → AreBytes (drop n bytes)
bytes_dropped n bytes are i = subst (λ (b : ℕ). b < 256) (sym (get_or-drop n bytes i 0)) (are (n + i))

pub bytes_taken : (n : ℕ) (bytes : List ℕ) → AreBytes bytes → AreBytes (take n bytes)
bytes_taken zero bytes are i = omega arith
bytes_taken (suc n) [] are i = omega arith
bytes_taken (suc n) (byte ∷ bytes) are zero = are 0
bytes_taken (suc n) (byte ∷ bytes) are (suc i) = bytes_taken n bytes (λ j. are (suc j)) i

pub taken_and_dropped : (n : ℕ) (bytes : List ℕ) → bytes ≡ take n bytes ++ drop n bytes
taken_and_dropped zero bytes = refl
taken_and_dropped (suc n) [] = refl
taken_and_dropped (suc n) (byte ∷ bytes) = ap (λ (l : List ℕ). byte ∷ l) (taken_and_dropped n bytes)

-- the first bytes are the number that they spell, and that number fits
pub le_4 : (bytes : List ℕ) → AreBytes bytes → 4 ≤ length bytes
    → (to_le_bytes w32 (from_le_bytes w32 bytes) ≡ take 4 bytes) × (from_le_bytes w32 bytes < 2 ^ 32)
le_4 bytes are here = (
  le_bytes_4 (take 4 bytes) (from_le_bytes w32 bytes) (length-take-le 4 bytes here) (bytes_taken 4 bytes are)
      (le_same w32 bytes (take 4 bytes) (λ i below. sym (get_or-take 4 bytes i 0 (omega (arith, below))))),
  below_4 (are 0) (are 1) (are 2) (are 3),
) where
  below_4 : get_or bytes 0 0 < 256 → get_or bytes 1 0 < 256 → get_or bytes 2 0 < 256 → get_or bytes 3 0 < 256
      → from_le_bytes w32 bytes < 2 ^ 32
  below_4 a b c d = omega arith

pub le_8 : (bytes : List ℕ) → AreBytes bytes → 8 ≤ length bytes
    → (to_le_bytes w64 (from_le_bytes w64 bytes) ≡ take 8 bytes) × (from_le_bytes w64 bytes < 2 ^ 64)
le_8 bytes are here = (
  le_bytes_8 (take 8 bytes) (from_le_bytes w64 bytes) (length-take-le 8 bytes here) (bytes_taken 8 bytes are)
      (le_same w64 bytes (take 8 bytes) (λ i below. sym (get_or-take 8 bytes i 0 (omega (arith, below))))),
  below_8 (are 0) (are 1) (are 2) (are 3) (are 4) (are 5) (are 6) (are 7),
) where
  below_8 : get_or bytes 0 0 < 256 → get_or bytes 1 0 < 256 → get_or bytes 2 0 < 256 → get_or bytes 3 0 < 256
      → get_or bytes 4 0 < 256 → get_or bytes 5 0 < 256 → get_or bytes 6 0 < 256 → get_or bytes 7 0 < 256
      → from_le_bytes w64 bytes < 2 ^ 64
  below_8 a b c d e f g h = omega arith

be_2 : (bytes : List ℕ) → AreBytes bytes → 2 ≤ length bytes
    → (to_be_bytes w16 (from_be_bytes w16 bytes) ≡ take 2 bytes) × (from_be_bytes w16 bytes < 2 ^ 16)
be_2 bytes are here = (
  be_bytes_2 (take 2 bytes) (from_be_bytes w16 bytes) (length-take-le 2 bytes here) (bytes_taken 2 bytes are)
      (be_same w16 bytes (take 2 bytes) (λ i below. sym (get_or-take 2 bytes i 0 (omega (arith, below))))),
  below_2 (are 0) (are 1),
) where
  below_2 : get_or bytes 0 0 < 256 → get_or bytes 1 0 < 256 → from_be_bytes w16 bytes < 2 ^ 16
  below_2 a b = omega arith

-- what was read is spelled so, it may stand there, and bytes are left
pub record Spells (spelling : List ℕ) (IsAllowed : Type 0) (bytes rest : List ℕ) : Type 0 where
  pub spelled : bytes ≡ spelling ++ rest
  pub allowed : IsAllowed
  pub left : AreBytes rest

-- so many bytes that are spelled by what was read of them
spells_read : {X : Type 0} (value : List ℕ → X) (many : ℕ) (bytes : List ℕ) (found : X) (rest spelling : List ℕ)
    (IsAllowed : Type 0) → AreBytes bytes → HasRead value many bytes found rest → spelling ≡ take many bytes → IsAllowed
    → Spells spelling IsAllowed bytes rest
spells_read value many bytes found rest spelling IsAllowed are read same allowed = record {
  spelled = taken_and_dropped many bytes ∙ ap (λ (l : List ℕ). l ++ drop many bytes) (sym same)
      ∙ ap (λ (l : List ℕ). spelling ++ l) (sym read.rest_is);
  allowed = allowed;
  left = subst (λ (l : List ℕ). AreBytes l) (sym read.rest_is) (bytes_dropped many bytes are);
}

-- a spelling and then another
spells_both : (one other : List ℕ) (AllowedOne AllowedOther : Type 0) (bytes between rest : List ℕ)
    → Spells one AllowedOne bytes between → Spells other AllowedOther between rest
    → Spells (one ++ other) (AllowedOne × AllowedOther) bytes rest
spells_both one other AllowedOne AllowedOther bytes between rest first second = record {
  spelled = first.spelled ∙ ap (λ (l : List ℕ). one ++ l) second.spelled ∙ sym (append_assoc one other rest);
  allowed = (first.allowed, second.allowed);
  left = second.left;
}

bytes_spelled : (many : ℕ) (bytes found rest : List ℕ) → AreBytes bytes → bytes_at many bytes ≡ Whole found rest
    → Spells found (length found ≡ many) bytes rest
bytes_spelled many bytes found rest are is =
    let read = read_whole (take many) many bytes found rest is in
    spells_read (take many) many bytes found rest found (length found ≡ many) are read read.found_is
    (ap length read.found_is ∙ length-take-le many bytes read.here)

pub number_spelled : (bytes : List ℕ) (found : ℕ) (rest : List ℕ) → AreBytes bytes → number_at bytes ≡ Whole found rest
    → Spells (to_le_bytes w32 found) (found < 2 ^ 32) bytes rest
number_spelled bytes found rest are is =
    let read = read_whole (from_le_bytes w32) 4 bytes found rest is in
    let both = le_4 bytes are read.here in
    spells_read (from_le_bytes w32) 4 bytes found rest (to_le_bytes w32 found) (found < 2 ^ 32) are read
    (ap (to_le_bytes w32) read.found_is ∙ both.0) (subst (λ (n : ℕ). n < 2 ^ 32) (sym read.found_is) both.1)

half_spelled : (bytes : List ℕ) (found : ℕ) (rest : List ℕ) → AreBytes bytes → half_at bytes ≡ Whole found rest
    → Spells (to_be_bytes w16 found) (found < 2 ^ 16) bytes rest
half_spelled bytes found rest are is =
    let read = read_whole (from_be_bytes w16) 2 bytes found rest is in
    let both = be_2 bytes are read.here in
    spells_read (from_be_bytes w16) 2 bytes found rest (to_be_bytes w16 found) (found < 2 ^ 16) are read
    (ap (to_be_bytes w16) read.found_is ∙ both.0) (subst (λ (n : ℕ). n < 2 ^ 16) (sym read.found_is) both.1)

pub limited_4_spelled : (greatest : ℕ) (bytes : List ℕ) (found : ℕ) (rest : List ℕ) → AreBytes bytes
    → limited_at w32 greatest bytes ≡ Whole found rest
    → Spells (to_le_bytes w32 found) ((found ≤ greatest) × (found < 2 ^ 32)) bytes rest
limited_4_spelled greatest bytes found rest are is =
    let whole = limited_whole w32 greatest bytes found rest is in
    let both = le_4 bytes are whole.0.here in
    spells_read (from_le_bytes w32) 4 bytes found rest (to_le_bytes w32 found) ((found ≤ greatest) × (found < 2 ^ 32))
    are
    whole.0 (ap (to_le_bytes w32) whole.0.found_is ∙ both.0)
    (whole.1, subst (λ (n : ℕ). n < 2 ^ 32) (sym whole.0.found_is) both.1)

limited_8_spelled : (greatest : ℕ) (bytes : List ℕ) (found : ℕ) (rest : List ℕ) → AreBytes bytes
    → limited_at w64 greatest bytes ≡ Whole found rest
    → Spells (to_le_bytes w64 found) ((found ≤ greatest) × (found < 2 ^ 64)) bytes rest
limited_8_spelled greatest bytes found rest are is =
    let whole = limited_whole w64 greatest bytes found rest is in
    let both = le_8 bytes are whole.0.here in
    spells_read (from_le_bytes w64) 8 bytes found rest (to_le_bytes w64 found) ((found ≤ greatest) × (found < 2 ^ 64))
    are
    whole.0 (ap (to_le_bytes w64) whole.0.found_is ∙ both.0)
    (whole.1, subst (λ (n : ℕ). n < 2 ^ 64) (sym whole.0.found_is) both.1)

-- with other words for what is allowed
spells_as : (spelling : List ℕ) (P Q : Type 0) (bytes rest : List ℕ) → (P → Q) → Spells spelling P bytes rest
    → Spells spelling Q bytes rest
spells_as spelling P Q bytes rest so is =
    record { spelled = is.spelled; allowed = so is.allowed; left = is.left }

pub byte_spelled : (bytes : List ℕ) (found : ℕ) (rest : List ℕ) → AreBytes bytes → byte_at bytes ≡ Whole found rest
    → Spells (found ∷ []) (found < 256) bytes rest
byte_spelled [] found rest are is = absurd (cc is)
byte_spelled (byte ∷ bytes) found rest are is =
    let found_is : byte ≡ found = cc is in
    let rest_is : bytes ≡ rest = cc is in
    record {
      spelled = ap (λ (n : ℕ). n ∷ bytes) found_is ∙ ap (λ (l : List ℕ). found ∷ l) rest_is;
      allowed = subst (λ (n : ℕ). n < 256) found_is (are 0);
      left = subst (λ (l : List ℕ). AreBytes l) rest_is (λ i. are (suc i));
    }

flag_of_bit : (n : ℕ) (between : List ℕ) (found : Bool) (rest : List ℕ) → flag_of n between ≡ Whole found rest
    → (n ≡ bit found) × (between ≡ rest)
flag_of_bit zero between true rest is = absurd (cc is)
flag_of_bit zero between false rest is = (refl, cc is)
flag_of_bit (suc zero) between true rest is = (refl, cc is)
flag_of_bit (suc zero) between false rest is = absurd (cc is)
flag_of_bit (suc (suc n)) between found rest is = absurd (cc is)

flag_spelled : (bytes : List ℕ) (found : Bool) (rest : List ℕ) → AreBytes bytes
    → value_at Flag bytes ≡ Whole found rest → Spells (bit found ∷ []) (Unit {0}) bytes rest
unfolding value_at
flag_spelled bytes found rest are is =
    let both = and_then_whole (byte_at bytes) flag_of found rest is in
    let byte = byte_spelled bytes both.0 both.1 are both.2 in
    let same = flag_of_bit both.0 both.1 found rest both.3 in
    record {
      spelled = byte.spelled ∙ ap (λ (n : ℕ). n ∷ both.1) same.0 ∙ ap (λ (l : List ℕ). bit found ∷ l) same.1;
      allowed = tt;
      left = subst (λ (l : List ℕ). AreBytes l) same.1 byte.left;
    }

text_spelled : (most : ℕ) (bytes found rest : List ℕ) → AreBytes bytes → value_at (Text most) bytes ≡ Whole found rest
    → Spells (coded_value (Text most) found) (IsIn (Text most) found) bytes rest
unfolding value_at
text_spelled most bytes found rest are is =
    let both = and_then_whole (limited_at w32 most bytes) bytes_at found rest is in
    let size = limited_4_spelled most bytes both.0 both.1 are both.2 in
    let text = bytes_spelled both.0 both.1 found rest size.left both.3 in
    let sized : Spells (to_le_bytes w32 (length found)) ((length found ≤ most) × (length found < 2 ^ 32)) bytes both.1 =
    subst (λ (n : ℕ). Spells (to_le_bytes w32 n) ((n ≤ most) × (n < 2 ^ 32)) bytes both.1) (sym text.allowed) size in
    spells_as (coded_value (Text most) found)
    (((length found ≤ most) × (length found < 2 ^ 32)) × (length found ≡ both.0))
    (IsIn (Text most) found) bytes rest (λ all. all.0)
    (spells_both (to_le_bytes w32 (length found)) found ((length found ≤ most) × (length found < 2 ^ 32))
    (length found ≡ both.0) bytes both.1 rest sized text)

number_here : (bytes : List ℕ) → AreBytes bytes → 4 ≤ length bytes
    → Spells (to_le_bytes w32 (from_le_bytes w32 bytes)) (from_le_bytes w32 bytes < 2 ^ 32) bytes (drop 4 bytes)
number_here bytes are here =
    let both = le_4 bytes are here in
    let read : HasRead (from_le_bytes w32) 4 bytes (from_le_bytes w32 bytes) (drop 4 bytes) =
    record { here = here; found_is = refl; rest_is = refl } in
    spells_read (from_le_bytes w32) 4 bytes (from_le_bytes w32 bytes) (drop 4 bytes)
    (to_le_bytes w32 (from_le_bytes w32 bytes)) (from_le_bytes w32 bytes < 2 ^ 32) are read both.0 both.1

-- ranges that were read spell their bytes
pub ranges_here : (many : ℕ) (bytes : List ℕ) → AreBytes bytes → 8 * many ≤ length bytes
    → Spells (coded_ranges (ranges_of many bytes)) (AllByRecursion IsRange (ranges_of many bytes)) bytes
    (drop (8 * many) bytes)
ranges_here zero bytes are here = record { spelled = refl; allowed = tt; left = are }
ranges_here (suc many) bytes are here =
    let first : ℕ = from_le_bytes w32 bytes in
    let last : ℕ = from_le_bytes w32 (drop 4 bytes) in
    let more : List ReadRange = ranges_of many (drop 8 bytes) in
    let one : Spells (to_le_bytes w32 first) (first < 2 ^ 32) bytes (drop 4 bytes) =
    number_here bytes are (omega (arith, here)) in
    let other_4 : Spells (to_le_bytes w32 last) (last < 2 ^ 32) (drop 4 bytes) (drop 4 (drop 4 bytes)) =
    number_here (drop 4 bytes) (bytes_dropped 4 bytes are) (omega (arith, length-drop 4 bytes, here)) in
    let other : Spells (to_le_bytes w32 last) (last < 2 ^ 32) (drop 4 bytes) (drop 8 bytes) =
    subst (λ (l : List ℕ). Spells (to_le_bytes w32 last) (last < 2 ^ 32) (drop 4 bytes) l) (drop-drop 4 4 bytes) other_4
    in
    let rest_8 : Spells (coded_ranges more) (AllByRecursion IsRange more) (drop 8 bytes)
    (drop (8 * many) (drop 8 bytes)) =
    ranges_here many (drop 8 bytes) (bytes_dropped 8 bytes are) (omega (arith, length-drop 8 bytes, here)) in
    let place : 8 + 8 * many ≡ 8 * suc many = omega arith in
    let rest : Spells (coded_ranges more) (AllByRecursion IsRange more) (drop 8 bytes) (drop (8 * suc many) bytes) =
    subst (λ (l : List ℕ). Spells (coded_ranges more) (AllByRecursion IsRange more) (drop 8 bytes) l)
    (drop-drop (8 * many) 8 bytes ∙ ap (λ (k : ℕ). drop k bytes) place) rest_8 in
    spells_both (to_le_bytes w32 first ++ to_le_bytes w32 last) (coded_ranges more)
    ((first < 2 ^ 32) × (last < 2 ^ 32)) (AllByRecursion IsRange more) bytes (drop 8 bytes) (drop (8 * suc many) bytes)
    (spells_both (to_le_bytes w32 first) (to_le_bytes w32 last) (first < 2 ^ 32) (last < 2 ^ 32) bytes (drop 4 bytes)
    (drop 8 bytes) one other) rest

pub length-ranges_of : (many : ℕ) (bytes : List ℕ) → length (ranges_of many bytes) ≡ many
length-ranges_of zero bytes = refl
length-ranges_of (suc many) bytes = ap suc (length-ranges_of many (drop 8 bytes))

ranges_spelled : (bytes : List ℕ) (found : List ReadRange) (rest : List ℕ) → AreBytes bytes
    → value_at Ranges bytes ≡ Whole found rest → Spells (coded_value Ranges found) (IsIn Ranges found) bytes rest
unfolding value_at
ranges_spelled bytes found rest are is =
    let both = and_then_whole (number_at bytes) so_many_ranges_at found rest is in
    let many : ℕ = both.0 in
    let after : List ℕ = both.1 in
    let size : Spells (to_le_bytes w32 many) (many < 2 ^ 32) bytes after = number_spelled bytes many after are both.2 in
    let read : HasRead (ranges_of many) (8 * many) after found rest =
    read_whole (ranges_of many) (8 * many) after found rest both.3 in
    let long : length found ≡ many = ap length read.found_is ∙ length-ranges_of many after in
    let body_here : Spells (coded_ranges (ranges_of many after)) (AllByRecursion IsRange (ranges_of many after)) after
    (drop (8 * many) after) = ranges_here many after size.left read.here in
    let body_found : Spells (coded_ranges found) (AllByRecursion IsRange found) after (drop (8 * many) after) =
    subst (λ (l : List ReadRange). Spells (coded_ranges l) (AllByRecursion IsRange l) after (drop (8 * many) after))
    (sym read.found_is) body_here in
    let body : Spells (coded_ranges found) (AllByRecursion IsRange found) after rest =
    subst (λ (l : List ℕ). Spells (coded_ranges found) (AllByRecursion IsRange found) after l) (sym read.rest_is)
    body_found in
    let sized : Spells (to_le_bytes w32 (length found)) (length found < 2 ^ 32) bytes after =
    subst (λ (n : ℕ). Spells (to_le_bytes w32 n) (n < 2 ^ 32) bytes after) (sym long) size in
    spells_both (to_le_bytes w32 (length found)) (coded_ranges found) (length found < 2 ^ 32)
    (AllByRecursion IsRange found) bytes after rest sized body

set_spelled : (part : ℕ) (greatest : Option ℕ) (bytes : List ℕ) (found : Setting) (rest : List ℕ) → AreBytes bytes
    → set_at part greatest bytes ≡ Whole found rest
    → Spells (to_le_bytes w64 found.value) (IsAtMost greatest found.value) bytes rest × (part ≡ found.part)
set_spelled part None bytes found rest are is = absurd (cc is)
set_spelled part (Some greatest) bytes found rest are is =
    let make : ℕ → Setting = λ value. record { part = part; value = value } in
    let both = and_then_whole (limited_at w64 greatest bytes) (λ value after. Whole (make value) after) found rest is in
    let found_is : make both.0 ≡ found = cc both.3 in
    let rest_is : both.1 ≡ rest = cc both.3 in
    let value_is : both.0 ≡ found.value = ap (λ (s : Setting). s.value) found_is in
    let spells : Spells (to_le_bytes w64 both.0) ((both.0 ≤ greatest) × (both.0 < 2 ^ 64)) bytes both.1 =
    limited_8_spelled greatest bytes both.0 both.1 are both.2 in
    let value_spells : Spells (to_le_bytes w64 found.value) (IsAtMost (Some greatest) found.value) bytes both.1 =
    subst (λ (n : ℕ). Spells (to_le_bytes w64 n) ((n ≤ greatest) × (n < 2 ^ 64)) bytes both.1) value_is spells in (
      subst (λ (l : List ℕ). Spells (to_le_bytes w64 found.value) (IsAtMost (Some greatest) found.value) bytes l)
          rest_is value_spells,
      ap (λ (s : Setting). s.part) found_is,
    )

one_of_spelled : (greatest : List ℕ) (bytes : List ℕ) (found : Setting) (rest : List ℕ) → AreBytes bytes
    → value_at (OneOf greatest) bytes ≡ Whole found rest
    → Spells (coded_value (OneOf greatest) found) (IsIn (OneOf greatest) found) bytes rest
unfolding value_at
one_of_spelled greatest bytes found rest are is =
    let next : ℕ → List ℕ → Read Setting = λ part after. set_at part (greatest_of part greatest) after in
    let both = and_then_whole (byte_at bytes) next found rest is in
    let part : ℕ = both.0 in
    let byte : Spells (part ∷ []) (part < 256) bytes both.1 = byte_spelled bytes part both.1 are both.2 in
    let set = set_spelled part (greatest_of part greatest) both.1 found rest byte.left both.3 in
    let all : Spells (part ∷ to_le_bytes w64 found.value)
    ((part < 256) × IsAtMost (greatest_of part greatest) found.value)
    bytes rest =
    spells_both (part ∷ []) (to_le_bytes w64 found.value) (part < 256)
    (IsAtMost (greatest_of part greatest) found.value)
    bytes both.1 rest byte set.0 in
    let named : Spells (found.part ∷ to_le_bytes w64 found.value)
    ((found.part < 256) × IsAtMost (greatest_of found.part greatest) found.value) bytes rest =
    subst (λ (n : ℕ). Spells (n ∷ to_le_bytes w64 found.value)
    ((n < 256) × IsAtMost (greatest_of n greatest) found.value)
    bytes rest) set.1 all in
    spells_as (coded_value (OneOf greatest) found)
    ((found.part < 256) × IsAtMost (greatest_of found.part greatest) found.value)
    (IsIn (OneOf greatest) found) bytes rest (λ both. both.1) named

-- what was read of a field is spelled so, and may stand in it
pub value_spelled : (field : Field) (bytes : List ℕ) (found : Of field) (rest : List ℕ) → AreBytes bytes
    → value_at field bytes ≡ Whole found rest → Spells (coded_value field found) (IsIn field found) bytes rest
unfolding value_at
value_spelled Byte bytes found rest are is = byte_spelled bytes found rest are is
value_spelled Half bytes found rest are is = half_spelled bytes found rest are is
value_spelled Flag bytes found rest are is = flag_spelled bytes found rest are is
value_spelled Number bytes found rest are is = number_spelled bytes found rest are is
value_spelled Small bytes found rest are is =
    spells_as (to_le_bytes w32 found) ((found ≤ 255) × (found < 2 ^ 32)) (found < 256) bytes rest
    (λ both. omega (arith, both.0)) (limited_4_spelled 255 bytes found rest are is)
value_spelled Moment bytes found rest are is =
    spells_as (to_le_bytes w64 found) ((found ≤ LAST_MOMENT) × (found < 2 ^ 64)) (found ≤ LAST_MOMENT) bytes rest
    (λ both. both.0) (limited_8_spelled LAST_MOMENT bytes found rest are is)
value_spelled (Text most) bytes found rest are is = text_spelled most bytes found rest are is
value_spelled (Fixed many) bytes found rest are is = bytes_spelled many bytes found rest are is
value_spelled Ranges bytes found rest are is = ranges_spelled bytes found rest are is
value_spelled (OneOf greatest) bytes found rest are is = one_of_spelled greatest bytes found rest are is

-- what was made of fields: of values that are spelled so
pub record MadeOf {X : Type 0} (fields : List Field) (make : Makes fields X) (bytes : List ℕ) (made : X) (rest : List ℕ)
    : Type 0 where
  pub values : Values fields
  pub spells : Spells (coded_fields fields values) (AreIn fields values) bytes rest
  pub made_is : made_of fields make values ≡ made

pub made_spelled : {X : Type 0} (fields : List Field) (make : Makes fields X) (bytes : List ℕ) (made : X)
    (rest : List ℕ) → AreBytes bytes → made_at fields make bytes ≡ Whole made rest → MadeOf fields make bytes made rest
made_spelled {X} [] make bytes made rest are is =
    let made_is : make ≡ made = cc is in
    let rest_is : bytes ≡ rest = cc is in
    record {
      values = tt;
      spells = record { spelled = rest_is; allowed = tt; left = subst (λ (l : List ℕ). AreBytes l) rest_is are };
      made_is = made_is;
    }
made_spelled {X} (field ∷ fields) make bytes made rest are is =
    let next : Of field → List ℕ → Read X = λ value after. made_at fields (make value) after in
    let both = and_then_whole (value_at field bytes) next made rest is in
    let first : Spells (coded_value field both.0) (IsIn field both.0) bytes both.1 =
    value_spelled field bytes both.0 both.1 are both.2 in
    let others : MadeOf fields (make both.0) both.1 made rest =
    made_spelled fields (make both.0) both.1 made rest first.left both.3 in
    record {
      values = (both.0, others.values);
      spells = spells_both (coded_value field both.0) (coded_fields fields others.values) (IsIn field both.0)
          (AreIn fields others.values) bytes both.1 rest first others.spells;
      made_is = others.made_is;
    }
