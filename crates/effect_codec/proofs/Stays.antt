-- What is read stays read when more bytes follow, and what is wrong stays wrong.
use Rattle.std.proofs.Common.{◌≡◌, ◌≢◌, ℕ, zero, suc, ◌-◌, ◌*◌, ◌^◌, ◌<◌, ◌≤◌, Bool, true, false, cond, List, [], ◌∷◌}
use Rattle.std.proofs.Common.{◌++◌}
use Rattle.std.proofs.Common.{length, take, drop, refl, sym, ap, subst, ◌∙◌, length-append, append-nil, arith, ltb}
use Rattle.std.proofs.Common.{get_or}
use Rattle.std.proofs.Common.{Option, Some, None}
use Rattle.std.specs.Int.{Width, w16, w32, w64, byte_len, byte_worth, sum_through, from_le_bytes, from_be_bytes}
use Rattle.std.proofs.Math.Nat.{mul-le-mul_right}
use Rattle.std.proofs.lemmas.Bool.{le-ltb, lt-ltb, ltb-true, ltb-false}
use Rattle.std.proofs.lemmas.List.{take-append-le, drop-append-le, get_or_append_left, length-drop}
use Rattle.kom_types.specs.declared.limits.TheConstants.{LAST_MOMENT}
use Rattle.kom_types.specs.declared.effects.Effect.{Effect}
use Rattle.kom_types.specs.declared.memberships.ReadRange.{ReadRange}
use Rattle.effect_codec.specs.Fields.{Field, Byte, Half, Flag, Number, Small, Moment, Text, Fixed, Ranges, OneOf}
use Rattle.effect_codec.specs.Fields.{Read, Whole, Short, Wrong, and_then, bytes_at, number_at, half_at, byte_at}
use Rattle.effect_codec.specs.Fields.{limited_at, flag_of, ranges_of, so_many_ranges_at, set_at, greatest_of, value_at}
use Rattle.effect_codec.specs.Fields.{Makes}
use Rattle.effect_codec.specs.Fields.{made_at}
use Rattle.effect_codec.specs.Table.{Row, row_of}
use Rattle.effect_codec.specs.Coding.{coded_effect, effect_at, kind_at}
use Rattle.effect_codec.specs.Laws.{StaysShort, StaysWrong}
use Rattle.effect_codec.proofs.Effects.{effect_again}

-- what becomes of a reading when more bytes follow
abbrev pub Stays : {X : Type 0} → Read X → List ℕ → Read X → Type 0
Stays (Whole value rest) more after = after ≡ Whole value (rest ++ more)
Stays Short more after = Unit {0}
Stays Wrong more after = after ≡ Wrong

pub and_then_stays : {X Y : Type 0} (read after : Read X) (next : X → List ℕ → Read Y) (more : List ℕ) →
    Stays read more after
    → ((value : X) (rest : List ℕ) → Stays (next value rest) more (next value (rest ++ more)))
    → Stays (and_then read next) more (and_then after next)
and_then_stays {X} (Whole value rest) after next more is then_is =
    subst (λ (r : Read X). Stays (next value rest) more (and_then r next)) (sym is) (then_is value rest)
and_then_stays Short after next more is then_is = tt
and_then_stays {X} Wrong after next more is then_is = ap (λ (r : Read X). and_then r next) is

-- sums of the same, and of more
sum_same : (f g : ℕ → ℕ) (k : ℕ) → ((i : ℕ) → i ≤ k → f i ≡ g i) → sum_through f k ≡ sum_through g k
sum_same f g zero same = same 0 (omega arith)
sum_same f g (suc k) same =
    let before : sum_through f k ≡ sum_through g k = sum_same f g k (λ i below. same i (omega arith)) in
    let last : f (suc k) ≡ g (suc k) = same (suc k) (omega arith) in
    omega (arith, before, last)

sum_more : (f g : ℕ → ℕ) (k : ℕ) → ((i : ℕ) → f i ≤ g i) → sum_through f k ≤ sum_through g k
sum_more f g zero more = more 0
sum_more f g (suc k) more = omega (arith, sum_more f g k more, more (suc k))

worth_more : (i a b : ℕ) → a ≤ b → byte_worth i a ≤ byte_worth i b
worth_more zero a b more = more
worth_more (suc i) a b more = mul-le-mul_right (256 ^ suc i) more

-- a number hangs on its own bytes alone
pub le_same : (w : Width) (a b : List ℕ) → ((i : ℕ) → i ≤ byte_len w - 1 → get_or a i 0 ≡ get_or b i 0)
    → from_le_bytes w a ≡ from_le_bytes w b
le_same w a b same = sum_same (λ i. byte_worth i (get_or a i 0)) (λ i. byte_worth i (get_or b i 0)) (byte_len w - 1)
    (λ i below. ap (byte_worth i) (same i below))

pub be_same : (w : Width) (a b : List ℕ) → ((i : ℕ) → i ≤ byte_len w - 1 → get_or a i 0 ≡ get_or b i 0)
    → from_be_bytes w a ≡ from_be_bytes w b
be_same w a b same = sum_same (λ i. byte_worth (byte_len w - 1 - i) (get_or a i 0))
    (λ i. byte_worth (byte_len w - 1 - i) (get_or b i 0)) (byte_len w - 1)
    (λ i below. ap (byte_worth (byte_len w - 1 - i)) (same i below))

-- a number is no less when more bytes follow
index_more : (bytes more : List ℕ) (i : ℕ) → get_or bytes i 0 ≤ get_or (bytes ++ more) i 0
index_more [] more i = omega arith
index_more (byte ∷ bytes) more zero = omega arith
index_more (byte ∷ bytes) more (suc i) = index_more bytes more i

le_more : (w : Width) (bytes more : List ℕ) → from_le_bytes w bytes ≤ from_le_bytes w (bytes ++ more)
le_more w bytes more = sum_more (λ i. byte_worth i (get_or bytes i 0)) (λ i. byte_worth i (get_or (bytes ++ more) i 0))
    (byte_len w - 1) (λ i. worth_more i _ _ (index_more bytes more i))

-- what is read of so many bytes, where they are there
abbrev pub read_of : {X : Type 0} → (List ℕ → X) → ℕ → List ℕ → Read X
read_of value many bytes = cond (ltb (length bytes) many) Short (Whole (value bytes) (drop many bytes))

-- so many bytes that are there give the same when more follow
read_on : {X : Type 0} (value : List ℕ → X) (many : ℕ) (bytes more : List ℕ) → many ≤ length bytes
    → value (bytes ++ more) ≡ value bytes
    → read_of value many (bytes ++ more) ≡ Whole (value bytes) (drop many bytes ++ more)
read_on {X} value many bytes more here same =
    let longer : ltb (length (bytes ++ more)) many ≡ false =
    le-ltb _ _ (omega (arith, length-append bytes more, here)) in
    ap (λ (b : Bool). cond b Short (Whole (value (bytes ++ more)) (drop many (bytes ++ more)))) longer
    ∙ ap (λ (v : X). Whole v (drop many (bytes ++ more))) same
    ∙ ap (λ (l : List ℕ). Whole (value bytes) l) (drop-append-le many bytes more here)

pub read_stays : {X : Type 0} (value : List ℕ → X) (many : ℕ) (bytes more : List ℕ)
    → (many ≤ length bytes → value (bytes ++ more) ≡ value bytes)
    → Stays (read_of value many bytes) more (read_of value many (bytes ++ more))
read_stays {X} value many bytes more same = by_test (ltb (length bytes) many) refl where
  by_test : (test : Bool) → ltb (length bytes) many ≡ test
      → Stays (cond test Short (Whole (value bytes) (drop many bytes))) more (read_of value many (bytes ++ more))
  by_test true short = tt
  by_test false enough =
      let here : many ≤ length bytes = ltb-false _ _ enough in
      read_on value many bytes more here (same here)

-- the number of the first bytes is the same when more follow
pub le_before : (w : Width) (bytes more : List ℕ) → 0 < byte_len w → byte_len w ≤ length bytes
    → from_le_bytes w (bytes ++ more) ≡ from_le_bytes w bytes
le_before w bytes more some here =
    le_same w (bytes ++ more) bytes (λ i below. get_or_append_left bytes more 0 i (omega (arith, below, here, some)))

bytes_stay : (many : ℕ) (bytes more : List ℕ) → Stays (bytes_at many bytes) more (bytes_at many (bytes ++ more))
bytes_stay many bytes more = read_stays (take many) many bytes more (λ here. take-append-le many bytes more here)

number_stays : (bytes more : List ℕ) → Stays (number_at bytes) more (number_at (bytes ++ more))
number_stays bytes more =
    read_stays (from_le_bytes w32) 4 bytes more (λ here. le_before w32 bytes more (omega arith) here)

half_stays : (bytes more : List ℕ) → Stays (half_at bytes) more (half_at (bytes ++ more))
half_stays bytes more = read_stays (from_be_bytes w16) 2 bytes more (λ here.
    be_same w16 (bytes ++ more) bytes (λ i below. get_or_append_left bytes more 0 i (omega (arith, below, here))))

limited_stays : (w : Width) (greatest : ℕ) (bytes more : List ℕ) → 0 < byte_len w
    → Stays (limited_at w greatest bytes) more (limited_at w greatest (bytes ++ more))
limited_stays w greatest bytes more some = by_test (ltb greatest (from_le_bytes w bytes)) refl where
  by_length : (test : Bool) → ltb (length bytes) (byte_len w) ≡ test → ltb greatest (from_le_bytes w bytes) ≡ false
      → Stays (cond test Short (Whole (from_le_bytes w bytes) (drop (byte_len w) bytes))) more
      (limited_at w greatest (bytes ++ more))
  by_length true short within = tt
  by_length false enough within =
      let here : byte_len w ≤ length bytes = ltb-false _ _ enough in
      let same : from_le_bytes w (bytes ++ more) ≡ from_le_bytes w bytes = le_before w bytes more some here in
      let still : ltb greatest (from_le_bytes w (bytes ++ more)) ≡ false = ap (ltb greatest) same ∙ within in
      ap (λ (b : Bool). cond b Wrong (read_of (from_le_bytes w) (byte_len w) (bytes ++ more))) still
      ∙ read_on (from_le_bytes w) (byte_len w) bytes more here same

  by_test : (test : Bool) → ltb greatest (from_le_bytes w bytes) ≡ test
      → Stays (cond test Wrong (read_of (from_le_bytes w) (byte_len w) bytes)) more
      (limited_at w greatest (bytes ++ more))
  by_test true past =
      let still : ltb greatest (from_le_bytes w (bytes ++ more)) ≡ true =
      lt-ltb _ _ (omega (arith, ltb-true _ _ past, le_more w bytes more)) in
      ap (λ (b : Bool). cond b Wrong (read_of (from_le_bytes w) (byte_len w) (bytes ++ more))) still
  by_test false within = by_length (ltb (length bytes) (byte_len w)) refl within

pub byte_stays : (bytes more : List ℕ) → Stays (byte_at bytes) more (byte_at (bytes ++ more))
byte_stays [] more = tt
byte_stays (byte ∷ bytes) more = refl

flag_of_stays : (n : ℕ) (rest more : List ℕ) → Stays (flag_of n rest) more (flag_of n (rest ++ more))
flag_of_stays zero rest more = refl
flag_of_stays (suc zero) rest more = refl
flag_of_stays (suc (suc n)) rest more = refl

ranges_before : (many : ℕ) (bytes more : List ℕ) → 8 * many ≤ length bytes
    → ranges_of many (bytes ++ more) ≡ ranges_of many bytes
ranges_before zero bytes more here = refl
ranges_before (suc many) bytes more here =
    let pair : ℕ → ℕ → ReadRange = λ first last. record { first = first; last = last } in
    let four : 4 ≤ length bytes = omega (arith, here) in
    let eight : 8 ≤ length bytes = omega (arith, here) in
    let first_same : from_le_bytes w32 (bytes ++ more) ≡ from_le_bytes w32 bytes =
    le_before w32 bytes more (omega arith) four in
    let last_same : from_le_bytes w32 (drop 4 (bytes ++ more)) ≡ from_le_bytes w32 (drop 4 bytes) =
    ap (from_le_bytes w32) (drop-append-le 4 bytes more four)
    ∙ le_before w32 (drop 4 bytes) more (omega arith) (omega (arith, length-drop 4 bytes, eight)) in
    let rest_same : ranges_of many (drop 8 (bytes ++ more)) ≡ ranges_of many (drop 8 bytes) =
    ap (ranges_of many) (drop-append-le 8 bytes more eight)
    ∙ ranges_before many (drop 8 bytes) more (omega (arith, length-drop 8 bytes, here)) in
    ap (λ (n : ℕ). pair n (from_le_bytes w32 (drop 4 (bytes ++ more))) ∷ ranges_of many (drop 8 (bytes ++ more)))
    first_same
    ∙ ap (λ (n : ℕ). pair (from_le_bytes w32 bytes) n ∷ ranges_of many (drop 8 (bytes ++ more))) last_same
    ∙ ap (λ (l : List ReadRange). pair (from_le_bytes w32 bytes) (from_le_bytes w32 (drop 4 bytes)) ∷ l) rest_same

so_many_ranges_stay : (many : ℕ) (bytes more : List ℕ)
    → Stays (so_many_ranges_at many bytes) more (so_many_ranges_at many (bytes ++ more))
so_many_ranges_stay many bytes more =
    read_stays (ranges_of many) (8 * many) bytes more (λ here. ranges_before many bytes more here)

set_stays : (part : ℕ) (greatest : Option ℕ) (bytes more : List ℕ)
    → Stays (set_at part greatest bytes) more (set_at part greatest (bytes ++ more))
set_stays part None bytes more = refl
set_stays part (Some greatest) bytes more =
    and_then_stays (limited_at w64 greatest bytes) (limited_at w64 greatest (bytes ++ more))
    (λ value rest. Whole (record { part = part; value = value }) rest) more
    (limited_stays w64 greatest bytes more (omega arith)) (λ value rest. refl)

value_stays : (field : Field) (bytes more : List ℕ)
    → Stays (value_at field bytes) more (value_at field (bytes ++ more))
unfolding value_at
value_stays Byte bytes more = byte_stays bytes more
value_stays Half bytes more = half_stays bytes more
value_stays Flag bytes more = and_then_stays (byte_at bytes) (byte_at (bytes ++ more)) flag_of more
    (byte_stays bytes more) (λ value rest. flag_of_stays value rest more)
value_stays Number bytes more = number_stays bytes more
value_stays Small bytes more = limited_stays w32 255 bytes more (omega arith)
value_stays Moment bytes more = limited_stays w64 LAST_MOMENT bytes more (omega arith)
value_stays (Text most) bytes more = and_then_stays (limited_at w32 most bytes) (limited_at w32 most (bytes ++ more))
    bytes_at more (limited_stays w32 most bytes more (omega arith)) (λ value rest. bytes_stay value rest more)
value_stays (Fixed many) bytes more = bytes_stay many bytes more
value_stays Ranges bytes more = and_then_stays (number_at bytes) (number_at (bytes ++ more)) so_many_ranges_at more
    (number_stays bytes more) (λ value rest. so_many_ranges_stay value rest more)
value_stays (OneOf greatest) bytes more = and_then_stays (byte_at bytes) (byte_at (bytes ++ more))
    (λ part rest. set_at part (greatest_of part greatest) rest) more (byte_stays bytes more)
    (λ value rest. set_stays value (greatest_of value greatest) rest more)

made_stays : (X : Type 0) (fields : List Field) (make : Makes fields X) (bytes more : List ℕ)
    → Stays (made_at fields make bytes) more (made_at fields make (bytes ++ more))
made_stays X [] make bytes more = refl
made_stays X (field ∷ fields) make bytes more =
    and_then_stays (value_at field bytes) (value_at field (bytes ++ more))
    (λ value rest. made_at fields (make value) rest) more (value_stays field bytes more)
    (λ value rest. made_stays X fields (make value) rest more)

kind_stays : (row : Option Row) (bytes more : List ℕ) → Stays (kind_at row bytes) more (kind_at row (bytes ++ more))
kind_stays None bytes more = refl
kind_stays (Some row) bytes more = made_stays Effect row.fields row.make bytes more

pub effect_stays : (bytes more : List ℕ) → Stays (effect_at bytes) more (effect_at (bytes ++ more))
effect_stays [] more = tt
effect_stays (kind ∷ bytes) more = kind_stays (row_of kind) bytes more

-- what becomes something of which no byte is left was too short before
pub short_before : {X : Type 0} (read : Read X) (one : X) (missing : List ℕ) → missing ≢ []
    → Stays read missing (Whole one []) → read ≡ Short
short_before (Whole value rest) one missing some stays = absurd (some (none_left rest missing (cc stays))) where
  none_left : (rest missing : List ℕ) → [] ≡ rest ++ missing → missing ≡ []
  none_left [] missing nothing = sym nothing
  none_left (byte ∷ rest) missing nothing = absurd (cc nothing)
short_before Short one missing some stays = refl
short_before Wrong one missing some stays = absurd (cc stays)

pub stays_short : StaysShort
stays_short effect bytes missing is some same =
    let whole : effect_at (bytes ++ missing) ≡ Whole effect [] =
    ap effect_at (sym same ∙ sym (append-nil (coded_effect effect))) ∙ effect_again effect [] is in
    short_before (effect_at bytes) effect missing some
    (subst (λ (r : Read Effect). Stays (effect_at bytes) missing r) whole (effect_stays bytes missing))

pub stays_wrong : StaysWrong
stays_wrong effect bytes more rest is wrong same =
    let after : effect_at (bytes ++ more) ≡ Wrong =
    subst (λ (r : Read Effect). Stays r more (effect_at (bytes ++ more))) wrong (effect_stays bytes more) in
    let whole : effect_at (bytes ++ more) ≡ Whole effect rest = ap effect_at same ∙ effect_again effect rest is in
    let apart : Wrong ≡ Whole effect rest = sym after ∙ whole in
    cc apart
