-- The lexer's steps.
use Rattle.std.proofs.Common.{◌≡◌, ℕ, zero, suc, ◌+◌, ◌*◌, ◌-◌, ◌^◌, ◌<◌, ◌≤◌, Bool, true, false, eqb, ltb, List, []}
use Rattle.std.proofs.Common.{◌∷◌, ◌++◌, length, get_or, take, drop, Some, None, refl, sym, ap, subst, ◌∙◌, arith}
use Rattle.std.proofs.Common.{append_assoc}
use Rattle.std.specs.List.{take_while}
use Rattle.std.proofs.Math.Nat.{pow-le-pow_right, pow-succ'}
use Rattle.std.proofs.Math.Seq.{drop-append_seam}
use Rattle.std.proofs.lemmas.Bool.{and_from, le-leb, lt-ltb}
use Rattle.std.proofs.lemmas.Bool.Decides.{nat_tests}
use Rattle.std.proofs.lemmas.List.{append-nil, length-append, length-drop, length-take-le, drop-append-le, take_all}
use Rattle.std.proofs.lemmas.List.{drop_all, drop_more, get_or_append_left}
use Rattle.std.proofs.lemmas.List.Sums.{fold_push}
use Rattle.kom_types.specs.declared.byte_kind.ByteKind.{ByteKind}
use Rattle.kom_types.specs.declared.byte_kind.ByteKind.TheVariants as kind
use Rattle.kom_types.specs.declared.side.Side.{Side}
use Rattle.kom_types.specs.declared.side.Side.TheVariants as sides
use Rattle.kom_types.specs.ByteKind.{is_digit, kind_of}
use Rattle.kom_types.specs.Token.{Token, Digits, Text, Signed, number_of, is_integer}
use Rattle.kom_types.specs.Grammar.{Prefix, Whole, Unfit, Cut, drop_while, string_at, run_at, signed_run_at}
use Rattle.kom_framing.specs.declared.lexer.Lexer.{Lexer}
use Rattle.kom_framing.specs.declared.lexer.Lexer.TheVariants as lexer
use Rattle.kom_framing.specs.declared.lexer.Step.{Step}
use Rattle.kom_framing.specs.declared.lexer.Step.TheVariants as step
use Rattle.kom_framing.specs.Spans.{cut_of}
use Rattle.kom_framing.specs.Lexing.{Between, Run, Inside, Past, AfterSign, Goes, Unfits, move, move_past, move_in_run}
use Rattle.kom_framing.specs.Lexing.{string_from, move_after_sign, Going, lexer_after, onward}
use Rattle.kom_framing.specs.Scanning.{AreDigits, text_from, mode_of, IsRun, IsInside, IsAfterSign, IsMove, LeadsOn}
use Rattle.kom_framing.specs.Scanning.{Does, step_by}
use Rattle.kom_framing.proofs.Spans.{one_token}
use Rattle.kom_framing.proofs.Lists.{drop_while-no}
use Rattle.kom_framing.proofs.Runs.{choice, run_cut, run_string, run_from, run_from-ended, take_digits, drop_digits}
use Rattle.kom_framing.proofs.Runs.{are_digits-append}
use Rattle.kom_framing.proofs.Lexing.{token_kind}
use Rattle.kom_framing.proofs.Looks.{digit_is, digit_kind, no_digit, hollerith_is, no_hollerith}

-- ---- digits

in_digits : (byte : ℕ) → is_digit byte ≡ true → (48 ≤ byte) × (byte ≤ 57)
in_digits byte e = grind (arith, nat_tests)

pub digit_bounds : (byte : ℕ) → kind_of byte ≡ kind.Digit → (48 ≤ byte) × (byte ≤ 57)
digit_bounds byte e = in_digits byte (digit_is byte e)

-- fifteen digits and one more fit
pub number_fits : (number start place : ℕ) → number < 10 ^ (place - start) → place - start < 16
    → 10 * number + 9 < 2 ^ 64
number_fits number start place small short =
    let bound : 10 ^ (place - start) ≤ 10 ^ 15 =
    pow-le-pow_right {n = 10} (omega arith) {i = place - start} {j = 15} (omega arith) in
    omega arith

one_digit_more : (start number : ℕ) (bytes : List ℕ) (byte : ℕ) → is_digit byte ≡ true → length bytes - start < 16
    → IsRun start number bytes → IsRun start (10 * number + (byte - 48)) (bytes ++ byte ∷ [])
one_digit_more start number bytes byte e short run =
    let begun = run.begun in
    let below : byte ≤ 57 = (in_digits byte e).1 in
    let grown : drop start (bytes ++ byte ∷ []) ≡ drop start bytes ++ byte ∷ [] =
    drop-append-le start bytes (byte ∷ []) (omega arith) in
    let power : 10 ^ (length (bytes ++ byte ∷ []) - start) ≡ 10 * 10 ^ (length bytes - start) =
    ap (λ (k : ℕ). 10 ^ k) (omega (arith, length-append bytes (byte ∷ []))) ∙ pow-succ' 10 (length bytes - start) in
    let small = run.small in
    record {
      begun = omega (arith, length-append bytes (byte ∷ []));
      short = omega (arith, length-append bytes (byte ∷ []));
      digits = subst AreDigits (sym grown) (are_digits-append (drop start bytes) (byte ∷ []) run.digits (e, tt));
      spells = ap number_of grown ∙ fold_push (λ number digit. 10 * number + (digit - 48)) 0 (drop start bytes) byte
          ∙ ap (λ (n : ℕ). 10 * n + (byte - 48)) run.spells;
      small = omega arith;
    }

pub length_seen : (text window : List ℕ) (at : ℕ) → at < length window
    → length (text ++ take at window) ≡ length text + at
length_seen text window at within =
    omega (arith, length-append text (take at window), length-take-le at window (omega arith))

-- ---- what a token is from its place on

-- digits with what is after them
pub digits_cut : (digits rest : List ℕ) → 1 ≤ length digits → AreDigits digits
    → cut_of (digits ++ rest) ≡ run_from run_at digits rest
digits_cut [] rest some all = absurd (omega arith)
digits_cut (byte ∷ digits) rest some all =
    token_kind sides.Server byte (digits ++ rest) kind.Digit (digit_kind byte all.0)
    ∙ ap (λ (t : List ℕ). run_at (byte ∷ t) (drop_while is_digit (digits ++ rest))) (take_digits digits rest all.1)
    ∙ ap (λ (t : List ℕ). run_at (byte ∷ (digits ++ take_while is_digit rest)) t) (drop_digits digits rest all.1)

-- a run of digits, and the byte after it
run_whole : (start number : ℕ) (bytes : List ℕ) (byte : ℕ) → is_digit byte ≡ false → eqb byte 72 ≡ false
    → IsRun start number bytes
    → cut_of (drop start (bytes ++ byte ∷ []))
    ≡ Whole (record { token = Digits (drop start bytes); tail = byte ∷ [] })
run_whole start number bytes byte d h run =
    let begun = run.begun in
    let short = run.short in
    ap cut_of (drop-append-le start bytes (byte ∷ []) (omega arith))
    ∙ digits_cut (drop start bytes) (byte ∷ []) (omega (arith, length-drop start bytes)) run.digits
    ∙ run_from-ended run_at (drop start bytes) byte [] d
    ∙ run_cut (drop start bytes) byte [] h (omega (arith, length-drop start bytes))

-- a string, whose length comes before it
string_whole : (digits text : List ℕ) → 1 ≤ length digits → AreDigits digits → is_integer digits ≡ true
    → number_of digits ≡ length text
    → cut_of (digits ++ 72 ∷ text) ≡ Whole (record { token = Text text; tail = [] })
string_whole digits text some all e counts =
    let count : ℕ = number_of digits in
    digits_cut digits (72 ∷ text) some all ∙ run_from-ended run_at digits 72 text refl ∙ run_string digits 72 text refl
    ∙ ap (λ (b : Bool). choice b (string_at count text) Unfit) e
    ∙ ap (λ (b : Bool). choice b (Whole (record { token = Text (take count text); tail = drop count text })) Prefix)
    (le-leb count (length text) (omega arith))
    ∙ ap (λ (t : List ℕ). Whole (record { token = Text t; tail = drop count text })) (take_all count text (omega arith))
    ∙ ap (λ (t : List ℕ). Whole (record { token = Text text; tail = t })) (drop_all count text (omega arith))

-- a sign and its run, and the byte after it
sign_whole : (mark : ℕ) (digits : List ℕ) (byte : ℕ) → kind_of mark ≡ kind.Sign → AreDigits digits
    → 1 ≤ length digits → length digits ≤ 16 → is_digit byte ≡ false
    → cut_of (mark ∷ (digits ++ byte ∷ [])) ≡ Whole (record { token = Signed mark digits; tail = byte ∷ [] })
sign_whole mark digits byte e all some short d =
    token_kind sides.Server mark (digits ++ byte ∷ []) kind.Sign e
    ∙ ap (λ (t : List ℕ). signed_run_at mark t (drop_while is_digit (digits ++ byte ∷ [])))
    (take_digits digits (byte ∷ []) all)
    ∙ ap (signed_run_at mark (digits ++ take_while is_digit (byte ∷ []))) (drop_digits digits (byte ∷ []) all)
    ∙ run_from-ended (signed_run_at mark) digits byte [] d
    ∙ ap (λ (b : Bool). choice b (Whole (record { token = Signed mark digits; tail = byte ∷ [] })) Unfit)
    (and_from _ _ (le-leb 1 (length digits) some) (le-leb (length digits) 16 short))

-- the bytes of a string so far
text_is : (start : ℕ) (bytes digits text : List ℕ) → AreDigits digits → drop start bytes ≡ digits ++ 72 ∷ text
    → text_from start bytes ≡ text
text_is start bytes digits text all e =
    ap (λ (t : List ℕ). drop 1 (drop_while is_digit t)) e
    ∙ ap (drop 1) (drop_digits digits (72 ∷ text) all ∙ drop_while-no is_digit 72 text refl)

-- a string's length begins before the end
pub inside_within : (start lacking : ℕ) (bytes : List ℕ) → IsInside start lacking bytes → start < length bytes
inside_within start lacking bytes inside =
    omega (
      arith,
      length-drop start bytes,
      ap length inside.bytes_are,
      length-append inside.digits (72 ∷ inside.text),
    )

-- a string of which more bytes have come
text_more : (start lacking : ℕ) (bytes more : List ℕ) (inside : IsInside start lacking bytes)
    → drop start (bytes ++ more) ≡ inside.digits ++ 72 ∷ (inside.text ++ more)
text_more start lacking bytes more inside =
    drop-append-le start bytes more (omega (arith, inside_within start lacking bytes inside))
    ∙ ap (λ (t : List ℕ). t ++ more) inside.bytes_are ∙ append_assoc inside.digits (72 ∷ inside.text) more

module _ (side : Side) where
  pub digit_move : (start number d : ℕ) (bytes : List ℕ) (byte : ℕ) → kind_of byte ≡ kind.Digit → d ≡ byte - 48
      → length bytes - start < 16 → IsRun start number bytes
      → IsMove side (step.Goes 1 None (lexer.Run start (10 * number + d))) (lexer.Run start number) bytes byte
  digit_move start number d bytes byte e spelled short run =
      let begun = run.begun in
      let grown : drop start (bytes ++ byte ∷ []) ≡ drop start bytes ++ byte ∷ [] =
      drop-append-le start bytes (byte ∷ []) (omega arith) in
      let fewer : ltb (length (drop start bytes)) 16 ≡ true =
      lt-ltb (length (drop start bytes)) 16 (omega (arith, length-drop start bytes)) in
      let moved : move side (Run (drop start bytes)) byte ≡ Goes [] (Run (drop start (bytes ++ byte ∷ []))) =
      ap (move_in_run (drop start bytes) byte) e
      ∙ ap (λ (b : Bool). elim b [ true ↦ Goes [] (Run (drop start bytes ++ byte ∷ [])) | false ↦ Unfits ]) fewer
      ∙ ap (λ (ds : List ℕ). Goes [] (Run ds)) (sym grown) in (
        refl,
        moved,
        subst (λ (n : ℕ). IsRun start (10 * number + n) (bytes ++ byte ∷ [])) (sym spelled)
            (one_digit_more start number bytes byte (digit_is byte e) short run),
        tt,
      )

  -- ---- a sign and its run

  -- a byte that is no digit
  ends_sign : (mark : ℕ) (digits : List ℕ) (byte : ℕ) (sort : ByteKind) → kind_of byte ≡ sort
      → (sort ≡ kind.Digit → ⊥) → 1 ≤ length digits
      → move side (AfterSign mark digits) byte ≡ move_past (Signed mark digits ∷ []) sort
  ends_sign mark [] byte sort e apart some = absurd (omega arith)
  ends_sign mark (first ∷ digits) byte kind.Blank e apart some = ap (move_after_sign mark (first ∷ digits) byte) e
  ends_sign mark (first ∷ digits) byte kind.LineFeed e apart some = ap (move_after_sign mark (first ∷ digits) byte) e
  ends_sign mark (first ∷ digits) byte kind.Digit e apart some = absurd (apart refl)
  ends_sign mark (first ∷ digits) byte kind.Hollerith e apart some = ap (move_after_sign mark (first ∷ digits) byte) e
  ends_sign mark (first ∷ digits) byte kind.Open e apart some = ap (move_after_sign mark (first ∷ digits) byte) e
  ends_sign mark (first ∷ digits) byte kind.Close e apart some = ap (move_after_sign mark (first ∷ digits) byte) e
  ends_sign mark (first ∷ digits) byte kind.Star e apart some = ap (move_after_sign mark (first ∷ digits) byte) e
  ends_sign mark (first ∷ digits) byte kind.Sign e apart some = ap (move_after_sign mark (first ∷ digits) byte) e
  ends_sign mark (first ∷ digits) byte kind.Other e apart some = ap (move_after_sign mark (first ∷ digits) byte) e

  -- the step over a byte after a token is what the byte does there
  step_past : (before : Lexer) (bytes : List ℕ) (byte : ℕ) (sort : ByteKind) (start : ℕ) (cut : Cut)
      → move side (mode_of before bytes) byte ≡ move_past (cut.token ∷ []) sort
      → cut_of (drop start (bytes ++ byte ∷ [])) ≡ Whole cut → IsMove side (step_by (Some start) sort) before bytes byte
  step_past before bytes byte kind.Blank start cut moved whole =
      let one = one_token (bytes ++ byte ∷ []) start cut whole in
      (refl, moved ∙ ap (λ (ts : List Token). move_past ts kind.Blank) (sym one.0), tt, one.1)
  step_past before bytes byte kind.LineFeed start cut moved whole =
      let one = one_token (bytes ++ byte ∷ []) start cut whole in
      (moved ∙ ap (λ (ts : List Token). move_past ts kind.LineFeed) (sym one.0), one.1)
  step_past before bytes byte kind.Digit start cut moved whole = moved
  step_past before bytes byte kind.Hollerith start cut moved whole = moved
  step_past before bytes byte kind.Open start cut moved whole = moved
  step_past before bytes byte kind.Close start cut moved whole = moved
  step_past before bytes byte kind.Star start cut moved whole = moved
  step_past before bytes byte kind.Sign start cut moved whole = moved
  step_past before bytes byte kind.Other start cut moved whole = moved

  pub sign_ends : (start : ℕ) (bytes : List ℕ) (byte : ℕ) → (kind_of byte ≡ kind.Digit → ⊥)
      → start + 1 < length bytes → IsAfterSign start bytes
      → IsMove side (step_by (Some start) (kind_of byte)) (lexer.AfterSign start) bytes byte
  sign_ends start bytes byte apart some after =
      let short = after.short in
      let mark : ℕ = get_or bytes start 0 in
      let digits : List ℕ = drop (start + 1) bytes in
      let rest : drop start (bytes ++ byte ∷ []) ≡ mark ∷ (digits ++ byte ∷ []) =
      drop-append-le start bytes (byte ∷ []) (omega arith)
      ∙ ap (λ (t : List ℕ). t ++ byte ∷ []) (drop_more bytes start 0 (omega arith)) in
      step_past (lexer.AfterSign start) bytes byte (kind_of byte) start
      (record { token = Signed mark digits; tail = byte ∷ [] })
      (ends_sign mark digits byte (kind_of byte) refl apart (omega (arith, length-drop (start + 1) bytes)))
      (ap cut_of rest
      ∙ sign_whole mark digits byte after.sign after.digits (omega (arith, length-drop (start + 1) bytes))
      (omega (arith, length-drop (start + 1) bytes)) (no_digit byte apart))

  pub sign_goes : (start : ℕ) (bytes : List ℕ) (byte : ℕ) → kind_of byte ≡ kind.Digit → length bytes ≤ start + 16
      → IsAfterSign start bytes
      → IsMove side (step.Goes 1 None (lexer.AfterSign start)) (lexer.AfterSign start) bytes byte
  sign_goes start bytes byte e short after =
      let begun = after.begun in
      let mark : ℕ = get_or bytes start 0 in
      let digits : List ℕ = drop (start + 1) bytes in
      let grown : drop (start + 1) (bytes ++ byte ∷ []) ≡ digits ++ byte ∷ [] =
      drop-append-le (start + 1) bytes (byte ∷ []) (omega arith) in
      let same : get_or (bytes ++ byte ∷ []) start 0 ≡ mark =
      get_or_append_left bytes (byte ∷ []) 0 start (omega arith) in
      let fewer : ltb (length digits) 16 ≡ true =
      lt-ltb (length digits) 16 (omega (arith, length-drop (start + 1) bytes)) in (
        refl,
        ap (move_after_sign mark digits byte) e
            ∙ ap (λ (b : Bool). choice b (Goes [] (AfterSign mark (digits ++ byte ∷ []))) Unfits) fewer
            ∙ ap (λ (m : ℕ). Goes [] (AfterSign m (digits ++ byte ∷ []))) (sym same)
            ∙ ap (λ (ds : List ℕ). Goes [] (AfterSign (get_or (bytes ++ byte ∷ []) start 0) ds)) (sym grown),
        record {
          begun = omega (arith, length-append bytes (byte ∷ []));
          short = omega (arith, length-append bytes (byte ∷ []));
          sign = ap kind_of same ∙ after.sign;
          digits = subst AreDigits (sym grown)
              (are_digits-append digits (byte ∷ []) after.digits (digit_is byte e, tt));
        },
        tt,
      )

  -- ---- the end of a run of digits

  ends_run : (digits : List ℕ) (byte : ℕ) (sort : ByteKind) → kind_of byte ≡ sort → (sort ≡ kind.Digit → ⊥)
      → (sort ≡ kind.Hollerith → ⊥) → move side (Run digits) byte ≡ move_past (Digits digits ∷ []) sort
  ends_run digits byte kind.Blank e apart unlike = ap (move_in_run digits byte) e
  ends_run digits byte kind.LineFeed e apart unlike = ap (move_in_run digits byte) e
  ends_run digits byte kind.Digit e apart unlike = absurd (apart refl)
  ends_run digits byte kind.Hollerith e apart unlike = absurd (unlike refl)
  ends_run digits byte kind.Open e apart unlike = ap (move_in_run digits byte) e
  ends_run digits byte kind.Close e apart unlike = ap (move_in_run digits byte) e
  ends_run digits byte kind.Star e apart unlike = ap (move_in_run digits byte) e
  ends_run digits byte kind.Sign e apart unlike = ap (move_in_run digits byte) e
  ends_run digits byte kind.Other e apart unlike = ap (move_in_run digits byte) e

  pub run_ends : (start number : ℕ) (bytes : List ℕ) (byte : ℕ) → (kind_of byte ≡ kind.Digit → ⊥)
      → (kind_of byte ≡ kind.Hollerith → ⊥) → IsRun start number bytes
      → IsMove side (step_by (Some start) (kind_of byte)) (lexer.Run start number) bytes byte
  run_ends start number bytes byte apart unlike run =
      step_past (lexer.Run start number) bytes byte (kind_of byte) start
      (record { token = Digits (drop start bytes); tail = byte ∷ [] })
      (ends_run (drop start bytes) byte (kind_of byte) refl apart unlike)
      (run_whole start number bytes byte (no_digit byte apart) (no_hollerith byte unlike) run)

  -- the `H` after a length
  move_into : (start number : ℕ) (bytes : List ℕ) (byte : ℕ) → kind_of byte ≡ kind.Hollerith
      → is_integer (drop start bytes) ≡ true → IsRun start number bytes
      → move side (Run (drop start bytes)) byte ≡ string_from number []
  move_into start number bytes byte e integer run =
      ap (move_in_run (drop start bytes) byte) e
      ∙ ap (λ (b : Bool). choice b (string_from (number_of (drop start bytes)) []) Unfits) integer
      ∙ ap (λ (n : ℕ). string_from n []) run.spells

  grown_into : (start number : ℕ) (bytes : List ℕ) (byte : ℕ) → kind_of byte ≡ kind.Hollerith → IsRun start number bytes
      → drop start (bytes ++ byte ∷ []) ≡ drop start bytes ++ 72 ∷ []
  grown_into start number bytes byte e run =
      let begun = run.begun in
      drop-append-le start bytes (byte ∷ []) (omega arith)
      ∙ ap (λ (b : ℕ). drop start bytes ++ b ∷ []) (hollerith_is byte e)

  is_length : (start number : ℕ) (bytes : List ℕ) → length bytes - start ≤ 10 → number < 2 ^ 32
      → IsRun start number bytes → is_integer (drop start bytes) ≡ true
  is_length start number bytes short small run =
      and_from _ _ (le-leb (length (drop start bytes)) 10 (omega (arith, length-drop start bytes)))
      (lt-ltb (number_of (drop start bytes)) (2 ^ 32) (omega (arith, run.spells)))

  -- a string of no bytes
  pub string_is_empty : (start number : ℕ) (bytes : List ℕ) (byte : ℕ) → kind_of byte ≡ kind.Hollerith
      → length bytes - start ≤ 10 → number ≡ 0 → IsRun start number bytes
      → IsMove side (step.Goes 1 (Some start) lexer.Past) (lexer.Run start number) bytes byte
  string_is_empty start number bytes byte e short none run =
      let begun = run.begun in
      let digits : List ℕ = drop start bytes in
      let integer = is_length start number bytes short (omega arith) run in
      let one =
      one_token (bytes ++ byte ∷ []) start (record { token = Text []; tail = [] })
      (ap cut_of (grown_into start number bytes byte e run)
      ∙ string_whole digits [] (omega (arith, length-drop start bytes)) run.digits integer (run.spells ∙ none)) in (
        refl,
        move_into start number bytes byte e integer run ∙ ap (λ (n : ℕ). string_from n []) none
            ∙ ap (λ (ts : List Token). Goes ts Past) (sym one.0),
        tt,
        one.1,
      )

  pub string_begins : (start number : ℕ) (bytes : List ℕ) (byte : ℕ) → kind_of byte ≡ kind.Hollerith
      → length bytes - start ≤ 10 → number < 2 ^ 32 → 0 < number → IsRun start number bytes
      → IsMove side (step.Goes 1 None (lexer.Inside start number)) (lexer.Run start number) bytes byte
  string_begins start zero bytes byte e short small some run = absurd (omega arith)
  string_begins start (suc number) bytes byte e short small some run =
      let begun = run.begun in
      let digits : List ℕ = drop start bytes in
      let integer = is_length start (suc number) bytes short small run in
      let grown = grown_into start (suc number) bytes byte e run in
      let fewer : number ≡ suc number - 1 = omega arith in (
        refl,
        move_into start (suc number) bytes byte e integer run
            ∙ ap (λ (n : ℕ). Goes [] (Inside n [])) fewer
            ∙ ap (λ (t : List ℕ). Goes [] (Inside (suc number - 1) t))
            (sym (text_is start (bytes ++ byte ∷ []) digits [] run.digits grown)),
        record {
          digits = digits;
          text = [];
          begun = omega (arith, length-drop start bytes);
          are_digits = run.digits;
          length_is = integer;
          bytes_are = grown;
          counts = omega (arith, run.spells);
          lacks = omega arith;
        },
        tt,
      )

  -- ---- a token of one byte

  pub one_byte : (place : ℕ) (bytes : List ℕ) (byte : ℕ) (token : Token) → length bytes ≡ place
      → cut_of (byte ∷ []) ≡ Whole (record { token = token; tail = [] })
      → move side Between byte ≡ Goes (token ∷ []) Past
      → IsMove side (step.Goes 1 (Some place) lexer.Past) lexer.Between bytes byte
  one_byte place bytes byte token at whole moved =
      let rest : drop place (bytes ++ byte ∷ []) ≡ byte ∷ [] =
      ap (λ (n : ℕ). drop n (bytes ++ byte ∷ [])) (sym at) ∙ drop-append_seam bytes (byte ∷ []) in
      let one =
      one_token (bytes ++ byte ∷ []) place (record { token = token; tail = [] }) (ap cut_of rest ∙ whole) in
      (refl, moved ∙ ap (λ (ts : List Token). Goes ts Past) (sym one.0), tt, one.1)

  -- ---- one byte

  pub does_move : (s : Step) (before : Lexer) (bytes : List ℕ) (byte : ℕ) (rest : List ℕ)
      → IsMove side s before bytes byte
      → Does side s before bytes (byte ∷ rest)
  does_move (step.Goes count ended after) before bytes byte rest moved =
      subst (λ (n : ℕ). Does side (step.Goes n ended after) before bytes (byte ∷ rest)) (sym moved.0) (record {
        some = omega arith;
        within = omega arith;
        onward_is = λ tokens. ap (lexer_after tokens) moved.1;
        sound = moved.2;
        whole = moved.3;
      })
  does_move (step.Ends ended) before bytes byte rest moved = record {
    onward_is = λ tokens. ap (lexer_after tokens) moved.0;
    whole = moved.1;
  }
  does_move step.Unfit before bytes byte rest moved = λ tokens. ap (lexer_after tokens) moved

  -- ---- many bytes of a string

  inside_goes : (lacking : ℕ) (tokens : List Token) (text prefix : List ℕ) → length prefix ≤ lacking
      → onward side (Going tokens (Inside lacking text)) prefix
      ≡ Going tokens (Inside (lacking - length prefix) (text ++ prefix))
  inside_goes lacking tokens text [] short =
      let none : lacking ≡ lacking - 0 = omega arith in
      ap (λ (n : ℕ). Going tokens (Inside n text)) none
      ∙ ap (λ (t : List ℕ). Going tokens (Inside (lacking - 0) t)) (sym (append-nil text))
  inside_goes zero tokens text (byte ∷ prefix) short = absurd (omega arith)
  inside_goes (suc lacking) tokens text (byte ∷ prefix) short =
      let fewer : lacking - length prefix ≡ suc lacking - length (byte ∷ prefix) = omega arith in
      ap (λ (t : List Token). onward side (Going t (Inside lacking (text ++ byte ∷ []))) prefix) (append-nil tokens)
      ∙ inside_goes lacking tokens (text ++ byte ∷ []) prefix (omega arith)
      ∙ ap (λ (n : ℕ). Going tokens (Inside n ((text ++ byte ∷ []) ++ prefix))) fewer
      ∙ ap (λ (t : List ℕ). Going tokens (Inside (suc lacking - length (byte ∷ prefix)) t))
      (append_assoc text (byte ∷ []) prefix)

  inside_ends : (lacking : ℕ) (tokens : List Token) (text prefix : List ℕ) → length prefix ≡ lacking + 1
      → onward side (Going tokens (Inside lacking text)) prefix ≡ Going (tokens ++ Text (text ++ prefix) ∷ []) Past
  inside_ends lacking tokens text [] whole = absurd (omega arith)
  inside_ends zero tokens text (byte ∷ []) whole = refl
  inside_ends zero tokens text (byte ∷ second ∷ prefix) whole = absurd (omega arith)
  inside_ends (suc lacking) tokens text (byte ∷ prefix) whole =
      ap (λ (t : List Token). onward side (Going t (Inside lacking (text ++ byte ∷ []))) prefix) (append-nil tokens)
      ∙ inside_ends lacking tokens (text ++ byte ∷ []) prefix (omega arith)
      ∙ ap (λ (t : List ℕ). Going (tokens ++ Text t ∷ []) Past) (append_assoc text (byte ∷ []) prefix)

  pub string_ends : (start lacking : ℕ) (bytes tail : List ℕ) → lacking ≤ length tail → IsInside start lacking bytes
      → LeadsOn side lacking (Some start) lexer.Past (lexer.Inside start lacking) bytes tail
  string_ends start lacking bytes tail within inside =
      let prefix : List ℕ = take lacking tail in
      let count : length prefix ≡ lacking = length-take-le lacking tail within in
      let lacks = inside.lacks in
      let text = text_is start bytes inside.digits inside.text inside.are_digits inside.bytes_are in
      let one =
      one_token (bytes ++ prefix) start (record { token = Text (inside.text ++ prefix); tail = [] })
      (ap cut_of (text_more start lacking bytes prefix inside)
      ∙ string_whole inside.digits (inside.text ++ prefix) inside.begun inside.are_digits inside.length_is
      (omega (arith, inside.counts, length-append inside.text prefix))) in
      record {
        some = lacks;
        within = within;
        onward_is = λ tokens. inside_ends (lacking - 1) tokens (text_from start bytes) prefix (omega arith)
            ∙ ap (λ (t : List ℕ). Going (tokens ++ Text (t ++ prefix) ∷ []) Past) text
            ∙ ap (λ (ts : List Token). Going (tokens ++ ts) Past) (sym one.0);
        sound = tt;
        whole = one.1;
      }

  pub string_goes : (start lacking left : ℕ) (bytes tail : List ℕ) → 1 ≤ left → left < lacking
      → length tail ≡ left → IsInside start lacking bytes
      → LeadsOn side left None (lexer.Inside start (lacking - left)) (lexer.Inside start lacking) bytes tail
  string_goes start lacking left bytes tail some fewer whole inside =
      let prefix : List ℕ = take left tail in
      let count : length prefix ≡ left = length-take-le left tail (omega arith) in
      let bytes_are = text_more start lacking bytes prefix inside in
      let text = text_is start bytes inside.digits inside.text inside.are_digits inside.bytes_are in
      let grown : text_from start bytes ++ prefix ≡ text_from start (bytes ++ prefix) =
      ap (λ (t : List ℕ). t ++ prefix) text
      ∙ sym (text_is start (bytes ++ prefix) inside.digits (inside.text ++ prefix) inside.are_digits bytes_are) in
      let less : lacking - 1 - length prefix ≡ lacking - left - 1 = omega arith in
      record {
        some = some;
        within = omega arith;
        onward_is = λ tokens. inside_goes (lacking - 1) tokens (text_from start bytes) prefix (omega arith)
            ∙ ap (λ (n : ℕ). Going tokens (Inside n (text_from start bytes ++ prefix))) less
            ∙ ap (λ (t : List ℕ). Going tokens (Inside (lacking - left - 1) t)) grown
            ∙ sym (ap (λ (t : List Token). Going t (Inside (lacking - left - 1) (text_from start (bytes ++ prefix))))
            (append-nil tokens));
        sound = record {
          digits = inside.digits;
          text = inside.text ++ prefix;
          begun = inside.begun;
          are_digits = inside.are_digits;
          length_is = inside.length_is;
          bytes_are = bytes_are;
          counts = omega (arith, inside.counts, length-append inside.text prefix);
          lacks = omega arith;
        };
        whole = tt;
      }

  -- the same with the next byte of a window
  pub does_window_move : (s : Step) (before : Lexer) (bytes window : List ℕ) (at : ℕ) → at < length window
      → IsMove side s before bytes (get_or window at 0) → Does side s before bytes (drop at window)
  does_window_move s before bytes window at within moved =
      subst (Does side s before bytes) (sym (drop_more window at 0 within))
      (does_move s before bytes (get_or window at 0) (drop (at + 1) window) moved)
