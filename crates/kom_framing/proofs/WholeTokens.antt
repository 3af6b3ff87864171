-- A token that is whole in a window, step by step.
use Rattle.std.proofs.Common.{◌≡◌, ℕ, ◌+◌, ◌*◌, ◌-◌, ◌^◌, ◌<◌, ◌≤◌, true, List, [], ◌∷◌, ◌++◌, length, get_or}
use Rattle.std.proofs.Common.{take, drop, Option, Some, None, refl, sym, ap, subst, ◌∙◌, inl, inr, arith}
use Rattle.std.specs.Prelude.{option_to_list}
use Rattle.std.proofs.Math.Nat.{pow-succ'}
use Rattle.std.proofs.Math.Seq.{drop-append_seam}
use Rattle.std.proofs.lemmas.Bool.{cases_lt}
use Rattle.std.proofs.lemmas.List.{append-nil, length-append, length-take-le, length-drop}
use Rattle.kom_types.specs.declared.byte_kind.ByteKind.{ByteKind}
use Rattle.kom_types.specs.declared.byte_kind.ByteKind.TheVariants as kind
use Rattle.kom_types.specs.declared.side.Side.{Side}
use Rattle.kom_types.specs.ByteKind.{is_digit, kind_of}
use Rattle.kom_types.specs.Token.{Token, number_of}
use Rattle.kom_types.specs.Grammar.{Whole}
use Rattle.kom_framing.specs.declared.lexer.Lexer.{Lexer}
use Rattle.kom_framing.specs.declared.lexer.Lexer.TheVariants as lexer
use Rattle.kom_framing.specs.declared.lexer.Step.TheVariants as step
use Rattle.kom_framing.specs.Spans.{cut_of}
use Rattle.kom_framing.specs.Lexing.{Between, Run, Past, Goes, move, move_between, move_past, walk}
use Rattle.kom_framing.specs.Scanning.{AreDigits, IsRun, IsMove, IsBegun, step_by}
use Rattle.kom_framing.specs.BegunLines.{EndsIn}
use Rattle.kom_framing.specs.WholeTokens.{Leads, IsRunTo, IsTokenTo}
use Rattle.kom_framing.proofs.BegunLines.{begun_further, ends_in}
use Rattle.kom_framing.proofs.Looks.{digit_is, digit_kind}
use Rattle.kom_framing.proofs.Steps.{digit_bounds, digit_move, run_ends, string_is_empty, string_begins, string_ends}
use Rattle.kom_framing.proofs.Steps.{one_byte, does_window_move}

-- a byte that is not of one kind
other_kind : (byte : ℕ) (sort another : ByteKind) → kind_of byte ≡ sort → (sort ≡ another → ⊥) →
    kind_of byte ≡ another → ⊥
other_kind byte sort another e apart same = apart (sym e ∙ same)

seen_length : (window : List ℕ) (at : ℕ) → at < length window → length (take at window) ≡ at
seen_length window at within = length-take-le at window (omega arith)

module _ (side : Side) (window : List ℕ) where
  -- one byte further
  pub goes : (at : ℕ) (starts more : List ℕ) (before after : Lexer) (ended : Option ℕ) → at < length window
      → option_to_list ended ≡ more → IsBegun side (take at window) starts before
      → IsMove side (step.Goes 1 ended after) before (take at window) (get_or window at 0)
      → IsBegun side (take (at + 1) window) (starts ++ more) after
  goes at starts more before after ended within told begun moved =
      subst (λ (m : List ℕ). IsBegun side (take (at + 1) window) (starts ++ m) after) told
      (begun_further side [] window at 1 starts before after ended begun
      (does_window_move side (step.Goes 1 ended after) before (take at window) window at within moved))

  -- the line's end
  pub ends : (at : ℕ) (starts more : List ℕ) (before : Lexer) (ended : Option ℕ) → at < length window
      → option_to_list ended ≡ more → IsBegun side (take at window) starts before
      → IsMove side (step.Ends ended) before (take at window) (get_or window at 0)
      → EndsIn side [] window (starts ++ more) (at + 1)
  ends at starts more before ended within told begun moved =
      subst (λ (m : List ℕ). EndsIn side [] window (starts ++ m) (at + 1)) told
      (ends_in side [] window at starts before ended within begun
      (does_window_move side (step.Ends ended) before (take at window) window at within moved))

  -- ---- between tokens

  pub skips : (at : ℕ) (starts : List ℕ) → at < length window → kind_of (get_or window at 0) ≡ kind.Blank
      → IsBegun side (take at window) starts lexer.Between → IsBegun side (take (at + 1) window) starts lexer.Between
  skips at starts within e begun =
      let byte : ℕ = get_or window at 0 in
      subst (λ (s : List ℕ). IsBegun side (take (at + 1) window) s lexer.Between) (append-nil starts)
      (goes at starts [] lexer.Between lexer.Between None within refl begun
      (refl, ap (λ (k : ByteKind). move_between side byte k) e, tt, tt))

  pub ends_between : (at : ℕ) (starts : List ℕ) → at < length window → kind_of (get_or window at 0) ≡ kind.LineFeed
      → IsBegun side (take at window) starts lexer.Between → EndsIn side [] window starts (at + 1)
  ends_between at starts within e begun =
      let byte : ℕ = get_or window at 0 in
      subst (λ (s : List ℕ). EndsIn side [] window s (at + 1)) (append-nil starts)
      (ends at starts [] lexer.Between None within refl begun
      (ap (λ (k : ByteKind). move_between side byte k) e, tt))

  -- ---- after a token

  past_blank : (at : ℕ) (starts : List ℕ) → at < length window → kind_of (get_or window at 0) ≡ kind.Blank
      → IsBegun side (take at window) starts lexer.Past → IsBegun side (take (at + 1) window) starts lexer.Between
  past_blank at starts within e begun =
      subst (λ (s : List ℕ). IsBegun side (take (at + 1) window) s lexer.Between) (append-nil starts)
      (goes at starts [] lexer.Past lexer.Between None within refl begun
      (refl, ap (λ (k : ByteKind). move_past [] k) e, tt, tt))

  past_feed : (at : ℕ) (starts : List ℕ) → at < length window → kind_of (get_or window at 0) ≡ kind.LineFeed
      → IsBegun side (take at window) starts lexer.Past → EndsIn side [] window starts (at + 1)
  past_feed at starts within e begun =
      subst (λ (s : List ℕ). EndsIn side [] window s (at + 1)) (append-nil starts)
      (ends at starts [] lexer.Past None within refl begun
      (ap (λ (k : ByteKind). move_past [] k) e, tt))

  -- ---- after a run

  run_blank : (at start number : ℕ) (starts : List ℕ) → at < length window → kind_of (get_or window at 0) ≡ kind.Blank
      → IsBegun side (take at window) starts (lexer.Run start number)
      → IsBegun side (take (at + 1) window) (starts ++ start ∷ []) lexer.Between
  run_blank at start number starts within e begun =
      let byte : ℕ = get_or window at 0 in
      let moved : IsMove side (step_by (Some start) kind.Blank) (lexer.Run start number) (take at window) byte =
      subst (λ (k : ByteKind). IsMove side (step_by (Some start) k) (lexer.Run start number) (take at window) byte) e
      (run_ends side start number (take at window) byte
      (other_kind byte kind.Blank kind.Digit e (λ (same : kind.Blank ≡ kind.Digit). cc))
      (other_kind byte kind.Blank kind.Hollerith e (λ (same : kind.Blank ≡ kind.Hollerith). cc)) begun.sound) in
      goes at starts (start ∷ []) (lexer.Run start number) lexer.Between (Some start) within refl begun moved

  run_feed : (at start number : ℕ) (starts : List ℕ) → at < length window → kind_of (get_or window at 0) ≡ kind.LineFeed
      → IsBegun side (take at window) starts (lexer.Run start number)
      → EndsIn side [] window (starts ++ start ∷ []) (at + 1)
  run_feed at start number starts within e begun =
      let byte : ℕ = get_or window at 0 in
      let moved : IsMove side (step_by (Some start) kind.LineFeed) (lexer.Run start number) (take at window) byte =
      subst (λ (k : ByteKind). IsMove side (step_by (Some start) k) (lexer.Run start number) (take at window) byte) e
      (run_ends side start number (take at window) byte
      (other_kind byte kind.LineFeed kind.Digit e (λ (same : kind.LineFeed ≡ kind.Digit). cc))
      (other_kind byte kind.LineFeed kind.Hollerith e (λ (same : kind.LineFeed ≡ kind.Hollerith). cc)) begun.sound) in
      ends at starts (start ∷ []) (lexer.Run start number) (Some start) within refl begun moved

  -- ---- digits

  begins_run : (start : ℕ) (starts : List ℕ) → start < length window → kind_of (get_or window start 0) ≡ kind.Digit
      → IsBegun side (take start window) starts lexer.Between
      → IsBegun side (take (start + 1) window) (starts ++ []) (lexer.Run start (get_or window start 0 - 48))
  begins_run start starts within e begun =
      let byte : ℕ = get_or window start 0 in
      let bytes : List ℕ = take start window in
      let long : length bytes ≡ start = seen_length window start within in
      let grown : drop start (bytes ++ byte ∷ []) ≡ byte ∷ [] =
      ap (λ (n : ℕ). drop n (bytes ++ byte ∷ [])) (sym long) ∙ drop-append_seam bytes (byte ∷ []) in
      let one : length (bytes ++ byte ∷ []) ≡ start + 1 = omega (arith, length-append bytes (byte ∷ [])) in
      let single : length (bytes ++ byte ∷ []) - start ≡ 1 = omega arith in
      let bounds = digit_bounds byte e in
      let spelled : number_of (byte ∷ []) ≡ byte - 48 = omega arith in
      let run : IsRun start (byte - 48) (bytes ++ byte ∷ []) = record {
        begun = omega arith;
        short = omega arith;
        digits = subst AreDigits (sym grown) (digit_is byte e, tt);
        spells = ap number_of grown ∙ spelled;
        small = subst (λ (k : ℕ). byte - 48 < 10 ^ k) (sym single) (omega (arith, bounds.1));
      } in
      goes start starts [] lexer.Between (lexer.Run start (byte - 48)) None within refl begun (
        refl,
        ap (λ (k : ByteKind). move_between side byte k) e ∙ ap (λ (ds : List ℕ). Goes [] (Run ds)) (sym grown),
        run,
        tt,
      )

  goes_in_run : (at start number : ℕ) (starts : List ℕ) → at < length window → at - start < 16
      → kind_of (get_or window at 0) ≡ kind.Digit → IsBegun side (take at window) starts (lexer.Run start number)
      → IsBegun side (take (at + 1) window) (starts ++ [])
      (lexer.Run start (10 * number + (get_or window at 0 - 48)))
  goes_in_run at start number starts within short e begun =
      let byte : ℕ = get_or window at 0 in
      let long : length (take at window) ≡ at = seen_length window at within in
      goes at starts [] (lexer.Run start number) (lexer.Run start (10 * number + (byte - 48))) None within refl begun
      (digit_move side start number (byte - 48) (take at window) byte e refl (omega arith) begun.sound)

  -- ---- a string

  string_past : (at start number : ℕ) (starts : List ℕ) → at < length window → get_or window at 0 ≡ 72
      → at - start ≤ 10 → number < 2 ^ 32 → at + 1 + number ≤ length window
      → IsBegun side (take at window) starts (lexer.Run start number)
      → IsBegun side (take (at + 1 + number) window) (starts ++ start ∷ []) lexer.Past
  string_past at start number starts within letter short small fits begun =
      let byte : ℕ = get_or window at 0 in
      let e : kind_of byte ≡ kind.Hollerith = ap kind_of letter in
      let long : length (take at window) ≡ at = seen_length window at within in
      elim (cases_lt 0 number) [
        | inl some ↦ let into : IsBegun side (take (at + 1) window) (starts ++ []) (lexer.Inside start number) =
            goes at starts [] (lexer.Run start number) (lexer.Inside start number) None within refl begun
            (string_begins side start number (take at window) byte e (omega arith) small some begun.sound) in
            let same : IsBegun side (take (at + 1) window) starts (lexer.Inside start number) =
            subst (λ (s : List ℕ). IsBegun side (take (at + 1) window) s (lexer.Inside start number))
            (append-nil starts) into in
            begun_further side [] window (at + 1) number starts (lexer.Inside start number) lexer.Past (Some start) same
            (string_ends side start number (take (at + 1) window) (drop (at + 1) window)
            (omega (arith, length-drop (at + 1) window)) same.sound)
        | inr none ↦ let nothing : number ≡ 0 = omega arith in
            let here : at + 1 ≡ at + 1 + number = omega arith in
            subst (λ (n : ℕ). IsBegun side (take n window) (starts ++ start ∷ []) lexer.Past) here
            (goes at starts (start ∷ []) (lexer.Run start number) lexer.Past (Some start) within refl begun
            (string_is_empty side start number (take at window) byte e (omega arith) nothing begun.sound))
      ]

-- ---- a token, whatever the side

-- a token that has ended
pub past_token : (window : List ℕ) (start end : ℕ) → start < end → Leads window start end (start ∷ []) lexer.Past
    → IsTokenTo window start end
past_token window start end some leads = record {
  some = some;
  blank = λ within e side starts begun.
      past_blank side window end (starts ++ start ∷ []) within e (leads side starts begun);
  feed = λ within e side starts begun.
      past_feed side window end (starts ++ start ∷ []) within e (leads side starts begun);
}

same_starts : (side : Side) (bytes starts : List ℕ) (after : Lexer) → IsBegun side bytes (starts ++ []) after
    → IsBegun side bytes starts after
same_starts side bytes starts after begun =
    subst (λ (s : List ℕ). IsBegun side bytes s after) (append-nil starts) begun

-- a run that a byte after it ends
pub run_token : (window : List ℕ) (start end number : ℕ) → IsRunTo window start end number → IsTokenTo window start end
run_token window start end number run = record {
  some = run.some;
  blank = λ within e side starts begun.
      run_blank side window end start number starts within e
      (same_starts side (take end window) starts (lexer.Run start number) (run.leads side starts begun));
  feed = λ within e side starts begun.
      run_feed side window end start number starts within e
      (same_starts side (take end window) starts (lexer.Run start number) (run.leads side starts begun));
}

pub digit_first : (window : List ℕ) (start : ℕ) → start < length window → kind_of (get_or window start 0) ≡ kind.Digit
    → IsRunTo window start (start + 1) (get_or window start 0 - 48)
digit_first window start within e =
    let single : start + 1 - start ≡ 1 = omega arith in
    let bounds = digit_bounds (get_or window start 0) e in
    record {
      some = omega arith;
      within = omega arith;
      short = omega arith;
      small = subst (λ (k : ℕ). get_or window start 0 - 48 < 10 ^ k) (sym single) (omega (arith, bounds.1));
      leads = λ side starts begun. begins_run side window start starts within e begun;
    }

pub digit_next : (window : List ℕ) (start end number : ℕ) → IsRunTo window start end number → end < length window
    → end - start < 16 → is_digit (get_or window end 0) ≡ true
    → IsRunTo window start (end + 1) (10 * number + (get_or window end 0 - 48))
digit_next window start end number run within short digit =
    let byte : ℕ = get_or window end 0 in
    let e : kind_of byte ≡ kind.Digit = digit_kind byte digit in
    let bounds = digit_bounds byte e in
    let some = run.some in
    let small = run.small in
    let power : 10 ^ (end + 1 - start) ≡ 10 * 10 ^ (end - start) =
    ap (λ (k : ℕ). 10 ^ k) (omega arith) ∙ pow-succ' 10 (end - start) in
    record {
      some = omega arith;
      within = omega arith;
      short = omega arith;
      small = omega (arith, bounds.1);
      leads = λ side starts begun. goes_in_run side window end start number starts within short e
          (same_starts side (take end window) starts (lexer.Run start number) (run.leads side starts begun));
    }

pub string_token : (window : List ℕ) (start end number : ℕ) → IsRunTo window start end number → end < length window
    → get_or window end 0 ≡ 72 → end - start ≤ 10 → number < 2 ^ 32 → end + 1 + number ≤ length window
    → IsTokenTo window start (end + 1 + number)
string_token window start end number run within letter short small fits =
    let some = run.some in
    past_token window start (end + 1 + number) (omega arith)
    (λ side starts begun. string_past side window end start number starts within letter short small fits
    (same_starts side (take end window) starts (lexer.Run start number) (run.leads side starts begun)))

-- a token of one byte
pub byte_token : (window : List ℕ) (start : ℕ) (token : Token) → start < length window
    → cut_of (get_or window start 0 ∷ []) ≡ Whole (record { token = token; tail = [] })
    → ((side : Side) → move side Between (get_or window start 0) ≡ Goes (token ∷ []) Past)
    → IsTokenTo window start (start + 1)
byte_token window start token within whole moved =
    past_token window start (start + 1) (omega arith)
    (λ side starts begun. goes side window start starts (start ∷ []) lexer.Between lexer.Past (Some start) within refl
    begun
    (one_byte side start (take start window) (get_or window start 0) token (seen_length window start within) whole
    (moved side)))

-- ---- a line of which nothing has come

pub nothing_begun : (side : Side) → IsBegun side [] [] lexer.Between
nothing_begun side = record { walked = refl; whole = tt; sound = tt }

pub nothing_there : (bytes : List ℕ) → length bytes ≡ 0 → bytes ≡ []
nothing_there [] none = refl
nothing_there (byte ∷ bytes) none = absurd (omega arith)

pub nothing_starts : (side : Side) (text starts : List ℕ) (before : Lexer) → text ≡ []
    → IsBegun side text starts before → starts ≡ []
nothing_starts side text [] before none begun = refl
nothing_starts side text (start ∷ starts) before none begun =
    let walked = sym (ap (walk side) none) ∙ begun.walked in
    absurd cc
