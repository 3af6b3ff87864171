-- A line that has begun, byte by byte, is what the stream makes of it.
use Rattle.std.proofs.Common.{◌≡◌, ℕ, suc, ◌+◌, ◌-◌, ◌<◌, ◌≤◌, List, [], ◌∷◌, ◌++◌, length, get_or, take, drop, Option}
use Rattle.std.proofs.Common.{Some, None, refl, sym, ap, subst, ◌∙◌, arith, append_assoc}
use Rattle.std.specs.Prelude.{option_to_list}
use Rattle.std.proofs.Math.Seq.{take-add}
use Rattle.std.proofs.lemmas.List.{append-nil, length-append, length-take, length-take-le, length-drop, take_all}
use Rattle.std.proofs.lemmas.List.{take-append-drop, drop_more, take_more, take-take, take-append-le}
use Rattle.std.proofs.lemmas.List.Sums.{fold-append}
use Rattle.kom_types.specs.declared.limits.TheConstants.{LONGEST_LINE, LONGEST_STREAM}
use Rattle.kom_types.specs.declared.side.Side.{Side}
use Rattle.kom_types.specs.Token.{Token}
use Rattle.kom_types.specs.Grammar.{Form, Prefix, Whole, line_form}
use Rattle.kom_types.specs.Stream.{Malformed, with_line, stopped_in, lines_from}
use Rattle.kom_framing.specs.declared.lexer.Lexer.{Lexer}
use Rattle.kom_framing.specs.declared.lexer.Step.{Step}
use Rattle.kom_framing.specs.declared.lexer.Step.TheVariants as step
use Rattle.kom_framing.specs.declared.fault.Fault.TheVariants as found
use Rattle.kom_framing.specs.Spans.{tokens_of, AreTokens}
use Rattle.kom_framing.specs.Lexing.{Between, LexerState, Going, Ended, Stuck, next, onward, walk}
use Rattle.kom_framing.specs.Scanning.{mode_of, IsLexer, tokens_ended, LeadsOn, EndsLine, Does, IsBegun}
use Rattle.kom_framing.specs.declared.fault.Fault.{Fault as CodeFault}
use Rattle.kom_framing.specs.declared.lines.BegunLine.{BegunLine}
use Rattle.kom_framing.specs.BegunLines.{IsGoing, Extends, EndsIn, IsUnfitAt, FailsAt, IsLine, IsSame, Grows, ScansOn}
use Rattle.kom_framing.specs.BegunLines.{ScansTo}
use Rattle.kom_framing.proofs.Lexing.{form_of, line_form-walk, onward-stuck}
use Rattle.kom_framing.proofs.Streams.{Fits, line_goes_on, line_ends, line_unfit, line_late, line_too_long}
use Rattle.kom_framing.proofs.Spans.{are_tokens_more, are_tokens-append, tokens_stay, tokens_of-append}

going_prefix : (state : LexerState) → IsGoing state → form_of state ≡ Prefix
going_prefix (Going tokens mode) going = refl
going_prefix (Ended tokens) going = absurd going
going_prefix Stuck going = absurd going

-- the prefix of a list before its byte at an index, that byte, and the rest
pub split_at : (bytes : List ℕ) (at : ℕ) → at < length bytes
    → bytes ≡ take at bytes ++ (get_or bytes at 0 ∷ drop (at + 1) bytes)
split_at bytes at within =
    sym (take-append-drop at bytes) ∙ ap (λ (t : List ℕ). take at bytes ++ t) (drop_more bytes at 0 within)

-- more starts after those that were added
pub extends_more : (old new more : List ℕ) → Extends old new → Extends old (new ++ more)
extends_more old new more extends =
    let enough : length old ≤ length new = omega (arith, ap length extends, length-take (length old) new) in
    take-append-le (length old) new more enough ∙ extends

pub seen_within : (window : List ℕ) (at count : ℕ) → at ≤ length window → count ≤ length (drop at window)
    → at + count ≤ length window
seen_within window at count inside within = omega (arith, length-drop at window)

fits_by : (form other : Form (List Token)) → form ≡ other → Fits other → Fits form
fits_by form other e fits = subst Fits (sym e) fits

-- a window at the start of a piece
pub record IsWindow (window piece : List ℕ) : Type 0 where
  pub prefix : window ≡ take (length window) piece
  pub within : length window ≤ length piece

pub window_prefix : (window piece : List ℕ) (count : ℕ) → IsWindow window piece → count ≤ length window
    → take count window ≡ take count piece
window_prefix window piece count w le = ap (take count) w.prefix ∙ take-take count (length window) piece le

pub split_window : (window piece : List ℕ) → IsWindow window piece → piece ≡ window ++ drop (length window) piece
split_window window piece w =
    sym (take-append-drop (length window) piece) ∙ ap (λ (t : List ℕ). t ++ drop (length window) piece) (sym w.prefix)

pub whole_window : (window piece : List ℕ) → IsWindow window piece → length window ≡ length piece → window ≡ piece
whole_window window piece w same = w.prefix ∙ take_all (length window) piece (omega arith)

module _ (side : Side) where
  -- ---- the walk over a line

  pub walk-append : (text bytes : List ℕ) → walk side (text ++ bytes) ≡ onward side (walk side text) bytes
  walk-append text bytes = fold-append (next side) (Going [] Between) text bytes

  ended_stuck : (tokens : List Token) (byte : ℕ) (bytes : List ℕ) → onward side (Ended tokens) (byte ∷ bytes) ≡ Stuck
  ended_stuck tokens byte bytes = onward-stuck side bytes

  -- a state from which a line goes on, or which is reached from one, is that of a line that goes on
  pub goes_on_before : (state : LexerState) (bytes : List ℕ) → IsGoing (onward side state bytes) → IsGoing state
  goes_on_before (Going tokens mode) bytes going = tt
  goes_on_before (Ended tokens) [] going = going
  goes_on_before (Ended tokens) (byte ∷ bytes) going = subst IsGoing (ended_stuck tokens byte bytes) going
  goes_on_before Stuck bytes going = subst IsGoing (onward-stuck side bytes) going

  pub ends_from : (state : LexerState) (byte : ℕ) (tokens : List Token) → next side state byte ≡ Ended tokens
      → IsGoing state
  ends_from (Going more mode) byte tokens e = tt
  ends_from (Ended more) byte tokens e = absurd cc
  ends_from Stuck byte tokens e = absurd cc

  form_is : (bytes : List ℕ) (state : LexerState) → walk side bytes ≡ state → line_form side bytes ≡ form_of state
  form_is bytes state e = line_form-walk side bytes ∙ ap form_of e

  form_goes_on : (bytes : List ℕ) → IsGoing (walk side bytes) → line_form side bytes ≡ Prefix
  form_goes_on bytes going = line_form-walk side bytes ∙ going_prefix (walk side bytes) going

  -- ---- bytes of a line, as the stream has them

  going_first : (text : List ℕ) (byte : ℕ) (bytes : List ℕ) → IsGoing (walk side (text ++ byte ∷ bytes))
      → IsGoing (walk side (text ++ byte ∷ []))
  going_first text byte bytes going =
      let regrouped : text ++ byte ∷ bytes ≡ (text ++ byte ∷ []) ++ bytes = sym (append_assoc text (byte ∷ []) bytes) in
      goes_on_before (walk side (text ++ byte ∷ [])) bytes
      (subst IsGoing (ap (walk side) regrouped ∙ walk-append (text ++ byte ∷ []) bytes) going)

  -- a line that goes on with these bytes
  pub lines_go_on : (place : ℕ) (text prefix bytes : List ℕ) → IsGoing (walk side (text ++ prefix))
      → length text + length prefix ≤ LONGEST_LINE → place + length prefix ≤ LONGEST_STREAM
      → lines_from side place text (prefix ++ bytes) ≡ lines_from side (place + length prefix) (text ++ prefix) bytes
  lines_go_on place text [] bytes going short early =
      let same : place ≡ place + 0 = omega arith in
      ap (λ (p : ℕ). lines_from side p text bytes) same
      ∙ ap (λ (t : List ℕ). lines_from side (place + 0) t bytes) (sym (append-nil text))
  lines_go_on place text (byte ∷ prefix) bytes going short early =
      let regrouped : text ++ byte ∷ prefix ≡ (text ++ byte ∷ []) ++ prefix =
      sym (append_assoc text (byte ∷ []) prefix) in
      let further : place + 1 + length prefix ≡ place + length (byte ∷ prefix) = omega arith in
      line_goes_on side place text byte (prefix ++ bytes) (omega arith) (omega (arith, length-append text (byte ∷ [])))
      (form_goes_on (text ++ byte ∷ []) (going_first text byte prefix going))
      ∙ lines_go_on (place + 1) (text ++ byte ∷ []) prefix bytes
      (subst (λ (t : List ℕ). IsGoing (walk side t)) regrouped going) (omega (arith, length-append text (byte ∷ [])))
      (omega arith)
      ∙ ap (λ (p : ℕ). lines_from side p ((text ++ byte ∷ []) ++ prefix) bytes) further
      ∙ ap (λ (t : List ℕ). lines_from side (place + length (byte ∷ prefix)) t bytes) (sym regrouped)

  -- a line that ends with the last of so many bytes
  pub lines_end : (place : ℕ) (text bytes : List ℕ) (count : ℕ) (tokens : List Token) → 1 ≤ count → count ≤ length bytes
      → walk side (text ++ take count bytes) ≡ Ended tokens → length text + count ≤ LONGEST_LINE
      → place + count ≤ LONGEST_STREAM
      → lines_from side place text bytes
      ≡ with_line tokens (place + count - 1) (lines_from side (place + count) [] (drop count bytes))
  lines_end place text bytes count tokens some within ended short early =
      let at : ℕ = count - 1 in
      let back : count ≡ at + 1 = omega arith in
      let inside : at < length bytes = omega arith in
      let prefix : List ℕ = take at bytes in
      let byte : ℕ = get_or bytes at 0 in
      let prefix_length : length prefix ≡ at = length-take-le at bytes (omega arith) in
      let regrouped : text ++ take count bytes ≡ (text ++ prefix) ++ byte ∷ [] =
      ap (λ (n : ℕ). text ++ take n bytes) back ∙ ap (λ (t : List ℕ). text ++ t) (take_more bytes at 0 inside)
      ∙ sym (append_assoc text prefix (byte ∷ [])) in
      let last : walk side ((text ++ prefix) ++ byte ∷ []) ≡ Ended tokens = sym (ap (walk side) regrouped) ∙ ended in
      let going : IsGoing (walk side (text ++ prefix)) =
      ends_from (walk side (text ++ prefix)) byte tokens (sym (walk-append (text ++ prefix) (byte ∷ [])) ∙ last) in
      ap (lines_from side place text) (split_at bytes at inside)
      ∙ lines_go_on place text prefix (byte ∷ drop (at + 1) bytes) going (omega arith) (omega arith)
      ∙ line_ends side (place + length prefix) (text ++ prefix) byte (drop (at + 1) bytes) tokens (omega arith)
      (omega (arith, length-append (text ++ prefix) (byte ∷ []), length-append text prefix))
      (form_is ((text ++ prefix) ++ byte ∷ []) (Ended tokens) last)
      ∙ ap (λ (p : ℕ). with_line tokens p (lines_from side (place + length prefix + 1) [] (drop (at + 1) bytes)))
      (omega arith)
      ∙ ap (λ (p : ℕ). with_line tokens (place + count - 1) (lines_from side p [] (drop (at + 1) bytes))) (omega arith)
      ∙ ap (λ (n : ℕ). with_line tokens (place + count - 1) (lines_from side (place + count) [] (drop n bytes)))
      (sym back)

  -- a line that is at fault
  pub lines_unfit : (place : ℕ) (text bytes : List ℕ) (at : ℕ) → IsUnfitAt side text bytes at
      → length text + at ≤ LONGEST_LINE
      → place + at ≤ LONGEST_STREAM → FailsAt side place text bytes (found.Malformed (place + at))
  lines_unfit place text bytes at unfit short early =
      let inside = unfit.within in
      let prefix : List ℕ = take at bytes in
      let byte : ℕ = get_or bytes at 0 in
      let prefix_length : length prefix ≡ at = length-take-le at bytes (omega arith) in
      let regrouped : text ++ take (at + 1) bytes ≡ (text ++ prefix) ++ byte ∷ [] =
      ap (λ (t : List ℕ). text ++ t) (take_more bytes at 0 inside) ∙ sym (append_assoc text prefix (byte ∷ [])) in
      let last : walk side ((text ++ prefix) ++ byte ∷ []) ≡ Stuck = sym (ap (walk side) regrouped) ∙ unfit.stuck in
      record {
        rest = text ++ prefix;
        split = ap (lines_from side place text) (split_at bytes at inside)
            ∙ lines_go_on place text prefix (byte ∷ drop (at + 1) bytes) unfit.going (omega arith) (omega arith)
            ∙ line_unfit side (place + length prefix) (text ++ prefix) byte (drop (at + 1) bytes)
            (form_is ((text ++ prefix) ++ byte ∷ []) Stuck last)
            ∙ ap (λ (p : ℕ). stopped_in (text ++ prefix) (Some (Malformed p))) (omega arith);
      }

  -- ---- what the lexer keeps

  -- the start of a window
  pub begun_start : (text : List ℕ) (window : List ℕ) (starts : List ℕ) (lexer : Lexer)
      → IsBegun side text starts lexer
      → IsBegun side (text ++ take 0 window) starts lexer
  begun_start text window starts lexer begun =
      subst (λ (t : List ℕ). IsBegun side t starts lexer) (sym (append-nil text)) begun

  leads : (bytes more : List ℕ) (starts : List ℕ) (lexer after : Lexer) (ended : Option ℕ)
      → IsBegun side bytes starts lexer
      → ((tokens : List Token)
      → onward side (Going tokens (mode_of lexer bytes)) more
      ≡ Going (tokens ++ tokens_ended (bytes ++ more) ended) (mode_of after (bytes ++ more)))
      → IsLexer after (bytes ++ more) → AreTokens (bytes ++ more) (option_to_list ended)
      → IsBegun side (bytes ++ more) (starts ++ option_to_list ended) after
  leads bytes more starts lexer after ended begun goes sound whole = record {
    walked = walk-append bytes more ∙ ap (λ (s : LexerState). onward side s more) begun.walked
        ∙ goes (tokens_of bytes starts)
        ∙ ap (λ (t : List Token). Going (t ++ tokens_ended (bytes ++ more) ended) (mode_of after (bytes ++ more)))
        (sym (tokens_stay bytes more starts begun.whole))
        ∙ ap (λ (t : List Token). Going t (mode_of after (bytes ++ more)))
        (sym (tokens_of-append (bytes ++ more) starts (option_to_list ended)));
    whole = are_tokens-append (bytes ++ more) starts (option_to_list ended)
        (are_tokens_more bytes more starts begun.whole) whole;
    sound = sound;
  }

  -- a step further through a window
  pub begun_further : (text window : List ℕ) (at count : ℕ) (starts : List ℕ) (lexer after : Lexer)
      (ended : Option ℕ)
      → IsBegun side (text ++ take at window) starts lexer
      → LeadsOn side count ended after lexer (text ++ take at window) (drop at window)
      → IsBegun side (text ++ take (at + count) window) (starts ++ option_to_list ended) after
  begun_further text window at count starts lexer after ended begun goes =
      let bytes : List ℕ = text ++ take at window in
      let more : List ℕ = take count (drop at window) in
      let regrouped : bytes ++ more ≡ text ++ take (at + count) window =
      append_assoc text (take at window) more ∙ ap (λ (t : List ℕ). text ++ t) (sym (take-add at count window)) in
      subst (λ (t : List ℕ). IsBegun side t (starts ++ option_to_list ended) after) regrouped
      (leads bytes more starts lexer after ended begun goes.onward_is goes.sound goes.whole)

  pub ends_in : (text window : List ℕ) (at : ℕ) (starts : List ℕ) (lexer : Lexer) (ended : Option ℕ)
      → at < length window → IsBegun side (text ++ take at window) starts lexer
      → EndsLine side ended lexer (text ++ take at window) (drop at window)
      → EndsIn side text window (starts ++ option_to_list ended) (at + 1)
  ends_in text window at starts lexer ended inside begun ends =
      let bytes : List ℕ = text ++ take at window in
      let more : List ℕ = take 1 (drop at window) in
      let regrouped : bytes ++ more ≡ text ++ take (at + 1) window =
      append_assoc text (take at window) more ∙ ap (λ (t : List ℕ). text ++ t) (sym (take-add at 1 window)) in
      let bytes_length : length bytes ≡ length text + at =
      length-append text (take at window)
      ∙ ap (λ (n : ℕ). length text + n) (length-take-le at window (omega arith)) in
      let grown : walk side (bytes ++ more) ≡ Ended (tokens_of (bytes ++ more) (starts ++ option_to_list ended)) =
      walk-append bytes more ∙ ap (λ (s : LexerState). onward side s more) begun.walked
      ∙ ends.onward_is (tokens_of bytes starts)
      ∙ ap (λ (t : List Token). Ended (t ++ tokens_ended (bytes ++ more) ended))
      (sym (tokens_stay bytes more starts begun.whole))
      ∙ ap Ended (sym (tokens_of-append (bytes ++ more) starts (option_to_list ended))) in
      record {
        some = omega arith;
        within = omega arith;
        ended = subst
            (λ (t : List ℕ). walk side t ≡ Ended (tokens_of t (starts ++ option_to_list ended))) regrouped grown;
        whole = subst (λ (t : List ℕ). AreTokens t (starts ++ option_to_list ended)) regrouped
            (are_tokens-append (bytes ++ more) starts (option_to_list ended)
            (are_tokens_more bytes more starts begun.whole) ends.whole);
      }

  pub begun_goes : (bytes : List ℕ) (starts : List ℕ) (lexer : Lexer) → IsBegun side bytes starts lexer
      → IsGoing (walk side bytes)
  begun_goes bytes starts lexer begun = subst IsGoing (sym begun.walked) tt

  pub unfit_in : (text window : List ℕ) (at : ℕ) (starts : List ℕ) (lexer : Lexer) → at < length window
      → IsBegun side (text ++ take at window) starts lexer
      → Does side step.Unfit lexer (text ++ take at window) (drop at window)
      → IsUnfitAt side text window at
  unfit_in text window at starts lexer inside begun stuck =
      let bytes : List ℕ = text ++ take at window in
      let more : List ℕ = take 1 (drop at window) in
      let regrouped : bytes ++ more ≡ text ++ take (at + 1) window =
      append_assoc text (take at window) more ∙ ap (λ (t : List ℕ). text ++ t) (sym (take-add at 1 window)) in
      record {
        within = inside;
        going = begun_goes bytes starts lexer begun;
        stuck = sym (ap (walk side) regrouped) ∙ walk-append bytes more
            ∙ ap (λ (s : LexerState). onward side s more) begun.walked
            ∙ stuck (tokens_of bytes starts);
      }

  -- ---- the byte after a window that is full

  next_fits : (s : Step) (text rest : List ℕ) (byte : ℕ) (starts : List ℕ) (lexer : Lexer) → (s ≡ step.Unfit → ⊥)
      → IsBegun side text starts lexer → Does side s lexer (text ++ take 0 (byte ∷ rest)) (byte ∷ rest)
      → Fits (line_form side (text ++ byte ∷ []))
  next_fits (step.Goes count ended after) text rest byte starts lexer fit begun goes =
      let more : ℕ = count - 1 in
      let some = goes.some in
      let all : 0 + count ≡ suc more = omega arith in
      let further =
      begun_further text (byte ∷ rest) 0 count starts lexer after ended
      (begun_start text (byte ∷ rest) starts lexer begun) goes in
      let going : IsGoing (walk side (text ++ take (suc more) (byte ∷ rest))) =
      subst (λ (n : ℕ). IsGoing (walk side (text ++ take n (byte ∷ rest)))) all (begun_goes _ _ _ further) in
      fits_by (line_form side (text ++ byte ∷ [])) Prefix
      (form_goes_on (text ++ byte ∷ []) (going_first text byte (take more rest) going)) tt
  next_fits (step.Ends ended) text rest byte starts lexer fit begun ends =
      let whole =
      ends_in text (byte ∷ rest) 0 starts lexer ended (omega arith)
      (begun_start text (byte ∷ rest) starts lexer begun) ends in
      fits_by (line_form side (text ++ byte ∷ []))
      (Whole (tokens_of (text ++ byte ∷ []) (starts ++ option_to_list ended)))
      (form_is (text ++ byte ∷ []) (Ended (tokens_of (text ++ byte ∷ []) (starts ++ option_to_list ended))) whole.ended)
      tt
  next_fits step.Unfit text rest byte starts lexer fit begun stuck = absurd (fit refl)

  pub fault_unfit : (place : ℕ) (text rest : List ℕ) (starts : List ℕ) (lexer : Lexer) → 0 < length rest
      → IsBegun side text starts lexer
      → Does side step.Unfit lexer (text ++ take 0 (take 1 rest)) (drop 0 (take 1 rest))
      → FailsAt side place text rest (found.Malformed place)
  fault_unfit place text [] starts lexer some begun stuck = absurd (omega arith)
  fault_unfit place text (byte ∷ rest) starts lexer some begun stuck =
      let unfit =
      unfit_in text (byte ∷ []) 0 starts lexer (omega arith) (begun_start text (byte ∷ []) starts lexer begun) stuck in
      record {
        rest = text;
        split =
            line_unfit side place text byte rest (form_is (text ++ byte ∷ []) Stuck unfit.stuck);
      }

  pub fault_late : (place : ℕ) (text rest : List ℕ) → 0 < length rest → LONGEST_STREAM ≤ place
      → FailsAt side place text rest (found.Malformed place)
  fault_late place text [] some late = absurd (omega arith)
  fault_late place text (byte ∷ rest) some late =
      record { rest = text; split = line_late side place text byte rest late }

  pub fault_long : (s : Step) (place : ℕ) (text rest : List ℕ) (starts : List ℕ) (lexer : Lexer) → 0 < length rest
      → (s ≡ step.Unfit → ⊥) → IsBegun side text starts lexer
      → Does side s lexer (text ++ take 0 (take 1 rest)) (drop 0 (take 1 rest))
      → place < LONGEST_STREAM → LONGEST_LINE ≤ length text
      → FailsAt side place text rest (found.LineTooLong place)
  fault_long s place text [] starts lexer some fit begun does early long = absurd (omega arith)
  fault_long s place text (byte ∷ rest) starts lexer some fit begun does early long =
      record {
        rest = text;
        split = line_too_long side place text byte rest early (omega (arith, length-append text (byte ∷ [])))
            (next_fits s text [] byte starts lexer fit begun does);
      }

  -- ---- a piece, of which a window was read

  line_goes : (line : BegunLine) → IsLine side line → IsGoing (walk side line.text.items)
  line_goes line kept = begun_goes line.text.items line.starts.items line.lexer kept.begun

  pub scans_on : (place : ℕ) (old new : BegunLine) (window piece : List ℕ) → IsWindow window piece
      → length window ≡ length piece → place + length window ≤ LONGEST_STREAM → Grows old new window × IsLine side new
      → ScansOn side place old piece new
  scans_on place old new window piece w same early taken =
      let all : window ≡ piece = whole_window window piece w same in
      let grows : Grows old new piece = subst (Grows old new) all taken.0 in
      let going : IsGoing (walk side (old.text.items ++ piece)) =
      subst (λ (t : List ℕ). IsGoing (walk side t)) grows.text (line_goes new taken.1) in
      let short : length old.text.items + length piece ≤ LONGEST_LINE =
      omega (arith, taken.1.short, ap length grows.text, length-append old.text.items piece) in
      record {
        grows = grows;
        line = taken.1;
        early = omega arith;
        split =
            ap (lines_from side place old.text.items) (sym (append-nil piece))
            ∙ lines_go_on place old.text.items piece [] going short (omega arith)
            ∙ ap (λ (t : List ℕ). stopped_in t None) (sym grows.text);
      }

  pub scans_past : (place : ℕ) (old new : BegunLine) (window piece : List ℕ) (f : CodeFault) → IsWindow window piece
      → place + length window ≤ LONGEST_STREAM → Grows old new window × IsLine side new
      → FailsAt side (place + length window) new.text.items (drop (length window) piece) f
      → FailsAt side place old.text.items piece f
  scans_past place old new window piece f w early taken fails =
      let grows = taken.0 in
      let going : IsGoing (walk side (old.text.items ++ window)) =
      subst (λ (t : List ℕ). IsGoing (walk side t)) grows.text (line_goes new taken.1) in
      let short : length old.text.items + length window ≤ LONGEST_LINE =
      omega (arith, taken.1.short, ap length grows.text, length-append old.text.items window) in
      record {
        rest = fails.rest;
        split = ap (lines_from side place old.text.items) (split_window window piece w)
            ∙ lines_go_on place old.text.items window (drop (length window) piece) going short early
            ∙ ap (λ (t : List ℕ). lines_from side (place + length window) t (drop (length window) piece))
            (sym grows.text)
            ∙ fails.split;
      }

  pub scans_to : (count place : ℕ) (old new : BegunLine) (window piece : List ℕ) → IsWindow window piece
      → place + length window ≤ LONGEST_STREAM → length old.text.items + length window ≤ LONGEST_LINE
      → Grows old new (take count window) × EndsIn side old.text.items window new.starts.items count
      → ScansTo side count place old piece new
  scans_to count place old new window piece w early short taken =
      let within = taken.1.within in
      let prefix : take count window ≡ take count piece = window_prefix window piece count w within in
      let grows : Grows old new (take count piece) = subst (Grows old new) prefix taken.0 in
      let ended : walk side (old.text.items ++ take count piece)
      ≡ Ended (tokens_of (old.text.items ++ take count piece) new.starts.items) =
      subst (λ (t : List ℕ). walk side (old.text.items ++ t) ≡ Ended (tokens_of (old.text.items ++ t) new.starts.items))
      prefix taken.1.ended in
      let inside : count ≤ length piece = omega (arith, w.within) in
      record {
        grows = grows;
        some = taken.1.some;
        within = inside;
        early = omega arith;
        whole = subst (λ (t : List ℕ). AreTokens t new.starts.items)
            (ap (λ (t : List ℕ). old.text.items ++ t) prefix ∙ sym grows.text) taken.1.whole;
        split =
            lines_end place old.text.items piece count (tokens_of (old.text.items ++ take count piece) new.starts.items)
            taken.1.some inside ended (omega arith) (omega arith)
            ∙ ap (λ (t : List ℕ). with_line (tokens_of t new.starts.items) (place + count - 1)
            (lines_from side (place + count) [] (drop count piece))) (sym grows.text);
      }

  pub scans_unfit : (at place : ℕ) (old : BegunLine) (window piece : List ℕ) → IsWindow window piece
      → place + length window ≤ LONGEST_STREAM → length old.text.items + length window ≤ LONGEST_LINE
      → IsUnfitAt side old.text.items window at → FailsAt side place old.text.items piece (found.Malformed (place + at))
  scans_unfit at place old window piece w early short unfit =
      let within = unfit.within in
      let unfit_piece : IsUnfitAt side old.text.items piece at = record {
        within = omega (arith, w.within);
        going = subst (λ (t : List ℕ). IsGoing (walk side (old.text.items ++ t)))
            (window_prefix window piece at w (omega arith)) unfit.going;
        stuck =
            sym (ap (λ (t : List ℕ). walk side (old.text.items ++ t))
            (window_prefix window piece (at + 1) w (omega arith)))
            ∙ unfit.stuck;
      } in
      lines_unfit place old.text.items piece at unfit_piece (omega arith) (omega arith)

  pub same_line : (old new : BegunLine) → IsSame old new → IsLine side old → IsLine side new
  same_line old new same line = record {
    begun = subst (λ (t : List ℕ). IsBegun side t new.starts.items new.lexer) (sym same.text)
        (subst (λ (s : List ℕ). IsBegun side old.text.items s new.lexer) (sym same.starts)
        (subst (λ (l : Lexer). IsBegun side old.text.items old.starts.items l) (sym same.lexer) line.begun));
    short = omega (arith, line.short, ap length same.text);
  }
