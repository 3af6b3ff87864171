-- A line read byte by byte is the line that the grammar reads.
use Rattle.std.proofs.Common.{◌≡◌, ℕ, zero, suc, ◌+◌, ◌<◌, ◌≤◌, Bool, true, false, ◌&&◌, eqb, leb, List, [], ◌∷◌, ◌++◌}
use Rattle.std.proofs.Common.{length, take, drop, refl, sym, ap, subst, ◌∙◌, inl, inr, arith, append_assoc}
use Rattle.std.specs.List.{take_while}
use Rattle.std.proofs.lemmas.Bool.{cases_Bool, cases_lt, both_ways, and_right, and_from, eqb-true, le-leb}
use Rattle.std.proofs.lemmas.Bool.{lt-leb, lt-ltb, le-ltb}
use Rattle.std.proofs.lemmas.Bool.Decides.{nat_tests}
use Rattle.std.proofs.lemmas.List.{append-nil, length-append, length-drop}
use Rattle.kom_types.specs.declared.side.Side.{Side}
use Rattle.kom_types.specs.declared.side.Side.TheVariants as sides
use Rattle.kom_types.specs.declared.byte_kind.ByteKind.{ByteKind}
use Rattle.kom_types.specs.declared.byte_kind.ByteKind.TheVariants as kind
use Rattle.kom_types.specs.ByteKind.{is_blank, is_digit, kind_of}
use Rattle.kom_types.specs.Token.{Token, Digits, Text, Open, Close, Star, Signed, number_of, is_integer}
use Rattle.kom_types.specs.Grammar.{Form, Prefix, Whole, Unfit, Cut, drop_while, string_at, run_at, token_at}
use Rattle.kom_types.specs.Grammar.{signed_run_at, signed_at}
use Rattle.kom_types.specs.Grammar.{may_follow, end_of_line, with_token, tokens_at, line_form}
use Rattle.kom_framing.specs.Lexing.{Mode, Between, Run, Past, AfterSign, Move, Goes, Ends, Unfits, string_from, move}
use Rattle.kom_framing.specs.Lexing.{move_past, move_to_sign, move_past_sign, move_after_sign}
use Rattle.kom_framing.specs.Lexing.{move_between, move_in_run, LexerState, Going, Ended, Stuck, lexer_after, next}
use Rattle.kom_framing.specs.Lexing.{onward}
use Rattle.kom_framing.specs.Lexing.{walk}
use Rattle.kom_framing.proofs.Looks.{look, blank, feed, digit, hollerith, open_brace, close_brace, star, sign_byte}
use Rattle.kom_framing.proofs.Looks.{other}
use Rattle.kom_framing.proofs.Looks.{follows}
use Rattle.kom_framing.proofs.Lists.{drop_while-yes, drop_while-no, HeadFails, head_fails, length-drop_while}
use Rattle.kom_framing.proofs.Runs.{choice, run_prefix, run_cut, run_string, run_long, run_from, run_from-ended}
use Rattle.kom_framing.proofs.Runs.{run_from-digit}

-- what a state says of the bytes that led to it
abbrev pub form_of : LexerState → Form (List Token)
form_of (Going tokens mode) = Prefix
form_of (Ended tokens) = Whole tokens
form_of Stuck = Unfit

-- the state with these tokens before its own
abbrev prefixed : List Token → LexerState → LexerState
prefixed prefix (Going tokens mode) = Going (prefix ++ tokens) mode
prefixed prefix (Ended tokens) = Ended (prefix ++ tokens)
prefixed prefix Stuck = Stuck

reached-prefixed : (prefix tokens : List Token) (moved : Move)
    → lexer_after (prefix ++ tokens) moved ≡ prefixed prefix (lexer_after tokens moved)
reached-prefixed prefix tokens (Goes more mode) = ap (λ all. Going all mode) (append_assoc prefix tokens more)
reached-prefixed prefix tokens (Ends more) = ap Ended (append_assoc prefix tokens more)
reached-prefixed prefix tokens Unfits = refl

module _ (side : Side) where
  next-prefixed : (prefix : List Token) (state : LexerState) (byte : ℕ)
      → next side (prefixed prefix state) byte ≡ prefixed prefix (next side state byte)
  next-prefixed prefix (Going tokens mode) byte = reached-prefixed prefix tokens (move side mode byte)
  next-prefixed prefix (Ended tokens) byte = refl
  next-prefixed prefix Stuck byte = refl

  onward-prefixed : (prefix : List Token) (state : LexerState) (bytes : List ℕ)
      → onward side (prefixed prefix state) bytes ≡ prefixed prefix (onward side state bytes)
  onward-prefixed prefix state [] = refl
  onward-prefixed prefix state (byte ∷ bytes) =
      ap (λ s. onward side s bytes) (next-prefixed prefix state byte)
      ∙ onward-prefixed prefix (next side state byte) bytes

  pub onward-stuck : (bytes : List ℕ) → onward side Stuck bytes ≡ Stuck
  onward-stuck [] = refl
  onward-stuck (byte ∷ bytes) = onward-stuck bytes

  form_of-prefixed : (token : Token) (state : LexerState)
      → form_of (prefixed (token ∷ []) state) ≡ with_token token (form_of state)
  form_of-prefixed token (Going tokens mode) = refl
  form_of-prefixed token (Ended tokens) = refl
  form_of-prefixed token Stuck = refl

  -- the line from here on, with this token before it
  with_one : (token : Token) (mode : Mode) (bytes : List ℕ)
      → form_of (onward side (Going (token ∷ []) mode) bytes)
      ≡ with_token token (form_of (onward side (Going [] mode) bytes))
  with_one token mode bytes =
      ap form_of (onward-prefixed (token ∷ []) (Going [] mode) bytes)
      ∙ form_of-prefixed token (onward side (Going [] mode) bytes)

  -- what the grammar makes of a line from here on
  abbrev line_after : List ℕ → Form (List Token)
  line_after bytes = form_of (onward side (Going [] Between) bytes)

  abbrev cut_then : (List ℕ → Form (List Token)) → Form Cut → Form (List Token)
  cut_then after Prefix = Prefix
  cut_then after (Whole cut) = choice (may_follow cut.tail) (with_token cut.token (after cut.tail)) Unfit
  cut_then after Unfit = Unfit

  stuck_form : (bytes : List ℕ) → form_of (onward side Stuck bytes) ≡ Unfit
  stuck_form bytes = ap form_of (onward-stuck bytes)

  -- ---- the first byte, by its kind

  between_kind : (byte : ℕ) (bytes : List ℕ) (sort : ByteKind) → kind_of byte ≡ sort
      → onward side (Going [] Between) (byte ∷ bytes) ≡ onward side (lexer_after [] (move_between side byte sort)) bytes
  between_kind byte bytes sort e =
      ap (λ (k : ByteKind). onward side (lexer_after [] (move_between side byte k)) bytes) e

  past_kind : (byte : ℕ) (bytes : List ℕ) (sort : ByteKind) → kind_of byte ≡ sort
      → onward side (Going [] Past) (byte ∷ bytes) ≡ onward side (lexer_after [] (move_past [] sort)) bytes
  past_kind byte bytes sort e = ap (λ (k : ByteKind). onward side (lexer_after [] (move_past [] k)) bytes) e

  run_kind : (digits : List ℕ) (byte : ℕ) (bytes : List ℕ) (sort : ByteKind) → kind_of byte ≡ sort
      → onward side (Going [] (Run digits)) (byte ∷ bytes)
      ≡ onward side (lexer_after [] (move_in_run digits byte sort)) bytes
  run_kind digits byte bytes sort e =
      ap (λ (k : ByteKind). onward side (lexer_after [] (move_in_run digits byte k)) bytes) e

  -- ---- blanks

  not_skipped : (byte : ℕ) (bytes : List ℕ) → is_blank byte ≡ false
      → onward side (Going [] Between) (byte ∷ bytes)
      ≡ onward side (Going [] Between) (drop_while is_blank (byte ∷ bytes))
  not_skipped byte bytes e = sym (ap (onward side (Going [] Between)) (drop_while-no is_blank byte bytes e))

  blanks_skipped : (bytes : List ℕ)
      → onward side (Going [] Between) bytes ≡ onward side (Going [] Between) (drop_while is_blank bytes)
  blanks_skipped [] = refl
  blanks_skipped (byte ∷ bytes) = elim (look byte) [
    | blank l ↦ between_kind byte bytes kind.Blank l.kind_is ∙ blanks_skipped bytes
        ∙ sym (ap (onward side (Going [] Between)) (drop_while-yes is_blank byte bytes l.blank_is))
    | feed l ↦ not_skipped byte bytes l.blank_is
    | digit l ↦ not_skipped byte bytes l.blank_is
    | hollerith l ↦ not_skipped byte bytes l.blank_is
    | open_brace l ↦ not_skipped byte bytes l.blank_is
    | close_brace l ↦ not_skipped byte bytes l.blank_is
    | star l ↦ not_skipped byte bytes l.blank_is
    | sign_byte l ↦ not_skipped byte bytes l.blank_is
    | other l ↦ not_skipped byte bytes l.blank_is
  ]

  -- ---- after a token

  -- what the grammar makes of a line directly after a token
  abbrev line_past : List ℕ → Form (List Token)
  line_past bytes = choice (may_follow bytes) (line_after bytes) Unfit

  may_go_on : (byte : ℕ) (bytes : List ℕ) (sort : ByteKind) → kind_of byte ≡ sort → may_follow (byte ∷ bytes) ≡ true
      → move_past [] sort ≡ move_between side byte sort
      → form_of (onward side (Going [] Past) (byte ∷ bytes)) ≡ line_past (byte ∷ bytes)
  may_go_on byte bytes sort e may same =
      ap form_of (past_kind byte bytes sort e) ∙ ap (λ (m : Move). form_of (onward side (lexer_after [] m) bytes)) same
      ∙ sym (ap form_of (between_kind byte bytes sort e))
      ∙ sym (ap (λ (b : Bool). choice b (line_after (byte ∷ bytes)) Unfit) may)

  may_not : (byte : ℕ) (bytes : List ℕ) (sort : ByteKind) → kind_of byte ≡ sort → may_follow (byte ∷ bytes) ≡ false
      → move_past [] sort ≡ Unfits → form_of (onward side (Going [] Past) (byte ∷ bytes)) ≡ line_past (byte ∷ bytes)
  may_not byte bytes sort e may same =
      ap form_of (past_kind byte bytes sort e) ∙ ap (λ (m : Move). form_of (onward side (lexer_after [] m) bytes)) same
      ∙ stuck_form bytes
      ∙ sym (ap (λ (b : Bool). choice b (line_after (byte ∷ bytes)) Unfit) may)

  past_token : (bytes : List ℕ) → form_of (onward side (Going [] Past) bytes) ≡ line_past bytes
  past_token [] = refl
  past_token (byte ∷ bytes) = elim (look byte) [
    | blank l ↦ may_go_on byte bytes kind.Blank l.kind_is (follows byte bytes true false l.blank_is l.feed_is) refl
    | feed l ↦ may_go_on byte bytes kind.LineFeed l.kind_is (follows byte bytes false true l.blank_is l.feed_is) refl
    | digit l ↦ may_not byte bytes kind.Digit l.kind_is (follows byte bytes false false l.blank_is l.feed_is) refl
    | hollerith l ↦ may_not byte bytes kind.Hollerith l.kind_is
        (follows byte bytes false false l.blank_is l.feed_is) refl
    | open_brace l ↦ may_not byte bytes kind.Open l.kind_is (follows byte bytes false false l.blank_is l.feed_is) refl
    | close_brace l ↦ may_not byte bytes kind.Close l.kind_is (follows byte bytes false false l.blank_is l.feed_is) refl
    | star l ↦ may_not byte bytes kind.Star l.kind_is (follows byte bytes false false l.blank_is l.feed_is) refl
    | sign_byte l ↦ may_not byte bytes kind.Sign l.kind_is (follows byte bytes false false l.blank_is l.feed_is) refl
    | other l ↦ may_not byte bytes kind.Other l.kind_is (follows byte bytes false false l.blank_is l.feed_is) refl
  ]

  with_token-cond : (token : Token) (b : Bool) (form : Form (List Token))
      → with_token token (choice b form Unfit) ≡ choice b (with_token token form) Unfit
  with_token-cond token true form = refl
  with_token-cond token false form = refl

  -- a token that has ended, and what is after it
  token_then : (token : Token) (bytes : List ℕ)
      → form_of (onward side (Going (token ∷ []) Past) bytes)
      ≡ cut_then line_after (Whole (record { token = token; tail = bytes }))
  token_then token bytes =
      with_one token Past bytes ∙ ap (with_token token) (past_token bytes)
      ∙ with_token-cond token (may_follow bytes) (line_after bytes)

  -- ---- a string

  leb-suc : (a b : ℕ) → leb (suc a) (suc b) ≡ leb a b
  leb-suc a b = grind (arith, nat_tests)

  -- the string that has so many bytes to come, after these
  abbrev string_cut : ℕ → List ℕ → List ℕ → Form Cut
  string_cut count text bytes = Whole (record { token = Text (text ++ take count bytes); tail = drop count bytes })

  string_then : (count : ℕ) (text bytes : List ℕ)
      → form_of (onward side (lexer_after [] (string_from count text)) bytes)
      ≡ choice (leb count (length bytes)) (cut_then line_after (string_cut count text bytes)) Prefix
  string_then zero text bytes =
      token_then (Text text) bytes
      ∙ sym (ap (λ (t : List ℕ). cut_then line_after (Whole (record { token = Text t; tail = bytes })))
      (append-nil text))
      ∙ sym (ap (λ (b : Bool). choice b (cut_then line_after (string_cut zero text bytes)) Prefix)
      (le-leb zero (length bytes) (omega arith)))
  string_then (suc count) text [] =
      sym (ap (λ (b : Bool). choice b (cut_then line_after (string_cut (suc count) text [])) Prefix)
      (lt-leb (suc count) zero (omega arith)))
  string_then (suc count) text (byte ∷ bytes) =
      string_then count (text ++ byte ∷ []) bytes
      ∙ ap (λ (t : List ℕ). choice (leb count (length bytes))
      (cut_then line_after (Whole (record { token = Text t; tail = drop count bytes }))) Prefix)
      (append_assoc text (byte ∷ []) (take count bytes))
      ∙ sym (ap (λ (b : Bool). choice b (cut_then line_after (string_cut (suc count) text (byte ∷ bytes))) Prefix)
      (leb-suc count (length bytes)))

  cut_then-cond : (b : Bool) (cut : Cut)
      → cut_then line_after (choice b (Whole cut) Prefix) ≡ choice b (cut_then line_after (Whole cut)) Prefix
  cut_then-cond true cut = refl
  cut_then-cond false cut = refl

  string_line : (count : ℕ) (bytes : List ℕ)
      → form_of (onward side (lexer_after [] (string_from count [])) bytes)
      ≡ cut_then line_after (string_at count bytes)
  string_line count bytes =
      string_then count [] bytes
      ∙ sym (cut_then-cond (leb count (length bytes))
      (record { token = Text (take count bytes); tail = drop count bytes }))

  -- ---- a run of digits

  run_ends : (digits : List ℕ) (byte : ℕ) (bytes : List ℕ) (sort : ByteKind) → kind_of byte ≡ sort
      → lexer_after [] (move_in_run digits byte sort) ≡ lexer_after (Digits digits ∷ []) (move_past [] sort)
      → eqb byte 72 ≡ false
      → is_digit byte ≡ false → length digits ≤ 16
      → form_of (onward side (Going [] (Run digits)) (byte ∷ bytes))
      ≡ cut_then line_after (run_from run_at digits (byte ∷ bytes))
  run_ends digits byte bytes sort e same h d short =
      ap form_of (run_kind digits byte bytes sort e)
      ∙ ap (λ (s : LexerState). form_of (onward side s bytes)) same
      ∙ sym (ap (λ (k : ByteKind). form_of (onward side (lexer_after (Digits digits ∷ []) (move_past [] k)) bytes)) e)
      ∙ token_then (Digits digits) (byte ∷ bytes)
      ∙ sym (ap (cut_then line_after) (run_from-ended run_at digits byte bytes d ∙ run_cut digits byte bytes h short))

  run_string_line : (digits : List ℕ) (byte : ℕ) (bytes : List ℕ) → kind_of byte ≡ kind.Hollerith → eqb byte 72 ≡ true
      → is_digit byte ≡ false
      → form_of (onward side (Going [] (Run digits)) (byte ∷ bytes))
      ≡ cut_then line_after (run_from run_at digits (byte ∷ bytes))
  run_string_line digits byte bytes e h d =
      let right =
      ap (cut_then line_after) (run_from-ended run_at digits byte bytes d ∙ run_string digits byte bytes h) in
      let left = ap form_of (run_kind digits byte bytes kind.Hollerith e) in
      elim (cases_Bool (is_integer digits)) [
        | inl found ↦ left
            ∙ ap (λ (b : Bool). form_of
            (onward side (lexer_after [] (choice b (string_from (number_of digits) []) Unfits)) bytes))
            found
            ∙ string_line (number_of digits) bytes
            ∙ sym (ap (λ (b : Bool). cut_then line_after (choice b (string_at (number_of digits) bytes) Unfit)) found)
            ∙ sym right
        | inr none ↦ left
            ∙ ap (λ (b : Bool). form_of
            (onward side (lexer_after [] (choice b (string_from (number_of digits) []) Unfits)) bytes))
            none
            ∙ stuck_form bytes
            ∙ sym (ap (λ (b : Bool). cut_then line_after (choice b (string_at (number_of digits) bytes) Unfit)) none)
            ∙ sym right
      ]

  run_then : (digits bytes : List ℕ) → length digits ≤ 16
      → form_of (onward side (Going [] (Run digits)) bytes) ≡ cut_then line_after (run_from run_at digits bytes)
  run_then digits [] short =
      sym (ap (cut_then line_after) (ap (λ (d : List ℕ). run_at d []) (append-nil digits) ∙ run_prefix digits short))
  run_then digits (byte ∷ bytes) short = elim (look byte) [
    | blank l ↦ run_ends digits byte bytes kind.Blank l.kind_is refl l.hollerith_is l.digit_is short
    | feed l ↦ run_ends digits byte bytes kind.LineFeed l.kind_is refl l.hollerith_is l.digit_is short
    | digit l ↦ elim (cases_lt (length digits) 16) [
      | inl lt ↦ ap form_of (run_kind digits byte bytes kind.Digit l.kind_is)
          ∙ ap (λ (b : Bool). form_of
          (onward side (lexer_after [] (choice b (Goes [] (Run (digits ++ byte ∷ []))) Unfits)) bytes))
          (lt-ltb (length digits) 16 lt)
          ∙ run_then (digits ++ byte ∷ []) bytes (omega (arith, length-append digits (byte ∷ [])))
          ∙ sym (ap (cut_then line_after) (run_from-digit run_at digits byte bytes l.digit_is))
      | inr le ↦ ap form_of (run_kind digits byte bytes kind.Digit l.kind_is)
          ∙ ap (λ (b : Bool). form_of
          (onward side (lexer_after [] (choice b (Goes [] (Run (digits ++ byte ∷ []))) Unfits)) bytes))
          (le-ltb (length digits) 16 le)
          ∙ stuck_form bytes
          ∙ sym (ap (cut_then line_after) (run_from-digit run_at digits byte bytes l.digit_is
          ∙ run_long ((digits ++ byte ∷ []) ++ take_while is_digit bytes) (drop_while is_digit bytes)
          (omega
          (arith, length-append (digits ++ byte ∷ []) (take_while is_digit bytes), length-append digits (byte ∷ [])))))
    ]
    | hollerith l ↦ run_string_line digits byte bytes l.kind_is l.hollerith_is l.digit_is
    | open_brace l ↦ run_ends digits byte bytes kind.Open l.kind_is refl l.hollerith_is l.digit_is short
    | close_brace l ↦ run_ends digits byte bytes kind.Close l.kind_is refl l.hollerith_is l.digit_is short
    | star l ↦ run_ends digits byte bytes kind.Star l.kind_is refl l.hollerith_is l.digit_is short
    | sign_byte l ↦ run_ends digits byte bytes kind.Sign l.kind_is refl l.hollerith_is l.digit_is short
    | other l ↦ run_ends digits byte bytes kind.Other l.kind_is refl l.hollerith_is l.digit_is short
  ]

  -- ---- a sign and its run

  signed_prefix : (mark : ℕ) (digits : List ℕ) → length digits ≤ 16 → signed_run_at mark digits [] ≡ Prefix
  signed_prefix mark digits short = rw (le-leb (length digits) 16 short, signed_run_at) refl

  signed_cut : (mark : ℕ) (digits : List ℕ) (byte : ℕ) (bytes : List ℕ) → 1 ≤ length digits → length digits ≤ 16
      → signed_run_at mark digits (byte ∷ bytes) ≡ Whole (record { token = Signed mark digits; tail = byte ∷ bytes })
  signed_cut mark digits byte bytes some short =
      ap (λ (b : Bool). choice b (Whole (record { token = Signed mark digits; tail = byte ∷ bytes })) Unfit)
      (and_from _ _ (le-leb 1 (length digits) some) (le-leb (length digits) 16 short))

  signed_long : (mark : ℕ) (digits rest : List ℕ) → 16 < length digits → signed_run_at mark digits rest ≡ Unfit
  signed_long mark digits [] long = rw (lt-leb (length digits) 16 long, signed_run_at) refl
  signed_long mark digits (byte ∷ rest) long =
      ap (λ (b : Bool). choice b (Whole (record { token = Signed mark digits; tail = byte ∷ rest })) Unfit)
      (and_right _ _ (lt-leb (length digits) 16 long))

  signed_kind : (mark : ℕ) (digits : List ℕ) (byte : ℕ) (bytes : List ℕ) (sort : ByteKind) → kind_of byte ≡ sort
      → onward side (Going [] (AfterSign mark digits)) (byte ∷ bytes)
      ≡ onward side (lexer_after [] (move_after_sign mark digits byte sort)) bytes
  signed_kind mark digits byte bytes sort e =
      ap (λ (k : ByteKind). onward side (lexer_after [] (move_after_sign mark digits byte k)) bytes) e

  past_reached : (token : Token) (sort : ByteKind)
      → lexer_after [] (move_past (token ∷ []) sort) ≡ lexer_after (token ∷ []) (move_past [] sort)
  past_reached token kind.Blank = refl
  past_reached token kind.LineFeed = refl
  past_reached token kind.Digit = refl
  past_reached token kind.Hollerith = refl
  past_reached token kind.Open = refl
  past_reached token kind.Close = refl
  past_reached token kind.Star = refl
  past_reached token kind.Sign = refl
  past_reached token kind.Other = refl

  signed_past : (mark : ℕ) (digits : List ℕ) (byte : ℕ) (bytes : List ℕ) (sort : ByteKind) → kind_of byte ≡ sort
      → length digits ≤ 16
      → form_of (onward side (lexer_after [] (move_past_sign mark digits sort)) bytes)
      ≡ cut_then line_after (signed_run_at mark digits (byte ∷ bytes))
  signed_past mark [] byte bytes sort e short = stuck_form bytes
  signed_past mark (first ∷ digits) byte bytes sort e short =
      let token : Token = Signed mark (first ∷ digits) in
      ap (λ (s : LexerState). form_of (onward side s bytes)) (past_reached token sort)
      ∙ sym (ap (λ (k : ByteKind). form_of (onward side (lexer_after (token ∷ []) (move_past [] k)) bytes)) e)
      ∙ token_then token (byte ∷ bytes)
      ∙ sym (ap (cut_then line_after) (signed_cut mark (first ∷ digits) byte bytes (omega arith) short))

  signed_ends : (mark : ℕ) (digits : List ℕ) (byte : ℕ) (bytes : List ℕ) (sort : ByteKind) → kind_of byte ≡ sort
      → move_after_sign mark digits byte sort ≡ move_past_sign mark digits sort → is_digit byte ≡ false
      → length digits ≤ 16
      → form_of (onward side (Going [] (AfterSign mark digits)) (byte ∷ bytes))
      ≡ cut_then line_after (run_from (signed_run_at mark) digits (byte ∷ bytes))
  signed_ends mark digits byte bytes sort e same d short =
      ap form_of (signed_kind mark digits byte bytes sort e)
      ∙ ap (λ (m : Move). form_of (onward side (lexer_after [] m) bytes)) same
      ∙ signed_past mark digits byte bytes sort e short
      ∙ sym (ap (cut_then line_after) (run_from-ended (signed_run_at mark) digits byte bytes d))

  signed_then : (mark : ℕ) (digits bytes : List ℕ) → length digits ≤ 16
      → form_of (onward side (Going [] (AfterSign mark digits)) bytes)
      ≡ cut_then line_after (run_from (signed_run_at mark) digits bytes)
  signed_then mark digits [] short =
      sym (ap (cut_then line_after)
      (ap (λ (d : List ℕ). signed_run_at mark d []) (append-nil digits) ∙ signed_prefix mark digits short))
  signed_then mark digits (byte ∷ bytes) short = elim (look byte) [
    | blank l ↦ signed_ends mark digits byte bytes kind.Blank l.kind_is refl l.digit_is short
    | feed l ↦ signed_ends mark digits byte bytes kind.LineFeed l.kind_is refl l.digit_is short
    | digit l ↦ elim (cases_lt (length digits) 16) [
      | inl lt ↦ ap form_of (signed_kind mark digits byte bytes kind.Digit l.kind_is)
          ∙ ap (λ (b : Bool). form_of
          (onward side (lexer_after [] (choice b (Goes [] (AfterSign mark (digits ++ byte ∷ []))) Unfits)) bytes))
          (lt-ltb (length digits) 16 lt)
          ∙ signed_then mark (digits ++ byte ∷ []) bytes (omega (arith, length-append digits (byte ∷ [])))
          ∙ sym (ap (cut_then line_after) (run_from-digit (signed_run_at mark) digits byte bytes l.digit_is))
      | inr le ↦ ap form_of (signed_kind mark digits byte bytes kind.Digit l.kind_is)
          ∙ ap (λ (b : Bool). form_of
          (onward side (lexer_after [] (choice b (Goes [] (AfterSign mark (digits ++ byte ∷ []))) Unfits)) bytes))
          (le-ltb (length digits) 16 le)
          ∙ stuck_form bytes
          ∙ sym (ap (cut_then line_after) (run_from-digit (signed_run_at mark) digits byte bytes l.digit_is
          ∙ signed_long mark ((digits ++ byte ∷ []) ++ take_while is_digit bytes) (drop_while is_digit bytes)
          (omega
          (arith, length-append (digits ++ byte ∷ []) (take_while is_digit bytes), length-append digits (byte ∷ [])))))
    ]
    | hollerith l ↦ signed_ends mark digits byte bytes kind.Hollerith l.kind_is refl l.digit_is short
    | open_brace l ↦ signed_ends mark digits byte bytes kind.Open l.kind_is refl l.digit_is short
    | close_brace l ↦ signed_ends mark digits byte bytes kind.Close l.kind_is refl l.digit_is short
    | star l ↦ signed_ends mark digits byte bytes kind.Star l.kind_is refl l.digit_is short
    | sign_byte l ↦ signed_ends mark digits byte bytes kind.Sign l.kind_is refl l.digit_is short
    | other l ↦ signed_ends mark digits byte bytes kind.Other l.kind_is refl l.digit_is short
  ]

  -- a sign where a token may begin
  signed_line : (mark : ℕ) (bytes : List ℕ)
      → form_of (onward side (lexer_after [] (move_to_sign side mark)) bytes)
      ≡ cut_then line_after (signed_at side mark bytes)
  signed_line mark bytes =
      elim side as (λ (s : Side). form_of (onward side (lexer_after [] (move_to_sign s mark)) bytes)
      ≡ cut_then line_after (signed_at s mark bytes)) [
        | sides.Client ↦ stuck_form bytes
        | sides.Server ↦ signed_then mark [] bytes (omega arith)
      ]

  -- ---- a line

  abbrev pub token_of_kind : ℕ → List ℕ → ByteKind → Form Cut
  token_of_kind byte bytes kind.Digit = run_at (byte ∷ take_while is_digit bytes) (drop_while is_digit bytes)
  token_of_kind byte bytes kind.Open = Whole (record { token = Open; tail = bytes })
  token_of_kind byte bytes kind.Close = Whole (record { token = Close; tail = bytes })
  token_of_kind byte bytes kind.Star = Whole (record { token = Star; tail = bytes })
  token_of_kind byte bytes kind.Sign = signed_at side byte bytes
  token_of_kind byte bytes kind.Blank = Unfit
  token_of_kind byte bytes kind.LineFeed = Unfit
  token_of_kind byte bytes kind.Hollerith = Unfit
  token_of_kind byte bytes kind.Other = Unfit

  pub token_kind : (byte : ℕ) (bytes : List ℕ) (sort : ByteKind) → kind_of byte ≡ sort
      → token_at side byte bytes ≡ token_of_kind byte bytes sort
  token_kind byte bytes sort e = ap (token_of_kind byte bytes) e

  token_line : (byte : ℕ) (bytes : List ℕ) → is_blank byte ≡ false → eqb byte 10 ≡ false
      → line_after (byte ∷ bytes) ≡ cut_then line_after (token_at side byte bytes)
  token_line byte bytes b f = elim (look byte) [
    | blank l ↦ absurd (both_ways _ b l.blank_is)
    | feed l ↦ absurd (both_ways _ f l.feed_is)
    | digit l ↦ ap form_of (between_kind byte bytes kind.Digit l.kind_is) ∙ run_then (byte ∷ []) bytes (omega arith)
        ∙ sym (ap (cut_then line_after) (token_kind byte bytes kind.Digit l.kind_is))
    | hollerith l ↦ ap form_of (between_kind byte bytes kind.Hollerith l.kind_is) ∙ stuck_form bytes
        ∙ sym (ap (cut_then line_after) (token_kind byte bytes kind.Hollerith l.kind_is))
    | open_brace l ↦ ap form_of (between_kind byte bytes kind.Open l.kind_is) ∙ token_then Open bytes
        ∙ sym (ap (cut_then line_after) (token_kind byte bytes kind.Open l.kind_is))
    | close_brace l ↦ ap form_of (between_kind byte bytes kind.Close l.kind_is) ∙ token_then Close bytes
        ∙ sym (ap (cut_then line_after) (token_kind byte bytes kind.Close l.kind_is))
    | star l ↦ ap form_of (between_kind byte bytes kind.Star l.kind_is) ∙ token_then Star bytes
        ∙ sym (ap (cut_then line_after) (token_kind byte bytes kind.Star l.kind_is))
    | sign_byte l ↦ ap form_of (between_kind byte bytes kind.Sign l.kind_is) ∙ signed_line byte bytes
        ∙ sym (ap (cut_then line_after) (token_kind byte bytes kind.Sign l.kind_is))
    | other l ↦ ap form_of (between_kind byte bytes kind.Other l.kind_is) ∙ stuck_form bytes
        ∙ sym (ap (cut_then line_after) (token_kind byte bytes kind.Other l.kind_is))
  ]

  -- a cut leaves no more than there was
  abbrev LeavesWithin : ℕ → Form Cut → Type 0
  LeavesWithin count Prefix = Unit {0}
  LeavesWithin count (Whole cut) = length cut.tail ≤ count
  LeavesWithin count Unfit = Unit {0}

  leaves_cond : (count : ℕ) (b : Bool) (cut : Cut) (rest : Form Cut) → length cut.tail ≤ count → LeavesWithin count rest
      → LeavesWithin count (choice b (Whole cut) rest)
  leaves_cond count true cut rest le lo = le
  leaves_cond count false cut rest le lo = lo

  string_leaves : (count : ℕ) (bytes : List ℕ) → LeavesWithin (length bytes) (string_at count bytes)
  string_leaves count bytes =
      leaves_cond (length bytes) (leb count (length bytes))
      (record { token = Text (take count bytes); tail = drop count bytes }) Prefix
      (omega (arith, length-drop count bytes)) tt

  leaves_more : (m n : ℕ) (form : Form Cut) → m ≤ n → LeavesWithin m form → LeavesWithin n form
  leaves_more m n Prefix le h = tt
  leaves_more m n (Whole cut) le h = omega arith
  leaves_more m n Unfit le h = tt

  run_leaves : (digits rest : List ℕ) → LeavesWithin (length rest) (run_at digits rest)
  run_leaves digits [] = elim (cases_Bool (leb (length digits) 16)) [
    | inl e ↦ let P : Form Cut → Type 0 = LeavesWithin 0 in subst (λ (b : Bool). P (choice b Prefix Unfit)) (sym e) tt
    | inr e ↦ let P : Form Cut → Type 0 = LeavesWithin 0 in subst (λ (b : Bool). P (choice b Prefix Unfit)) (sym e) tt
  ]
  run_leaves digits (byte ∷ rest) = elim (cases_Bool (eqb byte 72)) [
    | inl h ↦ elim (cases_Bool (is_integer digits)) [
      | inl e ↦ subst (LeavesWithin (length (byte ∷ rest)))
          (sym (run_string digits byte rest h
          ∙ ap (λ (b : Bool). choice b (string_at (number_of digits) rest) Unfit) e))
          (leaves_more (length rest) (length (byte ∷ rest)) (string_at (number_of digits) rest) (omega arith)
          (string_leaves (number_of digits) rest))
      | inr e ↦ subst (LeavesWithin (length (byte ∷ rest)))
          (sym (run_string digits byte rest h
          ∙ ap (λ (b : Bool). choice b (string_at (number_of digits) rest) Unfit) e))
          tt
    ]
    | inr h ↦ elim (cases_lt 16 (length digits)) [
      | inl long ↦ subst (LeavesWithin (length (byte ∷ rest))) (sym (run_long digits (byte ∷ rest) long)) tt
      | inr short ↦ subst (LeavesWithin (length (byte ∷ rest))) (sym (run_cut digits byte rest h short)) (omega arith)
    ]
  ]

  signed_run_leaves : (mark : ℕ) (digits rest : List ℕ) → LeavesWithin (length rest) (signed_run_at mark digits rest)
  signed_run_leaves mark digits [] =
      elim (leb (length digits) 16) as (λ (b : Bool). LeavesWithin 0 (choice b Prefix Unfit)) [ true ↦ tt | false ↦ tt ]
  signed_run_leaves mark digits (byte ∷ rest) =
      leaves_cond (length (byte ∷ rest)) (leb 1 (length digits) && leb (length digits) 16)
      (record { token = Signed mark digits; tail = byte ∷ rest }) Unfit (omega arith) tt

  signed_leaves : (mark : ℕ) (bytes : List ℕ) → LeavesWithin (length bytes) (signed_at side mark bytes)
  signed_leaves mark bytes = elim side as (λ (s : Side). LeavesWithin (length bytes) (signed_at s mark bytes)) [
    | sides.Client ↦ tt
    | sides.Server ↦ leaves_more (length (drop_while is_digit bytes)) (length bytes)
        (signed_run_at mark (take_while is_digit bytes) (drop_while is_digit bytes)) (length-drop_while is_digit bytes)
        (signed_run_leaves mark (take_while is_digit bytes) (drop_while is_digit bytes))
  ]

  token_leaves : (byte : ℕ) (bytes : List ℕ) → LeavesWithin (length bytes) (token_at side byte bytes)
  token_leaves byte bytes =
      let P : ByteKind → Type 0 = λ (k : ByteKind). LeavesWithin (length bytes) (token_of_kind byte bytes k) in
      elim (kind_of byte) as P [
        | kind.Digit ↦ leaves_more (length (drop_while is_digit bytes)) (length bytes)
            (run_at (byte ∷ take_while is_digit bytes) (drop_while is_digit bytes)) (length-drop_while is_digit bytes)
            (run_leaves (byte ∷ take_while is_digit bytes) (drop_while is_digit bytes))
        | kind.Open ↦ omega arith
        | kind.Close ↦ omega arith
        | kind.Star ↦ omega arith
        | kind.Sign ↦ signed_leaves byte bytes
        | kind.Blank ↦ tt
        | kind.LineFeed ↦ tt
        | kind.Hollerith ↦ tt
        | kind.Other ↦ tt
      ]

  after_same : (count : ℕ) (f g : List ℕ → Form (List Token)) (form : Form Cut) → LeavesWithin count form
      → ((bytes : List ℕ) → length bytes ≤ count → f bytes ≡ g bytes) → cut_then f form ≡ cut_then g form
  after_same count f g Prefix within same = refl
  after_same count f g (Whole cut) within same =
      ap (λ (form : Form (List Token)). choice (may_follow cut.tail) (with_token cut.token form) Unfit)
      (same cut.tail within)
  after_same count f g Unfit within same = refl

  ended_line : (byte : ℕ) (bytes : List ℕ) → kind_of byte ≡ kind.LineFeed →
      line_after (byte ∷ bytes) ≡ end_of_line bytes
  ended_line byte [] e = ap form_of (between_kind byte [] kind.LineFeed e)
  ended_line byte (second ∷ bytes) e =
      ap form_of (between_kind byte (second ∷ bytes) kind.LineFeed e) ∙ stuck_form bytes

  -- a line from its first byte that is no blank
  abbrev unblank : ℕ → List ℕ → Form (List Token)
  unblank most [] = Prefix
  unblank most (byte ∷ tail) =
      choice (eqb byte 10) (end_of_line tail) (cut_then (tokens_at side most) (token_at side byte tail))

  feed_kind : (byte : ℕ) → eqb byte 10 ≡ true → kind_of byte ≡ kind.LineFeed
  feed_kind byte e = ap kind_of (eqb-true byte 10 e)

  unblank_line : (most : ℕ) (bytes : List ℕ) → HeadFails is_blank bytes → length bytes ≤ most
      → ((rest : List ℕ) → length rest < most → tokens_at side most rest ≡ line_after rest)
      → unblank most bytes ≡ line_after bytes
  unblank_line most [] head short same = refl
  unblank_line most (byte ∷ tail) head short same = elim (cases_Bool (eqb byte 10)) [
    | inl e ↦ ap
        (λ (b : Bool). choice b (end_of_line tail) (cut_then (tokens_at side most) (token_at side byte tail))) e
        ∙ sym (ended_line byte tail (feed_kind byte e))
    | inr e ↦ ap
        (λ (b : Bool). choice b (end_of_line tail) (cut_then (tokens_at side most) (token_at side byte tail))) e
        ∙ after_same (length tail) (tokens_at side most) line_after (token_at side byte tail) (token_leaves byte tail)
        (λ rest le. same rest (omega arith))
        ∙ sym (token_line byte tail head e)
  ]

  tokens_line : (most : ℕ) (bytes : List ℕ) → length bytes < most → tokens_at side most bytes ≡ line_after bytes
  tokens_line zero bytes short = absurd (omega arith)
  tokens_line (suc most) bytes short =
      unblank_line most (drop_while is_blank bytes) (head_fails is_blank bytes)
      (omega (arith, length-drop_while is_blank bytes)) (λ rest lt. tokens_line most rest lt)
      ∙ sym (ap form_of (blanks_skipped bytes))

  -- a line's form is that of the walk over its bytes
  pub line_form-walk : (bytes : List ℕ) → line_form side bytes ≡ form_of (walk side bytes)
  line_form-walk bytes = tokens_line (length bytes + 1) bytes (omega arith)
