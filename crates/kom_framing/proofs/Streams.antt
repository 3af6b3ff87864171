-- A stream that goes on, and the verdict on its next byte.
use Rattle.std.proofs.Common.{◌≡◌, ℕ, ◌+◌, ◌<◌, ◌≤◌, Bool, true, false, ltb, List, [], ◌∷◌, ◌++◌, length, Option, Some}
use Rattle.std.proofs.Common.{None, refl, ap, ◌∙◌, arith}
use Rattle.std.proofs.lemmas.Bool.{lt-ltb, le-ltb}
use Rattle.kom_types.specs.declared.limits.TheConstants.{LONGEST_LINE, LONGEST_STREAM}
use Rattle.kom_types.specs.declared.side.Side.{Side}
use Rattle.kom_types.specs.Token.{Token}
use Rattle.kom_types.specs.Grammar.{Form, Prefix, Whole, Unfit, line_form, greeting_form}
use Rattle.kom_types.specs.Stream.{Fault, Malformed, LineTooLong, Split, Verdict, GoesOn}
use Rattle.kom_types.specs.Stream.{Ends, Fails, verdict, line_verdict, greeting_verdict, with_line, stopped_in}
use Rattle.kom_types.specs.Stream.{lines_from, greeting_from}

abbrev choice : {X : Type 0} → Bool → X → X → X
choice b x y = elim b [ true ↦ x | false ↦ y ]

prefix_goes_on : {X : Type 0} (place : ℕ) (form : Form X) → place < LONGEST_STREAM → form ≡ Prefix
    → verdict place false form ≡ GoesOn
prefix_goes_on place form early e =
    ap (verdict place false) e
    ∙ ap (λ (b : Bool). choice b GoesOn (Fails (Malformed place))) (lt-ltb place LONGEST_STREAM early)

whole_ends : {X : Type 0} (place : ℕ) (form : Form X) (x : X) → place < LONGEST_STREAM → form ≡ Whole x
    → verdict place false form ≡ Ends x
whole_ends place form x early e =
    ap (verdict place false) e
    ∙ ap (λ (b : Bool). choice b (Ends x) (Fails (Malformed place))) (lt-ltb place LONGEST_STREAM early)

pub unfit_fails : {X : Type 0} (place : ℕ) (long : Bool) (form : Form X) → form ≡ Unfit
    → verdict place long form ≡ Fails (Malformed place)
unfit_fails place long form e = ap (verdict place long) e

late_fails : {X : Type 0} (place : ℕ) (long : Bool) (form : Form X) → LONGEST_STREAM ≤ place
    → verdict place long form ≡ Fails (Malformed place)
late_fails place long Prefix late =
    ap (λ (b : Bool). choice b (choice long (Fails (LineTooLong place)) GoesOn) (Fails (Malformed place)))
    (le-ltb place LONGEST_STREAM late)
late_fails place long (Whole x) late =
    ap (λ (b : Bool). choice b (choice long (Fails (LineTooLong place)) (Ends x)) (Fails (Malformed place)))
    (le-ltb place LONGEST_STREAM late)
late_fails place long Unfit late = refl

-- no rule makes these bytes unfit
abbrev pub Fits : {X : Type 0} → Form X → Type 0
Fits Prefix = Unit {0}
Fits (Whole x) = Unit {0}
Fits Unfit = ⊥

long_fails : {X : Type 0} (place : ℕ) (form : Form X) → place < LONGEST_STREAM → Fits form
    → verdict place true form ≡ Fails (LineTooLong place)
long_fails place Prefix early fits =
    ap (λ (b : Bool). choice b (Fails (LineTooLong place)) (Fails (Malformed place)))
    (lt-ltb place LONGEST_STREAM early)
long_fails place (Whole x) early fits =
    ap (λ (b : Bool). choice b (Fails (LineTooLong place)) (Fails (Malformed place)))
    (lt-ltb place LONGEST_STREAM early)
long_fails place Unfit early fits = absurd fits

greeting-with_line : (tokens : List Token) (end : ℕ) (split : Split)
    → (with_line tokens end split).greeting ≡ split.greeting
greeting-with_line [] end split = refl
greeting-with_line (token ∷ tokens) end split = refl

no_prefix_chosen : {X : Type 0} (place : ℕ) (x : X) (early long : Bool)
    → choice early (choice long (Fails (LineTooLong place)) (Ends x)) (Fails (Malformed place)) ≡ GoesOn → ⊥
no_prefix_chosen place x true true e = cc
no_prefix_chosen place x true false e = cc
no_prefix_chosen place x false long e = cc

whole_is_no_prefix : {X : Type 0} (place : ℕ) (long : Bool) (x : X) → verdict place long (Whole x) ≡ GoesOn → ⊥
whole_is_no_prefix place long x e = no_prefix_chosen place x (ltb place LONGEST_STREAM) long e

goes_on_prefix : {X : Type 0} (place : ℕ) (long : Bool) (form : Form X) → verdict place long form ≡ GoesOn
    → form ≡ Prefix
goes_on_prefix place long Prefix e = refl
goes_on_prefix place long (Whole x) e = absurd (whole_is_no_prefix place long x e)
goes_on_prefix place long Unfit e = absurd cc

module _ (side : Side) where
  -- ---- what a verdict makes of a stream

  abbrev after_byte : ℕ → List ℕ → ℕ → List ℕ → Verdict (List Token) → Split
  after_byte place text byte bytes GoesOn = lines_from side (place + 1) (text ++ byte ∷ []) bytes
  after_byte place text byte bytes (Ends tokens) = with_line tokens place (lines_from side (place + 1) [] bytes)
  after_byte place text byte bytes (Fails fault) = stopped_in text (Some fault)

  lines-cons : (place : ℕ) (text : List ℕ) (byte : ℕ) (bytes : List ℕ) (judged : Verdict (List Token))
      → line_verdict side place (text ++ byte ∷ []) ≡ judged
      → lines_from side place text (byte ∷ bytes) ≡ after_byte place text byte bytes judged
  lines-cons place text byte bytes judged e = ap (after_byte place text byte bytes) e

  abbrev pub after_letter : ℕ → List ℕ → ℕ → List ℕ → Verdict (List ℕ) → Split
  after_letter place text byte bytes GoesOn = greeting_from side (place + 1) (text ++ byte ∷ []) bytes
  after_letter place text byte bytes (Ends name) =
      record (lines_from side (place + 1) [] bytes) { greeting = Some name }
  after_letter place text byte bytes (Fails fault) = stopped_in text (Some fault)

  pub greeting-cons : (place : ℕ) (text : List ℕ) (byte : ℕ) (bytes : List ℕ) (judged : Verdict (List ℕ))
      → greeting_verdict side place (text ++ byte ∷ []) ≡ judged
      → greeting_from side place text (byte ∷ bytes) ≡ after_letter place text byte bytes judged
  greeting-cons place text byte bytes judged e = ap (after_letter place text byte bytes) e

  -- ---- the verdict on a byte

  short_line : (place : ℕ) (prefix : List ℕ) → length prefix ≤ LONGEST_LINE
      → line_verdict side place prefix ≡ verdict place false (line_form side prefix)
  short_line place prefix short =
      ap (λ (b : Bool). verdict place b (line_form side prefix)) (le-ltb LONGEST_LINE (length prefix) short)

  long_line : (place : ℕ) (prefix : List ℕ) → LONGEST_LINE < length prefix
      → line_verdict side place prefix ≡ verdict place true (line_form side prefix)
  long_line place prefix long =
      ap (λ (b : Bool). verdict place b (line_form side prefix)) (lt-ltb LONGEST_LINE (length prefix) long)

  -- ---- one byte of a line

  pub line_goes_on : (place : ℕ) (text : List ℕ) (byte : ℕ) (bytes : List ℕ) → place < LONGEST_STREAM
      → length (text ++ byte ∷ []) ≤ LONGEST_LINE → line_form side (text ++ byte ∷ []) ≡ Prefix
      → lines_from side place text (byte ∷ bytes) ≡ lines_from side (place + 1) (text ++ byte ∷ []) bytes
  line_goes_on place text byte bytes early short e =
      lines-cons place text byte bytes GoesOn
      (short_line place (text ++ byte ∷ []) short ∙ prefix_goes_on place (line_form side (text ++ byte ∷ [])) early e)

  pub line_ends : (place : ℕ) (text : List ℕ) (byte : ℕ) (bytes : List ℕ) (tokens : List Token) → place < LONGEST_STREAM
      → length (text ++ byte ∷ []) ≤ LONGEST_LINE → line_form side (text ++ byte ∷ []) ≡ Whole tokens
      → lines_from side place text (byte ∷ bytes) ≡ with_line tokens place (lines_from side (place + 1) [] bytes)
  line_ends place text byte bytes tokens early short e =
      lines-cons place text byte bytes (Ends tokens)
      (short_line place (text ++ byte ∷ []) short
      ∙ whole_ends place (line_form side (text ++ byte ∷ [])) tokens early e)

  pub line_unfit : (place : ℕ) (text : List ℕ) (byte : ℕ) (bytes : List ℕ) → line_form side (text ++ byte ∷ []) ≡ Unfit
      → lines_from side place text (byte ∷ bytes) ≡ stopped_in text (Some (Malformed place))
  line_unfit place text byte bytes e =
      lines-cons place text byte bytes (Fails (Malformed place))
      (unfit_fails place (ltb LONGEST_LINE (length (text ++ byte ∷ []))) (line_form side (text ++ byte ∷ [])) e)

  pub line_late : (place : ℕ) (text : List ℕ) (byte : ℕ) (bytes : List ℕ) → LONGEST_STREAM ≤ place
      → lines_from side place text (byte ∷ bytes) ≡ stopped_in text (Some (Malformed place))
  line_late place text byte bytes late =
      lines-cons place text byte bytes (Fails (Malformed place))
      (late_fails place (ltb LONGEST_LINE (length (text ++ byte ∷ [])))
      (line_form side (text ++ byte ∷ [])) late)

  pub line_too_long : (place : ℕ) (text : List ℕ) (byte : ℕ) (bytes : List ℕ) → place < LONGEST_STREAM
      → LONGEST_LINE < length (text ++ byte ∷ []) → Fits (line_form side (text ++ byte ∷ []))
      → lines_from side place text (byte ∷ bytes) ≡ stopped_in text (Some (LineTooLong place))
  line_too_long place text byte bytes early long fits =
      lines-cons place text byte bytes (Fails (LineTooLong place))
      (long_line place (text ++ byte ∷ []) long ∙ long_fails place (line_form side (text ++ byte ∷ [])) early fits)

  -- ---- one byte of a greeting

  pub greeting_goes_on : (place : ℕ) (text : List ℕ) (byte : ℕ) (bytes : List ℕ) → place < LONGEST_STREAM
      → greeting_form side (text ++ byte ∷ []) ≡ Prefix
      → greeting_from side place text (byte ∷ bytes) ≡ greeting_from side (place + 1) (text ++ byte ∷ []) bytes
  greeting_goes_on place text byte bytes early e =
      greeting-cons place text byte bytes GoesOn (prefix_goes_on place (greeting_form side (text ++ byte ∷ [])) early e)

  pub greeting_ends : (place : ℕ) (text : List ℕ) (byte : ℕ) (bytes name : List ℕ) → place < LONGEST_STREAM
      → greeting_form side (text ++ byte ∷ []) ≡ Whole name
      → greeting_from side place text (byte ∷ bytes)
      ≡ record (lines_from side (place + 1) [] bytes) { greeting = Some name }
  greeting_ends place text byte bytes name early e =
      greeting-cons place text byte bytes (Ends name)
      (whole_ends place (greeting_form side (text ++ byte ∷ [])) name early e)

  pub greeting_unfit : (place : ℕ) (text : List ℕ) (byte : ℕ) (bytes : List ℕ)
      → greeting_form side (text ++ byte ∷ []) ≡ Unfit
      → greeting_from side place text (byte ∷ bytes) ≡ stopped_in text (Some (Malformed place))
  greeting_unfit place text byte bytes e =
      greeting-cons place text byte bytes (Fails (Malformed place))
      (unfit_fails place false (greeting_form side (text ++ byte ∷ [])) e)

  pub greeting_late : (place : ℕ) (text : List ℕ) (byte : ℕ) (bytes : List ℕ) → LONGEST_STREAM ≤ place
      → greeting_from side place text (byte ∷ bytes) ≡ stopped_in text (Some (Malformed place))
  greeting_late place text byte bytes late =
      greeting-cons place text byte bytes (Fails (Malformed place))
      (late_fails place false (greeting_form side (text ++ byte ∷ [])) late)

  -- ---- a stream that goes on

  -- what was split, and the lines after it from its rest on, if it is not at fault
  abbrev extended_by : Option Fault → Split → ℕ → List ℕ → Split
  extended_by None split place bytes =
      let more = lines_from side place split.rest bytes in
      record { greeting = split.greeting; lines = split.lines ++ more.lines; rest = more.rest; fault = more.fault }
  extended_by (Some fault) split place bytes = split

  abbrev pub extended : Split → ℕ → List ℕ → Split
  extended split place bytes = extended_by split.fault split place bytes

  no_greeting : (place : ℕ) (text bytes : List ℕ) → (lines_from side place text bytes).greeting ≡ None
  no_greeting place text [] = refl
  no_greeting place text (byte ∷ bytes) =
      elim (line_verdict side place (text ++ byte ∷ [])) as
      (λ v. (after_byte place text byte bytes v).greeting ≡ None) [
        | GoesOn ↦ no_greeting (place + 1) (text ++ byte ∷ []) bytes
        | Ends tokens ↦ greeting-with_line tokens place (lines_from side (place + 1) [] bytes)
            ∙ no_greeting (place + 1) [] bytes
        | Fails fault ↦ refl
      ]

  with_line-extended : (tokens : List Token) (end : ℕ) (split : Split) (place : ℕ) (bytes : List ℕ)
      → with_line tokens end (extended split place bytes) ≡ extended (with_line tokens end split) place bytes
  with_line-extended [] end split place bytes = refl
  with_line-extended (token ∷ tokens) end split place bytes =
      elim (split.fault) as
      (λ f. with_line (token ∷ tokens) end (extended_by f split place bytes)
      ≡ extended_by f (with_line (token ∷ tokens) end split) place bytes) [
        | None ↦ refl
        | Some fault ↦ refl
      ]

  -- the lines of a stream that goes on
  pub lines-append : (place : ℕ) (text prefix bytes : List ℕ)
      → lines_from side place text (prefix ++ bytes)
      ≡ extended (lines_from side place text prefix) (place + length prefix) bytes
  lines-append place text [] bytes =
      let same : place ≡ place + 0 = omega arith in
      ap (λ (p : ℕ). lines_from side p text bytes) same
      ∙ ap (λ (g : Option (List ℕ)). let more = lines_from side (place + 0) text bytes in record {
        greeting = g;
        lines = more.lines;
        rest = more.rest;
        fault = more.fault;
      }) (no_greeting (place + 0) text bytes)
  lines-append place text (byte ∷ prefix) bytes =
      let next : place + 1 + length prefix ≡ place + length (byte ∷ prefix) = omega arith in
      elim (line_verdict side place (text ++ byte ∷ [])) as
      (λ v. after_byte place text byte (prefix ++ bytes) v
      ≡ extended (after_byte place text byte prefix v) (place + length (byte ∷ prefix)) bytes) [
        | GoesOn ↦ lines-append (place + 1) (text ++ byte ∷ []) prefix bytes
            ∙ ap (λ (p : ℕ). extended (lines_from side (place + 1) (text ++ byte ∷ []) prefix) p bytes) next
        | Ends tokens ↦ ap (with_line tokens place)
            (lines-append (place + 1) [] prefix bytes
            ∙ ap (λ (p : ℕ). extended (lines_from side (place + 1) [] prefix) p bytes) next)
            ∙ with_line-extended tokens place (lines_from side (place + 1) [] prefix)
            (place + length (byte ∷ prefix)) bytes
        | Fails fault ↦ refl
      ]

  abbrev greeted_by : Option Fault → Option (List ℕ) → Split → ℕ → List ℕ → Split
  greeted_by (Some fault) greeting split place bytes = split
  greeted_by None (Some name) split place bytes = extended_by None split place bytes
  greeted_by None None split place bytes = greeting_from side place split.rest bytes

  abbrev pub greeted : Split → ℕ → List ℕ → Split
  greeted split place bytes = greeted_by split.fault split.greeting split place bytes

  name_extended : (name : List ℕ) (split : Split) (place : ℕ) (bytes : List ℕ)
      → record (extended split place bytes) { greeting = Some name }
      ≡ greeted (record split { greeting = Some name }) place bytes
  name_extended name split place bytes =
      elim (split.fault) as
      (λ f. record (extended_by f split place bytes) { greeting = Some name }
      ≡ greeted_by f (Some name) (record split { greeting = Some name }) place bytes) [
        | None ↦ refl
        | Some fault ↦ refl
      ]

  -- a stream that goes on
  pub greeting-append : (place : ℕ) (text prefix bytes : List ℕ)
      → greeting_from side place text (prefix ++ bytes)
      ≡ greeted (greeting_from side place text prefix) (place + length prefix) bytes
  greeting-append place text [] bytes =
      let same : place ≡ place + 0 = omega arith in
      ap (λ (p : ℕ). greeting_from side p text bytes) same
  greeting-append place text (byte ∷ prefix) bytes =
      let next : place + 1 + length prefix ≡ place + length (byte ∷ prefix) = omega arith in
      elim (greeting_verdict side place (text ++ byte ∷ [])) as
      (λ v. after_letter place text byte (prefix ++ bytes) v
      ≡ greeted (after_letter place text byte prefix v) (place + length (byte ∷ prefix)) bytes) [
        | GoesOn ↦ greeting-append (place + 1) (text ++ byte ∷ []) prefix bytes
            ∙ ap (λ (p : ℕ). greeted (greeting_from side (place + 1) (text ++ byte ∷ []) prefix) p bytes) next
        | Ends name ↦ ap (λ (s : Split). record s { greeting = Some name })
            (lines-append (place + 1) [] prefix bytes
            ∙ ap (λ (p : ℕ). extended (lines_from side (place + 1) [] prefix) p bytes) next)
            ∙ name_extended name (lines_from side (place + 1) [] prefix) (place + length (byte ∷ prefix)) bytes
        | Fails fault ↦ refl
      ]

  -- ---- what is left of a greeting

  abbrev LeavesPrefix : Split → Type 0
  LeavesPrefix split = split.greeting ≡ None → split.fault ≡ None → greeting_form side split.rest ≡ Prefix

  leaves_at : (place : ℕ) (text : List ℕ) (byte : ℕ) (bytes : List ℕ) (judged : Verdict (List ℕ))
      → greeting_verdict side place (text ++ byte ∷ []) ≡ judged
      → (greeting_form side (text ++ byte ∷ []) ≡ Prefix
      → LeavesPrefix (greeting_from side (place + 1) (text ++ byte ∷ []) bytes))
      → LeavesPrefix (after_letter place text byte bytes judged)
  leaves_at place text byte bytes GoesOn e later =
      later (goes_on_prefix place false (greeting_form side (text ++ byte ∷ [])) e)
  leaves_at place text byte bytes (Ends name) e later = λ none sound. absurd cc
  leaves_at place text byte bytes (Fails fault) e later = λ none sound. absurd cc

  pub leaves_prefix : (place : ℕ) (text bytes : List ℕ) → greeting_form side text ≡ Prefix
      → LeavesPrefix (greeting_from side place text bytes)
  leaves_prefix place text [] prefix = λ none sound. prefix
  leaves_prefix place text (byte ∷ bytes) prefix =
      leaves_at place text byte bytes (greeting_verdict side place (text ++ byte ∷ [])) refl
      (λ f. leaves_prefix (place + 1) (text ++ byte ∷ []) bytes f)
