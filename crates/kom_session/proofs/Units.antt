-- The units of a stream, and what those that were served say of it.
use Rattle.std.proofs.Common.{◌≡◌, ℕ, ◌+◌, ◌==◌, ◌≤◌, ◌&&◌, ◌⊎◌, Bool, true, false, nat_le, nat_lt, inl, inr, List, []}
use Rattle.std.proofs.Common.{◌∷◌, ◌++◌, length, map, take, take_while, Option, Some, None, refl, sym, ◌∙◌, ap, ap₂}
use Rattle.std.proofs.Common.{subst, append-nil, append_assoc, arith}
use Rattle.std.specs.Prelude.{option_to_list, option_map, IfSome}
use Rattle.std.proofs.lemmas.List.{length-map}
use Rattle.std.proofs.lemmas.Bool.{eqb-true, leb-true}
use Rattle.std.proofs.Math.Seq.{take-append_seam}
use Rattle.kom_types.specs.declared.limits.TheConstants.{LONGEST_STREAM, LONGEST_USER_NAME}
use Rattle.kom_types.specs.declared.side.Side.TheVariants as side
use Rattle.kom_types.specs.ByteKind.{is_blank, is_digit}
use Rattle.kom_types.specs.Token.{Token, number_of}
use Rattle.kom_types.specs.Grammar.{Form, Prefix, Whole, Unfit, drop_while, exactly, is_name_length, name_at}
use Rattle.kom_types.specs.Grammar.{greeting_form}
use Rattle.kom_types.specs.Stream.{Line, Fault, Malformed, LineTooLong, Split, Verdict, GoesOn, Ends, Fails, verdict}
use Rattle.kom_types.specs.Stream.{line_verdict, greeting_verdict, with_line, stopped_in, lines_from}
use Rattle.kom_types.specs.Stream.{greeting_from, stream_of}
use Rattle.kom_types.specs.Reading.{Request, reading_of, place_of, fault_of}
use Rattle.kom_framing.specs.declared.units.Unit.{Unit as StreamUnit}
use Rattle.kom_framing.specs.declared.units.Unit.TheVariants as unit
use Rattle.kom_framing.specs.Splitting.{units_of}
use Rattle.kom_links.specs.Talk.{lines_before}
use Rattle.kom_session.specs.Serving.{AreFirst, IsFaultAfter}
use Rattle.kom_session.proofs.Courses.{and_right}
use Rattle.kom_session.proofs.Streams.{no_lines_before_greeting, fault_stream, fault_line, fault_none, fault_greeting}

-- ---- the first of the units

lines_in_prefix : (all lines : List Line) (rest : List StreamUnit)
    → map unit.Line all ≡ map unit.Line lines ++ rest
    → ((more : List Line) × (all ≡ lines ++ more) × (rest ≡ map unit.Line more))
lines_in_prefix all [] rest e = (all, refl, sym e)
lines_in_prefix [] (line ∷ lines) rest e = absurd (cc)
lines_in_prefix (first ∷ all) (line ∷ lines) rest e =
    let found = lines_in_prefix all lines rest (cc) in
    let same : first ≡ line = cc in
    (found.0, ap₂ (λ (head : Line) (tail : List Line). head ∷ tail) same found.1, found.2)

greeted : (greeting : Option (List ℕ)) (all lines : List Line) (user : List ℕ)
    (rest : List StreamUnit) →
    map unit.Hello (option_to_list greeting)
    ++ map unit.Line all ≡ (unit.Hello user ∷ map unit.Line lines) ++ rest →
    ((greeting ≡ Some user) × (map unit.Line all ≡ map unit.Line lines ++ rest))
greeted None [] lines user rest e = absurd (cc)
greeted None (line ∷ all) lines user rest e = absurd (cc)
greeted (Some name) all lines user rest e = let same : name ≡ user = cc in (ap Some same, cc)

-- the stream whose first units these are
pub record Begins (bytes user : List ℕ) (lines : List Line) (rest : List StreamUnit) : Type 0 where
  pub greeting : (stream_of bytes).greeting ≡ Some user
  pub more : List Line
  pub lines_are : (stream_of bytes).lines ≡ lines ++ more
  pub rest_are : rest ≡ map unit.Line more

pub begins : (bytes user : List ℕ) (units rest : List StreamUnit) (lines : List Line)
    → units_of (stream_of bytes) ≡ units ++ rest → units ≡ unit.Hello user ∷ map unit.Line lines
    → Begins bytes user lines rest
begins bytes user units rest lines stream taken =
    let prefix =
    greeted (stream_of bytes).greeting (stream_of bytes).lines lines user rest
    (stream ∙ ap (λ units. units ++ rest) taken) in
    let found = lines_in_prefix (stream_of bytes).lines lines rest prefix.1 in
    record { greeting = prefix.0; more = found.0; lines_are = found.1; rest_are = found.2 }

pub first_calls : (bytes user : List ℕ) (rest : List StreamUnit) (lines : List Line)
    (requests : List Request) → Begins bytes user lines rest →
    map Some requests ≡ map (λ line. reading_of line.tokens) lines → AreFirst bytes user requests
first_calls bytes user rest lines requests prefix read =
    let count : length requests ≡ length lines =
    sym (length-map requests (λ request. Some request)) ∙ ap length read
    ∙ length-map lines (λ line. reading_of line.tokens) in
    record {
      greeting = prefix.greeting;
      calls =
          read ∙ ap (map (λ (line : Line). reading_of line.tokens))
          (sym (ap₂ (λ n all. take n all) count prefix.lines_are
          ∙ take-append_seam lines prefix.more));
    }

line_unfirst : (greeting : Option (List ℕ)) (lines : List Line) (line : Line)
    (rest : List StreamUnit) → (greeting ≡ None → lines ≡ []) →
    map unit.Hello (option_to_list greeting) ++ map unit.Line lines ≡ unit.Line line ∷ rest → ⊥
line_unfirst None [] line rest none e = cc
line_unfirst None (first ∷ lines) line rest none e =
    let silent : first ∷ lines ≡ [] = none refl in cc
line_unfirst (Some name) lines line rest none e = cc

-- no line comes before the greeting
pub line_not_first : (bytes : List ℕ) (line : Line) (rest : List StreamUnit)
    → units_of (stream_of bytes) ≡ unit.Line line ∷ rest → ⊥
line_not_first bytes line rest e =
    line_unfirst (stream_of bytes).greeting (stream_of bytes).lines line rest
    (no_lines_before_greeting bytes) e

hello_unlike : (user : List ℕ) (rest : List StreamUnit) (lines : List Line)
    → unit.Hello user ∷ rest ≡ map unit.Line lines → ⊥
hello_unlike user rest [] e = cc
hello_unlike user rest (line ∷ lines) e = cc

-- only one greeting comes
pub greeting_once : (bytes user name : List ℕ) (units rest : List StreamUnit) (lines : List Line)
    → units_of (stream_of bytes) ≡ units ++ unit.Hello name ∷ rest
    → units ≡ unit.Hello user ∷ map unit.Line lines → ⊥
greeting_once bytes user name units rest lines stream taken =
    let prefix =
    begins bytes user units (unit.Hello name ∷ rest) lines stream taken in hello_unlike name
    rest prefix.more prefix.rest_are

no_unit : (greeting : Option (List ℕ)) (lines : List Line)
    → map unit.Hello (option_to_list greeting) ++ map unit.Line lines ≡ [] → greeting ≡ None
no_unit None lines e = refl
no_unit (Some name) lines e = absurd (cc)

-- without a unit there is no greeting
pub no_greeting : (bytes : List ℕ) → units_of (stream_of bytes) ≡ []
    → (stream_of bytes).greeting ≡ None
no_greeting bytes e = no_unit (stream_of bytes).greeting (stream_of bytes).lines e

-- ---- faults after the units that were served

pub fault_at_line : (bytes user : List ℕ) (units rest : List StreamUnit) (lines : List Line)
    (requests : List Request) (bad : Line)
    → units_of (stream_of bytes) ≡ units ++ unit.Line bad ∷ rest
    → units ≡ unit.Hello user ∷ map unit.Line lines →
    map Some requests ≡ map (λ line. reading_of line.tokens) lines → reading_of bad.tokens ≡ None
    → IsFaultAfter bytes bad.end requests
fault_at_line bytes user units rest lines requests bad stream taken read unread =
    let prefix =
    begins bytes user units (unit.Line bad ∷ rest) lines stream taken in go prefix.more
    prefix.lines_are prefix.rest_are
  where
    go : (more : List Line) → (stream_of bytes).lines ≡ lines ++ more
        → unit.Line bad ∷ rest ≡ map unit.Line more → IsFaultAfter bytes bad.end requests
    go [] e p = absurd (cc)
    go (first ∷ more) e p =
        let same : first ≡ bad = cc in
        fault_line bytes requests lines more bad
        (e ∙ ap (λ (line : Line). lines ++ line ∷ more) same) read unread

all_lines : (bytes user : List ℕ) (units : List StreamUnit) (lines : List Line)
    → units_of (stream_of bytes) ≡ units ++ [] → units ≡ unit.Hello user ∷ map unit.Line lines
    → (stream_of bytes).lines ≡ lines
all_lines bytes user units lines stream taken =
    let prefix = begins bytes user units [] lines stream taken in prefix.lines_are
    ∙ ap (λ more. lines ++ more) (none prefix.more prefix.rest_are) ∙ append-nil lines
  where
    none : (more : List Line) → [] ≡ map unit.Line more → more ≡ []
    none [] e = refl
    none (line ∷ more) e = absurd (cc)

told_place : (fault : Option Fault) (place : ℕ) → option_map place_of fault ≡ Some place
    → ((found : Fault) × (fault ≡ Some found) × (place_of found ≡ place))
told_place None place e = absurd (cc)
told_place (Some found) place e = (found, refl, cc)

pub fault_tail_all : (bytes user : List ℕ) (units : List StreamUnit) (lines : List Line)
    (requests : List Request) (place : ℕ) → units_of (stream_of bytes) ≡ units ++ []
    → units ≡ unit.Hello user ∷ map unit.Line lines →
    map Some requests ≡ map (λ line. reading_of line.tokens) lines
    → option_map place_of (stream_of bytes).fault ≡ Some place
    → IsFaultAfter bytes place requests
fault_tail_all bytes user units lines requests place stream taken read told =
    let found = told_place (stream_of bytes).fault place told in
    let facts =
    fault_stream bytes requests found.0 found.1
    (read ∙ ap (map (λ (line : Line). reading_of line.tokens))
    (sym (all_lines bytes user units lines stream taken))) in (
      facts.0 ∙ ap Some found.2,
      facts.1
          ∙ ap (λ place. lines_before place (stream_of bytes).lines) found.2,
    )

pub silent_fault : (bytes : List ℕ) (place : ℕ) → (stream_of bytes).greeting ≡ None
    → option_map place_of (stream_of bytes).fault ≡ Some place → fault_of bytes ≡ Some place
silent_fault bytes place none told =
    let found = told_place (stream_of bytes).fault place told in fault_greeting bytes found.0 none
    found.1 ∙ ap Some found.2

-- where all units were served and no fault was met
pub all_sound : (bytes user : List ℕ) (units : List StreamUnit) (lines : List Line)
    (requests : List Request) → units_of (stream_of bytes) ≡ units ++ []
    → units ≡ unit.Hello user ∷ map unit.Line lines →
    map Some requests ≡ map (λ line. reading_of line.tokens) lines → (stream_of bytes).fault ≡ None
    → (fault_of bytes ≡ None) × (length requests ≡ length (stream_of bytes).lines)
all_sound bytes user units lines requests stream taken read sound =
    let same = all_lines bytes user units lines stream taken in
    let reads : map Some requests ≡ map (λ line. reading_of line.tokens) (stream_of bytes).lines =
    read ∙ ap (map (λ (line : Line). reading_of line.tokens)) (sym same) in (
      fault_none bytes requests sound reads,
      sym (length-map requests (λ request. Some request))
          ∙ ap length reads ∙ length-map (stream_of bytes).lines (λ line. reading_of line.tokens),
    )

-- ---- more bytes

record Grows (old new : Split) : Type 0 where
  greeting : (old.greeting ≡ None) ⊎ (new.greeting ≡ old.greeting)
  more : List Line
  lines_are : new.lines ≡ old.lines ++ more

stopped_grows : (text : List ℕ) (fault : Option Fault) (new : Split)
    → Grows (stopped_in text fault) new
stopped_grows text fault new = record { greeting = inl refl; more = new.lines; lines_are = refl }

line_grows : (tokens : List Token) (place : ℕ) (old new : Split) → Grows old new
    → Grows (with_line tokens place old) (with_line tokens place new)
line_grows [] place old new grows = grows
line_grows (token ∷ tokens) place old new grows =
    record {
      greeting = grows.greeting;
      more = grows.more;
      lines_are = ap
          (λ lines. record { tokens = token ∷ tokens; end = place } ∷ lines) grows.lines_are;
    }

line_step : (place : ℕ) (text : List ℕ) (found : Verdict (List Token)) (on on' next next' : Split)
    → Grows on on' → Grows next next' →
    Grows (elim found [
      | GoesOn ↦ on
      | Ends tokens ↦ with_line tokens place next
      | Fails
          fault ↦ stopped_in text (Some fault)
    ])
    (elim found [
      | GoesOn ↦ on'
      | Ends tokens ↦ with_line tokens place next'
      | Fails
          fault ↦ stopped_in text (Some fault)
    ])
line_step place text GoesOn on on' next next' p q = p
line_step place text (Ends tokens) on on' next next' p q = line_grows tokens place next next' q
line_step place text (Fails fault) on on' next next' p q =
    record { greeting = inr refl; more = []; lines_are = refl }

lines_grow : (place : ℕ) (text bytes more : List ℕ)
    → Grows (lines_from side.Client place text bytes) (lines_from side.Client place text (bytes ++ more))
lines_grow place text [] more = stopped_grows text None (lines_from side.Client place text more)
lines_grow place text (byte ∷ bytes) more =
    line_step place text (line_verdict side.Client place (text ++ byte ∷ []))
    (lines_from side.Client (place + 1) (text ++ byte ∷ []) bytes)
    (lines_from side.Client (place + 1) (text ++ byte ∷ []) (bytes ++ more))
    (lines_from side.Client (place + 1) [] bytes) (lines_from side.Client (place + 1) [] (bytes ++ more))
    (lines_grow (place + 1) (text ++ byte ∷ []) bytes more)
    (lines_grow (place + 1) [] bytes more)

greeting_step : (place : ℕ) (text : List ℕ) (found : Verdict (List ℕ)) (on on' next next' : Split)
    → Grows on on' → Grows next next' →
    Grows (elim found [
      | GoesOn ↦ on
      | Ends name ↦ record next { greeting = Some name }
      | Fails
          fault ↦ stopped_in text (Some fault)
    ])
    (elim found [
      | GoesOn ↦ on'
      | Ends name ↦ record next' { greeting = Some name }
      | Fails
          fault ↦ stopped_in text (Some fault)
    ])
greeting_step place text GoesOn on on' next next' p q = p
greeting_step place text (Ends name) on on' next next' p q =
    record { greeting = inr refl; more = q.more; lines_are = q.lines_are }
greeting_step place text (Fails fault) on on' next next' p q =
    record { greeting = inr refl; more = []; lines_are = refl }

stream_grows : (place : ℕ) (text bytes more : List ℕ)
    → Grows (greeting_from side.Client place text bytes) (greeting_from side.Client place text (bytes ++ more))
stream_grows place text [] more = stopped_grows text None (greeting_from side.Client place text more)
stream_grows place text (byte ∷ bytes) more =
    greeting_step place text (greeting_verdict side.Client place (text ++ byte ∷ []))
    (greeting_from side.Client (place + 1) (text ++ byte ∷ []) bytes)
    (greeting_from side.Client (place + 1) (text ++ byte ∷ []) (bytes ++ more))
    (lines_from side.Client (place + 1) [] bytes) (lines_from side.Client (place + 1) [] (bytes ++ more))
    (stream_grows (place + 1) (text ++ byte ∷ []) bytes more)
    (lines_grow (place + 1) [] bytes more)

-- what was first in a stream is first in it when more bytes have come
pub begins_more : (bytes user : List ℕ) (lines : List Line) (rest : List StreamUnit) (more : List ℕ)
    → Begins bytes user lines rest
    → ((later : List StreamUnit) × Begins (bytes ++ more) user lines later)
begins_more bytes user lines rest more prefix =
    let grows = stream_grows 0 [] bytes more in (
      map unit.Line (prefix.more ++ grows.more),
      record {
        greeting = go grows.greeting;
        more = prefix.more ++ grows.more;
        lines_are =
            grows.lines_are ∙ ap (λ first. first ++ grows.more) prefix.lines_are
            ∙ append_assoc lines prefix.more grows.more;
        rest_are = refl;
      },
    )
  where
    go : ((stream_of bytes).greeting ≡ None)
        ⊎ ((stream_of (bytes ++ more)).greeting ≡ (stream_of bytes).greeting)
        → (stream_of (bytes ++ more)).greeting ≡ Some user
    go (inl none) = absurd (cc (prefix.greeting))
    go (inr same) = same ∙ prefix.greeting

-- ---- a greeting's user name is short

abbrev IsShortForm : Form (List ℕ) → Type 0
IsShortForm Prefix = Unit {0}
IsShortForm (Whole name) = length name ≤ LONGEST_USER_NAME
IsShortForm Unfit = Unit {0}

exact_short : (less same : Bool) (bytes : List ℕ) → (same ≡ true → length bytes ≤ LONGEST_USER_NAME)
    → IsShortForm
    (elim less [ true ↦ Prefix | false ↦ elim same [ true ↦ Whole bytes | false ↦ Unfit ] ])
exact_short true same bytes h = tt
exact_short false true bytes h = h refl
exact_short false false bytes h = tt

exactly_short : (count : ℕ) (bytes : List ℕ) → count ≤ LONGEST_USER_NAME → IsShortForm (exactly count bytes)
exactly_short count bytes h =
    exact_short (nat_lt (length bytes) count) (length bytes == count) bytes
    (λ e. omega (arith, eqb-true (length bytes) count e, h))

name_short : (fits : Bool) (digits tail : List ℕ) → (fits ≡ true → number_of digits ≤ LONGEST_USER_NAME)
    → IsShortForm (elim fits [ true ↦ exactly (number_of digits) tail | false ↦ Unfit ])
name_short true digits tail h = exactly_short (number_of digits) tail (h refl)
name_short false digits tail h = tt

to_come : (few : Bool) → IsShortForm (elim few [ true ↦ Prefix | false ↦ Unfit ])
to_come true = tt
to_come false = tt

name_at_short : (digits bytes : List ℕ) → IsShortForm (name_at digits bytes)
name_at_short digits [] = to_come (nat_le (length digits) 4)
name_at_short digits (byte ∷ tail) =
    name_short (byte == 72 && is_name_length digits) digits tail
    (λ e. leb-true (number_of digits) LONGEST_USER_NAME
    (and_right (nat_le 1 (length digits) && nat_le (length digits) 4)
    (nat_le (number_of digits) LONGEST_USER_NAME) (and_right (byte == 72) (is_name_length digits) e)))

letter_short : (is_letter : Bool) (form : Form (List ℕ)) → IsShortForm form
    → IsShortForm (elim is_letter [ true ↦ form | false ↦ Unfit ])
letter_short true form h = h
letter_short false form h = tt

greeting_short : (bytes : List ℕ) → IsShortForm (greeting_form side.Client bytes)
greeting_short [] = tt
greeting_short (letter ∷ bytes) =
    let name = drop_while is_blank bytes in
    letter_short (letter == 65) (name_at (take_while is_digit name) (drop_while is_digit name))
    (name_at_short (take_while is_digit name) (drop_while is_digit name))

abbrev IsShortVerdict : Verdict (List ℕ) → Type 0
IsShortVerdict GoesOn = Unit {0}
IsShortVerdict (Ends name) = length name ≤ LONGEST_USER_NAME
IsShortVerdict (Fails fault) = Unit {0}

bounded_short : (place : ℕ) (within too_long : Bool) (fits : Verdict (List ℕ))
    → IsShortVerdict fits →
    IsShortVerdict
    (elim within [
      | true ↦ elim too_long [
        | true ↦ Fails
            (LineTooLong place)
        | false ↦ fits
      ]
      | false ↦ Fails (Malformed place)
    ])
bounded_short place true true fits h = tt
bounded_short place true false fits h = h
bounded_short place false too_long fits h = tt

verdict_short : (place : ℕ) (too_long : Bool) (form : Form (List ℕ)) → IsShortForm form
    → IsShortVerdict (verdict place too_long form)
verdict_short place too_long Unfit h = tt
verdict_short place too_long Prefix h =
    bounded_short place (nat_lt place LONGEST_STREAM) too_long GoesOn tt
verdict_short place too_long (Whole name) h =
    bounded_short place (nat_lt place LONGEST_STREAM) too_long (Ends name) h

short_step : (text : List ℕ) (found : Verdict (List ℕ)) (on next : Split) → IsShortVerdict found
    → IfSome on.greeting (λ name. length name ≤ LONGEST_USER_NAME) →
    let split : Split =
    elim found [
      | GoesOn ↦ on
      | Ends name ↦ record next { greeting = Some name }
      | Fails
          fault ↦ stopped_in text (Some fault)
    ] in IfSome split.greeting
    (λ name. length name ≤ LONGEST_USER_NAME)
short_step text GoesOn on next h k = k
short_step text (Ends name) on next h k = h
short_step text (Fails fault) on next h k = tt

short_from : (place : ℕ) (text bytes : List ℕ)
    → IfSome (greeting_from side.Client place text bytes).greeting (λ name. length name ≤ LONGEST_USER_NAME)
short_from place text [] = tt
short_from place text (byte ∷ bytes) =
    short_step text (greeting_verdict side.Client place (text ++ byte ∷ []))
    (greeting_from side.Client (place + 1) (text ++ byte ∷ []) bytes) (lines_from side.Client (place + 1) [] bytes)
    (verdict_short place false (greeting_form side.Client (text ++ byte ∷ []))
    (greeting_short (text ++ byte ∷ []))) (short_from (place + 1) (text ++ byte ∷ []) bytes)

-- a greeting's user name has at most 1,024 bytes
pub short_greeting : (bytes name : List ℕ) → (stream_of bytes).greeting ≡ Some name
    → length name ≤ LONGEST_USER_NAME
short_greeting bytes name e =
    subst (λ (greeting : Option (List ℕ)). IfSome greeting (λ name. length name ≤ LONGEST_USER_NAME)) e
    (short_from 0 [] bytes)
