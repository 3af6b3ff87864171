-- Where the lines of a stream end, and where its fault stands.
use Rattle.std.proofs.Common.{◌≡◌, ℕ, suc, ◌+◌, ◌<◌, ◌≤◌, Bool, true, false, cond, nat_lt, List, [], ◌∷◌, ◌++◌, length}
use Rattle.std.proofs.Common.{map, filter, Option, Some, None, option_map, refl, sym, ◌∙◌, ap, ap₂, subst, lt-ltb}
use Rattle.std.proofs.Common.{arith}
use Rattle.std.specs.Option.{option_or}
use Rattle.std.proofs.lemmas.List.{length-map}
use Rattle.kom_types.specs.declared.limits.TheConstants.{LONGEST_LINE, LONGEST_STREAM}
use borrow.Author.Tests.{le-ltb}
use Rattle.kom_types.specs.declared.side.Side.TheVariants as side
use Rattle.kom_types.specs.Token.{Token}
use Rattle.kom_types.specs.Grammar.{Form, Prefix, Whole, Unfit, line_form, greeting_form}
use Rattle.kom_types.specs.Stream.{Line, Fault, Malformed, LineTooLong, Split, Verdict, GoesOn, Ends, Fails, verdict}
use Rattle.kom_types.specs.Stream.{line_verdict, greeting_verdict, with_line, stopped_in}
use Rattle.kom_types.specs.Stream.{lines_from, greeting_from, stream_of}
use Rattle.kom_types.specs.Reading.{Request, reading_of, first_malformed, place_of, fault_of}
use Rattle.kom_links.specs.Talk.{lines_before}

-- The lines end at this place or later, each before the next, and all before the fault if there is
-- one.
abbrev pub AreRising : ℕ → List Line → Option Fault → Type 0
AreRising place [] None = Unit {0}
AreRising place [] (Some fault) = place ≤ place_of fault
AreRising place (line ∷ lines) fault = (place ≤ line.end) × AreRising (line.end + 1) lines fault

rising_before : (earlier place : ℕ) (lines : List Line) (fault : Option Fault) → earlier ≤ place
    → AreRising place lines fault → AreRising earlier lines fault
rising_before earlier place [] None before rising = tt
rising_before earlier place [] (Some fault) before rising = omega arith
rising_before earlier place (line ∷ lines) fault before rising = (omega (arith, rising.0), rising.1)

-- where a verdict says that the fault stands, if it says so
abbrev failed_at : {X : Type 0} → ℕ → Verdict X → ℕ
failed_at place GoesOn = place
failed_at place (Ends unit) = place
failed_at place (Fails fault) = place_of fault

within_bounds : {X : Type 0} (place : ℕ) (within too_long : Bool) (fits : Verdict X)
    → failed_at place fits ≡ place →
    failed_at place
    (elim within [
      | true ↦ elim too_long [
        | true ↦ Fails
            (LineTooLong place)
        | false ↦ fits
      ]
      | false ↦ Fails (Malformed place)
    ]) ≡ place
within_bounds place true true fits e = refl
within_bounds place true false fits e = e
within_bounds place false too_long fits e = refl

-- a unit that fails does so at its last byte
verdict_place : {X : Type 0} (place : ℕ) (too_long : Bool) (form : Form X)
    → failed_at place (verdict place too_long form) ≡ place
verdict_place place too_long Unfit = refl
verdict_place place too_long Prefix =
    within_bounds place (nat_lt place LONGEST_STREAM) too_long GoesOn refl
verdict_place place too_long (Whole unit) =
    within_bounds place (nat_lt place LONGEST_STREAM) too_long (Ends unit) refl

abbrev IsRising : ℕ → Split → Type 0
IsRising place split = AreRising place split.lines split.fault

line_step : (place : ℕ) (text : List ℕ) (on next : Split) (found : Verdict (List Token))
    → failed_at place found ≡ place →
    IsRising (place + 1) on → IsRising (place + 1) next →
    IsRising place
    (elim found [
      | GoesOn ↦ on
      | Ends tokens ↦ with_line tokens place next
      | Fails
          fault ↦ stopped_in text (Some fault)
    ])
line_step place text on next GoesOn at h k =
    rising_before place (place + 1) on.lines on.fault (omega arith) h
line_step place text on next (Ends []) at h k =
    rising_before place (place + 1) next.lines next.fault (omega arith) k
line_step place text on next (Ends (token ∷ tokens)) at h k = (omega arith, k)
line_step place text on next (Fails fault) at h k = omega (arith, at)

pub ends_rise_from : (place : ℕ) (text bytes : List ℕ)
    → let split = lines_from side.Client place text bytes in AreRising place split.lines split.fault
ends_rise_from place text [] = tt
ends_rise_from place text (byte ∷ bytes) =
    line_step place text (lines_from side.Client (place + 1) (text ++ byte ∷ []) bytes)
    (lines_from side.Client (place + 1) [] bytes) (line_verdict side.Client place (text ++ byte ∷ []))
    (verdict_place place (nat_lt LONGEST_LINE (length (text ++ byte ∷ [])))
    (line_form side.Client (text ++ byte ∷ [])))
    (ends_rise_from (place + 1) (text ++ byte ∷ []) bytes) (ends_rise_from (place + 1) [] bytes)

greeting_step : (place : ℕ) (text : List ℕ) (on next : Split) (found : Verdict (List ℕ))
    → failed_at place found ≡ place →
    IsRising (place + 1) on → IsRising (place + 1) next →
    IsRising place
    (elim found [
      | GoesOn ↦ on
      | Ends name ↦ record next { greeting = Some name }
      | Fails
          fault ↦ stopped_in text (Some fault)
    ])
greeting_step place text on next GoesOn at h k =
    rising_before place (place + 1) on.lines on.fault (omega arith) h
greeting_step place text on next (Ends name) at h k =
    rising_before place (place + 1) next.lines next.fault (omega arith) k
greeting_step place text on next (Fails fault) at h k = omega (arith, at)

greeting_rises : (place : ℕ) (text bytes : List ℕ) → IsRising place (greeting_from side.Client place text bytes)
greeting_rises place text [] = tt
greeting_rises place text (byte ∷ bytes) =
    greeting_step place text (greeting_from side.Client (place + 1) (text ++ byte ∷ []) bytes)
    (lines_from side.Client (place + 1) [] bytes) (greeting_verdict side.Client place (text ++ byte ∷ []))
    (verdict_place place false (greeting_form side.Client (text ++ byte ∷ [])))
    (greeting_rises (place + 1) (text ++ byte ∷ []) bytes) (ends_rise_from (place + 1) [] bytes)

pub ends_rise : (bytes : List ℕ) → AreRising 0 (stream_of bytes).lines (stream_of bytes).fault
ends_rise bytes = greeting_rises 0 [] bytes

silent_step : (place : ℕ) (text : List ℕ) (on next : Split) (found : Verdict (List ℕ))
    → (on.greeting ≡ None → on.lines ≡ []) →
    let split : Split =
    elim found [
      | GoesOn ↦ on
      | Ends name ↦ record next { greeting = Some name }
      | Fails
          fault ↦ stopped_in text (Some fault)
    ] in
    split.greeting ≡ None → split.lines ≡ []
silent_step place text on next GoesOn h none = h none
silent_step place text on next (Ends name) h none = cc
silent_step place text on next (Fails fault) h none = refl

silent_from : (place : ℕ) (text bytes : List ℕ) → (greeting_from side.Client place text bytes).greeting ≡ None
    → (greeting_from side.Client place text bytes).lines ≡ []
silent_from place text [] none = refl
silent_from place text (byte ∷ bytes) none =
    silent_step place text (greeting_from side.Client (place + 1) (text ++ byte ∷ []) bytes)
    (lines_from side.Client (place + 1) [] bytes) (greeting_verdict side.Client place (text ++ byte ∷ []))
    (silent_from (place + 1) (text ++ byte ∷ []) bytes) none

pub no_lines_before_greeting : (bytes : List ℕ) → (stream_of bytes).greeting ≡ None
    → (stream_of bytes).lines ≡ []
no_lines_before_greeting bytes none = silent_from 0 [] bytes none

-- ---- the first malformed line

one_read : (reading : Option Request) (request : Request) (place : ℕ) (rest : Option ℕ)
    → Some request ≡ reading →
    elim reading [ None ↦ Some place | Some request ↦ rest ] ≡ rest
one_read None request place rest e = cc
one_read (Some other) request place rest e = refl

none_read : (reading : Option Request) (place : ℕ) (rest : Option ℕ) → reading ≡ None
    → elim reading [ None ↦ Some place | Some request ↦ rest ] ≡ Some place
none_read None place rest e = refl
none_read (Some other) place rest e = cc

all_read : (lines : List Line) (requests : List Request)
    → map Some requests ≡ map (λ line. reading_of line.tokens) lines → first_malformed lines ≡ None
all_read [] requests read = refl
all_read (line ∷ lines) [] read = cc
all_read (line ∷ lines) (request ∷ requests) read =
    one_read (reading_of line.tokens) request line.end (first_malformed lines) (cc)
    ∙ all_read lines requests (cc)

one_unread : (good more : List Line) (bad : Line) (requests : List Request)
    → map Some requests ≡ map (λ line. reading_of line.tokens) good →
    reading_of bad.tokens ≡ None → first_malformed (good ++ bad ∷ more) ≡ Some bad.end
one_unread [] more bad requests read unread =
    none_read (reading_of bad.tokens) bad.end (first_malformed more) unread
one_unread (line ∷ good) more bad [] read unread = cc
one_unread (line ∷ good) more bad (request ∷ requests) read unread =
    one_read (reading_of line.tokens) request line.end (first_malformed (good ++ bad ∷ more)) (cc)
    ∙ one_unread good more bad requests (cc) unread

same_count : (lines : List Line) (requests : List Request)
    → map Some requests ≡ map (λ line. reading_of line.tokens) lines
    → length requests ≡ length lines
same_count lines requests read =
    sym (length-map requests (λ request. Some request)) ∙ ap length read
    ∙ length-map lines (λ line. reading_of line.tokens)

-- ---- how many lines end before a place

before_kept : (place : ℕ) (line : Line) (lines : List Line) → line.end < place
    → lines_before place (line ∷ lines) ≡ suc (lines_before place lines)
before_kept place line lines h = let rest = filter (λ line. nat_lt line.end place) lines in
    ap (λ passes. length (cond passes (line ∷ rest) rest)) (lt-ltb line.end place h)

before_dropped : (place : ℕ) (line : Line) (lines : List Line) → place ≤ line.end
    → lines_before place (line ∷ lines) ≡ lines_before place lines
before_dropped place line lines h = let rest = filter (λ line. nat_lt line.end place) lines in
    ap (λ passes. length (cond passes (line ∷ rest) rest)) (le-ltb line.end place h)

rising_fault : (place : ℕ) (lines : List Line) (fault : Fault) → AreRising place lines (Some fault)
    → place ≤ place_of fault
rising_fault place [] fault rising = rising
rising_fault place (line ∷ lines) fault rising =
    omega (arith, rising.0, rising_fault (line.end + 1) lines fault rising.1)

all_before : (place : ℕ) (lines : List Line) (fault : Fault) → AreRising place lines (Some fault)
    → lines_before (place_of fault) lines ≡ length lines
all_before place [] fault rising = refl
all_before place (line ∷ lines) fault rising =
    before_kept (place_of fault) line lines
    (omega (arith, rising_fault (line.end + 1) lines fault rising.1))
    ∙ ap suc (all_before (line.end + 1) lines fault rising.1)

rising_to : (place : ℕ) (good more : List Line) (bad : Line) (fault : Option Fault)
    → AreRising place (good ++ bad ∷ more) fault → place ≤ bad.end
rising_to place [] more bad fault rising = rising.0
rising_to place (line ∷ good) more bad fault rising =
    omega (arith, rising.0, rising_to (line.end + 1) good more bad fault rising.1)

none_before : (place bound : ℕ) (lines : List Line) (fault : Option Fault) → bound ≤ place
    → AreRising place lines fault → lines_before bound lines ≡ 0
none_before place bound [] fault tail rising = refl
none_before place bound (line ∷ lines) fault tail rising =
    before_dropped bound line lines (omega (arith, rising.0))
    ∙ none_before (line.end + 1) bound lines fault (omega (arith, rising.0)) rising.1

good_before : (place : ℕ) (good more : List Line) (bad : Line) (fault : Option Fault)
    → AreRising place (good ++ bad ∷ more) fault →
    lines_before bad.end (good ++ bad ∷ more) ≡ length good
good_before place [] more bad fault rising =
    before_dropped bad.end bad more (omega arith)
    ∙ none_before (bad.end + 1) bad.end more fault (omega arith) rising.1
good_before place (line ∷ good) more bad fault rising =
    before_kept bad.end line (good ++ bad ∷ more)
    (omega (arith, rising_to (line.end + 1) good more bad fault rising.1))
    ∙ ap suc (good_before (line.end + 1) good more bad fault rising.1)

-- ---- the stream's own fault

pub fault_none : (bytes : List ℕ) (requests : List Request) → (stream_of bytes).fault ≡ None →
    map Some requests ≡ map (λ line. reading_of line.tokens) (stream_of bytes).lines
    → fault_of bytes ≡ None
fault_none bytes requests none read =
    ap₂ option_or (all_read (stream_of bytes).lines requests read) (ap (option_map place_of) none)

pub fault_stream : (bytes : List ℕ) (requests : List Request) (fault : Fault)
    → (stream_of bytes).fault ≡ Some fault →
    map Some requests ≡ map (λ line. reading_of line.tokens) (stream_of bytes).lines →
    (fault_of bytes ≡ Some (place_of fault))
    × (length requests ≡ lines_before (place_of fault) (stream_of bytes).lines)
fault_stream bytes requests fault some read = (
  ap₂ option_or (all_read (stream_of bytes).lines requests read) (ap (option_map place_of) some),
  same_count (stream_of bytes).lines requests read
      ∙ sym (all_before 0 (stream_of bytes).lines fault
      (subst (λ first. AreRising 0 (stream_of bytes).lines first) some (ends_rise bytes))),
)

pub fault_line : (bytes : List ℕ) (requests : List Request) (good more : List Line) (bad : Line)
    → (stream_of bytes).lines ≡ good ++ bad ∷ more →
    map Some requests ≡ map (λ line. reading_of line.tokens) good → reading_of bad.tokens ≡ None →
    (fault_of bytes ≡ Some bad.end)
    × (length requests ≡ lines_before bad.end (stream_of bytes).lines)
fault_line bytes requests good more bad e read unread = (
  ap (λ first. option_or first (option_map place_of (stream_of bytes).fault))
      (ap first_malformed e ∙ one_unread good more bad requests read unread),
  same_count good requests read
      ∙ sym (good_before 0 good more bad (stream_of bytes).fault
      (subst (λ lines. AreRising 0 lines (stream_of bytes).fault) e (ends_rise bytes)))
      ∙ ap (lines_before bad.end) (sym e),
)

-- ---- a stream within its greeting

pub fault_none_greeting : (bytes : List ℕ) → (stream_of bytes).greeting ≡ None
    → (stream_of bytes).fault ≡ None → fault_of bytes ≡ None
fault_none_greeting bytes none no_fault =
    ap₂ option_or (ap first_malformed (no_lines_before_greeting bytes none))
    (ap (option_map place_of) no_fault)

pub fault_greeting : (bytes : List ℕ) (fault : Fault) → (stream_of bytes).greeting ≡ None
    → (stream_of bytes).fault ≡ Some fault → fault_of bytes ≡ Some (place_of fault)
fault_greeting bytes fault none some =
    ap₂ option_or (ap first_malformed (no_lines_before_greeting bytes none))
    (ap (option_map place_of) some)
