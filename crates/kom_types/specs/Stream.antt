use Rattle.std.specs.Prelude.{ℕ, ◌+◌, Bool, true, false, nat_lt, List, [], ◌∷◌, ◌++◌, length}
use Rattle.std.specs.Prelude.{Option, Some, None}
use Rattle.kom_types.specs.declared.limits.TheConstants.{LONGEST_LINE, LONGEST_STREAM}
use Rattle.kom_types.specs.declared.side.Side.{Side}
use Rattle.kom_types.specs.declared.side.Side.TheVariants as side
use Rattle.kom_types.specs.Token.{Token}
use Rattle.kom_types.specs.Grammar.{Form, Prefix, Whole, Unfit, line_form, greeting_form}

-- a line's tokens, of which there is at least one, and the place of its line feed in the stream
pub record Line : Type 0 where
  pub tokens : List Token
  pub end : ℕ

-- the first fault of a stream, with the place of the byte that departs
pub data Fault : Type 0 where
  Malformed : ℕ → Fault
  LineTooLong : ℕ → Fault

-- What a stream is: its greeting if it is complete, its lines that are not blank, the bytes of the
-- unit that has begun, and the first fault.
pub record Split : Type 0 where
  pub greeting : Option (List ℕ)
  pub lines : List Line
  pub rest : List ℕ
  pub fault : Option Fault

-- what the last byte of a prefix makes of the unit that it belongs to
pub data Verdict (X : Type 0) : Type 0 where
  GoesOn : Verdict X
  Ends : X → Verdict X
  Fails : Fault → Verdict X

-- The byte at this place is the last of a prefix of this form. A byte that fits nowhere goes before
-- one too many.
abbrev pub verdict : {X : Type 0} → ℕ → Bool → Form X → Verdict X
verdict place too_long Unfit = Fails (Malformed place)
verdict place too_long Prefix = elim (nat_lt place LONGEST_STREAM) [
  | true ↦ elim too_long [ true ↦ Fails (LineTooLong place) | false ↦ GoesOn ]
  | false ↦ Fails (Malformed place)
]
verdict place too_long (Whole unit) = elim (nat_lt place LONGEST_STREAM) [
  | true ↦ elim too_long [ true ↦ Fails (LineTooLong place) | false ↦ Ends unit ]
  | false ↦ Fails (Malformed place)
]

abbrev pub line_verdict : Side → ℕ → List ℕ → Verdict (List Token)
line_verdict side place prefix =
    verdict place (nat_lt LONGEST_LINE (length prefix)) (line_form side prefix)

abbrev pub greeting_verdict : Side → ℕ → List ℕ → Verdict (List ℕ)
greeting_verdict side place prefix = verdict place false (greeting_form side prefix)

-- a line before the others; a blank one is skipped
abbrev pub with_line : List Token → ℕ → Split → Split
with_line [] end split = split
with_line (token ∷ tokens) end split =
    record split { lines = record { tokens = token ∷ tokens; end = end } ∷ split.lines }

-- a stream that has come to its end, or to its first fault, within this unit
abbrev pub stopped_in : List ℕ → Option Fault → Split
stopped_in text fault = record { greeting = None; lines = []; rest = text; fault = fault }

-- The lines of a stream, from the byte at `place` on: each is the shortest prefix of what is left
-- that is whole. `text` is the prefix that has been looked at. The first byte that makes a prefix
-- unfit or too long is the fault.
abbrev pub lines_from : Side → ℕ → List ℕ → List ℕ → Split
lines_from side place text [] = stopped_in text None
lines_from side place text (byte ∷ bytes) = elim (line_verdict side place (text ++ byte ∷ [])) [
  | GoesOn ↦ lines_from side (place + 1) (text ++ byte ∷ []) bytes
  | Ends tokens ↦ with_line tokens place (lines_from side (place + 1) [] bytes)
  | Fails fault ↦ stopped_in text (Some fault)
]

-- the same of the greeting, which is the shortest prefix of the stream that is whole, and of the
-- lines after it
abbrev pub greeting_from : Side → ℕ → List ℕ → List ℕ → Split
greeting_from side place text [] = stopped_in text None
greeting_from side place text (byte ∷ bytes) =
    elim (greeting_verdict side place (text ++ byte ∷ [])) [
      | GoesOn ↦ greeting_from side (place + 1) (text ++ byte ∷ []) bytes
      | Ends name ↦ record (lines_from side (place + 1) [] bytes) { greeting = Some name }
      | Fails fault ↦ stopped_in text (Some fault)
    ]

-- The stream of a client or of a server, whole: a greeting followed by lines.
abbrev pub stream_by : Side → List ℕ → Split
stream_by side bytes = greeting_from side 0 [] bytes

-- A client's stream.
abbrev pub stream_of : List ℕ → Split
stream_of bytes = stream_by side.Client bytes
