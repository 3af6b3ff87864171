-- What a line is read as.
use Rattle.std.specs.Prelude.{◌≡◌, ℕ, Bool, false, IsTrue, List, [], ◌∷◌, Option, Some, None}
use Rattle.std.specs.Prelude.{Result, Ok, Err}
use Rattle.kom_types.specs.declared.errors.TheConstants as error
use Rattle.kom_types.specs.declared.calls.Call.{Call}
use Rattle.kom_types.specs.declared.calls.Call.TheVariants as call
use Rattle.kom_types.specs.Reading.{Request}
use Rattle.kom_types.specs.Token.{Token, integer_of}
use Rattle.kom_calls.specs.declared.reader.CallFault.{CallFault}
use Rattle.kom_calls.specs.declared.reader.CallFault.TheVariants as fault
use Rattle.kom_calls.specs.Reads.{takes_room}

-- a result as a reading: what is refused is the call that its error and status tell
abbrev pub reading_told : Result (ℕ × Call) CallFault → Option Request
reading_told (Ok read) = Some (record { reference = read.0; call = read.1 })
reading_told (Err (fault.Unknown reference)) =
    Some (record { reference = reference; call = call.Refused error.NOT_IMPLEMENTED 0 })
reading_told (Err (fault.BadBool reference)) =
    Some (record { reference = reference; call = call.Refused error.BAD_BOOL 0 })
reading_told (Err (fault.LongArray reference)) =
    Some (record { reference = reference; call = call.Refused error.LONG_ARRAY 0 })
reading_told (Err fault.Malformed) = None
reading_told (Err fault.Memory) = None

-- the result tells the line's reading, unless memory ran out
abbrev pub TellsReading : Option Request → Result (ℕ × Call) CallFault → Type 0
TellsReading reading (Err fault.Memory) = Unit {0}
TellsReading reading result = reading ≡ reading_told result

-- whether the call of these tokens has a string or an array
abbrev pub line_takes_room : List Token → Bool
line_takes_room [] = false
line_takes_room (reference ∷ []) = false
line_takes_room (reference ∷ number ∷ arguments) =
    elim (integer_of number) [ Some n ↦ takes_room n | None ↦ false ]

-- out of memory is told only of such a line
abbrev pub NeedsRoom : Result (ℕ × Call) CallFault → List Token → Type 0
NeedsRoom (Err fault.Memory) tokens = IsTrue (line_takes_room tokens)
NeedsRoom result tokens = Unit {0}
