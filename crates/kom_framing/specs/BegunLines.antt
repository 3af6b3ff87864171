-- A line that has begun, and what a piece of the stream makes of it.
use Rattle.std.specs.Prelude.{◌≡◌, ℕ, ◌+◌, ◌-◌, ◌<◌, ◌≤◌, List, [], ◌∷◌, ◌++◌, length, take, drop}
use Rattle.std.specs.Prelude.{Option, Some, None, Result, Ok, Err}
use Rattle.kom_types.specs.declared.limits.TheConstants.{LONGEST_LINE, LONGEST_STREAM}
use Rattle.kom_types.specs.declared.shortage.Memory.{Memory}
use Rattle.kom_types.specs.declared.side.Side.{Side}
use Rattle.kom_types.specs.Token.{Token}
use Rattle.kom_types.specs.Stream as stream
use Rattle.kom_framing.specs.declared.fault.Fault.{Fault}
use Rattle.kom_framing.specs.declared.fault.Fault.TheVariants as fault
use Rattle.kom_framing.specs.declared.lines.BegunLine.{BegunLine}
use Rattle.kom_framing.specs.declared.lines.Reading.{Reading}
use Rattle.kom_framing.specs.declared.lines.Reading.TheVariants as reading
use Rattle.kom_framing.specs.declared.lines.Scan.{Scan}
use Rattle.kom_framing.specs.declared.lines.Scan.TheVariants as scan
use Rattle.kom_framing.specs.declared.units.Unit.{Unit as StreamUnit}
use Rattle.kom_framing.specs.declared.units.Unit.TheVariants as unit
use Rattle.kom_framing.specs.Spans.{tokens_of, AreTokens}
use Rattle.kom_framing.specs.Lexing.{LexerState, Going, Ended, Stuck, walk}
use Rattle.kom_framing.specs.Scanning.{IsBegun}

abbrev pub fault_seen : Fault → stream.Fault
fault_seen (fault.Malformed place) = stream.Malformed place
fault_seen (fault.LineTooLong place) = stream.LineTooLong place

-- what is kept is that of a line that goes on
pub record IsLine (side : Side) (line : BegunLine) : Type 0 where
  pub begun : IsBegun side line.text.items line.starts.items line.lexer
  pub short : length line.text.items ≤ LONGEST_LINE

abbrev pub IsGoing : LexerState → Type 0
IsGoing (Going tokens mode) = Unit {0}
IsGoing (Ended tokens) = ⊥
IsGoing Stuck = ⊥

-- places were added after the old ones, and none was changed
abbrev pub Extends : List ℕ → List ℕ → Type 0
Extends old new = take (length old) new ≡ old

-- the line ends with the last of so many bytes of a window
pub record EndsIn (side : Side) (text window : List ℕ) (starts : List ℕ)
    (count : ℕ) : Type 0 where
  pub some : 1 ≤ count
  pub within : count ≤ length window
  pub ended : walk side (text ++ take count window)
      ≡ Ended (tokens_of (text ++ take count window) starts)
  pub whole : AreTokens (text ++ take count window) starts

-- the byte of a window at this index is the first that fits nowhere
pub record IsUnfitAt (side : Side) (text window : List ℕ) (at : ℕ) : Type 0 where
  pub within : at < length window
  pub going : IsGoing (walk side (text ++ take at window))
  pub stuck : walk side (text ++ take (at + 1) window) ≡ Stuck

-- how a window was read after these bytes of the line
abbrev pub Reads : Side → Result Reading Memory → List ℕ → List ℕ → List ℕ → Type 0
Reads side (Ok (reading.Goes after)) text window starts = IsBegun side (text ++ window) starts after
Reads side (Ok (reading.Ends count)) text window starts = EndsIn side text window starts count
Reads side (Ok (reading.Unfit at)) text window starts = IsUnfitAt side text window at
Reads side (Err memory) text window starts = Unit {0}

-- the line is as it was
pub record IsSame (old new : BegunLine) : Type 0 where
  pub text : new.text.items ≡ old.text.items
  pub starts : new.starts.items ≡ old.starts.items
  pub lexer : new.lexer ≡ old.lexer

-- the line has these bytes more
pub record Grows (old new : BegunLine) (bytes : List ℕ) : Type 0 where
  pub text : new.text.items ≡ old.text.items ++ bytes
  pub extends : Extends old.starts.items new.starts.items

-- the line is as it was, but for places of tokens that were added
pub record Adds (old new : BegunLine) : Type 0 where
  pub text : new.text.items ≡ old.text.items
  pub extends : Extends old.starts.items new.starts.items
  pub lexer : new.lexer ≡ old.lexer

-- how a window was taken, where an error may leave places that were added
abbrev pub Tries : Side → Result Reading Memory → BegunLine → List ℕ → BegunLine → Type 0
Tries side (Ok (reading.Goes after)) old window new =
    Grows old new window × IsBegun side new.text.items new.starts.items new.lexer
Tries side (Ok (reading.Ends count)) old window new =
    Grows old new (take count window) × EndsIn side old.text.items window new.starts.items count
Tries side (Ok (reading.Unfit at)) old window new =
    Adds old new × IsUnfitAt side old.text.items window at
Tries side (Err memory) old window new = Adds old new

-- how the line that a window begins with was taken, where an error may leave places that were added
abbrev pub TakesWhole : Side → Result (Option ℕ) Memory → BegunLine → List ℕ → BegunLine → Type 0
TakesWhole side (Ok (Some count)) old window new =
    Grows old new (take count window) × EndsIn side old.text.items window new.starts.items count
TakesWhole side (Ok None) old window new = IsSame old new
TakesWhole side (Err memory) old window new = Adds old new

-- how a window was taken
abbrev pub Takes : Side → Result Reading Memory → BegunLine → List ℕ → BegunLine → Type 0
Takes side (Ok (reading.Goes after)) old window new = Grows old new window × IsLine side new
Takes side (Ok (reading.Ends count)) old window new =
    Grows old new (take count window) × EndsIn side old.text.items window new.starts.items count
Takes side (Ok (reading.Unfit at)) old window new =
    IsSame old new × IsUnfitAt side old.text.items window at
Takes side (Err memory) old window new = IsSame old new

-- the stream from this place on ends with this fault before another line is whole
pub record FailsAt (side : Side) (place : ℕ) (text piece : List ℕ) (found : Fault) : Type 0 where
  pub rest : List ℕ
  pub split : stream.lines_from side place text piece
      ≡ stream.stopped_in rest (Some (fault_seen found))

-- the line takes the whole piece, and goes on
pub record ScansOn (side : Side) (place : ℕ) (old : BegunLine) (piece : List ℕ) (new : BegunLine)
    : Type 0 where
  pub grows : Grows old new piece
  pub line : IsLine side new
  pub early : place + length piece ≤ LONGEST_STREAM
  pub split : stream.lines_from side place old.text.items piece
      ≡ stream.stopped_in new.text.items None

-- the line ends with the last of so many bytes of the piece
pub record ScansTo (side : Side) (count place : ℕ) (old : BegunLine) (piece : List ℕ)
    (new : BegunLine) : Type 0 where
  pub grows : Grows old new (take count piece)
  pub some : 1 ≤ count
  pub within : count ≤ length piece
  pub early : place + count ≤ LONGEST_STREAM
  pub whole : AreTokens new.text.items new.starts.items
  pub split : stream.lines_from side place old.text.items piece
      ≡ stream.with_line (tokens_of new.text.items new.starts.items) (place + count - 1)
      (stream.lines_from side (place + count) [] (drop count piece))

-- how a line went through a piece of the stream that begins at this place
abbrev pub Scans : Side → Result Scan Memory → ℕ → BegunLine → List ℕ → BegunLine → Type 0
Scans side (Ok scan.Goes) place old piece new = ScansOn side place old piece new
Scans side (Ok (scan.Ends count)) place old piece new = ScansTo side count place old piece new
Scans side (Ok (scan.Fails found)) place old piece new =
    FailsAt side place old.text.items piece found × IsLine side new
Scans side (Err memory) place old piece new = IsSame old new

-- the unit that a line is
abbrev pub units_at : List Token → ℕ → List StreamUnit
units_at [] end = []
units_at (token ∷ tokens) end = unit.Line (record { tokens = token ∷ tokens; end = end }) ∷ []
