-- What a splitter keeps of the unit that has begun, and what a piece of the stream makes of it.
use Rattle.std.specs.Prelude.{◌≡◌, ℕ, ◌+◌, ◌-◌, ◌≤◌, List, [], ◌∷◌, ◌++◌, length, Option, Some}
use Rattle.std.specs.Prelude.{None, Result, Ok, Err}
use Rattle.kom_types.specs.declared.limits.TheConstants.{LONGEST_STREAM}
use Rattle.kom_types.specs.declared.shortage.Memory.{Memory}
use Rattle.kom_types.specs.declared.side.Side.{Side}
use Rattle.kom_types.specs.Stream as stream
use Rattle.kom_framing.specs.declared.fault.Fault.{Fault}
use Rattle.kom_framing.specs.declared.lines.Lines.{Lines}
use Rattle.kom_framing.specs.declared.lines.Scan.{Scan}
use Rattle.kom_framing.specs.declared.begun.BegunUnit.{BegunUnit}
use Rattle.kom_framing.specs.declared.begun.BegunUnit.TheVariants as begun_unit
use Rattle.kom_framing.specs.declared.begun.Mark.{Mark}
use Rattle.kom_framing.specs.declared.begun.Mark.TheVariants as mark
use Rattle.kom_framing.specs.declared.begun.Advanced.{Advanced}
use Rattle.kom_framing.specs.declared.begun.Advanced.TheVariants as advanced
use Rattle.kom_framing.specs.declared.units.Unit.{Unit as StreamUnit}
use Rattle.kom_framing.specs.declared.units.Unit.TheVariants as unit
use Rattle.kom_framing.specs.Spans.{tokens_of, AreTokens}
use Rattle.kom_framing.specs.Splitting.{Begun, Greeting, InLine, units_of, begun_of}
use Rattle.kom_framing.specs.BegunLines.{fault_seen, IsLine, Extends, Scans, units_at}
use Rattle.kom_framing.specs.BegunGreetings.{IsBegunGreeting, Lengthens, ScansGreeting}
use Rattle.kom_framing.specs.BegunGreetings.{greeting_kept}

-- what is kept of the unit that has begun
abbrev pub begun_seen : BegunUnit → Begun
begun_seen (begun_unit.Greeting greeting) = Greeting (greeting_kept greeting)
begun_seen (begun_unit.Line line) = InLine line.text.items

abbrev pub IsBegunUnit : Side → BegunUnit → Type 0
IsBegunUnit side (begun_unit.Greeting greeting) = IsBegunGreeting greeting
IsBegunUnit side (begun_unit.Line line) = IsLine side line

-- this much of the unit has come
abbrev pub IsMark : Mark → BegunUnit → Type 0
IsMark (mark.Greeting phase name) (begun_unit.Greeting greeting) =
    (phase ≡ greeting.phase) × (name ≡ length greeting.name.items)
IsMark (mark.Line lexer text starts) (begun_unit.Line line) =
    (lexer ≡ line.lexer) × (text ≡ length line.text.items) × (starts ≡ length line.starts.items)
IsMark (mark.Greeting phase name) (begun_unit.Line line) = ⊥
IsMark (mark.Line lexer text starts) (begun_unit.Greeting greeting) = ⊥

-- what the old unit has is a prefix of what the new one has
abbrev pub Keeps : BegunUnit → BegunUnit → Type 0
Keeps (begun_unit.Greeting old) (begun_unit.Greeting new) = Lengthens old.name.items new.name.items
Keeps (begun_unit.Line old) (begun_unit.Line new) =
    Lengthens old.text.items new.text.items × Extends old.starts.items new.starts.items
Keeps (begun_unit.Greeting old) (begun_unit.Line new) = ⊥
Keeps (begun_unit.Line old) (begun_unit.Greeting new) = ⊥

-- how a unit that has begun went through a piece of the stream that begins at this place
abbrev pub ScansUnit : Side → Result Scan Memory → ℕ → BegunUnit → List ℕ → BegunUnit → Type 0
ScansUnit side answer place (begun_unit.Greeting old) piece (begun_unit.Greeting new) =
    ScansGreeting answer place old piece new
ScansUnit side answer place (begun_unit.Line old) piece (begun_unit.Line new) =
    Scans side answer place old piece new
ScansUnit side answer place (begun_unit.Greeting old) piece (begun_unit.Line new) = ⊥
ScansUnit side answer place (begun_unit.Line old) piece (begun_unit.Greeting new) = ⊥

-- the units that one becomes which ends at this place
abbrev pub units_ended : BegunUnit → ℕ → List StreamUnit
units_ended (begun_unit.Greeting greeting) end = unit.Hello greeting.name.items ∷ []
units_ended (begun_unit.Line line) end = units_at (tokens_of line.text.items line.starts.items) end

abbrev pub CanEnd : BegunUnit → Type 0
CanEnd (begun_unit.Greeting greeting) = Unit {0}
CanEnd (begun_unit.Line line) = AreTokens line.text.items line.starts.items

-- These bytes were fed and these units taken, and there is no fault: the units taken and these are
-- the stream's, this is the unit that has begun, and this the place of the next byte.
pub record Stands (side : Side) (units : List StreamUnit) (begun : Begun) (place : ℕ)
    (fed : List ℕ) (taken : List StreamUnit) : Type 0 where
  pub all : units_of (stream.stream_by side fed) ≡ taken ++ units
  pub sound : (stream.stream_by side fed).fault ≡ None
  pub unit : begun ≡ begun_of side (stream.stream_by side fed)
  pub count : place ≡ length fed

-- the units taken and these are the stream's, which is at fault
pub record Falls (side : Side) (units : List StreamUnit) (found : Fault) (fed : List ℕ)
    (taken : List StreamUnit) : Type 0 where
  pub all : units_of (stream.stream_by side fed) ≡ taken ++ units
  pub fault : (stream.stream_by side fed).fault ≡ Some (fault_seen found)

-- the units taken and these are the stream's, which has this fault, or this begun line
abbrev pub Ends : Side → Option Fault → List StreamUnit → Begun → ℕ → List ℕ → List StreamUnit
    → Type 0
Ends side None units begun place fed taken = Stands side units begun place fed taken
Ends side (Some found) units begun place fed taken = Falls side units found fed taken

-- the whole piece was taken
pub record GoesOn (side : Side) (units : List StreamUnit) (old new : BegunUnit) (place : ℕ)
    (piece : List ℕ) : Type 0 where
  pub kept : IsBegunUnit side new
  pub early : place + length piece ≤ LONGEST_STREAM
  pub stands : (fed : List ℕ) (taken : List StreamUnit)
      → Stands side units (begun_seen old) place fed taken
      → Stands side units (begun_seen new) (place + length piece) (fed ++ piece) taken

-- the unit is at fault
pub record GoesWrong (side : Side) (units : List StreamUnit) (old new : BegunUnit) (place : ℕ)
    (piece : List ℕ) (found : Fault) : Type 0 where
  pub kept : IsBegunUnit side new
  pub falls : (fed : List ℕ) (taken : List StreamUnit)
      → Stands side units (begun_seen old) place fed taken
      → Falls side units found (fed ++ piece) taken

-- the unit ends with the last of so many bytes, and these lines are after it
pub record GoesPast (side : Side) (units : List StreamUnit) (old new : BegunUnit) (place : ℕ)
    (piece : List ℕ) (count : ℕ) (lines : Lines) : Type 0 where
  pub can_end : CanEnd new
  pub line : IsLine side lines.begun
  pub some : 1 ≤ count
  pub within : place + count ≤ LONGEST_STREAM
  pub early : lines.fault ≡ None → place + length piece ≤ LONGEST_STREAM
  pub ends : (fed : List ℕ) (taken : List StreamUnit)
      → Stands side units (begun_seen old) place fed taken
      → Ends side lines.fault (units ++ units_ended new (place + count - 1) ++ lines.whole.items)
      (InLine lines.begun.text.items) (place + length piece) (fed ++ piece) taken

-- nothing was taken
pub record IsSame (side : Side) (old new : BegunUnit) : Type 0 where
  pub kept : IsBegunUnit side new
  pub seen : begun_seen new ≡ begun_seen old

-- back at a mark, a unit is as it was there
abbrev pub Restores : Mark → BegunUnit → BegunUnit → Type 0
Restores mark old new =
    (side : Side) (marked : BegunUnit) → IsMark mark marked → IsBegunUnit side marked
    → Keeps marked old → IsSame side marked new

-- how the unit that has begun goes on with a piece that begins at this place, after these units
abbrev pub Advances : Side → Result Advanced Memory → List StreamUnit → BegunUnit → ℕ → List ℕ
    → BegunUnit → Type 0
Advances side (Ok advanced.Goes) units old place piece new = GoesOn side units old new place piece
Advances side (Ok (advanced.Fails found)) units old place piece new =
    GoesWrong side units old new place piece found
Advances side (Ok (advanced.Ends count lines)) units old place piece new =
    GoesPast side units old new place piece count lines
Advances side (Err memory) units old place piece new = IsSame side old new

-- how a splitter's units and its begun unit go on with a piece
abbrev pub Follows : Side → Result (Option Fault) Memory → List StreamUnit → BegunUnit → ℕ
    → List ℕ → List StreamUnit → BegunUnit → Type 0
Follows side (Ok found) units old place piece units_after new =
    (found ≡ None → place + length piece ≤ LONGEST_STREAM)
    × ((fed : List ℕ) (taken : List StreamUnit) → Stands side units (begun_seen old) place fed taken
    → Ends side found units_after (begun_seen new) (place + length piece) (fed ++ piece) taken)
Follows side (Err memory) units old place piece units_after new =
    (begun_seen new ≡ begun_seen old) × (units_after ≡ units)
