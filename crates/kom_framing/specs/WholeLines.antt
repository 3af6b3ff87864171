-- The lines of a piece that begins with a line.
use Rattle.std.specs.Prelude.{◌≡◌, ℕ, ◌+◌, ◌-◌, ◌≤◌, List, [], ◌++◌, length, drop, map, Option}
use Rattle.std.specs.Prelude.{Some, None, option_map, Result, Ok, Err}
use Rattle.kom_types.specs.declared.limits.TheConstants.{LONGEST_STREAM}
use Rattle.kom_types.specs.declared.shortage.Memory.{Memory}
use Rattle.kom_types.specs.declared.side.Side.{Side}
use Rattle.kom_types.specs.Token.{Token}
use Rattle.kom_types.specs.Stream as stream
use Rattle.kom_framing.specs.declared.lines.Lines.{Lines}
use Rattle.kom_framing.specs.declared.units.Unit.{Unit as StreamUnit}
use Rattle.kom_framing.specs.declared.units.Unit.TheVariants as unit
use Rattle.kom_framing.specs.BegunLines.{fault_seen, IsLine, units_at}

-- these lines, the one that has begun and the fault are those of the piece
pub record AreLines (side : Side) (lines : Lines) (place : ℕ) (piece : List ℕ) : Type 0 where
  pub whole : lines.whole.items ≡ map unit.Line (stream.lines_from side place [] piece).lines
  pub fault : option_map fault_seen lines.fault ≡ (stream.lines_from side place [] piece).fault
  pub rest : lines.fault ≡ None
      → lines.begun.text.items ≡ (stream.lines_from side place [] piece).rest
  pub line : IsLine side lines.begun
  pub early : lines.fault ≡ None → place + length piece ≤ LONGEST_STREAM

-- these units, and then those of what is left, are those of the whole
pub record Continues (units : List StreamUnit) (more all : stream.Split) : Type 0 where
  pub lines : map unit.Line all.lines ≡ units ++ map unit.Line more.lines
  pub rest : all.rest ≡ more.rest
  pub fault : all.fault ≡ more.fault

-- a piece begins with a line of so many bytes, which is added to the units
pub record AddsTo (count place : ℕ) (piece : List ℕ) (old new : List StreamUnit) : Type 0 where
  pub tokens : List Token
  pub some : 1 ≤ count
  pub within : count ≤ length piece
  pub early : place + count ≤ LONGEST_STREAM
  pub units : new ≡ old ++ units_at tokens (place + count - 1)
  pub split : (side : Side) → stream.lines_from side place [] piece
      ≡ stream.with_line tokens (place + count - 1)
      (stream.lines_from side (place + count) [] (drop count piece))

-- how the line with which a piece begins is added to the units
abbrev pub AddsLine : Result (Option ℕ) Memory → ℕ → List ℕ → List StreamUnit → List StreamUnit
    → Type 0
AddsLine (Ok (Some count)) place piece old new = AddsTo count place piece old new
AddsLine (Ok None) place piece old new = new ≡ old
AddsLine (Err memory) place piece old new = new ≡ old

-- the lines of the first bytes of a piece, so many, were added to the units
pub record AddsUpTo (at place : ℕ) (piece : List ℕ) (old new : List StreamUnit) : Type 0 where
  pub added : List StreamUnit
  pub within : at ≤ length piece
  pub early : place + at ≤ LONGEST_STREAM
  pub units : new ≡ old ++ added
  pub split : (side : Side) → Continues added
      (stream.lines_from side (place + at) [] (drop at piece))
      (stream.lines_from side place [] piece)

-- a piece is whole lines, which were added to the units
abbrev pub AddsAll : ℕ → List ℕ → List StreamUnit → List StreamUnit → Type 0
AddsAll place piece old new = AddsUpTo (length piece) place piece old new
