-- The unit that has begun goes on with a piece of the stream: a greeting or a line.
use Rattle.std.proofs.Common.{ℕ, ◌+◌, List, drop, Ok, Err, sym, ap, subst, ◌∙◌}
use Rattle.kom_types.specs.declared.shortage.Memory.{Memory}
use Rattle.kom_types.specs.declared.side.Side.{Side}
use Rattle.kom_framing.specs.declared.fault.Fault.{Fault as CodeFault}
use Rattle.kom_framing.specs.declared.lines.BegunLine.{BegunLine}
use Rattle.kom_framing.specs.declared.lines.Lines.{Lines}
use Rattle.kom_framing.specs.declared.lines.Scan.TheVariants as scan
use Rattle.kom_framing.specs.declared.greeting.Phase.{Phase}
use Rattle.kom_framing.specs.declared.greeting.Greeting.{Greeting as CodeGreeting}
use Rattle.kom_framing.specs.declared.begun.BegunUnit.{BegunUnit}
use Rattle.kom_framing.specs.declared.begun.BegunUnit.TheVariants as begun_unit
use Rattle.kom_framing.specs.declared.units.Unit.{Unit as StreamUnit}
use Rattle.kom_framing.specs.Splitting.{Greeting, InLine}
use Rattle.kom_framing.specs.BegunLines.{IsLine, IsSame as SameLine}
use Rattle.kom_framing.specs.BegunGreetings.{IsGreeting, opening_kept, IsBegunGreeting, IsSame as SameGreeting}
use Rattle.kom_framing.specs.WholeLines.{AreLines}
use Rattle.kom_framing.specs.Advancing.{IsBegunUnit, ScansUnit, GoesOn, GoesWrong, GoesPast, IsSame}
use Rattle.kom_framing.proofs.BegunLines.{same_line}
use Rattle.kom_framing.proofs.Fed.{line_goes_on, line_goes_wrong, line_goes_past, greeting_goes_on, greeting_goes_wrong}
use Rattle.kom_framing.proofs.Fed.{greeting_goes_past}

module _ (side : Side) where
  pub unit_goes_on : (units : List StreamUnit) (place : ℕ) (old new : BegunUnit) (piece : List ℕ)
      → ScansUnit side (Ok scan.Goes) place old piece new → GoesOn side units old new place piece
  unit_goes_on units place (begun_unit.Greeting old) (begun_unit.Greeting new) piece scanned =
      greeting_goes_on side units place old new piece scanned
  unit_goes_on units place (begun_unit.Line old) (begun_unit.Line new) piece scanned =
      line_goes_on side units place old new piece scanned
  unit_goes_on units place (begun_unit.Greeting old) (begun_unit.Line new) piece scanned = absurd scanned
  unit_goes_on units place (begun_unit.Line old) (begun_unit.Greeting new) piece scanned = absurd scanned

  pub unit_goes_wrong : (units : List StreamUnit) (place : ℕ) (old new : BegunUnit) (piece : List ℕ) (found : CodeFault)
      → ScansUnit side (Ok (scan.Fails found)) place old piece new → GoesWrong side units old new place piece found
  unit_goes_wrong units place (begun_unit.Greeting old) (begun_unit.Greeting new) piece found scanned =
      greeting_goes_wrong side units place old new piece found scanned
  unit_goes_wrong units place (begun_unit.Line old) (begun_unit.Line new) piece found scanned =
      line_goes_wrong side units place old new piece found scanned
  unit_goes_wrong units place (begun_unit.Greeting old) (begun_unit.Line new) piece found scanned = absurd scanned
  unit_goes_wrong units place (begun_unit.Line old) (begun_unit.Greeting new) piece found scanned = absurd scanned

  pub unit_goes_past : (units : List StreamUnit) (place count : ℕ) (old new : BegunUnit) (piece : List ℕ)
      (lines : Lines)
      → ScansUnit side (Ok (scan.Ends count)) place old piece new
      → AreLines side lines (place + count) (drop count piece)
      → GoesPast side units old new place piece count lines
  unit_goes_past units place count (begun_unit.Greeting old) (begun_unit.Greeting new) piece lines scanned tail =
      greeting_goes_past side units place count old new piece lines scanned tail
  unit_goes_past units place count (begun_unit.Line old) (begun_unit.Line new) piece lines scanned tail =
      line_goes_past side units place count old new piece lines scanned tail
  unit_goes_past units place count (begun_unit.Greeting old) (begun_unit.Line new) piece lines scanned tail =
      absurd scanned
  unit_goes_past units place count (begun_unit.Line old) (begun_unit.Greeting new) piece lines scanned tail =
      absurd scanned

  same_greeting : (old new : CodeGreeting) → SameGreeting old new → IsBegunGreeting old
      → IsSame side (begun_unit.Greeting old) (begun_unit.Greeting new)
  same_greeting old new same begun = record {
    kept = subst (λ (p : Phase). IsGreeting p new.name.items) (sym same.phase)
        (subst (IsGreeting old.phase) (sym same.name) begun);
    seen = ap (λ (p : Phase). Greeting (opening_kept p new.name.items)) same.phase
        ∙ ap (λ (n : List ℕ). Greeting (opening_kept old.phase n)) same.name;
  }

  same_begun_line : (old new : BegunLine) → SameLine old new → IsLine side old
      → IsSame side (begun_unit.Line old) (begun_unit.Line new)
  same_begun_line old new same line = record { kept = same_line side old new same line; seen = ap InLine same.text }

  -- a unit that memory ran out for
  pub unit_stays : (place : ℕ) (old new : BegunUnit) (piece : List ℕ) (memory : Memory)
      → ScansUnit side (Err memory) place old piece new → IsBegunUnit side old → IsSame side old new
  unit_stays place (begun_unit.Greeting old) (begun_unit.Greeting new) piece memory scanned begun =
      same_greeting old new scanned begun
  unit_stays place (begun_unit.Line old) (begun_unit.Line new) piece memory scanned begun =
      same_begun_line old new scanned begun
  unit_stays place (begun_unit.Greeting old) (begun_unit.Line new) piece memory scanned begun = absurd scanned
  unit_stays place (begun_unit.Line old) (begun_unit.Greeting new) piece memory scanned begun = absurd scanned
