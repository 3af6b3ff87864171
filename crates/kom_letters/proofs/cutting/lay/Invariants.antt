use Rattle.std.proofs.Common.{◌≡◌, ◌≤◌, ◌++◌, drop}
use Rattle.kom_letters.specs.Lines.{lay_out}
use Rattle.kom_letters.proofs.cutting.lay.Given as goal

abbrev pub invariant-loop-i : goal.invariant-loop-i
invariant-loop-i l =
    (l.out.items ++ lay_out l.columns l.at (drop l.i l.letters)
    ≡ l.initial.out.items ++ lay_out l.columns l.initial.at l.letters) × (l.at ≤ l.columns)
