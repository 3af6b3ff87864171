use Rattle.std.proofs.Common.{◌≡◌, fold, filter, drop}
use Rattle.kom_reader.specs.Reading.{is_row_in}
use Rattle.kom_reader.specs.Steps.{first_in, lower}
use Rattle.kom_reader.proofs.finding.first_in.Given as goal

abbrev pub invariant-loop-row : goal.invariant-loop-row
invariant-loop-row l =
    fold lower l.first (filter (is_row_in l.conference) (drop l.row-index l.rows)) ≡ first_in l.conference l.rows
