use Rattle.kom_journal.proofs.Wholeness.{whole_empty}
use Rattle.kom_journal.proofs.rows.MadeRows.empty.Goals as goal

pub invariant_of-result : goal.invariant_of-result
invariant_of-result c = whole_empty c.empty.result.db c.empty.ensures
