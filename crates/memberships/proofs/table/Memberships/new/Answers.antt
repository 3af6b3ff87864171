use Rattle.memberships.proofs.Finding.{IsTable-empty, rows-empty, reads-empty}
use Rattle.memberships.proofs.Secrets.{AreSecrets-empty}
use Rattle.memberships.proofs.table.Memberships.new.Goals as goal

pub invariant_of-result : goal.invariant_of-result
invariant_of-result c = (
  IsTable-empty _ _ _ _ c.new.ensures.empty c.new-2.ensures c.new-3.ensures,
  AreSecrets-empty _ _ _ (rows-empty _ _ c.new.ensures.empty) c.new-4.ensures c.new-5.ensures,
)

pub returns-clause-rows : goal.returns-clause-rows
returns-clause-rows c = rows-empty _ _ c.new.ensures.empty

pub returns-clause-reads : goal.returns-clause-reads
returns-clause-reads c = reads-empty _ c.new.ensures.empty
