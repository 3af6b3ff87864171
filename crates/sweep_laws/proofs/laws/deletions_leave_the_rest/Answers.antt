use Rattle.std.proofs.Common.{refl}
use Rattle.sweep_laws.proofs.Left.{leaves-rest}
use Rattle.sweep_laws.proofs.laws.deletions_leave_the_rest.Goals as goal

pub returns-clause-left : goal.returns-clause-left
returns-clause-left c = leaves-rest

pub returns-clause-worked : goal.returns-clause-worked
returns-clause-worked c = record {
  without_a_comment = refl;
  without_two = refl;
  without_another = refl;
  without_none = refl;
}
