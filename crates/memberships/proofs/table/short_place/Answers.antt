use Rattle.std.proofs.Common.{arith}
use Rattle.memberships.proofs.Places.{length-le-different}
use Rattle.memberships.proofs.table.short_place.Goals as goal

pub overflow_cast-result : goal.overflow_cast-result
overflow_cast-result c =
    omega (
      arith,
      length-le-different c.args.list.now 4294967296 c.requires.different
          (λ i within. omega (arith, c.type_inv.list i)),
    )
