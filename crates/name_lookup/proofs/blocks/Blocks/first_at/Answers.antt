use Rattle.std.proofs.Common.{length, ap, arith}
use Rattle.name_lookup.specs.Blocks.{numbers_in}
use Rattle.name_lookup.proofs.blocks.Blocks.first_at.Goals as goal

pub first_in-requires-clause-fits : goal.first_in-requires-clause-fits
first_in-requires-clause-fits c =
    omega (
      arith,
      ap (λ l. length (numbers_in l)) c.as_slice.ensures.value,
      c.self.invariant.counted,
      c.self.invariant.few,
    )
