use Rattle.std.proofs.Common.{arith}
use Rattle.std.proofs.lemmas.Grind.{common_steps}
use Rattle.effect_codec.proofs.Again.{length-coded_ranges}
use Rattle.effect_codec.proofs.parts.part_len.Goals as goal

pub returns-in-ReadSet : goal.returns-in-ReadSet
returns-in-ReadSet c = grind (arith, common_steps, length-coded_ranges)
