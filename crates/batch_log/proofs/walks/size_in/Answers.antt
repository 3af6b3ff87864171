use Rattle.std.proofs.Common.{◌∙◌, arith}
use Rattle.batch_log.proofs.Finding.{size_of}
use Rattle.batch_log.proofs.walks.size_in.Goals as goal

pub returns-clause-size : goal.returns-clause-size
returns-clause-size c = c.from_le_bytes.ensures ∙ size_of c.args.head.now

pub returns-clause-bytes : goal.returns-clause-bytes
returns-clause-bytes c = λ k. omega (arith, c.type_inv.head k)
