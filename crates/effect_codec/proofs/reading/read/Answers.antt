use Rattle.std.proofs.Common.{arith}
use Rattle.effect_codec.specs.Laws.{AreBytes}
use Rattle.effect_codec.proofs.Found.{length-left, effect_found, effect_spelled}
use Rattle.effect_codec.proofs.reading.read.Goals as goal

pub overflow_sub-result : goal.overflow_sub-result
overflow_sub-result c =
    let are : AreBytes c.args.bytes.now = λ k. omega (arith, c.type_inv.bytes k) in
    let read = rw c.of-from.ensures at c.in-Ok.ensures in
    omega (arith, length-left c.in-Ok.effect c.args.bytes.now c.next_effect.new.from are read, c.len.ensures)

pub returns-in-Ok-clause-gives : goal.returns-in-Ok-clause-gives
returns-in-Ok-clause-gives c =
    let are : AreBytes c.args.bytes.now = λ k. omega (arith, c.type_inv.bytes k) in
    let read = rw c.of-from.ensures at c.in-Ok.ensures in
    effect_found c.in-Ok.effect c.args.bytes.now c.next_effect.new.from _ are read c.len.ensures

pub returns-in-Ok-clause-spelled : goal.returns-in-Ok-clause-spelled
returns-in-Ok-clause-spelled c =
    let are : AreBytes c.args.bytes.now = λ k. omega (arith, c.type_inv.bytes k) in
    let read = rw c.of-from.ensures at c.in-Ok.ensures in
    effect_spelled c.in-Ok.effect c.args.bytes.now c.next_effect.new.from _ are read c.len.ensures
