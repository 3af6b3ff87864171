use Rattle.std.proofs.Common.{◌≡◌, ◌<◌, length, ap, arith}
use Rattle.name_lookup.specs.Blocks.{numbers_at}
use Rattle.name_lookup.proofs.BlockLists.{numbers_at-read, start_of-within}
use Rattle.name_lookup.proofs.spots.count_in.Goals as goal

pub overflow_add-count : goal.overflow_add-count
overflow_add-count c =
    let blocks = c.args.blocks.now in
    let n = c.loop-numbers.numbers-index in
    let within : n < length blocks = omega arith in
    let read : numbers_at n blocks ≡ c.numbers-item.result.items =
    numbers_at-read n blocks c.numbers-item.result within c.numbers-item.is in
    omega (
      arith,
      ap length read,
      start_of-within n blocks within,
      c.requires,
      c.len-count.ensures,
      c.numbers-item.result.ok.0,
    )
