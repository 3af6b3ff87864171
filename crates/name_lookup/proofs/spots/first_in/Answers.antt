use Rattle.std.proofs.Common.{◌≡◌, ℕ, ◌<◌, true, false, length, arith, rules}
use Rattle.std.specs.List.Sorted.{IsPartitionPoint}
use Rattle.std.specs.declared.alloc.Global.{Global}
use Rattle.std.specs.declared.vec.Vec.{Vec}
use Rattle.std.proofs.lemmas.List.Sorted.{IsPartitionPoint-from_clause}
use Rattle.name_lookup.specs.Order.{is_below, ends_below}
use Rattle.name_lookup.proofs.BlockLists.{start_of-end, start_of-rises, start_of-within}
use Rattle.name_lookup.proofs.Searching.{parted_blocks, parted_at, point_past, point_within}
use Rattle.name_lookup.proofs.spots.first_in.Goals as goal
use Rattle.name_lookup.proofs.spots.first_in.Goals.{After-partition_point-block}

pub count_in-start-requires : goal.count_in-start-requires
count_in-start-requires c =
    let blocks = c.args.blocks.now in
    omega (
      arith,
      start_of-rises c.partition_point-block.result (length blocks) blocks c.partition_point-block.ensures.bound,
      start_of-end blocks,
      c.requires.fits,
    )

-- where the blocks part
parted : (c : After-partition_point-block) →
    IsPartitionPoint
    (λ (block : Vec ℕ Global). ends_below c.args.kept.now.entries c.args.by c.args.asked.now block.items ≡ true)
    (λ (block : Vec ℕ Global). ends_below c.args.kept.now.entries c.args.by c.args.asked.now block.items ≡ false)
    c.args.blocks.now c.partition_point-block.result
parted c =
    IsPartitionPoint-from_clause
    (λ (block : Vec ℕ Global). ends_below c.args.kept.now.entries c.args.by c.args.asked.now block.items)
    c.args.blocks.now c.partition_point-block.result c.partition_point-block.ensures.partitioned
    (parted_blocks (is_below c.args.kept.now.entries c.args.by c.args.asked.now) c.args.blocks.now c.requires.blocks
    c.requires.parted)
    (λ a r q k. search rules)

pub first_among-requires : goal.first_among-requires
first_among-requires c =
    let blocks = c.args.blocks.now in
    let n = c.partition_point-block.result in
    let within : n < length blocks = omega (arith, c.partition_point-block.ensures.bound) in
    rw c.numbers_of.ensures.numbers
    (parted_at (is_below c.args.kept.now.entries c.args.by c.args.asked.now) n blocks within c.requires.parted)

pub overflow_add-result : goal.overflow_add-result
overflow_add-result c =
    let blocks = c.args.blocks.now in
    let n = c.partition_point-block.result in
    let within : n < length blocks = omega (arith, c.partition_point-block.ensures.bound) in
    omega (
      arith,
      start_of-within n blocks within,
      c.count_in-start.ensures,
      c.first_among.ensures.bound,
      c.numbers_of.ensures.len,
      c.requires.fits,
    )

pub returns-then-block-blocks-clause-first : goal.returns-then-block-blocks-clause-first
returns-then-block-blocks-clause-first c =
    let point = parted (goal.at.returns-then-block-blocks-clause-first c).After-partition_point-block in
    rw c.count_in-start.ensures
    (point_past (is_below c.args.kept.now.entries c.args.by c.args.asked.now) c.args.blocks.now
    c.partition_point-block.result c.requires.blocks c.requires.parted point.0 c.if-block-blocks.true)

pub returns-clause-bound : goal.returns-clause-bound
returns-clause-bound c =
    let blocks = c.args.blocks.now in
    let n = c.partition_point-block.result in
    let within : n < length blocks = omega (arith, c.partition_point-block.ensures.bound) in
    omega (
      arith,
      start_of-within n blocks within,
      c.count_in-start.ensures,
      c.first_among.ensures.bound,
      c.numbers_of.ensures.len,
    )

pub returns-clause-first : goal.returns-clause-first
returns-clause-first c =
    let blocks = c.args.blocks.now in
    let n = c.partition_point-block.result in
    let within : n < length blocks = omega (arith, c.partition_point-block.ensures.bound) in
    let point = parted (goal.at.returns-clause-first c).After-partition_point-block in
    rw c.count_in-start.ensures
    (point_within (is_below c.args.kept.now.entries c.args.by c.args.asked.now) blocks n c.first_among.result
    c.requires.blocks c.requires.parted within point
    (omega (arith, c.first_among.ensures.bound, c.numbers_of.ensures.len))
    (rw c.numbers_of.ensures.numbers at c.first_among.ensures.first))
