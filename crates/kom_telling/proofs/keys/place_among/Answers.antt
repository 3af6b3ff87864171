use Rattle.std.proofs.Common.{ltb, rules}
use Rattle.std.proofs.lemmas.List.Sorted.{IsPartitionPoint-from_clause, IsPartitionedBy-ltb}
use Rattle.kom_telling.proofs.Ranks.{count-parted, parted-rises}
use Rattle.kom_telling.proofs.keys.place_among.Goals as goal

pub returns-clause-count : goal.returns-clause-count
returns-clause-count c =
    let facts = c.partition_point.ensures in
    count-parted c.args.limit c.args.numbers.now _ facts.bound
    (IsPartitionPoint-from_clause (λ n. ltb n c.args.limit) _ _ facts.partitioned
    (IsPartitionedBy-ltb (λ n. n) c.args.numbers.now c.args.limit c.requires) (λ a r f called. search rules))

pub returns-clause-rising : goal.returns-clause-rising
returns-clause-rising c =
    let facts = c.partition_point.ensures in
    parted-rises c.args.limit c.args.numbers.now _ facts.bound c.requires
    (IsPartitionPoint-from_clause (λ n. ltb n c.args.limit) _ _ facts.partitioned
    (IsPartitionedBy-ltb (λ n. n) c.args.numbers.now c.args.limit c.requires) (λ a r f called. search rules))
