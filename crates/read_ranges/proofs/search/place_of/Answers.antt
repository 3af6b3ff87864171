use Rattle.std.proofs.Common.{rules, ltb}
use Rattle.std.proofs.lemmas.List.Sorted.{IsPartitionPoint-from_clause}
use Rattle.read_ranges.proofs.Found.{ends_parted, place_from_point}
use Rattle.read_ranges.proofs.search.place_of.Goals as goal

pub returns : goal.returns
returns c =
    let facts = c.partition_point.ensures in
    place_from_point _ _ _ facts.bound
    (IsPartitionPoint-from_clause (λ r. ltb r.last c.args.n) _ _ facts.partitioned (ends_parted _ _ c.requires)
    (λ a r f called. search rules))
