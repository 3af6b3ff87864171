use Rattle.std.proofs.Common.{rules}
use Rattle.std.proofs.lemmas.List.Sorted.{IsPartitionPoint-from_clause}
use Rattle.name_lookup.specs.Order.{is_below}
use Rattle.name_lookup.proofs.spots.first_among.Goals as goal

pub returns-clause-first : goal.returns-clause-first
returns-clause-first c =
    IsPartitionPoint-from_clause (is_below c.args.kept.now.entries c.args.by c.args.asked.now) c.args.numbers.now
    c.partition_point.result c.partition_point.ensures.partitioned c.requires (λ a r q k. search rules)
