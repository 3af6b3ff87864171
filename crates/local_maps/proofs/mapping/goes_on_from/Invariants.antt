use Rattle.std.proofs.Common.{◌≡◌, ◌<◌, ◌^◌, drop}
use Rattle.kom_types.specs.Mappings.{goes_on_from}
use Rattle.local_maps.proofs.mapping.goes_on_from.Given as goal

abbrev pub invariant-loop-pair : goal.invariant-loop-pair
invariant-loop-pair l =
    (l.last < 2 ^ 32) × (goes_on_from l.last (drop l.pair-index l.pairs) ≡ goes_on_from l.local l.pairs)
