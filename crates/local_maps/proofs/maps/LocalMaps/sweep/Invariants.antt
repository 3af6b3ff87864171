use Rattle.std.proofs.Common.{◌≡◌, ℕ}
use Rattle.local_maps.specs.Maps.{pairs_of}
use Rattle.local_maps.proofs.maps.LocalMaps.sweep.Given as goal

-- every owner has the pairs that it had
abbrev pub invariant-loop : goal.invariant-loop
invariant-loop l = (owner : ℕ) → pairs_of l.self owner ≡ pairs_of l.fn.self owner
