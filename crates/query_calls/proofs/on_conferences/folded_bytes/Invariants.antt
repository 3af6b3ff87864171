use Rattle.std.proofs.Common.{◌≡◌, ℕ, ◌<◌, length, get_or}
use Rattle.kom_types.specs.Names.{fold}
use Rattle.query_calls.proofs.on_conferences.folded_bytes.Given as goal

abbrev pub invariant-loop-byte : goal.invariant-loop-byte
invariant-loop-byte l = (length l.table ≡ 256) × ((k : ℕ) → k < l.byte → get_or l.table k 0 ≡ fold k)
