-- What is taken stands in the room that there was.
use Rattle.std.proofs.Common.{◌≡◌, ◌-◌, vec_len, vec_capacity}
use Rattle.memory_links.proofs.planned_items.take_waiting.Given as goal

abbrev pub invariant-loop-place : goal.invariant-loop-place
invariant-loop-place l = vec_capacity l.into ≡ vec_capacity l.fn.into

abbrev pub decreases-loop-place : goal.decreases-loop-place
decreases-loop-place l = vec_len l.waiting - l.place
