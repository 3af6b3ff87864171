use Rattle.std.proofs.Common.{◌≡◌, ◌++◌, drop}
use Rattle.std.specs.List.{filter_map}
use Rattle.kom_model.specs.calls.Conferences.{left_by_deletion}
use Rattle.conf_calls.proofs.deletion.left_by_deletion.Given as goal

-- with those of the sessions to come, the changes are as they will be
abbrev pub invariant-loop-place : goal.invariant-loop-place
invariant-loop-place l =
    l.changes ++ filter_map (left_by_deletion l.number) (drop l.place l.asked.seats)
    ≡ filter_map (left_by_deletion l.number) l.asked.seats
