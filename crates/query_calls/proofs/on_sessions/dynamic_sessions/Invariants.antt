use Rattle.std.proofs.Common.{◌≡◌, []}
use Rattle.kom_model.specs.calls.Sessions.{is_asked_for, dynamic_of}
use Rattle.kom_state.proofs.Pushing.{pushed_to}
use Rattle.query_calls.proofs.on_sessions.dynamic_sessions.Given as goal

-- the sessions before the place were told that are asked for
abbrev pub invariant-loop-place : goal.invariant-loop-place
invariant-loop-place l =
    l.told
    ≡ pushed_to (is_asked_for l.asked.moment l.visible l.invisible l.most) (dynamic_of l.asked) [] l.asked.seats l.place
