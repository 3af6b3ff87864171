use Rattle.std.proofs.Common.{◌≡◌, []}
use Rattle.kom_types.specs.declared.session_changes.SessionChange.TheVariants as change
use Rattle.kom_model.specs.calls.Memberships.{is_in_conference}
use Rattle.kom_state.proofs.Pushing.{pushed_to}
use Rattle.member_calls.proofs.on_members.left_by.Given as goal

abbrev pub invariant-loop-place : goal.invariant-loop-place
invariant-loop-place l =
    l.changes
    ≡ pushed_to (is_in_conference l.person l.conference) (λ seat. change.Working seat.number 0) [] l.asked.seats l.place
