use Rattle.person_calls.proofs.Sent.{IsUnheard}
use Rattle.person_calls.proofs.on_messages.is_sent.Given as goal

abbrev pub invariant-loop-place : goal.invariant-loop-place
invariant-loop-place l = IsUnheard l.asked l.recipient l.place
