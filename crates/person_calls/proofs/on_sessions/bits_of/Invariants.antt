use Rattle.std.proofs.Common.{◌≡◌, drop}
use Rattle.kom_model.specs.calls.Sessions.{accepted_bits}
use Rattle.person_calls.proofs.Messages.{with_bits}
use Rattle.person_calls.proofs.on_sessions.bits_of.Given as goal

-- the bits so far and those of what is left are those of all
abbrev pub invariant-loop-number : goal.invariant-loop-number
invariant-loop-number l = with_bits l.bits (drop l.number-index l.numbers) ≡ accepted_bits l.numbers
