use Rattle.std.proofs.Common.{Some, None}
use Rattle.kom_state_lock.proofs.steps.take_turn.Given as goal

-- the turn is told the value that the hall was made with
abbrev pub ghosts-wait_turn : goal.ghosts-wait_turn
ghosts-wait_turn g a = record { opening = Some a.words.now.key.value.value; entry = None; left = None }
