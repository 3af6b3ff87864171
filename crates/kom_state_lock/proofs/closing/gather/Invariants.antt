use Rattle.std.proofs.Common.{◌≡◌, [], All, vec_len}
use Rattle.kom_state_lock.specs.Steps.{IsSeatOf}
use Rattle.kom_state_lock.specs.Passes.{HoldsNoTurn}
use Rattle.kom_state_lock.proofs.Gathered.{AreGathered}
use Rattle.kom_state_lock.proofs.closing.gather.Given as goal

abbrev pub invariant-loop-pass : goal.invariant-loop-pass
invariant-loop-pass g l = record {
  table : IsSeatOf l.words.table_id l.seat;
  carries : l.seat.me.1 ≡ [];
  idle : HoldsNoTurn l.seat.me.0.turn;
  number : l.number ≡ l.seat.me.0.number;
  hall : All (λ p. p.table ≡ l.words.table_id) l.passes.items;
  free : All (λ p. HoldsNoTurn p.turn) l.passes.items;
  gathered : AreGathered l.fn.passes.items l.passes.items l.seat.me.0;
}

abbrev pub decreases-loop-pass : goal.decreases-loop-pass
decreases-loop-pass g l = vec_len l.passes
