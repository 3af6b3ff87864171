use Rattle.std.proofs.Common.{◌≡◌, ◌+◌, [], vec_len, vec_capacity}
use Rattle.kom_state_lock.specs.Views.{newcomer}
use Rattle.kom_state_lock.proofs.Dealt.{AreDealt}
use Rattle.kom_state_lock.proofs.dealing.deal.Given as goal

abbrev pub invariant-loop-number : goal.invariant-loop-number
invariant-loop-number g l = record {
  table : l.seat.table_id ≡ l.words.table_id;
  me : l.seat.me ≡ (newcomer 0 [] 0 l.number, []);
  dealt : AreDealt l.words.table_id l.number l.row.items;
  len : vec_len l.row + 1 ≡ l.number;
  room : vec_capacity l.row ≡ l.passes;
}
