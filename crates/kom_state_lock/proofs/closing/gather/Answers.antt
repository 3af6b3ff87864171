use Rattle.std.proofs.Common.{◌≡◌, Some, sym, ap, ◌∙◌, subst}
use Rattle.std.proofs.lemmas.List.Elements.{All-pop}
use Rattle.kom_state_lock.specs.Passes.{HoldsNoTurn}
use Rattle.kom_state_lock.proofs.Gathered.{one_gathered}
use Rattle.kom_state_lock.proofs.closing.gather.Goals as goal

pub loop-pass-preserved : goal.loop-pass-preserved
loop-pass-preserved g c =
    let now = c.loop-pass.invariant in
    let new = c.join.ensures in
    let pop = c.in-Some.ensures.items in record {
      table = (now.table.0, new.seat.0 ∙ now.table.1);
      carries = ap (λ m. m.1) new.both ∙ now.carries;
      idle = subst (λ m. HoldsNoTurn m.0.turn) (sym new.both) now.idle;
      number = now.number ∙ sym (ap (λ m. m.0.number) new.both);
      hall = (All-pop (λ p. p.table ≡ c.args.words.now.table_id) c.loop-pass.passes.items
          c.pop-in-loop-pass.new.self.items (Some c.in-Some.pass) pop now.hall).0;
      free = (All-pop (λ p. HoldsNoTurn p.turn) c.loop-pass.passes.items c.pop-in-loop-pass.new.self.items
          (Some c.in-Some.pass) pop now.free).0;
      gathered = one_gathered c.into_seat.result.table_id c.args.passes.items c.loop-pass.passes.items
          c.pop-in-loop-pass.new.self.items c.in-Some.pass c.loop-pass.seat.me.0 c.into_seat.result.me.0
          c.join.new.seat.me.0
          now.gathered pop c.into_seat.ensures.0 (ap (λ m. m.0) new.both);
    }
