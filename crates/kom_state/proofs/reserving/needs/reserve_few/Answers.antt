use Rattle.std.proofs.Common.{◌≤◌, subst, ◌∙◌, All, get_or, take, arith}
use Rattle.std.proofs.Math.Nat.{le_trans}
use Rattle.std.proofs.lemmas.List.{take_all}
use Rattle.std.proofs.lemmas.List.Elements.{All-more}
use Rattle.texts.specs.declared.needs.Need.{Need}
use Rattle.texts.specs.Needs.{room_for, count_of}
use Rattle.kom_state.proofs.Needed.{room_for_all}
use Rattle.kom_state.proofs.reserving.needs.reserve_few.Goals as goal

pub loop-need-preserved : goal.loop-need-preserved
loop-need-preserved c =
    let needs = c.args.needs.now in let room = c.reserve.new.self.room in let at = c.loop-need.need-index in
    let HasRoomFor : Need → Type 0 = λ need. count_of need needs ≤ room_for room need in record {
      rows = c.reserve.ensures.rows ∙ c.loop-need.invariant.rows;
      each = All-more HasRoomFor needs at _ c.loop-need-test.true
          (λ k d lt. omega (
            arith,
            c.loop-need.invariant.each k d lt,
            c.reserve.ensures.room (get_or (take at needs) k d),
          ))
          (le_trans c.most_of_few.ensures (rw c.in_ok-reserve.was at c.reserve.ensures.ok));
    }

pub returns-clause-ok : goal.returns-clause-ok
returns-clause-ok c =
    let needs = c.args.needs.now in let room = c.loop-need.texts.room in
    let HasRoomFor : Need → Type 0 = λ need. count_of need needs ≤ room_for room need in
    room_for_all (room_for room) needs
    (subst (All HasRoomFor) (take_all c.loop-need.need-index needs c.loop-need-test.false) c.loop-need.invariant.each)
