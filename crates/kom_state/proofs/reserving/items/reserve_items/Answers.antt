use Rattle.std.proofs.Common.{sym, ap, subst, ◌∙◌, All}
use Rattle.std.proofs.lemmas.List.{take_all}
use Rattle.std.proofs.lemmas.List.Elements.{All-more}
use Rattle.kom_state.proofs.ItemRooms.{IsItemReservedFor, IsItemReservedFor-kept, IsItemReservedFor-added}
use Rattle.kom_state.proofs.ItemRooms.{IsItemReservedFor-none, HasItemRoom-from}
use Rattle.kom_state.proofs.reserving.items.reserve_items.Goals as goal
use Rattle.kom_state.proofs.reserving.items.reserve_items.Goals.{in-Some+in_ok-reserve, in_default}

pub loop-effect-preserved : goal.loop-effect-preserved
loop-effect-preserved c =
    let old = c.loop-effect.items in let count = c.item_count-count.result in
    let effects = c.args.effects.now in let at = c.loop-effect.effect-index in let what = c.effect-item.result in
    elim c.match-item_key.branch [
      | in-Some+in_ok-reserve w ↦
          let new = w.reserve.new.self in record {
            rows = ap (λ t. t.rows) w.items-is ∙ w.reserve.ensures.rows ∙ c.loop-effect.invariant.rows;
            each = rw w.items-is (All-more (IsItemReservedFor new count) effects at what c.loop-effect-test.true
                (λ k d lt.
                IsItemReservedFor-kept old new count w.reserve.ensures.room _ (c.loop-effect.invariant.each k d lt))
                (subst (IsItemReservedFor new count) c.effect-item.is
                (IsItemReservedFor-added new count w.in-Some.on_text w.in-Some.object what (sym w.in-Some.ensures)
                (rw w.in_ok-reserve.was at w.reserve.ensures.ok))));
          }
      | in_default w ↦ record {
        rows = ap (λ t. t.rows) w.items-is ∙ c.loop-effect.invariant.rows;
        each = rw w.items-is (All-more (IsItemReservedFor old count) effects at what c.loop-effect-test.true
            c.loop-effect.invariant.each (subst (IsItemReservedFor old count) c.effect-item.is
            (IsItemReservedFor-none old count what (sym c.item_key.ensures ∙ w.in_default.is))));
      }
    ]

pub returns-clause-ok : goal.returns-clause-ok
returns-clause-ok c =
    let table = c.loop-effect.items in let count = c.item_count-count.result in
    HasItemRoom-from table count c.args.effects.now
    (subst (All (IsItemReservedFor table count))
    (take_all c.loop-effect.effect-index c.args.effects.now c.loop-effect-test.false) c.loop-effect.invariant.each)
    c.item_count-count.ensures
