use Rattle.std.proofs.Common.{sym, ap, subst, ◌∙◌, All}
use Rattle.std.proofs.lemmas.List.{take_all}
use Rattle.std.proofs.lemmas.List.Elements.{All-more}
use Rattle.kom_state.proofs.Rooms.{IsReservedFor, IsReservedFor-kept, IsReservedFor-set, IsReservedFor-none}
use Rattle.kom_state.proofs.Rooms.{HasMemberRoom-from}
use Rattle.kom_state.proofs.reserving.reserve_memberships.Goals as goal
use Rattle.kom_state.proofs.reserving.reserve_memberships.Goals.{in-Some+in_ok-reserve, in_default}

pub loop-effect-preserved : goal.loop-effect-preserved
loop-effect-preserved c =
    let old = c.loop-effect.memberships in let count = c.membership_count-count.result in
    let effects = c.args.effects.now in let at = c.loop-effect.effect-index in let what = c.effect-item.result in
    elim c.match-key_set.branch [
      | in-Some+in_ok-reserve w ↦
          let new = w.reserve.new.self in record {
            rows = ap (λ t. t.rows) w.memberships-is ∙ w.reserve.ensures.rows ∙ c.loop-effect.invariant.rows;
            reads = ap (λ t. t.reads) w.memberships-is ∙ w.reserve.ensures.reads ∙ c.loop-effect.invariant.reads;
            each = rw w.memberships-is (All-more (IsReservedFor new count) effects at what c.loop-effect-test.true
                (λ k d lt.
                IsReservedFor-kept old new count w.reserve.ensures.room _ (c.loop-effect.invariant.each k d lt))
                (subst (IsReservedFor new count) c.effect-item.is
                (IsReservedFor-set new count w.in-Some.person w.in-Some.conference what (sym w.in-Some.ensures)
                (rw w.in_ok-reserve.was at w.reserve.ensures.ok))));
          }
      | in_default w ↦ record {
        rows = ap (λ t. t.rows) w.memberships-is ∙ c.loop-effect.invariant.rows;
        reads = ap (λ t. t.reads) w.memberships-is ∙ c.loop-effect.invariant.reads;
        each = rw w.memberships-is (All-more (IsReservedFor old count) effects at what c.loop-effect-test.true
            c.loop-effect.invariant.each (subst (IsReservedFor old count) c.effect-item.is
            (IsReservedFor-none old count what (sym c.key_set.ensures ∙ w.in_default.is))));
      }
    ]

pub returns-clause-ok : goal.returns-clause-ok
returns-clause-ok c =
    let table = c.loop-effect.memberships in let count = c.membership_count-count.result in
    HasMemberRoom-from table count c.args.effects.now
    (subst (All (IsReservedFor table count))
    (take_all c.loop-effect.effect-index c.args.effects.now c.loop-effect-test.false) c.loop-effect.invariant.each)
    c.membership_count-count.ensures
