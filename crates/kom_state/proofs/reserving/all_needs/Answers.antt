use Rattle.std.proofs.Common.{◌++◌, ap, sym, ◌∙◌}
use Rattle.kom_state.specs.Room.{needs_of}
use Rattle.kom_state.proofs.Needed.{all_needs-more}
use Rattle.kom_state.proofs.reserving.all_needs.Goals as goal

pub loop-effect-preserved : goal.loop-effect-preserved
loop-effect-preserved c =
    let what = c.effect-item.result in
    rw c.in_ok-push_needs.was at c.push_needs.ensures
    ∙ ap (λ needs. needs ++ needs_of what) c.loop-effect.invariant
    ∙ sym (all_needs-more c.args.effects.now c.loop-effect.effect-index what c.loop-effect-test.true c.effect-item.is)
