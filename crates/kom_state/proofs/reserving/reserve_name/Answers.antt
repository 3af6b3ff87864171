use Rattle.std.proofs.Common.{[], option_copied, sym, ap, ◌∙◌}
use Rattle.std.specs.List.{cons_option}
use Rattle.std.proofs.lemmas.Result.{on_ok_weaker}
use Rattle.kom_state.proofs.Rooms.{names-more, IsReady-first}
use Rattle.kom_state.proofs.reserving.reserve_name.Goals as goal

pub returns-in-Some-clause-ok : goal.returns-in-Some-clause-ok
returns-in-Some-clause-ok c =
    on_ok_weaker c.reserve.result
    (IsReady-first c.args.effects.now c.loop-effect.effect-index c.effect-item.result c.in-Some.name.now
    c.reserve.new.self.ready c.requires c.loop-effect-test.true c.effect-item.is c.loop-effect.invariant.none_given
    (sym c.in-Some.ensures))
    c.reserve.ensures.ok

pub loop-effect-preserved : goal.loop-effect-preserved
loop-effect-preserved c = record {
  names = c.loop-effect.invariant.names;
  none_given =
      names-more c.args.effects.now c.loop-effect.effect-index c.effect-item.result c.loop-effect-test.true
      c.effect-item.is c.loop-effect.invariant.none_given
      ∙ ap (λ given. cons_option given []) (sym c.name_given.ensures ∙ ap option_copied c.in_default.is);
}
