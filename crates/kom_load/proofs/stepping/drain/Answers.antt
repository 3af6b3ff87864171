use Rattle.std.proofs.Common.{◌∙◌, ap}
use Rattle.kom_types.specs.declared.acts.Act.TheVariants as act
use Rattle.kom_model.specs.Out.{taken_by}
use Rattle.kom_load.specs.Loading.{flush_drain}
use Rattle.kom_load.specs.Steps.{taken_at}
use Rattle.kom_load.proofs.Leading.{leads-on}
use Rattle.kom_load.proofs.stepping.drain.Goals as goal

pub returns-clause-drained : goal.returns-clause-drained
unfolding flush_drain
returns-clause-drained c = leads-on _ _ c.in_ok-make.ensures.made c.in_ok-make-2.ensures.made

pub returns-clause-given : goal.returns-clause-given
unfolding taken_at
returns-clause-given c =
    c.in_ok-make-2.ensures.given ∙ ap (λ state. taken_by state (act.Drain 1)) c.in_ok-make.ensures.made.state
