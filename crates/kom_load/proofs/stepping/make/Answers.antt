use Rattle.std.proofs.Common.{ℕ, subst, sym, ◌∙◌}
use Rattle.std.specs.Prelude.{Ok}
use Rattle.kom_core.specs.Acts.{CoreComes}
use Rattle.kom_load.proofs.Handing.{leads-handed}
use Rattle.kom_load.proofs.stepping.make.Goals as goal

pub returns-clause-made : goal.returns-clause-made
returns-clause-made c =
    let old = c.args.core.now.state in
    let comes = subst
    (λ (at : ℕ). CoreComes old (record { pass = 0; moment = at; act = c.args.act }) c.make_kept.new.self.state
    (Ok c.in-Ok.made)) c.moment_of.ensures c.in-Ok.ensures.comes in
    leads-handed old c.args.moment c.args.act c.make_kept.new.self.state c.in-Ok.made comes
    (sym c.is_short.ensures ∙ c.if-is_short.false)
