use Rattle.std.proofs.Common.{ℕ, ◌+◌, List, subst}
use Rattle.std.specs.Prelude.{codes}
use Rattle.kom_types.specs.declared.acts.Act.TheVariants as act
use Rattle.kom_load.specs.Loading.{lone_act, connect_one}
use Rattle.kom_load.specs.Steps.{Leads}
use Rattle.kom_load.proofs.Leading.{leads-on}
use Rattle.kom_load.proofs.stepping.greet.Goals as goal

pub returns-clause-greeted : goal.returns-clause-greeted
unfolding connect_one
returns-clause-greeted c =
    let old = c.args.core.now.state in
    let new = c.make.new.core.state in
    let user = c.in_ok-user.user in
    let host = c.in_ok-host.host in
    let first = subst (λ (connects : ℕ). Leads old (lone_act 0 (connects + 1) (act.Connect user host)) new)
    c.requires.first c.in_ok-make.ensures.made in
    let named = subst (λ (bytes : List ℕ). Leads old (lone_act 0 1 (act.Connect bytes host)) new)
    c.in_ok-user.ensures first in
    let hosted = subst (λ (bytes : List ℕ). Leads old (lone_act 0 1 (act.Connect (codes "load") bytes)) new)
    c.in_ok-host.ensures named in
    leads-on _ _ hosted c.in_ok-drain.ensures.drained
