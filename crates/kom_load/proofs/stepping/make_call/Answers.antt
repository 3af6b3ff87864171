use Rattle.std.proofs.Common.{◌+◌, sym, ap, subst, ◌∙◌}
use Rattle.kom_load.specs.Loading.{call_once}
use Rattle.kom_load.specs.Steps.{AreBefore, taken_at}
use Rattle.kom_load.proofs.Leading.{leads-on}
use Rattle.kom_load.proofs.Replying.{called-before, reply-is}
use Rattle.kom_load.proofs.stepping.make_call.Goals as goal

pub returns-clause-called : goal.returns-clause-called
unfolding call_once
returns-clause-called c = leads-on _ _ c.in_ok-make.ensures.made c.in_ok-drain.ensures.drained

pub returns-clause-reply : goal.returns-clause-reply
returns-clause-reply c =
    let index = c.args.index in
    reply-is index c.args.call c.args.core.now.state c.requires.before _
    (c.in_ok-drain.ensures.given ∙ ap (taken_at index) c.in_ok-make.ensures.made.state) _ c.in_ok-reply.ensures

pub returns-clause-before : goal.returns-clause-before
unfolding call_once
returns-clause-before c =
    let index = c.args.index in
    let leads = leads-on _ _ c.in_ok-make.ensures.made c.in_ok-drain.ensures.drained in
    subst (AreBefore (index + 1)) (sym leads.state)
    (called-before index c.args.call c.args.core.now.state c.requires.before)
