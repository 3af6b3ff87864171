use Rattle.std.proofs.Common.{◌≡◌, false, List, ℕ, sym, ap, subst, ◌∙◌, arith}
use Rattle.kom_types.specs.declared.calls.Call.TheVariants as call
use Rattle.kom_model.specs.State.{State}
use Rattle.kom_model.specs.Legal.{state_after}
use Rattle.kom_load.specs.Loading.{run_start, connect_one, call_once, new_server}
use Rattle.kom_load.specs.Steps.{Leads, AreBefore}
use Rattle.kom_load.proofs.Leading.{leads-on}
use Rattle.kom_load.proofs.Replying.{greeted-before}
use Rattle.kom_load.proofs.loading.start.Goals as goal

pub greet-requires-clause-first : goal.greet-requires-clause-first
unfolding new_server
greet-requires-clause-first c = ap (λ (state : State). state.connects) c.requires

pub greet-requires-clause-room : goal.greet-requires-clause-room
unfolding new_server
greet-requires-clause-room c =
    let none : c.args.core.now.state.entries ≡ 0 = ap (λ (state : State). state.entries) c.requires in
    omega (arith, none)

pub make_call-requires-clause-room : goal.make_call-requires-clause-room
unfolding new_server
make_call-requires-clause-room c =
    let none : c.args.core.now.state.entries ≡ 0 = ap (λ (state : State). state.entries) c.requires in
    omega (arith, none, c.greet.ensures.counted)

pub make_call-requires-clause-before : goal.make_call-requires-clause-before
make_call-requires-clause-before c =
    subst (AreBefore 0)
    (sym (c.in_ok-greet.ensures.greeted.state ∙ ap (λ state. state_after state connect_one) c.requires)) greeted-before

pub returns-clause-started : goal.returns-clause-started
unfolding run_start
returns-clause-started c =
    let password = c.in_ok-new.ensures ∙ c.of-password.ensures ∙ c.new.ensures in
    let login = subst
    (λ (bytes : List ℕ). Leads c.greet.new.core.state
    (call_once 0 (call.Login 5 bytes false)) c.make_call.new.core.state)
    password c.in_ok-make_call.ensures.called in
    leads-on _ _ c.in_ok-greet.ensures.greeted login
