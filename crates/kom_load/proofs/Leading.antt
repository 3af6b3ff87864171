-- What records lead to, one after the other.
use Rattle.std.proofs.Common.{◌≡◌, List, [], ◌∷◌, ◌++◌, refl, sym, ap, ◌∙◌, subst}
use Rattle.kom_types.specs.declared.acts.Record.{Record}
use Rattle.kom_model.specs.State.{State}
use Rattle.kom_model.specs.After.{after}
use Rattle.kom_model.specs.Legal.{IsLegal, state_after}
use Rattle.kom_load.specs.Steps.{Leads}

state_after-append : (state : State) (one two : List Record) →
    state_after state (one ++ two) ≡ state_after (state_after state one) two
state_after-append state [] two = refl
state_after-append state (made ∷ one) two = state_after-append (after state made) one two

legal-append : (state : State) (one two : List Record) → IsLegal state one → IsLegal (state_after state one) two →
    IsLegal state (one ++ two)
legal-append state [] two first then = then
legal-append state (made ∷ one) two first then = (first.0, legal-append (after state made) one two first.1 then)

pub leads-on : {old mid new : State} (one two : List Record) → Leads old one mid → Leads mid two new →
    Leads old (one ++ two) new
leads-on {old} {mid} {new} one two first then = record {
  legal = legal-append old one two first.legal (subst (λ state. IsLegal state two) first.state then.legal);
  state = then.state ∙ ap (λ state. state_after state two) first.state ∙ sym (state_after-append old one two);
}
