use Rattle.std.proofs.Common.{Result, Ok, Err, refl, sym, subst}
use Rattle.kom_types.specs.declared.answers.Answer.{Answer}
use Rattle.kom_types.specs.declared.answers.Answer.TheVariants as answer
use Rattle.kom_types.specs.declared.answers.NotMade.{NotMade}
use Rattle.kom_types.specs.declared.shortage.Memory.{Memory}
use Rattle.kom_core.specs.Acts.{IsAnswer}
use Rattle.kom_core.proofs.server_core.answer_why.Goals as goal

pub returns-in-Gone : goal.returns-in-Gone
returns-in-Gone c = λ what items.
    let given : Result Answer Memory = Ok (answer.Gone c.in-Gone.why) in
    subst (λ (one : NotMade). IsAnswer what (Err one) items given) (sym c.in-Gone.is) refl

pub returns-in-Full : goal.returns-in-Full
returns-in-Full c = λ what items.
    let given : Result Answer Memory = Ok (answer.Full c.in-Full.number) in
    subst (λ (one : NotMade). IsAnswer what (Err one) items given) (sym c.in-Full.is) refl
