use Rattle.std.proofs.Common.{Bool, false, Result, Ok, refl, sym, ap, subst, ◌∙◌}
use Rattle.kom_types.specs.declared.answers.NotMade.{NotMade}
use Rattle.kom_session.specs.Known.{known_by}
use Rattle.kom_session.specs.Kept.{IfAsked}
use Rattle.kom_session.proofs.Flushing.{asked_same}
use Rattle.kom_session.proofs.machine.Machine.asked.Goals as goal

pub returns-in-Ok-false : goal.returns-in-Ok-false
returns-in-Ok-false c =
    subst (λ (answer : Result Bool NotMade). IfAsked (known_by c.args.self.now) answer
    (known_by c.args.self.now)) (sym (c.in-Ok-false.is ∙ ap Ok c.in-Ok-false.field-0-test))
    (asked_same (known_by c.args.self.now) c.requires.on (Ok false) refl)
