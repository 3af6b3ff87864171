use Rattle.std.proofs.Common.{sym, ap, subst, ◌∙◌}
use Rattle.kom_session.specs.Known.{Known, known_by, after_fault}
use Rattle.kom_session.specs.declared.phase.Phase.TheVariants as phase
use Rattle.kom_session.specs.declared.phase.Stage.TheVariants as stage
use Rattle.kom_links.specs.declared.served.SessionEnd.TheVariants as end
use Rattle.kom_session.specs.Kept.{IfAsked}
use Rattle.kom_session.proofs.Flushing.{asked_again, asked_none, asked_some}
use Rattle.kom_session.proofs.machine.Machine.stop.Goals as goal

pub returns-then-is_some : goal.returns-then-is_some
returns-then-is_some c = λ answer said.
    asked_again (known_by c.args.self.now) c.requires.on (sym c.is_some.ensures ∙ c.if-is_some.true)
    answer c.args.fault said

pub returns-then-self-eq0 : goal.returns-then-self-eq0
returns-then-self-eq0 c = λ answer said.
    let none = sym (ap (λ (known : Known). known.session) c.note.ensures) ∙ c.if-self-eq0.true in
    subst (λ (noted : Known). IfAsked (known_by c.args.self.now) answer
    (record noted { stage = stage.Over end.End })) (sym c.note.ensures)
    (asked_none (known_by c.args.self.now) (c.requires.may none) none answer c.args.fault said)

pub returns : goal.returns
returns c = λ answer said.
    rw c.after_fault-self.ensures
    (subst (λ (noted : Known). IfAsked (known_by c.args.self.now) answer
    (record noted { phase = phase.Owing; stage = after_fault noted.stage })) (sym c.note.ensures)
    (asked_some (known_by c.args.self.now) c.requires.on
    (λ none. c.if-self-eq0.false (ap (λ (known : Known). known.session) c.note.ensures ∙ none))
    answer c.args.fault said))
