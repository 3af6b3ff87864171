use Rattle.std.proofs.Common.{sym, ap, ◌∙◌, arith, subst, refl}
use Rattle.std.specs.Prelude.{Ok}
use Rattle.kom_types.specs.declared.acts.Record.{Record}
use Rattle.kom_model.proofs.Refusing.{refused_not_made}
use Rattle.kom_core.specs.Steps.{Steps, made_of}
use Rattle.kom_core.proofs.Sending.{entries-sent, after-counted}
use Rattle.kom_core.proofs.server_state.ServerState.make.Goals as goal

pub returns-in-Some-clause-steps : goal.returns-in-Some-clause-steps
returns-in-Some-clause-steps g c =
    (refused_not_made c.args.self.now c.args.entry.now.act c.in-Some.why (sym c.refusal.ensures ∙ c.in-Some.is), refl)

pub advance-requires : goal.advance-requires
advance-requires g c =
    let entries =
    ap (λ s. s.entries) c.in-Ok.ensures.step.2
    ∙ entries-sent c.args.self.now (made_of c.args.self.now c.args.entry.now c.in-Ok.short) in
    omega (arith, entries, c.requires.room)

pub returns-in-Ok-clause-steps : goal.returns-in-Ok-clause-steps
returns-in-Ok-clause-steps g c =
    let step = c.in-Ok.ensures.step in
    let counted = after-counted c.args.self.now c.change.new.self
    (made_of c.args.self.now c.args.entry.now c.in-Ok.short) step.2 in
    subst (λ (made : Record). Steps c.args.self.now c.args.entry.now c.advance.new.self (Ok made)) (sym c.of.ensures) (
      sym c.refusal.ensures ∙ c.in_default.is,
      record { entry_made = refl; session = step.0; short = step.1 },
      c.advance.ensures ∙ counted,
    )

pub returns-in-Err-clause-steps : goal.returns-in-Err-clause-steps
returns-in-Err-clause-steps g c =
    ((sym c.refusal.ensures ∙ c.in_default.is, c.in-Err.ensures.connects), c.in-Err.ensures.err)
