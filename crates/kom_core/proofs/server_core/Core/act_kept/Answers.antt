use Rattle.std.proofs.Common.{◌≡◌, Some, Result, Ok, Err, refl, sym, ap, ◌∙◌, subst}
use Rattle.kom_types.specs.declared.acts.Record.{Record}
use Rattle.kom_types.specs.declared.answers.Answer.{Answer}
use Rattle.kom_types.specs.declared.answers.NotMade.{NotMade}
use Rattle.kom_model.specs.Out.{taken_by}
use Rattle.kom_model.specs.State.{State}
use Rattle.kom_state.specs.Keepers.{append_pending}
use Rattle.kom_core.specs.Acts.{Held, IsAnswered, answer_to}
use Rattle.kom_core.specs.Keeping.{kept_by}
use Rattle.kom_core.specs.Worlds.{IsConsistent, RespectsGroups}
use Rattle.kom_core.proofs.server_core.Core.act_kept.Goals as goal

pub with_entry-requires : goal.with_entry-requires
with_entry-requires g c = c.in-Ok.ensures.comes.0.entry_made

pub returns-in-Ok-clause-answered : goal.returns-in-Ok-clause-answered
returns-in-Ok-clause-answered g c =
    let old : State = c.args.self.now.state in
    let pending = g.K.Keeper.pending in
    subst (λ (new : Held). (came : Result Record NotMade)
    × IsAnswered old c.args.entry new (Ok c.answer_to-answer.result) came
    × IsConsistent old c.args.entry new.state came × RespectsGroups old c.args.entry new.state came
    × (pending c.make_kept.new.keeper ≡ append_pending (kept_by old came) (pending c.args.keeper.now)))
    (sym c.put_last.ensures) (
      Ok c.in-Ok.made,
      record {
        comes = c.in-Ok.ensures.comes;
        answer = (
          c.make_kept.new.items,
          c.make_kept.ensures.given,
          ap (λ (answer : Answer). Ok answer) (c.answer_to-answer.ensures
              ∙ ap (λ session. answer_to c.args.entry.act session c.make_kept.new.items) c.session.ensures),
        );
        last = ap (λ (one : Record). Some one) c.with_entry.ensures;
      },
      c.in-Ok.ensures.consistent,
      c.in-Ok.ensures.respects,
      c.in-Ok.ensures.kept,
    )

pub returns-in-Err-clause-answered : goal.returns-in-Err-clause-answered
returns-in-Err-clause-answered g c =
    let old : State = c.args.self.now.state in
    let pending = g.K.Keeper.pending in
    subst (λ (new : Held). (came : Result Record NotMade)
    × IsAnswered old c.args.entry new c.answer_why.result came
    × IsConsistent old c.args.entry new.state came × RespectsGroups old c.args.entry new.state came
    × (pending c.make_kept.new.keeper ≡ append_pending (kept_by old came) (pending c.args.keeper.now)))
    (sym c.put_last-in-Err.ensures) (
      Err c.in-Err.why,
      record {
        comes = c.in-Err.ensures.comes;
        answer = c.answer_why.ensures c.args.entry.act (taken_by old c.args.entry.act);
        last = refl;
      },
      c.in-Err.ensures.consistent,
      c.in-Err.ensures.respects,
      c.in-Err.ensures.kept,
    )
