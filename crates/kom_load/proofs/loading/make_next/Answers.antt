use Rattle.std.proofs.Common.{◌≡◌, ℕ, ◌+◌, sym, ap, subst}
use Rattle.kom_load.specs.declared.runs.Run.{Run}
use Rattle.kom_load.specs.Runs.{after_answer}
use Rattle.kom_load.specs.Steps.{AreBefore}
use Rattle.kom_load.proofs.loading.make_next.Goals as goal

pub returns-clause-before : goal.returns-clause-before
unfolding after_answer
returns-clause-before c =
    let calls : c.answer.new.self.calls ≡ c.args.run.now.calls + 1 =
    ap (λ (run : Run). run.calls) c.answer.ensures.run in
    subst (λ (n : ℕ). AreBefore (n + 1) c.make_call.new.core.state) (sym calls) c.in_ok-reply.ensures.before
