use Rattle.std.proofs.Common.{◌≡◌, ℕ, eqb, Some, sym, subst, ◌∙◌}
use Rattle.indexmap.specs.IndexMap.{get}
use Rattle.sessions.proofs.Numbered.{got}
use Rattle.sessions.proofs.table.Sessions.guessed.Goals as goal

pub returns-then-number-session : goal.returns-then-number-session
returns-then-number-session c =
    rw (← c.self.view_is)
    (sym (got c.self.inside.rows c.self.invariant.2 c.args.session)
    ∙ subst (λ (number : ℕ). get eqb c.self.inside.rows number ≡ Some c.in_ok-number.row.now)
    c.if-number-session.true c.in_ok-number.ensures.value)
