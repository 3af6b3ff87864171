use Rattle.std.proofs.Common.{List, sym, ap, ◌∙◌}
use Rattle.kom_types.specs.declared.texts.TextRow.{TextRow}
use Rattle.texts.proofs.Forgetting.{forgotten-none}
use Rattle.texts.proofs.texts.Texts.forget_created.Goals as goal

pub returns-clause-rows : goal.returns-clause-rows
returns-clause-rows c =
    let none = sym c.first_created.ensures ∙ c.in_default.is in
    c.loop-local.invariant.rows
    ∙ ap (λ (texts : List TextRow). record c.args.self.now.rows { texts = texts })
    (sym (forgotten-none c.args.person c.loop-local.self.rows.texts none) ∙ c.loop-local.invariant.rest)
