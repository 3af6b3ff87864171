use Rattle.std.proofs.Common.{◌<◌, IsSome, length, refl, sym, ap, subst, ◌∙◌}
use Rattle.kom_types.specs.tables.Texts.{created_by}
use Rattle.local_maps.specs.Pairs.{text_of}
use Rattle.texts.proofs.Forgetting.{HasNumber, has_number, text_of-least, length-without_least}
use Rattle.texts.proofs.Forgetting.{kept-forgotten, forgotten-changed, created_by-without_number}
use Rattle.texts.proofs.texts.Texts.forget_number.Goals as goal
use Rattle.texts.proofs.texts.Texts.forget_number.Goals.{After-unwrap-text}

pub unwrap-text-requires : goal.unwrap-text-requires
unwrap-text-requires c =
    let least = rw (← c.self.view_is) at c.requires in
    let there = text_of-least c.args.local (created_by c.args.person c.self.inside.texts.rows) least in
    subst IsSome (sym (c.remove.ensures.text
    ∙ ap (text_of c.args.local) (c.self.invariant.by_author c.args.person) ∙ there.1)) refl

-- the text that was found had the number
numbered : (c : After-unwrap-text) →
    HasNumber c.args.person c.args.local c.unwrap-text.result c.self.inside.texts.rows
numbered c =
    has_number c.args.person c.args.local c.unwrap-text.result _ c.self.invariant.by_number
    (sym (c.remove.ensures.text ∙ ap (text_of c.args.local) (c.self.invariant.by_author c.args.person))
    ∙ c.unwrap-text.ensures)

pub invariant_of-self : goal.invariant_of-self
invariant_of-self c =
    rw c.set_created_local.ensures.rows
    (kept-forgotten _ _ _ _ c.self.invariant c.remove.new.self c.args.person c.args.local c.unwrap-text.result
    (numbered (goal.at.invariant_of-self c).After-unwrap-text) c.remove.ensures.pairs c.remove.ensures.others)

pub returns-clause-rest : goal.returns-clause-rest
returns-clause-rest c =
    let has = numbered (goal.at.returns-clause-rest c).After-unwrap-text in
    rw (c.set_created_local.ensures.rows, ← c.self.view_is)
    (forgotten-changed c.args.person c.unwrap-text.result _ has.row has.found has.author c.self.invariant.by_number)

pub returns-clause-fewer : goal.returns-clause-fewer
returns-clause-fewer c =
    let has = numbered (goal.at.returns-clause-fewer c).After-unwrap-text in
    let least = rw (← c.self.view_is) at c.requires in
    rw (c.set_created_local.ensures.rows, ← c.self.view_is)
    (subst (λ pairs. length pairs < length (created_by c.args.person c.self.inside.texts.rows))
    (sym (created_by-without_number _ _ _ _ c.self.invariant c.remove.new.self c.args.person c.args.local
    c.unwrap-text.result has))
    (length-without_least c.args.local (created_by c.args.person c.self.inside.texts.rows) least))
