use Rattle.std.proofs.Common.{sym, ◌∙◌}
use Rattle.texts.proofs.Locals.{without_none}
use Rattle.texts.proofs.Keeping.{kept-without}
use Rattle.texts.proofs.texts.Texts.remove_recipient.Goals as goal

pub invariant_of-self : goal.invariant_of-self
invariant_of-self c =
    rw c.remove.ensures.recipients
    (kept-without _ _ _ _ c.self.invariant c.remove-in-Some.new.self c.args.text c.args.conference c.in-Some.row
    (sym c.remove.ensures.recipient ∙ c.in-Some.is) c.remove.ensures.once c.remove-in-Some.ensures.pairs
    c.remove-in-Some.ensures.others)

pub invariant_of-self-in_default : goal.invariant_of-self-in_default
invariant_of-self-in_default c =
    let stays = without_none c.args.text c.args.conference c.self.inside.recipients.recipients
    (sym c.remove.ensures.recipient ∙ c.in_default.is) in
    rw (c.remove.ensures.recipients, stays) c.self.invariant
