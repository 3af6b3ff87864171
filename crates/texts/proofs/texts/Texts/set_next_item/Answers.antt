use Rattle.texts.proofs.Keeping.{kept-item}
use Rattle.texts.proofs.texts.Texts.set_next_item.Goals as goal

pub invariant_of-self : goal.invariant_of-self
invariant_of-self c =
    rw c.set_next_item.ensures.rows (kept-item _ _ _ _ c.self.invariant c.args.number c.args.next)
