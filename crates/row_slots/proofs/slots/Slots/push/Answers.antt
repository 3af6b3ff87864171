use Rattle.std.proofs.Common.{[], ◌∷◌, ◌++◌, Some, ap, ◌∙◌, arith}
use Rattle.row_slots.specs.Slots.{slots_of}
use Rattle.row_slots.proofs.Laid.{laid-push, length-laid}
use Rattle.row_slots.proofs.slots.Slots.push.Goals as goal

pub invariant_of-self-2 : goal.invariant_of-self-2
invariant_of-self-2 g c =
    let counted = rw (← c.self.view_is) at c.count.ensures.count in (
      c.self.invariant.0,
      omega (
        arith,
        counted,
        length-laid c.self.inside.settled.items c.self.inside.last.items c.self.invariant.0,
        c.in_ok-place.ensures.ok,
        c.reserve.ensures.len,
        c.in_ok-push.ensures.len,
        c.self.inside.settled.ok.0,
        c.self.inside.last.ok.0,
      ),
    )

pub returns-clause-ok : goal.returns-clause-ok
returns-clause-ok g c =
    rw (← c.self.view_is)
    (ap (slots_of c.self.inside.settled.items)
    (c.in_ok-push.ensures.items ∙ ap (λ rows. rows ++ Some c.args.row ∷ []) c.reserve.ensures.items)
    ∙ laid-push c.self.inside.settled.items c.self.inside.last.items (Some c.args.row))
