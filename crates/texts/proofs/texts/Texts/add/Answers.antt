use Rattle.texts.specs.declared.needs.Need.TheVariants as need
use Rattle.texts.proofs.Keeping.{kept-added}
use Rattle.texts.proofs.texts.Texts.add.Goals as goal

pub unwrap-requires : goal.unwrap-requires
unwrap-requires c =
    let room = rw (← c.self.view_is) at c.requires.room in
    c.put.ensures.succeeds (room need.Text)

pub invariant_of-self : goal.invariant_of-self
invariant_of-self c =
    let absent = rw (← c.self.view_is) at c.requires.absent in
    rw (rw (c.unwrap.ensures, c.fresh_text-row.ensures) at c.put.ensures.ok)
    (kept-added _ _ _ _ c.self.invariant c.args.number c.args.author c.args.at c.args.body absent)
