use Rattle.std.proofs.Common.{sym, ◌∙◌, arith}
use Rattle.row_slots.proofs.Rows.{read_none, read_some, within_slots, replaced-set, replaced-empty}
use Rattle.row_slots.proofs.block.set_at.Goals as goal

pub returns-then-is_none-clause-slots : goal.returns-then-is_none-clause-slots
returns-then-is_none-clause-slots g c =
    sym (replaced-empty c.args.place c.args.row c.args.slots.now.items
    (sym c.row_at.ensures ∙ read_none c.row_at.result c.if-is_none.ensures))

pub index_mut-requires : goal.index_mut-requires
index_mut-requires g c =
    let there = read_some c.row_at.result c.if-is_none.ensures in
    omega (
      arith,
      within_slots c.args.place c.args.slots.now.items there.0 (sym c.row_at.ensures ∙ there.1),
      c.args.slots.now.ok.0,
    )

pub returns-clause-slots : goal.returns-clause-slots
returns-clause-slots g c =
    let there = read_some c.row_at.result c.if-is_none.ensures in
    replaced-set c.args.place c.args.row c.args.slots.now.items there.0 (sym c.row_at.ensures ∙ there.1)
