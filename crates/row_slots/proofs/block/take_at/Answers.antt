use Rattle.std.proofs.Common.{◌<◌, vec_len, refl, sym, ap, ◌∙◌, arith}
use Rattle.std.specs.Option.{option_flatten}
use Rattle.std.proofs.Math.ListN.{set}
use Rattle.std.proofs.lemmas.Bool.{false≢true}
use Rattle.std.proofs.lemmas.Option.{slice_get_read, slice_get_past}
use Rattle.row_slots.proofs.Rows.{emptied-set, emptied-empty}
use Rattle.row_slots.proofs.block.take_at.Goals as goal

pub returns-in_err-slot-clause-slots : goal.returns-in_err-slot-clause-slots
returns-in_err-slot-clause-slots g c =
    let past : c.args.place < vec_len c.args.slots.now → ⊥ =
    λ within. false≢true (c.in_err-slot.ensures.variant.1 within) in
    let empty = slice_get_past c.args.slots.now.items c.args.place (omega (arith, c.args.slots.now.ok.0)) in
    sym (emptied-empty c.args.place c.args.slots.now.items (ap option_flatten empty))

pub returns-clause-row : goal.returns-clause-row
returns-clause-row g c =
    let at = slice_get_read c.args.slots.now.items _ c.args.place c.in_ok-slot.slot.now c.args.slots.now.ok.0
    (c.in_ok-slot.ensures.variant.0 refl) c.in_ok-slot.ensures.value in
    sym (ap option_flatten at ∙ sym c.take.ensures.value)

pub returns-clause-slots : goal.returns-clause-slots
returns-clause-slots g c =
    ap (set c.args.slots.now.items c.args.place) c.take.ensures.after
    ∙ emptied-set c.args.place c.args.slots.now.items
