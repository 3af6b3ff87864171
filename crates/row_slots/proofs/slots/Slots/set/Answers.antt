use Rattle.std.proofs.Common.{◌≡◌, ◌<◌, ◌+◌, ◌*◌, ◌-◌, ◌/◌, ◌%◌, length, slice_get, Some, refl, ap, ◌∙◌, arith}
use Rattle.std.proofs.Math.ListN.{set}
use Rattle.std.proofs.lemmas.Bool.{false≢true}
use Rattle.std.proofs.lemmas.Option.{slice_get_read}
use Rattle.row_slots.specs.Slots.{slots_of, replace_row, IsBlock}
use Rattle.row_slots.proofs.Blocks.{length-replaced}
use Rattle.row_slots.proofs.Laid.{replaced-laid, replaced-last, all-set, all-at}
use Rattle.row_slots.proofs.slots.Slots.set.Goals as goal

pub invariant_of-self : goal.invariant_of-self
invariant_of-self g c =
    let all = c.self.inside.settled.items in
    let there : slice_get all (c.args.place / 64) ≡ Some c.in-Some.block.now =
    slice_get_read all _ (c.args.place / 64) c.in-Some.block.now c.self.inside.settled.ok.0
    (c.in-Some.ensures.variant.0 refl) c.in-Some.ensures.value in
    let whole : IsBlock c.set.new.self =
    ap length c.set.ensures ∙ length-replaced (c.args.place % 64) c.args.row c.in-Some.block.now
    ∙ all-at IsBlock all (c.args.place / 64) c.in-Some.block.now c.self.invariant.0 there in
    (all-set IsBlock all (c.args.place / 64) c.set.new.self c.self.invariant.0 whole, c.self.invariant.1)

pub returns-in-Some-clause-slots : goal.returns-in-Some-clause-slots
returns-in-Some-clause-slots g c =
    let all = c.self.inside.settled.items in
    let last = c.self.inside.last.items in
    let there : slice_get all (c.args.place / 64) ≡ Some c.in-Some.block.now =
    slice_get_read all _ (c.args.place / 64) c.in-Some.block.now c.self.inside.settled.ok.0
    (c.in-Some.ensures.variant.0 refl) c.in-Some.ensures.value in
    rw (← c.self.view_is)
    (ap (λ block. slots_of (set all (c.args.place / 64) block) last) c.set.ensures
    ∙ replaced-laid c.args.row all last (c.args.place / 64) (c.args.place % 64) c.in-Some.block.now c.self.invariant.0
    there
    (omega arith)
    ∙ ap (λ place. replace_row place c.args.row (slots_of all last)) (omega arith))

pub returns-in-None-clause-slots : goal.returns-in-None-clause-slots
returns-in-None-clause-slots g c =
    let all = c.self.inside.settled.items in
    let last = c.self.inside.last.items in
    let past : c.args.place / 64 < length all → ⊥ =
    λ within. false≢true (c.in-None.ensures.variant.1 (omega (arith, c.self.inside.settled.ok.0, within))) in
    let place : 64 * length all + (c.args.place - 64 * c.len.result) ≡ c.args.place =
    omega (arith, past, c.len.ensures, c.self.inside.settled.ok.0) in
    rw (← c.self.view_is)
    (ap (slots_of all) c.set_at.ensures.slots
    ∙ replaced-last c.args.row all last (c.args.place - 64 * c.len.result) c.self.invariant.0
    ∙ ap (λ at. replace_row at c.args.row (slots_of all last)) place)
