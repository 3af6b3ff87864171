use Rattle.std.proofs.Common.{◌≡◌, ◌<◌, ◌+◌, ◌*◌, ◌-◌, ◌/◌, ◌%◌, length, slice_get, Some, refl, sym, ap, ◌∙◌, arith}
use Rattle.std.specs.Option.{option_flatten}
use Rattle.std.proofs.lemmas.Bool.{false≢true}
use Rattle.std.proofs.lemmas.Option.{slice_get_read}
use Rattle.row_slots.specs.Slots.{slots_of}
use Rattle.row_slots.proofs.Laid.{get-laid, get-last}
use Rattle.row_slots.proofs.slots.Slots.get.Goals as goal

pub returns-in-Some : goal.returns-in-Some
returns-in-Some g c =
    let all = c.self.inside.settled.items in
    let last = c.self.inside.last.items in
    let there : slice_get all (c.args.place / 64) ≡ Some c.in-Some.block.now =
    ap (λ them. slice_get them (c.args.place / 64)) (sym c.deref.ensures.value)
    ∙ slice_get_read c.deref.result.now _ (c.args.place / 64) c.in-Some.block.now refl c.in-Some.ensures.lookup.3.0
    c.in-Some.ensures.lookup.1 in
    rw (← c.self.view_is)
    (c.get-in-Some.ensures
    ∙ ap option_flatten (sym
    (ap (slice_get (slots_of all last)) (omega arith)
    ∙ get-laid all last (c.args.place / 64) (c.args.place % 64) c.in-Some.block.now c.self.invariant.0 there
    (omega arith))))

pub returns-in-None : goal.returns-in-None
returns-in-None g c =
    let all = c.self.inside.settled.items in
    let last = c.self.inside.last.items in
    let past : c.args.place / 64 < length all → ⊥ =
    λ within. false≢true (c.in-None.ensures.lookup.2
    (omega (arith, c.deref.ensures.len, c.self.inside.settled.ok.0, within))) in
    let place : c.args.place ≡ 64 * length all + (c.args.place - 64 * c.len.result) =
    omega (arith, past, c.len.ensures, c.self.inside.settled.ok.0) in
    rw (← c.self.view_is)
    (c.row_at.ensures
    ∙ ap option_flatten (sym
    (ap (slice_get (slots_of all last)) place
    ∙ get-last all last (c.args.place - 64 * c.len.result) c.self.invariant.0)))
