use Rattle.std.proofs.Common.{◌≡◌, Some, refl, sym, ap, ◌∙◌, subst, arith}
use Rattle.std.specs.Prelude.{IsSome}
use mathlib.Core.Option.{some-injective}
use Rattle.kom_state_lock.proofs.PassFacts.{free_goes, free_idle}
use Rattle.kom_state_lock.proofs.Seats.{notes_allowed, noted_closes}
use Rattle.kom_state_lock.proofs.closing.settle.Goals as goal

pub split_seat-note-requires : goal.split_seat-note-requires
split_seat-note-requires g c =
    let key = c.args.table.shared.key in
    let b = g.B.Booked in
    let v = c.args.seat.me.0 in (
      c.requires.table.0.1,
      omega (arith, c.requires.table.0.0.0),
      notes_allowed b.pass_of b.led key.value.value key.passes c.args.seat.id v
          (free_goes v.turn c.requires.free.0) c.requires.covers,
    )

pub unwrap-value-requires : goal.unwrap-value-requires
unwrap-value-requires g c =
    let key = c.args.table.shared.key in
    let b = g.B.Booked in
    let v = c.args.seat.me.0 in
    let w = c.split_seat-note.new.seat in
    let end = noted_closes b.pass_of b.led key.value.value key.passes w.id v w.me.0 _ _
    (ap (λ m. m.0) c.split_seat-note.ensures.2)
    (free_goes v.turn c.requires.free.0)
    (free_idle v.turn c.requires.free.0) c.requires.covers c.close_with-closed.ensures.values.2 in
    let is : Some end.value ≡ c.take.result = some-injective (Some end.value) c.take.result
    (sym end.slot ∙ c.take.ensures.value) in
    subst IsSome is refl

pub returns-clause-leads : goal.returns-clause-leads
returns-clause-leads g c =
    let key = c.args.table.shared.key in
    let b = g.B.Booked in
    let v = c.args.seat.me.0 in
    let w = c.split_seat-note.new.seat in
    let end = noted_closes b.pass_of b.led key.value.value key.passes w.id v w.me.0 _ _
    (ap (λ m. m.0) c.split_seat-note.ensures.2)
    (free_goes v.turn c.requires.free.0)
    (free_idle v.turn c.requires.free.0) c.requires.covers c.close_with-closed.ensures.values.2 in
    let is : Some end.value ≡ c.take.result = some-injective (Some end.value) c.take.result
    (sym end.slot ∙ c.take.ensures.value) in
    let same : end.value ≡ c.unwrap-value.result = let out : Some end.value ≡ Some c.unwrap-value.result = is
    ∙ c.unwrap-value.ensures in cc in
    subst (b.led key.value.value v.seen) same end.leads

pub returns-clause-settled : goal.returns-clause-settled
returns-clause-settled g c =
    let key = c.args.table.shared.key in
    let b = g.B.Booked in
    let v = c.args.seat.me.0 in
    let w = c.split_seat-note.new.seat in
    (noted_closes b.pass_of b.led key.value.value key.passes w.id v w.me.0 _ _
    (ap (λ m. m.0) c.split_seat-note.ensures.2)
    (free_goes v.turn c.requires.free.0)
    (free_idle v.turn c.requires.free.0) c.requires.covers c.close_with-closed.ensures.values.2).settled
