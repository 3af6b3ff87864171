use Rattle.std.proofs.Common.{◌∙◌, arith}
use Rattle.row_slots.proofs.Walks.{none_past, goes_on, gives_first}
use Rattle.row_slots.proofs.walk.next_from.Goals as goal

pub returns-in-Some : goal.returns-in-Some
returns-in-Some g c = c.loop-place.invariant ∙ gives_first _ c.loop-place.place c.in-Some.row.now c.in-Some.ensures

pub loop-place-preserved : goal.loop-place-preserved
loop-place-preserved g c = c.loop-place.invariant ∙ goes_on _ c.loop-place.place c.in_default.ensures

pub returns : goal.returns
returns g c =
    c.loop-place.invariant
    ∙ none_past _ c.loop-place.place (omega (arith, c.count-end.ensures.count, c.loop-place-test.false))
