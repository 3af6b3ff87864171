use Rattle.std.proofs.Common.{◌≡◌, Some, ap, ◌∙◌}
use Rattle.std.proofs.lemmas.Bool.{eqb-true}
use Rattle.memberships.proofs.Finding.{element_of}
use Rattle.memberships.proofs.Placing.{position_at}
use Rattle.memberships.proofs.table.Memberships.is_at.Goals as goal

pub returns-in-Some : goal.returns-in-Some
returns-in-Some c is =
    let gives = c.in-Some.ensures.lookup in
    let same : c.in-Some.other.now ≡ c.args.conference = eqb-true _ _ is in
    let at = element_of _ _ c.args.place c.in-Some.other.now c.list.ensures gives.3.0 gives.1 ∙ ap Some same in
    rw (← c.self.view_is)
    (position_at _ _ _ _ c.self.invariant.0 c.args.person c.args.place c.args.conference at)
