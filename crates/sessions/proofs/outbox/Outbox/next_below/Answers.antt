use Rattle.std.proofs.Common.{◌≡◌, true, ◌∙◌, sym}
use Rattle.sessions.specs.Outboxes.{is_below_first}
use Rattle.sessions.proofs.Taking.{taken_first}
use Rattle.sessions.proofs.outbox.Outbox.next_below.Goals as goal

pub returns : goal.returns
returns c =
    let below : true ≡ is_below_first c.args.below c.args.self.now = sym c.if-not-is_first_below.false
    ∙ c.is_first_below.ensures in
    taken_first c.args.below c.args.self.now c.rewind.new.ring.items c.in_ok-one.one c.into_item.result
    (rw c.rewind.ensures.items (sym c.self.view_is ∙ c.in_ok-one.ensures.items)) below c.into_item.ensures
