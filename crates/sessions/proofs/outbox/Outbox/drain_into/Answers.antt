use Rattle.std.proofs.Common.{◌≡◌, ◌<◌, length, false, inl, inr, sym, arith}
use Rattle.std.proofs.lemmas.Bool.{eqb-true}
use Rattle.std.proofs.lemmas.Bool.Decides.{nat_tests}
use Rattle.sessions.specs.Outboxes.{is_below_first}
use Rattle.sessions.proofs.Taking.{taken_more, taken_all}
use Rattle.sessions.proofs.outbox.Outbox.drain_into.Goals as goal

pub loop-self-preserved : goal.loop-self-preserved
loop-self-preserved c =
    let took = c.in-Some.ensures in
    let test = c.loop-self-test.ensures in
    let room : length c.loop-self.into.items < 64 = grind (arith, nat_tests, test.fits, test.value) in
    rw c.push.ensures.items
    (taken_more c.args.below _ (record { item = c.in-Some.item; entry = took.0 }) _ c.loop-self.into.items
    (rw took.1 at c.loop-self.invariant) room took.2)

-- no more are given
pub returns-clause-given : goal.returns-clause-given
returns-clause-given c =
    let full : length c.loop-self.into.items ≡ 64 = eqb-true _ _ (sym c.loop-self-test.ensures.value) in
    (taken_all c.args.below _ _ _ c.loop-self.invariant (inl full)).0

-- nothing more waits below
pub returns-in_default-clause-given : goal.returns-in_default-clause-given
returns-in_default-clause-given c =
    let past : is_below_first c.args.below c.loop-self.self ≡ false = c.in_default.ensures.0 in
    (taken_all c.args.below _ _ _ c.loop-self.invariant (inr past)).0
