use Rattle.std.proofs.Common.{◌≡◌, ◌∙◌, Some, sym, ap, refl, nat_eq}
use Rattle.std.specs.Option.{option_copied_mut}
use Rattle.indexmap.specs.IndexMap.{get}
use Rattle.kom_types.specs.Sessions.{after_drain}
use Rattle.sessions.proofs.Accepted.{still-accepting}
use Rattle.sessions.proofs.Keeping.{drained_keeps}
use Rattle.sessions.proofs.Numbered.{lent, Written, written}
use Rattle.sessions.proofs.table.Sessions.drain_into.Goals as goal

wrote : (c : goal.After-self-1) → Written c.self.inside.rows (c.get_mut.follows.lender c.drain_into.new.self)
    c.self.invariant.0 c.self.invariant.2 c.args.session (after_drain c.args.below) c.unwrap-row.result.now
wrote c =
    let there : get nat_eq c.self.inside.rows c.args.session ≡ Some c.unwrap-row.result.now =
    sym c.get_mut.ensures.value ∙ ap option_copied_mut c.unwrap-row.ensures in
    let holds = c.get_mut.follows.holds c.drain_into.new.self in
    written c.self.inside.rows (c.get_mut.follows.lender c.drain_into.new.self) c.self.invariant.0 c.self.invariant.2
    c.args.session (after_drain c.args.below) c.unwrap-row.result.now c.drain_into.new.self
    (drained_keeps c.args.below) there c.drain_into.ensures.rest holds.0 holds.1

pub unwrap-row-requires : goal.unwrap-row-requires
unwrap-row-requires c =
    lent c.self.inside.rows c.self.invariant.2 c.args.session c.get_mut.result c.get_mut.ensures.value
    (rw c.self.view_is c.requires.there)

pub invariant_of-self : goal.invariant_of-self
invariant_of-self c = (
  (wrote c).rising,
  rw (wrote c).changed (still-accepting _ c.args.session (after_drain c.args.below) _ (drained_keeps c.args.below)
      (λ row. refl) c.self.invariant.1),
  (wrote c).numbered,
)

pub returns-clause-given : goal.returns-clause-given
returns-clause-given c = rw (← c.self.view_is, (wrote c).found) c.drain_into.ensures.given

pub returns-clause-rest : goal.returns-clause-rest
returns-clause-rest c = rw (← c.self.view_is) (wrote c).changed
