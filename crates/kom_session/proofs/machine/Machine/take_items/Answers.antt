use Rattle.std.proofs.Common.{◌≡◌, [], List, ℕ, Ok, ap, ◌∙◌, subst, rules, tests}
use Rattle.std.proofs.lemmas.List.{nil_from_length}
use Rattle.kom_types.specs.declared.items.Item.{Item}
use Rattle.kom_links.specs.DeskCalls.{Drains}
use Rattle.kom_session.specs.declared.phase.Phase.TheVariants as phase
use Rattle.kom_session.specs.Known.{known_by, sight, to_write, to_print, note_fault, after_fault}
use Rattle.kom_session.proofs.Draining.{drain_gave, drain_nothing, drain_denied, drained_pending, same_pending}
use Rattle.kom_session.proofs.Going.{goes_known}
use Rattle.kom_session.proofs.machine.Machine.take_items.Goals as goal

pub returns-then-is_empty-clause-made : goal.returns-then-is_empty-clause-made
returns-then-is_empty-clause-made g c = λ host link here.
    let machine = c.args.self.now in
    let none : c.drain_into-answer.new.into.items ≡ [] = nil_from_length _ (search (rules, tests)) in
    goes_known
    (ap (λ (pending : List ℕ). record (known_by machine) { pending = pending; phase = phase.Calm })
    (same_pending (to_write machine) (to_print machine) c.drain_into-answer.new.into.items
    c.requires.may.all_printed none))
    (drain_nothing (known_by machine) c.requires.on c.requires.may.flushed
    (sight (g.K.Desk.view c.args.desk.now) link (g.C.Clock.gave c.args.clock.now)) c.now.result _ _
    (subst (λ (items : List Item). Drains {X = Unit {0}} (g.K.Desk.view c.args.desk.now)
    c.now.result machine.session items (Ok tt) (g.K.Desk.view c.drain_into-answer.new.self)) none
    c.in-Ok.ensures.drains) c.now.ensures.gains)

pub returns-else-is_empty-clause-made : goal.returns-else-is_empty-clause-made
returns-else-is_empty-clause-made g c = λ host link here.
    let machine = c.args.self.now in
    goes_known
    (ap (λ (pending : List ℕ). record (known_by machine) { pending = pending })
    (drained_pending (to_write machine) (to_print machine) c.drain_into-answer.new.into.items
    c.requires.may.all_printed))
    (drain_gave (known_by machine) c.requires.on c.requires.may.flushed
    (sight (g.K.Desk.view c.args.desk.now) link (g.C.Clock.gave c.args.clock.now)) c.now.result _ _ _
    c.in-Ok.ensures.drains c.now.ensures.gains)

pub returns-in-Err-clause-made : goal.returns-in-Err-clause-made
returns-in-Err-clause-made g c = λ host link here.
    let machine = c.args.self.now in
    let drains = c.in-Err.ensures.drains in
    goes_known
    (c.deny.ensures
    ∙ ap (λ (pending : List ℕ). record (known_by machine) {
      pending = pending;
      cause = note_fault machine.cause c.in-Err.fault;
      phase = phase.Denied;
      stage = after_fault machine.stage;
    })
    (same_pending (to_write machine) (to_print machine) c.drain_into-answer.new.into.items
    c.requires.may.all_printed drains.none_given.1))
    (drain_denied (known_by machine) c.requires.on c.requires.may.flushed
    (sight (g.K.Desk.view c.args.desk.now) link (g.C.Clock.gave c.args.clock.now)) c.now.result _ _ _ _
    drains c.now.ensures.gains)
