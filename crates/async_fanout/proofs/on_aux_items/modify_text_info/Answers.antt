use Rattle.std.proofs.Common.{◌≡◌, ◌∙◌, ◌++◌, List, ℕ, ap, subst}
use Rattle.std.specs.Result.{IfOk}
use Rattle.kom_types.specs.declared.aux_items.AuxChange.{AuxChange}
use Rattle.kom_types.specs.declared.effects.Effect.{Effect}
use Rattle.kom_model.specs.Db.{Db}
use Rattle.kom_model.specs.Messages.{text_aux_changed}
use Rattle.kom_model.specs.Sending.{Sending, delivered_to}
use Rattle.kom_model.specs.ToWhom.{items_named, items_made}
use Rattle.async_fanout.proofs.Brought.{one}
use Rattle.async_fanout.proofs.on_aux_items.modify_text_info.Goals as goal

-- the message, by the rows, the numbers that are deleted and the effects
abbrev changed : ℕ → Db → List ℕ → List Effect → Sending
changed text db numbers effects = text_aux_changed db text (items_named db text numbers) (items_made effects)

pub returns : goal.returns
returns c =
    let given = c.get-change.result.now in
    let text = c.args.change.now.object in
    let sent : changed given.object c.rows.result.now.db c.as_slice.result.now c.as_slice-2.result.now
    ≡ changed text c.args.asked.now.db c.args.change.now.delete c.args.decision.now.effects =
    ap (λ (given : AuxChange). changed given.object c.rows.result.now.db c.as_slice.result.now
    c.as_slice-2.result.now) c.get-change.ensures
    ∙ ap (λ db. changed text db c.as_slice.result.now c.as_slice-2.result.now) c.rows.ensures
    ∙ ap (λ numbers. changed text c.args.asked.now.db numbers c.as_slice-2.result.now)
    (c.as_slice.ensures ∙ ap (λ (given : AuxChange). given.delete) c.get-change.ensures)
    ∙ ap (changed text c.args.asked.now.db c.args.change.now.delete) c.as_slice-2.ensures in
    rw (one c.args.asked.now (changed text c.args.asked.now.db c.args.change.now.delete c.args.decision.now.effects))
    (subst (λ sending. IfOk c.deliver.result (λ done. c.deliver.new.into.items
    ≡ c.args.sent.now.items ++ delivered_to c.args.asked.now.db c.args.asked.now.seats sending)) sent c.deliver.ensures)
