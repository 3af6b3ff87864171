use Rattle.std.proofs.Common.{◌≡◌, [], ◌∷◌, ap, sym, ◌∙◌}
use Rattle.kom_types.specs.declared.decisions.Decision.{Decision}
use Rattle.kom_types.specs.declared.replies.Reply.{Reply}
use Rattle.kom_types.specs.Sessions.{waiting_limits}
use Rattle.kom_model.specs.State.{State}
use Rattle.kom_model.specs.Sending.{Delivery}
use Rattle.kom_model.specs.After.{moment_of, queue_all, reply_to, carry_out}
use Rattle.kom_core.proofs.Rows.{queue_all-push}
use Rattle.kom_core.proofs.server_state.ServerState.call.Goals as goal

pub returns-in-Ok : goal.returns-in-Ok
returns-in-Ok g c =
    let asking = c.args.asking.now in
    let carried = c.in-Ok.ensures.ok in
    let decision : Decision = carried.0 in
    let messages = c.in-Ok.messages.items in
    let reply : Reply → Delivery = λ body. reply_to asking.session asking.reference body in
    let after : State = carry_out (moment_of c.args.self.now asking.moment) decision c.args.self.now in
    let sent : c.queue_all.new.self ≡ queue_all waiting_limits messages after =
    c.queue_all.ensures ∙ ap (queue_all waiting_limits messages) carried.3 in
    record {
      answers = (
        decision,
        messages,
        carried.1,
        c.answer.ensures
            ∙ ap (queue_all waiting_limits (reply c.in-Ok.body ∷ [])) sent
            ∙ ap
            (λ (body : Reply). queue_all waiting_limits (reply body ∷ []) (queue_all waiting_limits messages after))
            carried.2
            ∙ sym (queue_all-push waiting_limits messages (reply decision.reply) after),
      );
      kept = c.in-Ok.ensures.kept;
      rest = c.in-Ok.ensures.rest;
    }
