use Rattle.std.proofs.Common.{ℕ, List, ap, ◌∙◌}
use Rattle.std.proofs.lemmas.Result.{err_from_is_err_and}
use Rattle.kom_client.specs.Keys.{request_line}
use Rattle.kom_client.specs.Seen.{request_seen}
use Rattle.kom_client.specs.Talking.{Rest, ask_then}
use Rattle.kom_client.specs.Talkers.{turn_of, world}
use Rattle.kom_client.proofs.Steps.{passes_trans, passes_stops, memory_stops}
use Rattle.kom_client.proofs.Turns.{request_sent, request_unsent}
use Rattle.kom_client.proofs.talker.Talker.ask.Goals as goal

pub returns-in_err-put_request-clause-asks : goal.returns-in_err-put_request-clause-asks
returns-in_err-put_request-clause-asks g c =
    let p = err_from_is_err_and c.from_residual.result c.from_residual.ensures.1 in
    rw (p.1, p.2) (memory_stops (ask_then (turn_of c.args.self.now) (request_seen c.args.request.now))
    (world c.args.self.now (g.L.Link.view c.args.link.now) (g.S.Sink.view c.args.out.now)))

pub returns-in_err-send-clause-asks : goal.returns-in_err-send-clause-asks
returns-in_err-send-clause-asks g c =
    let p = err_from_is_err_and c.from_residual-in_err-send.result c.from_residual-in_err-send.ensures.1 in
    rw (p.1, p.2)
    (request_unsent (turn_of c.args.self.now) (request_seen c.args.request.now) c.in_err-send.field-0.0
    c.bytes.result.now
    (world c.args.self.now (g.L.Link.view c.args.link.now) (g.S.Sink.view c.args.out.now))
    (c.bytes.ensures ∙ c.in_ok-put_request.ensures
    ∙ ap (λ (person : List ℕ). request_line c.args.self.now.reference person (request_seen c.args.request.now))
    c.as_slice-person.ensures.value) c.in_err-send.ensures)

pub returns-in_err-await_reply-clause-asks : goal.returns-in_err-await_reply-clause-asks
returns-in_err-await_reply-clause-asks g c =
    let p = err_from_is_err_and c.from_residual-in_err-await_reply.result
    c.from_residual-in_err-await_reply.ensures.1 in
    rw (p.1, p.2)
    (passes_stops
    (request_sent (turn_of c.args.self.now) (request_seen c.args.request.now) c.bytes.result.now
    (world c.args.self.now (g.L.Link.view c.args.link.now) (g.S.Sink.view c.args.out.now))
    (c.bytes.ensures ∙ c.in_ok-put_request.ensures
    ∙ ap (λ (person : List ℕ). request_line c.args.self.now.reference person (request_seen c.args.request.now))
    c.as_slice-person.ensures.value) c.in_ok-send.ensures)
    c.in_err-await_reply.ensures.awaits)

pub returns-in_err-remember_person-clause-asks : goal.returns-in_err-remember_person-clause-asks
returns-in_err-remember_person-clause-asks g c =
    let p = err_from_is_err_and c.from_residual-in_err-remember_person.result
    c.from_residual-in_err-remember_person.ensures.1 in
    rw (p.1, p.2)
    (passes_stops
    (passes_trans
    (request_sent (turn_of c.args.self.now) (request_seen c.args.request.now) c.bytes.result.now
    (world c.args.self.now (g.L.Link.view c.args.link.now) (g.S.Sink.view c.args.out.now))
    (c.bytes.ensures ∙ c.in_ok-put_request.ensures
    ∙ ap (λ (person : List ℕ). request_line c.args.self.now.reference person (request_seen c.args.request.now))
    c.as_slice-person.ensures.value) c.in_ok-send.ensures)
    c.in_ok-await_reply.ensures.awaits)
    (memory_stops (λ (next : Rest). next)
    (world c.await_reply.new.self (g.L.Link.view c.await_reply.new.link) (g.S.Sink.view c.await_reply.new.out))))

pub returns-clause-asks : goal.returns-clause-asks
returns-clause-asks g c =
    passes_trans
    (request_sent (turn_of c.args.self.now) (request_seen c.args.request.now) c.bytes.result.now
    (world c.args.self.now (g.L.Link.view c.args.link.now) (g.S.Sink.view c.args.out.now))
    (c.bytes.ensures ∙ c.in_ok-put_request.ensures
    ∙ ap (λ (person : List ℕ). request_line c.args.self.now.reference person (request_seen c.args.request.now))
    c.as_slice-person.ensures.value) c.in_ok-send.ensures)
    c.in_ok-await_reply.ensures.awaits
