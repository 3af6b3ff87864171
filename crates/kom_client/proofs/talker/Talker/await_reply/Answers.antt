use Rattle.std.proofs.Common.{rules, refl, ap, ◌∙◌}
use Rattle.std.proofs.lemmas.Result.{err_from_is_err_and}
use Rattle.kom_client.specs.Client.{Turn}
use Rattle.kom_client.specs.Talking.{await_reply}
use Rattle.kom_client.specs.Talkers.{world}
use Rattle.kom_client.proofs.Steps.{passes_none, line_unheard, reply_stops, reply_comes, message_comes}
use Rattle.kom_client.proofs.talker.Talker.await_reply.Goals as goal

pub loop-init : goal.loop-init
loop-init g c = record {
  can = search rules;
  finite = search rules;
  turn = refl;
  passes =
      passes_none (await_reply c.args.self.now.reference)
      (world c.args.self.now (g.L.Link.view c.args.link.now) (g.S.Sink.view c.args.out.now));
}

pub returns-in_err-line-clause-awaits : goal.returns-in_err-line-clause-awaits
returns-in_err-line-clause-awaits g c =
    let p = err_from_is_err_and c.from_residual.result c.from_residual.ensures.1 in
    rw (p.1, p.2)
    (line_unheard c.args.self.now.reference c.in_err-line.field-0.0 c.loop.invariant.passes
    (c.in_err-line.ensures.hears (g.S.Sink.view c.loop.out)))

pub returns-in_err-is_reply-clause-awaits : goal.returns-in_err-is_reply-clause-awaits
returns-in_err-is_reply-clause-awaits g c =
    let p = err_from_is_err_and c.from_residual-in_err-is_reply.result c.from_residual-in_err-is_reply.ensures.1 in
    rw (p.1, p.2)
    (reply_stops c.args.self.now.reference c.next_line.new.self.reference c.in_ok-line.line c.in_err-is_reply.field-0.0
    (ap (λ (turn : Turn). turn.reference) (c.in_ok-line.ensures.turn ∙ c.loop.invariant.turn)) c.loop.invariant.passes
    (c.in_ok-line.ensures.hears (g.S.Sink.view c.loop.out))
    (c.in_err-is_reply.ensures.takes (g.L.Link.view c.next_line.new.link)))

pub returns-then-is_reply-clause-awaits : goal.returns-then-is_reply-clause-awaits
returns-then-is_reply-clause-awaits g c =
    reply_comes c.args.self.now.reference c.next_line.new.self.reference c.in_ok-line.line c.in_ok-is_reply.is_reply
    (ap (λ (turn : Turn). turn.reference) (c.in_ok-line.ensures.turn ∙ c.loop.invariant.turn)) c.if-is_reply.true
    c.loop.invariant.passes (c.in_ok-line.ensures.hears (g.S.Sink.view c.loop.out))
    (c.in_ok-is_reply.ensures.takes (g.L.Link.view c.next_line.new.link))

pub loop-preserved : goal.loop-preserved
loop-preserved g c = record {
  can = search rules;
  finite = search rules;
  turn = c.in_ok-is_reply.ensures.turn ∙ c.in_ok-line.ensures.turn ∙ c.loop.invariant.turn;
  passes =
      message_comes c.args.self.now.reference c.next_line.new.self.reference c.in_ok-line.line c.in_ok-is_reply.is_reply
      (ap (λ (turn : Turn). turn.reference) (c.in_ok-line.ensures.turn ∙ c.loop.invariant.turn)) c.if-is_reply.false
      c.loop.invariant.passes (c.in_ok-line.ensures.hears (g.S.Sink.view c.loop.out))
      (c.in_ok-is_reply.ensures.takes (g.L.Link.view c.next_line.new.link));
}

pub loop-preserved-else-is_reply : goal.loop-preserved-else-is_reply
loop-preserved-else-is_reply g c = record {
  can = search rules;
  finite = search rules;
  turn = c.in_ok-is_reply.ensures.turn ∙ c.in_ok-line.ensures.turn ∙ c.loop.invariant.turn;
  passes =
      message_comes c.args.self.now.reference c.next_line.new.self.reference c.in_ok-line.line c.in_ok-is_reply.is_reply
      (ap (λ (turn : Turn). turn.reference) (c.in_ok-line.ensures.turn ∙ c.loop.invariant.turn)) c.if-is_reply.false
      c.loop.invariant.passes (c.in_ok-line.ensures.hears (g.S.Sink.view c.loop.out))
      (c.in_ok-is_reply.ensures.takes (g.L.Link.view c.next_line.new.link));
}
