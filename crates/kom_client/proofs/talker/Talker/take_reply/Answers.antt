use Rattle.std.proofs.lemmas.Result.{err_from_is_err_and}
use Rattle.kom_client.specs.Talkers.{world}
use Rattle.kom_client.proofs.Steps.{unspelled_stops, reply_shown, reply_unshown}
use Rattle.kom_client.proofs.talker.Talker.take_reply.Goals as goal

pub returns-in_err-is_reply-clause-takes : goal.returns-in_err-is_reply-clause-takes
returns-in_err-is_reply-clause-takes g c = λ link.
    let p = err_from_is_err_and c.from_residual.result c.from_residual.ensures.1 in
    rw (p.1, p.2)
    (unspelled_stops c.in_err-is_reply.field-0.0 c.args.self.now.reference c.args.line.now
    c.spell_reply.new.writer.bytes (world c.args.self.now link (g.S.Sink.view c.args.out.now))
    c.in_err-is_reply.ensures)

pub returns-in_err-show-clause-takes : goal.returns-in_err-show-clause-takes
returns-in_err-show-clause-takes g c = λ link.
    let at = c.args.self.now in
    let p = err_from_is_err_and c.from_residual-in_err-show.result c.from_residual-in_err-show.ensures.1 in
    rw (p.1, p.2)
    (reply_unshown c.in_ok-is_reply.is_reply at.reference c.args.line.now c.bytes.result.now c.in_err-show.field-0.0
    (world at link (g.S.Sink.view c.args.out.now)) (world at link (g.S.Sink.view c.show.new.out))
    (rw c.bytes.ensures c.in_ok-is_reply.ensures)
    (c.in_err-show.ensures at.hearing.splitter at.hearing.fault link))

pub returns-clause-takes : goal.returns-clause-takes
returns-clause-takes g c = λ link.
    let at = c.args.self.now in
    reply_shown c.in_ok-is_reply.is_reply at.reference c.args.line.now c.bytes.result.now
    (world at link (g.S.Sink.view c.args.out.now)) (world at link (g.S.Sink.view c.show.new.out))
    (rw c.bytes.ensures c.in_ok-is_reply.ensures)
    (c.in_ok-show.ensures at.hearing.splitter at.hearing.fault link)
