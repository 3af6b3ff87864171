use Rattle.std.proofs.lemmas.Result.{err_from_is_err_and}
use Rattle.kom_client.specs.Talkers.{typing_of}
use Rattle.kom_client.proofs.Turns.{typed_none, piece_more, piece_stops, piece_whole}
use Rattle.kom_client.proofs.talking.take_piece.Goals as goal

pub loop-byte-init : goal.loop-byte-init
loop-byte-init g c =
    typed_none
    (typing_of c.args.talker.now c.args.line.now.items (g.L.Link.view c.args.link.now) (g.S.Sink.view c.args.out.now))

pub returns-in_err-take_key : goal.returns-in_err-take_key
returns-in_err-take_key g c =
    let p = err_from_is_err_and c.from_residual.result c.from_residual.ensures.1 in
    rw (p.1, p.2)
    (piece_stops
    (typing_of c.args.talker.now c.args.line.now.items (g.L.Link.view c.args.link.now) (g.S.Sink.view c.args.out.now))
    (typing_of c.loop-byte.talker c.loop-byte.line.items (g.L.Link.view c.loop-byte.link)
    (g.S.Sink.view c.loop-byte.out))
    (typing_of c.take_key.new.talker c.take_key.new.line.items (g.L.Link.view c.take_key.new.link)
    (g.S.Sink.view c.take_key.new.out))
    c.in_err-take_key.field-0.0 c.args.piece.now c.loop-byte.byte-index c.loop-byte-test.true c.loop-byte.invariant
    c.in_err-take_key.ensures)

pub loop-byte-preserved : goal.loop-byte-preserved
loop-byte-preserved g c =
    piece_more
    (typing_of c.args.talker.now c.args.line.now.items (g.L.Link.view c.args.link.now) (g.S.Sink.view c.args.out.now))
    (typing_of c.loop-byte.talker c.loop-byte.line.items (g.L.Link.view c.loop-byte.link)
    (g.S.Sink.view c.loop-byte.out))
    (typing_of c.take_key.new.talker c.take_key.new.line.items (g.L.Link.view c.take_key.new.link)
    (g.S.Sink.view c.take_key.new.out))
    c.args.piece.now c.loop-byte.byte-index c.loop-byte-test.true c.loop-byte.invariant c.in_ok-take_key.ensures

pub returns : goal.returns
returns g c =
    piece_whole
    (typing_of c.args.talker.now c.args.line.now.items (g.L.Link.view c.args.link.now) (g.S.Sink.view c.args.out.now))
    (typing_of c.loop-byte.talker c.loop-byte.line.items (g.L.Link.view c.loop-byte.link)
    (g.S.Sink.view c.loop-byte.out))
    c.args.piece.now c.loop-byte.byte-index c.loop-byte-test.false c.loop-byte.invariant
