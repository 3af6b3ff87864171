use Rattle.std.proofs.Common.{rules, refl, eq-eqb}
use Rattle.std.proofs.lemmas.Bool.{ne_eqb}
use Rattle.std.proofs.lemmas.Result.{err_from_is_err_and}
use Rattle.kom_client.specs.Talkers.{turn_of, world, typing_of}
use Rattle.kom_client.proofs.Turns.{key_ends, key_stops, key_goes_on, key_memory}
use Rattle.std.specs.Prelude.{◌∷◌, []}
use Rattle.kom_client.proofs.talking.take_key.Goals as goal

pub returns-in_err-take_line : goal.returns-in_err-take_line
returns-in_err-take_line g c =
    let p = err_from_is_err_and c.from_residual.result c.from_residual.ensures.1 in
    rw (p.1, p.2)
    (key_stops
    (typing_of c.args.talker.now c.args.line.now.items (g.L.Link.view c.args.link.now) (g.S.Sink.view c.args.out.now))
    (typing_of c.take_line.new.self c.args.line.now.items (g.L.Link.view c.take_line.new.link)
    (g.S.Sink.view c.take_line.new.out))
    c.args.byte (eq-eqb c.args.byte 10 c.if-byte-eq10.true) (rw c.as_slice.ensures.value at c.in_err-take_line.ensures))

pub returns-in_ok-take_line : goal.returns-in_ok-take_line
returns-in_ok-take_line g c =
    key_ends
    (typing_of c.args.talker.now c.args.line.now.items (g.L.Link.view c.args.link.now) (g.S.Sink.view c.args.out.now))
    (typing_of c.take_line.new.self c.clear.new.self.items (g.L.Link.view c.take_line.new.link)
    (g.S.Sink.view c.take_line.new.out))
    c.args.byte (eq-eqb c.args.byte 10 c.if-byte-eq10.true) (search rules)
    (rw c.as_slice.ensures.value at c.in_ok-take_line.ensures)

pub returns-in_err-hold : goal.returns-in_err-hold
returns-in_err-hold g c =
    let p = err_from_is_err_and c.from_residual-in_err-hold.result c.from_residual-in_err-hold.ensures.1 in
    rw (p.1, p.2)
    (key_memory
    (typing_of c.args.talker.now c.args.line.now.items (g.L.Link.view c.args.link.now) (g.S.Sink.view c.args.out.now))
    (typing_of c.args.talker.now c.hold.new.line.items (g.L.Link.view c.args.link.now) (g.S.Sink.view c.args.out.now))
    (c.args.byte ∷ []) refl)

pub returns-in_ok-hold : goal.returns-in_ok-hold
returns-in_ok-hold g c =
    key_goes_on (turn_of c.args.talker.now) c.args.line.now.items c.hold.new.line.items
    (world c.args.talker.now (g.L.Link.view c.args.link.now) (g.S.Sink.view c.args.out.now)) c.args.byte
    (ne_eqb c.args.byte 10 c.if-byte-eq10.false) c.in_ok-hold.ensures
