use Rattle.std.proofs.Common.{rules, arith, [], ◌++◌}
use Rattle.kom_links.specs.declared.link.Got.TheVariants as got
use Rattle.kom_client.specs.Talkers.{typing_of}
use Rattle.kom_client.proofs.Links.{tells_nothing}
use Rattle.kom_client.proofs.Turns.{typed_none, typed_on}
use Rattle.kom_client.proofs.Talks.{keys_tell, keys_ended, keys_failed, talk_stopped}
use Rattle.kom_client.proofs.talking.take_keys.Goals as goal

pub loop-init : goal.loop-init
loop-init g c = record {
  can = search rules;
  finite = search rules;
  faults = omega arith;
  typed = (
    [],
    tells_nothing (g.K.Link.view c.args.keys.now) c.requires.untouched.nothing_taken c.requires.untouched.nothing_put,
    typed_none
        (typing_of c.args.talker.now c.args.line.now.items (g.L.Link.view c.args.link.now)
        (g.S.Sink.view c.args.out.now)),
  );
}

pub loop-preserved-in-Ok : goal.loop-preserved-in-Ok
loop-preserved-in-Ok g c =
    let t = c.loop.invariant.typed in
    record {
      can = search rules;
      finite = search rules;
      faults = omega (arith, c.loop.invariant.faults, c.in-Some-read.ensures.faults);
      typed = (
        t.0 ++ c.first.result.now,
        rw c.first.ensures (keys_tell t.0 (got.Some c.in-Some-read.count) c.in-Some-read.ensures t.1),
        typed_on
            (typing_of c.args.talker.now c.args.line.now.items (g.L.Link.view c.args.link.now)
            (g.S.Sink.view c.args.out.now))
            (typing_of c.loop.talker c.loop.line.items (g.L.Link.view c.loop.link) (g.S.Sink.view c.loop.out))
            (typing_of c.take_piece.new.talker c.take_piece.new.line.items (g.L.Link.view c.take_piece.new.link)
            (g.S.Sink.view c.take_piece.new.out))
            t.0 c.first.result.now t.2 c.in-Ok.ensures,
      );
    }

pub returns-in-Err : goal.returns-in-Err
returns-in-Err g c =
    let t = c.loop.invariant.typed in
    talk_stopped
    (typing_of c.args.talker.now c.args.line.now.items (g.L.Link.view c.args.link.now) (g.S.Sink.view c.args.out.now))
    (typing_of c.loop.talker c.loop.line.items (g.L.Link.view c.loop.link) (g.S.Sink.view c.loop.out))
    (typing_of c.take_piece.new.talker c.take_piece.new.line.items (g.L.Link.view c.take_piece.new.link)
    (g.S.Sink.view c.take_piece.new.out))
    c.in-Err.end (g.K.Link.view c.args.keys.now) (g.K.Link.view c.loop.keys) (g.K.Link.view c.read.new.link)
    c.read.new.self.bytes.items t.0 c.first.result.now c.requires.nothing t.2
    (rw c.first.ensures (keys_tell t.0 (got.Some c.in-Some-read.count) c.in-Some-read.ensures t.1))
    c.in-Err.ensures

pub returns-in-End : goal.returns-in-End
returns-in-End g c =
    let t = c.loop.invariant.typed in
    keys_ended
    (typing_of c.args.talker.now c.args.line.now.items (g.L.Link.view c.args.link.now) (g.S.Sink.view c.args.out.now))
    (typing_of c.loop.talker c.loop.line.items (g.L.Link.view c.loop.link) (g.S.Sink.view c.loop.out))
    (g.K.Link.view c.args.keys.now) (g.K.Link.view c.loop.keys) (g.K.Link.view c.read.new.link)
    c.read.new.self.bytes.items t.0 c.requires.nothing t.2 t.1 c.in-End.ensures

pub returns-in-Failed : goal.returns-in-Failed
returns-in-Failed g c =
    let t = c.loop.invariant.typed in
    keys_failed
    (typing_of c.args.talker.now c.args.line.now.items (g.L.Link.view c.args.link.now) (g.S.Sink.view c.args.out.now))
    (typing_of c.loop.talker c.loop.line.items (g.L.Link.view c.loop.link) (g.S.Sink.view c.loop.out))
    (g.K.Link.view c.args.keys.now) (g.K.Link.view c.loop.keys) (g.K.Link.view c.read.new.link)
    c.read.new.self.bytes.items t.0 c.requires.nothing t.2 t.1 c.loop.invariant.faults c.in-Failed.ensures
