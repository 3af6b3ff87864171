use Rattle.kom_session.proofs.Going.{goes_trans}
use Rattle.kom_talk.proofs.conversation.Conversation.take_in.Goals as goal

pub returns-then-not-write_kept-clause-goes : goal.returns-then-not-write_kept-clause-goes
returns-then-not-write_kept-clause-goes g c =
    c.write_kept.ensures.goes (g.K.Desk.view c.args.desk.now) (g.C.Clock.gave c.args.clock.now)

pub call_some-requires : goal.call_some-requires
call_some-requires g c =
    let desk = g.K.Desk.view c.args.desk.now in
    let gave = g.C.Clock.gave c.args.clock.now in
    record {
      can = (
        c.requires.can.0,
        (c.read_ready.ensures.goes desk gave).kept c.requires.can.0
            ((c.write_kept.ensures.goes desk gave).kept c.requires.can.0 c.requires.can.1),
      );
    }

pub returns-clause-goes : goal.returns-clause-goes
returns-clause-goes g c =
    let desk = g.K.Desk.view c.args.desk.now in
    let gave = g.C.Clock.gave c.args.clock.now in
    goes_trans (goes_trans (c.write_kept.ensures.goes desk gave) (c.read_ready.ensures.goes desk gave))
    c.call_some.ensures.goes
