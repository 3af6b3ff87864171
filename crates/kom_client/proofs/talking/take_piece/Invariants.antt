-- The bytes so far were taken.
use Rattle.std.proofs.Common.{Ok, Result, take}
use Rattle.kom_client.specs.declared.talk_end.TalkEnd.{TalkEnd}
use Rattle.kom_client.specs.Talking.{Types}
use Rattle.kom_client.specs.Talkers.{typing_of}
use Rattle.kom_client.proofs.talking.take_piece.Given as goal

abbrev pub invariant-loop-byte : goal.invariant-loop-byte
invariant-loop-byte g l =
    let one : Result (Unit {0}) TalkEnd = Ok tt in
    Types one (take l.byte-index l.piece)
    (typing_of l.fn.talker l.fn.line.items (g.L.Link.view l.fn.link) (g.S.Sink.view l.fn.out))
    (typing_of l.talker l.line.items (g.L.Link.view l.link) (g.S.Sink.view l.out))
