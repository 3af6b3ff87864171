use Rattle.kom_session.proofs.Writing.{dropped, none_left}
use Rattle.kom_session.proofs.events.place_after.Goals as goal

pub returns-then-bytes-place : goal.returns-then-bytes-place
returns-then-bytes-place c =
    none_left c.args.place c.args.count c.args.bytes.now c.if-bytes-place.true

pub returns : goal.returns
returns c = dropped c.args.place c.args.count c.args.bytes.now
