use Rattle.kom_types.specs.declared.side.Side.TheVariants as side
use Rattle.kom_types.specs.Stream as stream
use Rattle.kom_client.proofs.Hearings.{fed_on, fed_faulty}
use Rattle.kom_client.proofs.hearing.feed.Goals as goal

pub returns-in-Ok : goal.returns-in-Ok
returns-in-Ok c =
    fed_on c.args.splitter.now c.feed.new.self c.args.fault.now c.args.piece.now
    (λ found e. let again = (c.in-Ok.ensures.again found e).0 in absurd cc)
    (λ fed taken at. c.in-Ok.ensures.fed side.Server fed taken at)

pub returns-in-Err-Malformed : goal.returns-in-Err-Malformed
returns-in-Err-Malformed c =
    fed_faulty c.args.splitter.now c.feed.new.self (stream.Malformed c.in-Err-Malformed.place) c.args.piece.now
    (λ fed taken at. rw c.in-Err-Malformed.field-0-is at (c.in-Err-Malformed.ensures.fed side.Server fed taken at))
    c.args.fault.now

pub returns-in-Err-LineTooLong : goal.returns-in-Err-LineTooLong
returns-in-Err-LineTooLong c =
    fed_faulty c.args.splitter.now c.feed.new.self (stream.LineTooLong c.in-Err-LineTooLong.place) c.args.piece.now
    (λ fed taken at. rw c.in-Err-LineTooLong.field-0-is at (c.in-Err-LineTooLong.ensures.fed side.Server fed taken at))
    c.args.fault.now
