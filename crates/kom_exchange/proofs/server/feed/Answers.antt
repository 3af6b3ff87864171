use Rattle.std.proofs.Common.{inl}
use Rattle.kom_types.specs.declared.side.Side.TheVariants as side
use Rattle.kom_exchange.proofs.server.feed.Goals as goal

pub returns-in-Ok : goal.returns-in-Ok
returns-in-Ok c = λ fed units at. inl (c.in-Ok.ensures.fed side.Server fed units at).1

pub returns-in-Err-Malformed : goal.returns-in-Err-Malformed
returns-in-Err-Malformed c = λ fed units at.
    inl (rw c.in-Err-Malformed.field-0-is at (c.in-Err-Malformed.ensures.fed side.Server fed units at)).1

pub returns-in-Err-LineTooLong : goal.returns-in-Err-LineTooLong
returns-in-Err-LineTooLong c = λ fed units at.
    inl (rw c.in-Err-LineTooLong.field-0-is at (c.in-Err-LineTooLong.ensures.fed side.Server fed units at)).1
