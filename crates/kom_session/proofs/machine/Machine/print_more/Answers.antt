use Rattle.kom_session.proofs.Writing.{printed_known}
use Rattle.kom_session.proofs.machine.Machine.print_more.Goals as goal

pub returns : goal.returns
returns c =
    let room = c.make_room in
    let block = c.print_block in
    printed_known c.args.self.now room.new.self block.new.writer block.new.printed
    room.ensures.same room.ensures.kept room.ensures.inside
    (rw c.as_slice.ensures.value at block.ensures.same) block.ensures.grows
