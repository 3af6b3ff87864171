use Rattle.std.proofs.Common.{take, drop, flat_map, ◌++◌}
use Rattle.kom_types.specs.Printing.{print_of}
use Rattle.kom_session.specs.Known.{known_by, to_write, to_print}
use Rattle.kom_session.proofs.Going.{written_then}
use Rattle.kom_session.proofs.Writing.{sent_on, written_more}
use Rattle.kom_session.proofs.machine.Machine.wrote.Goals as goal

pub returns : goal.returns
returns c = λ answer written.
    let machine = c.args.self.now in
    let place = c.place_after-self.result in
    let rest = flat_map print_of (to_print machine) in
    written_then
    (sent_on (known_by machine) c.requires.on (to_write machine) (take c.args.count (to_write machine))
    (drop place machine.writer.bytes ++ rest) answer written
    (written_more machine.written c.args.count place machine.writer.bytes rest
    (rw c.bytes.ensures at c.place_after-self.ensures)))
    c.rest.ensures
