use Rattle.std.proofs.Common.{ap}
use Rattle.std.specs.Prelude.{option_map}
use Rattle.kom_types.specs.declared.side.Side.TheVariants as side
use Rattle.kom_types.specs.Reading.{place_of}
use Rattle.kom_session.specs.Known.{known_by}
use Rattle.kom_session.proofs.Reading.{fed_on, fed_over}
use Rattle.kom_session.proofs.machine.Machine.fed.Goals as goal

pub returns-in-Ok : goal.returns-in-Ok
returns-in-Ok c = λ buffer count e.
    fed_on (known_by c.args.self.now) c.requires buffer c.args.piece.now count e _ _
    (λ fed taken at. let facts = c.in-Ok.ensures.fed side.Client fed taken at in
    (facts.1, rw c.requires.not_bad (ap (option_map place_of) facts.0)))

pub returns-in-Err-Malformed : goal.returns-in-Err-Malformed
returns-in-Err-Malformed c = λ buffer count e.
    fed_on (known_by c.args.self.now) c.requires buffer c.args.piece.now count e _ _
    (λ fed taken at. let facts = rw c.in-Err-Malformed.field-0-is at
    (c.in-Err-Malformed.ensures.fed side.Client fed taken at) in
    (facts.1, ap (option_map place_of) facts.0))

pub returns-in-Err-LineTooLong : goal.returns-in-Err-LineTooLong
returns-in-Err-LineTooLong c = λ buffer count e.
    fed_on (known_by c.args.self.now) c.requires buffer c.args.piece.now count e _ _
    (λ fed taken at. let facts = rw c.in-Err-LineTooLong.field-0-is at
    (c.in-Err-LineTooLong.ensures.fed side.Client fed taken at) in
    (facts.1, ap (option_map place_of) facts.0))

pub returns-in-Err-Memory : goal.returns-in-Err-Memory
returns-in-Err-Memory c = λ buffer count e.
    fed_over (known_by c.args.self.now) c.requires buffer count _
