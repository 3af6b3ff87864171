use Rattle.std.proofs.Common.{Result, sym, subst}
use Rattle.std.specs.Prelude.{⊤}
use Rattle.kom_types.specs.declared.answers.NotMade.{NotMade}
use Rattle.kom_session.specs.Known.{known_by}
use Rattle.kom_session.specs.Kept.{IfFlushed}
use Rattle.kom_session.proofs.Going.{flushed_then}
use Rattle.kom_session.proofs.Flushing.{flushed_ok, flushed_err}
use Rattle.kom_session.proofs.machine.Machine.flushed.Goals as goal

pub returns-in-Ok : goal.returns-in-Ok
returns-in-Ok c =
    subst (λ (answer : Result ⊤ NotMade). IfFlushed (known_by c.args.self.now) answer
    (known_by c.rest.new.self)) (sym c.in-Ok.is)
    (flushed_then (flushed_ok (known_by c.args.self.now) c.requires.on c.requires.may)
    (rw c.with_flush-self.ensures at c.rest.ensures))

pub returns-in-Err : goal.returns-in-Err
returns-in-Err c =
    subst (λ (answer : Result ⊤ NotMade). IfFlushed (known_by c.args.self.now) answer
    (known_by c.rest-in-Err.new.self)) (sym c.in-Err.is)
    (flushed_then (flushed_err (known_by c.args.self.now) c.requires.on c.requires.may c.in-Err.fault)
    (rw c.deny.ensures at c.rest-in-Err.ensures))
