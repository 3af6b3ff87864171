use Rattle.kom_session.proofs.machine.Machine.call_line.Goals as goal

pub returns-in-Ok-clause-taken : goal.returns-in-Ok-clause-taken
returns-in-Ok-clause-taken g c = c.call.ensures.taken c.args.line.now c.in-Ok.ensures.reading
