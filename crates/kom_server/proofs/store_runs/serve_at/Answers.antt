use Rattle.kom_server.proofs.store_runs.serve_at.Goals as goal

pub returns-in-Ok-clause-over : goal.returns-in-Ok-clause-over
returns-in-Ok-clause-over g c none =
    rw c.in-None.is (c.serve_standard.ensures.ended none)
