use Rattle.std.proofs.Common.{[], ◌∷◌}
use Rattle.kom_types.specs.Parts.{Raises}
use Rattle.kom_types.specs.declared.raised.RaisedCounter.TheVariants as counter
use Rattle.kom_snapshot.specs.Snap.{raise_to}
use Rattle.kom_model.specs.Db.{person_of}
use Rattle.kom_telling.proofs.Going.{found-none, found-some}
use Rattle.kom_telling.proofs.numbered.tell_sessions.Goals as goal

pub returns-in-None-clause-told : goal.returns-in-None-clause-told
returns-in-None-clause-told g c =
    found-none g.S.PartSink.took (λ row. Raises (raise_to counter.Sessions row.number row.sessions) ∷ []) (person_of
    c.args.rows.now.db c.args.number) c.args.sink.now c.in-None.ensures

pub returns-in-Some-clause-told : goal.returns-in-Some-clause-told
returns-in-Some-clause-told g c =
    found-some g.S.PartSink.took (λ row. Raises (raise_to counter.Sessions row.number row.sessions) ∷ []) (person_of
    c.args.rows.now.db c.args.number) c.in-Some.row.now _ _ _ c.in-Some.ensures c.put_raised.ensures.told
