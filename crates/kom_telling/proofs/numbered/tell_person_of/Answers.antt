use Rattle.std.proofs.Common.{map}
use Rattle.kom_types.specs.Parts.{Makes}
use Rattle.kom_snapshot.specs.Snap.{person_effects}
use Rattle.kom_model.specs.Db.{person_of}
use Rattle.kom_telling.proofs.Going.{found-none, found-some}
use Rattle.kom_telling.proofs.Found.{short-user}
use Rattle.kom_telling.proofs.numbered.tell_person_of.Goals as goal

pub tell_person-requires : goal.tell_person-requires
tell_person-requires g c =
    short-user c.args.rows.now.db c.args.number c.in-Some.row.now c.requires c.in-Some.ensures

pub returns-in-None-clause-told : goal.returns-in-None-clause-told
returns-in-None-clause-told g c =
    found-none g.S.PartSink.took (λ row. map Makes (person_effects row)) (person_of c.args.rows.now.db c.args.number)
    c.args.sink.now c.in-None.ensures

pub returns-in-Some-clause-told : goal.returns-in-Some-clause-told
returns-in-Some-clause-told g c =
    found-some g.S.PartSink.took (λ row. map Makes (person_effects row)) (person_of c.args.rows.now.db c.args.number)
    c.in-Some.row.now _ _ _ c.in-Some.ensures c.tell_person.ensures.told
