use Rattle.std.proofs.Common.{map}
use Rattle.kom_types.specs.Parts.{Makes}
use Rattle.kom_snapshot.specs.Snap.{conference_effects}
use Rattle.kom_model.specs.Db.{conference_of}
use Rattle.kom_telling.proofs.Going.{found-none, found-some}
use Rattle.kom_telling.proofs.Found.{short-name}
use Rattle.kom_telling.proofs.numbered.tell_conference_of.Goals as goal

pub tell_conference-requires : goal.tell_conference-requires
tell_conference-requires g c =
    short-name c.args.rows.now.db c.args.number c.in-Some.row.now c.requires c.in-Some.ensures

pub returns-in-None-clause-told : goal.returns-in-None-clause-told
returns-in-None-clause-told g c =
    found-none g.S.PartSink.took (λ row. map Makes (conference_effects row)) (conference_of c.args.rows.now.db
    c.args.number) c.args.sink.now c.in-None.ensures

pub returns-in-Some-clause-told : goal.returns-in-Some-clause-told
returns-in-Some-clause-told g c =
    found-some g.S.PartSink.took (λ row. map Makes (conference_effects row)) (conference_of c.args.rows.now.db
    c.args.number) c.in-Some.row.now _ _ _ c.in-Some.ensures c.tell_conference.ensures.told
