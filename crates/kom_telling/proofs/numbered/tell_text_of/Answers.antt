use Rattle.std.proofs.Common.{[], ◌∷◌}
use Rattle.kom_types.specs.Parts.{Makes}
use Rattle.kom_types.specs.declared.effects.Effect.TheVariants as effect
use Rattle.kom_model.specs.Db.{text_of}
use Rattle.kom_telling.proofs.Going.{found-none, found-some}
use Rattle.kom_telling.proofs.Found.{short-body}
use Rattle.kom_telling.proofs.numbered.tell_text_of.Goals as goal

pub tell_text-requires : goal.tell_text-requires
tell_text-requires g c =
    short-body c.args.rows.now.db c.args.number c.in-Some.row.now c.requires c.in-Some.ensures

pub returns-in-None-clause-told : goal.returns-in-None-clause-told
returns-in-None-clause-told g c =
    found-none g.S.PartSink.took (λ row. Makes (effect.TextAdded row.number row.author row.created row.body) ∷ [])
    (text_of c.args.rows.now.db c.args.number) c.args.sink.now c.in-None.ensures

pub returns-in-Some-clause-told : goal.returns-in-Some-clause-told
returns-in-Some-clause-told g c =
    found-some g.S.PartSink.took (λ row. Makes (effect.TextAdded row.number row.author row.created row.body) ∷ [])
    (text_of c.args.rows.now.db c.args.number) c.in-Some.row.now _ _ _ c.in-Some.ensures c.tell_text.ensures.told
