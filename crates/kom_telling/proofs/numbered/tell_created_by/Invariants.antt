use Rattle.std.proofs.Common.{[], ◌∷◌}
use Rattle.std.specs.List.{flat_map}
use Rattle.kom_types.specs.Parts.{Makes}
use Rattle.kom_types.specs.declared.effects.Effect.TheVariants as effect
use Rattle.kom_model.specs.Db.{created_by}
use Rattle.kom_telling.specs.Takes.{Keeps}
use Rattle.kom_telling.proofs.Going.{Going}
use Rattle.kom_telling.proofs.numbered.tell_created_by.Given as goal

abbrev pub invariant-loop-pair : goal.invariant-loop-pair
invariant-loop-pair g l = record {
  told : Going g.S.PartSink.took l.fn.sink l.sink
      (flat_map (λ pair. Makes (effect.Created l.person pair.local pair.text) ∷ []) (created_by l.rows.db l.person))
      (flat_map (λ pair. Makes (effect.Created l.person pair.local pair.text) ∷ []) l.pair-iterator);
  keeps : Keeps g.S.PartSink.becomes l.fn.sink l.sink;
}
