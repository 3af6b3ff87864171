use Rattle.std.proofs.Common.{[], ◌∷◌, length}
use Rattle.std.specs.List.{flat_map}
use Rattle.kom_types.specs.Parts.{Makes}
use Rattle.kom_types.specs.declared.effects.Effect.TheVariants as effect
use Rattle.kom_telling.specs.Takes.{Keeps}
use Rattle.kom_telling.proofs.Going.{Going}
use Rattle.kom_telling.proofs.added.tell_recipients.Given as goal

abbrev pub invariant-loop-row : goal.invariant-loop-row
invariant-loop-row g l = record {
  told : Going g.S.PartSink.took l.fn.sink l.sink (flat_map (λ row. Makes (effect.RecipientAdded row) ∷ []) l.fn.walk)
      (flat_map (λ row. Makes (effect.RecipientAdded row) ∷ []) l.walk);
  keeps : Keeps g.S.PartSink.becomes l.fn.sink l.sink;
}

abbrev pub decreases-loop-row : goal.decreases-loop-row
decreases-loop-row g l = length l.walk
