use Rattle.std.proofs.Common.{[], ◌∷◌}
use Rattle.kom_types.specs.Parts.{Makes}
use Rattle.kom_types.specs.declared.effects.Effect.TheVariants as effect
use Rattle.kom_telling.specs.Takes.{Keeps}
use Rattle.kom_telling.proofs.Going.{Along}
use Rattle.kom_telling.proofs.on_conferences.tell_fields.Given as goal

abbrev pub invariant-loop-field : goal.invariant-loop-field
invariant-loop-field g l = record {
  told : Along g.S.PartSink.took (λ field. Makes (effect.ConfField l.number field) ∷ []) l.fields l.field-index
      l.fn.sink l.sink;
  keeps : Keeps g.S.PartSink.becomes l.fn.sink l.sink;
}
