use Rattle.std.proofs.Common.{[], ◌∷◌, sym}
use Rattle.kom_types.specs.Parts.{Makes}
use Rattle.kom_types.specs.declared.effects.Effect.TheVariants as effect
use Rattle.kom_telling.proofs.Going.{along-first, along-on, along-end}
use Rattle.kom_telling.proofs.on_conferences.tell_fields.Goals as goal

pub loop-field-init : goal.loop-field-init
loop-field-init g c = record {
  told = along-first g.S.PartSink.took (λ field. Makes (effect.ConfField c.args.number field) ∷ []) c.args.fields.now
      c.args.sink.now;
  keeps = λ first held. held;
}

pub loop-field-preserved : goal.loop-field-preserved
loop-field-preserved g c = record {
  told = along-on g.S.PartSink.took (λ field. Makes (effect.ConfField c.args.number field) ∷ []) c.args.fields.now
      c.loop-field.field-index c.field-item.result c.field-item.result _ _ _ c.loop-field-test.true (sym
      c.field-item.is) c.loop-field.invariant.told c.in_ok-put_plain.ensures.told;
  keeps = λ first held. c.in_ok-put_plain.ensures.keeps first (c.loop-field.invariant.keeps first held);
}

pub returns-clause-told : goal.returns-clause-told
returns-clause-told g c =
    along-end g.S.PartSink.took (λ field. Makes (effect.ConfField c.args.number field) ∷ []) c.args.fields.now
    c.loop-field.field-index _ _ c.loop-field-test.false c.loop-field.invariant.told
