use Rattle.std.proofs.Common.{[], ◌∷◌, ap}
use Rattle.std.specs.List.{flat_map}
use Rattle.kom_types.specs.Parts.{Makes}
use Rattle.kom_types.specs.declared.effects.Effect.TheVariants as effect
use Rattle.kom_telling.proofs.Going.{going-first, going-on, going-end}
use Rattle.kom_telling.proofs.added.tell_recipients.Goals as goal

pub loop-row-init : goal.loop-row-init
loop-row-init g c = record {
  told = going-first g.S.PartSink.took c.args.sink.now (flat_map (λ row. Makes (effect.RecipientAdded row) ∷ [])
      c.args.walk);
  keeps = λ first held. held;
}

pub loop-row-preserved : goal.loop-row-preserved
loop-row-preserved g c = record {
  told = going-on g.S.PartSink.took _ _ _ _ _ _ (rw c.in-Some.ensures at c.loop-row.invariant.told)
      c.in_ok-put_plain.ensures.told;
  keeps = λ first held. c.in_ok-put_plain.ensures.keeps first (c.loop-row.invariant.keeps first held);
}

pub returns-clause-told : goal.returns-clause-told
returns-clause-told g c =
    going-end g.S.PartSink.took _ _ _ _ c.loop-row.invariant.told (ap (flat_map (λ row. Makes
    (effect.RecipientAdded row) ∷ [])) c.in_default.ensures.0)
