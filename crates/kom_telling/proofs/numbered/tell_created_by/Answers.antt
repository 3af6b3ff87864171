use Rattle.std.proofs.Common.{◌≡◌, List, [], ◌∷◌, sym, ap, subst, ◌∙◌}
use Rattle.std.specs.List.{flat_map}
use Rattle.kom_types.specs.Parts.{Part, Makes}
use Rattle.kom_types.specs.declared.effects.Effect.TheVariants as effect
use Rattle.kom_types.specs.declared.texts.LocalText.{LocalText}
use Rattle.kom_model.specs.Db.{created_by}
use Rattle.local_maps.proofs.Parts.{from_on-zero}
use Rattle.kom_telling.specs.Takes.{Takes}
use Rattle.kom_telling.proofs.Going.{Going, takes-none, going-first, going-on, going-end}
use Rattle.kom_telling.proofs.numbered.tell_created_by.Goals as goal

pub returns-in_default-clause-told : goal.returns-in_default-clause-told
returns-in_default-clause-told g c =
    let made = created_by c.args.rows.now.db c.args.person in
    let parts : LocalText → List Part =
    λ pair. Makes (effect.Created c.args.person pair.local pair.text) ∷ [] in
    let none : made ≡ [] = sym (from_on-zero made) ∙ c.in_default.ensures.pairs in
    subst (λ (l : List LocalText). Takes g.S.PartSink.took c.args.sink.now c.args.sink.now (flat_map parts l))
    (sym none)
    (takes-none g.S.PartSink.took c.args.sink.now)

pub loop-pair-init : goal.loop-pair-init
loop-pair-init g c =
    let made = created_by c.args.rows.now.db c.args.person in
    let parts : LocalText → List Part =
    λ pair. Makes (effect.Created c.args.person pair.local pair.text) ∷ [] in
    let all = c.into_iter-pair-iterator.ensures.into_iter_gives ∙ c.in-Some.ensures.pairs ∙ from_on-zero made in
    record {
      told = subst (λ (l : List LocalText).
          Going g.S.PartSink.took c.args.sink.now c.args.sink.now (flat_map parts made) (flat_map parts l)) (sym all)
          (going-first g.S.PartSink.took c.args.sink.now (flat_map parts made));
      keeps = λ first held. held;
    }

pub loop-pair-preserved : goal.loop-pair-preserved
loop-pair-preserved g c = record {
  told = going-on g.S.PartSink.took _ _ _ _ _ _ (rw c.in-Some-pair.ensures.steps at c.loop-pair.invariant.told)
      c.in_ok-put_plain.ensures.told;
  keeps = λ first held. c.in_ok-put_plain.ensures.keeps first (c.loop-pair.invariant.keeps first held);
}

pub returns-clause-told : goal.returns-clause-told
returns-clause-told g c =
    going-end g.S.PartSink.took _ _ _ _ c.loop-pair.invariant.told
    (ap (flat_map (λ pair. Makes (effect.Created c.args.person pair.local pair.text) ∷ [])) c.in-None.ensures.steps.0)
