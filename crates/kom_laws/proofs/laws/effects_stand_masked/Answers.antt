use Rattle.kom_laws.proofs.masking.Accessors.{head-masked, kind-masked, flags-masked, author-masked}
use Rattle.kom_laws.proofs.masking.Effects.{effect-masked}
use Rattle.kom_laws.proofs.masking.Stepping.{effects-masked, wider-masked}
use Rattle.kom_laws.proofs.laws.effects_stand_masked.Goals as goal

pub returns : goal.returns
returns c = record {
  effect = effect-masked;
  effects = effects-masked;
  wider = wider-masked;
  rights = λ mask db. record {
    heads = head-masked mask db;
    kinds = kind-masked mask db;
    flags = flags-masked mask db;
    authors = author-masked mask db;
  };
}
