use Rattle.std.proofs.Common.{◌≡◌, ◌+◌, ℕ, List, [], ◌∷◌, ◌++◌, take, sym, ◌∙◌, ap, subst}
use Rattle.std.proofs.lemmas.List.{take_more}
use Rattle.kom_disk.specs.Steps.{torn_after}
use Rattle.kom_disk.specs.declared.step.Step.{Step}
use Rattle.kom_disk.proofs.Replay.{torn_once_more}
use Rattle.kom_disk.proofs.image.torn.Goals as goal

pub loop-step-preserved : goal.loop-step-preserved
loop-step-preserved c =
    let stable : List ℕ = c.args.stable.items in
    let done : List Step = take c.loop-step.step-index c.args.steps.now in
    let more : take (c.loop-step.step-index + 1) c.args.steps.now ≡ done ++ c.step-item.result ∷ [] =
    take_more c.args.steps.now c.loop-step.step-index c.step-item.result c.loop-step-test.true
    ∙ ap (λ (s : Step). done ++ s ∷ []) (sym c.step-item.is) in
    let P : List Step → Type 0 =
    λ (l : List Step). torn_after (λ was. was ≡ stable) stable l c.tear_step.new.bytes.items in
    record {
      left =
          subst P (sym more)
          (torn_once_more (λ was. was ≡ stable) stable done c.step-item.result c.loop-step.image.items
          c.tear_step.new.bytes.items c.loop-step.invariant.left c.in_ok-tear_step.ensures.left);
      same = λ none zero. c.in_ok-tear_step.ensures.nothing none zero ∙ c.loop-step.invariant.same none zero;
    }
