use Rattle.std.proofs.Common.{◌≡◌, ◌+◌, ℕ, List, [], ◌∷◌, ◌++◌, take, sym, ◌∙◌, ap}
use Rattle.std.proofs.lemmas.List.{take_more}
use Rattle.kom_disk.specs.Steps.{bytes_after}
use Rattle.kom_disk.specs.declared.step.Step.{Step}
use Rattle.kom_disk.proofs.Replay.{read_more}
use Rattle.kom_disk.proofs.image.replayed.Goals as goal

pub loop-step-preserved : goal.loop-step-preserved
loop-step-preserved c =
    let done : List Step = take c.loop-step.step-index c.args.steps.now in
    let more : take (c.loop-step.step-index + 1) c.args.steps.now ≡ done ++ c.step-item.result ∷ [] =
    take_more c.args.steps.now c.loop-step.step-index c.step-item.result c.loop-step-test.true
    ∙ ap (λ (s : Step). done ++ s ∷ []) (sym c.step-item.is) in
    c.in_ok-replay_step.ensures ∙ ap (λ (l : List ℕ). bytes_after l (c.step-item.result ∷ [])) c.loop-step.invariant
    ∙ sym (read_more c.args.start.now done (take (c.loop-step.step-index + 1) c.args.steps.now) c.step-item.result more)
