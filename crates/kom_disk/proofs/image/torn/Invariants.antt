use Rattle.std.proofs.Common.{◌≡◌, ℕ, List, [], take}
use Rattle.kom_disk.specs.Steps.{torn_after}
use Rattle.kom_disk.specs.declared.step.Step.{Step}
use Rattle.kom_disk.specs.declared.tear.Tear.{Tear}
use Rattle.kom_disk.proofs.image.torn.Given as goal

-- what is left of the steps so far, and with no tear listed and the choice 0 nothing of them
pub record LeftSoFar (stable : List ℕ) (done : List Step) (each : List Tear) (choice : ℕ)
    (image : List ℕ) : Type 0 where
  pub left : torn_after (λ was. was ≡ stable) stable done image
  pub same : each ≡ [] → choice ≡ 0 → image ≡ stable

abbrev pub invariant-loop-step : goal.invariant-loop-step
invariant-loop-step l = LeftSoFar l.initial.image.items (take l.step-index l.steps) l.each l.choice l.image.items
