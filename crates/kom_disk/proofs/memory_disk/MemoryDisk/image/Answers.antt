use Rattle.std.proofs.Common.{◌≡◌, ◌≢◌, ℕ, List, take, drop, All, rules, refl, sym, ◌∙◌, ap, subst}
use Rattle.kom_disk.specs.Steps.{bytes_after, torn_after, EndsSynced}
use Rattle.kom_disk.specs.declared.step.Step.{Step}
use Rattle.kom_disk.specs.declared.step.Step.TheVariants.{Sync}
use Rattle.kom_disk.proofs.Replay.{image_left, image_stable}
use Rattle.kom_disk.proofs.memory_disk.MemoryDisk.image.Goals as goal

pub returns-clause-image : goal.returns-clause-image
returns-clause-image c =
    let steps : List Step = c.args.self.now.calls.steps.items in
    let start : List ℕ = c.args.self.now.start.items in
    let end = c.synced.result in
    let ends : EndsSynced (take end steps) = search rules in
    let is_stable : c.in_ok-stable.stable.items ≡ bytes_after start (take end steps) = search rules in
    let since : (c.split_at.result).1.now ≡ drop end steps =
    c.split_at.ensures.back ∙ ap (drop end) c.as_slice-steps.ensures.value in
    let P : List Step → Type 0 =
    λ (l : List Step). torn_after (λ was. was ≡ c.in_ok-stable.stable.items) c.in_ok-stable.stable.items l
    c.in_ok-torn.field-0.items in
    image_left start steps end ends c.in_ok-stable.stable.items is_stable c.in_ok-torn.field-0.items
    (subst P since c.in_ok-torn.ensures.image)

pub returns-clause-stable : goal.returns-clause-stable
returns-clause-stable c = λ zero.
    let steps : List Step = c.args.self.now.calls.steps.items in
    let start : List ℕ = c.args.self.now.start.items in
    let end = c.synced.result in
    let ends : EndsSynced (take end steps) = search rules in
    let is_stable : c.in_ok-stable.stable.items ≡ bytes_after start (take end steps) = search rules in
    let none : All (λ step. step ≢ Sync) (drop end steps) = search rules in
    c.in_ok-torn.ensures.stable refl zero
    ∙ sym (image_stable start steps end ends c.in_ok-stable.stable.items is_stable none)
