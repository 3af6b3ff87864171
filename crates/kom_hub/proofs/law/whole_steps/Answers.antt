use Rattle.std.proofs.Common.{◌≡◌, ◌++◌, List, subst, sym, true}
use Rattle.std.specs.List.{AllByRecursion}
use Rattle.kom_types.specs.declared.acts.Record.{Record as Made}
use Rattle.kom_links.specs.Talk.{Step, Flushes, steps_of}
use Rattle.kom_hub.proofs.Shown.{shown_by}
use Rattle.kom_hub.proofs.Whole.{steps_since}
use Rattle.kom_hub.proofs.law.whole_steps.Goals as goal

pub returns : goal.returns
returns c = λ session records given some has. subst
    (λ (made : List Made). (before : List Step) × AllByRecursion (λ step. step ≡ Flushes) before
    × (steps_of session records given ≡ before ++ steps_of session made given))
    (sym (shown_by session records true some has)) (steps_since session records given has)
