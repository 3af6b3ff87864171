use Rattle.kom_model.proofs.Soundness.{IsSound-state_after}
use Rattle.kom_model.proofs.Draining.{drained_below}
use Rattle.kom_model.proofs.Prefixes.{gives_prefixes}
use Rattle.kom_model.proofs.Complete.{gives_all_before, gives_all_to_dropped}
use Rattle.kom_model.proofs.laws.drains_give_all.Goals as goal

pub returns-clause-prefixes : goal.returns-clause-prefixes
returns-clause-prefixes c = gives_prefixes

pub returns-clause-stable : goal.returns-clause-stable
returns-clause-stable c = drained_below

pub returns-clause-all_before : goal.returns-clause-all_before
returns-clause-all_before c = gives_all_before

pub returns-clause-all_to_dropped : goal.returns-clause-all_to_dropped
returns-clause-all_to_dropped c = gives_all_to_dropped

pub returns-clause-sound : goal.returns-clause-sound
returns-clause-sound c = λ state history sound legal. IsSound-state_after state history legal sound
