use Rattle.std.proofs.Common.{◌≡◌, map, take}
use Rattle.kom_model.specs.Initial.{initial_conference as conference_at_first}
use Rattle.kom_state.proofs.opening.initial_conferences.Given as goal

abbrev pub invariant-loop-number : goal.invariant-loop-number
invariant-loop-number l =
    l.effects ≡ map (λ row. conference_at_first l.moment row.0 row.1.now row.2) (take l.number-index l.number-items)
