use Rattle.kom_model.specs.Db.{created_by}
use Rattle.kom_model.specs.Rights.{reads}
use Rattle.local_maps.proofs.Shown.{IsWalked}
use Rattle.query_calls.proofs.created.created_up.Given as goal

abbrev pub invariant-loop-pair : goal.invariant-loop-pair
invariant-loop-pair l =
    IsWalked (λ pair. reads l.rows.db l.caller pair.text) (created_by l.rows.db l.person) l.first l.count l.taken.items
    l.pair-iterator
