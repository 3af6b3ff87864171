use Rattle.std.proofs.Common.{Result, Ok, Err}
use Rattle.std.specs.Prelude.{ℕ, List, IfOk}
use Rattle.kom_types.specs.declared.answers.NotMade.{NotMade}
use Rattle.kom_links.specs.DeskCalls.{DeskView, Connects}
use Rattle.kom_links.specs.Records.{IsOpen}
use Rattle.memory_links.proofs.OpenKept.{opened_connects, kept_connects}
use Rattle.loop_tests.proofs.desk_tests.connect.Goals as goal

opened_if : {old new : DeskView} {moment : ℕ} {user host : List ℕ} (answer : Result ℕ NotMade) →
    Connects old moment user host answer new → IfOk answer (λ session. IsOpen session new.mine)
opened_if (Ok session) connects = opened_connects session connects
opened_if (Err fault) connects = tt

pub returns-clause-opened : goal.returns-clause-opened
returns-clause-opened c = opened_if c.connect.result c.connect.ensures.connects

pub returns-clause-kept : goal.returns-clause-kept
returns-clause-kept c = kept_connects c.connect.result c.connect.ensures.connects
