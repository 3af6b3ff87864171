use Rattle.kom_core.proofs.Firm.{firm-among}
use Rattle.kom_core.proofs.decide.define.Goals as goal

-- memory runs out in no call that is firm
pub returns-in-Err-Memory-clause-firm : goal.returns-in-Err-Memory-clause-firm
returns-in-Err-Memory-clause-firm c = λ firm.
    let unrefused = rw c.in-Err-Memory.field-0-is at c.in-Err-Memory.ensures.meets in
    let in_memory = rw c.in-Err-Memory.field-0-is at c.in-Err-Memory.ensures.firm in
    absurd (in_memory (firm-among c.args.asked.now c.args.call.now firm unrefused))
