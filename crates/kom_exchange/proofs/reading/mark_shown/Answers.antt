use Rattle.kom_exchange.specs.Steps.{IsMarkedShown}
use Rattle.kom_exchange.proofs.reading.mark_shown.Goals as goal

pub returns-in-Some : goal.returns-in-Some
returns-in-Some g c =
    IsMarkedShown c.in-Some.told c.in-Some.is c.if-is_shown.true c.mark_text.ensures.spelled c.mark_text.ensures.marks
