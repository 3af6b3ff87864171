use Rattle.std.proofs.Common.{sym}
use Rattle.kom_hub.proofs.crowd.is_over_at.Goals as goal

pub returns-in-Some : goal.returns-in-Some
returns-in-Some g c = λ over. (c.in-Some.guest.now, sym c.in-Some.ensures, c.is_over.ensures over)
