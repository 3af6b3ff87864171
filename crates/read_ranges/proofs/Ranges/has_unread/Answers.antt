use Rattle.std.proofs.Common.{refl, sym, arith}
use Rattle.read_ranges.proofs.Unread.{unread_found, unread_none}
use Rattle.read_ranges.proofs.Ranges.has_unread.Goals as goal

pub returns-in-Some : goal.returns-in-Some
returns-in-Some c = unread_found _ _ _ c.requires (omega arith) _ c.in-Some.ensures.found

pub returns-in-None : goal.returns-in-None
returns-in-None c = sym (unread_none _ _ _ c.requires (omega arith) (c.in-None.ensures.none.0 refl))
