use Rattle.std.proofs.Common.{sym, ◌∙◌, arith}
use Rattle.read_ranges.proofs.Sets.{contains-union_of}
use Rattle.read_ranges.proofs.Found.{holds_at, holds_past_all}
use Rattle.read_ranges.proofs.search.holds.Goals as goal

pub returns-in-Some : goal.returns-in-Some
returns-in-Some c =
    let found = c.in-Some.ensures.lookup in
    sym (contains-union_of _ _ ∙ holds_at _ c.requires _ _ c.place_of.ensures _ found.3.0 found.1)

pub returns-in-None : goal.returns-in-None
returns-in-None c =
    let found = c.in-None.ensures.lookup in
    sym (contains-union_of _ _ ∙ holds_past_all _ c.requires _ _ c.place_of.ensures _ (omega arith) found.3)
