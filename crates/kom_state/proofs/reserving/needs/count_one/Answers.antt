use Rattle.std.proofs.Common.{nat_eq}
use Rattle.std.specs.HashMap.{get}
use Rattle.std.proofs.lemmas.Result.{IfOk-at_ok}
use Rattle.kom_state.proofs.Counted.{counted_once}
use Rattle.kom_state.proofs.reserving.needs.count_one.Goals as goal

pub returns : goal.returns
returns c other =
    counted_once (get nat_eq c.args.counts.now) (get nat_eq c.insert.new.self) c.args.number
    c.count_at-count.result other c.count_at-count.ensures
    ((IfOk-at_ok _ c.in_ok-insert.was c.insert.ensures.updates).0 other)
