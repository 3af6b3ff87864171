use Rattle.std.proofs.Common.{arith}
use Rattle.name_lookup.proofs.Walks.{stops_by}
use Rattle.name_lookup.proofs.walking.push_found.Goals as goal

pub returns-in_default : goal.returns-in_default
returns-in_default c = record {
  passed = record {
    within = omega arith;
    found = c.loop-len.invariant.found;
    stops = stops_by c.in_ok-step.step c.args.kept.now.entries c.args.pattern.now c.args.ahead.now c.loop-len.len
        c.name_of.result.now c.look_at.new.target.items c.in_default.not-Found (omega arith) c.name_of.ensures
        c.in_ok-step.ensures;
  };
  numbers = c.loop-len.invariant.numbers;
}
