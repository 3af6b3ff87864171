use Rattle.std.proofs.Common.{rules}
use Rattle.kom_exchange.proofs.Going.{hears_none, hears_trans, hears_same}
use Rattle.kom_exchange.proofs.server.Server.next_unit.Goals as goal

pub loop-init : goal.loop-init
loop-init g c = record { can = search rules; finite = search rules; hears = hears_none c.args.self.now }

pub loop-preserved : goal.loop-preserved
loop-preserved g c = record {
  can = search rules;
  finite = search rules;
  hears = search (rules, hears_trans, hears_same);
}

pub returns-in_err-hear_more-in-None-take_unit-clause-hears :
    goal.returns-in_err-hear_more-in-None-take_unit-clause-hears
returns-in_err-hear_more-in-None-take_unit-clause-hears g c =
    hears_trans c.args.self.now c.take_unit.new.self c.hear_more.new.self
    (hears_same c.args.self.now c.loop.self c.take_unit.new.self c.loop.invariant.hears c.take_unit.ensures.same)
    c.hear_more.ensures
