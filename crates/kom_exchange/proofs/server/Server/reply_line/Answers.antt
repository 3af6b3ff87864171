use Rattle.std.proofs.Common.{rules}
use Rattle.kom_exchange.proofs.Going.{hears_none, hears_trans, hears_same}
use Rattle.kom_exchange.proofs.server.Server.reply_line.Goals as goal

pub loop-init : goal.loop-init
loop-init g c = record { can = search rules; finite = search rules; hears = hears_none c.args.self.now }

pub loop-preserved : goal.loop-preserved
loop-preserved g c = record {
  can = search rules;
  finite = search rules;
  hears = search (rules, hears_trans, hears_same);
}

pub returns-in_err-line-clause-hears : goal.returns-in_err-line-clause-hears
returns-in_err-line-clause-hears g c =
    hears_trans c.args.self.now c.loop.self c.next_line.new.self c.loop.invariant.hears c.next_line.ensures.hears

pub returns-in_err-expect-in-Some-reference_of-clause-hears :
    goal.returns-in_err-expect-in-Some-reference_of-clause-hears
returns-in_err-expect-in-Some-reference_of-clause-hears g c =
    hears_same c.args.self.now c.next_line.new.self c.expect.new.self
    (hears_trans c.args.self.now c.loop.self c.next_line.new.self c.loop.invariant.hears c.next_line.ensures.hears)
    c.expect.ensures

pub returns-in-Some-reference_of-clause-hears : goal.returns-in-Some-reference_of-clause-hears
returns-in-Some-reference_of-clause-hears g c =
    hears_same c.args.self.now c.next_line.new.self c.expect.new.self
    (hears_trans c.args.self.now c.loop.self c.next_line.new.self c.loop.invariant.hears c.next_line.ensures.hears)
    c.expect.ensures

pub returns-in_err-hold-in-None-reference_of-clause-hears :
    goal.returns-in_err-hold-in-None-reference_of-clause-hears
returns-in_err-hold-in-None-reference_of-clause-hears g c =
    hears_same c.args.self.now c.next_line.new.self c.hold.new.self
    (hears_trans c.args.self.now c.loop.self c.next_line.new.self c.loop.invariant.hears c.next_line.ensures.hears)
    c.hold.ensures

pub loop-preserved-in_ok-hold-in-None-reference_of :
    goal.loop-preserved-in_ok-hold-in-None-reference_of
loop-preserved-in_ok-hold-in-None-reference_of g c = record {
  can = search rules;
  finite = search rules;
  hears = hears_same c.args.self.now c.next_line.new.self c.hold.new.self
      (hears_trans c.args.self.now c.loop.self c.next_line.new.self c.loop.invariant.hears c.next_line.ensures.hears)
      c.hold.ensures;
}
