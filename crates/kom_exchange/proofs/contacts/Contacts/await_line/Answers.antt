use Rattle.std.proofs.Common.{rules, refl, ◌∙◌}
use Rattle.kom_exchange.proofs.Proceeding.{proceeds_none, proceeds_then}
use Rattle.kom_exchange.proofs.contacts.Contacts.await_line.Goals as goal

pub loop-init : goal.loop-init
loop-init g c = record {
  can = search rules;
  finite = search rules;
  proceeds = proceeds_none c.args.self.now.keys c.args.self.now.server c.args.self.now.screen;
  screen = refl;
}

pub loop-preserved : goal.loop-preserved
loop-preserved g c = record {
  can = search rules;
  finite = search rules;
  proceeds =
      proceeds_then c.loop.invariant.proceeds (proceeds_then c.typed_line.ensures.proceeds c.wait.ensures.proceeds);
  screen = c.wait.ensures.screen ∙ c.typed_line.ensures.screen ∙ c.loop.invariant.screen;
}

pub returns-in_err-line-clause-proceeds : goal.returns-in_err-line-clause-proceeds
returns-in_err-line-clause-proceeds g c = proceeds_then c.loop.invariant.proceeds c.typed_line.ensures.proceeds

pub returns-in_err-wait-clause-proceeds : goal.returns-in_err-wait-clause-proceeds
returns-in_err-wait-clause-proceeds g c =
    proceeds_then c.loop.invariant.proceeds (proceeds_then c.typed_line.ensures.proceeds c.wait.ensures.proceeds)

pub returns-then-is_over-clause-proceeds : goal.returns-then-is_over-clause-proceeds
returns-then-is_over-clause-proceeds g c = proceeds_then c.loop.invariant.proceeds c.typed_line.ensures.proceeds
