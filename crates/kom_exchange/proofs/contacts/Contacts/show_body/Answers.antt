use Rattle.std.proofs.Common.{rules}
use Rattle.kom_exchange.proofs.FirstLines.{some_of}
use Rattle.kom_exchange.proofs.Proceeding.{proceeds_none, proceeds_then}
use Rattle.kom_exchange.proofs.Showing.{shows_none, shows_more, shows_all}
use Rattle.kom_exchange.proofs.contacts.Contacts.show_body.Goals as goal

pub lines-init : goal.lines-init
lines-init g c = record {
  shows = shows_none c.args.charset c.args.body.now c.args.self.now.screen;
  proceeds = proceeds_none c.args.self.now.keys c.args.self.now.server c.args.self.now.screen;
}

pub lines-preserved : goal.lines-preserved
lines-preserved g c = record {
  shows = shows_more c.args.charset c.args.body.now c.lines.rest.now c.first_line.result.0.now
      c.first_line.result.1.now c.args.self.now.screen c.lines.self.screen c.show_line.new.self.screen
      c.lines.invariant.shows (search rules) c.first_line.ensures.first c.first_line.ensures.behind (search rules);
  proceeds = proceeds_then c.lines.invariant.proceeds c.show_line.ensures.proceeds;
}

pub lines-smaller : goal.lines-smaller
lines-smaller g c = c.first_line.ensures.shorter (some_of c.lines.rest.now (search rules))

pub returns-clause-adds : goal.returns-clause-adds
returns-clause-adds g c =
    shows_all c.args.charset c.args.body.now c.lines.rest.now c.args.self.now.screen c.lines.self.screen
    c.lines.invariant.shows (search rules)

pub returns-in_err-pace-clause-proceeds : goal.returns-in_err-pace-clause-proceeds
returns-in_err-pace-clause-proceeds g c = proceeds_then c.lines.invariant.proceeds c.show_line.ensures.proceeds
