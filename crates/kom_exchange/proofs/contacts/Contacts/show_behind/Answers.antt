use Rattle.kom_exchange.proofs.Proceeding.{proceeds_line}
use Rattle.kom_exchange.proofs.Showing.{adds_behind}
use Rattle.kom_exchange.proofs.contacts.Contacts.show_behind.Goals as goal

pub returns-in_err-line-clause-proceeds : goal.returns-in_err-line-clause-proceeds
returns-in_err-line-clause-proceeds g c =
    proceeds_line c.stop.ensures.proceeds c.line.ensures.grows c.line.ensures.columns

pub returns-clause-adds : goal.returns-clause-adds
returns-clause-adds g c =
    adds_behind _ _ _ c.args.front c.args.charset c.args.bytes.now c.in_ok-pace.ensures.adds c.line.ensures.columns
    c.in_ok-line.ensures.shows

pub returns-clause-proceeds : goal.returns-clause-proceeds
returns-clause-proceeds g c = proceeds_line c.stop.ensures.proceeds c.line.ensures.grows c.line.ensures.columns
