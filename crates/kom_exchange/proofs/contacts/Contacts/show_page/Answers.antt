use Rattle.kom_exchange.proofs.Proceeding.{proceeds_then}
use Rattle.kom_exchange.proofs.Showing.{page_shown}
use Rattle.kom_exchange.proofs.contacts.Contacts.show_page.Goals as goal

pub returns-in_err-pace-2-clause-proceeds : goal.returns-in_err-pace-2-clause-proceeds
returns-in_err-pace-2-clause-proceeds g c = proceeds_then c.show_line.ensures.proceeds c.show_line-2.ensures.proceeds

pub returns-in_err-pace-3-clause-proceeds : goal.returns-in_err-pace-3-clause-proceeds
returns-in_err-pace-3-clause-proceeds g c =
    proceeds_then (proceeds_then c.show_line.ensures.proceeds c.show_line-2.ensures.proceeds)
    c.show_body.ensures.proceeds

pub returns-clause-page : goal.returns-clause-page
returns-clause-page g c =
    page_shown c.args.self.now.screen c.show_line.new.self.screen c.show_line-2.new.self.screen
    c.show_body.new.self.screen c.args.charset c.args.body.now c.first_line.result.0.now c.first_line.result.1.now _
    c.first_line.ensures.first c.first_line.ensures.behind c.in_ok-pace.ensures.adds c.in_ok-pace-2.ensures.adds
    c.in_ok-pace-3.ensures.adds

pub returns-clause-proceeds : goal.returns-clause-proceeds
returns-clause-proceeds g c =
    proceeds_then (proceeds_then c.show_line.ensures.proceeds c.show_line-2.ensures.proceeds)
    c.show_body.ensures.proceeds
