use Rattle.kom_exchange.proofs.Showing.{page_some, page_none}
use Rattle.kom_exchange.proofs.contacts.Contacts.show_told.Goals as goal

pub returns-in_ok-pace-in-Some-clause-page : goal.returns-in_ok-pace-in-Some-clause-page
returns-in_ok-pace-in-Some-clause-page g c =
    page_some c.show_page.new.self.screen c.args.told.now _ c.as_slice.result.now c.in-Some.is c.as_slice.ensures
    c.in_ok-pace-in-Some.ensures.page

pub returns-in-None-clause-page : goal.returns-in-None-clause-page
returns-in-None-clause-page g c = page_none c.args.self.now.screen c.args.told.now c.in-None.is
