use Rattle.kom_exchange.proofs.Proceeding.{proceeds_then}
use Rattle.kom_exchange.proofs.Showing.{adds_ended, adds_typed}
use Rattle.kom_exchange.proofs.contacts.Contacts.stop.Goals as goal

pub returns-in_err-line-clause-proceeds : goal.returns-in_err-line-clause-proceeds
returns-in_err-line-clause-proceeds g c = proceeds_then c.prompt.ensures.proceeds c.await_line.ensures.proceeds

pub returns-in-Some-clause-adds : goal.returns-in-Some-clause-adds
returns-in-Some-clause-adds g c =
    adds_typed _ _ _ _ c.in_ok-prompt.ensures.adds c.await_line.ensures.screen c.end_prompt.ensures.ended

pub returns-in-Some-clause-proceeds : goal.returns-in-Some-clause-proceeds
returns-in-Some-clause-proceeds g c =
    proceeds_then (proceeds_then c.prompt.ensures.proceeds c.await_line.ensures.proceeds)
    c.end_prompt.ensures.proceeds

pub returns-in-None-clause-adds : goal.returns-in-None-clause-adds
returns-in-None-clause-adds g c = adds_ended _ _ _ c.in_ok-prompt.ensures.adds c.await_line.ensures.screen

pub returns-in-None-clause-proceeds : goal.returns-in-None-clause-proceeds
returns-in-None-clause-proceeds g c = proceeds_then c.prompt.ensures.proceeds c.await_line.ensures.proceeds
