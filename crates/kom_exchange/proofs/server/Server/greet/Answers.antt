use Rattle.kom_exchange.proofs.Going.{goes_trans, goes_hears}
use Rattle.kom_exchange.proofs.server.Server.greet.Goals as goal

pub returns-in_err-next_unit : goal.returns-in_err-next_unit
returns-in_err-next_unit g c =
    goes_trans c.args.self.now c.send.new.self c.next_unit.new.self c.send.ensures.goes
    (goes_hears c.send.new.self c.next_unit.new.self c.next_unit.ensures.hears)

pub returns-in-Hello : goal.returns-in-Hello
returns-in-Hello g c =
    goes_trans c.args.self.now c.send.new.self c.next_unit.new.self c.send.ensures.goes
    (goes_hears c.send.new.self c.next_unit.new.self c.next_unit.ensures.hears)

pub returns : goal.returns
returns g c =
    goes_trans c.args.self.now c.send.new.self c.next_unit.new.self c.send.ensures.goes
    (goes_hears c.send.new.self c.next_unit.new.self c.next_unit.ensures.hears)
