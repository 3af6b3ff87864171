use Rattle.kom_exchange.proofs.Going.{goes_trans, goes_hears}
use Rattle.kom_exchange.proofs.server.Server.ask_text.Goals as goal

pub returns-in_err-send-clause-goes : goal.returns-in_err-send-clause-goes
returns-in_err-send-clause-goes g c =
    goes_trans c.args.self.now c.ask_both.new.self c.send.new.self c.ask_both.ensures.goes c.send.ensures.goes

pub returns-in_err-both-clause-goes : goal.returns-in_err-both-clause-goes
returns-in_err-both-clause-goes g c =
    goes_trans c.args.self.now c.send.new.self c.hear_both.new.self
    (goes_trans c.args.self.now c.ask_both.new.self c.send.new.self c.ask_both.ensures.goes c.send.ensures.goes)
    (goes_hears c.send.new.self c.hear_both.new.self c.hear_both.ensures.hears)

pub returns-then-both-first-clause-goes : goal.returns-then-both-first-clause-goes
returns-then-both-first-clause-goes g c =
    goes_trans c.args.self.now c.send.new.self c.hear_both.new.self
    (goes_trans c.args.self.now c.ask_both.new.self c.send.new.self c.ask_both.ensures.goes c.send.ensures.goes)
    (goes_hears c.send.new.self c.hear_both.new.self c.hear_both.ensures.hears)

pub returns-clause-goes : goal.returns-clause-goes
returns-clause-goes g c =
    goes_trans c.args.self.now c.send.new.self c.hear_both.new.self
    (goes_trans c.args.self.now c.ask_both.new.self c.send.new.self c.ask_both.ensures.goes c.send.ensures.goes)
    (goes_hears c.send.new.self c.hear_both.new.self c.hear_both.ensures.hears)
