use Rattle.kom_exchange.proofs.Going.{hears_trans}
use Rattle.kom_exchange.proofs.server.Server.hear_both.Goals as goal

pub returns-in_err-second-clause-hears : goal.returns-in_err-second-clause-hears
returns-in_err-second-clause-hears g c =
    hears_trans c.args.self.now c.reply.new.self c.reply-2.new.self c.reply.ensures.hears c.reply-2.ensures.hears

pub returns-clause-hears : goal.returns-clause-hears
returns-clause-hears g c =
    hears_trans c.args.self.now c.reply.new.self c.reply-2.new.self c.reply.ensures.hears c.reply-2.ensures.hears
