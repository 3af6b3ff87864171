-- Something may have been heard.
use Rattle.kom_exchange.specs.Goes.{Hears}
use Rattle.kom_exchange.proofs.server.Server.reply_line.Given as goal

abbrev pub invariant-loop : goal.invariant-loop
invariant-loop g l = record {
  can : (goal.iterator-loop g).can_next l.iterator';
  finite : (goal.iterator-loop g).is_finite l.iterator';
  hears : Hears l.fn.self l.self;
}
