use Rattle.std.proofs.Common.{None}
use Rattle.kom_session.specs.Known.{sight}
use Rattle.kom_talk.proofs.conversation.ConversationConverse.flushed.Goals as goal

pub returns : goal.returns
returns c = λ old new link moment flushes kept. record {
  start = kept.start;
  blank = kept.blank;
  fresh = kept.fresh;
  kept = (c.flushed.ensures (sight old link None) moment new None flushes tt).kept kept.start kept.kept;
}
