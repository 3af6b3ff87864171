use Rattle.std.proofs.Common.{None}
use Rattle.kom_session.specs.Known.{sight}
use Rattle.kom_talk.proofs.conversation.ConversationConverse.asked.Goals as goal

pub returns : goal.returns
returns c = λ old new link asks kept. record {
  start = kept.start;
  blank = kept.blank;
  fresh = kept.fresh;
  kept = (c.asked.ensures (sight old link None) new asks).kept kept.start kept.kept;
}
