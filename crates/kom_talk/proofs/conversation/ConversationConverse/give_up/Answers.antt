use Rattle.std.proofs.Common.{None}
use Rattle.kom_session.specs.Known.{sight}
use Rattle.kom_talk.proofs.conversation.ConversationConverse.give_up.Goals as goal

pub returns-then-not-is_over-clause-kept : goal.returns-then-not-is_over-clause-kept
returns-then-not-is_over-clause-kept c = λ desk link kept. record {
  start = kept.start;
  blank = kept.blank;
  fresh = kept.fresh;
  kept = (c.out_of_memory.ensures.still (sight desk link None)).kept kept.start kept.kept;
}
