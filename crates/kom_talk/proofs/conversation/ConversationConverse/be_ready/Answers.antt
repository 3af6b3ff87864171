use Rattle.kom_talk.proofs.conversation.ConversationConverse.be_ready.Goals as goal

pub returns : goal.returns
returns c = λ desk link kept. record {
  start = kept.start;
  blank = kept.blank;
  fresh = kept.fresh;
  kept = kept.kept;
}
