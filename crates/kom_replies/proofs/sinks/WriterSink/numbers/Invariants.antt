use Rattle.std.proofs.Common.{◌≡◌, length}
use Rattle.std.specs.List.{flat_map}
use Rattle.kom_types.specs.spellings.Words.{number}
use Rattle.kom_framing.specs.Writing.{put_word}
use Rattle.kom_replies.specs.Items.{Begins}
use Rattle.kom_replies.specs.Sinks.{with_words, Keeps}
use Rattle.kom_replies.proofs.sinks.WriterSink.numbers.Given as goal

-- with the numbers that are left, the writer is as it will be
abbrev pub invariant-loop-left : goal.invariant-loop-left
invariant-loop-left l = record {
  to_come : with_words put_word (flat_map number l.left) l.self
      ≡ with_words put_word (flat_map number l.values) l.fn.self;
  keeps : Keeps Begins l.fn.self l.self;
}

abbrev pub decreases-loop-left : goal.decreases-loop-left
decreases-loop-left l = length l.left
