use Rattle.std.proofs.Common.{◌≡◌, drop}
use Rattle.std.specs.List.{flat_map}
use Rattle.kom_types.specs.spellings.Words.{number}
use Rattle.kom_replies.specs.Lengths.{put_length}
use Rattle.kom_replies.specs.Sinks.{with_words}
use Rattle.kom_replies.proofs.lengths.LengthSink.numbers.Given as goal

-- with the numbers to come, the sum is as it will be
abbrev pub invariant-loop-value : goal.invariant-loop-value
invariant-loop-value l =
    with_words put_length (flat_map number (drop l.value-index l.values)) l.length
    ≡ with_words put_length (flat_map number l.values) l.fn.self
