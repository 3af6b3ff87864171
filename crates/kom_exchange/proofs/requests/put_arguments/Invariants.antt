-- with those to come, the words are all
use Rattle.std.proofs.Common.{◌≡◌, map, drop}
use Rattle.kom_exchange.specs.Asking.{word_of}
use Rattle.kom_exchange.specs.Writing.{put_words}
use Rattle.kom_exchange.proofs.requests.put_arguments.Given as goal

abbrev pub invariant-loop-argument : goal.invariant-loop-argument
invariant-loop-argument l = put_words (map word_of (drop l.argument-index l.arguments)) l.writer
    ≡ put_words (map word_of l.arguments) l.fn.writer
