-- What the tokens that are left make of what was written is what all make of it.
use Rattle.std.proofs.Common.{◌≡◌, drop, map}
use Rattle.kom_client.specs.Seen.{with_words}
use Rattle.kom_client.specs.Replies.{spelling_of}
use Rattle.kom_client.proofs.replies.put_tokens.Given as goal

abbrev pub invariant-loop-index : goal.invariant-loop-index
invariant-loop-index l =
    with_words (map spelling_of (drop l.index l.line.tokens)) l.writer
    ≡ with_words (map spelling_of (drop 1 l.line.tokens)) l.fn.writer
