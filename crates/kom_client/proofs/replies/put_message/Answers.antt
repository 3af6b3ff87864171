use Rattle.std.proofs.Common.{◌∷◌, ◌∙◌, ap, map, drop}
use Rattle.std.specs.Prelude.{codes}
use Rattle.kom_client.specs.Seen.{with_words}
use Rattle.kom_client.specs.Replies.{spelling_of}
use Rattle.kom_client.proofs.Words.{line_put}
use Rattle.kom_client.proofs.replies.put_message.Goals as goal

pub returns : goal.returns
returns c =
    let words = map spelling_of (drop 1 c.args.line.now.tokens) in
    line_put (codes "*") (c.args.digits.now ∷ words) c.clear.new.self c.word.new.self
    c.put_tokens.new.writer c.end_line.new.self c.clear.ensures c.in_ok-word.ensures.ok
    (c.in_ok-put_tokens.ensures ∙ ap (with_words words) c.in_ok-word-2.ensures.ok) c.in_ok-end_line.ensures.ok
