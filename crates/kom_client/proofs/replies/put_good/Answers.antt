use Rattle.std.proofs.Common.{map, drop}
use Rattle.std.specs.Prelude.{codes}
use Rattle.kom_client.specs.Replies.{spelling_of}
use Rattle.kom_client.proofs.Words.{line_put}
use Rattle.kom_client.proofs.replies.put_good.Goals as goal

pub returns : goal.returns
returns c =
    line_put (codes "ok") (map spelling_of (drop 1 c.args.line.now.tokens)) c.clear.new.self c.word.new.self
    c.put_tokens.new.writer c.end_line.new.self c.clear.ensures c.in_ok-word.ensures.ok c.in_ok-put_tokens.ensures
    c.in_ok-end_line.ensures.ok
