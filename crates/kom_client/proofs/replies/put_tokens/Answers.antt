use Rattle.std.proofs.Common.{sym, ◌∙◌, arith}
use Rattle.kom_framing.specs.Spans.{token_seen}
use Rattle.kom_client.proofs.Words.{token_more}
use Rattle.kom_client.proofs.replies.put_tokens.Goals as goal

pub loop-index-preserved : goal.loop-index-preserved
loop-index-preserved c =
    sym (token_more c.args.line.now.tokens c.loop-index.index (token_seen c.token.result) c.loop-index.writer
    c.put_token.new.writer (omega (arith, c.len-index-end.ensures)) c.token.ensures c.in_ok-put_token.ensures)
    ∙ c.loop-index.invariant
