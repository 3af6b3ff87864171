use Rattle.std.proofs.Common.{subst, true}
use Rattle.kom_records.specs.Replies.{reply_line}
use Rattle.kom_records.specs.Telling.{ReadsAs}
use Rattle.kom_records.proofs.ReplyLines.{reply_only}
use Rattle.kom_records.proofs.replies.read_reply.Goals as goal

pub returns : goal.returns
returns c =
    reply_only c.args.kind c.args.line.now.tokens c.reply_line.new.tokens c.reply_line.result
    (subst (λ t. ReadsAs true (reply_line c.args.kind t) c.reply_line.result c.reply_line.new.tokens)
    c.of-tokens.ensures
    c.reply_line.ensures)
