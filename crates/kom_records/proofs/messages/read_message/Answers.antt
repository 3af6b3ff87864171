use Rattle.std.proofs.Common.{subst, true}
use Rattle.kom_records.specs.Messages.{message_line}
use Rattle.kom_records.specs.Telling.{ReadsAs}
use Rattle.kom_records.proofs.MessageLines.{message_only}
use Rattle.kom_records.proofs.messages.read_message.Goals as goal

pub returns : goal.returns
returns c =
    message_only c.args.line.now.tokens c.message_line.new.tokens c.message_line.result
    (subst (λ t. ReadsAs true (message_line t) c.message_line.result c.message_line.new.tokens) c.of-tokens.ensures
    c.message_line.ensures)
