use Rattle.kom_records.proofs.PrintedRecords.{printed_message}
use Rattle.kom_records.proofs.laws.printed_messages_are_read.Goals as goal

pub returns : goal.returns
returns c = λ of is. printed_message of is
