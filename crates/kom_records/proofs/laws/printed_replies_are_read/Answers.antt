use Rattle.kom_records.proofs.PrintedRecords.{printed_reply}
use Rattle.kom_records.proofs.laws.printed_replies_are_read.Goals as goal

pub returns : goal.returns
returns c = λ which reference body within is. printed_reply which reference body within is
