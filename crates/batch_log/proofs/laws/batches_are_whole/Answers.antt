use Rattle.batch_log.proofs.Parts.{unique_bodies, has_no_break, breaks_once}
use Rattle.batch_log.proofs.Ends.{walks_over_all}
use Rattle.batch_log.proofs.Reading.{either}
use Rattle.batch_log.proofs.laws.batches_are_whole.Goals as goal

pub returns : goal.returns
returns c = record {
  unique = unique_bodies;
  no_break = has_no_break;
  breaks_once = breaks_once;
  ends_or_breaks = either;
  walked = walks_over_all;
}
