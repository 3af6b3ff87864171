-- Each row is computed.
use Rattle.std.proofs.Common.{refl}
use Rattle.std.specs.Fmt.{digits}
use Rattle.kom_client.proofs.rows.worked_talks.Goals as goal

pub returns : goal.returns
unfolding digits
returns c = record { client_talk = refl; writes_and_marks = refl; unanswered = refl }
