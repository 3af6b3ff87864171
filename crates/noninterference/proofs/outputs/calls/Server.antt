-- The calls about the server come to the same over two sets of stored rows that are alike to the caller.
use Rattle.kom_model.specs.Db.{Db}
use Rattle.kom_model.specs.calls.Call.{Asked}
use Rattle.kom_model.specs.calls.Guards.{caller}
use Rattle.kom_model.specs.calls.Server.{sync_kom, shutdown_kom}
use Rattle.noninterference.specs.outputs.Answers.{ComesToSame}
use Rattle.noninterference.proofs.outputs.Alike.{IsAlikeTo, over, caller-same}
use Rattle.noninterference.proofs.outputs.Passing.{itself}

module _ (asked : Asked) (one : Db) (alike : IsAlikeTo (caller asked) one asked.db) where
  abbrev part : Asked
  part = over one asked

  pub sync_kom-same : ComesToSame (sync_kom part) (sync_kom asked)
  sync_kom-same = rw (caller-same asked one alike) (itself _)

  pub shutdown_kom-same : ComesToSame (shutdown_kom part) (shutdown_kom asked)
  shutdown_kom-same = rw (caller-same asked one alike) (itself _)
