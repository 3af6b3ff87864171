use Rattle.std.proofs.Common.{◌∙◌, drop, ap}
use Rattle.batch_log.proofs.Chunks.{unsealed}
use Rattle.batch_log.proofs.log.append_chunk.Goals as goal

pub returns-in-Err-clause-same_body : goal.returns-in-Err-clause-same_body
returns-in-Err-clause-same_body g c =
    ap (drop 8) c.pop.ensures.rest
    ∙ unsealed c.seal.new.chunk.items _ _ c.seal.ensures.items c.seal.new.chunk.ok.0
