use Rattle.batch_log.proofs.Ends.{flush_has, flush_reads, flush_ends, repair_has}
use Rattle.batch_log.proofs.laws.batches_are_kept.Goals as goal

pub returns : goal.returns
returns c = record {
  flush = λ start file body image bodies place moment read fits is.
      flush_has start bodies place file read body fits moment image is;
  flushed = λ start file body new bodies place read fits is. (
    flush_reads start bodies place file read body new fits is,
    flush_ends start bodies place file read body new fits is,
  );
  repair = λ start file rest body image bodies place gate moment read whole is.
      repair_has start bodies place file read gate rest body whole moment image is;
}
