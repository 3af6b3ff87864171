use Rattle.std.proofs.Common.{◌<◌, ◌≤◌, ◌-◌, IsTrue, vec_len}
use Rattle.kom_model.specs.Db.{empty_db}
use Rattle.kom_journal.specs.Files.{header}
use Rattle.kom_journal.specs.Opened.{IsMadeTo}
use Rattle.kom_journal.proofs.Blocks.{Looks}
use Rattle.kom_journal.proofs.opening.make_rows.Given as goal

abbrev pub invariant-gates : goal.invariant-gates
invariant-gates g l = record {
  looks : Looks g.D.Disk.tells g.D.Disk.bytes g.D.Disk.size g.D.Disk.faults g.D.Disk.moment g.D.Disk.images
      g.D.Disk.images_at l.initial.disk l.disk;
  within : l.at < l.len;
  counted : l.batches ≤ l.at;
  room : 0 < vec_len l.buffer;
  made : IsTrue g.D.Disk.tells → IsMadeTo header empty_db l.at l.batches l.rows.db (g.D.Disk.bytes l.initial.disk);
}

abbrev pub decreases-gates : goal.decreases-gates
decreases-gates g l = l.len - l.at
