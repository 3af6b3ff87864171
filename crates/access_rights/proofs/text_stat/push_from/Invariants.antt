use Rattle.std.proofs.Common.{◌≡◌}
use Rattle.kom_model.specs.Db.{links_from}
use Rattle.kom_model.specs.Shown.{from_infos}
use Rattle.access_rights.proofs.Pushing.{pushed_to}
use Rattle.access_rights.proofs.text_stat.push_from.Given as goal

abbrev pub invariant-loop-place : goal.invariant-loop-place
invariant-loop-place g l =
    l.infos ≡ pushed_to from_infos l.fn.infos (links_from (g.R.Rows.db l.rows) l.text l.footnote) l.place
