use Rattle.std.proofs.Common.{◌≡◌, ◌∷◌, []}
use Rattle.kom_model.specs.Db.{links_into}
use Rattle.kom_model.specs.Shown.{into_info}
use Rattle.access_rights.proofs.Pushing.{pushed_to}
use Rattle.access_rights.proofs.text_stat.push_into.Given as goal

abbrev pub invariant-loop-place : goal.invariant-loop-place
invariant-loop-place g l =
    l.infos
    ≡ pushed_to (λ row. into_info row ∷ []) l.fn.infos (links_into (g.R.Rows.db l.rows) l.text l.footnote) l.place
