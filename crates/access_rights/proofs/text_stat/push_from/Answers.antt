use Rattle.std.proofs.Common.{sym, ◌∙◌, arith}
use Rattle.kom_model.specs.Db.{links_from}
use Rattle.kom_model.specs.Shown.{from_infos}
use Rattle.access_rights.proofs.Pushing.{absent_past, pushed, pushed_all}
use Rattle.access_rights.proofs.text_stat.push_from.Goals as goal
use Rattle.access_rights.proofs.text_stat.push_from.Goals.{in-Some+in_ok-push_link, in_default}

pub loop-place-preserved : goal.loop-place-preserved
loop-place-preserved g c =
    let rows = links_from (g.R.Rows.db c.args.rows.now) c.args.text c.args.footnote in
    elim c.match-link_from.branch [
      | in-Some+in_ok-push_link w ↦
          pushed from_infos c.args.infos.now rows c.loop-place.place w.in-Some.row c.loop-place.infos _
          (sym w.in-Some.ensures) c.loop-place.invariant (w.infos-is ∙ w.in_ok-push_link.ensures)
      | in_default w ↦ absurd
          (omega (arith, absent_past rows c.loop-place.place (sym c.link_from.ensures ∙ w.in_default.is)))
    ]

pub returns : goal.returns
returns g c =
    pushed_all from_infos c.args.infos.now (links_from (g.R.Rows.db c.args.rows.now) c.args.text c.args.footnote)
    c.loop-place.place c.loop-place.infos (omega arith) c.loop-place.invariant
