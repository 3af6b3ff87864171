use Rattle.std.proofs.Common.{◌++◌, ◌∷◌, [], sym, ap, ◌∙◌, arith}
use Rattle.kom_model.specs.Db.{links_into}
use Rattle.kom_model.specs.Shown.{into_info}
use Rattle.access_rights.proofs.Pushing.{absent_past, pushed, pushed_single}
use Rattle.access_rights.proofs.text_stat.push_into.Goals as goal
use Rattle.access_rights.proofs.text_stat.push_into.Goals.{in-Some+in_ok-push, in_default}

pub loop-place-preserved : goal.loop-place-preserved
loop-place-preserved g c =
    let rows = links_into (g.R.Rows.db c.args.rows.now) c.args.text c.args.footnote in
    elim c.match-link_into.branch [
      | in-Some+in_ok-push w ↦
          pushed (λ row. into_info row ∷ []) c.args.infos.now rows c.loop-place.place w.in-Some.row c.loop-place.infos _
          (sym w.in-Some.ensures) c.loop-place.invariant
          (w.infos-is ∙ w.in_ok-push.ensures.ok
          ∙ ap (λ one. c.loop-place.infos ++ one ∷ []) w.into_info.ensures)
      | in_default w ↦ absurd
          (omega (arith, absent_past rows c.loop-place.place (sym c.link_into.ensures ∙ w.in_default.is)))
    ]

pub returns : goal.returns
returns g c =
    pushed_single into_info c.args.infos.now (links_into (g.R.Rows.db c.args.rows.now) c.args.text c.args.footnote)
    c.loop-place.place c.loop-place.infos (omega arith) c.loop-place.invariant
