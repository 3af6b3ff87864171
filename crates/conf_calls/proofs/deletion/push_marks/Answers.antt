use Rattle.std.proofs.Common.{◌≡◌, ◌++◌, map, sym, ap, ◌∙◌}
use Rattle.std.proofs.lemmas.List.{append-nil, at_drop_all}
use Rattle.std.proofs.lemmas.Simd.{map-map}
use Rattle.kom_types.specs.declared.effects.Effect.{Effect}
use Rattle.kom_types.specs.declared.effects.Effect.TheVariants as effect
use Rattle.kom_types.specs.declared.texts.Mark.{Mark}
use Rattle.kom_types.specs.tables.Texts.{shown_mark}
use Rattle.kom_model.specs.Db.{marks_of}
use Rattle.conf_calls.proofs.deletion.push_marks.Goals as goal

pub returns : goal.returns
returns c =
    let old = c.args.effects.now in
    let now = c.loop-mark.effects in
    let marks = c.as_slice-mark-items.result.now in
    let rows = marks_of c.args.rows.now.db c.args.person in
    let gone : Mark → Effect = λ mark. effect.MarkGone c.args.person mark.text in
    let shown : marks ≡ map shown_mark rows = c.as_slice-mark-items.ensures ∙ c.in_ok-marks.ensures in
    sym (append-nil now)
    ∙ sym (at_drop_all (λ rest. now ++ map gone rest) marks c.loop-mark.mark-index c.loop-mark-test.false)
    ∙ c.loop-mark.invariant
    ∙ ap (λ all. old ++ all) (ap (map gone) shown ∙ map-map gone shown_mark rows)
