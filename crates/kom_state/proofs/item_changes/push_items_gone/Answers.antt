use Rattle.std.proofs.Common.{ℕ, Bool, ◌∙◌, sym, ap, arith, option_copied}
use Rattle.kom_types.specs.declared.aux_items.AuxRow.{AuxRow}
use Rattle.kom_types.specs.declared.effects.Effect.{Effect}
use Rattle.kom_types.specs.declared.effects.Effect.TheVariants as effect
use Rattle.kom_model.specs.Db.{items_of}
use Rattle.kom_state.proofs.Pushing.{pushed, pushed-none, pushed-all, pushed-past}
use Rattle.kom_state.proofs.item_changes.push_items_gone.Goals as goal
use Rattle.kom_state.proofs.item_changes.push_items_gone.Goals.{in-Some+in_ok-push, in_default}

abbrev gone : Bool → ℕ → AuxRow → Effect
gone on_text object = λ item. effect.AuxGone on_text object item.number

pub loop-place-init : goal.loop-place-init
loop-place-init c =
    pushed-none (gone c.args.on_text c.args.object) c.args.effects.now
    (items_of c.args.rows.now.db c.args.on_text c.args.object)

pub loop-place-preserved : goal.loop-place-preserved
loop-place-preserved c =
    let make = gone c.args.on_text c.args.object in
    let items = items_of c.args.rows.now.db c.args.on_text c.args.object in
    elim c.match-nth_item.branch [
      | in-Some+in_ok-push w ↦
          pushed make c.args.effects.now items c.loop-place.place w.in-Some.item.now c.loop-place.effects _
          (sym c.nth_item.ensures ∙ ap option_copied w.in-Some.is) c.loop-place.invariant (w.effects-is
          ∙ w.in_ok-push.ensures.ok)
      | in_default w ↦
          absurd (pushed-past make c.args.effects.now items c.loop-place.place
          (omega (arith, c.item_count-place-end.ensures, c.loop-place-test.true)) (sym c.nth_item.ensures
          ∙ ap option_copied w.in_default.is))
    ]

pub returns : goal.returns
returns c =
    pushed-all (gone c.args.on_text c.args.object) c.args.effects.now
    (items_of c.args.rows.now.db c.args.on_text c.args.object) c.loop-place.place c.loop-place.effects
    (omega (arith, c.item_count-place-end.ensures, c.loop-place-test.false)) c.loop-place.invariant
