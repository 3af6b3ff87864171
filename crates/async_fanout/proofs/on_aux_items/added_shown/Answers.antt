use Rattle.std.proofs.Common.{◌∙◌, [], ap, arith}
use Rattle.kom_model.specs.Shown.{items_shown}
use Rattle.async_fanout.proofs.Items.{shown_if, shown-each, item_of, items-of}
use Rattle.async_fanout.proofs.Pushing.{pushed_all}
use Rattle.async_fanout.proofs.on_aux_items.added_shown.Goals as goal

pub returns : goal.returns
returns c =
    pushed_all (λ effect. shown_if c.args.by.now (item_of effect)) [] c.args.effects.now c.loop-effect.effect-index
    c.loop-effect.items (omega arith) c.loop-effect.invariant
    ∙ shown-each c.args.by.now item_of c.args.effects.now
    ∙ ap (items_shown c.args.by.now) (items-of c.args.effects.now)
