use Rattle.std.proofs.Common.{ℕ, ◌==◌, ◌∙◌, true, [], Option, arith}
use Rattle.std.specs.List.{find}
use Rattle.kom_types.specs.declared.aux_items.AuxRow.{AuxRow}
use Rattle.kom_model.specs.Db.{items_of}
use Rattle.async_fanout.proofs.Items.{shown_if, shown-each}
use Rattle.async_fanout.proofs.Pushing.{pushed_all}
use Rattle.async_fanout.proofs.on_aux_items.named_shown.Goals as goal

pub returns : goal.returns
returns c =
    let named : ℕ → Option AuxRow =
    λ number. find (λ item. item.number == number) (items_of c.args.rows.now.db true c.args.text) in
    pushed_all (λ number. shown_if c.args.by.now (named number)) [] c.args.numbers.now c.loop-number.number-index
    c.loop-number.items (omega arith) c.loop-number.invariant ∙ shown-each c.args.by.now named c.args.numbers.now
