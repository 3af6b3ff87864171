use Rattle.std.proofs.Common.{◌≡◌, ◌==◌, true, []}
use Rattle.std.specs.List.{find}
use Rattle.kom_model.specs.Db.{items_of}
use Rattle.async_fanout.proofs.Pushing.{pushed_to}
use Rattle.async_fanout.proofs.Items.{shown_if}
use Rattle.async_fanout.proofs.on_aux_items.named_shown.Given as goal

abbrev pub invariant-loop-number : goal.invariant-loop-number
invariant-loop-number l =
    l.items
    ≡ pushed_to (λ number. shown_if l.by (find (λ item. item.number == number) (items_of l.rows.db true l.text))) []
    l.numbers l.number-index
