use Rattle.std.proofs.Common.{◌≡◌, drop}
use Rattle.kom_types.specs.AuxItems.{inherit}
use Rattle.aux_items.proofs.Inheritance.{Begins}
use Rattle.aux_items.proofs.inheriting.inherit_all.Given as goal

abbrev pub invariant-loop-place : goal.invariant-loop-place
invariant-loop-place g l = record {
  value : inherit l.fn.rows (g.R.ItemList.items l.parent)
      ≡ inherit l.rows (drop l.place (g.R.ItemList.items l.parent));
  own : Begins l.fn.rows l.rows;
}
