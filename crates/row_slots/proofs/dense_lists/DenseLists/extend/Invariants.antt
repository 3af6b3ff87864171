use Rattle.std.proofs.Common.{◌≡◌, ℕ, vec_len}
use Rattle.row_slots.specs.DenseLists.{near_list, HasNoPage}
use Rattle.row_slots.proofs.dense_lists.DenseLists.extend.Given as goal

-- every near list stands as it did, and there are so many pages
abbrev pub invariant-loop : goal.invariant-loop
invariant-loop l = record {
  near : (key : ℕ) → near_list l.self.near.items key ≡ near_list l.fn.self.near.items key;
  far : l.self.far ≡ l.fn.self.far;
  page : HasNoPage l.fn.self l.fn.place → HasNoPage l.self l.fn.place;
  kept : vec_len l.self.near ≡ l.counter;
}
