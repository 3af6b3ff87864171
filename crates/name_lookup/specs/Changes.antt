-- What becomes of a block into which a number is put.
use Rattle.std.specs.Prelude.{◌≡◌, ℕ, List, ◌++◌}
use Rattle.std.specs.declared.alloc.Global.{Global}
use Rattle.std.specs.declared.vec.Vec.{Vec}
use Rattle.name_lookup.specs.declared.changing.Room.{Room}
use Rattle.name_lookup.specs.declared.changing.Room.TheVariants.{Left, Cut}
use Rattle.name_lookup.specs.Blocks.{IsBlock, IsFresh}

-- a block has some numbers, and the next one is left; or it has the lower ones, the next the rest
abbrev pub Holds : Room → Vec ℕ Global → List ℕ → Type 0
Holds (Left next) block numbers = IsBlock block × IsFresh next × (block.items ≡ numbers)
Holds (Cut upper) block numbers =
    IsBlock block × IsBlock upper × (block.items ++ upper.items ≡ numbers)
