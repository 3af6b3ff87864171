-- What becomes of the nodes once a borrow of one ends.
use Rattle.std.specs.Prelude.{ℕ, slice_set}
use base.Fml.{Fml}
use denote.RattleType.{RattleType}
use denote.RawPtr.{Ptr}
use denote.Ref.{MutBor}
use denote.Follow.{follows}
use Rattle.core.specs.declared.alloc.Allocator.{Ghosts}
use Rattle.map_chain.specs.declared.nodes.Nodes.{Nodes}
use Rattle.map_chain.specs.contracts.nodes.Nodes.{the_row}

-- the same nodes with w as the i-th, at p
abbrev pub with_node : {X Z : Type 0} → Nodes X Z → ℕ → Ptr → X → Nodes X Z
with_node n i p w = record n { nodes = slice_set n.nodes i (p, w) }

-- the i-th node, at p, is the last value written through r
abbrev pub nodes_follow : (R Z : RattleType) (g : Ghosts Z.Denot)
    → MutBor (Nodes R.Denot Z.Denot) → ℕ → Ptr → MutBor R.Denot → Fml
nodes_follow R Z g n i p r =
    follows (the_row R Z g) R n.ghost_name r.ghost_name (with_node n.now i p)
