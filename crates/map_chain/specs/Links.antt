-- How the nodes of a list lead to one another.
use Rattle.std.specs.Prelude.{◌≡◌, ℕ, ◌^◌, ◌≤◌, List, [], ◌∷◌, map, length}
use denote.RawPtr.{Ptr, null_ptr}
use Rattle.map_chain.specs.Pairs.{Pair}
use Rattle.map_chain.specs.declared.node.Node.{Node}
use Rattle.map_chain.specs.declared.nodes.Place.{Place}

-- p leads to the first node, each node to the next, and the last nowhere
abbrev pub LeadsOn : Ptr → List (Ptr × Node) → Type 0
LeadsOn p [] = p ≡ null_ptr
LeadsOn p (n ∷ ns) = (p ≡ n.0) × LeadsOn n.1.next.ptr ns

-- the first node leads back to a, each other one to the node before, and t to the last
abbrev pub LeadsBack : Ptr → List (Ptr × Node) → Ptr → Type 0
LeadsBack a [] t = t ≡ a
LeadsBack a (n ∷ ns) t = (n.1.previous.ptr ≡ a) × LeadsBack n.0 ns t

-- the nodes are linked both ways between first and last
abbrev pub IsLinked : Ptr → Ptr → List (Ptr × Node) → Type 0
IsLinked first last ns = LeadsOn first ns × LeadsBack null_ptr ns last

-- the nodes' pairs at their places
abbrev pub blocks_of : List (Ptr × Node) → List (Ptr × List Pair)
blocks_of = map (λ n. (n.0, n.1.block))

-- n leads on to p
abbrev pub with_next : Place → Node → Node
with_next p n = record n { next = p }

-- n leads back to p
abbrev pub with_previous : Place → Node → Node
with_previous p n = record n { previous = p }

-- the nodes of a list of `count`, of which there are not too many to count
pub record AreLinked (first last : Ptr) (count : ℕ) (ns : List (Ptr × Node)) : Type 0 where
  pub linked : IsLinked first last ns
  pub counted : count ≡ length ns
  pub few : count ≤ 2 ^ 60
