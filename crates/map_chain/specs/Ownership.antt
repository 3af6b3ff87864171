-- What the nodes of a list own and lend, at values of the row R.
use Rattle.std.specs.Prelude.{List, [], ◌∷◌}
use base.Fml.{Lft, Fml, ftrue, fsep}
use mir.Syntax.{Ty}
use denote.RattleType.{RattleType}
use denote.Sharing.{nothing, beside}
use denote.RawPtr.{Ptr}
use denote.Struct.Lending.{lent_at}
use Rattle.std_alloc.specs.Box.Ownership.{box_owns}

-- each node with the right to free its block
abbrev pub nodes_own : (Ty → Ptr → Fml) → (R : RattleType) → List (Ptr × R.Denot) → Fml
nodes_own frees R [] = ftrue
nodes_own frees R (n ∷ ns) = fsep (box_owns frees R n.0 n.1) (nodes_own frees R ns)

-- what a `&` holds of each node
abbrev pub nodes_lent : (R : RattleType) → List (Ptr × R.Denot) → Lft → Fml
nodes_lent R [] = nothing
nodes_lent R (n ∷ ns) = beside (lent_at R n.0 n.1) (nodes_lent R ns)
