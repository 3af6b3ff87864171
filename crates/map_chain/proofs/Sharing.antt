-- A `&` to the nodes is made where one to each node's value is. Assumes `Logic`.
use mathlib.Core.List.{List, [], ◌∷◌}
use seplogic.Ra.Ura.{Ura}
use base.Fraction.{full_share}
use base.Fml.{Fml, Lft, Incl, ftrue}
use mir.Raw.{raw as bare}
use mir.Syntax.{Ty}
use types.Logic.{Logic}
use denote.RattleType.{RattleType, RowLaws}
use denote.Memory.{lone}
use denote.Param.Laws.{Laws}
use denote.RawPtr.{Ptr, lies_at}
use denote.Sharing.{ShrLaws}
use denote.SharingLaws.{beside_shr_laws, nothing_shr_laws}
use denote.Shares.{Shares-less}
use denote.Struct.Lending.{lent_at, lent_at_shr_laws, Lends, Lends-lies, Lends-first, Lends-both, Lends-nothing}
use Rattle.std_alloc.specs.Box.Ownership.{box_owns}
use Rattle.map_chain.specs.Ownership.{nodes_own, nodes_lent}

pub nodes_lent_laws : (R : RattleType) → RowLaws R → (ns : List (Ptr × R.Denot)) → ShrLaws (nodes_lent R ns)
nodes_lent_laws R L [] = nothing_shr_laws
nodes_lent_laws R L (n ∷ ns) = beside_shr_laws _ _ (lent_at_shr_laws R L n.0 n.1) (nodes_lent_laws R L ns)

module _ {M : Type 1} {𝓤 : Ura M} (𝓛 : Logic 𝓤) (l : Lft) (R : RattleType) (frees : Ty → Ptr → Fml) (L : Laws R)
    (inc : Incl l R.lives) where
  pub Lends-nodes : (ns : List (Ptr × R.Denot)) → Lends 𝓛 (nodes_own frees R ns) (nodes_lent R ns) l
  Lends-nodes [] = Lends-nothing 𝓛 ftrue l
  Lends-nodes (n ∷ ns) =
      Lends-both 𝓛 (box_owns frees R n.0 n.1) (nodes_own frees R ns) (lent_at R n.0 n.1) (nodes_lent R ns) l
      (Lends-first 𝓛 (lies_at R full_share n.0 n.1) (frees (bare (lone R.mir)) n.0) (lent_at R n.0 n.1) l
      (Lends-lies 𝓛 R l n.0 n.1 (Shares-less 𝓛 R R.lives l inc (L.shares 𝓛) n.1)))
      (Lends-nodes ns)
