-- The nodes may cross threads as their values may, and as their allocator's right to free does.
use Rattle.core.specs.Prelude.{List, [], ◌∷◌}
use base.Fraction.{full_share}
use base.Shift.{Keyless}
use base.Fml.{Fml}
use mir.Syntax.{Ty}
use mir.Raw.{raw as bare}
use denote.Exit.{Exit, unchanged, leaves, hidden, under}
use denote.RattleType.{RattleType}
use denote.Memory.{lone}
use denote.RawPtr.{Ptr, block_ptr, null_ptr, block_of, count_of}
use denote.Struct.Struct.{exits_of}
use denote.Struct.Owning.{shape, fields, to}
use denote.Struct.Lending.{lent_at}
use denote.Param.Send.{IsSend, IsSync, Quiet, Common, AllSend, part_keyless, owning_send, struct_send, struct_sync}
use denote.Param.Send.{sendable}
use Rattle.core.specs.declared.alloc.Allocator.{Ghosts}
use Rattle.std_alloc.proofs.SendSync.{FreesAnywhere}
use Rattle.std_alloc.specs.Box.Ownership.{box_owns}
use Rattle.map_chain.specs.Ownership.{nodes_own, nodes_lent}
use Rattle.map_chain.specs.contracts.nodes.Nodes as Nodes

-- what is left of a part, seen from the whole
calm : {Whole Part : Type 0} (part : Whole → Part) (e : Exit Part) → Quiet e → Quiet (hidden (under part e))
calm part unchanged q = λ whole now. tt
calm part (leaves L l S s r) q = λ whole. q (part whole)

-- the memory of one node
node_crosses : (R : RattleType) → IsSend R → (frees : Ty → Ptr → Fml) → ((τ : Ty) (p : Ptr) → Keyless (frees τ p))
    → (p : Ptr) (x : R.Denot) → Keyless (box_owns frees R p x)
node_crosses R s frees f null_ptr x = (tt, f (bare (lone R.mir)) null_ptr)
node_crosses R s frees f (block_ptr b o) x = (part_keyless R s full_share x b o, f (bare (lone R.mir)) (block_ptr b o))

-- what is lent of one node
node_seen : (R : RattleType) → IsSync R → (p : Ptr) (x : R.Denot) → Common (lent_at R p x)
node_seen R s null_ptr x κ = (tt, s.shared x (block_of null_ptr) (count_of null_ptr) κ)
node_seen R s (block_ptr b o) x κ = (tt, s.shared x (block_of (block_ptr b o)) (count_of (block_ptr b o)) κ)

all_cross : (R : RattleType) → IsSend R → (frees : Ty → Ptr → Fml) → ((τ : Ty) (p : Ptr) → Keyless (frees τ p))
    → (ns : List (Ptr × R.Denot)) → Keyless (nodes_own frees R ns)
all_cross R s frees f [] = tt
all_cross R s frees f (n ∷ ns) = (node_crosses R s frees f n.0 n.1, all_cross R s frees f ns)

all_seen : (R : RattleType) → IsSync R → (ns : List (Ptr × R.Denot)) → Common (nodes_lent R ns)
all_seen R s [] κ = tt
all_seen R s (n ∷ ns) κ = (node_seen R s n.0 n.1 κ, all_seen R s ns κ)

module _ (R A : RattleType) (g : Ghosts A.Denot) where
  pub Nodes-send : IsSend R → FreesAnywhere A.Denot g → IsSend (Nodes.the_row R A g)
  Nodes-send s f =
      let O = Nodes.the_type R A g in let all : AllSend (fields O) = (search sendable, tt) in
      owning_send O all (λ d. all_cross R s (g.dealloc_token d.alloc) (λ τ p. f.frees d.alloc τ p) d.nodes)
      (λ k. calm (to O) (exits_of k (fields O)) ((struct_send (shape O) all).leaving k))

  pub Nodes-sync : IsSync R → IsSync (Nodes.the_row R A g)
  Nodes-sync s = let O = Nodes.the_type R A g in record {
    shared = λ d b o κ. ((struct_sync (shape O) (search sendable, tt)).shared (to O d) b o κ, all_seen R s d.nodes κ);
  }
