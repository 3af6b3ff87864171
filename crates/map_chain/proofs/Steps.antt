-- What the walks over the nodes share. Assumes `Logic`.
--     node_of                      the node that lies at a place
--     Way, boxed                   a node on its way in or out, and the box that it was or will be
--     held_end, held_out, held_in  a node at the end;  the i-th taken from the others, and put back or changed
--     lent_of                      what is lent of the i-th
--     two_needs                    two facts of a `requires` are learned
--     mark_made                    the owner's field, by value
--     place_had, place_made        a place by value
use mathlib.Core.Path.{◌≡◌, refl, subst, ap}
use Prim.Native.Nat.{ℕ, zero, suc}
use mathlib.Core.List.{List, [], ◌∷◌, ◌++◌}
use seplogic.Ra.Ura.{Ura}
use mir.Val.{Val, vstruct, vcons, vnil, of_list}
use base.Logic.{SProp, ent, sep, emp, via, fst∗, snd∗}
use base.Fml.{Fml, Lft, ftrue, fsep}
use contract.Monad.{fact, fact_use}
use types.Logic.{Logic, sem}
use types.Kit.{Item, Goal, Seq, Step, step, ‵, ◌⊛◌, ◌$◌, ◌∵◌, !, qed, move, drop, use1, use2, split, fsplit, fjoin}
use types.Kit.{fpick, fpack, feq_i, feq_l, rewrite, done}
use denote.RattleType.{RattleType, Valss}
use denote.RawPtr.{Ptr, RawPtr, ptr_val}
use denote.Shadow.{makes_shadow}
use denote.Steps.{nothing}
use denote.Struct.Owning.{shape}
use denote.Struct.Struct.{Shape, Struct, within}
use denote.Struct.Lending.{lent_at}
use Rattle.std.specs.Prelude.{slice_get, slice_set, remove, Some}
use Rattle.core.proofs.alloc.Calls.{token}
use Rattle.std_alloc.specs.Box.Ownership.{box_owns}
use Rattle.std_alloc.proofs.RcSteps.{word}
use Rattle.std_alloc.proofs.BoxSteps.Form as Form
use Rattle.std_alloc.proofs.BoxSteps.Form.{Bx, X, R, P}
use Rattle.map_chain.specs.contracts.loose.Loose as L
use Rattle.map_chain.specs.Nodes.{IsAt}
use Rattle.map_chain.specs.Ownership.{nodes_own, nodes_lent}
use Rattle.map_chain.specs.declared.nodes.Nodes.{Nodes}
use Rattle.map_chain.specs.contracts.nodes.Nodes as N

pub node_of : {X : Type 0} (ns : List (Ptr × X)) (i : ℕ) (p : Ptr) → IsAt ns i p
    → (x : X) × (slice_get ns i ≡ Some (p, x))
node_of [] i p e = cc
node_of (n ∷ ns) zero p e = let at : n.0 ≡ p = cc in (n.1, ap (λ q. Some (q, n.1)) at)
node_of (n ∷ ns) (suc i) p e = node_of ns i p e

module _ (E : Bx) where
  abbrev pub Hd : Type 0
  Hd = E.al.row.Denot

  abbrev pub D : Type 0
  D = Nodes (X E) Hd

  abbrev pub Nr : RattleType
  Nr = N.the_row (R E) (P E) E.al.g

  -- a node on its way, which has what a box has
  abbrev pub Way : RattleType
  Way = L.the_row (R E) (P E) E.al.g

  abbrev pub boxed : Way.Denot → Form.D E
  boxed w = record { ptr = w.at; alloc = w.alloc; value = w.value }

  -- the owner's own field, which takes no bytes
  abbrev pub Mark : RattleType
  Mark = Struct (shape (N.the_type (R E) (P E) E.al.g))

  abbrev pub Held : Hd → List (Ptr × X E) → Fml
  Held h = nodes_own (token E.al h) (R E)

  abbrev pub One : Hd → Ptr → X E → Fml
  One h = box_owns (token E.al h) (R E)

abbrev pub mark : Val
mark = vstruct (vcons (vstruct vnil) vnil)

pub mark_made : (E : Bx) {M : Type 1} {𝓤 : Ura M} (𝓛 : Logic 𝓤)
    → ent 𝓤 (emp 𝓤) (sem 𝓛 ((Mark E).own_val (tt, tt) (mark ∷ [])))
mark_made E 𝓛 = makes_shadow 𝓛 ((Mark E).own_val (tt, tt) (mark ∷ [])) (λ vss. (tt, ((λ uss. (tt, tt)), tt)))
    ((vstruct vnil ∷ [], tt), (refl, ((tt, (refl, tt)), tt)))

module _ (E : Bx) {M : Type 1} {𝓤 : Ura M} (𝓛 : Logic 𝓤) (h : Hd E) where
  pub held_end : (ns : List (Ptr × X E)) (p : Ptr) (x : X E)
      → ent 𝓤 (sep 𝓤 (sem 𝓛 (One E h p x)) (sem 𝓛 (Held E h ns))) (sem 𝓛 (Held E h (ns ++ (p, x) ∷ [])))
  held_end [] p x = qed 𝓛 (‵ (One E h p x) ∷ ‵ ftrue ∷ []) ∵ fjoin ! $ done !
  held_end (n ∷ ns) p x = qed 𝓛 (‵ (One E h p x) ∷ ‵ (Held E h (n ∷ ns)) ∷ []) ∵ move ! (1 ∷ []) $ fsplit ! $ move !
      (2 ∷ 1 ∷ []) $
      use2 𝓛 (‵ (Held E h (ns ++ (p, x) ∷ []))) (held_end ns p x) $ move ! (1 ∷ 0 ∷ []) $ fjoin ! $ done !

  pub held_out : (ns : List (Ptr × X E)) (i : ℕ) (p : Ptr) (x : X E) → slice_get ns i ≡ Some (p, x)
      → ent 𝓤 (sem 𝓛 (Held E h ns)) (sep 𝓤 (sem 𝓛 (One E h p x)) (sem 𝓛 (Held E h (remove ns i))))
  held_out [] i p x e = cc
  held_out (n ∷ ns) zero p x e = let at : n ≡ (p, x) = cc in
      qed 𝓛 (‵ (fsep (One E h n.0 n.1) (Held E h ns)) ∷ []) ∵ rewrite ! 0
      (λ (m : Ptr × X E). ‵ (fsep (One E h m.0 m.1) (Held E h ns))) at refl $ fsplit ! $ done !
  held_out (n ∷ ns) (suc i) p x e =
      qed 𝓛 (‵ (Held E h (n ∷ ns)) ∷ []) ∵ fsplit ! $ move ! (1 ∷ []) $ use1 𝓛
      (‵ (One E h p x) ⊛ ‵ (Held E h (remove ns i))) (held_out ns i p x e) $ split ! $
      move ! (2 ∷ 1 ∷ 0 ∷ []) $ fjoin ! $ move ! (1 ∷ 0 ∷ []) $ done !

  pub held_in : (ns : List (Ptr × X E)) (i : ℕ) (p : Ptr) (x w : X E) → slice_get ns i ≡ Some (p, x)
      → ent 𝓤 (sep 𝓤 (sem 𝓛 (One E h p w)) (sem 𝓛 (Held E h (remove ns i)))) (sem 𝓛 (Held E h (slice_set ns i (p, w))))
  held_in [] i p x w e = cc
  held_in (n ∷ ns) zero p x w e = qed 𝓛 (‵ (One E h p w) ∷ ‵ (Held E h ns) ∷ []) ∵ fjoin ! $ done !
  held_in (n ∷ ns) (suc i) p x w e =
      qed 𝓛 (‵ (One E h p w) ∷ ‵ (Held E h (n ∷ remove ns i)) ∷ []) ∵ move ! (1 ∷ []) $ fsplit ! $ move ! (2 ∷ 1 ∷ []) $
      use2 𝓛 (‵ (Held E h (slice_set ns i (p, w)))) (held_in ns i p x w e) $ move ! (1 ∷ 0 ∷ []) $ fjoin ! $ done !

module _ {M : Type 1} {𝓤 : Ura M} (𝓛 : Logic 𝓤) (S : RattleType) (κ : Lft) where
  pub lent_of : (ns : List (Ptr × S.Denot)) (i : ℕ) (p : Ptr) (x : S.Denot) → slice_get ns i ≡ Some (p, x)
      → ent 𝓤 (sem 𝓛 (nodes_lent S ns κ)) (sem 𝓛 (lent_at S p x κ))
  lent_of [] i p x e = cc
  lent_of (n ∷ ns) zero p x e = let at : n ≡ (p, x) = cc in
      subst (λ (m : Ptr × S.Denot). ent 𝓤 (sem 𝓛 (nodes_lent S (n ∷ ns) κ)) (sem 𝓛 (lent_at S m.0 m.1 κ))) at
      (fst∗ 𝓤 (sem 𝓛 (lent_at S n.0 n.1 κ)) (sem 𝓛 (nodes_lent S ns κ)))
  lent_of (n ∷ ns) (suc i) p x e = via 𝓤 (sem 𝓛 (nodes_lent S ns κ))
      (snd∗ 𝓤 (sem 𝓛 (lent_at S n.0 n.1 κ)) (sem 𝓛 (nodes_lent S ns κ))) (lent_of ns i p x e)

abbrev one_field : Shape
one_field = record { name = []; args = []; types = []; fields = RawPtr ∷ [] }

abbrev pub Word : RattleType
Word = Struct one_field

module _ {M : Type 1} {𝓤 : Ura M} {𝓛 : Logic 𝓤} {K : Type 0} {Γ : List (Item 𝓤)} {G : Goal 𝓤 𝓛.H} where
  pub place_had : K → (c : Ptr) (vs : List Val) → (vs ≡ word c ∷ [] → Seq K 𝓛 Γ G)
      → Seq K 𝓛 (‵ (Word.own_val (c, tt) vs) ∷ Γ) G
  place_had t c vs k = fpick t
      (λ vss. fsplit t $ feq_l t
      (λ ev. fsplit t $ feq_l t
      (λ e. drop t $ k (subst (λ (ws : List Val). vs ≡ vstruct (of_list (ws ++ [])) ∷ []) e ev))))

  pub place_made : K → (c : Ptr) → Step K 𝓛 (‵ (Word.own_val (c, tt) (word c ∷ [])) ∷ Γ) G Γ G
  place_made t c = step (λ s.
      nothing t $ feq_i t (List Val) (ptr_val c ∷ []) (ptr_val c ∷ []) refl $ fjoin t $ feq_i t (List Val) (word c ∷ [])
      (word c ∷ []) refl $ fjoin t $
      fpack t (Valss (RawPtr ∷ [])) (within one_field (c, tt) (word c ∷ [])) (ptr_val c ∷ [], tt) $ s)

pub two_needs : {M : Type 1} (𝓤 : Ura M) (φ ψ : Type 0) (P : SProp 𝓤) {Q : SProp 𝓤} → (φ × ψ → ent 𝓤 P Q)
    → ent 𝓤 (sep 𝓤 P (sep 𝓤 (fact 𝓤 φ) (fact 𝓤 ψ))) Q
two_needs 𝓤 φ ψ P k =
    let S : SProp 𝓤 = sep 𝓤 (fact 𝓤 φ) (fact 𝓤 ψ) in
    fact_use 𝓤 φ (via 𝓤 S (snd∗ 𝓤 P S) (fst∗ 𝓤 (fact 𝓤 φ) (fact 𝓤 ψ))) (λ x.
    fact_use 𝓤 ψ (via 𝓤 S (snd∗ 𝓤 P S) (snd∗ 𝓤 (fact 𝓤 φ) (fact 𝓤 ψ))) (λ y. via 𝓤 P (fst∗ 𝓤 P S) (k (x, y))))
