-- Nodes stay linked as one is added or taken out.
--     edit-is, places-edit, length-edit, ..      an edit of one value keeps the rest
--     LeadsOn-*, LeadsBack-*                     what leads on, and what leads back
use Rattle.std.proofs.Common.{◌≡◌, ℕ, zero, suc, ◌+◌, ◌<◌, ◌≤◌, List, [], ◌∷◌, ◌++◌, map, length, slice_get, slice_set}
use Rattle.std.proofs.Common.{Some, ◌-◌, inl, inr, refl, sym, ap, subst, ◌∙◌, arith}
use Rattle.std.proofs.lemmas.Bool.{cases_lt}
use Rattle.std.specs.List.{remove}
use denote.RawPtr.{Ptr, null_ptr}
use Rattle.map_chain.specs.Pairs.{Pair}
use Rattle.map_chain.specs.Edit.{edit}
use Rattle.map_chain.specs.Nodes.{places, IsAt}
use Rattle.map_chain.specs.Blocks.{room_in}
use Rattle.map_chain.specs.Links.{LeadsOn, LeadsBack, IsLinked, AreLinked, blocks_of, with_next, with_previous}
use Rattle.map_chain.specs.declared.node.Node.{Node}
use Rattle.map_chain.specs.declared.nodes.Place.{Place}

module _ {X : Type 0} where
  pub edit-is : (ns : List (Ptr × X)) (i : ℕ) (p : Ptr) (x : X) (f : X → X) → slice_get ns i ≡ Some (p, x)
      → slice_set ns i (p, f x) ≡ edit i f ns
  edit-is [] i p x f e = cc
  edit-is (n ∷ ns) zero p x f e = let at : n ≡ (p, x) = cc in ap (λ (m : Ptr × X). (m.0, f m.1) ∷ ns) (sym at)
  edit-is (n ∷ ns) (suc i) p x f e = ap (λ (l : List (Ptr × X)). n ∷ l) (edit-is ns i p x f e)

  pub places-edit : (ns : List (Ptr × X)) (i : ℕ) (f : X → X) → places (edit i f ns) ≡ places ns
  places-edit [] i f = refl
  places-edit (n ∷ ns) zero f = refl
  places-edit (n ∷ ns) (suc i) f = ap (λ (l : List Ptr). n.0 ∷ l) (places-edit ns i f)

  pub length-edit : (ns : List (Ptr × X)) (i : ℕ) (f : X → X) → length (edit i f ns) ≡ length ns
  length-edit [] i f = refl
  length-edit (n ∷ ns) zero f = refl
  length-edit (n ∷ ns) (suc i) f = ap suc (length-edit ns i f)

  pub IsAt-edit : (ns : List (Ptr × X)) (i : ℕ) (f : X → X) (j : ℕ) (p : Ptr) → IsAt ns j p → IsAt (edit i f ns) j p
  IsAt-edit ns i f j p e = ap (λ (ps : List Ptr). slice_get ps j) (places-edit ns i f) ∙ e

  -- the value after the one that changes
  pub get-edit_before : (ns : List (Ptr × X)) (j : ℕ) (f : X → X)
      → slice_get (edit j f ns) (suc j) ≡ slice_get ns (suc j)
  get-edit_before [] j f = refl
  get-edit_before (n ∷ ns) zero f = refl
  get-edit_before (n ∷ ns) (suc j) f = get-edit_before ns j f

  -- the value before the one that changes
  pub get-edit_after : (ns : List (Ptr × X)) (j : ℕ) (f : X → X) → slice_get (edit (suc j) f ns) j ≡ slice_get ns j
  get-edit_after [] j f = refl
  get-edit_after (n ∷ ns) zero f = refl
  get-edit_after (n ∷ ns) (suc j) f = get-edit_after ns j f

  pub remove-edit_after : (ns : List (Ptr × X)) (i : ℕ) (f : X → X)
      → remove (edit (suc i) f ns) i ≡ edit i f (remove ns i)
  remove-edit_after [] zero f = refl
  remove-edit_after [] (suc i) f = refl
  remove-edit_after (n ∷ ns) zero f = refl
  remove-edit_after (n ∷ ns) (suc i) f = ap (λ (l : List (Ptr × X)). n ∷ l) (remove-edit_after ns i f)

  pub IsAt-node : (ns : List (Ptr × X)) (i : ℕ) (p : Ptr) (x : X) → slice_get ns i ≡ Some (p, x) → IsAt ns i p
  IsAt-node [] i p x e = cc
  IsAt-node (n ∷ ns) zero p x e = let at : n ≡ (p, x) = cc in ap (λ (m : Ptr × X). Some m.0) at
  IsAt-node (n ∷ ns) (suc i) p x e = IsAt-node ns i p x e

  pub node_at : (ns : List (Ptr × X)) (i : ℕ) (p : Ptr) → IsAt ns i p → (x : X) × (slice_get ns i ≡ Some (p, x))
  node_at [] i p e = cc
  node_at (n ∷ ns) zero p e = let at : n.0 ≡ p = cc in (n.1, ap (λ q. Some (q, n.1)) at)
  node_at (n ∷ ns) (suc i) p e = node_at ns i p e

  pub get-within : (xs : List X) (i : ℕ) (x : X) → slice_get xs i ≡ Some x → i < length xs
  get-within [] i x e = cc
  get-within (y ∷ ys) zero x e = omega arith
  get-within (y ∷ ys) (suc i) x e = let below : i < length ys = get-within ys i x e in omega arith

  pub length-remove_at : (xs : List X) (i : ℕ) → i < length xs → suc (length (remove xs i)) ≡ length xs
  length-remove_at [] i h = absurd (omega arith)
  length-remove_at (x ∷ xs) zero h = refl
  length-remove_at (x ∷ xs) (suc i) h = ap suc (length-remove_at xs i (omega arith))

module _ {X Y : Type 0} (f : X → Y) where
  pub map-remove_at : (xs : List X) (i : ℕ) → map f (remove xs i) ≡ remove (map f xs) i
  map-remove_at [] zero = refl
  map-remove_at [] (suc i) = refl
  map-remove_at (x ∷ xs) zero = refl
  map-remove_at (x ∷ xs) (suc i) = ap (λ (l : List Y). f x ∷ l) (map-remove_at xs i)

  pub get-map : (xs : List X) (i : ℕ) (x : X) → slice_get xs i ≡ Some x → slice_get (map f xs) i ≡ Some (f x)
  get-map [] i x e = cc
  get-map (y ∷ ys) zero x e = let at : y ≡ x = cc in ap (λ z. Some (f z)) at
  get-map (y ∷ ys) (suc i) x e = get-map ys i x e

pub places-blocks : (ns : List (Ptr × Node)) → places (blocks_of ns) ≡ places ns
places-blocks [] = refl
places-blocks (n ∷ ns) = ap (λ (l : List Ptr). n.0 ∷ l) (places-blocks ns)

pub length-blocks : (ns : List (Ptr × Node)) → length (blocks_of ns) ≡ length ns
length-blocks [] = refl
length-blocks (n ∷ ns) = ap suc (length-blocks ns)

pub IsAt-blocks : (ns : List (Ptr × Node)) (i : ℕ) (p : Ptr) → IsAt ns i p → IsAt (blocks_of ns) i p
IsAt-blocks ns i p e = ap (λ (ps : List Ptr). slice_get ps i) (places-blocks ns) ∙ e

pub IsAt-nodes : (ns : List (Ptr × Node)) (i : ℕ) (p : Ptr) → IsAt (blocks_of ns) i p → IsAt ns i p
IsAt-nodes ns i p e = ap (λ (ps : List Ptr). slice_get ps i) (sym (places-blocks ns)) ∙ e

pub blocks-next : (ns : List (Ptr × Node)) (i : ℕ) (q : Place) → blocks_of (edit i (with_next q) ns) ≡ blocks_of ns
blocks-next [] i q = refl
blocks-next (n ∷ ns) zero q = refl
blocks-next (n ∷ ns) (suc i) q = ap (λ (l : List (Ptr × List Pair)). (n.0, n.1.block) ∷ l) (blocks-next ns i q)

pub blocks-previous : (ns : List (Ptr × Node)) (i : ℕ) (q : Place)
    → blocks_of (edit i (with_previous q) ns) ≡ blocks_of ns
blocks-previous [] i q = refl
blocks-previous (n ∷ ns) zero q = refl
blocks-previous (n ∷ ns) (suc i) q = ap (λ (l : List (Ptr × List Pair)). (n.0, n.1.block) ∷ l) (blocks-previous ns i q)

-- the node with f of its pairs
abbrev pub with_block : (List Pair → List Pair) → Node → Node
with_block f n = record n { block = f n.block }

pub blocks-block : (ns : List (Ptr × Node)) (i : ℕ) (f : List Pair → List Pair)
    → blocks_of (edit i (with_block f) ns) ≡ edit i f (blocks_of ns)
blocks-block [] i f = refl
blocks-block (n ∷ ns) zero f = refl
blocks-block (n ∷ ns) (suc i) f = ap (λ (l : List (Ptr × List Pair)). (n.0, n.1.block) ∷ l) (blocks-block ns i f)

-- ---- what leads on

pub LeadsOn-at : (h : Ptr) (ns : List (Ptr × Node)) (i : ℕ) (p : Ptr) (x : Node) → LeadsOn h ns
    → slice_get ns i ≡ Some (p, x) → suc i < length ns → IsAt ns (suc i) x.next.ptr
LeadsOn-at h [] i p x l e m = absurd (omega arith)
LeadsOn-at h (n ∷ []) i p x l e m = absurd (omega arith)
LeadsOn-at h (n ∷ k ∷ ns) zero p x l e m =
    let at : n ≡ (p, x) = cc in ap (λ (q : Ptr). Some q) (sym l.1.0) ∙ ap (λ (w : Ptr × Node). Some w.1.next.ptr) at
LeadsOn-at h (n ∷ k ∷ ns) (suc i) p x l e m = LeadsOn-at n.1.next.ptr (k ∷ ns) i p x l.1 e (omega arith)

pub LeadsOn-previous : (h : Ptr) (ns : List (Ptr × Node)) (i : ℕ) (q : Place) → LeadsOn h ns
    → LeadsOn h (edit i (with_previous q) ns)
LeadsOn-previous h [] i q l = l
LeadsOn-previous h (n ∷ ns) zero q l = l
LeadsOn-previous h (n ∷ ns) (suc i) q l = (l.0, LeadsOn-previous n.1.next.ptr ns i q l.1)

pub LeadsOn-block : (h : Ptr) (ns : List (Ptr × Node)) (i : ℕ) (f : List Pair → List Pair) → LeadsOn h ns
    → LeadsOn h (edit i (with_block f) ns)
LeadsOn-block h [] i f l = l
LeadsOn-block h (n ∷ ns) zero f l = l
LeadsOn-block h (n ∷ ns) (suc i) f l = (l.0, LeadsOn-block n.1.next.ptr ns i f l.1)

pub LeadsOn-push : (h : Ptr) (ns : List (Ptr × Node)) (j : ℕ) (q : Place) (x : Node) → suc j ≡ length ns → LeadsOn h ns
    → x.next.ptr ≡ null_ptr → LeadsOn h (edit j (with_next q) (ns ++ (q.ptr, x) ∷ []))
LeadsOn-push h [] j q x m l e = absurd (omega arith)
LeadsOn-push h (n ∷ []) zero q x m l e = (l.0, (refl, e))
LeadsOn-push h (n ∷ []) (suc j) q x m l e = absurd (omega arith)
LeadsOn-push h (n ∷ k ∷ ns) zero q x m l e = absurd (omega arith)
LeadsOn-push h (n ∷ k ∷ ns) (suc j) q x m l e = (l.0, LeadsOn-push n.1.next.ptr (k ∷ ns) j q x (omega arith) l.1 e)

pub LeadsOn-unlink : (h : Ptr) (ns : List (Ptr × Node)) (j : ℕ) (p : Ptr) (x : Node) → LeadsOn h ns
    → slice_get ns (suc j) ≡ Some (p, x) → LeadsOn h (remove (edit j (with_next x.next) ns) (suc j))
LeadsOn-unlink h [] j p x l e = cc
LeadsOn-unlink h (n ∷ []) j p x l e = cc
LeadsOn-unlink h (n ∷ k ∷ ns) zero p x l e =
    let at : k ≡ (p, x) = cc in (l.0, subst (λ (w : Ptr × Node). LeadsOn w.1.next.ptr ns) at l.1.1)
LeadsOn-unlink h (n ∷ k ∷ ns) (suc j) p x l e = (l.0, LeadsOn-unlink n.1.next.ptr (k ∷ ns) j p x l.1 e)

pub LeadsOn-unlink_first : (h : Ptr) (ns : List (Ptr × Node)) (p : Ptr) (x : Node) → LeadsOn h ns
    → slice_get ns 0 ≡ Some (p, x) → LeadsOn x.next.ptr (remove ns 0)
LeadsOn-unlink_first h [] p x l e = cc
LeadsOn-unlink_first h (n ∷ ns) p x l e =
    let at : n ≡ (p, x) = cc in subst (λ (w : Ptr × Node). LeadsOn w.1.next.ptr ns) at l.1

-- ---- what leads back

pub LeadsBack-last : (a : Ptr) (ns : List (Ptr × Node)) (t : Ptr) (j : ℕ) → suc j ≡ length ns → LeadsBack a ns t
    → IsAt ns j t
LeadsBack-last a [] t j m l = absurd (omega arith)
LeadsBack-last a (n ∷ []) t zero m l = ap (λ (p : Ptr). Some p) (sym l.1)
LeadsBack-last a (n ∷ []) t (suc j) m l = absurd (omega arith)
LeadsBack-last a (n ∷ k ∷ ns) t zero m l = absurd (omega arith)
LeadsBack-last a (n ∷ k ∷ ns) t (suc j) m l = LeadsBack-last n.0 (k ∷ ns) t j (omega arith) l.1

pub LeadsBack-at : (a : Ptr) (ns : List (Ptr × Node)) (t : Ptr) (j : ℕ) (p : Ptr) (x : Node) → LeadsBack a ns t
    → slice_get ns (suc j) ≡ Some (p, x) → IsAt ns j x.previous.ptr
LeadsBack-at a [] t j p x l e = cc
LeadsBack-at a (n ∷ []) t j p x l e = cc
LeadsBack-at a (n ∷ k ∷ ns) t zero p x l e =
    let at : k ≡ (p, x) = cc in ap (λ (q : Ptr). Some q) (sym l.1.0) ∙ ap (λ (w : Ptr × Node). Some w.1.previous.ptr) at
LeadsBack-at a (n ∷ k ∷ ns) t (suc j) p x l e = LeadsBack-at n.0 (k ∷ ns) t j p x l.1 e

pub LeadsBack-next : (a : Ptr) (ns : List (Ptr × Node)) (t : Ptr) (i : ℕ) (q : Place) → LeadsBack a ns t
    → LeadsBack a (edit i (with_next q) ns) t
LeadsBack-next a [] t i q l = l
LeadsBack-next a (n ∷ ns) t zero q l = l
LeadsBack-next a (n ∷ ns) t (suc i) q l = (l.0, LeadsBack-next n.0 ns t i q l.1)

pub LeadsBack-block : (a : Ptr) (ns : List (Ptr × Node)) (t : Ptr) (i : ℕ) (f : List Pair → List Pair)
    → LeadsBack a ns t → LeadsBack a (edit i (with_block f) ns) t
LeadsBack-block a [] t i f l = l
LeadsBack-block a (n ∷ ns) t zero f l = l
LeadsBack-block a (n ∷ ns) t (suc i) f l = (l.0, LeadsBack-block n.0 ns t i f l.1)

pub LeadsBack-push : (a : Ptr) (ns : List (Ptr × Node)) (t q : Ptr) (x : Node) → LeadsBack a ns t → x.previous.ptr ≡ t
    → LeadsBack a (ns ++ (q, x) ∷ []) q
LeadsBack-push a [] t q x l e = (e ∙ l, refl)
LeadsBack-push a (n ∷ ns) t q x l e = (l.0, LeadsBack-push n.0 ns t q x l.1 e)

pub LeadsBack-unlink : (a : Ptr) (ns : List (Ptr × Node)) (t : Ptr) (i : ℕ) (p : Ptr) (x : Node) → LeadsBack a ns t
    → slice_get ns i ≡ Some (p, x) → suc i < length ns
    → LeadsBack a (edit i (with_previous x.previous) (remove ns i)) t
LeadsBack-unlink a [] t i p x l e m = cc
LeadsBack-unlink a (n ∷ []) t i p x l e m = absurd (omega arith)
LeadsBack-unlink a (n ∷ k ∷ ns) t zero p x l e m =
    let at : n ≡ (p, x) = cc in (sym (ap (λ (w : Ptr × Node). w.1.previous.ptr) at) ∙ l.0, l.1.1)
LeadsBack-unlink a (n ∷ k ∷ ns) t (suc i) p x l e m = (l.0, LeadsBack-unlink n.0 (k ∷ ns) t i p x l.1 e (omega arith))

pub LeadsBack-unlink_last : (a : Ptr) (ns : List (Ptr × Node)) (t : Ptr) (i : ℕ) (p : Ptr) (x : Node) → LeadsBack a ns t
    → slice_get ns i ≡ Some (p, x) → suc i ≡ length ns
    → LeadsBack a (remove ns i) x.previous.ptr
LeadsBack-unlink_last a [] t i p x l e m = cc
LeadsBack-unlink_last a (n ∷ []) t zero p x l e m =
    let at : n ≡ (p, x) = cc in sym (ap (λ (w : Ptr × Node). w.1.previous.ptr) at) ∙ l.0
LeadsBack-unlink_last a (n ∷ []) t (suc i) p x l e m = absurd (omega arith)
LeadsBack-unlink_last a (n ∷ k ∷ ns) t zero p x l e m = absurd (omega arith)
LeadsBack-unlink_last a (n ∷ k ∷ ns) t (suc i) p x l e m =
    (l.0, LeadsBack-unlink_last n.0 (k ∷ ns) t i p x l.1 e (omega arith))

-- ---- what a caller sees of the nodes

module _ (ns : List (Ptr × Node)) (bs : List (Ptr × List Pair)) (is : blocks_of ns ≡ bs) where
  pub had_at : (i : ℕ) (p : Ptr) → IsAt bs i p → IsAt ns i p
  had_at i p e = IsAt-nodes ns i p (subst (λ (cs : List (Ptr × List Pair)). IsAt cs i p) (sym is) e)

  pub now_at : (i : ℕ) (p : Ptr) → IsAt ns i p → IsAt bs i p
  now_at i p e = subst (λ (cs : List (Ptr × List Pair)). IsAt cs i p) is (IsAt-blocks ns i p e)

  pub same_length : length ns ≡ length bs
  same_length = sym (length-blocks ns) ∙ ap (λ (cs : List (Ptr × List Pair)). length cs) is

  pub block_at : (i : ℕ) (p : Ptr) (x : Node) → slice_get ns i ≡ Some (p, x) → slice_get bs i ≡ Some (p, x.block)
  block_at i p x e = subst (λ (cs : List (Ptr × List Pair)). slice_get cs i ≡ Some (p, x.block)) is
      (get-map (λ n. (n.0, n.1.block)) ns i (p, x) e)

-- ---- a node linked in at the end, or taken out

-- what comes of the i-th node's `next` and of the first place
pub record LedOn (first next : Place) (i : ℕ) (ns ms : List (Ptr × Node)) (r : Place) : Type 0 where
  pub at_first : i ≡ 0 → (r ≡ next) × (ms ≡ ns)
  pub after_one : 0 < i → (r ≡ first) × (ms ≡ edit (i - 1) (with_next next) ns)

-- what comes of the i-th node's `previous` and of the last place
pub record LedBack (last previous : Place) (i : ℕ) (ns ms : List (Ptr × Node)) (r : Place) : Type 0 where
  pub at_last : length ns ≤ i → (r ≡ previous) × (ms ≡ ns)
  pub before_one : i < length ns → (r ≡ last) × (ms ≡ edit i (with_previous previous) ns)

-- the nodes after a link or an unlink
pub record Relinked (ns ms : List (Ptr × Node)) (first last : Ptr) (bs : List (Ptr × List Pair)) : Type 0 where
  pub linked : IsLinked first last ms
  pub blocks : blocks_of ms ≡ bs

blocks-end : (ns : List (Ptr × Node)) (p : Ptr) (x : Node) → x.block ≡ []
    → blocks_of (ns ++ (p, x) ∷ []) ≡ blocks_of ns ++ (p, []) ∷ []
blocks-end [] p x e = ap (λ (b : List Pair). (p, b) ∷ []) e
blocks-end (n ∷ ns) p x e = ap (λ (bs : List (Ptr × List Pair)). (n.0, n.1.block) ∷ bs) (blocks-end ns p x e)

pub linked_in : (first last : Place) (ns : List (Ptr × Node)) (q : Place) (x : Node) (ms : List (Ptr × Node))
    (r : Place) → IsLinked first.ptr last.ptr ns
    → x.next.ptr ≡ null_ptr → x.previous.ptr ≡ last.ptr → x.block ≡ []
    → LedOn first q (length ns) (ns ++ (q.ptr, x) ∷ []) ms r
    → Relinked ns ms r.ptr q.ptr (blocks_of ns ++ (q.ptr, []) ∷ [])
linked_in first last [] q x ms r l e f g on =
    let is = on.at_first refl in
    record {
      linked = subst (λ (s : Place × List (Ptr × Node)). IsLinked s.0.ptr q.ptr s.1) (λ i. (sym is.0 i, sym is.1 i))
          ((refl, e), LeadsBack-push null_ptr [] last.ptr q.ptr x l.1 f);
      blocks = ap blocks_of is.1 ∙ blocks-end [] q.ptr x g;
    }
linked_in first last (k ∷ ks) q x ms r l e f g on =
    let is = on.after_one (omega arith) in let j : ℕ = length (k ∷ ks) - 1 in
    let all : List (Ptr × Node) = (k ∷ ks) ++ (q.ptr, x) ∷ [] in
    record {
      linked = subst (λ (s : Place × List (Ptr × Node)). IsLinked s.0.ptr q.ptr s.1) (λ i. (sym is.0 i, sym is.1 i)) (
        LeadsOn-push first.ptr (k ∷ ks) j q x (omega arith) l.0 e,
        LeadsBack-next null_ptr all q.ptr j q (LeadsBack-push null_ptr (k ∷ ks) last.ptr q.ptr x l.1 f),
      );
      blocks = ap blocks_of is.1 ∙ blocks-next all j q ∙ blocks-end (k ∷ ks) q.ptr x g;
    }

-- after what led on to the i-th node leads past it
record Past (first : Ptr) (ns ms : List (Ptr × Node)) (i : ℕ) (p : Ptr) (x : Node) (r last : Ptr) : Type 0 where
  on : LeadsOn r (remove ms i)
  back : LeadsBack null_ptr ms last
  at : slice_get ms i ≡ Some (p, x)
  blocks : blocks_of ms ≡ blocks_of ns
  long : length ms ≡ length ns

past : (first last : Place) (ns : List (Ptr × Node)) (i : ℕ) (p : Ptr) (x : Node) (ms : List (Ptr × Node)) (r : Place)
    → IsLinked first.ptr last.ptr ns
    → slice_get ns i ≡ Some (p, x) → LedOn first x.next i ns ms r → Past first.ptr ns ms i p x r.ptr last.ptr
past first last ns zero p x ms r l e on =
    let is = on.at_first refl in
    record {
      on = subst (λ (s : Place × List (Ptr × Node)). LeadsOn s.0.ptr (remove s.1 zero)) (λ i. (sym is.0 i, sym is.1 i))
          (LeadsOn-unlink_first first.ptr ns p x l.0 e);
      back = subst (λ (ks : List (Ptr × Node)). LeadsBack null_ptr ks last.ptr) (sym is.1) l.1;
      at = ap (λ (ks : List (Ptr × Node)). slice_get ks zero) is.1 ∙ e;
      blocks = ap blocks_of is.1;
      long = ap (λ (ks : List (Ptr × Node)). length ks) is.1;
    }
past first last ns (suc j) p x ms r l e on =
    let is = on.after_one (omega arith) in let before : suc j - 1 ≡ j = omega arith in
    let to : ms ≡ edit j (with_next x.next) ns = is.1 ∙ ap (λ (i : ℕ). edit i (with_next x.next) ns) before in
    record {
      on = subst (λ (s : Place × List (Ptr × Node)). LeadsOn s.0.ptr (remove s.1 (suc j))) (λ i. (sym is.0 i, sym to i))
          (LeadsOn-unlink first.ptr ns j p x l.0 e);
      back = subst (λ (ks : List (Ptr × Node)). LeadsBack null_ptr ks last.ptr) (sym to)
          (LeadsBack-next null_ptr ns last.ptr j x.next l.1);
      at = ap (λ (ks : List (Ptr × Node)). slice_get ks (suc j)) to ∙ get-edit_before ns j (with_next x.next) ∙ e;
      blocks = ap blocks_of to ∙ blocks-next ns j x.next;
      long = ap (λ (ks : List (Ptr × Node)). length ks) to ∙ length-edit ns j (with_next x.next);
    }

-- and what led back to it leads past it too
pub linked_past : (first last : Place) (ns : List (Ptr × Node)) (i : ℕ) (p : Ptr) (x : Node) (ms : List (Ptr × Node))
    (r : Place) (ks : List (Ptr × Node)) (s : Place) → IsLinked first.ptr last.ptr ns
    → slice_get ns i ≡ Some (p, x) → LedOn first x.next i ns ms r → LedBack last x.previous (suc i) ms ks s
    → (slice_get ks i ≡ Some (p, x)) × Relinked ns (remove ks i) r.ptr s.ptr (remove (blocks_of ns) i) ×
    (suc (length (remove ks i)) ≡ length ns)
linked_past first last ns i p x ms r ks s l e on back =
    let m = past first last ns i p x ms r l e on in let within = get-within ms i (p, x) m.at in
    elim (cases_lt (suc i) (length ms)) [
      | inl less ↦
          let is = back.before_one less in let f = with_previous x.previous in
          let to = sym is.1 in
          let gone : remove ks i ≡ edit i f (remove ms i) = ap (λ (l : List (Ptr × Node)). remove l i) is.1
          ∙ remove-edit_after ms i f in
          let at : slice_get ks i ≡ Some (p, x) = ap (λ (l : List (Ptr × Node)). slice_get l i) is.1
          ∙ get-edit_after ms i f ∙ m.at in (
            at,
            record {
              linked = subst (λ (z : Place × List (Ptr × Node)). IsLinked r.ptr z.0.ptr z.1)
                  (λ j. (sym is.0 j, sym gone j)) (
                    LeadsOn-previous r.ptr (remove ms i) i x.previous m.on,
                    LeadsBack-unlink null_ptr ms last.ptr i p x m.back m.at less,
                  );
              blocks = ap blocks_of gone ∙ blocks-previous (remove ms i) i x.previous
                  ∙ map-remove_at (λ n. (n.0, n.1.block)) ms i
                  ∙ ap (λ (bs : List (Ptr × List Pair)). remove bs i) m.blocks;
            },
            ap suc (ap (λ (l : List (Ptr × Node)). length l) gone ∙ length-edit (remove ms i) i f)
                ∙ length-remove_at ms i within ∙ m.long,
          )
      | inr more ↦
          let is = back.at_last more in let last_one : suc i ≡ length ms = omega arith in (
            ap (λ (l : List (Ptr × Node)). slice_get l i) is.1 ∙ m.at,
            record {
              linked = subst (λ (z : Place × List (Ptr × Node)). IsLinked r.ptr z.0.ptr (remove z.1 i))
                  (λ j. (sym is.0 j, sym is.1 j))
                  (m.on, LeadsBack-unlink_last null_ptr ms last.ptr i p x m.back m.at last_one);
              blocks = ap (λ (l : List (Ptr × Node)). blocks_of (remove l i)) is.1
                  ∙ map-remove_at (λ n. (n.0, n.1.block)) ms i
                  ∙ ap (λ (bs : List (Ptr × List Pair)). remove bs i) m.blocks;
            },
            ap (λ (l : List (Ptr × Node)). suc (length (remove l i))) is.1 ∙ length-remove_at ms i within ∙ m.long,
          )
    ]

pub IsAt-append : {X : Type 0} (ns ms : List (Ptr × X)) (i : ℕ) (p : Ptr) → IsAt ns i p → IsAt (ns ++ ms) i p
IsAt-append [] ms i p e = cc
IsAt-append (n ∷ ns) ms zero p e = e
IsAt-append (n ∷ ns) ms (suc i) p e = IsAt-append ns ms i p e

-- the nodes stay where they are
pub LedOn-places : (first next : Place) (i : ℕ) (ns ms : List (Ptr × Node)) (r : Place) → LedOn first next i ns ms r
    → (j : ℕ) (p : Ptr) → IsAt ns j p → IsAt ms j p
LedOn-places first next zero ns ms r on j p e = subst (λ (ks : List (Ptr × Node)). IsAt ks j p)
    (sym (on.at_first refl).1) e
LedOn-places first next (suc i) ns ms r on j p e =
    subst (λ (ks : List (Ptr × Node)). IsAt ks j p) (sym (on.after_one (omega arith)).1)
    (IsAt-edit ns (suc i - 1) (with_next next) j p e)

-- a node with other pairs is written
pub block_put : (ns : List (Ptr × Node)) (i : ℕ) (p : Ptr) (x : Node) (f : List Pair → List Pair) (b : List Pair)
    → slice_get ns i ≡ Some (p, x) → b ≡ f x.block
    → slice_set ns i (p, record x { block = b }) ≡ edit i (with_block f) ns
block_put ns i p x f b e is = ap (λ (c : List Pair). slice_set ns i (p, record x { block = c })) is
    ∙ edit-is ns i p x (with_block f) e

pub still_linked : (first last : Ptr) (count : ℕ) (ns : List (Ptr × Node)) (i : ℕ) (p : Ptr) (x : Node) (f : List Pair
    → List Pair) (b : List Pair) → AreLinked first last count ns
    → slice_get ns i ≡ Some (p, x) → b ≡ f x.block
    → AreLinked first last count (slice_set ns i (p, record x { block = b }))
still_linked first last count ns i p x f b v e is =
    subst (λ (ks : List (Ptr × Node)). AreLinked first last count ks) (sym (block_put ns i p x f b e is))
    (record {
      linked = (LeadsOn-block first ns i f v.linked.0, LeadsBack-block null_ptr ns last i f v.linked.1);
      counted = v.counted ∙ sym (length-edit ns i (with_block f));
      few = v.few;
    })

pub blocks_put : (ns : List (Ptr × Node)) (bs : List (Ptr × List Pair)) (i : ℕ) (p : Ptr) (x : Node) (f : List Pair
    → List Pair) (b : List Pair) → blocks_of ns ≡ bs
    → slice_get ns i ≡ Some (p, x) → b ≡ f x.block
    → blocks_of (slice_set ns i (p, record x { block = b })) ≡ edit i f bs
blocks_put ns bs i p x f b view e is = ap blocks_of (block_put ns i p x f b e is) ∙ blocks-block ns i f
    ∙ ap (edit i f) view

pub room-last : (bs : List (Ptr × List Pair)) (j : ℕ) (p : Ptr) (ps : List Pair) → suc j ≡ length bs
    → slice_get bs j ≡ Some (p, ps) → room_in bs ≡ 64 - length ps
room-last [] j p ps m e = absurd (omega arith)
room-last (b ∷ []) zero p ps m e = let at : b ≡ (p, ps) = cc in ap (λ (c : Ptr × List Pair). 64 - length c.1) at
room-last (b ∷ []) (suc j) p ps m e = absurd (omega arith)
room-last (b ∷ c ∷ bs) zero p ps m e = absurd (omega arith)
room-last (b ∷ c ∷ bs) (suc j) p ps m e = room-last (c ∷ bs) j p ps (omega arith) e

pub room-some : (bs : List (Ptr × List Pair)) → 0 < room_in bs → 0 < length bs
room-some [] m = absurd (omega arith)
room-some (b ∷ bs) m = omega arith

-- the same as the code counts
pub led_past : (first last : Place) (count : ℕ) (ns ms ks : List (Ptr × Node)) (i : ℕ) (p : Ptr) (x : Node)
    (r s : Place) → AreLinked first.ptr last.ptr count ns → slice_get ns i ≡ Some (p, x)
    → LedOn first x.next i ns ms r → (count ≤ i + 1 → (s ≡ x.previous) × (ks ≡ ms))
    → (i + 1 < count → (s ≡ last) × (ks ≡ edit (i + 1) (with_previous x.previous) ms))
    → (slice_get ks i ≡ Some (p, x)) × Relinked ns (remove ks i) r.ptr s.ptr (remove (blocks_of ns) i) ×
    (suc (length (remove ks i)) ≡ length ns)
led_past first last count ns ms ks i p x r s v e on at_end inside =
    let n = v.counted in let long = (past first last ns i p x ms r v.linked e on).long in
    let next : i + 1 ≡ suc i = omega arith in
    linked_past first last ns i p x ms r ks s v.linked e on (record {
      at_last = λ more. at_end (omega arith);
      before_one = λ less. let w = inside (omega arith) in
          (w.0, w.1 ∙ ap (λ (j : ℕ). edit j (with_previous x.previous) ms) next);
    })

-- what lies at an index is one thing
pub one_block : {X : Type 0} (ns : List (Ptr × X)) (i : ℕ) (p q : Ptr) (x y : X) → slice_get ns i ≡ Some (p, x)
    → slice_get ns i ≡ Some (q, y) → (p ≡ q) × (x ≡ y)
one_block {X = X} ns i p q x y e f =
    let same : Some (p, x) ≡ Some (q, y) = sym e ∙ f in let P : Ptr × X = (p, x) in let Q : Ptr × X = (q, y) in
    let is : P ≡ Q = cc in (ap (λ (z : Ptr × X). z.0) is, ap (λ (z : Ptr × X). z.1) is)
