-- `push` takes the node's memory over. Assumes `Logic`.
use mathlib.Core.Path.{◌≡◌, refl, sym, subst}
use Prim.Native.Nat.{ℕ}
use mathlib.Core.List.{List, [], ◌∷◌, ◌++◌}
use seplogic.Ra.Ura.{Ura}
use mir.Syntax.{Fn, named}
use mir.MapTy.{inst_fn}
use mir.Val.{Val, vptr}
use base.Logic.{SProp, ent, sep}
use base.Fml.{Lft, GName, Share, ftrue, flft, fobs, fbor}
use prog.Wp.{Calls, Loops, WpFn, Tables}
use types.Logic.{Logic}
use contract.Monad.{fact}
use contract.Running.{tables, tables_of}
use sound.WpLaws.{WpFn-mono}
use types.Kit.{Item, ⋆, ‵, ◌⊛◌, ◌$◌, ◌∵◌, !, qed, by, move, keep, use2, split, join, rewrite, fsplit, fsplit3, fjoin}
use types.Kit.{fjoin3, feq_i, feq_l, suffices, frame, done}
use types.Part.{whole, sub, agg}
use types.Run.{stop, fld, of_opd, and_then, no_more, returns, enter}
use types.ByLocal.{alloc_all, pass_all, free_all, look_at, get, get_in, sets}
use types.SemTy.{Body as Borrowed}
use denote.Exit.{yes, no}
use denote.RattleType.{RattleType, owns}
use denote.Memory.{mem}
use denote.Param.{layout}
use denote.RawPtr.{Ptr, block_ptr}
use denote.Ref.{MutBor, MutRef}
use denote.Builtin.{RefMutOf}
use denote.Signature.{plain}
use denote.Steps.{nothing, opens, closes}
use denote.Struct.Tuple.{Tuple}
use denote.Triple.Carry.{spared}
use denote.Triple.Clauses.{Clauses, Ended, closing}
use denote.Triple.Entry.{on_entry}
use denote.Triple.Spec.{Meets, triple_of}
use denote.Triple.Table.{entered, run_framed}
use denote.Triple.Walked.{needs, Stays, stay_dropped, stay_ref, walk_of, ends_at, Goes-ref, walk_Meets}
use Rattle.core.proofs.alloc.Calls.{Fits, Goes-blank}
use Rattle.core.proofs.mem.Facts.{says_two}
use Rattle.std_alloc.proofs.RcSteps.{word, word-Good}
use Rattle.std_alloc.proofs.Pairs.{pair_val, pair_Typed, pair_of}
use Rattle.std_alloc.proofs.BoxSteps.Form.{Bx, args, R, P, box_typed}
use Rattle.std_alloc.proofs.BoxSteps.Form as box
use Rattle.std_alloc.proofs.BoxSteps.Steps.{box_out}
use Rattle.map_chain.specs.declared.nodes.Place.{Place}
use Rattle.map_chain.specs.contracts.nodes.Place as Pl
use Rattle.map_chain.proofs.Steps.{Hd, D, Nr, Held, One, Way, boxed, held_end, place_made}
use Rattle.map_chain.specs.contracts.nodes.Nodes.push.Key.{name as #self}
use Rattle.map_chain.proofs.nodes.Nodes.push.Statement as stated
use Rattle.map_chain.proofs.nodes.Nodes.push.Code as code

module _ (E : Bx) where
  abbrev function : Fn
  function = inst_fn (args E) code.function

  abbrev Node : RattleType
  Node = Way E

  abbrev Out : RattleType
  Out = Tuple (Pl.the_row ∷ P E ∷ [])

  abbrev ended : Ended
  ended = record {
    signature = record {
      lifetimes = 1;
      outlives = [];
      params = RefMutOf (0 ∷ []) tt (plain (λ _. Nr E)) (λ _. tt) ∷ plain (λ _. Node) ∷ [];
      result = plain (λ _. Out);
    };
    kept = (yes, (no, tt));
  }

  abbrev stayed : Stays ended.signature.params ended.kept
  stayed = (stay_ref (0 ∷ []) tt (plain (λ _. Nr E)), (stay_dropped (plain (λ _. Node)) no, tt))

  abbrev Gives0 : D E → Node.Denot → Out.Denot → D E → Type 0
  Gives0 d node r new = new.nodes ≡ d.nodes ++ (r.0.ptr, node.value) ∷ []

  abbrev Gives1 : D E → Node.Denot → Out.Denot → D E → Type 0
  Gives1 d node r new = (new.alloc ≡ d.alloc) × (r.1 ≡ node.alloc)

  abbrev spec : {M : Type 1} {𝓤 : Ura M} (𝓛 : Logic 𝓤) → Clauses 𝓤 ended
  spec {𝓤 = 𝓤} 𝓛 κs a = record {
    ghost = Unit {0};
    requires = λ _. fact 𝓤 (a.1.0.alloc ≡ a.0.now.alloc);
    ensures = λ _ r w. sep 𝓤 (fact 𝓤 (Gives0 a.0.now a.1.0 r w.0.now)) (fact 𝓤 (Gives1 a.0.now a.1.0 r w.0.now));
  }

module _ (E : Bx) {M : Type 1} {𝓤 : Ura M} (𝓛 : Logic 𝓤) (C : Calls 𝓤 𝓛.H) (Λ : Loops 𝓤 𝓛.H) (κ : Lft) (q : Share)
    (rb ro : ℕ) (γ : GName) (d : D E) (node : (Node E).Denot) (ps us : List Val) where
  open 𝓛 use {H}

  abbrev self : MutBor (D E)
  self = record { ref_ptr = (rb, ro); ghost_name = γ; now = d }

  abbrev bound : (walk_of 𝓛 (ended E) (stayed E) (spec E 𝓛)).Ghost
  bound = (((κ, tt), (q, tt), tt, (self, (node, tt)), (ps, (us, tt))), tt)

  abbrev Post : Val → SProp 𝓤
  Post = (walk_of 𝓛 (ended E) (stayed E) (spec E 𝓛)).post bound

  exits : ps ≡ vptr rb ro ∷ [] → (r : (Out E).Denot) (v : Val) (new : D E) → Gives0 E d node r new
      → Gives1 E d node r new
      → ent 𝓤 (⋆ 𝓛 (‵ (fobs γ ((Nr E).coded.code new)) ∷ ‵ (fbor κ (Borrowed (mem (Nr E)) rb ro γ)) ∷ ‵ (flft κ q) ∷ ‵
      ((Out E).own_val r (v ∷ [])) ∷ [])) (Post v)
  exits passed r v new g0 g1 =
      qed 𝓛 (‵ (fobs γ ((Nr E).coded.code new)) ∷ ‵ (fbor κ (Borrowed (mem (Nr E)) rb ro γ)) ∷ ‵ (flft κ q) ∷ ‵
      ((Out E).own_val r (v ∷ [])) ∷ []) ∵
      suffices ! _ (ends_at 𝓛 (ended E) (stayed E) (spec E 𝓛) bound v r (new, ((tt, (tt, tt)), tt))
      (tt, (tt, tt))) $ says_two ! (g0, g1) $
      nothing ! $ move ! (3 ∷ 0 ∷ []) $ join ! $ frame ! $ feq_i ! (List Val) ps
      (vptr rb ro ∷ []) passed $ fjoin3 ! $ nothing ! $ nothing ! $ fjoin ! $ move ! (1 ∷ 0 ∷ []) $ fjoin ! $ done !

  abbrev Had : Ptr → Val → List (Item 𝓤)
  Had p hv = ‵ (fobs γ ((Nr E).coded.code d)) ∷ ‵ (fbor κ (Borrowed (mem (Nr E)) rb ro γ)) ∷ ‵ (flft κ q) ∷ ‵
      (One E node.alloc p node.value) ∷ ‵ ((P E).own_val node.alloc (hv ∷ [])) ∷ []

  walk : ps ≡ vptr rb ro ∷ [] → node.alloc ≡ d.alloc → (b o : ℕ) (hv : Val) → Fits E.al hv
      → ent 𝓤 (⋆ 𝓛 (Had (block_ptr b o) hv)) (WpFn 𝓤 H C Λ (function E) (vptr rb ro ∷ box.word E hv b o ∷ []) Post)
  walk passed asked b o hv fa =
      let p : Ptr = block_ptr b o in
      let place : Place = record { ptr = p } in
      let new : D E = record { mark = d.mark; alloc = d.alloc; nodes = d.nodes ++ (p, node.value) ∷ [] } in
      let typed = box_typed E hv b o fa in
      let good = word-Good Pl.the_type.name p in
      let out = pair_Typed (layout Pl.the_row) (layout (P E)) (word p) hv good fa in
      qed 𝓛 (Had p hv) ∵ enter ! C Λ (function E) (vptr rb ro ∷ box.word E hv b o ∷ []) _ $ alloc_all !
      (λ l. pass_all ! refl ((tt, tt), (typed, tt)) $
      sets ! (of_opd ! (get_in ! (fld ! refl (stop !)) (sub ! 0 refl (whole !)))) refl (tt, tt) $ sets !
      (of_opd ! (get_in ! (fld ! refl (stop !)) (sub ! 1 refl (whole !)))) refl fa $
      sets ! (of_opd ! (get ! refl)) refl (tt, tt) $ sets !
      (agg ! (and_then ! (get ! refl) (no_more !))) refl good $ sets ! (of_opd ! (get ! refl)) refl fa $
      sets ! (agg ! (and_then ! (get ! refl) (and_then ! (get ! refl) (no_more !)))) refl out $
      opens ! tt (Nr E) {h = d} rb ro (λ vs. move ! (1 ∷ []) $ fsplit ! $
      -- [the field; the nodes; the owner's cell; the open borrow, in three; the new node; its handle]
      move ! (6 ∷ []) $ rewrite ! 0 (λ (h : Hd E). ‵ (One E h p node.value)) asked refl $ move ! (0 ∷ 2 ∷ []) $
      use2 𝓛 (‵ (Held E d.alloc new.nodes)) (held_end E 𝓛 d.alloc d.nodes p node.value) $ move !
      (1 ∷ 0 ∷ []) $ fjoin ! $ move ! (1 ∷ 0 ∷ 2 ∷ 3 ∷ 4 ∷ []) $ closes ! tt (Nr E) new vs rb ro $
      move ! (3 ∷ []) $ place_made ! p $ use2 𝓛 (‵ ((Out E).own_val (place, node.alloc) (pair_val (word p) hv ∷ [])))
      (pair_of 𝓛 Pl.the_row (P E) place node.alloc (word p) hv) $
      returns ! (look_at ! 0 refl) $ free_all ! refl $ keep ! (1 ∷ 2 ∷ 3 ∷ 0 ∷ []) $ by !
      (exits passed (place, node.alloc) (pair_val (word p) hv) new refl (refl, refl))))

  entry : node.alloc ≡ d.alloc
      → ent 𝓤 (on_entry 𝓛 (ended E).signature (κ, tt) (q, tt) (self, (node, tt)) (ps, (us, tt)))
      (WpFn 𝓤 H C Λ (function E) (ps ++ (us ++ [])) Post)
  entry asked =
      qed 𝓛 ((‵ (flft κ q) ⊛ ‵ ftrue) ∷ ‵
      (owns (MutRef (named 0) κ (Nr E) ∷ Node E ∷ []) (self, (node, tt)) (ps, (us, tt))) ∷ []) ∵ split ! $ move !
      (2 ∷ []) $ fsplit ! $ fsplit3 ! $ feq_l ! (λ e.
      move ! (2 ∷ []) $ fsplit ! $ box_out E ! (boxed E node) us
      (λ b o hv at f fa. fjoin ! $ keep ! (3 ∷ 4 ∷ 5 ∷ 0 ∷ 1 ∷ []) $
      by ! (subst (λ (ws : List Val × List Val). ent 𝓤 (⋆ 𝓛 (Had (block_ptr b o) hv))
      (WpFn 𝓤 H C Λ (function E) (ws.0 ++ (ws.1 ++ [])) Post)) (λ j. (sym e j, sym f j)) (walk e asked b o hv fa))))

meets : (E : Bx) {M : Type 1} {𝓤 : Ura M} (𝓛 : Logic 𝓤) (𝓣 : Tables 𝓤 𝓛.H)
    → Meets 𝓛 (ended E).signature (WpFn 𝓤 𝓛.H 𝓣.C 𝓣.Λ (function E)) (closing 𝓛 (ended E) (spec E 𝓛))
meets E {𝓤 = 𝓤} 𝓛 𝓣 =
    walk_Meets 𝓛 (ended E) (stayed E)
    (Goes-ref 𝓛 1 0 tt (plain (λ _. Nr E)), (Goes-blank 𝓛 1 (plain (λ _. Node E)) no (λ κs x f. tt), tt)) (spec E 𝓛)
    (WpFn 𝓤 𝓛.H 𝓣.C 𝓣.Λ (function E)) (WpFn-mono 𝓤 𝓛.H 𝓛.laws 𝓣 (function E))
    (λ z. let a = z.0.3 in
    let vss = z.0.4 in needs 𝓤 (a.1.0.alloc ≡ a.0.now.alloc) _
    (entry E 𝓛 𝓣.C 𝓣.Λ z.0.0.0 z.0.1.0 a.0.ref_ptr.0 a.0.ref_ptr.1 a.0.ghost_name a.0.now a.1.0 vss.0 vss.1.0))

pub push_spec : {M : Type 1} → stated.statement M
unfolding tables_of
push_spec 𝓤 𝓛 𝓜 𝓡 wired Y Z L LZ g d dd met md y =
    let E : Bx = record { row = Y; laws = L; al = record { row = Z; laws = LZ; g = g; d = d; drops = dd } } in
    let A = 𝓛.A in
    let 𝓣 : Tables 𝓤 𝓛.H = tables_of 𝓤 𝓛.H 𝓜 (tables 𝓤 𝓛.H 𝓜 𝓡 𝓡.env) in
    let k = #self (args E) in
    spared 𝓛 (ended E).signature (𝓡.run (𝓡.env k)) (run_framed 𝓤 𝓛.H 𝓜 𝓡 (𝓡.env k)) 2 (Y.lives, (Z.lives, tt))
    (closing 𝓛 (ended E) (spec E 𝓛))
    (entered 𝓤 𝓛.H (triple_of 𝓛 (ended E).signature (closing 𝓛 (ended E) (spec E 𝓛))) 𝓣.C 𝓣.Λ k (function E)
    (code.unfolded 𝓤 𝓛.H 𝓜 𝓡 wired (Y, (Z, tt)) d dd) (meets E 𝓛 𝓣))
    ((y.0.0, y.0.1, tt, y.0.3, y.0.4), y.1)
