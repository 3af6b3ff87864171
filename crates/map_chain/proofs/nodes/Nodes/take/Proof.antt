-- `take` gives the i-th node's memory away. Assumes `Logic`.
use mathlib.Core.Path.{◌≡◌, refl, sym, ap, subst}
use Prim.Native.Nat.{ℕ, ◌<◌, ◌^◌}
use mathlib.Core.List.{List, [], ◌∷◌, ◌++◌}
use seplogic.Ra.Ura.{Ura}
use mir.Syntax.{Fn, named, w64}
use mir.MapTy.{inst_fn}
use mir.Val.{Val, vint, vptr}
use base.Logic.{SProp, ent, sep, never, fst∗}
use base.Fml.{Lft, GName, Share, ftrue, flft, fobs, fbor}
use prog.Wp.{Calls, Loops, WpFn, Tables}
use types.Logic.{Logic, sem}
use contract.Monad.{fact}
use contract.Running.{tables, tables_of}
use sound.WpLaws.{WpFn-mono}
use types.Kit.{Item, ⋆, ‵, ◌⊛◌, ◌$◌, ◌∵◌, !, qed, by, move, keep, use1, split, join, rewrite, fsplit, fsplit3, fjoin}
use types.Kit.{fjoin3, feq_i, feq_l, flt_l, suffices, frame, done}
use types.Part.{whole, sub, agg}
use types.Run.{stop, fld, of_opd, and_then, no_more, returns, enter}
use types.ByLocal.{alloc_all, pass_all, free_all, look_at, get, get_in, sets, is}
use types.SemTy.{Body as Borrowed}
use denote.Exit.{yes, no}
use denote.RattleType.{RattleType, owns}
use denote.Memory.{mem, lone}
use denote.RawPtr.{block_ptr, null_ptr, ptr_val, in_a_block}
use denote.Ref.{MutBor, MutRef}
use denote.Builtin.{RefMutOf, usize}
use denote.Signature.{plain}
use denote.Steps.{nothing, opens, closes}
use denote.Triple.Carry.{spared}
use denote.Triple.Clauses.{Clauses, Ended, closing}
use denote.Triple.Entry.{on_entry}
use denote.Triple.Spec.{Meets, triple_of}
use denote.Triple.Table.{entered, run_framed}
use denote.Triple.Walked.{Stays, stay_dropped, stay_ref, walk_of, ends_at, Goes-dropped, Goes-ref, walk_Meets}
use Rattle.core.proofs.alloc.Calls.{Fits, token, handle_tells}
use Rattle.core.proofs.mem.Facts.{says_three}
use Rattle.std.specs.Prelude.{slice_get, remove, Some}
use mir.Raw.{raw as bare}
use Rattle.map_chain.specs.Nodes.{IsAt}
use Rattle.std_alloc.proofs.RcSteps.{word, word-Good}
use Rattle.std_alloc.proofs.BoxSteps.Form.{Bx, args, X, R, P, box_typed}
use Rattle.std_alloc.proofs.BoxSteps.Form as box
use Rattle.std_alloc.proofs.BoxSteps.Steps.{box_in}
use Rattle.map_chain.specs.declared.nodes.Place.{Place}
use Rattle.map_chain.specs.contracts.nodes.Place as Pl
use Rattle.map_chain.proofs.Steps.{Hd, D, Nr, Held, One, node_of, held_out, place_had, two_needs, Way, boxed}
use Rattle.map_chain.specs.contracts.nodes.Nodes.take.Key.{name as #self}
use Rattle.map_chain.proofs.nodes.Nodes.take.Statement as stated
use Rattle.map_chain.proofs.nodes.Nodes.take.Code as code

module _ (E : Bx) where
  abbrev function : Fn
  function = inst_fn (args E) code.function

  abbrev Node : RattleType
  Node = Way E

  abbrev ended : Ended
  ended = record {
    signature = record {
      lifetimes = 1;
      outlives = [];
      params = RefMutOf (0 ∷ []) tt (plain (λ _. Nr E)) (λ _. tt) ∷ plain (λ _. Pl.the_row) ∷ plain (λ _. usize) ∷ plain
          (λ _. P E) ∷ [];
      result = plain (λ _. Node);
    };
    kept = (yes, (no, (no, (no, tt))));
  }

  abbrev stayed : Stays ended.signature.params ended.kept
  stayed = (
    stay_ref (0 ∷ []) tt (plain (λ _. Nr E)),
    (
      stay_dropped (plain (λ _. Pl.the_row)) no,
      (stay_dropped (plain (λ _. usize)) no, (stay_dropped (plain (λ _. P E)) no, tt)),
    ),
  )

  abbrev Gives0 : D E → Place → ℕ → Node.Denot → Type 0
  Gives0 d at i r = slice_get d.nodes i ≡ Some (at.ptr, r.value)

  abbrev Gives1 : D E → ℕ → D E → Type 0
  Gives1 d i new = new.nodes ≡ remove d.nodes i

  abbrev Gives2 : D E → Hd E → Node.Denot → D E → Type 0
  Gives2 d h r new = (new.alloc ≡ d.alloc) × (r.alloc ≡ h)

  abbrev spec : {M : Type 1} {𝓤 : Ura M} (𝓛 : Logic 𝓤) → Clauses 𝓤 ended
  spec {𝓤 = 𝓤} 𝓛 κs a = record {
    ghost = Unit {0};
    requires = λ _. sep 𝓤 (fact 𝓤 (IsAt a.0.now.nodes a.1.1.0 a.1.0.ptr)) (fact 𝓤 (a.1.1.1.0 ≡ a.0.now.alloc));
    ensures = λ _ r w. sep 𝓤 (fact 𝓤 (Gives0 a.0.now a.1.0 a.1.1.0 r))
        (sep 𝓤 (fact 𝓤 (Gives1 a.0.now a.1.1.0 w.0.now)) (fact 𝓤 (Gives2 a.0.now a.1.1.1.0 r w.0.now)));
  }

module _ (E : Bx) {M : Type 1} {𝓤 : Ura M} (𝓛 : Logic 𝓤) (C : Calls 𝓤 𝓛.H) (Λ : Loops 𝓤 𝓛.H) (κ : Lft) (q : Share)
    (rb ro : ℕ) (γ : GName) (d : D E) (at : Place) (i : ℕ) (h : Hd E) (ps us xs vs : List Val) where
  open 𝓛 use {H}

  abbrev self : MutBor (D E)
  self = record { ref_ptr = (rb, ro); ghost_name = γ; now = d }

  abbrev bound : (walk_of 𝓛 (ended E) (stayed E) (spec E 𝓛)).Ghost
  bound = (((κ, tt), (q, tt), tt, (self, (at, (i, (h, tt)))), (ps, (us, (xs, (vs, tt))))), tt)

  abbrev Post : Val → SProp 𝓤
  Post = (walk_of 𝓛 (ended E) (stayed E) (spec E 𝓛)).post bound

  exits : ps ≡ vptr rb ro ∷ [] → (r : (Node E).Denot) (v : Val) (new : D E) → Gives0 E d at i r → Gives1 E d i new
      → Gives2 E d h r new
      → ent 𝓤 (⋆ 𝓛 (‵ (fobs γ ((Nr E).coded.code new)) ∷ ‵ (fbor κ (Borrowed (mem (Nr E)) rb ro γ)) ∷ ‵ (flft κ q) ∷ ‵
      ((Node E).own_val r (v ∷ [])) ∷ [])) (Post v)
  exits passed r v new g0 g1 g2 =
      qed 𝓛 (‵ (fobs γ ((Nr E).coded.code new)) ∷ ‵ (fbor κ (Borrowed (mem (Nr E)) rb ro γ)) ∷ ‵ (flft κ q) ∷ ‵
      ((Node E).own_val r (v ∷ [])) ∷ []) ∵
      suffices ! _ (ends_at 𝓛 (ended E) (stayed E) (spec E 𝓛) bound v r (new, (tt, (tt, (tt, tt))))
      (tt, (tt, (tt, (tt, tt))))) $ says_three ! (g0, g1, g2) $
      nothing ! $ move ! (3 ∷ 0 ∷ []) $ join ! $ frame ! $ feq_i ! (List Val) ps (vptr rb ro ∷ []) passed $ fjoin3 ! $
      nothing ! $ nothing ! $ fjoin ! $ nothing ! $ fjoin ! $ nothing ! $ fjoin ! $ move !
      (1 ∷ 0 ∷ []) $ fjoin ! $ done !

  abbrev Had : Val → List (Item 𝓤)
  Had hv = ‵ (fobs γ ((Nr E).coded.code d)) ∷ ‵ (fbor κ (Borrowed (mem (Nr E)) rb ro γ)) ∷ ‵ (flft κ q) ∷ ‵
      ((P E).own_val h (hv ∷ [])) ∷ []

  walk : ps ≡ vptr rb ro ∷ [] → i < 2 ^ 64 → IsAt d.nodes i at.ptr → h ≡ d.alloc → (hv : Val) → Fits E.al hv
      → ent 𝓤 (⋆ 𝓛 (Had hv)) (WpFn 𝓤 H C Λ (function E) (vptr rb ro ∷ word at.ptr ∷ vint w64 i ∷ hv ∷ []) Post)
  walk passed fits asked same hv fa =
      let found = node_of d.nodes i at.ptr asked in
      let x : X E = found.0 in
      let new : D E = record { mark = d.mark; alloc = d.alloc; nodes = remove d.nodes i } in
      qed 𝓛 (Had hv) ∵ enter ! C Λ (function E) (vptr rb ro ∷ word at.ptr ∷ vint w64 i ∷ hv ∷ []) _ $
      alloc_all ! (λ l. pass_all ! refl
      ((tt, tt), (word-Good Pl.the_type.name at.ptr, ((tt, record { fits = fits }), (fa, tt)))) $
      opens ! tt (Nr E) {h = d} rb ro (λ ws. move ! (1 ∷ []) $ fsplit ! $ move ! (1 ∷ []) $
      -- [the nodes; the field; the owner's cell; the open borrow, in three; the handle]
      use1 𝓛 (‵ (One E d.alloc at.ptr x) ⊛ ‵ (Held E d.alloc new.nodes))
      (held_out E 𝓛 d.alloc d.nodes i at.ptr x found.1) $ split ! $
      rewrite ! 0 (λ (k : Hd E). ‵ (One E k at.ptr x)) (sym same) refl $
      in_a_block ! at.ptr (λ p. One E h p x) (fst∗ 𝓤 (never 𝓤) (sem 𝓛 (token E.al h (bare (lone (R E).mir)) null_ptr)))
      (λ b o e.
      let typed = box_typed E hv b o fa in
      let out : (Node E).Denot = record { at = block_ptr b o; alloc = h; value = x } in
      sets ! (is ! (of_opd ! (get_in ! (fld ! refl (stop !)) (sub ! 0 refl (whole !)))) (ap ptr_val e)) refl
      (tt, tt) $ sets ! (of_opd ! (get ! refl)) refl fa $
      sets ! (agg ! (and_then ! (get ! refl) (and_then ! (get ! refl) (no_more !)))) refl typed $
      fsplit ! $ move ! (0 ∷ 1 ∷ 8 ∷ []) $ box_in E ! (boxed E out) b o x refl refl $
      -- [the node; the other nodes; the field; ..]
      move ! (2 ∷ 1 ∷ []) $ fjoin ! $ move ! (2 ∷ 0 ∷ 3 ∷ 4 ∷ 5 ∷ []) $ closes ! tt (Nr E) new ws rb ro $
      returns ! (look_at ! 0 refl) $ free_all ! refl $ keep ! (0 ∷ 1 ∷ 2 ∷ 3 ∷ []) $ by !
      (exits passed out (box.word E hv b o) new found.1 refl (refl, refl)))))

  entry : (IsAt d.nodes i at.ptr) × (h ≡ d.alloc)
      → ent 𝓤 (on_entry 𝓛 (ended E).signature (κ, tt) (q, tt) (self, (at, (i, (h, tt)))) (ps, (us, (xs, (vs, tt)))))
      (WpFn 𝓤 H C Λ (function E) (ps ++ (us ++ (xs ++ (vs ++ [])))) Post)
  entry asked =
      qed 𝓛 ((‵ (flft κ q) ⊛ ‵ ftrue) ∷ ‵
      (owns (MutRef (named 0) κ (Nr E) ∷ Pl.the_row ∷ usize ∷ P E ∷ []) (self, (at, (i, (h, tt))))
      (ps, (us, (xs, (vs, tt))))) ∷ []) ∵ split ! $ move ! (2 ∷ []) $ fsplit ! $ fsplit3 ! $ feq_l ! (λ e.
      move ! (2 ∷ []) $ fsplit ! $ place_had ! at.ptr us
      (λ f. fsplit ! $ fsplit ! $ feq_l !
      (λ g. flt_l ! (λ fits. fsplit ! $ handle_tells E.al ! h vs (λ hv k fa. keep ! (2 ∷ 3 ∷ 4 ∷ 0 ∷ []) $
      by ! (subst (λ (ws : List Val × List Val × List Val × List Val). ent 𝓤 (⋆ 𝓛 (Had hv))
      (WpFn 𝓤 H C Λ (function E) (ws.0 ++ (ws.1 ++ (ws.2 ++ (ws.3 ++ [])))) Post))
      (λ j. (sym e j, sym f j, sym g j, sym k j)) (walk e fits asked.0 asked.1 hv fa)))))))

meets : (E : Bx) {M : Type 1} {𝓤 : Ura M} (𝓛 : Logic 𝓤) (𝓣 : Tables 𝓤 𝓛.H)
    → Meets 𝓛 (ended E).signature (WpFn 𝓤 𝓛.H 𝓣.C 𝓣.Λ (function E)) (closing 𝓛 (ended E) (spec E 𝓛))
meets E {𝓤 = 𝓤} 𝓛 𝓣 =
    walk_Meets 𝓛 (ended E) (stayed E) (
      Goes-ref 𝓛 1 0 tt (plain (λ _. Nr E)),
      (
        Goes-dropped 𝓛 1 (plain (λ _. Pl.the_row)) no (λ κs x f. refl),
        (
          Goes-dropped 𝓛 1 (plain (λ _. usize)) no (λ κs x f. refl),
          (Goes-dropped 𝓛 1 (plain (λ _. P E)) no (λ κs x f. refl), tt),
        ),
      ),
    ) (spec E 𝓛) (WpFn 𝓤 𝓛.H 𝓣.C 𝓣.Λ (function E))
    (WpFn-mono 𝓤 𝓛.H 𝓛.laws 𝓣 (function E))
    (λ z. let a = z.0.3 in
    let vss = z.0.4 in two_needs 𝓤 (IsAt a.0.now.nodes a.1.1.0 a.1.0.ptr) (a.1.1.1.0 ≡ a.0.now.alloc) _
    (entry E 𝓛 𝓣.C 𝓣.Λ z.0.0.0 z.0.1.0 a.0.ref_ptr.0 a.0.ref_ptr.1 a.0.ghost_name a.0.now a.1.0 a.1.1.0 a.1.1.1.0 vss.0
    vss.1.0 vss.1.1.0 vss.1.1.1.0))

pub take_spec : {M : Type 1} → stated.statement M
unfolding tables_of
take_spec 𝓤 𝓛 𝓜 𝓡 wired Y Z L LZ g d dd met md y =
    let E : Bx = record { row = Y; laws = L; al = record { row = Z; laws = LZ; g = g; d = d; drops = dd } } in
    let A = 𝓛.A in
    let 𝓣 : Tables 𝓤 𝓛.H = tables_of 𝓤 𝓛.H 𝓜 (tables 𝓤 𝓛.H 𝓜 𝓡 𝓡.env) in
    let k = #self (args E) in
    spared 𝓛 (ended E).signature (𝓡.run (𝓡.env k)) (run_framed 𝓤 𝓛.H 𝓜 𝓡 (𝓡.env k)) 2 (Y.lives, (Z.lives, tt))
    (closing 𝓛 (ended E) (spec E 𝓛))
    (entered 𝓤 𝓛.H (triple_of 𝓛 (ended E).signature (closing 𝓛 (ended E) (spec E 𝓛))) 𝓣.C 𝓣.Λ k (function E)
    (code.unfolded 𝓤 𝓛.H 𝓜 𝓡 wired (Y, (Z, tt)) d dd) (meets E 𝓛 𝓣))
    ((y.0.0, y.0.1, tt, y.0.3, y.0.4), y.1)
