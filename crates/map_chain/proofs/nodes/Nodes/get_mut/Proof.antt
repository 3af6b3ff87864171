-- `get_mut` lends a node, and the nodes follow it. Assumes `Logic`.
use mathlib.Core.Path.{◌≡◌, refl, sym, ap, subst}
use Prim.Native.Nat.{ℕ, ◌<◌, ◌^◌}
use mathlib.Core.List.{List, [], ◌∷◌, ◌++◌}
use seplogic.Ra.Ura.{Ura}
use base.Fraction.{full_share}
use mir.Syntax.{Fn, named, w64}
use mir.MapTy.{inst_fn}
use mir.Raw.{raw as bare}
use mir.Val.{Val, vint, vptr}
use base.Logic.{SProp, ent, sep, never, fst∗}
use base.Fml.{Lft, GName, Share, Fml, ftrue, fsep, flft, fobs, fbor}
use prog.Wp.{Env, Calls, Loops, WpFn, Tables}
use types.Logic.{Logic, sem}
use contract.Monad.{fact}
use contract.Running.{tables, tables_of}
use sound.WpLaws.{WpFn-mono}
use types.Kit.{Item, ⋆, ‵, raw, ◌⊛◌, some, later, await, pick, at_ret, ◌$◌, ◌∵◌, !, qed, by, move, keep, use1, use2}
use types.Kit.{split, join, group, rewrite, fsplit, fsplit3, fjoin, fjoin3, fpack, feq_l, flt_l, suffices, frame, done}
use types.Part.{whole, sub}
use types.Run.{stop, fld, of_opd, addr, first, blocks, exec, returns, enter}
use types.ByLocal.{alloc_all, pass_all, free_all, look_at, get, get_in, through, sets, sets_last, is, env}
use types.SemTy.{Body as Borrowed}
use denote.Exit.{no}
use denote.RattleType.{owns}
use denote.Memory.{cell_at, part_at, part_of, mem, lone}
use denote.RawPtr.{Ptr, block_ptr, null_ptr, ptr_val, in_a_block}
use denote.Ref.{MutBor, MutRef}
use denote.Builtin.{RefMutOf, usize}
use denote.Signature.{plain, mut_ref_to}
use denote.Steps.{nothing, opens}
use denote.Follow.{follows, Part, lends_Part}
use denote.Triple.Carry.{spared}
use denote.Triple.Clauses.{Clauses, Ended, closing}
use denote.Triple.Entry.{on_entry}
use denote.Triple.Spec.{Meets, triple_of}
use denote.Triple.Table.{entered, run_framed}
use denote.Triple.Walked.{says, needs, Stays, stay_dropped, walk_of, ends_at, Goes-dropped, Goes-spent_ref, walk_Meets}
use Rattle.std.specs.Prelude.{slice_get, remove, Some}
use Rattle.core.proofs.alloc.Calls.{token}
use Rattle.std_alloc.proofs.VecSteps.Shapes.{after}
use Rattle.std_alloc.proofs.RcSteps.{word, word-Good}
use Rattle.std_alloc.proofs.BoxSteps.Form.{Bx, args, X, R}
use Rattle.map_chain.specs.Nodes.{IsAt}
use Rattle.map_chain.specs.Lends.{with_node}
use Rattle.map_chain.specs.declared.nodes.Place.{Place}
use Rattle.map_chain.specs.contracts.nodes.Place as Pl
use Rattle.map_chain.proofs.Steps.{D, Nr, Mark, Held, One, node_of, held_out, held_in, place_had}
use Rattle.map_chain.specs.contracts.nodes.Nodes.get_mut.Key.{name as #self}
use Rattle.map_chain.proofs.nodes.Nodes.get_mut.Statement as stated
use Rattle.map_chain.proofs.nodes.Nodes.get_mut.Code as code

module _ (E : Bx) where
  abbrev function : Fn
  function = inst_fn (args E) code.function

  abbrev ended : Ended
  ended = record {
    signature = record {
      lifetimes = 1;
      outlives = [];
      params = RefMutOf (0 ∷ []) tt (plain (λ _. Nr E)) (λ _. tt) ∷ plain (λ _. Pl.the_row) ∷ plain (λ _. usize) ∷ [];
      result = RefMutOf (0 ∷ []) tt (plain (λ _. R E)) (λ _. tt);
    };
    kept = (no, (no, (no, tt)));
  }

  abbrev stayed : Stays ended.signature.params ended.kept
  stayed = (
    stay_dropped (mut_ref_to (0 ∷ []) tt (plain (λ _. Nr E))) no,
    (stay_dropped (plain (λ _. Pl.the_row)) no, (stay_dropped (plain (λ _. usize)) no, tt)),
  )

  abbrev spec : {M : Type 1} {𝓤 : Ura M} (𝓛 : Logic 𝓤) → Clauses 𝓤 ended
  spec {𝓤 = 𝓤} 𝓛 κs a = record {
    ghost = Unit {0};
    requires = λ _. fact 𝓤 (IsAt a.0.now.nodes a.1.1.0 a.1.0.ptr);
    ensures = λ _ r _. sep 𝓤
        (sem 𝓛 (follows (Nr E) (R E) a.0.ghost_name r.ghost_name (with_node a.0.now a.1.1.0 a.1.0.ptr)))
        (fact 𝓤 (slice_get a.0.now.nodes a.1.1.0 ≡ Some (a.1.0.ptr, r.now)));
  }

module _ (E : Bx) {M : Type 1} {𝓤 : Ura M} (𝓛 : Logic 𝓤) (C : Calls 𝓤 𝓛.H) (Λ : Loops 𝓤 𝓛.H) (κ : Lft) (q : Share)
    (rb ro : ℕ) (γ : GName) (d : D E) (at : Place) (i : ℕ) (ps us vs : List Val) where
  open 𝓛 use {H, A}

  abbrev self : MutBor (D E)
  self = record { ref_ptr = (rb, ro); ghost_name = γ; now = d }

  abbrev bound : (walk_of 𝓛 (ended E) (stayed E) (spec E 𝓛)).Ghost
  bound = (((κ, tt), (q, tt), tt, (self, (at, (i, tt))), (ps, (us, (vs, tt)))), tt)

  abbrev Post : Val → SProp 𝓤
  Post = (walk_of 𝓛 (ended E) (stayed E) (spec E 𝓛)).post bound

  abbrev new : X E → D E
  new = with_node d i at.ptr

  abbrev others : Fml
  others = Held E d.alloc (remove d.nodes i)

  module _ (b o : ℕ) (ws : List Val) where
    -- all but the node's value
    abbrev Rest : Fml
    Rest = fsep (token E.al d.alloc (bare (lone (R E).mir)) (block_ptr b o))
        (fsep others (fsep ((Mark E).own_val (tt, tt) ws) (cell_at full_share (Nr E).mir ws rb ro)))

    back : (x : X E) → at.ptr ≡ block_ptr b o → slice_get d.nodes i ≡ Some (at.ptr, x)
        → (w : X E) → ent 𝓤 (sep 𝓤 (sem 𝓛 ((mem (R E)).own_at w b o)) (sem 𝓛 Rest))
        (sem 𝓛 ((mem (Nr E)).own_at (new w) rb ro))
    unfolding part_of
    back x e found w =
        qed 𝓛 (‵ (part_at (R E) full_share w b o) ∷ ‵ Rest ∷ []) ∵ move ! (1 ∷ []) $ fsplit3 ! $ move !
        (2 ∷ []) $ fsplit ! $
        -- [the field; the owner's cell; the token; the other nodes; the value]
        move ! (4 ∷ 2 ∷ []) $ fjoin ! $ rewrite ! 0 (λ (p : Ptr). ‵ (One E d.alloc p w)) (sym e) refl $ move !
        (0 ∷ 3 ∷ []) $
        use2 𝓛 (‵ (Held E d.alloc (new w).nodes)) (held_in E 𝓛 d.alloc d.nodes i at.ptr x w found) $ move !
        (1 ∷ 0 ∷ []) $ fjoin ! $ move ! (1 ∷ 0 ∷ []) $ fjoin ! $
        fpack ! (List Val) (λ us. fsep (cell_at full_share (Nr E).mir us rb ro) ((Nr E).own_val (new w) us)) ws $ done !

  exits : (b o : ℕ) (x : X E) → slice_get d.nodes i ≡ Some (at.ptr, x) → (δ : GName)
      → ent 𝓤 (sep 𝓤 (sem 𝓛
      ((MutRef (named 0) κ (R E)).own_val (record { ref_ptr = (b, o); ghost_name = δ; now = x }) (vptr b o ∷ [])))
      (sep 𝓤 (A.lft κ q) (sem 𝓛 (follows (Nr E) (R E) γ δ new)))) (Post (vptr b o))
  exits b o x found δ =
      qed 𝓛 (‵ ((MutRef (named 0) κ (R E)).own_val (record { ref_ptr = (b, o); ghost_name = δ; now = x })
      (vptr b o ∷ [])) ∷ ‵ (flft κ q) ∷ ‵ (follows (Nr E) (R E) γ δ new) ∷ []) ∵
      suffices ! _ (ends_at 𝓛 (ended E) (stayed E) (spec E 𝓛) bound (vptr b o)
      (record { ref_ptr = (b, o); ghost_name = δ; now = x }) (tt, (tt, (tt, tt))) (tt, (tt, (tt, tt)))) $
      nothing ! $ nothing ! $ fjoin ! $ nothing ! $ fjoin ! $ nothing ! $ fjoin ! $ join ! $ nothing ! $ move !
      (2 ∷ 0 ∷ []) $ join ! $ join ! $ frame ! $ says ! found $ done !

  abbrev Had : List (Item 𝓤)
  Had = ‵ (fobs γ ((Nr E).coded.code d)) ∷ ‵ (fbor κ (Borrowed (mem (Nr E)) rb ro γ)) ∷ ‵ (flft κ q) ∷ []

  walk : i < 2 ^ 64 → IsAt d.nodes i at.ptr
      → ent 𝓤 (⋆ 𝓛 Had) (WpFn 𝓤 H C Λ (function E) (vptr rb ro ∷ word at.ptr ∷ vint w64 i ∷ []) Post)
  walk fits asked =
      let found = node_of d.nodes i at.ptr asked in
      let x : X E = found.0 in
      qed 𝓛 Had ∵ enter ! C Λ (function E) (vptr rb ro ∷ word at.ptr ∷ vint w64 i ∷ []) _ $
      alloc_all ! (λ l. pass_all ! refl
      ((tt, tt), (word-Good Pl.the_type.name at.ptr, ((tt, record { fits = fits }), tt))) $
      let En : Env 𝓤 H = env (function E).locals l in
      opens ! tt (Nr E) {h = d} rb ro (λ ws. move ! (1 ∷ []) $ fsplit ! $ move ! (1 ∷ []) $
      use1 𝓛 (‵ (One E d.alloc at.ptr x) ⊛ ‵ others) (held_out E 𝓛 d.alloc d.nodes i at.ptr x found.1) $ split ! $
      in_a_block ! at.ptr (λ p. One E d.alloc p x)
      (fst∗ 𝓤 (never 𝓤) (sem 𝓛 (token E.al d.alloc (bare (lone (R E).mir)) null_ptr))) (λ b o e. fsplit ! $
      let now = (Nr E).coded.code d in
      -- [the value; its token; the other nodes; the field; the owner's cell; the open borrow, in three]
      sets ! (is ! (of_opd ! (get_in ! (fld ! refl (stop !)) (sub ! 0 refl (whole !)))) (ap ptr_val e)) refl
      (tt, tt) $ first ! $ blocks ! $
      sets_last ! (addr ! (through ! refl (stop !))) refl (tt, tt) $ exec ! C Λ En (after 2 (function E).body)
      (at_ret En Post) $ sets ! (of_opd ! (get ! refl)) refl (tt, tt) $
      move ! (3 ∷ 4 ∷ []) $ fjoin ! $ move ! (2 ∷ 3 ∷ 0 ∷ []) $ fjoin3 ! $ move ! (2 ∷ 3 ∷ 4 ∷ 1 ∷ 0 ∷ []) $ group ! 5 $
      use1 𝓛 (later (some (λ (δ : GName). raw
      (Part 𝓛 (Nr E) (R E) new (named 0) κ q rb ro b o γ (sem 𝓛 (Rest b o ws)) (back b o ws x e found.1) x δ))))
      (lends_Part 𝓛 (Nr E) (R E) new (named 0) κ q rb ro b o γ (sem 𝓛 (Rest b o ws))
      (back b o ws x e found.1) now now x) $ await ! tt $ pick ! (λ δ.
      returns ! (look_at ! 0 refl) $ free_all ! refl $ keep ! (0 ∷ []) $ by ! (exits b o x found.1 δ)))))

  entry : IsAt d.nodes i at.ptr
      → ent 𝓤 (on_entry 𝓛 (ended E).signature (κ, tt) (q, tt) (self, (at, (i, tt))) (ps, (us, (vs, tt))))
      (WpFn 𝓤 H C Λ (function E) (ps ++ (us ++ (vs ++ []))) Post)
  entry asked =
      qed 𝓛 ((‵ (flft κ q) ⊛ ‵ ftrue) ∷ ‵
      (owns (MutRef (named 0) κ (Nr E) ∷ Pl.the_row ∷ usize ∷ []) (self, (at, (i, tt)))
      (ps, (us, (vs, tt)))) ∷ []) ∵ split ! $ move ! (2 ∷ []) $ fsplit ! $ fsplit3 ! $ feq_l ! (λ e.
      move ! (2 ∷ []) $ fsplit ! $ place_had ! at.ptr us
      (λ f. fsplit ! $ fsplit ! $ feq_l ! (λ g. flt_l ! (λ fits. keep ! (1 ∷ 2 ∷ 3 ∷ []) $
      by ! (subst (λ (ws : List Val × List Val × List Val). ent 𝓤 (⋆ 𝓛 Had)
      (WpFn 𝓤 H C Λ (function E) (ws.0 ++ (ws.1 ++ (ws.2 ++ []))) Post)) (λ j. (sym e j, sym f j, sym g j))
      (walk fits asked))))))

meets : (E : Bx) {M : Type 1} {𝓤 : Ura M} (𝓛 : Logic 𝓤) (𝓣 : Tables 𝓤 𝓛.H)
    → Meets 𝓛 (ended E).signature (WpFn 𝓤 𝓛.H 𝓣.C 𝓣.Λ (function E)) (closing 𝓛 (ended E) (spec E 𝓛))
meets E {𝓤 = 𝓤} 𝓛 𝓣 =
    walk_Meets 𝓛 (ended E) (stayed E) (
      Goes-spent_ref 𝓛 1 (0 ∷ []) tt (plain (λ _. Nr E)),
      (
        Goes-dropped 𝓛 1 (plain (λ _. Pl.the_row)) no (λ κs x f. refl),
        (Goes-dropped 𝓛 1 (plain (λ _. usize)) no (λ κs x f. refl), tt),
      ),
    ) (spec E 𝓛) (WpFn 𝓤 𝓛.H 𝓣.C 𝓣.Λ (function E))
    (WpFn-mono 𝓤 𝓛.H 𝓛.laws 𝓣 (function E))
    (λ z. let a = z.0.3 in
    let vss = z.0.4 in needs 𝓤 (IsAt a.0.now.nodes a.1.1.0 a.1.0.ptr) _
    (entry E 𝓛 𝓣.C 𝓣.Λ z.0.0.0 z.0.1.0 a.0.ref_ptr.0 a.0.ref_ptr.1 a.0.ghost_name a.0.now a.1.0 a.1.1.0 vss.0 vss.1.0
    vss.1.1.0))

pub get_mut_spec : {M : Type 1} → stated.statement M
unfolding tables_of
get_mut_spec 𝓤 𝓛 𝓜 𝓡 wired Y Z L LZ g d dd met md y =
    let E : Bx = record { row = Y; laws = L; al = record { row = Z; laws = LZ; g = g; d = d; drops = dd } } in
    let A = 𝓛.A in
    let 𝓣 : Tables 𝓤 𝓛.H = tables_of 𝓤 𝓛.H 𝓜 (tables 𝓤 𝓛.H 𝓜 𝓡 𝓡.env) in
    let k = #self (args E) in
    spared 𝓛 (ended E).signature (𝓡.run (𝓡.env k)) (run_framed 𝓤 𝓛.H 𝓜 𝓡 (𝓡.env k)) 2 (Y.lives, (Z.lives, tt))
    (closing 𝓛 (ended E) (spec E 𝓛))
    (entered 𝓤 𝓛.H (triple_of 𝓛 (ended E).signature (closing 𝓛 (ended E) (spec E 𝓛))) 𝓣.C 𝓣.Λ k (function E)
    (code.unfolded 𝓤 𝓛.H 𝓜 𝓡 wired (Y, (Z, tt)) d dd) (meets E 𝓛 𝓣))
    ((y.0.0, y.0.1, tt, y.0.3, y.0.4), y.1)
