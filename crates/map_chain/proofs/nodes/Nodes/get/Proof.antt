-- `get` shows a node that the nodes lend. Assumes `Logic`.
use mathlib.Core.Path.{◌≡◌, refl, sym, ap, subst}
use Prim.Native.Nat.{ℕ, ◌<◌, ◌^◌}
use mathlib.Core.List.{List, [], ◌∷◌, ◌++◌}
use seplogic.Ra.Ura.{Ura}
use mir.Syntax.{Fn, named, w64}
use mir.MapTy.{inst_fn}
use mir.Val.{Val, vint, vptr}
use base.Logic.{SProp, ent, never, fst∗}
use base.Fml.{Lft, Share, ftrue, flft}
use prog.Wp.{Env, Calls, Loops, WpFn, Tables}
use types.Logic.{Logic, sem}
use contract.Monad.{fact}
use contract.Running.{tables, tables_of}
use sound.WpLaws.{WpFn-mono}
use types.Kit.{Item, ⋆, ‵, ◌⊛◌, at_ret, ◌$◌, ◌∵◌, !, qed, by, move, keep, use1, drop, split, join, fsplit, fjoin, feq_i}
use types.Kit.{feq_l, flt_l, suffices, done}
use types.Part.{whole, sub}
use types.Run.{stop, fld, of_opd, addr, first, blocks, exec, returns, enter}
use types.ByLocal.{alloc_all, pass_all, free_all, look_at, get, get_in, through, sets, sets_last, is, env}
use denote.Exit.{yes, no}
use denote.RattleType.{owns}
use denote.Memory.{shared_of, hidden_shr}
use denote.RawPtr.{ptr_val, in_a_block}
use denote.Ref.{Bor, ShrRef}
use denote.Builtin.{RefOf, usize}
use denote.Signature.{plain}
use denote.Steps.{nothing}
use denote.Opens.{hide, unhide}
use denote.Triple.Carry.{spared}
use denote.Triple.Clauses.{Clauses, Ended, closing}
use denote.Triple.Entry.{on_entry}
use denote.Triple.Spec.{Meets, triple_of}
use denote.Triple.Table.{entered, run_framed}
use denote.Triple.Walked.{says, needs, Stays, stay_dropped, walk_of, ends_at, Goes-dropped, walk_Meets}
use denote.Struct.Lending.{lent_at}
use Rattle.std.specs.Prelude.{slice_get, Some}
use Rattle.std_alloc.proofs.VecSteps.Shapes.{after}
use Rattle.std_alloc.proofs.RcSteps.{word, word-Good}
use Rattle.std_alloc.proofs.BoxSteps.Form.{Bx, args, X, R}
use Rattle.map_chain.specs.Nodes.{IsAt}
use Rattle.map_chain.specs.declared.nodes.Place.{Place}
use Rattle.map_chain.specs.contracts.nodes.Place as Pl
use Rattle.map_chain.proofs.Steps.{node_of, D, Nr, lent_of, place_had}
use Rattle.map_chain.specs.contracts.nodes.Nodes.get.Key.{name as #self}
use Rattle.map_chain.proofs.nodes.Nodes.get.Statement as stated
use Rattle.map_chain.proofs.nodes.Nodes.get.Code as code

module _ (E : Bx) where
  abbrev function : Fn
  function = inst_fn (args E) code.function

  abbrev ended : Ended
  ended = record {
    signature = record {
      lifetimes = 1;
      outlives = [];
      params = RefOf (0 ∷ []) tt (plain (λ _. Nr E)) (λ _. tt) ∷ plain (λ _. Pl.the_row) ∷ plain (λ _. usize) ∷ [];
      result = RefOf (0 ∷ []) tt (plain (λ _. R E)) (λ _. tt);
    };
    kept = (yes, (no, (no, tt)));
  }

  abbrev stayed : Stays ended.signature.params ended.kept
  stayed = (
    stay_dropped (RefOf (0 ∷ []) tt (plain (λ _. Nr E)) (λ _. tt)) yes,
    (stay_dropped (plain (λ _. Pl.the_row)) no, (stay_dropped (plain (λ _. usize)) no, tt)),
  )

  abbrev spec : {M : Type 1} (𝓤 : Ura M) → Clauses 𝓤 ended
  spec 𝓤 κs a = record {
    ghost = Unit {0};
    requires = λ _. fact 𝓤 (IsAt a.0.now.nodes a.1.1.0 a.1.0.ptr);
    ensures = λ _ r _. fact 𝓤 (slice_get a.0.now.nodes a.1.1.0 ≡ Some (a.1.0.ptr, r.now));
  }

module _ (E : Bx) {M : Type 1} {𝓤 : Ura M} (𝓛 : Logic 𝓤) (C : Calls 𝓤 𝓛.H) (Λ : Loops 𝓤 𝓛.H) (κ : Lft) (q : Share)
    (b o : ℕ) (d : D E) (at : Place) (i : ℕ) (ps us vs : List Val) where
  open 𝓛 use {H}

  abbrev self : Bor (D E)
  self = record { ref_ptr = (b, o); now = d }

  abbrev bound : (walk_of 𝓛 (ended E) (stayed E) (spec E 𝓤)).Ghost
  bound = (((κ, tt), (q, tt), tt, (self, (at, (i, tt))), (ps, (us, (vs, tt)))), tt)

  abbrev Post : Val → SProp 𝓤
  Post = (walk_of 𝓛 (ended E) (stayed E) (spec E 𝓤)).post bound

  abbrev Had : List (Item 𝓤)
  Had = ‵ (hidden_shr (Nr E) κ d b o) ∷ ‵ (flft κ q) ∷ []

  walk : i < 2 ^ 64 → IsAt d.nodes i at.ptr
      → ent 𝓤 (⋆ 𝓛 Had) (WpFn 𝓤 H C Λ (function E) (vptr b o ∷ word at.ptr ∷ vint w64 i ∷ []) Post)
  walk fits asked =
      let found = node_of d.nodes i at.ptr asked in
      let x : X E = found.0 in
      qed 𝓛 Had ∵ enter ! C Λ (function E) (vptr b o ∷ word at.ptr ∷ vint w64 i ∷ []) _ $
      alloc_all ! (λ l. pass_all ! refl
      ((tt, tt), (word-Good Pl.the_type.name at.ptr, ((tt, record { fits = fits }), tt))) $
      let En : Env 𝓤 H = env (function E).locals l in
      unhide ! $ fsplit ! $ move ! (1 ∷ []) $
      use1 𝓛 (‵ (lent_at (R E) at.ptr x κ)) (lent_of 𝓛 (R E) κ d.nodes i at.ptr x found.1) $
      in_a_block ! at.ptr (λ p. lent_at (R E) p x κ) (fst∗ 𝓤 (never 𝓤) (sem 𝓛 (shared_of (R E) x 0 0 κ)))
      (λ nb no e. fsplit ! $ drop ! $ hide ! $
      -- [a `&` to the node; one to the owner's field; the token]
      let r : Val = vptr nb no in
      sets ! (is ! (of_opd ! (get_in ! (fld ! refl (stop !)) (sub ! 0 refl (whole !)))) (ap ptr_val e)) refl
      (tt, tt) $ first ! $ blocks ! $
      sets_last ! (addr ! (through ! refl (stop !))) refl (tt, tt) $ exec ! C Λ En (after 2 (function E).body)
      (at_ret En Post) $ sets ! (of_opd ! (get ! refl)) refl (tt, tt) $
      feq_i ! (List Val) (r ∷ []) (r ∷ []) refl $ fjoin ! $ returns ! (look_at ! 0 refl) $ free_all ! refl $ keep !
      (0 ∷ 2 ∷ []) $
      suffices ! _ (ends_at 𝓛 (ended E) (stayed E) (spec E 𝓤) bound r (record { ref_ptr = (nb, no); now = x })
      (tt, (tt, (tt, tt))) (tt, (tt, (tt, tt)))) $ says ! found.1 $
      nothing ! $ nothing ! $ fjoin ! $ nothing ! $ fjoin ! $ nothing ! $ fjoin ! $ join ! $ nothing ! $ move !
      (2 ∷ 0 ∷ []) $ join ! $ join ! $ done !))

  entry : IsAt d.nodes i at.ptr
      → ent 𝓤 (on_entry 𝓛 (ended E).signature (κ, tt) (q, tt) (self, (at, (i, tt))) (ps, (us, (vs, tt))))
      (WpFn 𝓤 H C Λ (function E) (ps ++ (us ++ (vs ++ []))) Post)
  entry asked =
      qed 𝓛 ((‵ (flft κ q) ⊛ ‵ ftrue) ∷ ‵
      (owns (ShrRef (named 0) κ (Nr E) ∷ Pl.the_row ∷ usize ∷ []) (self, (at, (i, tt)))
      (ps, (us, (vs, tt)))) ∷ []) ∵ split ! $ move ! (2 ∷ []) $ fsplit ! $ fsplit ! $ feq_l ! (λ e.
      move ! (1 ∷ []) $ fsplit ! $ place_had ! at.ptr us
      (λ f. fsplit ! $ fsplit ! $ feq_l ! (λ g. flt_l ! (λ fits. keep ! (1 ∷ 2 ∷ []) $
      by ! (subst (λ (ws : List Val × List Val × List Val). ent 𝓤 (⋆ 𝓛 Had)
      (WpFn 𝓤 H C Λ (function E) (ws.0 ++ (ws.1 ++ (ws.2 ++ []))) Post)) (λ j. (sym e j, sym f j, sym g j))
      (walk fits asked))))))

meets : (E : Bx) {M : Type 1} {𝓤 : Ura M} (𝓛 : Logic 𝓤) (𝓣 : Tables 𝓤 𝓛.H)
    → Meets 𝓛 (ended E).signature (WpFn 𝓤 𝓛.H 𝓣.C 𝓣.Λ (function E)) (closing 𝓛 (ended E) (spec E 𝓤))
meets E {𝓤 = 𝓤} 𝓛 𝓣 =
    walk_Meets 𝓛 (ended E) (stayed E) (
      Goes-dropped 𝓛 1 (RefOf (0 ∷ []) tt (plain (λ _. Nr E)) (λ _. tt)) yes (λ κs x f. refl),
      (
        Goes-dropped 𝓛 1 (plain (λ _. Pl.the_row)) no (λ κs x f. refl),
        (Goes-dropped 𝓛 1 (plain (λ _. usize)) no (λ κs x f. refl), tt),
      ),
    ) (spec E 𝓤) (WpFn 𝓤 𝓛.H 𝓣.C 𝓣.Λ (function E))
    (WpFn-mono 𝓤 𝓛.H 𝓛.laws 𝓣 (function E))
    (λ z. let a = z.0.3 in
    let vss = z.0.4 in needs 𝓤 (IsAt a.0.now.nodes a.1.1.0 a.1.0.ptr) _
    (entry E 𝓛 𝓣.C 𝓣.Λ z.0.0.0 z.0.1.0 a.0.ref_ptr.0 a.0.ref_ptr.1 a.0.now a.1.0 a.1.1.0 vss.0 vss.1.0 vss.1.1.0))

pub get_spec : {M : Type 1} → stated.statement M
unfolding tables_of
get_spec 𝓤 𝓛 𝓜 𝓡 wired Y Z L LZ g d dd met md y =
    let E : Bx = record { row = Y; laws = L; al = record { row = Z; laws = LZ; g = g; d = d; drops = dd } } in
    let A = 𝓛.A in
    let 𝓣 : Tables 𝓤 𝓛.H = tables_of 𝓤 𝓛.H 𝓜 (tables 𝓤 𝓛.H 𝓜 𝓡 𝓡.env) in
    let k = #self (args E) in
    spared 𝓛 (ended E).signature (𝓡.run (𝓡.env k)) (run_framed 𝓤 𝓛.H 𝓜 𝓡 (𝓡.env k)) 2 (Y.lives, (Z.lives, tt))
    (closing 𝓛 (ended E) (spec E 𝓤))
    (entered 𝓤 𝓛.H (triple_of 𝓛 (ended E).signature (closing 𝓛 (ended E) (spec E 𝓤))) 𝓣.C 𝓣.Λ k (function E)
    (code.unfolded 𝓤 𝓛.H 𝓜 𝓡 wired (Y, (Z, tt)) d dd) (meets E 𝓛 𝓣))
    ((y.0.0, y.0.1, tt, y.0.3, y.0.4), y.1)
