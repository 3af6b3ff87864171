-- `new` owns nothing yet. Assumes `Logic`.
use mathlib.Core.Path.{◌≡◌, refl, sym, subst}
use Prim.Native.Nat.{ℕ}
use mathlib.Core.List.{List, [], ◌∷◌, ◌++◌}
use seplogic.Ra.Ura.{Ura}
use mir.Syntax.{Fn, named}
use mir.MapTy.{inst_fn}
use mir.Val.{Val, vptr}
use base.Logic.{SProp, ent, emp, via, fst∗}
use base.Fml.{Lft, Share, ftrue, flft}
use prog.Wp.{Calls, Loops, WpFn, Tables}
use types.Logic.{Logic}
use contract.Monad.{fact}
use contract.Running.{tables, tables_of}
use sound.WpLaws.{WpFn-mono}
use types.Kit.{⋆, ‵, ◌⊛◌, ◌$◌, ◌∵◌, !, qed, by, move, keep, use0, split, join, fsplit, fjoin, feq_l, suffices, done}
use types.Part.{agg}
use types.Run.{and_then, no_more, returns, enter}
use types.ByLocal.{alloc_all, pass_all, free_all, look_at, get, sets}
use denote.Exit.{yes}
use denote.RattleType.{owns}
use denote.Ref.{Bor, ShrRef}
use denote.Builtin.{RefOf}
use denote.Signature.{plain}
use denote.Steps.{nothing}
use denote.Triple.Carry.{spared}
use denote.Triple.Clauses.{Clauses, Ended, closing}
use denote.Triple.Entry.{on_entry}
use denote.Triple.Spec.{Meets, triple_of}
use denote.Triple.Table.{entered, run_framed}
use denote.Triple.Walked.{says, Stays, stay_dropped, walk_of, ends_at, Goes-dropped, walk_Meets}
use Rattle.std_alloc.proofs.BoxSteps.Form.{Bx, args, P}
use Rattle.map_chain.proofs.Steps.{Hd, D, Nr, Mark, mark, mark_made}
use Rattle.map_chain.specs.contracts.nodes.Nodes.new.Key.{name as #self}
use Rattle.map_chain.proofs.nodes.Nodes.new.Statement as stated
use Rattle.map_chain.proofs.nodes.Nodes.new.Code as code

module _ (E : Bx) where
  abbrev function : Fn
  function = inst_fn (args E) code.function

  abbrev ended : Ended
  ended = record {
    signature = record {
      lifetimes = 1;
      outlives = [];
      params = RefOf (0 ∷ []) tt (plain (λ _. P E)) (λ _. tt) ∷ [];
      result = plain (λ _. Nr E);
    };
    kept = (yes, tt);
  }

  abbrev stayed : Stays ended.signature.params ended.kept
  stayed = (stay_dropped (RefOf (0 ∷ []) tt (plain (λ _. P E)) (λ _. tt)) yes, tt)

  abbrev Gives : Hd E → D E → Type 0
  Gives h r = (r.alloc ≡ h) × (r.nodes ≡ [])

  abbrev spec : {M : Type 1} {𝓤 : Ura M} (𝓛 : Logic 𝓤) → Clauses 𝓤 ended
  spec {𝓤 = 𝓤} 𝓛 κs a = record { ghost = Unit {0}; requires = λ _. emp 𝓤; ensures = λ _ r _. fact 𝓤 (Gives a.0.now r) }

module _ (E : Bx) {M : Type 1} {𝓤 : Ura M} (𝓛 : Logic 𝓤) (C : Calls 𝓤 𝓛.H) (Λ : Loops 𝓤 𝓛.H) (κ : Lft) (q : Share)
    (b o : ℕ) (h : Hd E) (ps : List Val) where
  open 𝓛 use {H}

  abbrev heap : Bor (Hd E)
  heap = record { ref_ptr = (b, o); now = h }

  abbrev bound : (walk_of 𝓛 (ended E) (stayed E) (spec E 𝓛)).Ghost
  bound = (((κ, tt), (q, tt), tt, (heap, tt), (ps, tt)), tt)

  abbrev Post : Val → SProp 𝓤
  Post = (walk_of 𝓛 (ended E) (stayed E) (spec E 𝓛)).post bound

  walk : ent 𝓤 (⋆ 𝓛 (‵ (flft κ q) ∷ [])) (WpFn 𝓤 H C Λ (function E) (vptr b o ∷ []) Post)
  walk =
      let out : D E = record { mark = record {}; alloc = h; nodes = [] } in
      qed 𝓛 (‵ (flft κ q) ∷ []) ∵ enter ! C Λ (function E) (vptr b o ∷ []) _ $ alloc_all !
      (λ l. pass_all ! refl ((tt, tt), tt) $
      sets ! (agg ! (no_more !)) refl (tt, tt) $ sets ! (agg ! (and_then ! (get ! refl) (no_more !))) refl
      (tt, (tt, tt)) $
      returns ! (look_at ! 0 refl) $ free_all ! refl $
      nothing ! $ use0 𝓛 (‵ ((Mark E).own_val (tt, tt) (mark ∷ []))) (mark_made E 𝓛) $ fjoin ! $
      -- [the owner of no nodes; the token]
      suffices ! _ (ends_at 𝓛 (ended E) (stayed E) (spec E 𝓛) bound mark out (tt, tt) (tt, tt)) $ says ! (refl, refl) $
      nothing ! $ nothing ! $ fjoin ! $ join ! $ nothing ! $ move ! (2 ∷ 0 ∷ []) $ join ! $ join ! $ done !)

  entry : ent 𝓤 (on_entry 𝓛 (ended E).signature (κ, tt) (q, tt) (heap, tt) (ps, tt))
      (WpFn 𝓤 H C Λ (function E) (ps ++ []) Post)
  entry =
      qed 𝓛 ((‵ (flft κ q) ⊛ ‵ ftrue) ∷ ‵
      (owns (ShrRef (named 0) κ (P E) ∷ []) (heap, tt) (ps, tt)) ∷ []) ∵ split ! $ move !
      (2 ∷ []) $ fsplit ! $ fsplit ! $ feq_l ! (λ e. keep ! (2 ∷ []) $
      by ! (subst (λ (ws : List Val). ent 𝓤 (⋆ 𝓛 (‵ (flft κ q) ∷ [])) (WpFn 𝓤 H C Λ (function E) (ws ++ []) Post))
      (sym e) walk))

meets : (E : Bx) {M : Type 1} {𝓤 : Ura M} (𝓛 : Logic 𝓤) (𝓣 : Tables 𝓤 𝓛.H)
    → Meets 𝓛 (ended E).signature (WpFn 𝓤 𝓛.H 𝓣.C 𝓣.Λ (function E)) (closing 𝓛 (ended E) (spec E 𝓛))
meets E {𝓤 = 𝓤} 𝓛 𝓣 =
    walk_Meets 𝓛 (ended E) (stayed E)
    (Goes-dropped 𝓛 1 (RefOf (0 ∷ []) tt (plain (λ _. P E)) (λ _. tt)) yes (λ κs x f. refl), tt) (spec E 𝓛)
    (WpFn 𝓤 𝓛.H 𝓣.C 𝓣.Λ (function E)) (WpFn-mono 𝓤 𝓛.H 𝓛.laws 𝓣 (function E))
    (λ z. let a = z.0.3.0 in
    via 𝓤 _ (fst∗ 𝓤 _ (emp 𝓤)) (entry E 𝓛 𝓣.C 𝓣.Λ z.0.0.0 z.0.1.0 a.ref_ptr.0 a.ref_ptr.1 a.now z.0.4.0))

pub new_spec : {M : Type 1} → stated.statement M
unfolding tables_of
new_spec 𝓤 𝓛 𝓜 𝓡 wired Y Z L LZ g d dd met md y =
    let E : Bx = record { row = Y; laws = L; al = record { row = Z; laws = LZ; g = g; d = d; drops = dd } } in
    let A = 𝓛.A in
    let 𝓣 : Tables 𝓤 𝓛.H = tables_of 𝓤 𝓛.H 𝓜 (tables 𝓤 𝓛.H 𝓜 𝓡 𝓡.env) in
    let k = #self (args E) in
    spared 𝓛 (ended E).signature (𝓡.run (𝓡.env k)) (run_framed 𝓤 𝓛.H 𝓜 𝓡 (𝓡.env k)) 2 (Y.lives, (Z.lives, tt))
    (closing 𝓛 (ended E) (spec E 𝓛))
    (entered 𝓤 𝓛.H (triple_of 𝓛 (ended E).signature (closing 𝓛 (ended E) (spec E 𝓛))) 𝓣.C 𝓣.Λ k (function E)
    (code.unfolded 𝓤 𝓛.H 𝓜 𝓡 wired (Y, (Z, tt)) d dd) (meets E 𝓛 𝓣))
    ((y.0.0, y.0.1, tt, y.0.3, y.0.4), y.1)
