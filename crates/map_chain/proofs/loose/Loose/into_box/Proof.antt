-- `into_box` puts the two halves together again over the memory. Assumes `Logic`.
use Rattle.std.proofs.Common.{◌≡◌, List, [], ◌∷◌, ◌++◌, refl, sym, ap, subst}
use mir.Syntax.{a_type, dcons, dnil}
use mir.Val.{Val, vptr}
use mir.MapTy.{inst_fn}
use base.Logic.{SProp, ent, id⊢}
use base.Fml.{ftrue, flft}
use prog.Wp.{WpFn}
use types.Kit.{‵, raw, ◌⊛◌, some, later, at_ret, ◌$◌, ◌∵◌, !, qed, by, move, keep, drop, split, split3, join, fsplit}
use types.Kit.{fjoin, pick, suffices, use1, await, rewrite, feq_i}
use types.Run.{stop, fld, of_opd, no_more, and_then, first, blocks, exec, returns, enter}
use types.ByLocal.{alloc_all, pass_all, free_all, look_at, get, get_in, sets, lands_last, env}
use types.Part.{sub, whole}
use contract.Monad.{fact}
use contract.BorrowLft.{◌⊑◌}
use contract.Running.{tables}
use denote.Exit.{no}
use denote.RattleType.{owns}
use denote.Signature.{types_at, plain}
use denote.RawPtr.{block_ptr}
use denote.Steps.{nothing, only}
use denote.Param.{layout, bounded}
use denote.Triple.Clauses.{Lasts, lasts}
use denote.Triple.Spec.{triple_of}
use denote.Triple.Call.{calls_at_last}
use denote.Triple.Walked.{Stays, stay_dropped, walk_of}
use Rattle.core.proofs.alloc.Calls.{Goes-blank}
use Rattle.core.proofs.alloc.Shapes.{after}
use Rattle.core.proofs.atomic.Steps.{fm}
use Rattle.core.proofs.cell.Inside.{Good}
use Rattle.std_alloc.proofs.BoxSteps.Form as form
use Rattle.std_alloc.proofs.BoxSteps.Steps.{box_out, box_in}
use Rattle.std.proofs.raw_atomic.Walks.{proved_at, leaves}
use Rattle.map_chain.proofs.Steps.{Way, boxed}
use Rattle.std_alloc.specs.contracts.boxed.Box.from_raw as whole_from
use Rattle.std_alloc.proofs.boxed.Box.from_raw.Met.{met}
use Rattle.map_chain.specs.contracts.loose.Loose.into_box.{ended, clauses}
use Rattle.map_chain.specs.contracts.loose.Loose.into_box.Key.{name as #self}
use Rattle.map_chain.proofs.loose.Loose.into_box.Statement.{statement}
use Rattle.map_chain.proofs.loose.Loose.into_box.Code as code

pub into_box_spec : {M : Type 1} → statement M
into_box_spec 𝓤 𝓛 𝓜 𝓡 wired Y Z L LZ g d dx dd allocator glue glued =
    let E : form.Bx = record { row = Y; laws = L; al = record { row = Z; laws = LZ; g = g; d = d; drops = dd } } in
    let passed = bounded (a_type ∷ a_type ∷ []) (Y, (Z, tt)) (dcons d (dcons dx (dcons dd dnil))) in
    let function = inst_fn passed code.function in
    let ends = ended Y Z g d dx dd in
    let terms = clauses Y Z g d dx dd 𝓛 𝓜.mem 𝓡.returns in
    let stays : Stays ends.signature.params ends.kept = (stay_dropped (plain (λ _. Way E)) no, tt) in
    let 𝓣 = tables 𝓤 𝓛.H 𝓜 𝓡 𝓡.env in
    let call = triple_of 𝓛 (whole_from.signature Y Z g d dd) (whole_from.spec Y Z g d dd 𝓛 𝓜.mem 𝓡.returns) in
    let called = met 𝓤 𝓛 𝓜 𝓡 (code.calls-std_alloc::boxed::Box::from_raw 𝓡.env wired) Y Z L LZ g d dd allocator glued in
    let Boxed = form.B E in
    proved_at 𝓛 ends stays terms 𝓜 𝓡 (Goes-blank 𝓛 2 (plain (λ _. Way E)) no (λ κs x f. tt), tt) (#self passed) function
    (code.unfolded 𝓤 𝓛.H 𝓜 𝓡 wired (Y, (Z, tt)) d dx dd) (λ z are.
    let way = z.0.3.0 in
    let handle = way.alloc in
    let Post : Val → SProp 𝓤 = (walk_of 𝓛 ends stays terms).post z in
    let Run : List Val → SProp 𝓤 = λ ws. WpFn 𝓤 𝓛.H 𝓣.C 𝓣.Λ function ws Post in
    let alive = ‵ (flft z.0.0.0 z.0.1.0) ⊛ ‵ (flft z.0.0.1.0 z.0.1.1.0) ⊛ ‵ ftrue in
    -- the struct by value, and the memory that it owns
    qed 𝓛 ((alive ⊛ ‵ (owns (types_at ends.signature.params z.0.0) z.0.3 z.0.4)) ∷ raw
    ((terms z.0.0 z.0.3).requires z.1) ∷ []) ∵ split ! $ move ! (1 ∷ []) $ fsplit ! $
    box_out E ! (boxed E way) z.0.4.0 (λ b o hv at is fits. fjoin ! $ move ! (0 ∷ 1 ∷ []) $
    let two : Val = form.word E hv b o in
    let given : call.Ghost =
    ((z.0.0, z.0.1, tt, (handle, (block_ptr b o, tt)), (hv ∷ [], (vptr b o ∷ [], tt))), way.value) in
    move ! (4 ∷ []) $ use1 𝓛 (raw (fact 𝓤 (z.0.0.0 ⊑ Y.lives)) ⊛ raw (fact 𝓤 (z.0.0.1.0 ⊑ Z.lives)) ⊛ ‵ ftrue)
    (id⊢ 𝓤 _) $ split3 ! $ move ! (2 ∷ []) $ drop ! $ move ! (1 ∷ 2 ∷ []) $ join ! $ move ! (1 ∷ 0 ∷ []) $ join ! $
    move ! (2 ∷ []) $ feq_i ! (List Val) (vptr b o ∷ []) (vptr b o ∷ []) refl $ fjoin ! $ move !
    (2 ∷ 0 ∷ []) $ fjoin ! $ move ! (2 ∷ 0 ∷ []) $ join ! $ join ! $ use1 𝓛 (raw (call.pre given)) (id⊢ 𝓤 _) $
    suffices ! (Run (two ∷ []))
    (subst (λ (us : List Val). ent 𝓤 (Run (two ∷ [])) (Run us)) (λ i. sym is i ++ []) (id⊢ 𝓤 (Run (two ∷ [])))) $
    -- the call
    enter ! 𝓣.C 𝓣.Λ function (two ∷ []) Post $ alloc_all !
    (λ l. pass_all ! refl (form.box_typed E hv b o fits, tt) $ let slots = env function.locals l in
    sets ! (of_opd ! (get_in ! (fld ! refl (stop !)) (sub ! 0 refl (whole !)))) refl (tt, tt) $
    sets ! (of_opd ! (get_in ! (fld ! refl (stop !)) (sub ! 1 refl (whole !)))) refl fits $
    first ! $ blocks ! $ sets ! (of_opd ! (get ! refl)) refl fits $
    calls_at_last ! (fm 𝓛 𝓜 𝓡) call called given (and_then ! (get ! refl) (and_then ! (get ! refl) (no_more !))) (λ u.
    use1 𝓛 (later (some (λ (r : Boxed.Denot). (alive ⊛ ‵ (Boxed.own_val r (u ∷ []))) ⊛ some
    (λ (ls : Lasts (whole_from.ended Y Z g d dd) z.0.0 given.0.3).
    ‵ (lasts (whole_from.ended Y Z g d dd) z.0.0 given.0.3 ls) ⊛
    (raw (fact 𝓤 (r.value ≡ way.value)) ⊛ raw (fact 𝓤 (r.alloc ≡ handle))))))) (id⊢ 𝓤 (call.post given u)) $
    -- the box that it gives, by value
    await ! tt $ pick ! (λ r. split ! $ move ! (1 ∷ []) $ pick !
    (λ _. split3 ! $ drop ! $ move ! (2 ∷ []) $ split ! $ move ! (1 ∷ []) $
    box_out E ! r (u ∷ [])
    (λ b' o' hv' at' is' fits'. box_in E ! r b' o' r.value at' refl $ rewrite ! 0
    (λ (ws : List Val). ‵ (Boxed.own_val r ws)) (sym is') refl $
    let typed : Good (layout Boxed) u = subst (Good (layout Boxed)) (ap only (sym is'))
    (form.box_typed E hv' b' o' fits') in
    lands_last ! refl typed $ exec ! 𝓣.C 𝓣.Λ slots (after 3 function.body) (at_ret slots Post) $ sets !
    (of_opd ! (get ! refl)) refl typed $
    nothing ! $ nothing ! $ fjoin ! $ move ! (3 ∷ 4 ∷ []) $ join ! $
    returns ! (look_at ! 0 refl) $ free_all ! refl $ keep ! (3 ∷ 1 ∷ 2 ∷ 0 ∷ []) $
    by ! (leaves 𝓛 ends stays terms z u r ((tt, (tt, tt)), tt) (tt, tt)))))))))
