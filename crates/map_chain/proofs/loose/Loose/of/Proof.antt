-- `of` takes a box apart: its memory stays, and the two halves go into the struct. Assumes `Logic`.
use Rattle.std.proofs.Common.{◌≡◌, List, [], ◌∷◌, ◌++◌, refl, sym, ap, ◌∙◌, subst}
use mir.Syntax.{a_type, dcons, dnil}
use mir.Raw.{raw as bare}
use mir.Val.{Val, vptr, vstruct, of_list}
use mir.MapTy.{inst_fn}
use base.Logic.{SProp, ent, emp, never, id⊢, fst∗}
use base.Fml.{Fml, ftrue, fsep, flft}
use prog.Wp.{WpFn}
use types.Logic.{sem}
use types.Kit.{‵, raw, ◌⊛◌, some, later, ◌$◌, ◌∵◌, !, qed, by, move, keep, drop, split, split3, join, fsplit, fjoin}
use types.Kit.{fpick, pick, suffices, use0, use1, await, rewrite, feq_l}
use types.Run.{stop, fld, of_opd, no_more, and_then, returns, enter}
use types.ByLocal.{alloc_all, pass_all, free_all, look_at, get, get_in, sets, lands_as}
use types.Part.{agg, sub, whole}
use contract.Monad.{fact, fact_i}
use contract.Running.{tables}
use denote.Exit.{no}
use denote.RattleType.{owns}
use denote.Signature.{types_at, plain}
use denote.Builtin.{RawPtr}
use denote.RawPtr.{Ptr, block_ptr, null_ptr, ptr_val, in_a_block}
use denote.Steps.{nothing, only, heard}
use denote.Param.{layout, bounded}
use denote.Struct.Tuple.{Tuple}
use denote.Triple.Spec.{triple_of}
use denote.Triple.Call.{calls_at}
use denote.Triple.Walked.{Stays, stay_dropped, walk_of}
use Rattle.core.proofs.alloc.Calls.{Goes-blank, handle_tells}
use Rattle.core.proofs.atomic.Steps.{fm}
use Rattle.std_alloc.specs.Box.Ownership.{box_owns}
use Rattle.std_alloc.proofs.BoxSteps.Form as form
use Rattle.std_alloc.proofs.BoxSteps.Steps.{box_out, box_in}
use Rattle.std.proofs.raw_atomic.Walks.{proved_at, leaves}
use Rattle.map_chain.proofs.Steps.{Way, boxed}
use Rattle.std_alloc.specs.contracts.boxed.Box.into_raw_with_allocator as halves
use Rattle.std_alloc.proofs.boxed.Box.into_raw_with_allocator.Met.{met}
use Rattle.map_chain.specs.contracts.loose.Loose.of.{ended, clauses}
use Rattle.map_chain.specs.contracts.loose.Loose.of.Key.{name as #self}
use Rattle.map_chain.proofs.loose.Loose.of.Statement.{statement}
use Rattle.map_chain.proofs.loose.Loose.of.Code as code

pub of_spec : {M : Type 1} → statement M
of_spec 𝓤 𝓛 𝓜 𝓡 wired Y Z L LZ g d dx dd allocator glue glued =
    let E : form.Bx = record { row = Y; laws = L; al = record { row = Z; laws = LZ; g = g; d = d; drops = dd } } in
    let passed = bounded (a_type ∷ a_type ∷ []) (Y, (Z, tt)) (dcons d (dcons dx (dcons dd dnil))) in
    let function = inst_fn passed code.function in
    let ends = ended Y Z g d dx dd in
    let terms = clauses Y Z g d dx dd 𝓛 𝓜.mem 𝓡.returns in
    let stays : Stays ends.signature.params ends.kept = (stay_dropped (plain (λ _. form.B E)) no, tt) in
    let 𝓣 = tables 𝓤 𝓛.H 𝓜 𝓡 𝓡.env in
    let call = triple_of 𝓛 (halves.signature Y Z g d dd dx) (halves.spec Y Z g d dd dx 𝓛 𝓜.mem 𝓡.returns) in
    let called = met 𝓤 𝓛 𝓜 𝓡
    (code.calls-std_alloc::boxed::Box::into_raw_with_allocator 𝓡.env wired) Y Z L LZ g d dd dx allocator glued glue in
    let Halves = Tuple (RawPtr ∷ form.P E ∷ []) in
    proved_at 𝓛 ends stays terms 𝓜 𝓡 (Goes-blank 𝓛 2 (plain (λ _. form.B E)) no (λ κs x f. tt), tt)
    (#self passed) function (code.unfolded 𝓤 𝓛.H 𝓜 𝓡 wired (Y, (Z, tt)) d dx dd) (λ z are.
    let boxed_up = z.0.3.0 in
    let handle = boxed_up.alloc in
    let node = boxed_up.value in
    let Post : Val → SProp 𝓤 = (walk_of 𝓛 ends stays terms).post z in
    let Run : List Val → SProp 𝓤 = λ ws. WpFn 𝓤 𝓛.H 𝓣.C 𝓣.Λ function ws Post in
    let alive = ‵ (flft z.0.0.0 z.0.1.0) ⊛ ‵ (flft z.0.0.1.0 z.0.1.1.0) ⊛ ‵ ftrue in
    let Memory : Ptr → Fml = λ p. box_owns (g.dealloc_token handle) (form.R E) p node in
    -- the box by value
    qed 𝓛 ((alive ⊛ ‵ (owns (types_at ends.signature.params z.0.0) z.0.3 z.0.4)) ∷ raw
    ((terms z.0.0 z.0.3).requires z.1) ∷ []) ∵ split ! $ move ! (1 ∷ []) $ fsplit ! $
    box_out E ! boxed_up z.0.4.0 (λ b o hv at is fits.
    box_in E ! boxed_up b o node at refl $
    let whole_box : Val = form.word E hv b o in
    let given : call.Ghost = ((z.0.0, z.0.1, tt, (boxed_up, tt), (whole_box ∷ [], tt)), tt) in
    fjoin ! $ move ! (1 ∷ 0 ∷ []) $ join ! $ join ! $ use1 𝓛 (raw (call.pre given)) (id⊢ 𝓤 _) $
    suffices ! (Run (whole_box ∷ []))
    (subst (λ (us : List Val). ent 𝓤 (Run (whole_box ∷ [])) (Run us)) (λ i. sym is i ++ [])
    (id⊢ 𝓤 (Run (whole_box ∷ [])))) $
    -- the call
    enter ! 𝓣.C 𝓣.Λ function (whole_box ∷ []) Post $ alloc_all !
    (λ l. pass_all ! refl (form.box_typed E hv b o fits, tt) $
    sets ! (of_opd ! (get ! refl)) refl (form.box_typed E hv b o fits) $
    calls_at ! (fm 𝓛 𝓜 𝓡) call called given (and_then ! (get ! refl) (no_more !)) (λ u.
    use1 𝓛 (later (some (λ (r : Ptr × Z.Denot). (alive ⊛ ‵ (Halves.own_val r (u ∷ []))) ⊛ some
    (λ (_ : (Unit {0} × (Unit {0} × Unit {0})) × Unit {0}).
    ‵ (fsep (fsep ftrue (fsep ftrue ftrue)) ftrue) ⊛ (raw (fact 𝓤 (r.1 ≡ handle)) ⊛ ‵ (Memory r.0)))))) (id⊢ 𝓤 _) $
    await ! tt $ pick ! (λ r. split ! $ move ! (1 ∷ []) $ pick !
    (λ _. split3 ! $ drop ! $ heard ! (r.1 ≡ handle) (λ same.
    -- the memory lies in a block, and the two halves are its pointer and the handle
    in_a_block ! r.0 Memory (fst∗ 𝓤 (never 𝓤) (sem 𝓛 (g.dealloc_token handle (bare (layout Y)) null_ptr))) (λ b' o' at'.
    move ! (1 ∷ []) $ split ! $ move ! (1 ∷ []) $ fpick !
    (λ vss. fsplit ! $ feq_l ! (λ whole_is. fsplit ! $ feq_l ! (λ first_is. fsplit ! $
    rewrite ! 0 (λ (a : Z.Denot). ‵ (Z.own_val a vss.1.0)) same refl $
    handle_tells E.al ! handle vss.1.0 (λ hv' second_is fits'.
    let typed = form.box_typed E hv' b' o' fits' in
    let first : vss.0 ≡ vptr b' o' ∷ [] = first_is ∙ ap (λ (p : Ptr). ptr_val p ∷ []) at' in
    let way : (Way E).Denot = record { at = block_ptr b' o'; alloc = handle; value = node } in
    lands_as ! (ap only (whole_is ∙ (λ i. vstruct (of_list (first i ++ (second_is i ++ []))) ∷ []))) refl typed $
    sets ! (of_opd ! (get_in ! (fld ! refl (stop !)) (sub ! 0 refl (whole !)))) refl (tt, tt) $
    sets ! (of_opd ! (get_in ! (fld ! refl (stop !)) (sub ! 1 refl (whole !)))) refl fits' $
    sets ! (of_opd ! (get ! refl)) refl fits' $
    sets ! (agg ! (and_then ! (get ! refl) (and_then ! (get ! refl) (no_more !)))) refl typed $
    -- the struct, and both of its clauses
    move ! (3 ∷ []) $ fsplit ! $ move ! (0 ∷ 1 ∷ 2 ∷ []) $ box_in E ! (boxed E way) b' o' node refl refl $
    use0 𝓛 (raw (fact 𝓤 (handle ≡ handle))) (fact_i 𝓤 (handle ≡ handle) (emp 𝓤) refl) $ use0 𝓛
    (raw (fact 𝓤 (node ≡ node))) (fact_i 𝓤 (node ≡ node) (emp 𝓤) refl) $ join ! $
    nothing ! $ nothing ! $ fjoin ! $
    returns ! (look_at ! 0 refl) $ free_all ! refl $ keep ! (4 ∷ 0 ∷ 2 ∷ 1 ∷ []) $
    by ! (leaves 𝓛 ends stays terms z (form.word E hv' b' o') way ((tt, (tt, tt)), tt) (tt, tt))))))))))))))
