-- What a pass has served stays so in a history that goes on without it.
use Rattle.std.proofs.Common.{◌≡◌, ℕ, ◌≤◌, inl, inr, List, [], ◌++◌, map, Option, Some, None, refl, sym, ap, subst, ◌∙◌}
use Rattle.std.proofs.Common.{append-nil}
use Rattle.std.specs.Option.{IfSome}
use Rattle.std.specs.List.{AllByRecursion}
use Rattle.std.proofs.lemmas.List.{append_cancel_left}
use Rattle.kom_types.specs.declared.acts.Record.{Record}
use Rattle.kom_links.specs.declared.served.Served.{Served}
use Rattle.kom_links.specs.Doors.{GateView}
use Rattle.kom_links.specs.Outside.{LinkView}
use Rattle.kom_links.specs.Records.{is_open}
use Rattle.kom_links.specs.Talk.{IsChosen}
use Rattle.kom_model.specs.State.{State}
use Rattle.kom_model.specs.Legal.{IsLegal, AreByOwners}
use Rattle.kom_state_lock.specs.Passes.{HallModel, PassModel, new_pass, HoldsNoTurn}
use Rattle.hall_desk.specs.Passes.{PassView, pass_view, of_pass}
use Rattle.hall_desk.specs.Desks.{Kept, Stands, GoesOn}
use Rattle.hall_desk.proofs.Starting.{IsStart, starts}
use Rattle.hall_desk.proofs.Histories.{of_pass-append}
use Rattle.hall_desk.proofs.Causes.{stopped_more}
use Rattle.kom_serving.specs.Runs.{Talks, sessions_of, IsOfOne, AllGivenBack, IsWorker, IsDone}
use Rattle.kom_serving.specs.Serving.{Serves}
use Rattle.kom_serving.specs.Workers.{HasServed}
use Rattle.kom_serving.proofs.Links.{all_map, lock_before, talks_on}

told_map : {X : Type 0} (P Q : X → Type 0) (told : Option X) → ((x : X) → P x → Q x) → IfSome told P → IfSome told Q
told_map P Q None turn before = tt
told_map P Q (Some x) turn before = turn x before

module _ {L : Type 0} (view : L → LinkView) (start : State) (begins : IsStart start) (number : ℕ)
    (history more mine : List Record) (drawn drawn' : ℕ) (legal : IsLegal start (history ++ more))
    (owned : AreByOwners start (history ++ more)) (mine_is : mine ≡ of_pass number history)
    (none : [] ≡ of_pass number more) (grown : drawn ≤ drawn') where
  lifted : (back : L × Served) → Talks start history mine drawn (view back.0) back.1 →
      Talks start (history ++ more) mine drawn' (view back.0) back.1
  lifted back talks =
      subst (λ (own : List Record). Talks start (history ++ more) own drawn' (view back.0) back.1) (append-nil mine)
      (talks_on start begins number history more mine [] drawn drawn' (view back.0) back.1 legal owned mine_is none
      grown tt talks)

  lifted_all : (returned : Option (List (L × Served))) →
      IfSome returned (λ links. AllByRecursion (λ back. Talks start history mine drawn (view back.0) back.1) links) →
      IfSome returned (λ links.
      AllByRecursion (λ back. Talks start (history ++ more) mine drawn' (view back.0) back.1) links)
  lifted_all returned talks =
      told_map (λ links. AllByRecursion (λ back. Talks start history mine drawn (view back.0) back.1) links)
      (λ links. AllByRecursion (λ back. Talks start (history ++ more) mine drawn' (view back.0) back.1) links)
      returned
      (λ links talks. all_map (λ back. Talks start history mine drawn (view back.0) back.1)
      (λ back. Talks start (history ++ more) mine drawn' (view back.0) back.1) links lifted talks)
      talks

-- a desk that made no act has served what it had
pub serves_on : {L : Type 0} (view : L → LinkView) (old new : Kept) (returned : Option (List (L × Served)))
    (gave : Option (List ℕ)) → GoesOn old new → new.pass.mine ≡ old.pass.mine → Stands new →
    Serves view old.start old.pass returned gave → Serves view new.start new.pass returned gave
serves_on {L} view old new returned gave on mine stands serves =
    let start : State = new.start in
    let begins : IsStart start = starts new.start stands.opening in
    let more : List Record = on.seen.0 in
    let number : ℕ = old.pass.number in
    let serves' : Serves view start old.pass returned gave =
    subst (λ (start : State). Serves view start old.pass returned gave) (sym on.start) serves in
    let none : [] ≡ of_pass number more =
    append_cancel_left old.pass.mine [] (of_pass number more)
    (append-nil old.pass.mine ∙ sym mine ∙ stands.knows.mine ∙ ap (λ (n : ℕ). of_pass n new.pass.seen) on.number
    ∙ ap (of_pass number) on.seen.1 ∙ of_pass-append number old.pass.seen more
    ∙ ap (λ (first : List Record). first ++ of_pass number more) (sym serves'.mine)) in
    record {
      mine = stands.knows.mine;
      talks = subst
          (λ (own : List Record). IfSome returned (λ links.
          AllByRecursion (λ back. Talks start new.pass.seen own new.pass.drawn (view back.0) back.1) links)) (sym mine)
          (subst
          (λ (seen : List Record). IfSome returned (λ links.
          AllByRecursion (λ back. Talks start seen old.pass.mine new.pass.drawn (view back.0) back.1) links))
          (sym on.seen.1)
          (lifted_all view start begins number old.pass.seen more old.pass.mine old.pass.drawn new.pass.drawn
          (subst (λ (seen : List Record). IsLegal start seen) on.seen.1 stands.knows.legal)
          (subst (λ (seen : List Record). AreByOwners start seen) on.seen.1 stands.knows.owned) serves'.mine none
          on.drawn returned serves'.talks));
      owned = subst
          (λ (own : List Record). IfSome returned (λ links. AllByRecursion (IsOfOne (sessions_of links)) own))
          (sym mine) serves'.owned;
      timed = subst
          (λ (own : List Record). IfSome gave (λ readings.
          IsChosen (map (λ (made : Record). made.entry.moment) own) readings)) (sym mine) serves'.timed;
      distinct = serves'.distinct;
      closed = λ free session.
          ap (is_open session) mine ∙ serves'.closed (lock_before old.pass.drawn new.pass.drawn on.drawn free) session;
    }

-- a gate that gave no link has as many back as before
pub serves_same : {L : Type 0} (view : L → LinkView) (start : State) (pass : PassView)
    (returned returned' : Option (List (L × Served))) (gave : Option (List ℕ)) → returned' ≡ returned →
    Serves view start pass returned gave → Serves view start pass returned' gave
serves_same {L} view start pass returned returned' gave same serves =
    subst (λ (returned : Option (List (L × Served))). Serves view start pass returned gave) (sym same) serves

-- What one pass served, in a history that went on without it.
pub worker_of : {L : Type 0} (view : L → LinkView) (start : State) → IsStart start → (history : List Record)
    (drawn number : ℕ) (pass : PassView) (more : List Record) (gate : GateView L) (gave : Option (List ℕ)) →
    IsLegal start history → AreByOwners start history → history ≡ pass.seen ++ more → pass.number ≡ number →
    pass.mine ≡ of_pass number history → pass.drawn ≤ drawn → Serves view start pass gate.returned gave →
    AllGivenBack gate → IsWorker view start history drawn number gate gave
worker_of {L} view start begins history drawn number pass more gate gave legal owned goes_on numbered mine grown serves
    back =
    let mine' : pass.mine ≡ of_pass number pass.seen =
    serves.mine ∙ ap (λ (n : ℕ). of_pass n pass.seen) numbered in
    let none : [] ≡ of_pass number more =
    append_cancel_left (of_pass number pass.seen) [] (of_pass number more)
    (append-nil (of_pass number pass.seen) ∙ sym mine' ∙ mine ∙ ap (of_pass number) goes_on
    ∙ of_pass-append number pass.seen more) in
    let all : IfSome gate.returned (λ links. AllByRecursion
    (λ back. Talks start (pass.seen ++ more) pass.mine drawn (view back.0) back.1) links) =
    lifted_all view start begins number pass.seen more pass.mine pass.drawn drawn
    (subst (λ (all : List Record). IsLegal start all) goes_on legal)
    (subst (λ (all : List Record). AreByOwners start all) goes_on owned) mine' none grown gate.returned serves.talks in
    record {
      given_back = back;
      talks = subst
          (λ (all : List Record). IfSome gate.returned (λ links. AllByRecursion
          (λ back. Talks start all (of_pass number history) drawn (view back.0) back.1) links)) (sym goes_on)
          (subst
          (λ (own : List Record). IfSome gate.returned (λ links. AllByRecursion
          (λ back. Talks start (pass.seen ++ more) own drawn (view back.0) back.1) links)) mine all);
      owned = subst
          (λ (mine : List Record). IfSome gate.returned (λ links.
          AllByRecursion (IsOfOne (sessions_of links)) mine)) mine serves.owned;
      timed = subst
          (λ (mine : List Record). IfSome gave (λ readings.
          IsChosen (map (λ (made : Record). made.entry.moment) mine) readings)) mine serves.timed;
    }

-- a gate that was done still is
pub done_on : {L : Type 0} (start : State) (history more : List Record) (gate : GateView L) →
    IsDone start history gate → IsDone start (history ++ more) gate
done_on start history more gate (inl failed) = inl failed
done_on start history more gate (inr (inl ended)) = inr (inl ended)
done_on start history more gate (inr (inr stopped)) = inr (inr (stopped_more start history more stopped))

-- what a worker leaves, by what the calls of its desk say
pub served_by : {B E L : Type 0} (made : E → Record) (view : L → LinkView) (start : State) (hall : HallModel B)
    (number : ℕ) (first left : PassModel B E) (desk desk' : Kept) (gate : GateView L) (gave : Option (List ℕ)) →
    first ≡ new_pass hall.table number → desk.table ≡ hall.table → desk.start ≡ start →
    desk.pass ≡ pass_view made first → GoesOn desk desk' → pass_view made left ≡ desk'.pass →
    left.table ≡ desk'.table → HoldsNoTurn left.turn → Serves view desk'.start desk'.pass gate.returned gave →
    AllGivenBack gate → IsDone desk'.start desk'.pass.seen gate →
    HasServed made view start hall number (record { pass = Some left; gate = gate; gave = gave })
served_by {B} {E} {L} made view start hall number first left desk desk' gate gave is table begins pass on is' table'
    free
    serves back done =
    let start' : desk'.start ≡ start = on.start ∙ begins in
    record {
      pass = left;
      has = refl;
      ready = record {
        table = table' ∙ on.table ∙ table;
        number = ap (λ (pass : PassView). pass.number) is' ∙ on.number ∙ ap (λ (pass : PassView). pass.number) pass
            ∙ ap (λ (pass : PassModel B E). pass.number) is;
        free = free;
      };
      serves = subst (λ (pass : PassView). Serves view start pass gate.returned gave) (sym is')
          (subst (λ (start : State). Serves view start desk'.pass gate.returned gave) start' serves);
      all_back = back;
      done = subst (λ (pass : PassView). IsDone start pass.seen gate) (sym is')
          (subst (λ (start : State). IsDone start desk'.pass.seen gate) start' done);
    }
