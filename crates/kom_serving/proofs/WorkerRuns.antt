-- A whole run of several workers: each served its gate by its pass, and the hall was closed.
use Rattle.std.proofs.Common.{◌≡◌, ℕ, suc, ◌+◌, ◌<◌, ◌≤◌, inl, inr, nat_eq, nat_lt, true, eqb, List, [], ◌∷◌, ◌++◌}
use Rattle.std.proofs.Common.{length, map, All, Some, refl, sym, ap, subst, ◌∙◌, arith}
use Rattle.std.specs.Prelude.{slice_index_or}
use Rattle.std.specs.List.{AllByRecursion, IsDistinct}
use Rattle.std.proofs.lemmas.Bool.{cases_Bool, cases_eq, eq-eqb, ltb-true, ltb-false}
use Rattle.std.proofs.lemmas.List.{map-append, length_push}
use Rattle.kom_types.specs.declared.acts.Record.{Record}
use Rattle.kom_links.specs.Outside.{LinkView}
use Rattle.kom_model.specs.State.{State}
use Rattle.kom_model.proofs.Prefixes.{gives_prefixes}
use Rattle.kom_state_lock.specs.Views.{entries_of}
use Rattle.kom_state_lock.specs.Passes.{HallModel, PassModel, new_pass, IsClosed}
use Rattle.hall_desk.specs.Acts.{IsLed, IsOpening}
use Rattle.hall_desk.specs.Passes.{pass_view, of_pass}
use Rattle.hall_desk.proofs.Starting.{IsStart, starts}
use Rattle.kom_serving.specs.Runs.{IsWorker, AreWorkers, told_sessions, IsDone, IsRun}
use Rattle.kom_serving.specs.Workers.{WorkerView, HasServed, HaveServed, gates_of, readings_of, passes_of}
use Rattle.kom_serving.proofs.Lifting.{worker_of, done_on}
use Rattle.kom_serving.proofs.Apart.{AreOf, AreOfAll, told_own, told_apart, all_apart}
use Rattle.kom_serving.proofs.WholeRuns.{none_later, entries_made}
use Rattle.kom_serving.proofs.Rows.{AllFrom, all_from_none, from_map, long, pass_at, at_before, at_last}

-- where no pass from this number on has a record, each is of one before it
below : (count : ℕ) (history : List Record) → ((number : ℕ) → count ≤ number → of_pass number history ≡ []) →
    AllByRecursion (λ made. made.entry.pass < count) history
below count [] none = tt
below count (made ∷ history) none = (
  here,
  below count history (λ number some. none_later number made history (none number some)),
)
  where
    here : made.entry.pass < count
    here = elim (cases_Bool (nat_lt made.entry.pass count)) [
      | inl low ↦ ltb-true made.entry.pass count low
      | inr high ↦
          let same : eqb made.entry.pass made.entry.pass ≡ true = eq-eqb _ _ refl in
          let all : of_pass made.entry.pass (made ∷ history) ≡ [] = none made.entry.pass (ltb-false _ _ high) in
          let wrong : made ∷ of_pass made.entry.pass history ≡ [] = rw same at all in
          cc
    ]

-- what is said of each gate and its clock
workers_from : {B E L : Type 0} (view : L → LinkView) (start : State) (history : List Record) (drawn number : ℕ)
    (workers : List (WorkerView B E L)) →
    AllFrom (λ k worker. IsWorker view start history drawn k worker.gate worker.gave) number workers →
    AreWorkers view start history drawn number (gates_of workers) (readings_of workers)
workers_from view start history drawn number [] all = tt
workers_from view start history drawn number (worker ∷ workers) all =
    (all.0, workers_from view start history drawn (number + 1) workers all.1)

own_from : {B E L : Type 0} (history : List Record) (number : ℕ) (workers : List (WorkerView B E L)) →
    AllFrom (λ k worker. AreOf history k (told_sessions worker.gate) × IsDistinct nat_eq (told_sessions worker.gate))
    number workers →
    AreOfAll history number (gates_of workers)
own_from history number [] all = tt
own_from history number (worker ∷ workers) all = (all.0, own_from history (number + 1) workers all.1)

done_from : {B E L : Type 0} (start : State) (history : List Record) (number : ℕ)
    (workers : List (WorkerView B E L)) → AllFrom (λ k worker. IsDone start history worker.gate) number workers →
    AllByRecursion (λ gate. IsDone start history gate) (gates_of workers)
done_from start history number [] all = tt
done_from start history number (worker ∷ workers) all =
    (all.0, done_from start history (number + 1) workers all.1)

as_long : {B E L : Type 0} (workers : List (WorkerView B E L)) → length (readings_of workers) ≡ length workers
as_long [] = refl
as_long (worker ∷ workers) = ap suc (as_long workers)

module _ {B E : Type 0} (made : E → Record) (server : B → State) (pass_of : E → ℕ) (led : B → List E → B → Type 0)
    (names : (entry : E) → pass_of entry ≡ (made entry).entry.pass)
    (leads : (opening : B) (history : List E) (value : B) → led opening history value
    → IsLed made server opening history value) where
  module _ {L : Type 0} (view : L → LinkView) (hall : HallModel B) (value : B) (last : PassModel B E)
      (opening : IsOpening (server hall.opening)) (led' : led hall.opening last.seen value) where
    abbrev start : State
    start = server hall.opening

    abbrev history : List Record
    history = map made last.seen

    -- what is known of a worker once the hall is closed
    pub record Closed (number : ℕ) (worker : WorkerView B E L) : Type 0 where
      pub served : IsWorker view start history last.drawn number worker.gate worker.gave
      pub own : AreOf history number (told_sessions worker.gate)
      pub distinct : IsDistinct nat_eq (told_sessions worker.gate)
      pub done : IsDone start history worker.gate

    closed_worker : (number : ℕ) (worker : WorkerView B E L) (pass : PassModel B E) →
        HasServed made view start hall number worker → worker.pass ≡ Some pass → IsClosed pass_of last pass →
        Closed number worker
    closed_worker number worker pass has is closed =
        let same : has.pass ≡ pass = let both : Some has.pass ≡ Some pass = sym has.has ∙ is in cc in
        let closed' : IsClosed pass_of last has.pass =
        subst (λ (pass : PassModel B E). IsClosed pass_of last pass) (sym same) closed in
        let lead = leads hall.opening last.seen value led' in
        let numbered : has.pass.number ≡ number = has.ready.number in
        let mine : map made has.pass.mine ≡ of_pass number history =
        ap (map made) closed'.mine ∙ ap (λ (n : ℕ). map made (entries_of pass_of n last.seen)) numbered
        ∙ entries_made made server pass_of led names leads number last.seen in
        let goes_on : history ≡ map made has.pass.seen ++ map made closed'.seen.0 =
        sym (ap (map made) closed'.seen.1) ∙ map-append made has.pass.seen closed'.seen.0 in
        let served : IsWorker view start history last.drawn number worker.gate worker.gave =
        worker_of view start (starts start opening) history last.drawn number (pass_view made has.pass)
        (map made closed'.seen.0) worker.gate worker.gave lead.legal lead.owned goes_on numbered mine closed'.drawn
        has.serves has.all_back in
        record {
          served = served;
          own = told_own view start history number last.drawn worker.gate worker.gate.returned refl served.talks;
          distinct = told_apart worker.gate worker.gate.returned refl has.serves.distinct;
          done = subst (λ (all : List Record). IsDone start all worker.gate) (sym goes_on)
              (done_on start (map made has.pass.seen) (map made closed'.seen.0) worker.gate has.done);
        }

    all_closed : (workers : List (WorkerView B E L)) (passes : List (PassModel B E)) (own : PassModel B E) →
        HaveServed made view start hall workers → map (λ pass. Some pass) passes ≡ passes_of workers →
        All (IsClosed pass_of last) (passes ++ own ∷ []) →
        AllFrom Closed 0 workers
    all_closed workers passes own have same closed =
        all_from_none Closed workers (λ k d low.
        let low' : k < length passes = omega (arith, low, long passes workers same) in
        let in_row : k < length (passes ++ own ∷ []) = omega (arith, low', length_push passes own) in
        closed_worker k (slice_index_or workers k d) (slice_index_or passes k own) (have.each k d low)
        (sym (pass_at passes workers k own d same low))
        (subst (λ (pass : PassModel B E). IsClosed pass_of last pass) (at_before passes own k own low')
        (closed k own in_row)))

    pub run_of_all : (workers : List (WorkerView B E L)) (passes : List (PassModel B E)) (own : PassModel B E) →
        HaveServed made view start hall workers → map (λ pass. Some pass) passes ≡ passes_of workers →
        All (IsClosed pass_of last) (passes ++ own ∷ []) → own ≡ new_pass hall.table (length workers) →
        ((number : ℕ) → hall.passes ≤ number → entries_of pass_of number last.seen ≡ []) →
        IsRun view start history last.drawn (gates_of workers) (readings_of workers)
        × AllByRecursion (λ gate. IsDone start history gate) (gates_of workers)
    run_of_all workers passes own have same closed is strangers =
        let lead = leads hall.opening last.seen value led' in
        let begins : IsStart start = starts start opening in
        let all : AllFrom Closed 0 workers = all_closed workers passes own have same closed in
        let closed_own : IsClosed pass_of last own =
        subst (λ (pass : PassModel B E). IsClosed pass_of last pass) (at_last passes own (length passes) own refl)
        (closed (length passes) own (omega (arith, length_push passes own))) in
        let none_own : entries_of pass_of (length workers) last.seen ≡ [] =
        ap (λ (n : ℕ). entries_of pass_of n last.seen) (sym (ap (λ (pass : PassModel B E). pass.number) is))
        ∙ sym closed_own.mine ∙ ap (λ (pass : PassModel B E). pass.mine) is in
        let others : (number : ℕ) → length (readings_of workers) ≤ number → of_pass number history ≡ [] =
        λ number some.
        sym (entries_made made server pass_of led names leads number last.seen)
        ∙ ap (map made) (elim (cases_eq number (length workers)) [
          | inl here ↦ ap (λ (n : ℕ). entries_of pass_of n last.seen) here ∙ none_own
          | inr other ↦ strangers number (omega (arith, as_long workers, have.long, some))
        ]) in (
          record {
            sound = begins.sound;
            legal = lead.legal;
            by_owners = lead.owned;
            in_order = λ session. gives_prefixes start session history begins.sound lead.legal;
            numbered = below (length (readings_of workers)) history others;
            workers = workers_from view start history last.drawn 0 workers
                (from_map Closed (λ k worker. IsWorker view start history last.drawn k worker.gate worker.gave) 0
                workers
                (λ k worker closed. closed.served) all);
            distinct = all_apart history start lead.legal 0 (gates_of workers) (own_from history 0 workers
                (from_map Closed (λ k worker. AreOf history k (told_sessions worker.gate)
                × IsDistinct nat_eq (told_sessions worker.gate)) 0 workers
                (λ k worker closed. (closed.own, closed.distinct)) all));
          },
          done_from start history 0 workers
              (from_map Closed (λ k worker. IsDone start history worker.gate) 0 workers
              (λ k worker closed. closed.done) all),
        )
