-- How far a run has come on its server.
use Rattle.std.proofs.Common.{◌≡◌, ℕ, ◌+◌, ◌*◌, ◌<◌, ◌≤◌, ◌++◌, refl, sym, ap, subst, ◌∙◌, add-one, arith}
use Rattle.kom_types.specs.declared.replies.Reply.{Reply}
use Rattle.kom_model.specs.State.{State}
use Rattle.kom_load.specs.declared.runs.Run.{Run}
use Rattle.kom_load.specs.Runs.{new_run, next_of, after_answer}
use Rattle.kom_load.specs.Loading.{Loading, new_server, server_of, run_start, call_once, reply_at, with_next, run_of}
use Rattle.kom_load.specs.Steps.{Leads, AreBefore}
use Rattle.kom_load.proofs.Leading.{leads-on}

-- the run so far is that of the definition, and its server that of its history
pub record IsAt (count : ℕ) (run : Run) (state : State) : Type 0 where
  pub leads : Leads new_server (run_of run.calls).history state
  pub is : run ≡ (run_of run.calls).run
  pub before : AreBefore (run.calls + 1) state
  pub refused : run.refused ≤ run.calls
  pub few : run.calls ≤ count
  pub counted : state.entries ≤ 6 + 3 * run.calls

-- before its first call
pub at-start : (count : ℕ) (run : Run) (old state : State) → old ≡ new_server → run ≡ new_run →
    Leads old run_start.history state → AreBefore 1 state → state.entries ≤ old.entries + 6 → IsAt count run state
unfolding run_of run_start new_server
at-start count run old state new is leads before entries =
    let none : old.entries ≡ 0 = ap (λ (one : State). one.entries) new in
    subst (λ (one : Run). IsAt count one state) (sym is) (record {
      leads = subst (λ (one : State). Leads one run_start.history state) new leads;
      is = refl;
      before = before;
      refused = omega arith;
      few = omega arith;
      counted = omega (arith, entries, none);
    })

-- an answer counts one call
pub calls-next : (run next : Run) (reply : Reply) → next ≡ after_answer run reply → next.calls ≡ run.calls + 1
unfolding after_answer
calls-next run next reply is = ap (λ (one : Run). one.calls) is

loaded-next : (count : ℕ) → run_of (count + 1) ≡ with_next (run_of count)
unfolding run_of
loaded-next count = ap run_of (add-one count)

history-next : (count : ℕ) → (run_of (count + 1)).history
    ≡ (run_of count).history ++ call_once ((run_of count).run.calls + 1) (next_of (run_of count).run)
unfolding with_next
history-next count = ap (λ (loading : Loading). loading.history) (loaded-next count)

run-next : (count : ℕ) → (run_of (count + 1)).run ≡ after_answer (run_of count).run
    (reply_at (server_of (run_of count)) ((run_of count).run.calls + 1) (next_of (run_of count).run))
unfolding with_next
run-next count = ap (λ (loading : Loading). loading.run) (loaded-next count)

-- after one call more
pub at-next : (count : ℕ) (run next : Run) (old new : State) → IsAt count run old → run.calls < count →
    Leads old (call_once (run.calls + 1) (next_of run)) new →
    next ≡ after_answer run (reply_at old (run.calls + 1) (next_of run)) → AreBefore (next.calls + 1) new →
    next.refused ≤ next.calls → new.entries ≤ old.entries + 3 → IsAt count next new
at-next count run next old new at less leads is before refused entries =
    let index = run.calls in
    let calls : next.calls ≡ index + 1 = calls-next _ _ _ is in
    let history : (run_of (index + 1)).history ≡ (run_of index).history ++ call_once (index + 1) (next_of run) =
    history-next index
    ∙ sym (ap (λ (one : Run). (run_of index).history ++ call_once (one.calls + 1) (next_of one)) at.is) in
    let same : next ≡ (run_of (index + 1)).run =
    is ∙ ap (λ (state : State). after_answer run (reply_at state (index + 1) (next_of run))) at.leads.state
    ∙ ap (λ (one : Run). after_answer one (reply_at (server_of (run_of index)) (one.calls + 1) (next_of one))) at.is
    ∙ sym (run-next index) in
    record {
      leads = subst (λ (n : ℕ). Leads new_server (run_of n).history new) (sym calls)
          (subst (λ history. Leads new_server history new) (sym history) (leads-on _ _ at.leads leads));
      is = subst (λ (n : ℕ). next ≡ (run_of n).run) (sym calls) same;
      before = before;
      refused = refused;
      few = omega (arith, calls, less);
      counted = omega (arith, calls, entries, at.counted);
    }
