-- A run that loads a new server, as a history of it.
use Rattle.std.specs.Prelude.{ℕ, ◌+◌, ◌-◌, zero, suc, false, List, [], ◌∷◌, ◌++◌, codes, length}
use Rattle.kom_types.specs.declared.acts.Act.{Act}
use Rattle.kom_types.specs.declared.acts.Act.TheVariants as act
use Rattle.kom_types.specs.declared.acts.Record.{Record}
use Rattle.kom_types.specs.declared.calls.Call.{Call}
use Rattle.kom_types.specs.declared.calls.Call.TheVariants as call
use Rattle.kom_types.specs.declared.replies.Reply.{Reply}
use Rattle.kom_model.specs.Initial.{initial}
use Rattle.kom_model.specs.State.{State, opening_state}
use Rattle.kom_model.specs.After.{decision_at}
use Rattle.kom_model.specs.Legal.{state_after}
use Rattle.kom_load.specs.declared.runs.Run.{Run}
use Rattle.kom_load.specs.declared.summaries.Summary.{Summary}
use Rattle.kom_load.specs.Runs.{new_run, next_of, after_answer}

-- the record of an act that pass 0 makes at a moment, of this session, for which memory suffices
abbrev pub record_of : ℕ → ℕ → Act → Record
record_of moment session what = record {
  entry = record { pass = 0; moment = moment; act = what };
  session = session;
  short = false;
}

-- this act alone
unfoldable pub lone_act : ℕ → ℕ → Act → List Record
lone_act moment session what = record_of moment session what ∷ []

-- what was done is made stable, and session 1 takes what waits for it
unfoldable pub flush_drain : ℕ → List Record
flush_drain moment = lone_act moment 0 act.Flush ++ lone_act moment 1 (act.Drain 1)

-- session 1 is connected, and takes its greeting
unfoldable pub connect_one : List Record
connect_one = lone_act 0 1 (act.Connect (codes "load") (codes "memory")) ++ flush_drain 0

-- session 1 makes a call, whose reference is the number of the moment, and takes its reply
unfoldable pub call_once : ℕ → Call → List Record
call_once moment what = lone_act moment 1 (act.Call 1 moment what) ++ flush_drain moment

-- what such a call is answered
unfoldable pub reply_at : State → ℕ → Call → Reply
reply_at state moment what = (decision_at state moment 1 moment what).reply

-- the server before a run: its administrator has the empty password
unfoldable pub new_server : State
new_server = opening_state (initial [] 0)

-- a run: its history on a new server, and how far it has come
pub record Loading : Type 0 where
  pub history : List Record
  pub run : Run

-- the server that a run has left
abbrev pub server_of : Loading → State
server_of loading = state_after new_server loading.history

-- session 1 was connected, and the administrator was logged in, at moment 0
unfoldable pub run_start : Loading
run_start = record { history = connect_one ++ call_once 0 (call.Login 5 [] false); run = new_run }

-- the next call was made, at the moment of its index
unfoldable pub with_next : Loading → Loading
with_next loading = let index = loading.run.calls + 1 in let what = next_of loading.run in record {
  history = loading.history ++ call_once index what;
  run = after_answer loading.run (reply_at (server_of loading) index what);
}

-- the run of so many calls
unfoldable pub run_of : ℕ → Loading
run_of zero = run_start
run_of (suc count) = with_next (run_of count)

-- what a run comes to that has left this server
abbrev pub summary_in : Run → State → Summary
summary_in run state = record {
  calls = run.calls;
  ok = run.calls - run.refused;
  refused = run.refused;
  conferences = length state.db.conferences;
  texts = length state.db.texts;
}

abbrev pub summary_of : Loading → Summary
summary_of loading = summary_in loading.run (server_of loading)
