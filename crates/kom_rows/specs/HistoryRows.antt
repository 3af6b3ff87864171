-- Small histories and states whose outcome was worked out by hand.
use Rattle.std.specs.Prelude.{◌≡◌, ℕ, true, false, List, [], ◌∷◌, map, codes, Some, None}
use Rattle.kom_types.specs.declared.acts.Act.{Act}
use Rattle.kom_types.specs.declared.acts.Act.TheVariants as act
use Rattle.kom_types.specs.declared.acts.Record.{Record}
use Rattle.kom_types.specs.declared.answers.NotMade.TheVariants.{Gone, Full}
use Rattle.kom_types.specs.declared.answers.Why.TheVariants.{Dropped, Overrun, Stopped, Absent}
use Rattle.kom_types.specs.declared.calls.Call.TheVariants as call
use Rattle.kom_types.specs.declared.replies.Reply.TheVariants as reply
use Rattle.kom_types.specs.declared.items.Item.{Item}
use Rattle.kom_types.specs.declared.items.Item.TheVariants as item
use Rattle.kom_types.specs.declared.seats.Seat.{Seat}
use Rattle.kom_types.specs.declared.session_changes.SessionChange.TheVariants as change
use Rattle.kom_types.specs.Sessions.{Waiting, Session, Limits, waiting_limits}
use Rattle.kom_model.specs.State.{State, empty, IsSound}
use Rattle.kom_model.specs.Db.{empty_db}
use Rattle.kom_model.specs.calls.Call.{Asked, answer, without_guard}
use Rattle.kom_model.specs.Decide.{asked_in, definition_of, decision_of, limit_reply, is_firm}
use Rattle.kom_model.specs.Sending.{Delivery}
use Rattle.kom_model.specs.Refusal.{refusal_of}
use Rattle.kom_model.specs.After.{MayFollow, queue_all, make_changes, after}
use Rattle.kom_model.specs.Legal.{IsLegal, state_after}
use Rattle.kom_model.specs.Out.{out_of, given_from, given_along}

-- a record of pass 1
abbrev pub record_at : ℕ → Act → ℕ → Record
record_at moment what session = record {
  entry = record { pass = 1; moment = moment; act = what };
  session = session;
  short = false;
}

-- ceder greets from the host h, asks who it is under reference 7, is given what waits, and leaves;
-- the clock of the flush gives an earlier moment than that of the call
abbrev pub connect : Record
connect = record_at 10 (act.Connect (codes "ceder") (codes "h")) 1

abbrev pub ask : Record
ask = record_at 12 (act.Call 1 7 call.WhoAmI) 1

abbrev pub flush : Record
flush = record_at 11 act.Flush 0

abbrev pub drain : Record
drain = record_at 13 (act.Drain 1) 1

abbrev pub close : Record
close = record_at 14 (act.Close 1) 1

abbrev pub visit : List Record
visit = connect ∷ ask ∷ flush ∷ drain ∷ close ∷ []

-- the client's stream is at fault
abbrev pub stream_fault : Record
stream_fault = record_at 13 (act.Broken 1) 1

abbrev pub connect_again : Record
connect_again = record_at 15 (act.Connect (codes "asp") (codes "h")) 2

-- a call and a drain that are said to have had no memory, and a flush that the store refused
abbrev pub short_ask : Record
short_ask = record ask { short = true }

abbrev pub short_drain : Record
short_drain = record drain { short = true }

abbrev pub short_flush : Record
short_flush = record (record_at 16 act.Flush 0) { short = true }

-- who came at moment 10
abbrev pub ceder : Seat
ceder = record {
  number = 1;
  pass = 1;
  user = codes "ceder";
  host = codes "h";
  connected = 10;
  login = 0;
  active = 10;
  person = 0;
  level = 0;
  working = 0;
  doing = [];
  client_set = false;
  client = [];
  version = [];
  accepted = 0;
  flags = 0;
  ended = false;
}

-- what the call is answered: 5 bytes
abbrev pub one : Item
one = item.Reply 7 (reply.Number 1)

abbrev pub waits : Item → ℕ → Waiting
waits sent entry = record { item = sent; entry = entry }

-- nothing was too much
abbrev pub holds : Seat → List Waiting → Session
holds seat waiting = record { seat = seat; waiting = waiting; overrun = false }

-- more would have waited than may
abbrev pub overran : Seat → List Waiting → Session
overran seat waiting = record { seat = seat; waiting = waiting; overrun = true }

-- after the flush of the visit
abbrev pub mid_visit : State
mid_visit = record {
  db = empty_db;
  sessions = holds ceder (waits item.Hello 0 ∷ waits one 1 ∷ []) ∷ [];
  connects = 1;
  stable = 2;
  entries = 3;
  moment = 12;
  stopped = false;
  store_refused = false;
}

-- a call has ended the session
abbrev pub session_ended : State
session_ended = record mid_visit {
  sessions = holds (record ceder { ended = true }) (waits item.Hello 0 ∷ waits one 1 ∷ []) ∷ [];
}

-- more would have waited for it than may
abbrev pub overrun : State
overrun = record mid_visit { sessions = overran ceder (waits item.Hello 0 ∷ []) ∷ [] }

-- the server was shut down
abbrev pub server_stopped : State
server_stopped = record mid_visit { stopped = true }

-- two of these, and all three, where nothing waits
abbrev pub overrun_and_stopped : State
overrun_and_stopped = record overrun { stopped = true }

abbrev pub all_three : State
all_three = record server_stopped { sessions = overran (record ceder { ended = true }) [] ∷ [] }

-- the store refused a flush
abbrev pub after_refused_flush : State
after_refused_flush = record mid_visit { store_refused = true; entries = 4; moment = 16 }

-- so many sessions were connected
abbrev pub with_connects : ℕ → State
with_connects connects = record empty { connects = connects }

-- ceder alone
abbrev pub alone : Seat → State
alone seat = record mid_visit { sessions = holds seat [] ∷ [] }

-- two sessions
abbrev pub asp : Seat
asp = record ceder { number = 2; user = codes "asp" }

abbrev pub pair : Session → Session → State
pair first second = record mid_visit { sessions = first ∷ second ∷ []; connects = 2 }

-- for which nothing waits
abbrev pub quiet : State
quiet = pair (holds ceder []) (holds asp [])

abbrev pub to : ℕ → Item → Delivery
to session sent = record { session = session; item = sent }

-- two items; and 11 and 12 bytes, where those of Hello are 7
abbrev pub two_items : Limits
two_items = record { items = 2; bytes = 100 }

abbrev pub eleven_bytes : Limits
eleven_bytes = record { items = 9; bytes = 11 }

abbrev pub twelve_bytes : Limits
twelve_bytes = record { items = 9; bytes = 12 }

-- what becomes of ceder's session when these are queued for it
abbrev pub after_queueing : Limits → List Item → List Session
after_queueing limits items = (queue_all limits (map (to 1) items) (alone ceder)).sessions

-- What the definitions say of these.
pub record HistoryRows : Type 0 where
  pub connected : state_after empty (connect ∷ []) ≡ record {
    db = empty_db;
    sessions = holds ceder (waits item.Hello 0 ∷ []) ∷ [];
    connects = 1;
    stable = 0;
    entries = 1;
    moment = 10;
    stopped = false;
    store_refused = false;
  }
  pub answered : state_after empty (connect ∷ ask ∷ flush ∷ []) ≡ mid_visit
  pub closed : state_after empty visit
      ≡ record mid_visit { sessions = []; entries = 5; moment = 14 }
  pub sound : IsSound empty
  pub legal : IsLegal empty visit
  pub sent : out_of empty 1 visit ≡ item.Hello ∷ one ∷ []
  pub given : given_along empty 1 visit ≡ (item.Hello ∷ one ∷ []) ∷ []
  pub drained_before_a_flush : given_along empty 1 (connect ∷ ask ∷ drain ∷ []) ≡ [] ∷ []
  pub flushed_before_the_call :
      given_along empty 1 (connect ∷ flush ∷ ask ∷ drain ∷ flush ∷ drain ∷ [])
      ≡ (item.Hello ∷ []) ∷ (one ∷ []) ∷ []
  pub at_fault :
      given_along empty 1 (connect ∷ stream_fault ∷ flush ∷ drain ∷ drain ∷ [])
      ≡ (item.Hello ∷ item.Fault ∷ []) ∷ [] ∷ []
  pub moment_that_does_not_fall : (after (state_after empty (connect ∷ ask ∷ [])) flush).moment ≡ 12
  pub numbers_rise : IsLegal empty (connect ∷ close ∷ connect_again ∷ [])
  pub another_session :
      out_of empty 2 (connect ∷ ask ∷ close ∷ connect_again ∷ []) ≡ item.Hello ∷ []
  pub absent_call : refusal_of empty (act.Call 1 7 call.WhoAmI) ≡ Some (Gone Absent)
  pub absent_drain : refusal_of empty (act.Drain 1) ≡ Some (Gone Absent)
  pub absent_close : refusal_of empty (act.Close 1) ≡ Some (Gone Absent)
  pub firm_who_am_i : (asked : Asked) → is_firm asked call.WhoAmI ≡ true
  pub firm_refused_by_the_reader : (asked : Asked) → is_firm asked (call.Refused 2 0) ≡ true
  pub no_short_who_am_i : (state : State) → MayFollow state short_ask → ⊥
  pub no_short_drain : MayFollow mid_visit short_drain → ⊥
  pub logged_in :
      make_changes 20 (change.Person 1 6 true ∷ []) (alone ceder)
      ≡ alone (record ceder { person = 6; login = 20; active = 20; flags = 128 })
  pub logged_out :
      make_changes 20 (change.Person 1 0 false ∷ [])
      (alone (record ceder { person = 6; login = 9; level = 3; working = 6; flags = 192 }))
      ≡ alone (record ceder { login = 9; flags = 64 })
  pub ended : make_changes 20 (change.Ended 1 ∷ []) mid_visit ≡ session_ended
  pub shut_down : make_changes 20 (change.Stop ∷ []) mid_visit ≡ server_stopped
  pub change_of_nobody : make_changes 20 (change.Ended 2 ∷ []) mid_visit ≡ mid_visit
  pub real_limits : waiting_limits ≡ record { items = 4096; bytes = 33554432 }
  pub message_to_another :
      queue_all two_items (to 2 item.Hello ∷ to 1 one ∷ []) quiet
      ≡ pair (holds ceder (waits one 3 ∷ [])) (holds asp (waits item.Hello 3 ∷ []))
  pub message_to_the_caller :
      queue_all two_items (to 1 item.Hello ∷ to 1 one ∷ []) quiet
      ≡ pair (holds ceder (waits item.Hello 3 ∷ waits one 3 ∷ [])) (holds asp [])
  pub message_to_nobody : queue_all two_items (to 2 item.Hello ∷ []) mid_visit ≡ mid_visit
  pub last_by_number :
      after_queueing two_items (item.Hello ∷ one ∷ [])
      ≡ holds ceder (waits item.Hello 3 ∷ waits one 3 ∷ []) ∷ []
  pub past_by_number :
      after_queueing two_items (item.Hello ∷ one ∷ one ∷ [])
      ≡ overran ceder (waits item.Hello 3 ∷ waits one 3 ∷ []) ∷ []
  pub last_by_bytes :
      after_queueing twelve_bytes (item.Hello ∷ one ∷ [])
      ≡ holds ceder (waits item.Hello 3 ∷ waits one 3 ∷ []) ∷ []
  pub past_by_bytes :
      after_queueing eleven_bytes (item.Hello ∷ one ∷ [])
      ≡ overran ceder (waits item.Hello 3 ∷ []) ∷ []
  pub nothing_after_the_mark :
      after_queueing twelve_bytes (item.Hello ∷ item.Hello ∷ one ∷ [])
      ≡ overran ceder (waits item.Hello 3 ∷ []) ∷ []
  pub mark_of_one_session :
      queue_all two_items (to 1 one ∷ to 2 one ∷ []) (pair (overran ceder []) (holds asp []))
      ≡ pair (overran ceder []) (holds asp (waits one 3 ∷ []))
  pub dropped_call : refusal_of session_ended (act.Call 1 8 call.WhoAmI) ≡ Some (Gone Dropped)
  pub dropped_broken : refusal_of session_ended (act.Broken 1) ≡ Some (Gone Dropped)
  pub dropped_drain : refusal_of session_ended (act.Drain 1) ≡ None
  pub dropped_given : given_from 1 session_ended ≡ item.Hello ∷ one ∷ []
  pub dropped_drained : refusal_of (after session_ended drain) (act.Drain 1) ≡ Some (Gone Dropped)
  pub dropped_close : refusal_of session_ended (act.Close 1) ≡ None
  pub dropped_unflushed : refusal_of (record session_ended { stable = 0 }) (act.Drain 1) ≡ None
  pub dropped_unflushed_given : given_from 1 (record session_ended { stable = 0 }) ≡ []
  pub overrun_call : refusal_of overrun (act.Call 1 8 call.WhoAmI) ≡ Some (Gone Overrun)
  pub overrun_broken : refusal_of overrun (act.Broken 1) ≡ Some (Gone Overrun)
  pub overrun_drain : refusal_of overrun (act.Drain 1) ≡ Some (Gone Overrun)
  pub overrun_close : refusal_of overrun (act.Close 1) ≡ None
  pub stopped_connect : refusal_of server_stopped (act.Connect [] []) ≡ Some (Gone Stopped)
  pub stopped_call : refusal_of server_stopped (act.Call 1 8 call.WhoAmI) ≡ Some (Gone Stopped)
  pub stopped_broken : refusal_of server_stopped (act.Broken 1) ≡ Some (Gone Stopped)
  pub stopped_drain : refusal_of server_stopped (act.Drain 1) ≡ None
  pub stopped_flush : refusal_of server_stopped act.Flush ≡ None
  pub stopped_close : refusal_of server_stopped (act.Close 1) ≡ None
  pub overrun_before_stopped : refusal_of overrun_and_stopped (act.Broken 1) ≡ Some (Gone Overrun)
  pub dropped_before_overrun : refusal_of all_three (act.Broken 1) ≡ Some (Gone Dropped)
  pub drained_before_overrun : refusal_of all_three (act.Drain 1) ≡ Some (Gone Dropped)
  pub refused_flush : MayFollow mid_visit short_flush
  pub refused_flush_leaves : after mid_visit short_flush ≡ after_refused_flush
  pub then_connect : refusal_of after_refused_flush (act.Connect [] []) ≡ Some (Gone Stopped)
  pub then_call : refusal_of after_refused_flush (act.Call 1 8 call.WhoAmI) ≡ Some (Gone Stopped)
  pub then_broken : refusal_of after_refused_flush (act.Broken 1) ≡ Some (Gone Stopped)
  pub then_drain : refusal_of after_refused_flush (act.Drain 1) ≡ Some (Gone Stopped)
  pub then_flush : refusal_of after_refused_flush act.Flush ≡ Some (Gone Stopped)
  pub then_close : refusal_of after_refused_flush (act.Close 1) ≡ None
  pub last_session : refusal_of (with_connects 4294967294) (act.Connect [] []) ≡ None
  pub full : refusal_of (with_connects 4294967295) (act.Connect [] []) ≡ Some (Full 4294967295)
  pub some_messages : (asked : Asked) →
      definition_of asked (call.AcceptAsync (5 ∷ 23 ∷ 15 ∷ 3 ∷ []))
      ≡ record {
        early = None;
        rest = record {
          reply = reply.Refused 50 23;
          effects = [];
          changes = change.Accept asked.session 32800 ∷ [];
        };
      }
  pub no_messages : (asked : Asked) →
      definition_of asked (call.AcceptAsync [])
      ≡ without_guard (record {
        reply = reply.Done;
        effects = [];
        changes = change.Accept asked.session 0 ∷ [];
      })
  pub accepted_messages :
      definition_of (asked_in (alone (record ceder { accepted = 32800 })) 12 1 7) call.QueryAsync
      ≡ without_guard (answer (reply.Numbers (5 ∷ 15 ∷ [])))
  pub time_of_the_entry :
      decision_of (asked_in mid_visit 951782400 1 7) call.GetTime ≡ answer (reply.Time 951782400)
  pub not_firm : (asked : Asked) → is_firm asked (call.AcceptAsync []) ≡ false
  pub short_enough : limit_reply 7 (answer (reply.Number 1)) ≡ answer (reply.Number 1)
