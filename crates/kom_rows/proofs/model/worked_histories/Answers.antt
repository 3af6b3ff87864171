-- Each row is computed.
use Rattle.std.proofs.Common.{◌≡◌, true, false, refl, arith}
use Rattle.std.specs.List.{IsDistinct}
use Rattle.std.specs.Fmt.{digits}
use Rattle.kom_types.specs.declared.acts.Record.{Record}
use Rattle.kom_types.specs.Times.{time_of, day_from, month_from}
use Rattle.kom_types.specs.Printing.{print_of}
use Rattle.kom_model.specs.Db.{empty_db}
use Rattle.kom_model.specs.State.{State}
use Rattle.kom_model.specs.Decide.{decision_of, is_firm}
use Rattle.kom_model.specs.ToWhom.{messages_of}
use Rattle.kom_model.specs.Refusal.{IsPossible}
use Rattle.kom_model.specs.After.{MayFollow, MayBeShort, HasUser, session_in}
use Rattle.kom_model.proofs.Opening.{IsSound-opening}
use Rattle.kom_model.proofs.whole.Effects.{empty-whole}
use Rattle.kom_rows.specs.HistoryRows.{connect, connect_again}
use Rattle.kom_rows.proofs.model.worked_histories.Goals as goal

may : (state : State) (made : Record) → IsPossible state made.entry.act → HasUser made.entry.act →
    made.session ≡ session_in state made.entry.act → MayBeShort state made.entry.moment made.entry.act made.short →
    MayFollow state made
may state made possible user session short =
    record { possible = possible; user = user; session = session; short = short }

pub returns : goal.returns
unfolding IsDistinct digits time_of day_from month_from print_of decision_of is_firm messages_of
returns c = record {
  connected = refl;
  answered = refl;
  closed = refl;
  sound = IsSound-opening empty_db tt empty-whole;
  legal = (
    may _ connect refl (omega arith) refl tt,
    (may _ _ refl tt refl tt, (may _ _ refl tt refl tt, (may _ _ refl tt refl tt, (may _ _ refl tt refl tt, tt)))),
  );
  sent = refl;
  given = refl;
  drained_before_a_flush = refl;
  flushed_before_the_call = refl;
  at_fault = refl;
  moment_that_does_not_fall = refl;
  numbers_rise = (
    may _ connect refl (omega arith) refl tt,
    (may _ _ refl tt refl tt, (may _ connect_again refl (omega arith) refl tt, tt)),
  );
  another_session = refl;
  absent_call = refl;
  absent_drain = refl;
  absent_close = refl;
  firm_who_am_i = λ asked. refl;
  firm_refused_by_the_reader = λ asked. refl;
  no_short_who_am_i = λ state follows. let wrong : true ≡ false = follows.short in cc;
  no_short_drain = λ follows. follows.short;
  logged_in = refl;
  logged_out = refl;
  ended = refl;
  shut_down = refl;
  change_of_nobody = refl;
  real_limits = refl;
  message_to_another = refl;
  message_to_the_caller = refl;
  message_to_nobody = refl;
  last_by_number = refl;
  past_by_number = refl;
  last_by_bytes = refl;
  past_by_bytes = refl;
  nothing_after_the_mark = refl;
  mark_of_one_session = refl;
  dropped_call = refl;
  dropped_broken = refl;
  dropped_drain = refl;
  dropped_given = refl;
  dropped_drained = refl;
  dropped_close = refl;
  dropped_unflushed = refl;
  dropped_unflushed_given = refl;
  overrun_call = refl;
  overrun_broken = refl;
  overrun_drain = refl;
  overrun_close = refl;
  stopped_connect = refl;
  stopped_call = refl;
  stopped_broken = refl;
  stopped_drain = refl;
  stopped_flush = refl;
  stopped_close = refl;
  overrun_before_stopped = refl;
  dropped_before_overrun = refl;
  drained_before_overrun = refl;
  refused_flush = may _ _ refl tt refl tt;
  refused_flush_leaves = refl;
  then_connect = refl;
  then_call = refl;
  then_broken = refl;
  then_drain = refl;
  then_flush = refl;
  then_close = refl;
  last_session = refl;
  full = refl;
  some_messages = λ asked. refl;
  no_messages = λ asked. refl;
  accepted_messages = refl;
  time_of_the_entry = refl;
  not_firm = λ asked. refl;
  short_enough = refl;
}
