-- How far a run has come that loads the server, by what its calls were answered.
use Rattle.std.specs.Prelude.{ℕ, ◌+◌, ◌%◌, ◌==◌, Bool, true, false, if◌then◌else◌}
use Rattle.kom_types.specs.declared.calls.Call.{Call}
use Rattle.kom_types.specs.declared.replies.Reply.{Reply}
use Rattle.kom_types.specs.declared.replies.Reply.TheVariants.{Refused, Number}
use Rattle.kom_load.specs.declared.runs.Run.{Run}
use Rattle.kom_load.specs.Generator.{call_of_index}

-- whether a call was refused
abbrev pub is_refusal : Reply → Bool
is_refusal (Refused code status) = true
is_refusal _ = false

-- the conference that was made last, after the call of an index was answered
abbrev pub made_last : ℕ → Reply → ℕ → ℕ
made_last index (Number number) last = if index % 4 == 1 then number else last
made_last index _ last = last

-- the run before its first call
abbrev pub new_run : Run
new_run = record { calls = 0; refused = 0; conference = 0 }

-- the next call
unfoldable pub next_of : Run → Call
next_of run = call_of_index (run.calls + 1) run.conference

-- the run once its next call was answered
unfoldable pub after_answer : Run → Reply → Run
after_answer run reply = record {
  calls = run.calls + 1;
  refused = run.refused + (if is_refusal reply then 1 else 0);
  conference = made_last (run.calls + 1) reply run.conference;
}
