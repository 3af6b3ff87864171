-- Each row is computed.
use Rattle.std.proofs.Common.{refl}
use Rattle.std.specs.Fmt.{digits}
use Rattle.kom_load.specs.Runs.{next_of, after_answer}
use Rattle.kom_load.specs.Loading.{lone_act, flush_drain, connect_one, call_once, run_start, with_next, run_of}
use Rattle.kom_load.proofs.rows.worked_runs.Goals as goal

pub returns : goal.returns
unfolding digits next_of after_answer lone_act flush_drain connect_one call_once run_start with_next run_of
returns c = record {
  conference = refl;
  text = refl;
  member = refl;
  reader = refl;
  later_text = refl;
  eight_calls = refl;
  refused_call = refl;
  records = refl;
  lines = refl;
}
