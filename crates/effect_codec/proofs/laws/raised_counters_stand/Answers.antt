use Rattle.effect_codec.proofs.Counters.{raised_again, raised_spelled, raised_short, raised_wrong, raised_apart}
use Rattle.effect_codec.proofs.laws.raised_counters_stand.Goals as goal

pub returns : goal.returns
returns c = record {
  again = raised_again;
  spelled = raised_spelled;
  stays_short = raised_short;
  stays_wrong = raised_wrong;
  apart = raised_apart;
}
