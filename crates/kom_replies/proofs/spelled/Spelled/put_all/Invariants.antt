use Rattle.std.proofs.Common.{◌≡◌, drop}
use Rattle.std.specs.List.{flat_map}
use Rattle.kom_replies.specs.Sinks.{with_words, Keeps}
use Rattle.kom_replies.proofs.spelled.Spelled.put_all.Given as goal

-- with the values to come, the sink is as it will be
abbrev pub invariant-loop-value : goal.invariant-loop-value
invariant-loop-value g l = record {
  to_come : with_words g.S.Sink.with_word (flat_map g.Self.Spelled.spelling (drop l.value-index l.values)) l.out
      ≡ with_words g.S.Sink.with_word (flat_map g.Self.Spelled.spelling l.values) l.fn.out;
  keeps : Keeps g.S.Sink.begins l.fn.out l.out;
}
