use Rattle.std.proofs.Common.{◌+◌, ◌<◌, length, drop, ap, ◌∙◌, sym}
use Rattle.std.specs.List.{flat_map}
use Rattle.kom_replies.specs.Sinks.{with_words}
use Rattle.kom_replies.proofs.WrittenWords.{next_put}
use Rattle.kom_replies.proofs.spelled.Spelled.put_all.Goals as goal

pub loop-value-preserved : goal.loop-value-preserved
loop-value-preserved g c =
    let with_word = g.S.Sink.with_word in
    let element = g.Self.Spelled.spelling in
    let values = c.args.values.now in
    let place = c.loop-value.value-index in
    let within : place < length values = c.loop-value-test.true in
    let next = next_put with_word element values place c.value-item.result c.loop-value.out within c.value-item.is in
    record {
      to_come =
          ap (λ sink. with_words with_word (flat_map element (drop (place + 1) values)) sink) c.in_ok-put.ensures.ok
          ∙ sym next ∙ c.loop-value.invariant.to_come;
      keeps = λ prefix begun. c.put.ensures.keeps prefix (c.loop-value.invariant.keeps prefix begun);
    }
