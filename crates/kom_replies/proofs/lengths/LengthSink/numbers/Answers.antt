use Rattle.std.proofs.Common.{◌≡◌, ℕ, ◌+◌, List, [], length, get_or, drop, sym, ap, ◌∙◌, arith}
use Rattle.std.specs.List.{flat_map}
use Rattle.std.specs.Fmt.{decimal}
use Rattle.std.proofs.lemmas.List.{drop_all, drop_more}
use Rattle.kom_types.specs.spellings.Words.{number}
use Rattle.kom_replies.specs.Lengths.{put_length, cap_at_u64}
use Rattle.kom_replies.specs.Sinks.{with_words}
use Rattle.kom_replies.proofs.lengths.LengthSink.numbers.Goals as goal

pub loop-value-preserved : goal.loop-value-preserved
loop-value-preserved c =
    let values : List ℕ = c.args.values.now in
    let place : ℕ = c.loop-value.value-index in
    let value : ℕ = get_or values place 0 in
    let sum : ℕ = c.loop-value.length in
    let grown : c.saturating_add-length.result ≡ put_length (decimal value) sum =
    c.saturating_add-length.ensures
    ∙ ap (λ (digits : ℕ). cap_at_u64 (sum + (digits + 1)))
    (c.digit_count.ensures.digits ∙ ap (λ (n : ℕ). length (decimal n)) c.from.ensures) in
    ap (with_words put_length (flat_map number (drop (place + 1) values))) grown
    ∙ sym (ap (λ (left : List ℕ). with_words put_length (flat_map number left) sum)
    (drop_more values place 0 c.loop-value-test.true))
    ∙ c.loop-value.invariant

pub returns-clause-ok : goal.returns-clause-ok
returns-clause-ok c =
    let values : List ℕ = c.args.values.now in
    let nothing : drop c.loop-value.value-index values ≡ [] = drop_all c.loop-value.value-index values (omega arith) in
    sym (ap (λ (left : List ℕ). with_words put_length (flat_map number left) c.loop-value.length) nothing)
    ∙ c.loop-value.invariant
