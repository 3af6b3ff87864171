use Rattle.std.proofs.Common.{◌≡◌, ℕ, ◌-◌, List, length, drop, sym, ap, ◌∙◌, arith}
use Rattle.std.specs.List.{slice_range}
use Rattle.std.proofs.lemmas.List.{length-take-le, length-drop}
use Rattle.kom_types.specs.Token.{number_of, integer_of}
use Rattle.kom_framing.specs.Spans.{integer_told}
use Rattle.kom_framing.proofs.PlacedTokens.{run_found}
use Rattle.kom_framing.proofs.tokens.integer_of_run.Goals as goal

pub bounds-text-end : goal.bounds-text-end
bounds-text-end c =
    (run_found c.args.text.now c.args.start c.spelled_from-end.result.0 c.requires.token c.requires.digit
    c.spelled_from-end.ensures.end).inside

pub returns-then-text-end-eq72 : goal.returns-then-text-end-eq72
returns-then-text-end-eq72 c =
    let run =
    run_found c.args.text.now c.args.start c.spelled_from-end.result.0 c.requires.token c.requires.digit
    c.spelled_from-end.ensures.end in
    sym (ap integer_of (run.text c.if-text-end-eq72.true))

pub returns-else-text-end-eq72 : goal.returns-else-text-end-eq72
returns-else-text-end-eq72 c =
    let start : ℕ = c.args.start in
    let end : ℕ = c.spelled_from-end.result.0 in
    let text : List ℕ = c.args.text.now in
    let run = run_found text start end c.requires.token c.requires.digit c.spelled_from-end.ensures.end in
    let count : length (slice_range text start end) ≡ end - start =
    length-take-le (end - start) (drop start text) (omega (arith, length-drop start text, run.inside)) in
    c.integer_told.ensures
    ∙ ap (integer_told (end - start)) c.spelled_from-end.ensures.number
    ∙ ap (λ (n : ℕ). integer_told n (number_of (slice_range text start end))) (sym count)
    ∙ sym (ap integer_of (run.digits c.if-text-end-eq72.false))
