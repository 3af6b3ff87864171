use Rattle.std.proofs.Common.{rules, ◌+◌, ◌-◌, ℕ, take, drop, sym, ap, ◌∙◌, arith}
use Rattle.kom_types.specs.Token.{Text}
use Rattle.kom_framing.proofs.PlacedTokens.{run_found}
use Rattle.kom_framing.proofs.line.run_at.Goals as goal

pub bounds-text-end : goal.bounds-text-end
bounds-text-end c =
    (run_found c.args.text.now c.args.start c.end_of_digits-end.result c.requires.token c.requires.digit
    c.end_of_digits-end.ensures).inside

pub number-count-requires : goal.number-count-requires
number-count-requires c =
    (run_found c.args.text.now c.args.start c.end_of_digits-end.result c.requires.token c.requires.digit
    c.end_of_digits-end.ensures).short c.if-text-end-eq72.true

pub overflow_add-result-then-text-end-eq72-2 : goal.overflow_add-result-then-text-end-eq72-2
overflow_add-result-then-text-end-eq72-2 c =
    let run =
    run_found c.args.text.now c.args.start c.end_of_digits-end.result c.requires.token c.requires.digit
    c.end_of_digits-end.ensures in
    omega (arith, c.number-count.ensures, run.within c.if-text-end-eq72.true)

pub slice_bounds-result-end : goal.slice_bounds-result-end
slice_bounds-result-end c =
    let run =
    run_found c.args.text.now c.args.start c.end_of_digits-end.result c.requires.token c.requires.digit
    c.end_of_digits-end.ensures in
    let within = run.within c.if-text-end-eq72.true in
    search rules

pub returns-then-text-end-eq72 : goal.returns-then-text-end-eq72
returns-then-text-end-eq72 c =
    let end : ℕ = c.end_of_digits-end.result in
    let run =
    run_found c.args.text.now c.args.start end c.requires.token c.requires.digit c.end_of_digits-end.ensures in
    ap (λ (n : ℕ). Text (take (end + 1 + n - (end + 1)) (drop (end + 1) c.args.text.now))) c.number-count.ensures
    ∙ sym (run.text c.if-text-end-eq72.true)

pub returns-else-text-end-eq72 : goal.returns-else-text-end-eq72
returns-else-text-end-eq72 c =
    sym ((run_found c.args.text.now c.args.start c.end_of_digits-end.result c.requires.token c.requires.digit
    c.end_of_digits-end.ensures).digits c.if-text-end-eq72.false)
