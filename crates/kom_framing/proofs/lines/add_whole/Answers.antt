use Rattle.std.proofs.Common.{◌≡◌, ◌+◌, ◌-◌, ◌++◌, [], ◌∷◌, List, ℕ, length, take, sym, ap, subst, ◌∙◌, arith}
use Rattle.std.proofs.lemmas.Bool.Decides.{nat_tests}
use Rattle.kom_types.specs.declared.side.Side.TheVariants as sides
use Rattle.kom_types.specs.Stream as stream
use Rattle.kom_framing.specs.declared.units.Unit.{Unit as StreamUnit}
use Rattle.kom_framing.specs.declared.units.Unit.TheVariants as unit
use Rattle.kom_framing.specs.Spans.{tokens_of, AreTokens}
use Rattle.kom_framing.proofs.BegunLines.{IsWindow}
use Rattle.kom_framing.proofs.WholeTokens.{nothing_there}
use Rattle.kom_framing.proofs.WholeLines.{adds_whole, unit_added, none_added}
use Rattle.kom_framing.proofs.lines.add_whole.Goals as goal

pub text_of-requires : goal.text_of-requires
text_of-requires c =
    let ends = (rw c.in-Some.is at c.in_ok-whole_line.ensures) sides.Client in
    ends.within

pub overflow_sub-end : goal.overflow_sub-end
overflow_sub-end c =
    let ends = (rw c.in-Some.is at c.in_ok-whole_line.ensures) sides.Client in
    omega (arith, ends.some)

pub overflow_add-end : goal.overflow_add-end
overflow_add-end c =
    let ends = (rw c.in-Some.is at c.in_ok-whole_line.ensures) sides.Client in
    omega (arith, ends.within, c.window_of-window.ensures.place)

pub of-requires : goal.of-requires
of-requires c =
    let ends = (rw c.in-Some.is at c.in_ok-whole_line.ensures) sides.Client in
    subst (λ (t : List ℕ). AreTokens t c.whole_line.new.starts.items) (sym c.in_ok-text-in-Some.ensures) ends.whole

pub returns-then-is_empty : goal.returns-then-is_empty
returns-then-is_empty c =
    let w : IsWindow c.window_of-window.result.now c.args.piece.now = record {
      prefix = c.window_of-window.ensures.prefix;
      within = c.window_of-window.ensures.within;
    } in
    let none : length c.whole_line.new.starts.items ≡ 0 = grind (arith, nat_tests) in
    adds_whole c.args.place c.in-Some.count c.window_of-window.result.now c.args.piece.now
    c.whole_line.new.starts.items c.args.units.now.items c.args.units.now.items w c.window_of-window.ensures.place
    (omega (arith, c.window_of-window.ensures.short)) (rw c.in-Some.is at c.in_ok-whole_line.ensures)
    (none_added c.args.units.now.items (take c.in-Some.count c.window_of-window.result.now)
    c.whole_line.new.starts.items (c.args.place + c.in-Some.count - 1)
    (nothing_there c.whole_line.new.starts.items none))

pub returns-in_ok-reserve-in-Some : goal.returns-in_ok-reserve-in-Some
returns-in_ok-reserve-in-Some c =
    let w : IsWindow c.window_of-window.result.now c.args.piece.now = record {
      prefix = c.window_of-window.ensures.prefix;
      within = c.window_of-window.ensures.within;
    } in
    let units : List StreamUnit = c.args.units.now.items in
    let starts : List ℕ = c.whole_line.new.starts.items in
    let end : ℕ = c.args.place + c.in-Some.count - 1 in
    let some : starts ≡ [] → ⊥ = λ (e : starts ≡ []). let none : length starts ≡ 0 = ap length e in
    grind (arith, nat_tests) in
    adds_whole c.args.place c.in-Some.count c.window_of-window.result.now c.args.piece.now starts units
    c.push_back_reserved.new.self.items w c.window_of-window.ensures.place
    (omega (arith, c.window_of-window.ensures.short)) (rw c.in-Some.is at c.in_ok-whole_line.ensures)
    (c.push_back_reserved.ensures.items
    ∙ ap (λ (us : List StreamUnit). us ++ unit.Line c.of.result ∷ []) c.reserve.ensures.items
    ∙ ap (λ (l : stream.Line). units ++ unit.Line l ∷ []) c.of.ensures
    ∙ ap (λ (t : List ℕ). units ++ unit.Line (record { tokens = tokens_of t starts; end = end }) ∷ [])
    c.in_ok-text-in-Some.ensures
    ∙ unit_added units (take c.in-Some.count c.window_of-window.result.now) starts end some)
