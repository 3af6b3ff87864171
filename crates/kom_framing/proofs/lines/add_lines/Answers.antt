use Rattle.std.proofs.Common.{◌≡◌, ◌+◌, List, ℕ, length, drop, subst, arith}
use Rattle.kom_framing.specs.WholeLines.{AddsTo, AddsUpTo}
use Rattle.kom_framing.proofs.WholeLines.{piece_left, adds_none, adds_further}
use Rattle.kom_framing.proofs.lines.add_lines.Goals as goal

pub loop-at-init : goal.loop-at-init
loop-at-init c = adds_none c.args.place c.args.piece.now c.args.units.now.items c.requires.early

pub loop-at-preserved : goal.loop-at-preserved
loop-at-preserved c =
    let adds : AddsTo c.in-Some.count (c.args.place + c.loop-at.at) (drop c.loop-at.at c.args.piece.now)
    c.loop-at.units.items c.add_whole.new.units.items =
    subst (λ (rest : List ℕ). AddsTo c.in-Some.count (c.args.place + c.loop-at.at) rest
    c.loop-at.units.items c.add_whole.new.units.items) (piece_left c.args.piece.now c.loop-at.at)
    (rw c.in-Some.is at c.in_ok-count.ensures) in
    adds_further c.loop-at.at c.in-Some.count c.args.place c.args.piece.now c.args.units.now.items
    c.loop-at.units.items c.add_whole.new.units.items c.loop-at.invariant adds

pub returns-clause-all : goal.returns-clause-all
returns-clause-all c = λ e.
    let within = c.loop-at.invariant.within in
    let here : c.loop-at.at ≡ length c.args.piece.now = omega (arith, within, c.loop-at-test.false) in
    subst (λ (n : ℕ). AddsUpTo n c.args.place c.args.piece.now c.args.units.now.items c.loop-at.units.items) here
    c.loop-at.invariant
