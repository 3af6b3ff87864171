use Rattle.std.proofs.Common.{◌≡◌, List, ℕ, length, take, refl, sym, subst, ◌∙◌, arith}
use Rattle.std.proofs.lemmas.Bool.Decides.{nat_tests}
use Rattle.std.proofs.lemmas.List.{length-take-le}
use Rattle.kom_framing.specs.BegunLines.{EndsIn}
use Rattle.kom_framing.proofs.WholeTokens.{nothing_there, nothing_starts}
use Rattle.kom_framing.proofs.lines.BegunLine.take_whole.Goals as goal

pub whole_line-requires-clause-fresh : goal.whole_line-requires-clause-fresh
whole_line-requires-clause-fresh c =
    let none : length c.args.self.now.text.items ≡ 0 = grind (arith, nat_tests) in
    nothing_starts c.args.side c.args.self.now.text.items c.args.self.now.starts.items c.args.self.now.lexer
    (nothing_there c.args.self.now.text.items none) c.requires.line.begun

pub slice_bounds-extend_from_slice-end : goal.slice_bounds-extend_from_slice-end
slice_bounds-extend_from_slice-end c =
    let ends = (rw c.in-Some.is at c.in_ok-count.ensures) c.args.side in
    sym (length-take-le c.in-Some.count c.args.window.now ends.within)

pub returns-in_ok-extend_from_slice-in-Some : goal.returns-in_ok-extend_from_slice-in-Some
returns-in_ok-extend_from_slice-in-Some c =
    let none : length c.args.self.now.text.items ≡ 0 = grind (arith, nat_tests) in
    let nothing = nothing_there c.args.self.now.text.items none in
    let fresh =
    nothing_starts c.args.side c.args.self.now.text.items c.args.self.now.starts.items c.args.self.now.lexer nothing
    c.requires.line.begun in
    let ends = (rw c.in-Some.is at c.in_ok-count.ensures) c.args.side in (
      record {
        text = c.in_ok-extend_from_slice-in-Some.ensures.ok;
        extends = subst (λ (s : List ℕ). take (length s) c.whole_line.new.starts.items ≡ s) (sym fresh) refl;
      },
      subst (λ (t : List ℕ). EndsIn c.args.side t c.args.window.now c.whole_line.new.starts.items c.in-Some.count)
          (sym nothing) ends,
    )

pub returns-in-None : goal.returns-in-None
returns-in-None c =
    let none : length c.args.self.now.text.items ≡ 0 = grind (arith, nat_tests) in
    let fresh =
    nothing_starts c.args.side c.args.self.now.text.items c.args.self.now.starts.items c.args.self.now.lexer
    (nothing_there c.args.self.now.text.items none) c.requires.line.begun in
    record { text = refl; starts = c.clear.ensures.items ∙ sym fresh; lexer = refl }
