use Rattle.std.proofs.Common.{ℕ, ◌++◌, ◌+◌, List, take, arith, sym, subst}
use Rattle.kom_framing.specs.Scanning.{IsBegun}
use Rattle.kom_framing.specs.BegunLines.{Extends, EndsIn}
use Rattle.kom_framing.proofs.BegunLines.{begun_further, ends_in, unfit_in, extends_more, seen_within}
use Rattle.kom_framing.proofs.lines.read_window.Goals as goal

pub loop-at-preserved : goal.loop-at-preserved
loop-at-preserved c =
    let inv = c.loop-at.invariant in
    let kept = c.in_ok-keep-in-Goes.ensures.ok in
    let goes = c.in-Goes.ensures in
    record {
      within = seen_within c.args.window.now c.loop-at.at c.in-Goes.count (omega arith) goes.within;
      begun =
          subst (λ (s : List ℕ). IsBegun c.args.side
          (c.args.text.now ++ take (c.loop-at.at + c.in-Goes.count) c.args.window.now)
          s c.in-Goes.next) (sym kept)
          (begun_further c.args.side c.args.text.now c.args.window.now c.loop-at.at c.in-Goes.count
          c.loop-at.starts.items
          c.loop-at.lexer c.in-Goes.next c.in-Goes.start inv.begun goes);
      extends = subst (Extends c.args.starts.now.items) (sym kept)
          (extends_more c.args.starts.now.items c.loop-at.starts.items _ inv.extends);
    }

pub returns-in-Ends-clause-reads : goal.returns-in-Ends-clause-reads
returns-in-Ends-clause-reads c =
    subst (λ (s : List ℕ). EndsIn c.args.side c.args.text.now c.args.window.now s (c.loop-at.at + 1))
    (sym c.in_ok-keep-in-Ends.ensures.ok)
    (ends_in c.args.side c.args.text.now c.args.window.now c.loop-at.at c.loop-at.starts.items c.loop-at.lexer
    c.in-Ends.start
    c.loop-at-test.true c.loop-at.invariant.begun c.in-Ends.ensures)

pub returns-in-Unfit-clause-reads : goal.returns-in-Unfit-clause-reads
returns-in-Unfit-clause-reads c =
    unfit_in c.args.side c.args.text.now c.args.window.now c.loop-at.at c.loop-at.starts.items c.loop-at.lexer
    c.loop-at-test.true
    c.loop-at.invariant.begun c.in-Unfit.ensures
