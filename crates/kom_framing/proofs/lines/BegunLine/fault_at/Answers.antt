use Rattle.std.proofs.Common.{List, ℕ, ◌++◌, take, drop, subst}
use Rattle.kom_framing.specs.declared.lexer.Step.TheVariants as step
use Rattle.kom_framing.specs.Scanning.{Does}
use Rattle.kom_framing.proofs.BegunLines.{fault_unfit, fault_late, fault_long}
use Rattle.kom_framing.proofs.lines.BegunLine.fault_at.Goals as goal

pub returns-in-Unfit : goal.returns-in-Unfit
returns-in-Unfit c =
    fault_unfit c.args.side c.args.place c.args.self.now.text.items c.args.rest.now c.args.self.now.starts.items
    c.args.self.now.lexer c.requires.some c.requires.line.begun
    (subst
    (λ (t : List ℕ). Does c.args.side step.Unfit c.args.self.now.lexer (t ++ take 0 (take 1 c.args.rest.now))
    (drop 0 (take 1 c.args.rest.now)))
    c.as_slice.ensures c.in-Unfit.ensures)

pub returns-in_default : goal.returns-in_default
returns-in_default c =
    fault_long c.args.side c.step.result c.args.place c.args.self.now.text.items c.args.rest.now
    c.args.self.now.starts.items
    c.args.self.now.lexer c.requires.some c.in_default.not-Unfit c.requires.line.begun
    (subst (λ (t : List ℕ). Does c.args.side c.step.result c.args.self.now.lexer (t ++ take 0 (take 1 c.args.rest.now))
    (drop 0 (take 1 c.args.rest.now))) c.as_slice.ensures c.step.ensures)
    c.if-place-lt-LONGEST_STREAM.true (c.requires.full c.if-place-lt-LONGEST_STREAM.true)

pub returns-in_default-2 : goal.returns-in_default-2
returns-in_default-2 c =
    fault_late c.args.side c.args.place c.args.self.now.text.items c.args.rest.now c.requires.some
    c.if-place-lt-LONGEST_STREAM.false
