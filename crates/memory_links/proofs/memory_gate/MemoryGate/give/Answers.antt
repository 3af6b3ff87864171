use Rattle.std.proofs.Common.{rules}
use Rattle.memory_links.proofs.Scripted.{no_failure, failure_first, no_wait}
use Rattle.memory_links.proofs.memory_gate.MemoryGate.give.Goals as goal

pub returns-then-contains-clause-not_yet : goal.returns-then-contains-clause-not_yet
returns-then-contains-clause-not_yet c =
    failure_first c.args.self.now.plan c.args.self.now.calls (λ e. cc) (search rules)

pub returns-then-contains-2-clause-failed : goal.returns-then-contains-2-clause-failed
returns-then-contains-2-clause-failed c =
    no_failure c.args.self.now.plan.fails.items c.args.self.now.calls (λ e. cc) (search rules)

pub returns-in-Some-clause-failed : goal.returns-in-Some-clause-failed
returns-in-Some-clause-failed c =
    no_failure c.args.self.now.plan.fails.items c.args.self.now.calls (λ e. cc) (search rules)

pub returns-in-Some-clause-not_yet : goal.returns-in-Some-clause-not_yet
returns-in-Some-clause-not_yet c = no_wait c.args.self.now.plan c.args.self.now.calls (λ e. cc) (search rules)

pub returns-in-None-clause-failed : goal.returns-in-None-clause-failed
returns-in-None-clause-failed c =
    no_failure c.args.self.now.plan.fails.items c.args.self.now.calls (λ e. cc) (search rules)

pub returns-in-None-clause-not_yet : goal.returns-in-None-clause-not_yet
returns-in-None-clause-not_yet c = no_wait c.args.self.now.plan c.args.self.now.calls (λ e. cc) (search rules)
