use Rattle.std.proofs.Common.{rules, arith, ◌≡◌, ◌∙◌, ◌++◌, take, map, option_map, Some, refl, ap}
use Rattle.memory_links.specs.Memories.{look_of}
use Rattle.memory_links.proofs.Scripted.{not_failing, failure_first, no_wait}
use Rattle.memory_links.proofs.Told.{same_told}
use Rattle.memory_links.proofs.memory_link.MemoryLink.write_free.Goals as goal
use Rattle.memory_links.proofs.memory_link.MemoryLink.write_free.Goals.{then-self-gt0, else-self-gt0}

pub returns-then-contains-clause-not_yet : goal.returns-then-contains-clause-not_yet
returns-then-contains-clause-not_yet c =
    failure_first c.args.self.now.plan.writes c.args.self.now.writes (λ e. cc) (search rules)

pub returns-then-is_err-clause-not_yet : goal.returns-then-is_err-clause-not_yet
returns-then-is_err-clause-not_yet c =
    no_wait c.args.self.now.plan.writes c.args.self.now.writes (λ e. cc) (search rules)

pub returns-clause-not_yet : goal.returns-clause-not_yet
returns-clause-not_yet c = no_wait c.args.self.now.plan.writes c.args.self.now.writes (λ e. cc) (search rules)

pub returns-then-contains-2-clause-failed : goal.returns-then-contains-2-clause-failed
returns-then-contains-2-clause-failed c =
    not_failing c.args.self.now.plan.writes.fails.items c.args.self.now.writes (search rules)

pub returns-clause-failed : goal.returns-clause-failed
returns-clause-failed c = not_failing c.args.self.now.plan.writes.fails.items c.args.self.now.writes (search rules)

pub returns-clause-writes : goal.returns-clause-writes
returns-clause-writes c =
    let put : c.extend_from_slice.new.self.items ≡ c.args.self.now.output.items
    ++ take c.if-self-gt0.count c.args.from.now = search rules in
    record {
      may = (
        elim c.if-self-gt0.branch [ then-self-gt0 w ↦ omega arith | else-self-gt0 w ↦ omega arith ],
        elim c.if-self-gt0.branch [ then-self-gt0 w ↦ omega arith | else-self-gt0 w ↦ omega arith ],
      );
      put = ap Some put;
      taken = refl;
      left = refl;
      ended = refl;
      faults = omega arith;
      host = refl;
      reads = ap (λ output. option_map (map (look_of c.args.self.now.input.items output)) c.args.self.now.log) put
          ∙ same_told c.args.self.now.input.items c.args.self.now.output.items
          (take c.if-self-gt0.count c.args.from.now) c.args.self.now.log c.args.self.now.told;
    }
