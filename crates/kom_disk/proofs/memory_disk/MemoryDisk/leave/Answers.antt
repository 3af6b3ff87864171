use Rattle.std.proofs.Common.{Some, ℕ, List, length, sym, ◌∙◌, ap, subst, arith}
use Rattle.kom_disk.specs.Disk.{overwritten, IsTorn}
use Rattle.kom_disk.specs.declared.step.Step.TheVariants.{Write}
use Rattle.kom_disk.proofs.Torn.{torn_whole}
use Rattle.kom_disk.proofs.Replay.{wrote, write_by, write_read, passes_more}
use Rattle.kom_disk.proofs.memory_disk.MemoryDisk.leave.Goals as goal

pub invariant_of-self : goal.invariant_of-self
invariant_of-self c =
    let w =
    wrote c.args.self.now.start.items c.args.at c.args.left.now c.args.self.now.calls.steps.items
    c.keep.new.self.steps.items (Some c.in-Some.step) c.in-Some.ensures.step c.if-keep.ensures.steps in
    record {
      roomy = omega (arith, c.overwrite.ensures.capacity, c.args.self.now.roomy);
      replayed = c.overwrite.ensures.items
          ∙ ap (λ (l : List ℕ). overwritten l c.args.at c.args.left.now) c.args.self.now.replayed
          ∙ sym (write_read c.args.self.now.start.items c.args.at c.args.left.now _ _ w);
    }

pub returns-then-keep-clause-left : goal.returns-then-keep-clause-left
returns-then-keep-clause-left c =
    subst (λ (l : List ℕ). IsTorn c.args.at (length c.args.left.now) c.args.self.now.bytes.items l)
    (sym c.overwrite.ensures.items) (torn_whole c.args.at c.args.left.now c.args.self.now.bytes.items c.requires)

pub returns-then-keep-clause-stop : goal.returns-then-keep-clause-stop
returns-then-keep-clause-stop c =
    let w =
    wrote c.args.self.now.start.items c.args.at c.args.left.now c.args.self.now.calls.steps.items
    c.keep.new.self.steps.items (Some c.in-Some.step) c.in-Some.ensures.step c.if-keep.ensures.steps in
    write_by c.args.self.now.start.items c.args.at c.args.left.now _ _
    (omega (arith, c.requires, ap length c.args.self.now.replayed)) w

pub returns-then-keep-clause-time : goal.returns-then-keep-clause-time
returns-then-keep-clause-time c =
    let w =
    wrote c.args.self.now.start.items c.args.at c.args.left.now c.args.self.now.calls.steps.items
    c.keep.new.self.steps.items (Some c.in-Some.step) c.in-Some.ensures.step c.if-keep.ensures.steps in
    passes_more c.args.self.now.start.items _ _ (Write c.args.at w.copy) w.more
