use Rattle.std.proofs.Common.{rules, ℕ, List, take, sym, ◌∙◌, ap, arith}
use Rattle.kom_disk.specs.declared.step.Step.TheVariants.{Cut}
use Rattle.kom_disk.proofs.Replay.{nothing_read, nothing_adds, on_err, cut_failed, read_more, cut_by}
use Rattle.kom_disk.proofs.memory_disk.MemoryDiskDisk.cut.Goals as goal

pub invariant_of-self : goal.invariant_of-self
invariant_of-self c =
    record {
      roomy = c.args.self.now.roomy;
      replayed = c.args.self.now.replayed
          ∙ sym (nothing_read c.args.self.now.start.items _ _ c.in_err-begin.ensures.failed);
    }

pub returns-in_err-begin-clause-stop : goal.returns-in_err-begin-clause-stop
returns-in_err-begin-clause-stop c = cut_failed c.args.self.now.start.items _ _ c.args.len c.in_err-begin.ensures.failed

pub invariant_of-self-2 : goal.invariant_of-self-2
invariant_of-self-2 c =
    let more =
    read_more c.args.self.now.start.items c.args.self.now.calls.steps.items c.begin.new.self.steps.items
    (Cut c.args.len) c.in_ok-begin.ensures.kept in
    record {
      roomy = omega (arith, c.truncate.ensures.capacity, c.args.self.now.roomy);
      replayed = c.truncate.ensures.items ∙ ap (λ (l : List ℕ). take c.args.len l) c.args.self.now.replayed
          ∙ sym more;
    }

pub returns-clause-stop : goal.returns-clause-stop
returns-clause-stop c = cut_by c.args.self.now.start.items _ _ c.args.len c.in_ok-begin.ensures.kept

pub returns-in_err-begin-clause-script : goal.returns-in_err-begin-clause-script
returns-in_err-begin-clause-script c = record {
  numbered = c.begin.ensures.numbered;
  fails = λ due. search rules;
  kept = search rules;
  bytes_left = λ none. search rules;
  images_left =
      λ none. on_err c.from_residual.result _
      (nothing_adds c.args.self.now.start.items c.args.self.now.calls.steps.items c.begin.new.self.steps.items
      c.in_err-begin.ensures.failed);
  same_fails = c.begin.ensures.same_fails;
  same_stop = c.begin.ensures.same_stop;
  same_room = search rules;
  same_part = search rules;
}
