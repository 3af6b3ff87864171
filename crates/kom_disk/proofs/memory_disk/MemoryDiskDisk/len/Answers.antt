use Rattle.std.proofs.Common.{rules, sym, ◌∙◌}
use Rattle.kom_disk.proofs.Replay.{looked, nothing_read, nothing_adds, on_err}
use Rattle.kom_disk.proofs.memory_disk.MemoryDiskDisk.len.Goals as goal

pub invariant_of-self : goal.invariant_of-self
invariant_of-self c =
    let nothing =
    looked c.args.self.now.calls.steps.items c.begin.new.self.steps.items c.begin.result c.begin.ensures.kept
    c.begin.ensures.failed in
    record {
      roomy = c.args.self.now.roomy;
      replayed = c.args.self.now.replayed
          ∙ sym (nothing_read c.args.self.now.start.items _ _ nothing);
    }

pub returns-in_err-begin-clause-stop : goal.returns-in_err-begin-clause-stop
returns-in_err-begin-clause-stop c =
    let nothing =
    looked c.args.self.now.calls.steps.items c.begin.new.self.steps.items c.begin.result c.begin.ensures.kept
    c.begin.ensures.failed in
    nothing_adds c.args.self.now.start.items _ _ nothing

pub returns-clause-stop : goal.returns-clause-stop
returns-clause-stop c =
    let nothing =
    looked c.args.self.now.calls.steps.items c.begin.new.self.steps.items c.begin.result c.begin.ensures.kept
    c.begin.ensures.failed in
    nothing_adds c.args.self.now.start.items _ _ nothing

pub returns-in_err-begin-clause-script : goal.returns-in_err-begin-clause-script
returns-in_err-begin-clause-script c =
    let nothing =
    looked c.args.self.now.calls.steps.items c.begin.new.self.steps.items c.begin.result c.begin.ensures.kept
    c.begin.ensures.failed in
    record {
      numbered = c.begin.ensures.numbered;
      fails = λ due. search rules;
      kept = search rules;
      bytes_left = λ none. search rules;
      images_left =
          λ none. on_err c.from_residual.result _
          (nothing_adds c.args.self.now.start.items c.args.self.now.calls.steps.items c.begin.new.self.steps.items
          nothing);
      same_fails = c.begin.ensures.same_fails;
      same_stop = c.begin.ensures.same_stop;
      same_room = search rules;
      same_part = search rules;
    }
