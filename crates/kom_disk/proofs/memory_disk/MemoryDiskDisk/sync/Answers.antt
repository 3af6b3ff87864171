use Rattle.std.proofs.Common.{rules, sym, ◌∙◌}
use Rattle.kom_disk.proofs.Replay.{synced_read, synced_only, synced_adds, failed_adds, synced_kept}
use Rattle.kom_disk.proofs.memory_disk.MemoryDiskDisk.sync.Goals as goal

pub invariant_of-self : goal.invariant_of-self
invariant_of-self c =
    record {
      roomy = c.args.self.now.roomy;
      replayed = c.args.self.now.replayed
          ∙ sym (synced_read c.args.self.now.start.items c.args.self.now.calls.steps.items c.begin.new.self.steps.items
          c.begin.result c.begin.ensures.kept c.begin.ensures.failed);
    }

pub returns-clause-durable : goal.returns-clause-durable
returns-clause-durable c =
    synced_only c.args.self.now.start.items c.args.self.now.calls.steps.items c.begin.new.self.steps.items
    c.args.self.now.bytes.items c.begin.result c.args.self.now.replayed c.begin.ensures.kept

pub returns-clause-stop : goal.returns-clause-stop
returns-clause-stop c =
    synced_adds c.args.self.now.start.items c.args.self.now.calls.steps.items c.begin.new.self.steps.items
    c.begin.result c.begin.ensures.kept c.begin.ensures.failed

pub returns-clause-script : goal.returns-clause-script
returns-clause-script c = record {
  numbered = c.begin.ensures.numbered;
  fails = c.begin.ensures.fails;
  kept =
      synced_kept c.args.self.now.start.items c.args.self.now.calls.steps.items c.begin.new.self.steps.items
      c.begin.result c.begin.ensures.kept;
  bytes_left = λ none. search rules;
  images_left =
      λ none. failed_adds c.args.self.now.start.items c.args.self.now.calls.steps.items c.begin.new.self.steps.items
      c.begin.result c.begin.ensures.failed;
  same_fails = c.begin.ensures.same_fails;
  same_stop = c.begin.ensures.same_stop;
  same_room = search rules;
  same_part = search rules;
}
