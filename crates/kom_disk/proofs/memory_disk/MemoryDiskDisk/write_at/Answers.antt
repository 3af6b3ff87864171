use Rattle.std.proofs.Common.{◌≡◌, rules, true, ℕ, List, Vec, length, take, sym, ◌∙◌, ap, subst, arith}
use Rattle.std.specs.declared.alloc.Global.{Global}
use Rattle.kom_disk.specs.Disk.{overwritten, IsTorn, Passes}
use Rattle.kom_disk.specs.MemoryDisk.{images_of, images_after, moment_of}
use Rattle.kom_disk.specs.Steps.{IsImage}
use Rattle.kom_disk.specs.declared.memory_disk.MemoryDisk.{MemoryDisk}
use Rattle.kom_disk.specs.declared.step.Step.{Step}
use Rattle.kom_disk.specs.declared.step.Step.TheVariants.{Write}
use Rattle.kom_disk.proofs.Replay.{nothing_read, nothing_adds, comes_on, passes_on, wrote, write_by, write_read}
use Rattle.kom_disk.proofs.Replay.{passes_more, given_room}
use Rattle.kom_disk.proofs.memory_disk.MemoryDiskDisk.write_at.Goals as goal

pub invariant_of-self-in-Err-1 : goal.invariant_of-self-in-Err-1
invariant_of-self-in-Err-1 c =
    record {
      roomy = c.args.self.now.roomy;
      replayed = c.args.self.now.replayed
          ∙ sym (nothing_read c.args.self.now.start.items _ _ c.in-Err.ensures.failed);
    }

pub returns-in-Err-clause-stop : goal.returns-in-Err-clause-stop
returns-in-Err-clause-stop c =
    comes_on c.args.self.now.start.items (IsTorn c.args.at (length c.args.from.now)) c.args.self.now.calls.steps.items
    c.begin.new.self.steps.items _ c.in-Err.ensures.failed c.leave_part.ensures.stop

pub returns-in-Err-clause-time : goal.returns-in-Err-clause-time
returns-in-Err-clause-time c =
    let start : List ℕ = c.args.self.now.start.items in
    let mid : List Step = c.begin.new.self.steps.items in
    let last : List Step = c.leave_part.new.self.calls.steps.items in
    let same : c.leave_part.new.self.start.items ≡ start =
    ap (λ (v : Vec ℕ Global). v.items) c.leave_part.ensures.same.2 in
    let P : List ℕ → Type 0 =
    λ (l : List ℕ). Passes true (length mid) (length last) (λ m. IsImage start (take m mid))
    (λ m. IsImage l (take m last)) in
    let Q : List ℕ → Type 0 =
    λ (l : List ℕ). Passes true (moment_of c.args.self.now) (length last) (images_after c.args.self.now)
    (λ m. IsImage l (take m last)) in
    subst Q (sym same)
    (passes_on start c.args.self.now.calls.steps.items mid last c.in-Err.ensures.failed
    (subst P same c.leave_part.ensures.time))

pub returns-in-Err-clause-script : goal.returns-in-Err-clause-script
returns-in-Err-clause-script c = record {
  numbered = search rules;
  fails = λ due. search rules;
  kept = tt;
  bytes_left = λ none. search rules;
  images_left = λ none image left.
      let P : MemoryDisk → Type 0 = λ d. images_of d image in
      nothing_adds c.args.self.now.start.items c.args.self.now.calls.steps.items c.begin.new.self.steps.items
      c.in-Err.ensures.failed image (subst P (c.leave_part.ensures.nothing none) left);
  same_fails = search rules;
  same_stop = search rules;
  same_room = search rules;
  same_part = search rules;
}

pub overwrite-requires-clause-room : goal.overwrite-requires-clause-room
overwrite-requires-clause-room c =
    let fits = given_room c.write_step-step.result _ _ c.in-Ok.ensures.kept c.write_step-step.ensures.fits in
    omega (arith, fits, c.args.self.now.roomy)

pub invariant_of-self : goal.invariant_of-self
invariant_of-self c =
    let w =
    wrote c.args.self.now.start.items c.args.at c.args.from.now c.args.self.now.calls.steps.items
    c.begin.new.self.steps.items c.write_step-step.result c.write_step-step.ensures.step c.in-Ok.ensures.kept in
    record {
      roomy = omega (arith, c.overwrite.ensures.capacity, c.args.self.now.roomy);
      replayed = c.overwrite.ensures.items
          ∙ ap (λ (l : List ℕ). overwritten l c.args.at c.args.from.now) c.args.self.now.replayed
          ∙ sym (write_read c.args.self.now.start.items c.args.at c.args.from.now _ _ w);
    }

pub returns-in-Ok-clause-stop : goal.returns-in-Ok-clause-stop
returns-in-Ok-clause-stop c =
    let w =
    wrote c.args.self.now.start.items c.args.at c.args.from.now c.args.self.now.calls.steps.items
    c.begin.new.self.steps.items c.write_step-step.result c.write_step-step.ensures.step c.in-Ok.ensures.kept in
    write_by c.args.self.now.start.items c.args.at c.args.from.now _ _
    (omega (arith, c.requires, ap length c.args.self.now.replayed)) w

pub returns-in-Ok-clause-time : goal.returns-in-Ok-clause-time
returns-in-Ok-clause-time c =
    let w =
    wrote c.args.self.now.start.items c.args.at c.args.from.now c.args.self.now.calls.steps.items
    c.begin.new.self.steps.items c.write_step-step.result c.write_step-step.ensures.step c.in-Ok.ensures.kept in
    passes_more c.args.self.now.start.items _ _ (Write c.args.at w.copy) w.more
