use Rattle.std.proofs.Common.{◌≡◌, ◌≤◌, ℕ, Bool, true, false, List, length, take, drop, if◌then◌else◌, ◌∙◌, arith, ap}
use Rattle.std.proofs.Common.{subst}
use Rattle.kom_disk.specs.Disk.{overwritten, IsTorn}
use Rattle.disk_example.specs.Cell.{content_of}
use Rattle.disk_example.proofs.Slots.{left_of_other, written_other}
use Rattle.disk_example.proofs.cell.Cell.write_other.Goals as goal

within_slots : (is_second : Bool) (at n : ℕ) → at ≡ (if is_second then 1 else 9) → 17 ≤ n → at ≤ n
within_slots true at n is long = omega (arith, is, long)
within_slots false at n is long = omega (arith, is, long)

pub returns-in_err-write_at-clause-any_moment : goal.returns-in_err-write_at-clause-any_moment
returns-in_err-write_at-clause-any_moment g c told =
    let s = c.requires told in
    let start = c.args.self.now.disk in
    let laws = c.calls_in_turn.ensures in
    let first : (image : List ℕ) → g.D.Disk.images start image → content_of image ≡ content_of (g.D.Disk.bytes start) =
    λ image left. ap content_of (s.stable image left) in
    let torn =
    left_of_other (g.D.Disk.bytes start) (g.D.Disk.images start) (g.D.Disk.images c.write_at.new.self) s.stable
    c.args.self.now.is_second c.other_slot.result c.args.content.now s.named c.other_slot.ensures c.told-content
    (c.write_at.ensures.stop told) in
    laws.goes_on told start start c.write_at.new.self (laws.begins told start first) c.write_at.ensures.time
    (record { before = λ at image from to. first image; after = λ at image from to. torn image })

pub returns-clause-any_moment : goal.returns-clause-any_moment
returns-clause-any_moment g c told =
    let s = c.requires told in
    let start = c.args.self.now.disk in
    let laws = c.calls_in_turn.ensures in
    let first : (image : List ℕ) → g.D.Disk.images start image → content_of image ≡ content_of (g.D.Disk.bytes start) =
    λ image left. ap content_of (s.stable image left) in
    let torn =
    left_of_other (g.D.Disk.bytes start) (g.D.Disk.images start) (g.D.Disk.images c.write_at.new.self) s.stable
    c.args.self.now.is_second c.other_slot.result c.args.content.now s.named c.other_slot.ensures c.told-content
    (c.write_at.ensures.stop told) in
    let written =
    laws.goes_on told start start c.write_at.new.self (laws.begins told start first) c.write_at.ensures.time
    (record { before = λ at image from to. first image; after = λ at image from to. torn image }) in
    laws.goes_on told start c.write_at.new.self c.sync.new.self written c.sync.ensures.time
    (record {
      before = λ at image from to. torn image;
      after = λ at image from to left. torn image
          (c.sync.ensures.stop told image left);
    })

pub returns-clause-written : goal.returns-clause-written
returns-clause-written g c told =
    let s = c.requires told in
    let start = c.args.self.now.disk in
    let file = g.D.Disk.bytes start in
    let content = c.args.content.now in
    let at = c.other_slot.result in
    let within : at ≤ length file =
    within_slots c.args.self.now.is_second at (length file) c.other_slot.ensures
    (subst (λ (n : ℕ). 17 ≤ n) (g.met.D.Disk.counts_bytes start told) c.args.self.now.is_long) in
    let torn : IsTorn at 8 file (overwritten file at content) =
    subst (λ (n : ℕ). IsTorn at n file (overwritten file at content)) c.told-content
    (c.whole_calls.ensures.write file content at within) in
    let given : take 8 (drop at (overwritten file at content)) ≡ content =
    subst (λ (n : ℕ). take n (drop at (overwritten file at content)) ≡ content) c.told-content
    (c.whole_calls.ensures.written file content at within) in
    written_other file (overwritten file at content) content c.args.self.now.is_second at s.named c.other_slot.ensures
    torn given (g.D.Disk.bytes c.sync.new.self) (c.sync.ensures.bytes told ∙ c.in_ok-write_at.ensures.written told)
    (g.D.Disk.images c.sync.new.self) c.sync.result (c.sync.ensures.durable told)
