use Rattle.std.proofs.Common.{◌≡◌, rules, inl, List, ℕ, ap}
use Rattle.disk_example.specs.Cell.{content_of, other_of, IsEither}
use Rattle.disk_example.proofs.Ends.{ends}
use Rattle.disk_example.proofs.Slots.{left_of_name}
use Rattle.disk_example.proofs.cell.Cell.name_other.Goals as goal

pub returns-in_err-write_at-clause-any_moment : goal.returns-in_err-write_at-clause-any_moment
returns-in_err-write_at-clause-any_moment g c told =
    let s = c.requires told in
    let start = c.args.self.now.disk in
    let laws = c.calls_in_turn.ensures in
    let first : (image : List ℕ) → g.D.Disk.images start image
    → IsEither (content_of (g.D.Disk.bytes start)) (other_of (g.D.Disk.bytes start)) 0 image = λ image left. inl
    (ap content_of (s.stable image left)) in
    let torn =
    left_of_name (g.D.Disk.bytes start) (g.D.Disk.images start) (g.D.Disk.images c.write_at.new.self) s.stable
    (c.write_at.ensures.stop told) in
    laws.goes_on told start start c.write_at.new.self (laws.begins told start first) c.write_at.ensures.time
    (record { before = λ at image from to. first image; after = λ at image from to. torn image })

pub returns-in_err-sync-clause-any_moment : goal.returns-in_err-sync-clause-any_moment
returns-in_err-sync-clause-any_moment g c told =
    let s = c.requires told in
    let start = c.args.self.now.disk in
    let laws = c.calls_in_turn.ensures in
    let first : (image : List ℕ) → g.D.Disk.images start image
    → IsEither (content_of (g.D.Disk.bytes start)) (other_of (g.D.Disk.bytes start)) 0 image = λ image left. inl
    (ap content_of (s.stable image left)) in
    let torn =
    left_of_name (g.D.Disk.bytes start) (g.D.Disk.images start) (g.D.Disk.images c.write_at.new.self) s.stable
    (c.write_at.ensures.stop told) in
    let written =
    laws.goes_on told start start c.write_at.new.self (laws.begins told start first) c.write_at.ensures.time
    (record { before = λ at image from to. first image; after = λ at image from to. torn image }) in
    laws.goes_on told start c.write_at.new.self c.sync.new.self written c.sync.ensures.time
    (record {
      before = λ at image from to. torn image;
      after = λ at image from to left. torn image
          (c.sync.ensures.stop told image left);
    })

pub returns-clause-any_moment : goal.returns-clause-any_moment
returns-clause-any_moment g c told =
    let s = c.requires told in
    let start = c.args.self.now.disk in
    let laws = c.calls_in_turn.ensures in
    let first : (image : List ℕ) → g.D.Disk.images start image
    → IsEither (content_of (g.D.Disk.bytes start)) (other_of (g.D.Disk.bytes start)) 0 image = λ image left. inl
    (ap content_of (s.stable image left)) in
    let torn =
    left_of_name (g.D.Disk.bytes start) (g.D.Disk.images start) (g.D.Disk.images c.write_at.new.self) s.stable
    (c.write_at.ensures.stop told) in
    let written =
    laws.goes_on told start start c.write_at.new.self (laws.begins told start first) c.write_at.ensures.time
    (record { before = λ at image from to. first image; after = λ at image from to. torn image }) in
    laws.goes_on told start c.write_at.new.self c.sync.new.self written c.sync.ensures.time
    (record {
      before = λ at image from to. torn image;
      after = λ at image from to left. torn image
          (c.sync.ensures.stop told image left);
    })

pub returns-clause-changed : goal.returns-clause-changed
returns-clause-changed g c told =
    let start = c.args.self.now.disk in
    let last = c.sync.new.self in
    let holds : content_of (g.D.Disk.bytes last) ≡ other_of (g.D.Disk.bytes start) = search rules in
    ends g.D.Disk.moment g.D.Disk.images_at start last (g.D.Disk.images last) (g.D.Disk.bytes last)
    (content_of (g.D.Disk.bytes start)) (other_of (g.D.Disk.bytes start))
    (returns-clause-any_moment g c told) (λ image left. (g.met.D.Disk.images_now last image told).0 left)
    (c.in_ok-sync.ensures.durable told) holds
