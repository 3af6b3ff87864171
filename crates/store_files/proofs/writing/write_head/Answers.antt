use Rattle.std.proofs.Common.{◌≤◌, ℕ, List, length, sym, subst, ap, arith}
use Rattle.kom_disk.proofs.Moments.{one_call, in_turn}
use Rattle.store_files.specs.Writing.{IsNoStore}
use Rattle.store_files.proofs.Reading.{no_short}
use Rattle.store_files.proofs.Steps.{left_short}
use Rattle.store_files.proofs.writing.write_head.Goals as goal

pub returns-in_err-write_at-clause-any_moment : goal.returns-in_err-write_at-clause-any_moment
returns-in_err-write_at-clause-any_moment g c told =
    let start = c.args.disk.now in
    let mid = c.write_at.new.self in
    let bytes = g.D.Disk.bytes start in
    let stable = c.requires.stable told in
    let short : length bytes ≤ 16 =
    subst (λ (n : ℕ). n ≤ 16) (g.met.D.Disk.counts_bytes start told) c.requires.short in
    one_call g.D.Disk.moment g.D.Disk.images_at g.D.Disk.tells told start mid IsNoStore c.write_at.ensures.time
    (λ at image left. subst (IsNoStore at)
    (sym (stable image ((g.met.D.Disk.images_now start image told).0 left))) (no_short at bytes (omega (arith, short))))
    (λ at image left. left_short bytes (g.D.Disk.images start) (g.D.Disk.images mid) stable _ at short
    (ap length c.head_bytes.ensures) (c.write_at.ensures.stop told) image
    ((g.met.D.Disk.images_now mid image told).0 left))

pub returns-clause-any_moment : goal.returns-clause-any_moment
returns-clause-any_moment g c told =
    let start = c.args.disk.now in
    let mid = c.write_at.new.self in
    let end = c.sync.new.self in
    let bytes = g.D.Disk.bytes start in
    let stable = c.requires.stable told in
    let short : length bytes ≤ 16 =
    subst (λ (n : ℕ). n ≤ 16) (g.met.D.Disk.counts_bytes start told) c.requires.short in
    let then : (at : ℕ) (image : List ℕ) → g.D.Disk.images mid image → IsNoStore at image =
    λ at. left_short bytes (g.D.Disk.images start) (g.D.Disk.images mid) stable _ at short
    (ap length c.head_bytes.ensures) (c.write_at.ensures.stop told) in
    in_turn g.D.Disk.moment g.D.Disk.images_at start mid end IsNoStore
    (one_call g.D.Disk.moment g.D.Disk.images_at g.D.Disk.tells told start mid IsNoStore c.write_at.ensures.time
    (λ at image left. subst (IsNoStore at)
    (sym (stable image ((g.met.D.Disk.images_now start image told).0 left))) (no_short at bytes (omega (arith, short))))
    (λ at image left. then at image ((g.met.D.Disk.images_now mid image told).0 left)))
    (one_call g.D.Disk.moment g.D.Disk.images_at g.D.Disk.tells told mid end IsNoStore c.sync.ensures.time
    (λ at image left. then at image ((g.met.D.Disk.images_now mid image told).0 left))
    (λ at image left. then at image (c.sync.ensures.stop told image ((g.met.D.Disk.images_now end image told).0 left))))
