use Rattle.std.proofs.Common.{sym, subst}
use Rattle.kom_disk.proofs.Moments.{begins, one_call, in_turn}
use Rattle.store_files.specs.Choices.{IsBeside}
use Rattle.store_files.specs.Writing.{StaysBeside}
use Rattle.store_files.proofs.Steps.{left_cut}
use Rattle.store_files.proofs.cuts.cut_to_header.Goals as goal

pub returns-then-len-le-HEADER-clause-any_moment : goal.returns-then-len-le-HEADER-clause-any_moment
returns-then-len-le-HEADER-clause-any_moment g c told which beside =
    let start = c.args.disk.now in
    begins g.D.Disk.moment g.D.Disk.images_at start (StaysBeside which)
    (λ image left. subst (IsBeside which)
    (sym (c.requires.stable told image ((g.met.D.Disk.images_now start image told).0 left))) beside)

pub returns-in_err-cut-clause-any_moment : goal.returns-in_err-cut-clause-any_moment
returns-in_err-cut-clause-any_moment g c told which beside =
    let start = c.args.disk.now in
    let mid = c.cut.new.self in
    let bytes = g.D.Disk.bytes start in
    let stable = c.requires.stable told in
    one_call g.D.Disk.moment g.D.Disk.images_at g.D.Disk.tells told start mid (StaysBeside which) c.cut.ensures.time
    (λ at image left. subst (IsBeside which)
    (sym (stable image ((g.met.D.Disk.images_now start image told).0 left))) beside)
    (λ at image left. left_cut bytes (g.D.Disk.images start) (g.D.Disk.images mid) stable which beside
    (c.cut.ensures.stop told) image ((g.met.D.Disk.images_now mid image told).0 left))

pub returns-clause-any_moment : goal.returns-clause-any_moment
returns-clause-any_moment g c told which beside =
    let start = c.args.disk.now in
    let mid = c.cut.new.self in
    let end = c.sync.new.self in
    let bytes = g.D.Disk.bytes start in
    let stable = c.requires.stable told in
    let P = StaysBeside which in
    let then = left_cut bytes (g.D.Disk.images start) (g.D.Disk.images mid) stable which beside
    (c.cut.ensures.stop told) in
    in_turn g.D.Disk.moment g.D.Disk.images_at start mid end P
    (one_call g.D.Disk.moment g.D.Disk.images_at g.D.Disk.tells told start mid P c.cut.ensures.time
    (λ at image left. subst (IsBeside which)
    (sym (stable image ((g.met.D.Disk.images_now start image told).0 left))) beside)
    (λ at image left. then image ((g.met.D.Disk.images_now mid image told).0 left)))
    (one_call g.D.Disk.moment g.D.Disk.images_at g.D.Disk.tells told mid end P c.sync.ensures.time
    (λ at image left. then image ((g.met.D.Disk.images_now mid image told).0 left))
    (λ at image left. then image (c.sync.ensures.stop told image ((g.met.D.Disk.images_now end image told).0 left))))
