use Rattle.kom_disk.proofs.Moments.{in_turn, wider}
use Rattle.store_files.specs.Writing.{IsNoStore, StaysBeside}
use Rattle.store_files.proofs.snapshot_file.begin_file.Goals as goal

pub returns-clause-any_moment : goal.returns-clause-any_moment
returns-clause-any_moment g c told which beside =
    let start = c.args.disk.now in
    let cut = c.cut_to_header.new.disk in
    let end = c.write_front.new.disk in
    let P = StaysBeside which in
    in_turn g.D.Disk.moment g.D.Disk.images_at start cut end P (c.cut_to_header.ensures.any_moment told which beside)
    (wider g.D.Disk.moment g.D.Disk.images_at cut end IsNoStore P (c.write_front.ensures.any_moment told)
    (λ at image from to none. none which))
