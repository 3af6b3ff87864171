use Rattle.std.proofs.Common.{◌≡◌, List, ℕ, OnOk, subst}
use Rattle.kom_disk.proofs.Moments.{in_turn}
use Rattle.store_files.specs.Writing.{IsNoStore}
use Rattle.store_files.proofs.Steps.{zeros_after, head_shut, on_ok}
use Rattle.store_files.proofs.writing.write_front.Goals as goal

pub returns-clause-written : goal.returns-clause-written
returns-clause-written g c told =
    let generation = c.args.generation in
    let end = c.write_behind.new.disk in
    subst (λ (l : List ℕ). OnOk c.write_behind.result (g.D.Disk.bytes end ≡ l))
    (zeros_after generation (g.D.Disk.bytes c.write_head.new.disk) (c.in_ok-write_head.ensures.written told).is)
    (c.write_behind.ensures.written told)

pub returns-clause-shut : goal.returns-clause-shut
returns-clause-shut g c told =
    let generation = c.args.generation in
    let mid = c.write_head.new.disk in
    let first = head_shut generation (g.D.Disk.bytes mid) (g.D.Disk.images mid)
    (c.in_ok-write_head.ensures.written told) in
    on_ok c.write_behind.result (c.write_behind.ensures.shut told generation first)

pub returns-clause-any_moment : goal.returns-clause-any_moment
returns-clause-any_moment g c told =
    let generation = c.args.generation in
    let mid = c.write_head.new.disk in
    let first = head_shut generation (g.D.Disk.bytes mid) (g.D.Disk.images mid)
    (c.in_ok-write_head.ensures.written told) in
    in_turn g.D.Disk.moment g.D.Disk.images_at c.args.disk.now mid c.write_behind.new.disk IsNoStore
    (c.write_head.ensures.any_moment told)
    (c.write_behind.ensures.any_moment told generation first)
