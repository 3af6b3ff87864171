use Rattle.std.proofs.Common.{◌≡◌, ◌+◌, [], ◌∷◌, ◌++◌, length, ap, ◌∙◌, arith}
use Rattle.kom_disk.proofs.Moments.{one_call, in_turn}
use Rattle.kom_disk.specs.Disk.{overwritten}
use Rattle.batch_log.proofs.Torn.{stable_as}
use Rattle.batch_log.specs.Batches.{with_length}
use Rattle.store_files.specs.Heads.{head_of}
use Rattle.store_files.specs.Writing.{IsNoStore}
use Rattle.store_files.proofs.Reading.{no_shut}
use Rattle.store_files.proofs.Steps.{more_snapshot, with_len, length-unfinished}
use Rattle.store_files.proofs.writing.write_length.Goals as goal

pub returns-in_err-write_behind-clause-any_moment : goal.returns-in_err-write_behind-clause-any_moment
returns-in_err-write_behind-clause-any_moment g c told generation shut =
    c.write_behind.ensures.any_moment told generation shut

pub returns-in_err-write_behind-2-clause-any_moment : goal.returns-in_err-write_behind-2-clause-any_moment
returns-in_err-write_behind-2-clause-any_moment g c told generation shut =
    in_turn g.D.Disk.moment g.D.Disk.images_at c.args.disk.now c.write_behind.new.disk c.write_behind-2.new.disk
    IsNoStore
    (c.write_behind.ensures.any_moment told generation shut)
    (c.write_behind-2.ensures.any_moment told generation (c.write_behind.ensures.shut told generation shut))

pub returns-clause-any_moment : goal.returns-clause-any_moment
returns-clause-any_moment g c told generation shut =
    let start = c.args.disk.now in
    let ended = c.write_behind.new.disk in
    let counted = c.write_behind-2.new.disk in
    let end = c.sync.new.self in
    let first = c.write_behind.ensures.shut told generation shut in
    let then = c.write_behind-2.ensures.shut told generation first in
    in_turn g.D.Disk.moment g.D.Disk.images_at start counted end IsNoStore
    (in_turn g.D.Disk.moment g.D.Disk.images_at start ended counted IsNoStore
    (c.write_behind.ensures.any_moment told generation shut)
    (c.write_behind-2.ensures.any_moment told generation first))
    (one_call g.D.Disk.moment g.D.Disk.images_at g.D.Disk.tells told counted end IsNoStore c.sync.ensures.time
    (λ at image left. no_shut generation 0 at image (then image ((g.met.D.Disk.images_now counted image told).0 left)))
    (λ at image left. no_shut generation 0 at image (then image (c.sync.ensures.stop told image
    ((g.met.D.Disk.images_now end image told).0 left)))))

pub returns-clause-written : goal.returns-clause-written
returns-clause-written g c told generation snapshot is =
    let start = c.args.disk.now in
    let ended = c.write_behind.new.disk in
    let counted = c.write_behind-2.new.disk in
    let end = c.sync.new.self in
    let len = c.args.len in
    let bytes = g.D.Disk.bytes start in
    let at : 33 + len ≡ length bytes =
    omega (arith, c.requires.ends.0, g.met.D.Disk.counts_bytes start told) in
    let long : len ≡ length snapshot = omega (arith, at, length-unfinished generation bytes snapshot is) in
    let first = c.in_ok-write_behind.ensures.written told
    ∙ more_snapshot generation (33 + len) bytes snapshot (0 ∷ []) at is in
    let then = c.in_ok-write_behind-2.ensures.written told
    ∙ ap (overwritten (g.D.Disk.bytes ended) 25) c.to_le_bytes.ensures
    ∙ with_len generation len (g.D.Disk.bytes ended) snapshot first long in
    stable_as (g.D.Disk.bytes end) (head_of generation ++ 0 ∷ with_length snapshot ++ 0 ∷ [])
    (c.sync.ensures.bytes told ∙ then) (g.D.Disk.images end) c.sync.result (c.sync.ensures.durable told)
