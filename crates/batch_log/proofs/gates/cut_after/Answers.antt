use Rattle.std.proofs.Common.{◌<◌, ℕ, take, length, ◌∙◌, subst, sym}
use Rattle.kom_disk.proofs.Moments.{one_call, in_turn}
use Rattle.batch_log.specs.Gates.{IsShut}
use Rattle.batch_log.proofs.Torn.{left_cut, cut_rest, stable_as}
use Rattle.batch_log.proofs.gates.cut_after.Goals as goal

pub returns-in_err-cut-clause-any_moment : goal.returns-in_err-cut-clause-any_moment
returns-in_err-cut-clause-any_moment g c told =
    let start = c.args.disk.now in
    let mid = c.cut.new.self in
    let place = c.args.place in
    let bytes = g.D.Disk.bytes start in
    let stable = c.requires.stable told in
    let shut = c.requires.closed told in
    let within : place < length bytes =
    subst (λ (n : ℕ). place < n) (g.met.D.Disk.counts_bytes start told) c.requires.within.0 in
    let P = IsShut (take place bytes) in
    one_call g.D.Disk.moment g.D.Disk.images_at g.D.Disk.tells told start mid P c.cut.ensures.time
    (λ at image left. subst (P at) (sym (stable image ((g.met.D.Disk.images_now start image told).0 left))) shut)
    (λ at image left. left_cut bytes (g.D.Disk.images start) (g.D.Disk.images mid) stable place within shut
    (c.cut.ensures.stop told) image ((g.met.D.Disk.images_now mid image told).0 left))

pub returns-clause-any_moment : goal.returns-clause-any_moment
returns-clause-any_moment g c told =
    let start = c.args.disk.now in
    let mid = c.cut.new.self in
    let place = c.args.place in
    let bytes = g.D.Disk.bytes start in
    let stable = c.requires.stable told in
    let shut = c.requires.closed told in
    let within : place < length bytes =
    subst (λ (n : ℕ). place < n) (g.met.D.Disk.counts_bytes start told) c.requires.within.0 in
    let P = IsShut (take place bytes) in
    let then = left_cut bytes (g.D.Disk.images start) (g.D.Disk.images mid) stable place within shut
    (c.cut.ensures.stop told) in
    in_turn g.D.Disk.moment g.D.Disk.images_at start mid c.sync.new.self P
    (one_call g.D.Disk.moment g.D.Disk.images_at g.D.Disk.tells told start mid P c.cut.ensures.time
    (λ at image left. subst (P at) (sym (stable image ((g.met.D.Disk.images_now start image told).0 left))) shut)
    (λ at image left. then image ((g.met.D.Disk.images_now mid image told).0 left)))
    (one_call g.D.Disk.moment g.D.Disk.images_at g.D.Disk.tells told mid c.sync.new.self P c.sync.ensures.time
    (λ at image left. then image ((g.met.D.Disk.images_now mid image told).0 left))
    (λ at image left. then image (c.sync.ensures.stop told image
    ((g.met.D.Disk.images_now c.sync.new.self image told).0 left))))

pub returns-clause-at_rest : goal.returns-clause-at_rest
returns-clause-at_rest g c told =
    let start = c.args.disk.now in
    let place = c.args.place in
    let bytes = g.D.Disk.bytes start in
    let within : place < length bytes =
    subst (λ (n : ℕ). place < n) (g.met.D.Disk.counts_bytes start told) c.requires.within.0 in
    let is = c.sync.ensures.bytes told ∙ c.in_ok-cut.ensures.cut told
    ∙ cut_rest place bytes within (c.requires.closed told) in
    stable_as _ _ is _ c.sync.result (c.sync.ensures.durable told)
