use Rattle.std.proofs.Common.{◌<◌, ◌+◌, ℕ, take, drop, length, ◌∙◌, refl, subst, sym}
use Rattle.kom_disk.proofs.Moments.{one_call, in_turn}
use Rattle.batch_log.specs.Gates.{IsGated}
use Rattle.batch_log.proofs.Torn.{has_gate, left_gated, stable_as, written_gate}
use Rattle.batch_log.proofs.gates.set_gate.Goals as goal

pub returns-in_err-write_at-clause-any_moment : goal.returns-in_err-write_at-clause-any_moment
returns-in_err-write_at-clause-any_moment g c told =
    let start = c.args.disk.now in
    let mid = c.write_at.new.self in
    let place = c.args.place in
    let bytes = g.D.Disk.bytes start in
    let stable = c.requires.stable told in
    let within : place < length bytes =
    subst (λ (n : ℕ). place < n) (g.met.D.Disk.counts_bytes start told) c.requires.within in
    let P = IsGated (take place bytes) (drop (place + 1) bytes) in
    one_call g.D.Disk.moment g.D.Disk.images_at g.D.Disk.tells told start mid P c.write_at.ensures.time
    (λ at image left. subst (P at) (sym (stable image ((g.met.D.Disk.images_now start image told).0 left)))
    (has_gate place bytes within))
    (λ at image left. left_gated bytes (g.D.Disk.images start) (g.D.Disk.images mid) stable place _ within refl
    (c.write_at.ensures.stop told) image ((g.met.D.Disk.images_now mid image told).0 left))

pub returns-clause-any_moment : goal.returns-clause-any_moment
returns-clause-any_moment g c told =
    let start = c.args.disk.now in
    let mid = c.write_at.new.self in
    let place = c.args.place in
    let bytes = g.D.Disk.bytes start in
    let stable = c.requires.stable told in
    let within : place < length bytes =
    subst (λ (n : ℕ). place < n) (g.met.D.Disk.counts_bytes start told) c.requires.within in
    let P = IsGated (take place bytes) (drop (place + 1) bytes) in
    let then = left_gated bytes (g.D.Disk.images start) (g.D.Disk.images mid) stable place _ within refl
    (c.write_at.ensures.stop told) in
    in_turn g.D.Disk.moment g.D.Disk.images_at start mid c.sync.new.self P
    (one_call g.D.Disk.moment g.D.Disk.images_at g.D.Disk.tells told start mid P c.write_at.ensures.time
    (λ at image left. subst (P at) (sym (stable image ((g.met.D.Disk.images_now start image told).0 left)))
    (has_gate place bytes within))
    (λ at image left. then image ((g.met.D.Disk.images_now mid image told).0 left)))
    (one_call g.D.Disk.moment g.D.Disk.images_at g.D.Disk.tells told mid c.sync.new.self P c.sync.ensures.time
    (λ at image left. then image ((g.met.D.Disk.images_now mid image told).0 left))
    (λ at image left. then image (c.sync.ensures.stop told image
    ((g.met.D.Disk.images_now c.sync.new.self image told).0 left))))

pub returns-clause-written : goal.returns-clause-written
returns-clause-written g c told =
    let is = c.sync.ensures.bytes told ∙ c.in_ok-write_at.ensures.written told
    ∙ written_gate c.args.place (g.D.Disk.bytes c.args.disk.now) c.args.gate in
    stable_as _ _ is _ c.sync.result (c.sync.ensures.durable told)
