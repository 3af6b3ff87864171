use Rattle.std.proofs.Common.{◌≡◌, ◌+◌, ◌++◌, ◌∷◌, [], inl, ℕ, List, OnOk, length, take, drop, subst, arith}
use Rattle.std.proofs.lemmas.List.{length-take-le}
use Rattle.kom_disk.proofs.Moments.{in_turn, wider}
use Rattle.kom_disk.specs.Moments.{LeavesOnly}
use Rattle.batch_log.specs.Gates.{IsStable, IsShut}
use Rattle.batch_log.specs.Repair.{Mends}
use Rattle.batch_log.proofs.Mending.{before_gate, gate_of}
use Rattle.batch_log.proofs.repairs.repair.Goals as goal

pub cut_rest-requires-clause-closed : goal.cut_rest-requires-clause-closed
cut_rest-requires-clause-closed g c told =
    let bytes = g.D.Disk.bytes c.args.disk.now in
    let place = c.args.place in
    let long : length (take place bytes) ≡ place =
    length-take-le place bytes
    (omega (arith, g.met.D.Disk.counts_bytes c.args.disk.now told, c.requires.within.0, c.requires.within.1)) in
    gate_of place (take place bytes) (drop (place + 1) bytes) (g.D.Disk.bytes c.close_gate.new.disk) 0 long
    (c.in_ok-close_gate.ensures.closed told).is

pub returns-clause-repaired : goal.returns-clause-repaired
returns-clause-repaired g c told =
    let bytes = g.D.Disk.bytes c.args.disk.now in
    let place = c.args.place in
    let end = c.cut_rest.new.disk in
    let long : length (take place bytes) ≡ place =
    length-take-le place bytes
    (omega (arith, g.met.D.Disk.counts_bytes c.args.disk.now told, c.requires.within.0, c.requires.within.1)) in
    let same = before_gate place (take place bytes) (drop (place + 1) bytes) (g.D.Disk.bytes c.close_gate.new.disk) 0
    long (c.in_ok-close_gate.ensures.closed told).is in
    subst
    (λ (l : List ℕ). OnOk c.cut_rest.result (IsStable (l ++ 0 ∷ []) (g.D.Disk.bytes end) (g.D.Disk.images end))) same
    (c.cut_rest.ensures.cut told)

pub returns-clause-any_moment : goal.returns-clause-any_moment
returns-clause-any_moment g c told =
    let start = c.args.disk.now in
    let mid = c.close_gate.new.disk in
    let end = c.cut_rest.new.disk in
    let bytes = g.D.Disk.bytes start in
    let place = c.args.place in
    let before = take place bytes in
    let rest = drop (place + 1) bytes in
    let long : length before ≡ place =
    length-take-le place bytes
    (omega (arith, g.met.D.Disk.counts_bytes start told, c.requires.within.0, c.requires.within.1)) in
    let same = before_gate place before rest (g.D.Disk.bytes mid) 0 long (c.in_ok-close_gate.ensures.closed told).is in
    let second : LeavesOnly g.D.Disk.moment g.D.Disk.images_at mid end (IsShut before) =
    subst (λ (l : List ℕ). LeavesOnly g.D.Disk.moment g.D.Disk.images_at mid end (IsShut l)) same
    (c.cut_rest.ensures.any_moment told) in
    in_turn g.D.Disk.moment g.D.Disk.images_at start mid end (Mends before c.args.gate rest)
    (c.close_gate.ensures.any_moment told)
    (wider g.D.Disk.moment g.D.Disk.images_at mid end (IsShut before) (Mends before c.args.gate rest) second
    (λ at image from to is. inl is))
