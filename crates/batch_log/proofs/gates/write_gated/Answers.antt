use Rattle.std.proofs.Common.{◌≡◌, ◌+◌, ◌++◌, ◌∷◌, inl, inr, ℕ, List, OnOk, take, drop, ◌∙◌, ap, subst}
use Rattle.kom_disk.proofs.Moments.{in_turn, wider}
use Rattle.kom_disk.specs.Moments.{LeavesOnly}
use Rattle.batch_log.specs.Gates.{IsStable, IsShut, IsGated, IsShutOrWhole}
use Rattle.batch_log.proofs.Torn.{still_before, still_after}
use Rattle.batch_log.proofs.gates.write_gated.Goals as goal

pub returns-in_err-write_after-clause-any_moment : goal.returns-in_err-write_after-clause-any_moment
returns-in_err-write_after-clause-any_moment g c told =
    let before = take c.args.place (g.D.Disk.bytes c.args.disk.now) in
    wider g.D.Disk.moment g.D.Disk.images_at c.args.disk.now c.write_after.new.disk (IsShut before)
    (IsShutOrWhole before c.args.chunk.now) (c.write_after.ensures.any_moment told) (λ at image from to is. inl is)

pub returns-clause-any_moment : goal.returns-clause-any_moment
returns-clause-any_moment g c told =
    let start = c.args.disk.now in
    let mid = c.write_after.new.disk in
    let end = c.set_gate.new.disk in
    let place = c.args.place in
    let bytes = g.D.Disk.bytes start in
    let chunk = c.args.chunk.now in
    let before = take place bytes in
    let rest = c.requires.at_rest told in
    let written = c.in_ok-write_after.ensures.written told in
    let here = still_before place bytes chunk (g.D.Disk.bytes mid) rest.closed written.is in
    let after = still_after place bytes chunk (g.D.Disk.bytes mid) rest.closed written.is in
    let Q : List ℕ → List ℕ → Type 0 = λ l m. LeavesOnly g.D.Disk.moment g.D.Disk.images_at mid end (IsGated l m) in
    let second : LeavesOnly g.D.Disk.moment g.D.Disk.images_at mid end (IsGated before chunk) =
    subst (λ (l : List ℕ). Q l chunk) here
    (subst (λ (m : List ℕ). Q (take place (g.D.Disk.bytes mid)) m) after (c.set_gate.ensures.any_moment told)) in
    in_turn g.D.Disk.moment g.D.Disk.images_at start mid end (IsShutOrWhole before chunk)
    (wider g.D.Disk.moment g.D.Disk.images_at start mid (IsShut before) (IsShutOrWhole before chunk)
    (c.write_after.ensures.any_moment told) (λ at image from to is. inl is))
    (wider g.D.Disk.moment g.D.Disk.images_at mid end (IsGated before chunk) (IsShutOrWhole before chunk) second
    (λ at image from to is. inr is))

pub returns-clause-opened : goal.returns-clause-opened
returns-clause-opened g c told =
    let mid = c.write_after.new.disk in
    let end = c.set_gate.new.disk in
    let place = c.args.place in
    let bytes = g.D.Disk.bytes c.args.disk.now in
    let chunk = c.args.chunk.now in
    let rest = c.requires.at_rest told in
    let written = c.in_ok-write_after.ensures.written told in
    let same : take place (g.D.Disk.bytes mid) ++ 1 ∷ drop (place + 1) (g.D.Disk.bytes mid)
    ≡ take place bytes ++ 1 ∷ chunk =
    ap (λ (l : List ℕ). l ++ 1 ∷ drop (place + 1) (g.D.Disk.bytes mid))
    (still_before place bytes chunk (g.D.Disk.bytes mid) rest.closed written.is)
    ∙ ap (λ (l : List ℕ). take place bytes ++ 1 ∷ l)
    (still_after place bytes chunk (g.D.Disk.bytes mid) rest.closed written.is) in
    subst (λ (l : List ℕ). OnOk c.set_gate.result (IsStable l (g.D.Disk.bytes end) (g.D.Disk.images end))) same
    (c.set_gate.ensures.written told)
