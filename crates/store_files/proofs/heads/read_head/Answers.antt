use Rattle.std.proofs.Common.{◌≡◌, ◌-◌, ◌∙◌, ℕ, length, take, ap, arith}
use Rattle.std.specs.Prelude.{min}
use Rattle.store_files.specs.Heads.{head_from}
use Rattle.store_files.proofs.Reading.{front_of}
use Rattle.store_files.proofs.heads.read_head.Goals as goal

pub returns-clause-head : goal.returns-clause-head
returns-clause-head g c told =
    let bytes = g.D.Disk.bytes c.args.disk.now in
    let side = c.args.side in
    let len = c.args.len in
    let held = c.in_ok-held.held in
    let whole : len ≡ length bytes = c.requires ∙ g.met.D.Disk.counts_bytes c.args.disk.now told in
    let count : held ≡ min 25 (len - 0) = c.in_ok-held.ensures.count in
    let is : held ≡ min 25 (length bytes) = omega (arith, whole, count) in
    let front = ap (take held) (c.in_ok-held.ensures.given told) ∙ front_of bytes _ held is in
    c.head_from.ensures ∙ ap (head_from side len) front
    ∙ ap (λ (n : ℕ). head_from side n (take 25 bytes)) whole
