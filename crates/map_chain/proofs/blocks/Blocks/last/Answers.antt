use Rattle.std.proofs.Common.{ℕ, ◌-◌, length, arith}
use denote.RawPtr.{null_ptr}
use Rattle.map_chain.proofs.Linking.{LeadsBack-last, now_at, same_length}
use Rattle.map_chain.proofs.blocks.Blocks.last.Goals as goal

pub returns : goal.returns
returns c =
    let s = c.self.inside in let ns = s.nodes.nodes in let v = c.self.invariant in
    let same = same_length ns c.args.self.now c.self.view_is in
    let i : ℕ = length c.args.self.now - 1 in
    now_at ns c.args.self.now c.self.view_is i s.last.ptr
    (LeadsBack-last null_ptr ns s.last.ptr i (omega arith) v.linked.1)
