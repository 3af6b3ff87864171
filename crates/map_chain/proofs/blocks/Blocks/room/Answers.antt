use Rattle.std.proofs.Common.{ℕ, ◌-◌, sym, ap, ◌∙◌, arith}
use denote.RawPtr.{null_ptr}
use Rattle.map_chain.proofs.Linking.{LeadsBack-last, now_at, same_length, room-last}
use Rattle.map_chain.proofs.blocks.Blocks.room.Goals as goal

pub block-requires : goal.block-requires
block-requires c =
    let s = c.self.inside in let ns = s.nodes.nodes in let v = c.self.invariant in let n = v.counted in
    let some = c.if-self-eq0.false in
    now_at ns c.args.self.now c.self.view_is (s.count - 1) s.last.ptr
    (LeadsBack-last null_ptr ns s.last.ptr (s.count - 1) (omega arith) v.linked.1)

pub returns : goal.returns
returns c =
    let s = c.self.inside in let v = c.self.invariant in let n = v.counted in let some = c.if-self-eq0.false in
    let same = same_length s.nodes.nodes c.args.self.now c.self.view_is in
    ap (λ (k : ℕ). 64 - k) c.len.ensures.len
    ∙ sym (room-last c.args.self.now (s.count - 1) s.last.ptr c.block.result.now (omega arith) c.block.ensures)
