use Rattle.std.proofs.Common.{◌-◌, arith}
use denote.RawPtr.{null_ptr}
use Rattle.map_chain.proofs.Linking.{LeadsBack-last, now_at}
use Rattle.map_chain.proofs.blocks.Blocks.pop.Goals as goal

pub unlink-requires : goal.unlink-requires
unlink-requires c =
    let s = c.self.inside in let ns = s.nodes.nodes in let v = c.self.invariant in let n = v.counted in
    let some = c.if-self-eq0.false in
    now_at ns c.args.self.now c.self.view_is (s.count - 1) s.last.ptr
    (LeadsBack-last null_ptr ns s.last.ptr (s.count - 1) (omega arith) v.linked.1)
