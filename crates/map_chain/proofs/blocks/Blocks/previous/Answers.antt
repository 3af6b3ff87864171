use Rattle.std.proofs.Common.{◌≡◌, ℕ, suc, ◌-◌, slice_get, Some, subst, arith}
use denote.RawPtr.{null_ptr}
use Rattle.map_chain.proofs.Linking.{LeadsBack-at, had_at, now_at}
use Rattle.map_chain.proofs.blocks.Blocks.previous.Goals as goal

pub get-requires : goal.get-requires
get-requires c = had_at c.self.inside.nodes.nodes c.args.self.now c.self.view_is c.args.i c.args.at.ptr c.requires.0

pub returns : goal.returns
returns c =
    let s = c.self.inside in let ns = s.nodes.nodes in let v = c.self.invariant in
    let inside = c.requires.1 in let x = c.get.result.now in let j : ℕ = c.args.i - 1 in
    let on : c.args.i ≡ suc j = omega arith in
    now_at ns c.args.self.now c.self.view_is j x.previous.ptr
    (LeadsBack-at null_ptr ns s.last.ptr j c.args.at.ptr x v.linked.1
    (subst (λ (k : ℕ). slice_get ns k ≡ Some (c.args.at.ptr, x)) on c.get.ensures))
