use Rattle.std.proofs.Common.{◌≡◌, ℕ, suc, ◌+◌, subst, arith}
use Rattle.map_chain.specs.Nodes.{IsAt}
use Rattle.map_chain.proofs.Linking.{LeadsOn-at, had_at, now_at, same_length}
use Rattle.map_chain.proofs.blocks.Blocks.next.Goals as goal

pub get-requires : goal.get-requires
get-requires c = had_at c.self.inside.nodes.nodes c.args.self.now c.self.view_is c.args.i c.args.at.ptr c.requires.0

pub returns : goal.returns
returns c =
    let s = c.self.inside in let ns = s.nodes.nodes in let v = c.self.invariant in
    let same = same_length ns c.args.self.now c.self.view_is in
    let within = c.requires.1 in let x = c.get.result.now in let on : suc c.args.i ≡ c.args.i + 1 = omega arith in
    now_at ns c.args.self.now c.self.view_is (c.args.i + 1) x.next.ptr
    (subst (λ (j : ℕ). IsAt ns j x.next.ptr) on
    (LeadsOn-at s.first.ptr ns c.args.i c.args.at.ptr x v.linked.0 c.get.ensures (omega arith)))
