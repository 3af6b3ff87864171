use Rattle.std.proofs.Common.{◌≡◌, ℕ, suc, ◌+◌, ◌-◌, List, length, slice_get, Some, sym, ap, subst, ◌∙◌, arith}
use Rattle.std.specs.List.{remove}
use denote.RawPtr.{Ptr, null_ptr}
use Rattle.map_chain.specs.Nodes.{IsAt}
use Rattle.map_chain.specs.Pairs.{Pair}
use Rattle.map_chain.specs.Links.{blocks_of}
use Rattle.map_chain.specs.declared.node.Node.{Node}
use Rattle.map_chain.proofs.Linking.{had_at, LeadsOn-at, LeadsBack-at, LedOn-places, Relinked, led_past, IsAt-node}
use Rattle.map_chain.proofs.Linking.{get-within, one_block, block_at}
use Rattle.map_chain.proofs.blocks.Blocks.unlink.Goals as goal

pub get-node-requires : goal.get-node-requires
get-node-requires c = had_at c.self.inside.nodes.nodes c.args.self.now c.self.view_is c.args.i c.args.at.ptr c.requires

pub lead_on-self-inside-requires : goal.lead_on-self-inside-requires
lead_on-self-inside-requires c = λ some.
    let s = c.self.inside in let ns = s.nodes.nodes in let v = c.self.invariant in let x = c.get-node.result.now in
    let j : ℕ = c.args.i - 1 in let on : c.args.i ≡ suc j = omega arith in
    LeadsBack-at null_ptr ns s.last.ptr j c.args.at.ptr x v.linked.1
    (subst (λ (k : ℕ). slice_get ns k ≡ Some (c.args.at.ptr, x)) on c.get-node.ensures)

pub overflow_add-i : goal.overflow_add-i
overflow_add-i c =
    let v = c.self.invariant in let n = v.counted in let few = v.few in
    let within = get-within c.self.inside.nodes.nodes c.args.i
    (c.args.at.ptr, c.get-node.result.now) c.get-node.ensures in
    record { fits = omega arith }

pub lead_back-self-inside-requires : goal.lead_back-self-inside-requires
lead_back-self-inside-requires c = λ more.
    let s = c.self.inside in let ns = s.nodes.nodes in let v = c.self.invariant in let n = v.counted in
    let x = c.get-node.result.now in let on = c.lead_on-self-inside.ensures in
    let next : suc c.args.i ≡ c.args.i + 1 = omega arith in
    LedOn-places s.first x.next c.args.i ns c.lead_on-self-inside.new.nodes.nodes c.lead_on-self-inside.result
    (record { at_first = on.at_first; after_one = on.after_one }) (c.args.i + 1) x.next.ptr
    (subst (λ (j : ℕ). IsAt ns j x.next.ptr) next
    (LeadsOn-at s.first.ptr ns c.args.i c.args.at.ptr x v.linked.0 c.get-node.ensures (omega arith)))

pub take-requires-clause-place : goal.take-requires-clause-place
take-requires-clause-place c =
    let s = c.self.inside in let x = c.get-node.result.now in let on = c.lead_on-self-inside.ensures in
    let back = c.lead_back-self-inside.ensures in let ks = c.lead_back-self-inside.new.nodes.nodes in
    let all = led_past s.first s.last s.count s.nodes.nodes c.lead_on-self-inside.new.nodes.nodes ks c.args.i
    c.args.at.ptr x c.lead_on-self-inside.result c.lead_back-self-inside.result c.self.invariant c.get-node.ensures
    (record { at_first = on.at_first; after_one = on.after_one }) back.at_last back.before_one in
    IsAt-node ks c.args.i c.args.at.ptr x all.0

relinked : (c : goal.After-into_box)
    → Relinked c.self.inside.nodes.nodes c.take.new.self.nodes c.lead_on-self-inside.result.ptr
    c.lead_back-self-inside.result.ptr (remove (blocks_of c.self.inside.nodes.nodes) c.args.i)
    × (suc (length c.take.new.self.nodes) ≡ length c.self.inside.nodes.nodes)
relinked c =
    let s = c.self.inside in let ns = s.nodes.nodes in let x = c.get-node.result.now in
    let on = c.lead_on-self-inside.ensures in let back = c.lead_back-self-inside.ensures in
    let r = c.lead_on-self-inside.result in let t = c.lead_back-self-inside.result in
    let all = led_past s.first s.last s.count ns c.lead_on-self-inside.new.nodes.nodes
    c.lead_back-self-inside.new.nodes.nodes c.args.i c.args.at.ptr x r t c.self.invariant c.get-node.ensures
    (record { at_first = on.at_first; after_one = on.after_one }) back.at_last back.before_one in
    subst (λ (ks : List (Ptr × Node)). Relinked ns ks r.ptr t.ptr (remove (blocks_of ns) c.args.i) ×
    (suc (length ks) ≡ length ns)) (sym c.take.ensures.nodes) (all.1, all.2)

pub invariant_of-self : goal.invariant_of-self
invariant_of-self c =
    let v = c.self.invariant in let n = v.counted in let few = v.few in let m = relinked c in let less = m.1 in
    record { linked = m.0.linked; counted = omega arith; few = omega arith }

pub returns-clause-others : goal.returns-clause-others
returns-clause-others c = (relinked c).0.blocks
    ∙ ap (λ (bs : List (Ptr × List Pair)). remove bs c.args.i) c.self.view_is

pub returns-clause-node : goal.returns-clause-node
returns-clause-node c =
    let s = c.self.inside in let ns = s.nodes.nodes in let x = c.get-node.result.now in let p = c.args.at.ptr in
    let ks = c.lead_back-self-inside.new.nodes.nodes in
    let on = c.lead_on-self-inside.ensures in let back = c.lead_back-self-inside.ensures in
    let all = led_past s.first s.last s.count ns c.lead_on-self-inside.new.nodes.nodes ks c.args.i p x
    c.lead_on-self-inside.result c.lead_back-self-inside.result c.self.invariant c.get-node.ensures
    (record { at_first = on.at_first; after_one = on.after_one }) back.at_last back.before_one in
    let same = (one_block ks c.args.i p p x c.take.result.value all.0 c.take.ensures.node).1
    ∙ sym c.into_box.ensures.value in
    block_at ns c.args.self.now c.self.view_is c.args.i p x c.get-node.ensures
    ∙ ap (λ (y : Node). Some (p, y.block)) same
