use Rattle.std.proofs.Common.{ℕ, ◌-◌, List, [], ◌∷◌, ◌++◌, ap, ◌∙◌, arith}
use denote.RawPtr.{null_ptr}
use Rattle.map_chain.specs.Pairs.{Pair}
use Rattle.map_chain.specs.Edit.{edit}
use Rattle.map_chain.proofs.Linking.{LeadsBack-last, block_at, same_length, room-last, room-some, still_linked}
use Rattle.map_chain.proofs.Linking.{blocks_put}
use Rattle.map_chain.proofs.blocks.Blocks.push_last.Goals as goal

pub get_mut-requires : goal.get_mut-requires
get_mut-requires c =
    let s = c.self.inside in let v = c.self.invariant in let n = v.counted in
    let same = same_length s.nodes.nodes c.args.self.now c.self.view_is in
    let some = room-some c.args.self.now c.requires in
    LeadsBack-last null_ptr s.nodes.nodes s.last.ptr (s.count - 1) (omega arith) v.linked.1

pub push-requires : goal.push-requires
push-requires c =
    let s = c.self.inside in let ns = s.nodes.nodes in let v = c.self.invariant in let n = v.counted in
    let same = same_length ns c.args.self.now c.self.view_is in let some = room-some c.args.self.now c.requires in
    let x = c.get_mut.result.now in
    let room = room-last c.args.self.now (s.count - 1) s.last.ptr x.block (omega arith)
    (block_at ns c.args.self.now c.self.view_is (s.count - 1) s.last.ptr x c.get_mut.ensures.value) in
    omega arith

pub invariant_of-self : goal.invariant_of-self
invariant_of-self c =
    let s = c.self.inside in let p : Pair = (c.args.local, c.args.text) in
    still_linked s.first.ptr s.last.ptr s.count s.nodes.nodes (s.count - 1) s.last.ptr c.get_mut.result.now
    (λ ps. ps ++ p ∷ []) c.push.new.self c.self.invariant c.get_mut.ensures.value c.push.ensures

pub returns : goal.returns
returns c =
    let s = c.self.inside in let p : Pair = (c.args.local, c.args.text) in
    let f : List Pair → List Pair = λ ps. ps ++ p ∷ [] in let v = c.self.invariant in
    blocks_put s.nodes.nodes c.args.self.now
    (s.count - 1) s.last.ptr c.get_mut.result.now f c.push.new.self c.self.view_is c.get_mut.ensures.value
    c.push.ensures
    ∙ ap (λ (n : ℕ). edit (n - 1) f c.args.self.now)
    (v.counted ∙ same_length s.nodes.nodes c.args.self.now c.self.view_is)
