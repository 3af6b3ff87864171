use Rattle.std.proofs.Common.{◌≡◌, ℕ, ◌+◌, ◌-◌, List, [], ◌∷◌, ◌++◌, length, sym, ap, subst, ◌∙◌, arith}
use denote.RawPtr.{Ptr, null_ptr}
use Rattle.map_chain.specs.Nodes.{IsAt}
use Rattle.map_chain.specs.Pairs.{Pair}
use Rattle.map_chain.specs.Edit.{edit}
use Rattle.map_chain.specs.Links.{with_next, blocks_of}
use Rattle.map_chain.specs.declared.node.Node.{Node}
use Rattle.map_chain.specs.declared.nodes.Place.{Place}
use Rattle.map_chain.proofs.Linking.{LeadsBack-last, IsAt-append, same_length, LedOn, Relinked, linked_in}
use Rattle.map_chain.proofs.Linking.{length-blocks}
use Rattle.std.proofs.lemmas.List.{length_push}
use Rattle.map_chain.proofs.blocks.Blocks.link.Goals as goal

pub lead_on-self-inside-requires : goal.lead_on-self-inside-requires
lead_on-self-inside-requires c = λ some.
    let s = c.self.inside in let ns = s.nodes.nodes in let v = c.self.invariant in let n = v.counted in
    subst (λ (ks : List (Ptr × Node)). IsAt ks (s.count - 1) s.last.ptr) (sym c.push.ensures.nodes)
    (IsAt-append ns ((c.push.result.0.ptr, c.of.result.value) ∷ []) (s.count - 1) s.last.ptr
    (LeadsBack-last null_ptr ns s.last.ptr (s.count - 1) (omega arith) v.linked.1))

relinked : (c : goal.After-self-2-1)
    → Relinked c.self.inside.nodes.nodes c.lead_on-self-inside.new.nodes.nodes c.lead_on-self-inside.result.ptr
    c.push.result.0.ptr (blocks_of c.self.inside.nodes.nodes ++ (c.push.result.0.ptr, []) ∷ [])
relinked c =
    let s = c.self.inside in let ns = s.nodes.nodes in let v = c.self.invariant in let n = v.counted in
    let x = c.of.result.value in let q = c.push.result.0 in let is = c.of.ensures.value in let new = c.renew.ensures in
    let on = c.lead_on-self-inside.ensures in
    let led : LedOn s.first q (length ns)
    (ns ++ (q.ptr, x) ∷ []) c.lead_on-self-inside.new.nodes.nodes c.lead_on-self-inside.result = record {
      at_first = λ none. let w = on.at_first (n ∙ none) in (w.0, w.1 ∙ c.push.ensures.nodes);
      after_one = λ some. let w = on.after_one (omega arith) in
          (w.0, w.1 ∙ (λ i. edit (n i - 1) (with_next q) (c.push.ensures.nodes i)));
    } in
    linked_in s.first s.last ns q x c.lead_on-self-inside.new.nodes.nodes c.lead_on-self-inside.result v.linked
    (ap (λ (m : Node). m.next.ptr) is ∙ new.0) (ap (λ (m : Node). m.previous.ptr) is ∙ ap (λ (p : Place). p.ptr) new.1)
    (ap (λ (m : Node). m.block) is ∙ new.2) led

pub invariant_of-self : goal.invariant_of-self
invariant_of-self c =
    let s = c.self.inside in let ns = s.nodes.nodes in let v = c.self.invariant in let n = v.counted in
    let m = relinked c in
    let ms = c.lead_on-self-inside.new.nodes.nodes in let same = same_length ns c.args.self.now c.self.view_is in
    let longer : length ms ≡ length ns + 1 =
    sym (length-blocks ms) ∙ ap (λ (bs : List (Ptr × List Pair)). length bs) m.blocks
    ∙ length_push (blocks_of ns) (c.push.result.0.ptr, []) ∙ ap (λ (k : ℕ). k + 1) (length-blocks ns) in
    record { linked = m.linked; counted = omega arith; few = omega arith }

pub returns : goal.returns
returns c = (relinked c).blocks
    ∙ ap (λ (bs : List (Ptr × List Pair)). bs ++ (c.push.result.0.ptr, []) ∷ []) c.self.view_is
