use Rattle.std.proofs.Common.{◌≡◌, ℕ, suc, ◌+◌, ◌≤◌, List, ◌++◌, length, slice_get, Some, sym, ap, subst, ◌∙◌, arith}
use Rattle.std.specs.List.{remove}
use Rattle.std.proofs.lemmas.Bool.Decides.{nat_tests}
use denote.RawPtr.{Ptr}
use Rattle.map_chain.specs.Edit.{edit}
use Rattle.map_chain.specs.Pairs.{Pair}
use Rattle.map_chain.specs.Nodes.{places}
use Rattle.map_chain.specs.Blocks.{PlacedBlocks, FitTogether, IsBlockAt}
use Rattle.map_chain.specs.Keys.{AreKeysOf}
use Rattle.map_chain.specs.declared.node.Node.{Node}
use Rattle.map_chain.proofs.Linking.{one_block, get-within, places-edit, length-edit, length-remove_at}
use Rattle.map_chain.proofs.Indexing.{places_length}
use Rattle.map_chain.proofs.Keys.{keys-join}
use Rattle.map_chain.proofs.Thin.{get-remove_before, kept_join}
use Rattle.map_chain.proofs.joining.join.Goals as goal

module _ (used taken : PlacedBlocks) (i : ℕ) (t : FitTogether used i) (node value : Node)
    (e : IsBlockAt used (i + 1) value.block) (is : node ≡ value) (gone : taken ≡ remove used (i + 1)) where
  next : i + 1 ≡ suc i
  next = omega arith

  -- the block that is taken out
  second : slice_get used (suc i) ≡ Some (e.0, node.block)
  second = subst (λ (j : ℕ). slice_get used j ≡ Some (e.0, value.block)) next e.1
      ∙ ap (λ (n : Node). Some (e.0, n.block)) (sym is)

  -- the blocks without it
  others : taken ≡ remove used (suc i)
  others = gone ∙ ap (λ (j : ℕ). remove used j) next

  fits : length t.pairs + length node.block ≤ 64
  fits =
      let more = ap (λ (l : List Pair). length l)
      (one_block used (suc i) t.next e.0 t.more node.block t.second second).1 in
      let most = t.fits in omega arith

  has_room : (p : Ptr) (ps : List Pair) → slice_get taken i ≡ Some (p, ps) → length ps + length node.block ≤ 64
  has_room p ps f =
      let here = sym (ap (λ (bs : PlacedBlocks). slice_get bs i) others ∙ get-remove_before used i) ∙ f in
      let same = ap (λ (l : List Pair). length l) (one_block used i t.here p t.pairs ps t.first here).1 in
      let most = fits in omega arith

pub add_pairs-requires-clause-fits : goal.add_pairs-requires-clause-fits
add_pairs-requires-clause-fits c =
    has_room c.args.used.now c.take_block-node.new.used c.args.i c.requires.together c.deref.result.now
    c.take_block-node.result.value c.take_block-node.ensures.node c.deref.ensures
    c.take_block-node.ensures.others c.index.result.now.ptr

pub returns-clause-kept : goal.returns-clause-kept
returns-clause-kept c =
    let t = c.requires.together in let used = c.args.used.now in let taken = c.take_block-node.new.used in
    let i : ℕ = c.args.i in let node = c.deref.result.now in
    let qs : List Pair = node.block in let value = c.take_block-node.result.value in
    let e = c.take_block-node.ensures.node in let gone = c.take_block-node.ensures.others in
    let same = places_length c.args.index.now.places.items used c.requires.index.blocks.places in
    let long = c.args.index.now.places.ok.0 in let len = c.len.ensures in
    let more = second used taken i t node value e c.deref.ensures gone in
    let within = get-within used (suc i) (e.0, qs) more in
    kept_join used c.args.spare.now c.put_by.new.spare i t.here e.0 t.pairs qs t.first more
    (fits used taken i t node value e c.deref.ensures gone) c.requires.blocks.0 c.add_pairs.new.self _
    (c.add_pairs.ensures ∙ ap (λ (bs : PlacedBlocks). edit i (λ l. l ++ qs) bs)
    (others used taken i t node value e c.deref.ensures gone)) c.put_by.ensures
    (λ yes. grind (arith, nat_tests, yes, same, long, len))
    (λ no. grind (arith, nat_tests, no, same, long, len, within))

pub returns-clause-index : goal.returns-clause-index
returns-clause-index c =
    let t = c.requires.together in let used = c.args.used.now in let taken = c.take_block-node.new.used in
    let i : ℕ = c.args.i in let node = c.deref.result.now in
    let qs : List Pair = node.block in let value = c.take_block-node.result.value in
    let e = c.take_block-node.ensures.node in let gone = c.take_block-node.ensures.others in
    let k = returns-clause-kept c in let few = k.few in let x = c.requires.index in let room = x.room in
    let key_room = x.key_room in
    let same = c.take_block-node.ensures.room in let key_same = c.take_block-node.ensures.key_room in
    let ks = c.args.index.now.keys.items in let more = second used taken i t node value e c.deref.ensures gone in
    let is = c.add_pairs.ensures
    ∙ ap (λ (bs : PlacedBlocks). edit i (λ l. l ++ qs) bs) (others used taken i t node value e c.deref.ensures gone) in
    let fewer : c.take_block-node.new.index.keys.items ≡ remove ks (suc i) =
    c.take_block-node.ensures.keys
    ∙ ap (λ (j : ℕ). remove ks j) (next used taken i t node value e c.deref.ensures gone) in
    record {
      blocks = record {
        places = c.take_block-node.ensures.index.places
            ∙ sym (ap places c.add_pairs.ensures ∙ places-edit taken i (λ (l : List Pair). l ++ qs));
        keys = subst (λ (w : List ℕ × PlacedBlocks). AreKeysOf w.0 w.1) (λ j. (sym fewer j, sym is j))
            (keys-join ks used i e.0 qs more c.requires.blocks.0 x.blocks.keys);
      };
      room = omega arith;
      key_room = omega arith;
    }

pub returns-clause-fewer : goal.returns-clause-fewer
returns-clause-fewer c =
    let t = c.requires.together in let taken = c.take_block-node.new.used in
    let qs : List Pair = c.deref.result.now.block in
    let within = get-within c.args.used.now (suc c.args.i) (t.next, t.more) t.second in
    let less = ap (λ (bs : PlacedBlocks). length bs) c.take_block-node.ensures.others in
    let gone = length-remove_at c.args.used.now (c.args.i + 1) (omega arith) in
    let same = ap (λ (bs : PlacedBlocks). length bs) c.add_pairs.ensures
    ∙ length-edit taken c.args.i (λ (l : List Pair). l ++ qs) in omega arith
