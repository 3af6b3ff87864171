use Rattle.std.proofs.Common.{ℕ, List, arith}
use Rattle.std.specs.List.{remove}
use Rattle.std.proofs.lemmas.Bool.Decides.{nat_tests}
use Rattle.map_chain.specs.Pairs.{Pair}
use Rattle.map_chain.proofs.Linking.{get-within, length-edit}
use Rattle.map_chain.proofs.Growing.{lost_pair}
use Rattle.map_chain.proofs.Indexing.{places_length, indexed-edit}
use Rattle.map_chain.proofs.Keys.{keys-pair}
use Rattle.map_chain.proofs.Thin.{lost_whole, lost_kept, within_here}
use Rattle.map_chain.proofs.chain.take_pair.Goals as goal

pub remove_pair-requires-clause-within : goal.remove_pair-requires-clause-within
remove_pair-requires-clause-within c = λ ps e. within_here c.args.used.now c.args.i c.args.k c.index-at.result.now.ptr
    ps c.requires.within e

pub join_thin-requires-clause-within : goal.join_thin-requires-clause-within
join_thin-requires-clause-within c =
    let w = c.requires.within in let inside = get-within c.args.used.now c.args.i (w.0, w.1) w.2 in
    rw c.remove_pair.ensures
    (let same = length-edit c.args.used.now c.args.i (λ (l : List Pair). remove l c.args.k) in omega arith)

pub join_thin-requires-clause-blocks : goal.join_thin-requires-clause-blocks
join_thin-requires-clause-blocks c =
    let used = c.args.used.now in let ps = c.block.result.now in let p = c.index-at.result.now.ptr in
    let few = c.requires.blocks.1 in
    let lost = lost_pair used c.args.spare.now c.args.i c.args.k p ps c.block.ensures
    (within_here used c.args.i c.args.k p ps c.requires.within c.block.ensures) c.requires.blocks.0
    c.remove_pair.new.self c.remove_pair.ensures (let len = c.len.ensures.len in omega arith) in
    let fewer = lost.few in (lost.filled, omega arith)

pub join_thin-requires-clause-index : goal.join_thin-requires-clause-index
join_thin-requires-clause-index c =
    let used = c.args.used.now in let x = c.args.index.now in let i : ℕ = c.args.i in
    indexed-edit x used c.args.spare.now c.remove_pair.new.self i
    (λ l. remove l c.args.k) c.requires.index c.remove_pair.ensures
    (keys-pair x.keys.items used i c.args.k c.requires.index.blocks.keys)

pub returns-then-len-gt1-clause-lost : goal.returns-then-len-gt1-clause-lost
returns-then-len-gt1-clause-lost c =
    let used = c.args.used.now in let ps = c.block.result.now in let p = c.index-at.result.now.ptr in
    let lost = lost_pair used c.args.spare.now c.args.i c.args.k p ps c.block.ensures
    (within_here used c.args.i c.args.k p ps c.requires.within c.block.ensures) c.requires.blocks.0
    c.remove_pair.new.self c.remove_pair.ensures (let len = c.len.ensures.len in omega arith) in
    lost_kept used c.args.spare.now c.remove_pair.new.self c.join_thin.new.used c.join_thin.new.spare c.args.i c.args.k
    lost c.join_thin.ensures.kept

pub overflow_add-is_last : goal.overflow_add-is_last
overflow_add-is_last c =
    let w = c.requires.within in let inside = get-within c.args.used.now c.args.i (w.0, w.1) w.2 in
    let few = c.requires.blocks.1 in record { fits = omega arith }

pub take_block-node-requires-clause-within : goal.take_block-node-requires-clause-within
take_block-node-requires-clause-within c =
    let w = c.requires.within in get-within c.args.used.now c.args.i (w.0, w.1) w.2

pub returns-clause-lost : goal.returns-clause-lost
returns-clause-lost c =
    let used = c.args.used.now in let ps = c.block.result.now in let p = c.index-at.result.now.ptr in
    let i : ℕ = c.args.i in
    let same = places_length c.args.index.now.places.items used c.requires.index.blocks.places in
    let long = c.args.index.now.places.ok.0 in let len = c.len-2.ensures in
    let inside = get-within used i (p, ps) c.block.ensures in
    lost_whole used c.args.spare.now i c.args.k p ps c.block.ensures
    (within_here used i c.args.k p ps c.requires.within c.block.ensures) c.requires.blocks.0
    c.take_block-node.new.used c.put_by.new.spare _ c.take_block-node.ensures.others c.put_by.ensures
    (λ yes. grind (arith, nat_tests, yes, same, long, len))
    (λ no. grind (arith, nat_tests, no, same, long, len, inside)) (let size = c.len.ensures.len in omega arith)

pub returns-clause-index : goal.returns-clause-index
returns-clause-index c =
    let lost = returns-clause-lost c in let few = lost.few in let room = c.requires.index.room in
    let key_room = c.requires.index.key_room in
    let same = c.take_block-node.ensures.room in let key_same = c.take_block-node.ensures.key_room in
    record { blocks = c.take_block-node.ensures.index; room = omega arith; key_room = omega arith }
