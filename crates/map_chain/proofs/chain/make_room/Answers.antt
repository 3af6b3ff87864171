use Rattle.std.proofs.Common.{◌≡◌, ℕ, suc, ◌+◌, ◌-◌, ◌≤◌, List, ◌∷◌, [], ◌++◌, length, vec_capacity, refl, sym, ap}
use Rattle.std.proofs.Common.{subst, ◌∙◌, arith}
use Rattle.std.proofs.lemmas.Grind.{common_steps}
use Rattle.map_chain.specs.Pairs.{Pair}
use Rattle.map_chain.specs.Blocks.{PlacedBlocks}
use Rattle.map_chain.specs.declared.index.Index.{Index}
use Rattle.map_chain.specs.declared.nodes.Place.{Place}
use Rattle.map_chain.proofs.Linking.{room-some, length-remove_at}
use Rattle.map_chain.proofs.Indexing.{places_length, indexed-edit, indexed-begin}
use Rattle.map_chain.proofs.Keys.{keys_length, keys-push}
use Rattle.map_chain.proofs.chain.make_room.Goals as goal
use Rattle.map_chain.proofs.chain.make_room.Goals.{in-Some}
use Rattle.map_chain.proofs.chain.make_room.Goals.{in-None+in_ok-reserve-in-None+in_ok-reserve-in-None-2+in_ok-node-in-None}

pub returns-then-room-gt0-clause-index : goal.returns-then-room-gt0-clause-index
returns-then-room-gt0-clause-index c = λ text.
    let used = c.args.used.now in let x = c.args.index.now in let q : Pair = (c.args.local, text) in
    let j : ℕ = length used - 1 in
    let room = c.room.ensures in let test = c.if-room-gt0.true in let some = room-some used (omega arith) in
    indexed-edit x used c.args.spare.now _ j (λ ps. ps ++ q ∷ []) c.requires.index refl
    (keys-push x.keys.items used j q (omega arith) c.requires.blocks.0 c.requires.index.blocks.keys c.requires.above)

pub unwrap-requires-2 : goal.unwrap-requires-2
unwrap-requires-2 c =
    let x = c.args.index.now in let same = keys_length x.keys.items c.args.used.now c.requires.index.blocks.keys in
    let long = x.keys.ok.0 in
    grind (arith, common_steps, same, long)

-- the index has room for one block more, and for the spare ones that are left
record IsReady (x now : Index) (used spare' : PlacedBlocks) : Type 0 where
  places : now.places.items ≡ x.places.items
  keys : now.keys.items ≡ x.keys.items
  room : suc (length used) + length spare' ≤ vec_capacity now.places
  key_room : suc (length used) + length spare' ≤ vec_capacity now.keys

ready : (c : goal.After-index-1) → IsReady c.args.index.now c.match-pop.index c.args.used.now c.pop.new.self
ready c =
    let used = c.args.used.now in let spare = c.args.spare.now in let x = c.args.index.now in
    let v = c.requires.index in
    let keys = keys_length x.keys.items used v.blocks.keys in
    let places = places_length x.places.items used v.blocks.places in
    let key_long = x.keys.ok.0 in let long = x.places.ok.0 in let room = v.room in let key_room = v.key_room in
    elim c.match-pop.branch [
      | in-Some w ↦
          let e = w.in-Some.ensures in let some = e.0 in let less = ap (λ (bs : PlacedBlocks). length bs) e.1 in
          let gone = length-remove_at spare (length spare - 1) (omega arith) in
          subst (λ (y : Index). IsReady x y used c.pop.new.self) (sym w.index-is)
          (record { places = refl; keys = refl; room = omega arith; key_room = omega arith })
      | in-None+in_ok-reserve-in-None+in_ok-reserve-in-None-2+in_ok-node-in-None w ↦
          let e = w.in-None.ensures in let none = ap (λ (bs : PlacedBlocks). length bs) e.1 in
          let got = w.in_ok-reserve-in-None.ensures in let key_got = w.in_ok-reserve-in-None-2.ensures in
          let ok = got.ok in let key_ok = key_got.ok in let len = got.len in let key_len = key_got.len in
          subst (λ (y : Index). IsReady x y used c.pop.new.self) (sym w.index-is)
          (record { places = got.items; keys = key_got.items; room = omega arith; key_room = omega arith })
    ]

pub returns-clause-index : goal.returns-clause-index
returns-clause-index c = λ text.
    let x = c.args.index.now in let used = c.args.used.now in let r = c.link.result in
    let q : Pair = (c.args.local, text) in
    let h = ready c in let room = h.room in let key_room = h.key_room in let more = c.push.ensures.capacity in
    let key_more = c.push-2.ensures.capacity in
    indexed-begin x _ used c.link.new.self c.pop.new.self r q c.requires.index.blocks c.requires.above c.link.ensures
    (rw c.unwrap.ensures at c.push.ensures.items ∙ ap (λ (l : List Place). l ++ r ∷ []) h.places)
    (rw c.unwrap-2.ensures at c.push-2.ensures.items ∙ ap (λ (l : List ℕ). l ++ c.args.local ∷ []) h.keys) (omega arith)
    (omega arith)
