-- The index of the blocks of a chain follows them.
--     places_length         it has as many places as there are blocks
--     place_at              each is that of its block
--     places-remove         a block goes
--     indexed-edit          the pairs of a block change
--     indexed-begin         a block comes
use Rattle.std.proofs.Common.{◌≡◌, ℕ, zero, suc, ◌+◌, ◌-◌, ◌<◌, ◌≤◌, List, [], ◌∷◌, ◌++◌, length, map, get_or}
use Rattle.std.proofs.Common.{vec_capacity, sym, ap, subst, ◌∙◌, arith}
use Rattle.std.specs.List.{remove}
use Rattle.std.proofs.lemmas.List.{length-append, length-map, map-append}
use denote.RawPtr.{Ptr}
use Rattle.map_chain.specs.Pairs.{Pair, AllBelow}
use Rattle.map_chain.specs.Nodes.{places, IsAt}
use Rattle.map_chain.specs.Blocks.{PlacedBlocks, pairs_of, with_last}
use Rattle.map_chain.specs.Edit.{edit}
use Rattle.map_chain.specs.Index.{ArePlacesOf, IsIndexOf, IsIndexed}
use Rattle.map_chain.specs.Keys.{AreKeysOf}
use Rattle.map_chain.specs.declared.index.Index.{Index}
use Rattle.map_chain.specs.declared.nodes.Place.{Place}
use Rattle.map_chain.proofs.Linking.{map-remove_at, places-edit, length-edit}
use Rattle.map_chain.proofs.Keys.{keys-begin}

pub places_length : (ps : List Place) (bs : PlacedBlocks) → ArePlacesOf ps bs → length ps ≡ length bs
places_length ps bs e =
    sym (length-map ps (λ (p : Place). p.ptr)) ∙ ap (λ (l : List Ptr). length l) e
    ∙ length-map bs (λ (b : Ptr × List Pair). b.0)

pub place_at : (ps : List Place) (bs : PlacedBlocks) (i : ℕ) (d : Place) → ArePlacesOf ps bs → i < length bs
    → IsAt bs i (get_or ps i d).ptr
place_at ps [] i d e h = absurd (omega arith)
place_at [] (b ∷ bs) i d e h = cc
place_at (x ∷ xs) (b ∷ bs) zero d e h = cc
place_at (x ∷ xs) (b ∷ bs) (suc i) d e h =
    let others : ArePlacesOf xs bs = cc in place_at xs bs i d others (omega arith)

pub places-remove : (ps : List Place) (bs : PlacedBlocks) (i : ℕ) → ArePlacesOf ps bs
    → ArePlacesOf (remove ps i) (remove bs i)
places-remove ps bs i e =
    map-remove_at (λ (p : Place). p.ptr) ps i ∙ ap (λ (l : List Ptr). remove l i) e
    ∙ sym (map-remove_at (λ (b : Ptr × List Pair). b.0) bs i)

places-push : (ps : List Place) (bs : PlacedBlocks) (r : Place) → ArePlacesOf ps bs
    → ArePlacesOf (ps ++ r ∷ []) (bs ++ (r.ptr, []) ∷ [])
places-push ps bs r e =
    map-append (λ (p : Place). p.ptr) ps (r ∷ []) ∙ ap (λ (l : List Ptr). l ++ r.ptr ∷ []) e
    ∙ sym (map-append (λ (b : Ptr × List Pair). b.0) bs ((r.ptr, []) ∷ []))

pub indexed-edit : (index : Index) (used spare used' : PlacedBlocks) (i : ℕ) (f : List Pair → List Pair)
    → IsIndexed index used spare
    → used' ≡ edit i f used → AreKeysOf index.keys.items (edit i f used) → IsIndexed index used' spare
indexed-edit index used spare used' i f x is keys =
    let same = ap (λ (bs : PlacedBlocks). length bs) is ∙ length-edit used i f in let most = x.room in
    let key_most = x.key_room in
    record {
      blocks = record {
        places = x.blocks.places ∙ sym (ap places is ∙ places-edit used i f);
        keys = subst (λ (bs : PlacedBlocks). AreKeysOf index.keys.items bs) (sym is) keys;
      };
      room = omega arith;
      key_room = omega arith;
    }

-- a block comes with its first pair
pub indexed-begin : (x now : Index) (used used' spare' : PlacedBlocks) (r : Place) (q : Pair) → IsIndexOf x used
    → AllBelow q.0 (pairs_of used)
    → used' ≡ used ++ (r.ptr, []) ∷ [] → now.places.items ≡ x.places.items ++ r ∷ []
    → now.keys.items ≡ x.keys.items ++ q.0 ∷ []
    → suc (length used) + length spare' ≤ vec_capacity now.places
    → suc (length used) + length spare' ≤ vec_capacity now.keys
    → IsIndexed now (with_last q used') spare'
indexed-begin x now used used' spare' r q v above is places keys room key_room =
    let f : List Pair → List Pair = λ ps. ps ++ q ∷ [] in let more = used ++ (r.ptr, []) ∷ [] in
    let j : ℕ = length more - 1 in
    let long = length-append used ((r.ptr, []) ∷ []) in let same = length-edit more j f in
    subst (λ (bs : PlacedBlocks). IsIndexed now (with_last q bs) spare') (sym is) (record {
      blocks = record {
        places = ap (λ (l : List Place). map (λ p. p.ptr) l) places ∙ places-push x.places.items used r v.places
            ∙ sym (places-edit more j f);
        keys = subst (λ (l : List ℕ). AreKeysOf l (edit j f more)) (sym keys)
            (keys-begin x.keys.items used r.ptr q j (omega arith) v.keys above);
      };
      room = omega arith;
      key_room = omega arith;
    })
