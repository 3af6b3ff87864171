use Rattle.std.proofs.Common.{ℕ, List, map, sym, ap, subst, ◌∙◌, arith}
use Rattle.std.proofs.lemmas.Grind.{common_steps}
use Rattle.map_chain.specs.Keys.{AreKeysOf}
use Rattle.map_chain.specs.declared.nodes.Place.{Place}
use Rattle.map_chain.proofs.Growing.{chain_stocked}
use Rattle.map_chain.proofs.Indexing.{places_length}
use Rattle.map_chain.proofs.Keys.{keys_length}
use Rattle.map_chain.proofs.chain.Chain.reserve.Goals as goal

pub returns-in_err-reserve-2-clause-err : goal.returns-in_err-reserve-2-clause-err
returns-in_err-reserve-2-clause-err c =
    let s = c.self.inside in let x = s.index in
    let keys = keys_length x.keys.items s.used c.self.invariant.1.blocks.keys in let long = x.keys.ok.0 in
    grind (arith, common_steps, keys, long)

pub invariant_of-self-2 : goal.invariant_of-self-2
invariant_of-self-2 c =
    let s = c.self.inside in let v = c.self.invariant in let x = s.index in let few = c.stock.ensures.few in
    let got = c.in_ok-reserve.ensures in let key_got = c.in_ok-reserve-2.ensures in
    let places = places_length x.places.items s.used v.1.blocks.places in let long = x.places.ok.0 in
    let keys = keys_length x.keys.items s.used v.1.blocks.keys in let key_long = x.keys.ok.0 in
    let room = v.1.room in let len = got.len in let ok = got.ok in let more = got.capacity in
    let key_room = v.1.key_room in let key_len = key_got.len in let key_ok = key_got.ok in
    let key_more = key_got.capacity in (
      chain_stocked s.used s.spare c.stock.new.spare s.len c.div_ceil-blocks.result c.saturating_sub.result v.0 few
          c.div_ceil-blocks.ensures (omega arith),
      record {
        blocks = record {
          places = ap (λ (l : List Place). map (λ p. p.ptr) l) got.items ∙ v.1.blocks.places;
          keys = subst (λ (l : List ℕ). AreKeysOf l s.used) (sym key_got.items) v.1.blocks.keys;
        };
        room = omega arith;
        key_room = omega arith;
      },
    )
