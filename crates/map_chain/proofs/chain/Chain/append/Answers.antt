use Rattle.std.proofs.Common.{[], ◌∷◌, ◌++◌, sym, ap, subst, ◌∙◌, arith}
use Rattle.map_chain.specs.Pairs.{Pair, AllBelow}
use Rattle.map_chain.specs.Blocks.{PlacedBlocks}
use Rattle.map_chain.specs.Index.{IsIndexed}
use Rattle.map_chain.proofs.Growing.{has_room, blocks_under, pairs_under, grown, chain_grown}
use Rattle.map_chain.proofs.chain.Chain.append.Goals as goal

pub make_room-requires : goal.make_room-requires
make_room-requires c =
    record {
      above = subst (AllBelow c.args.local) (sym (ap (λ w. w.pairs) c.self.view_is)) c.requires.above;
      blocks = (
        c.self.invariant.0.filled,
        blocks_under c.self.inside.used c.self.inside.spare c.self.inside.len c.self.invariant.0,
      );
      index = c.self.invariant.1;
    }

pub push_last-requires : goal.push_last-requires
push_last-requires c = has_room c.self.inside.used c.self.inside.spare c.make_room.new.used c.make_room.new.spare
    c.in_ok-make_room.ensures.ok

pub overflow_add-self : goal.overflow_add-self
overflow_add-self c =
    let few = pairs_under c.self.inside.used c.self.inside.spare c.self.inside.len c.self.invariant.0 in omega arith

pub invariant_of-self-2 : goal.invariant_of-self-2
invariant_of-self-2 c =
    let used = c.self.inside.used in let spare = c.self.inside.spare in let v = c.self.invariant.0 in
    let q : Pair = (c.args.local, c.args.text) in (
      chain_grown used spare c.push_last.new.self c.make_room.new.spare q c.self.inside.len v
          (grown used spare c.make_room.new.used c.make_room.new.spare c.push_last.new.self q
          c.in_ok-make_room.ensures.ok c.push_last.ensures v.filled (blocks_under used spare c.self.inside.len v) v.few)
          (subst (AllBelow c.args.local) (sym (ap (λ w. w.pairs) c.self.view_is)) c.requires.above) c.ranges.local.fits,
      subst (λ (bs : PlacedBlocks). IsIndexed c.make_room.new.index bs c.make_room.new.spare) (sym c.push_last.ensures)
          (c.in_ok-make_room.ensures.index c.args.text),
    )

pub returns-clause-ok : goal.returns-clause-ok
returns-clause-ok c =
    let used = c.self.inside.used in let spare = c.self.inside.spare in let v = c.self.invariant.0 in
    let q : Pair = (c.args.local, c.args.text) in
    let g = grown used spare c.make_room.new.used c.make_room.new.spare c.push_last.new.self q
    c.in_ok-make_room.ensures.ok c.push_last.ensures v.filled (blocks_under used spare c.self.inside.len v) v.few in
    g.pairs ∙ ap (λ w. w.pairs ++ q ∷ []) c.self.view_is

pub returns-clause-spare : goal.returns-clause-spare
returns-clause-spare c =
    let used = c.self.inside.used in let spare = c.self.inside.spare in let v = c.self.invariant.0 in
    let q : Pair = (c.args.local, c.args.text) in
    let g = grown used spare c.make_room.new.used c.make_room.new.spare c.push_last.new.self q
    c.in_ok-make_room.ensures.ok c.push_last.ensures v.filled (blocks_under used spare c.self.inside.len v) v.few in
    let room = g.room in let is = ap (λ w. w.spare) c.self.view_is in omega arith
