use Rattle.std.proofs.Common.{◌≡◌, ◌<◌, [], length, remove, set, sym, ap, ◌∙◌, arith, vec_len, length-set}
use Rattle.std.proofs.lemmas.Bool.Decides.{nat_tests}
use Rattle.name_lookup.specs.Blocks.{numbers_in, numbers_at}
use Rattle.name_lookup.proofs.BlockLists.{nothing, numbers_at-read, numbers_at-set, numbers_in-taken, numbers_in-remove}
use Rattle.name_lookup.proofs.changing.take_at.Goals as goal

pub remove-requires : goal.remove-requires
remove-requires c =
    let blocks = c.args.blocks.now.items in
    let read : numbers_at c.args.spot.block blocks ≡ c.index_mut-numbers.result.now.items =
    numbers_at-read c.args.spot.block blocks c.index_mut-numbers.result.now c.requires.within.block
    c.index_mut-numbers.ensures.value in
    omega (arith, ap length read, c.requires.within.offset, c.index_mut-numbers.result.now.ok.0)

pub returns-then-not-is_empty-clause-numbers : goal.returns-then-not-is_empty-clause-numbers
returns-then-not-is_empty-clause-numbers c =
    let blocks = c.args.blocks.now.items in
    let spot = c.args.spot in
    let read : numbers_at spot.block blocks ≡ c.index_mut-numbers.result.now.items =
    numbers_at-read spot.block blocks c.index_mut-numbers.result.now c.requires.within.block
    c.index_mut-numbers.ensures.value in
    numbers_in-taken spot.block blocks c.remove.new.self spot.offset c.requires.within.block
    c.requires.within.offset (c.remove.ensures.items ∙ ap (λ l. remove l spot.offset) (sym read))

pub returns-clause-numbers : goal.returns-clause-numbers
returns-clause-numbers c =
    let blocks = c.args.blocks.now.items in
    let spot = c.args.spot in
    let read : numbers_at spot.block blocks ≡ c.index_mut-numbers.result.now.items =
    numbers_at-read spot.block blocks c.index_mut-numbers.result.now c.requires.within.block
    c.index_mut-numbers.ensures.value in
    let empty : vec_len c.remove.new.self ≡ 0 = grind (arith, nat_tests) in
    let none : c.remove.new.self.items ≡ [] =
    nothing c.remove.new.self.items (omega (arith, c.remove.new.self.ok.0)) in
    let left = set blocks spot.block c.remove.new.self in
    let within : spot.block < length left =
    omega (arith, length-set blocks spot.block c.remove.new.self, c.requires.within.block) in
    ap numbers_in c.remove-2.ensures.items
    ∙ numbers_in-remove spot.block left within
    (numbers_at-set spot.block blocks c.remove.new.self c.requires.within.block ∙ none)
    ∙ numbers_in-taken spot.block blocks c.remove.new.self spot.offset c.requires.within.block
    c.requires.within.offset (c.remove.ensures.items ∙ ap (λ l. remove l spot.offset) (sym read))
