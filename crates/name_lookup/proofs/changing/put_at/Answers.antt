use Rattle.std.proofs.Common.{◌≡◌, ◌+◌, suc, length, insert, set, sym, ap, ◌∙◌, arith}
use Rattle.name_lookup.specs.Blocks.{numbers_in, numbers_at}
use Rattle.name_lookup.proofs.BlockLists.{numbers_at-read, numbers_in-put, numbers_in-cut}
use Rattle.name_lookup.proofs.changing.put_at.Goals as goal

pub put_into-requires-clause-within : goal.put_into-requires-clause-within
put_into-requires-clause-within c =
    let blocks = c.args.blocks.now.items in
    let read : numbers_at c.args.spot.block blocks ≡ c.index_mut-numbers.result.now.items =
    numbers_at-read c.args.spot.block blocks c.index_mut-numbers.result.now c.requires.within.block
    c.index_mut-numbers.ensures.value in
    omega (arith, ap length read, c.requires.within.offset)

pub returns-in-Left-clause-numbers : goal.returns-in-Left-clause-numbers
returns-in-Left-clause-numbers c =
    let blocks = c.args.blocks.now.items in
    let spot = c.args.spot in
    let read : numbers_at spot.block blocks ≡ c.index_mut-numbers.result.now.items =
    numbers_at-read spot.block blocks c.index_mut-numbers.result.now c.requires.within.block
    c.index_mut-numbers.ensures.value in
    numbers_in-put spot.block blocks c.put_into.new.numbers spot.offset c.args.number c.requires.within.block
    c.requires.within.offset (c.in-Left.ensures.2 ∙ ap (λ l. insert l spot.offset c.args.number) (sym read))

pub returns-in-Cut-clause-numbers : goal.returns-in-Cut-clause-numbers
returns-in-Cut-clause-numbers c =
    let blocks = c.args.blocks.now.items in
    let spot = c.args.spot in
    let read : numbers_at spot.block blocks ≡ c.index_mut-numbers.result.now.items =
    numbers_at-read spot.block blocks c.index_mut-numbers.result.now c.requires.within.block
    c.index_mut-numbers.ensures.value in
    let next : spot.block + 1 ≡ suc spot.block = omega arith in
    let lower = c.put_into.new.numbers in
    let upper = c.in-Cut.upper in
    let grown : c.insert.new.self.items ≡ insert (set blocks spot.block lower) (spot.block + 1) upper =
    rw c.unwrap.ensures at c.insert.ensures.items in
    ap numbers_in grown ∙ ap (λ i. numbers_in (insert (set blocks spot.block lower) i upper)) next
    ∙ numbers_in-cut spot.block blocks lower upper spot.offset c.args.number c.requires.within.block
    c.requires.within.offset (c.in-Cut.ensures.2 ∙ ap (λ l. insert l spot.offset c.args.number) (sym read))
