use Rattle.std.proofs.Common.{◌≡◌, ◌-◌, length, take, drop}
use Rattle.std.proofs.lemmas.List.{take_rest}
use Rattle.name_lookup.proofs.BlockLists.{stands_at}
use Rattle.name_lookup.proofs.spots.ahead_of.Goals as goal

pub returns : goal.returns
returns c =
    let spot = c.spot_of-spot.result in
    let numbers = c.numbers_of.result.now in
    let rest : take (length numbers - spot.offset) (drop spot.offset numbers) ≡ drop spot.offset numbers =
    take_rest numbers spot.offset in
    rw (rest, c.numbers_of.ensures.numbers)
    (stands_at c.args.blocks.now spot.block spot.offset c.args.place c.spot_of-spot.ensures.within.block
    c.spot_of-spot.ensures.within.offset c.spot_of-spot.ensures.place)
