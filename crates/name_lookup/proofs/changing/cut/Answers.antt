use Rattle.std.proofs.Common.{◌≡◌, ◌++◌, length, take, drop, ap, ap₂, ◌∙◌, arith, length-take, length-drop}
use Rattle.std.proofs.Common.{take-append-drop}
use Rattle.std.proofs.lemmas.List.{take_rest}
use Rattle.name_lookup.proofs.changing.cut.Goals as goal

pub returns : goal.returns
returns c =
    let numbers = c.args.numbers.now.items in
    let grown = rw (c.unwrap.ensures, c.requires.fresh.none) at c.extend_from_slice.ensures.items in
    let upper : c.extend_from_slice.new.self.items ≡ drop 256 numbers =
    grown ∙ take_rest c.deref.result.now 256 ∙ ap (drop 256) c.deref.ensures.value in
    let lower : c.truncate.new.self.items ≡ take 256 numbers = c.truncate.ensures.items in
    let few : length c.truncate.new.self.items ≡ 256 =
    omega (arith, ap length lower, length-take 256 numbers, c.requires.full) in
    let rest : length c.extend_from_slice.new.self.items ≡ 256 =
    omega (arith, ap length upper, length-drop 256 numbers, c.requires.full) in (
      record {
        some = omega arith;
        few = omega arith;
        room = omega (arith, c.truncate.ensures.capacity, c.requires.room);
      },
      record {
        some = omega arith;
        few = omega arith;
        room = omega (arith, c.extend_from_slice.ensures.capacity, c.requires.fresh.room);
      },
      ap₂ (λ l m. l ++ m) lower upper ∙ take-append-drop 256 numbers,
    )
