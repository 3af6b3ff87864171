use Rattle.std.proofs.Common.{◌≡◌, Some, ◌∙◌, sym, arith}
use Rattle.kom_state.specs.Counts.{number_of}
use Rattle.kom_state.proofs.Counted.{count_of-number, count_of-length}
use Rattle.kom_state.proofs.reserving.needs.most_of_few.Goals as goal

pub returns-in-Some : goal.returns-in-Some
returns-in-Some c =
    let is : number_of c.args.need ≡ Some c.in-Some.number = sym c.number_of.ensures ∙ c.in-Some.is in
    omega (
      arith,
      count_of-number c.args.need c.in-Some.number c.args.needs.now is,
      c.count_of_number.ensures,
    )

pub returns-in-None : goal.returns-in-None
returns-in-None c = omega (arith, count_of-length c.args.need c.args.needs.now)
