-- with those to come, the numbers are all
use Rattle.std.proofs.Common.{◌≡◌, ◌++◌, map, drop}
use Rattle.kom_exchange.specs.declared.request.Argument.TheVariants as argument
use Rattle.kom_exchange.proofs.request.numbers_of.Given as goal

abbrev pub invariant-loop-number : goal.invariant-loop-number
invariant-loop-number l =
    l.arguments ++ map argument.Number (drop l.number-index l.numbers) ≡ map argument.Number l.numbers
