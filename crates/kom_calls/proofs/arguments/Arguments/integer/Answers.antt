use Rattle.std.proofs.Common.{ℕ, List, drop, false, Result, ap, sym, subst, ◌∙◌}
use Rattle.std.specs.Prelude.{Option, option_and_then, slice_get}
use Rattle.std.specs.Option.{ok_or}
use Rattle.kom_types.specs.Token.{Token, integer_of}
use Rattle.kom_types.specs.calls.Arguments.{Taken, integer}
use Rattle.kom_calls.specs.declared.fault.ArgumentFault.{ArgumentFault}
use Rattle.kom_calls.specs.declared.fault.ArgumentFault.TheVariants as fault
use Rattle.kom_calls.specs.Telling.{ReadsAs}
use Rattle.kom_calls.proofs.Readings.{integer_at, integer_by, told_integer}
use Rattle.kom_calls.proofs.arguments.Arguments.integer.Goals as goal

pub returns : goal.returns
returns c =
    let tokens : List Token = c.self.inside.tokens in
    let rest : List Token = drop 1 tokens in
    let spelled : Option ℕ = option_and_then integer_of (slice_get tokens 0) in
    subst (λ (left : List Token). ReadsAs false (integer c.args.self.now) c.ok_or.result left)
    (sym c.integer.ensures.left)
    (subst (λ (taken : Taken ℕ). ReadsAs false taken c.ok_or.result rest)
    (sym (integer_at tokens 0) ∙ ap integer c.self.view_is)
    (subst (λ (result : Result ℕ ArgumentFault). ReadsAs false (integer_by spelled rest) result rest)
    (ap (λ (told : Option ℕ). ok_or told fault.Malformed) (sym c.integer.ensures.integer) ∙ sym c.ok_or.ensures.value)
    (told_integer spelled rest)))
