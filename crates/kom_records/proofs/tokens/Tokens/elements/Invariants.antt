-- The elements so far, and then those of the tokens that are left, are those of all tokens.
use Rattle.std.proofs.Common.{◌≡◌, ◌-◌}
use Rattle.kom_types.specs.calls.Arguments.{elements}
use Rattle.kom_records.proofs.Gathering.{after}
use Rattle.kom_records.proofs.tokens.Tokens.elements.Given as goal

abbrev pub invariant-loop : goal.invariant-loop
invariant-loop g l =
    let reads = g.T.Element.reads in
    after l.values.items (elements reads (l.count - l.counter) l.self) ≡ elements reads l.count l.fn.self
