use Rattle.std.proofs.Common.{ap, sym, ◌∙◌, subst}
use Rattle.read_ranges.specs.Numbers.{ReadSet, ranges_of, IsWithinBounds}
use Rattle.read_ranges.proofs.Sets.{ranges_of-union_of, within_set_of}
use Rattle.read_ranges.proofs.Ranges.ranges.Goals as goal

pub returns-clause-ranges : goal.returns-clause-ranges
returns-clause-ranges c = c.as_slice.ensures ∙ sym (ranges_of-union_of _ c.self.invariant)
    ∙ ap (λ (s : ReadSet). ranges_of s.numbers) c.self.view_is

pub returns-clause-bounds : goal.returns-clause-bounds
returns-clause-bounds c = subst (λ (s : ReadSet). IsWithinBounds s.numbers) c.self.view_is
    (within_set_of _ c.self.invariant)
