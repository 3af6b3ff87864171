use Rattle.std.proofs.Common.{ap, sym, ◌∙◌, length}
use Rattle.read_ranges.specs.Numbers.{ReadSet, ranges_of}
use Rattle.read_ranges.proofs.Sets.{ranges_of-union_of}
use Rattle.read_ranges.proofs.Ranges.into_list.Goals as goal

pub returns-in-Ok-clause-ok : goal.returns-in-Ok-clause-ok
returns-in-Ok-clause-ok c =
    c.in-Ok.ensures.ok ∙ sym (ranges_of-union_of _ c.self.invariant)
    ∙ ap (λ (s : ReadSet). ranges_of s.numbers) c.self.view_is

pub returns-in-Err-clause-full : goal.returns-in-Err-clause-full
returns-in-Err-clause-full c =
    ap (λ (s : ReadSet). length (ranges_of s.numbers)) (sym c.self.view_is)
    ∙ ap length (ranges_of-union_of _ c.self.invariant) ∙ c.in-Err.ensures.full
