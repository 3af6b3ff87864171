use Rattle.std.proofs.Common.{◌≡◌, ap, sym, ◌∙◌, length, arith}
use Rattle.std.proofs.lemmas.Result.{err_from_is_err_and}
use Rattle.read_ranges.specs.Numbers.{ReadSet, ranges_of}
use Rattle.read_ranges.proofs.Sets.{ranges_of-union_of}
use Rattle.read_ranges.proofs.RangesClone.clone.Goals as goal

pub returns-in_err-clone : goal.returns-in_err-clone
returns-in_err-clone c =
    let count : length c.self.inside.kept.items ≡ length (ranges_of c.args.self.now.numbers) =
    sym (ap length (ranges_of-union_of _ c.self.invariant))
    ∙ ap (λ (s : ReadSet). length (ranges_of s.numbers)) c.self.view_is in
    let error = err_from_is_err_and c.from_residual.result c.from_residual.ensures.1 in
    record { cases = rw error.1 (λ few. c.in_err-clone.ensures.cases (omega (arith, count, few))) }
