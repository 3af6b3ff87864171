use Rattle.std.proofs.Common.{sym, ap, ◌∙◌}
use Rattle.local_maps.specs.Pairs.{least_of}
use Rattle.local_maps.proofs.Parts.{from_on-zero}
use Rattle.local_maps.proofs.map.LocalMap.first.Goals as goal

pub returns-in_err-pair : goal.returns-in_err-pair
returns-in_err-pair c =
    c.from_residual.ensures
    ∙ ap least_of (sym c.in_err-pair.ensures.steps.0 ∙ c.pairs_from.ensures.pairs ∙ from_on-zero c.args.self.now.pairs)

pub returns : goal.returns
returns c =
    ap least_of (sym c.in_ok-pair.ensures.steps ∙ c.pairs_from.ensures.pairs ∙ from_on-zero c.args.self.now.pairs)
