use Rattle.std.proofs.Common.{◌≡◌, refl, nat_cmp}
use Rattle.std.proofs.lemmas.Iterator.{YieldsList-from_slice}
use Rattle.std.proofs.lemmas.Iterator.Consumers.{YieldsList-from_first, YieldsList-from_copied, YieldsList-at}
use Rattle.std.proofs.lemmas.Iterator.Search.{cmp_from_yields_List}
use Rattle.name_lookup.specs.Letters.{letters_of, letters_left}
use Rattle.name_lookup.proofs.matching.compare.Goals as goal

pub returns-in-Letters : goal.returns-in-Letters
returns-in-Letters c =
    rw c.in-Letters.is
    (cmp_from_yields_List (λ x y. y ≡ x) _ nat_cmp _ c.cmp.ensures.ran
    (YieldsList-from_first (λ x. x) letters_left (letters_of c.args.name.now) c.of.ensures)
    (λ it same. YieldsList-at same
    (YieldsList-from_copied (YieldsList-from_slice c.args.asked.now (cc))))
    (λ x y. refl))
