use Rattle.std.proofs.Common.{◌≡◌, refl, nat_cmp}
use Rattle.std.proofs.lemmas.Iterator.Consumers.{YieldsList-from_first, YieldsList-at}
use Rattle.std.proofs.lemmas.Iterator.Search.{cmp_from_yields_List}
use Rattle.name_lookup.specs.Letters.{letters_of, letters_left}
use Rattle.name_lookup.proofs.matching.compare_letters.Goals as goal

pub returns : goal.returns
returns c =
    cmp_from_yields_List (λ x y. y ≡ x) _ nat_cmp _ c.cmp.ensures.ran
    (YieldsList-from_first (λ x. x) letters_left (letters_of c.args.name.now) c.of.ensures)
    (λ it same. YieldsList-at same
    (YieldsList-from_first (λ x. x) letters_left (letters_of c.args.other.now) c.of-2.ensures))
    (λ x y. refl)
