use Rattle.std.proofs.Common.{◌≡◌, refl, nat_cmp, rules}
use Rattle.std.proofs.lemmas.Iterator.{YieldsList-from_slice, YieldsList-from_map}
use Rattle.std.proofs.lemmas.Iterator.Consumers.{YieldsList-at}
use Rattle.std.proofs.lemmas.Iterator.Search.{cmp_from_yields_List}
use Rattle.kom_types.specs.Names.{fold}
use Rattle.name_lookup.proofs.matching.compare_bytes.Goals as goal

pub returns : goal.returns
returns c =
    cmp_from_yields_List (λ x y. y ≡ x) _ nat_cmp _ c.cmp.ensures.ran
    (YieldsList-from_map _ fold (YieldsList-from_slice c.args.name.now (cc)) c.map-ours.ensures.closure
    (λ x r q k. search rules))
    (λ it same. YieldsList-at same
    (YieldsList-from_map _ fold (YieldsList-from_slice c.args.other.now (cc)) c.map-theirs.ensures.closure
    (λ x r q k. search rules)))
    (λ x y. refl)
