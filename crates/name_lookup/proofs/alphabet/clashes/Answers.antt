use Rattle.std.proofs.Common.{map, rules, tests, ◌∙◌, sym}
use Rattle.std.proofs.lemmas.Bool.Decides.{same_from_decides}
use Rattle.std.proofs.lemmas.Iterator.{YieldsList-from_slice, YieldsList-from_map, YieldsList-from_zip, same_from_all}
use Rattle.std.proofs.lemmas.Iterator.Consumers.{YieldsList-at}
use Rattle.std.proofs.lemmas.List.{length-map}
use Rattle.std.proofs.lemmas.Slice.Eq.{bytes_eq-Decides}
use Rattle.kom_types.specs.Names.{fold, clash}
use Rattle.name_lookup.proofs.alphabet.clashes.Goals as goal

pub returns-then-first-second : goal.returns-then-first-second
returns-then-first-second c =
    let first = c.args.first.now in
    let second = c.args.second.now in
    same_from_decides c.all.result (clash first second)
    (same_from_all c.all.new.self _ c.all.result (map fold first) (map fold second) c.all.ensures.ran
    (YieldsList-from_zip
    (YieldsList-at c.zip.ensures.first
    (YieldsList-from_map _ fold (YieldsList-from_slice first (cc)) c.map-ours.ensures.closure
    (λ x r q k. search rules)))
    (YieldsList-at c.zip.ensures.second
    (YieldsList-from_map _ fold (YieldsList-from_slice second (cc)) c.map-theirs.ensures.closure
    (λ x r q k. search rules))))
    (length-map first fold ∙ c.if-first-second.true ∙ sym (length-map second fold))
    (λ x q k. search (rules, tests)) (λ x q k. search (rules, tests)))
    (bytes_eq-Decides (map fold first) (map fold second))
