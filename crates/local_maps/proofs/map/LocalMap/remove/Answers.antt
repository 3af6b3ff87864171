use Rattle.std.proofs.Common.{◌<◌, ◌^◌, Bool, map, not, eqb, sym, ap, subst, ◌∙◌}
use Rattle.kom_types.specs.declared.texts.LocalText.{LocalText}
use Rattle.local_maps.specs.Pairs.{AllBelow, local_text}
use Rattle.local_maps.proofs.Pairs.{text_of-local_text, filter-local_text, all_filter}
use Rattle.local_maps.proofs.map.LocalMap.remove.Goals as goal

pub returns-clause-text : goal.returns-clause-text
returns-clause-text c =
    rw (← c.self.view_is)
    (c.remove.ensures.text ∙ sym (text_of-local_text c.args.local c.self.inside.chain.pairs))

pub returns-clause-pairs : goal.returns-clause-pairs
returns-clause-pairs c =
    rw (← c.self.view_is)
    (ap (map local_text) c.remove.ensures.pairs
    ∙ sym (filter-local_text (λ pair. not (eqb pair.local c.args.local)) c.self.inside.chain.pairs))

pub invariant_of-self : goal.invariant_of-self
invariant_of-self c =
    let pairs = c.self.inside.chain.pairs in
    let test : LocalText → Bool = λ pair. not (eqb pair.local c.args.local) in
    subst (AllBelow (2 ^ 32)) (filter-local_text test pairs ∙ ap (map local_text) (sym c.remove.ensures.pairs))
    (all_filter (λ pair. pair.local < 2 ^ 32) test (map local_text pairs) c.self.invariant)
