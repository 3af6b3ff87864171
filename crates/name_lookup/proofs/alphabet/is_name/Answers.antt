use Rattle.std.proofs.Common.{◌≡◌, sym, ap, ◌∙◌, rules, tests}
use Rattle.std.specs.List.{list_all}
use Rattle.std.proofs.lemmas.Iterator.{YieldsList-from_slice}
use Rattle.std.proofs.lemmas.Iterator.Search.{all_from_yields_List}
use Rattle.kom_types.specs.Names.{is_proper, is_name, are_some, words_of}
use Rattle.name_lookup.proofs.Words.{is_begun, begins, are_some-words_of}
use Rattle.name_lookup.proofs.alphabet.is_name.Goals as goal

pub returns-then-all : goal.returns-then-all
unfolding is_name
returns-then-all c =
    let proper : c.all.result ≡ list_all is_proper c.args.name.now =
    all_from_yields_List is_proper _ _ _ c.all.ensures.ran (YieldsList-from_slice c.args.name.now cc)
    (λ x b q k. search (rules, tests)) in
    let words : c.is_some.result ≡ are_some (words_of c.args.name.now) =
    c.is_some.ensures ∙ begins _ _ c.next.result c.next.ensures.steps ∙ ap is_begun c.of.ensures
    ∙ are_some-words_of c.args.name.now in
    rw (sym proper ∙ c.if-all.true) words

pub returns-else-all : goal.returns-else-all
unfolding is_name
returns-else-all c =
    let proper : c.all.result ≡ list_all is_proper c.args.name.now =
    all_from_yields_List is_proper _ _ _ c.all.ensures.ran (YieldsList-from_slice c.args.name.now cc)
    (λ x b q k. search (rules, tests)) in
    rw (sym proper ∙ c.if-all.false) c.if-all.false
