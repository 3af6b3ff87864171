use Rattle.std.proofs.Common.{◌≡◌, ℕ, List, ◌∙◌, ap, sym, filter}
use Rattle.std.specs.List.Sorted.{IsNonDecreasing}
use Rattle.std.proofs.lemmas.Iterator.{items_from_collect}
use Rattle.std.proofs.lemmas.Iterator.Consumers.{YieldsList-from_first}
use Rattle.std.proofs.lemmas.List.Sorted.{IsNonDecreasingBy-from_sort}
use Rattle.std.proofs.lemmas.Result.{IfOk-at_ok}
use Rattle.kom_types.specs.Names.{finds}
use Rattle.name_lookup.specs.Letters.{letters_of, letters_left, matches}
use Rattle.name_lookup.specs.NamedRows.{matches_of}
use Rattle.name_lookup.specs.Order.{name_in, letters_in}
use Rattle.name_lookup.proofs.Finding.{found_sorted}
use Rattle.name_lookup.proofs.Words.{finds-letters}
use Rattle.name_lookup.proofs.index.Index.find.Goals as goal

pub returns : goal.returns
returns c =
    let entries = c.self.inside.kept.entries in
    let order = c.self.inside.order.numbers in
    let pattern = c.args.pattern.now in
    let letters : c.in_ok-letters.letters.items ≡ letters_of pattern =
    IfOk-at_ok _ c.in_ok-letters.was (items_from_collect c.collect.result c.collect.ensures.ran
    (YieldsList-from_first (λ x. x) letters_left (letters_of pattern) c.of.ensures)) in
    let walked : c.in_ok-numbers.numbers.items
    ≡ filter (λ (one : ℕ). matches c.as_slice.result.now (letters_in entries one)) order =
    c.in_ok-numbers.ensures in
    let given : c.as_slice.result.now ≡ letters_of pattern = c.as_slice.ensures.value ∙ letters in
    let by_letters : c.in_ok-numbers.numbers.items
    ≡ filter (λ (one : ℕ). matches (letters_of pattern) (letters_in entries one)) order =
    walked ∙ ap (λ (l : List ℕ). filter (λ (one : ℕ). matches l (letters_in entries one)) order) given in
    let all : c.in_ok-numbers.numbers.items ≡ filter (λ (one : ℕ). finds pattern (name_in entries one)) order =
    by_letters ∙ sym (λ i. filter (λ (one : ℕ). finds-letters pattern (name_in entries one) i) order) in
    let up : IsNonDecreasing c.sort_unstable.new.self.items =
    IsNonDecreasingBy-from_sort (λ x. x) c.sort_unstable.new.self.items c.sort_unstable.ensures.sorted in
    c.of-2.ensures
    ∙ found_sorted entries order pattern c.in_ok-numbers.numbers.items c.sort_unstable.new.self.items
    c.self.invariant all c.sort_unstable.ensures.permutation up
    ∙ ap (λ value. matches_of pattern value.names) c.self.view_is
