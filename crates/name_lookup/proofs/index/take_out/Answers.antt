use Rattle.std.proofs.Common.{◌≡◌, ℕ, ◌<◌, cond, eqb, length, get_or, is_some, Some, sym, ap, ◌∙◌}
use Rattle.std.specs.Map.{lookup}
use Rattle.std.proofs.lemmas.Bool.{eq-eqb}
use Rattle.std.proofs.lemmas.List.{get_or_default}
use Rattle.name_lookup.specs.declared.order.By.TheVariants.{Name}
use Rattle.name_lookup.proofs.Finding.{stands_first}
use Rattle.name_lookup.proofs.Lists.{filter_at, filter_absent}
use Rattle.name_lookup.proofs.Orders.{below_first, once_at_most}
use Rattle.name_lookup.proofs.index.take_out.Goals as goal
use Rattle.name_lookup.proofs.index.take_out.Goals.{After-first_at-place}

pub first_at-place-requires : goal.first_at-place-requires
first_at-place-requires c =
    below_first c.args.kept.now.entries Name c.as_slice.result.now c.args.order.now.numbers c.requires.by_name

stands : (c : After-first_at-place) → (c.first_at-place.result < length c.args.order.now.numbers)
    × (get_or c.args.order.now.numbers c.first_at-place.result 0 ≡ c.args.number)
stands c =
    let known : lookup (eqb c.args.number) c.args.kept.now.entries ≡ Some c.in-Some.name.now =
    sym c.in-Some.ensures.value in
    stands_first c.args.kept.now.entries c.args.order.now.numbers c.in-Some.name.now c.first_at-place.result c.requires
    (rw c.as_slice.ensures at c.first_at-place.ensures.first) c.args.number known

pub remove-requires : goal.remove-requires
remove-requires c = (stands (goal.at.remove-requires c).After-first_at-place).0

pub returns-in-Some-clause-rest : goal.returns-in-Some-clause-rest
returns-in-Some-clause-rest c =
    let number = c.args.number in
    let order = c.args.order.now.numbers in
    let place = c.first_at-place.result in
    let at : (place < length order) × (get_or order place 0 ≡ number) =
    stands (goal.at.returns-in-Some-clause-rest c).After-first_at-place in
    c.remove.ensures.numbers
    ∙ filter_at (eqb number) order place (once_at_most c.args.kept.now.entries number order c.requires.once) at.0
    (λ d. eq-eqb number (get_or order place d) (sym at.1 ∙ get_or_default order place 0 d at.0))

pub returns-in_default-clause-rest : goal.returns-in_default-clause-rest
returns-in_default-clause-rest c =
    sym (filter_absent (eqb c.args.number) c.args.order.now.numbers
    (c.requires.once c.args.number ∙ ap (λ known. cond {A = ℕ} (is_some known) 1 0) (sym c.in_default.ensures.value)))
