use Rattle.std.proofs.Common.{◌≡◌, ◌<◌, true, false, length, get_or, Some, sym, ap, ◌∙◌, arith}
use Rattle.std.proofs.lemmas.List.Elements.{Contains-get_or}
use Rattle.kom_types.specs.Names.{clash}
use Rattle.name_lookup.specs.declared.order.By.TheVariants.{Name}
use Rattle.name_lookup.specs.NamedRows.{clash_of}
use Rattle.name_lookup.specs.Order.{name_in}
use Rattle.name_lookup.proofs.Finding.{taken_there, taken_nowhere}
use Rattle.name_lookup.proofs.Orders.{below_first}
use Rattle.name_lookup.proofs.index.Index.taken.Goals as goal

pub first_at-place-requires : goal.first_at-place-requires
first_at-place-requires c =
    below_first c.self.inside.kept.entries Name c.args.name.now c.self.inside.order.numbers c.self.invariant.by_name

pub returns-then-place-len-clause-number : goal.returns-then-place-len-clause-number
returns-then-place-len-clause-number c =
    sym (taken_nowhere c.self.inside.kept.entries c.self.inside.order.numbers c.args.name.now c.first_at-place.result
    c.self.invariant c.first_at-place.ensures.first (λ lt. absurd (omega (arith, c.len.ensures))))
    ∙ ap (λ value. clash_of c.args.name.now value.names) c.self.view_is

pub returns-then-clashes-clause-number : goal.returns-then-clashes-clause-number
returns-then-clashes-clause-number c =
    let entries = c.self.inside.kept.entries in
    let order = c.self.inside.order.numbers in
    let name = c.args.name.now in
    let place = c.first_at-place.result in
    let there : place < length order = omega (arith, c.len.ensures) in
    let alike : clash name (name_in entries (get_or order place 0)) ≡ true =
    ap (clash name) (ap (name_in entries) (sym c.get-number.ensures) ∙ sym c.name_of.ensures)
    ∙ sym c.clashes.ensures ∙ c.if-clashes.true in
    ap Some c.get-number.ensures
    ∙ sym (taken_there entries order name (get_or order place 0) c.self.invariant
    (Contains-get_or order place 0 there) alike)
    ∙ ap (λ value. clash_of name value.names) c.self.view_is

pub returns-clause-number : goal.returns-clause-number
returns-clause-number c =
    let entries = c.self.inside.kept.entries in
    let order = c.self.inside.order.numbers in
    let name = c.args.name.now in
    let place = c.first_at-place.result in
    let apart : clash name (name_in entries (get_or order place 0)) ≡ false =
    ap (clash name) (ap (name_in entries) (sym c.get-number.ensures) ∙ sym c.name_of.ensures)
    ∙ sym c.clashes.ensures ∙ c.if-clashes.false in
    sym (taken_nowhere entries order name place c.self.invariant c.first_at-place.ensures.first (λ lt. apart))
    ∙ ap (λ value. clash_of name value.names) c.self.view_is
