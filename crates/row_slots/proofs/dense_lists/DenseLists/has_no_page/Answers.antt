use Rattle.std.proofs.Common.{◌≡◌, ◌<◌, length, vec_len, slice_get, [], Some, refl, sym, ap, ◌∙◌, arith}
use Rattle.std.specs.Option.{option_map_or}
use Rattle.std.proofs.lemmas.Bool.{false≢true, eqb-true, OnTrue_from}
use Rattle.std.proofs.lemmas.Option.{slice_get_read, slice_get_past}
use Rattle.row_slots.proofs.Pages.{empty_list}
use Rattle.row_slots.proofs.dense_lists.DenseLists.has_no_page.Goals as goal

pub returns-in-Some : goal.returns-in-Some
returns-in-Some c =
    let there : slice_get c.args.self.now.near.items c.args.place ≡ Some c.in-Some.page.now =
    ap (λ them. slice_get them c.args.place) (sym c.deref.ensures.value)
    ∙ slice_get_read c.deref.result.now _ c.args.place c.in-Some.page.now refl c.in-Some.ensures.lookup.3.0
    c.in-Some.ensures.lookup.1 in
    OnTrue_from c.is_empty.result _
    (λ empty.
    let none : vec_len c.in-Some.page.now ≡ 0 = eqb-true _ _ (sym c.is_empty.ensures ∙ empty) in
    ap (λ page. option_map_or (λ p. p.items) page []) there
    ∙ empty_list c.in-Some.page.now.items (omega (arith, none, c.in-Some.page.now.ok.0)))

pub returns-in-None : goal.returns-in-None
returns-in-None c =
    let past : c.args.place < length c.args.self.now.near.items → ⊥ =
    λ within. false≢true (c.in-None.ensures.lookup.2
    (omega (arith, c.deref.ensures.len, c.args.self.now.near.ok.0, within))) in
    ap (λ page. option_map_or (λ p. p.items) page [])
    (slice_get_past c.args.self.now.near.items c.args.place (omega (arith, past)))
