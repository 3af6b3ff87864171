use Rattle.std.proofs.Common.{◌≡◌, List, map, filter, filter_map, nat_cmp, ap, ◌∙◌, rules}
use Rattle.std.specs.List.Sorted.{IsNonDecreasingBy, IsStableByKey}
use Rattle.std.proofs.lemmas.List.Sorted.{answers_always, IsNonDecreasingBy-from_sort_by_key}
use Rattle.kom_types.specs.declared.texts.Mark.{Mark}
use Rattle.kom_types.specs.declared.texts.MarkRow.{MarkRow}
use Rattle.kom_types.specs.tables.Texts.{marks_of, shown_mark}
use Rattle.row_slots.specs.Slots.{rows_in}
use Rattle.marks.specs.Keeping.{is_of, mark_at}
use Rattle.marks.specs.Marked.{Marked}
use Rattle.marks.proofs.Finding.{shown_places}
use Rattle.marks.proofs.Rising.{sorted_marks}
use Rattle.marks.proofs.table.MarkTable.marks_of.Goals as goal

pub returns : goal.returns
returns c =
    let slots = c.self.inside.rows.slots in
    let rows : List MarkRow = filter (is_of c.args.person) (rows_in slots) in
    let shown : c.in_ok-marks.marks.items ≡ map shown_mark rows =
    c.in_ok-marks.ensures
    ∙ ap (filter_map (mark_at slots)) (c.list.ensures ∙ c.self.invariant.listed_of c.args.person)
    ∙ shown_places (is_of c.args.person) slots in
    let up : IsNonDecreasingBy (λ (mark : Mark). mark.text) c.sort_by_key.new.self.items =
    IsNonDecreasingBy-from_sort_by_key (λ mark. mark.text) _ c.in_ok-sort_by_key.ensures.sorted
    (λ a r q k. search rules) in
    let stable : IsStableByKey (λ (mark : Mark). mark.text) nat_cmp c.in_ok-marks.marks.items
    c.sort_by_key.new.self.items =
    c.sort_by_key.ensures.stable (λ mark. mark.text) (answers_always _ _ _ (λ f a r g h. search rules)) in
    c.of.ensures ∙ sorted_marks rows c.sort_by_key.new.self.items up (rw shown at stable)
    ∙ ap (λ (t : Marked). map shown_mark (marks_of c.args.person t.marks)) c.self.view_is
