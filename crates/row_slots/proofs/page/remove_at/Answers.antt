use Rattle.std.proofs.Common.{◌<◌, ℕ, List, [], length, nat_eq, Some, is_some, remove, slice_get, ◌≡◌, sym, ◌∙◌, ap}
use Rattle.std.proofs.Common.{arith}
use Rattle.std.specs.List.{position_or_len}
use Rattle.std.specs.Option.{option_map_or}
use Rattle.std.proofs.lemmas.Option.{same_Some, slice_get_read}
use Rattle.row_slots.specs.DenseLists.{page_list}
use Rattle.row_slots.proofs.DenseRooms.{slice_get-set_same, within_list}
use Rattle.row_slots.proofs.Members.{position-place, remove-place}
use Rattle.row_slots.proofs.page.remove_at.Goals as goal

pub unwrap-at-requires : goal.unwrap-at-requires
unwrap-at-requires c =
    rw c.position_at.ensures
    (ap is_some (position-place c.args.number (page_list c.args.page.now c.args.place) c.requires.member))

pub returns-clause-list : goal.returns-clause-list
returns-clause-list c =
    let within : c.args.place < length c.args.page.now.items =
    within_list c.args.page.now.items c.args.place c.requires.there in
    let list : List ℕ = page_list c.args.page.now c.args.place in
    let had : slice_get c.args.page.now.items c.args.place ≡ Some c.index_mut-list.result.now =
    slice_get_read c.args.page.now.items _ c.args.place c.index_mut-list.result.now c.args.page.now.ok.0
    (omega (arith, within, c.args.page.now.ok.0)) c.index_mut-list.ensures.value in
    let old : list ≡ c.index_mut-list.result.now.items = ap (λ o. option_map_or (λ l. l.items) o []) had in
    let place : c.unwrap-at.result ≡ position_or_len (nat_eq c.args.number) list =
    same_Some _ _
    (sym c.unwrap-at.ensures ∙ c.position_at.ensures ∙ position-place c.args.number list c.requires.member) in
    ap (λ o. option_map_or (λ l. l.items) o [])
    (slice_get-set_same c.args.page.now.items c.args.place c.remove.new.self within)
    ∙ c.remove.ensures.items ∙ (λ i. remove (sym old i) (place i)) ∙ remove-place c.args.number list c.requires.member
