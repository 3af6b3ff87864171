use Rattle.std.proofs.Common.{◌≡◌, ◌||◌, ◌==◌, ◌++◌, map, filter, filter_map, ap, ◌∙◌, rules}
use Rattle.std.specs.List.{dedup}
use Rattle.std.specs.List.Sorted.{IsNonDecreasingBy}
use Rattle.std.proofs.lemmas.List.Filters.{dedup_is}
use Rattle.std.proofs.lemmas.List.Sorted.{IsNonDecreasingBy-from_sort_by_key}
use Rattle.kom_types.specs.declared.memberships.MembershipRow.{MembershipRow}
use Rattle.memberships.specs.Entries.{Key, timed_at}
use Rattle.memberships.specs.Table.{Table}
use Rattle.memberships.proofs.Keys.{Timed, same_timed, keys_once}
use Rattle.memberships.proofs.table.Memberships.keys_at.Goals as goal

pub returns : goal.returns
returns c =
    let number = c.args.number in
    let given =
    c.in_ok-timed.ensures
    ∙ (λ i. filter_map (timed_at c.self.inside.entries.entries)
    (map {B = Key} (λ conference. (number, conference)) (c.list-conferences.ensures i)
    ++ map (λ person. (person, number)) (c.list-persons.ensures i))) in
    let up : IsNonDecreasingBy (λ (key : Timed). key.0) c.sort_unstable_by_key.new.self.items =
    IsNonDecreasingBy-from_sort_by_key (λ key. key.0) _ c.sort_unstable_by_key.ensures.sorted
    (λ a r q k. search rules) in
    let kept : c.deref.result.now ≡ dedup same_timed c.sort_unstable_by_key.new.self.items =
    c.deref.ensures.value ∙ dedup_is same_timed _ _ c.dedup.ensures.filtered in
    let keys = ap (map (λ (key : Timed). key.1)) kept
    ∙ keys_once _ _ _ _ c.self.invariant.0 number _ _ given c.sort_unstable_by_key.ensures.permutation up
    ∙ ap (λ (t : Table). map (λ (row : MembershipRow). (row.person, row.conference))
    (filter (λ row. row.person == number || row.conference == number) t.rows)) c.self.view_is in
    rw keys at c.keys_of.ensures
