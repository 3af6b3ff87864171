use Rattle.std.proofs.Common.{◌≡◌, map, ap, ◌∙◌, rules}
use Rattle.std.specs.List.{dedup}
use Rattle.std.specs.List.Sorted.{IsNonDecreasingBy}
use Rattle.std.proofs.lemmas.List.Filters.{dedup_is}
use Rattle.std.proofs.lemmas.List.Sorted.{IsNonDecreasingBy-from_sort_by_key}
use Rattle.kom_types.specs.declared.memberships.MembershipRow.{MembershipRow}
use Rattle.memberships.specs.Table.{Table}
use Rattle.memberships.proofs.Keys.{Timed, same_timed, keys_in_turn}
use Rattle.memberships.proofs.table.Memberships.keys.Goals as goal

pub returns : goal.returns
returns c =
    let up : IsNonDecreasingBy (λ (key : Timed). key.0) c.sort_unstable_by_key.new.self.items =
    IsNonDecreasingBy-from_sort_by_key (λ key. key.0) _ c.sort_unstable_by_key.ensures.sorted
    (λ a r q k. search rules) in
    let kept : c.deref.result.now ≡ dedup same_timed c.sort_unstable_by_key.new.self.items =
    c.deref.ensures.value ∙ dedup_is same_timed _ _ c.dedup.ensures.filtered in
    let keys = ap (map (λ (key : Timed). key.1)) kept
    ∙ keys_in_turn _ _ _ _ c.self.invariant.0 _ _ c.in_ok-timed.ensures c.sort_unstable_by_key.ensures.permutation up
    ∙ ap (λ (t : Table). map (λ (row : MembershipRow). (row.person, row.conference)) t.rows) c.self.view_is in
    rw keys at c.keys_of.ensures
