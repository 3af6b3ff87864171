use Rattle.std.proofs.Common.{ℕ, List, [], nat_eq, Some, is_some, remove, ◌≡◌, sym, ◌∙◌, ap}
use Rattle.std.specs.List.{position_or_len}
use Rattle.std.specs.Option.{option_copied_mut, option_map_or}
use Rattle.std.proofs.lemmas.Option.{same_Some}
use Rattle.indexmap.specs.IndexMap.{get}
use Rattle.row_slots.specs.Lists.{list_of}
use Rattle.row_slots.proofs.Members.{position-place, remove-place}
use Rattle.row_slots.proofs.lists.Lists.remove.Goals as goal

pub unwrap-place-requires : goal.unwrap-place-requires
unwrap-place-requires c =
    rw c.position_of.ensures
    (ap is_some (position-place c.args.number (list_of c.args.self.now c.args.key) c.requires))

pub returns-clause-list : goal.returns-clause-list
returns-clause-list c =
    let list : List ℕ = list_of c.args.self.now c.args.key in
    let had : get nat_eq c.args.self.now.map c.args.key ≡ Some c.unwrap-list.result.now =
    sym c.get_mut.ensures.value ∙ ap option_copied_mut c.unwrap-list.ensures in
    let old : list ≡ c.unwrap-list.result.now.items = ap (λ o. option_map_or (λ l. l.items) o []) had in
    let place : c.unwrap-place.result ≡ position_or_len (nat_eq c.args.number) list =
    same_Some _ _ (sym c.unwrap-place.ensures ∙ c.position_of.ensures ∙ position-place c.args.number list c.requires) in
    let new : list_of
    record { map = c.get_mut.follows.lender c.remove.new.self; hand = c.args.self.now.hand } c.args.key
    ≡ c.remove.new.self.items =
    ap (λ o. option_map_or (λ l. l.items) o []) ((c.get_mut.follows.holds c.remove.new.self).3 (ap is_some had)).1 in
    new ∙ c.remove.ensures.items ∙ (λ i. remove (sym old i) (place i)) ∙ remove-place c.args.number list c.requires
