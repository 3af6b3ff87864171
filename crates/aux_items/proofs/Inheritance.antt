-- The items of a new text, while it inherits others.
use Rattle.std.proofs.Common.{◌≡◌, ℕ, ◌+◌, ◌-◌, ◌≤◌, ◌&&◌, Bool, true}
use Rattle.std.proofs.Common.{false, List, [], ◌∷◌, ◌++◌, length, take, drop}
use Rattle.std.proofs.Common.{Option, Some, None, if◌then◌else◌, ap, ◌∙◌, arith}
use Rattle.std.specs.List.{slice_get}
use Rattle.std.proofs.lemmas.List.{drop_all, length-take, take-append-le}
use Rattle.kom_types.specs.declared.aux_items.AuxRow.{AuxRow}
use Rattle.aux_items.proofs.Scanning.{left_at}
use Rattle.kom_types.specs.AuxItems.{AuxKind, inherit, kind_of, may_stand, passes_on, with_inherited}

-- the items begin with those that the text was given
abbrev pub Begins : List AuxRow → List AuxRow → Type 0
Begins own items = take (length own) items ≡ own

module _ (own items : List AuxRow) (begins : Begins own items) where
  one-more : (item : AuxRow) → Begins own (items ++ item ∷ [])
  one-more item =
      let long : length (take (length own) items) ≡ length own = ap length begins in
      let fits : length own ≤ length items = omega (arith, long, length-take (length own) items) in
      take-append-le (length own) items (item ∷ []) fits ∙ begins

  if-more : (b : Bool) (item : AuxRow) → Begins own (if b then items ++ item ∷ [] else items)
  if-more true item = one-more item
  if-more false item = begins

  taken : AuxRow → Option AuxKind → List AuxRow
  taken item known = elim known [
    | None ↦ items
    | Some known ↦
        if passes_on item && may_stand known items item.creator then
        items ++ record item { number = length items + 1; limit = item.limit - 1 } ∷ []
        else items
  ]

  any-kind : (item : AuxRow) (known : Option AuxKind) → Begins own (taken item known)
  unfolding taken
  any-kind item None = begins
  any-kind item (Some known) =
      if-more (passes_on item && may_stand known items item.creator)
      (record item { number = length items + 1; limit = item.limit - 1 })

  pub begins-more : (item : AuxRow) → Begins own (with_inherited items item)
  unfolding taken
  begins-more item = any-kind item (kind_of item.tag)

-- one more of the parent's items is inherited
pub inherited-more : (items parent : List AuxRow) (place : ℕ) (item : AuxRow) → slice_get parent place ≡ Some item →
    inherit items (drop place parent) ≡ inherit (with_inherited items item) (drop (place + 1) parent)
unfolding inherit
inherited-more items parent place item here = ap (inherit items) (left_at parent place item here)

pub inherited-all : (items parent : List AuxRow) (place : ℕ) → length parent ≤ place →
    inherit items (drop place parent) ≡ items
unfolding inherit
inherited-all items parent place past = ap (inherit items) (drop_all place parent past)
