-- What it says of the rows that an aux-item may be added, or taken away.
use Rattle.std.proofs.Common.{◌≡◌, ℕ, ◌≤◌, Bool, true, false, cond, ◌&&◌, ◌||◌, eqb, List, [], ◌∷◌, map, filter, find}
use Rattle.std.proofs.Common.{Option, Some, is_some, refl}
use Rattle.std.specs.List.{list_any}
use Rattle.std.proofs.lemmas.Bool.{and_parts, leb-true}
use Rattle.kom_types.specs.declared.limits.TheConstants.{LAST_DRAWN}
use Rattle.kom_types.specs.declared.aux_items.AuxRow.{AuxRow}
use Rattle.kom_types.specs.declared.aux_items.ItemRow.{ItemRow}
use Rattle.kom_types.specs.declared.effects.Effect.TheVariants as effect
use Rattle.kom_types.specs.tables.AuxItems.{is_item_of}
use Rattle.kom_model.specs.Db.{Db, conference_of, text_of, items_of, next_item_of}
use Rattle.kom_model.specs.Effects.{fits, has_item}
use Rattle.aux_items.specs.Items.{item_numbered}
use Rattle.kom_state.proofs.Drawn.{next_item}

pub record ItemFits (db : Db) (on_text : Bool) (object : ℕ) (item : AuxRow) : Type 0 where
  pub from : next_item on_text object db.conferences db.texts ≤ item.number
  pub last : item.number ≤ LAST_DRAWN

next_is : (db : Db) (on_text : Bool) (object : ℕ) →
    next_item_of db on_text object ≡ next_item on_text object db.conferences db.texts
unfolding next_item_of text_of conference_of
next_is db true object = refl
next_is db false object = refl

pub item-fits : (db : Db) (on_text : Bool) (object : ℕ) (item : AuxRow) →
    fits (effect.AuxAdded on_text object item) db ≡ true → ItemFits db on_text object item
unfolding fits
item-fits db on_text object item fits' =
    let known = (and_parts _ _ (and_parts _ _ fits').0).0 in let last = and_parts _ _ (and_parts _ _ known).0 in
    let from = and_parts _ _ last.0 in record {
      from = rw (← next_is db on_text object) (leb-true _ _ from.1);
      last = leb-true _ _ last.1;
    }

-- a number among those of the items that pass is found with a test of both
numbered-find : (number : ℕ) (passes : ItemRow → Bool) (rows : List ItemRow) →
    list_any (λ (item : AuxRow). eqb item.number number) (map (λ (row : ItemRow). row.item) (filter passes rows))
    ≡ is_some (find (λ row. passes row && eqb row.item.number number) rows)
numbered-find number passes [] = refl
numbered-find number passes (row ∷ rows) = by (passes row) (numbered-find number passes rows)
  where
    has : List ItemRow → Bool
    has passing = list_any (λ (item : AuxRow). eqb item.number number) (map (λ (row : ItemRow). row.item) passing)

    later : Option ItemRow
    later = find (λ row. passes row && eqb row.item.number number) rows

    first : (b : Bool) → has (filter passes rows) ≡ is_some later →
        (b || has (filter passes rows)) ≡ is_some (cond b (Some row) later)
    first true rest = refl
    first false rest = rest

    by : (b : Bool) → has (filter passes rows) ≡ is_some later →
        has (cond b (row ∷ filter passes rows) (filter passes rows))
        ≡ is_some (cond (b && eqb row.item.number number) (Some row) later)
    by true rest = first (eqb row.item.number number) rest
    by false rest = rest

pub has_item-is : (db : Db) (on_text : Bool) (object number : ℕ) →
    has_item db on_text object number ≡ is_some (item_numbered on_text object number db.items)
unfolding items_of
has_item-is db on_text object number = numbered-find number (is_item_of on_text object) db.items
