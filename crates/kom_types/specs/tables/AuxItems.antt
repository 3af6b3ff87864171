-- The aux-items of texts and conferences: rows in the order of adding. (Protocol A, "Auxiliary
-- Information".)
use Rattle.std.specs.Prelude.{ℕ, Bool, ◌==◌, ◌&&◌, not, List, map, filter}
use Rattle.kom_types.specs.Bits.{alike}
use Rattle.kom_types.specs.declared.aux_items.AuxRow.{AuxRow}
use Rattle.kom_types.specs.declared.aux_items.ItemRow.{ItemRow}

-- whether a row is of a text, or a conference, of this number
abbrev pub is_item_of : Bool → ℕ → ItemRow → Bool
is_item_of on_text object row = alike row.on_text on_text && row.object == object

-- the items of a text, or a conference, in the order of adding
abbrev pub items_of : Bool → ℕ → List ItemRow → List AuxRow
items_of on_text object rows =
    map (λ row. row.item) (filter (is_item_of on_text object) rows)

-- whether this is the item of a number
abbrev pub is_item : Bool → ℕ → ℕ → ItemRow → Bool
is_item on_text object number row =
    is_item_of on_text object row && row.item.number == number

-- an item is taken away
abbrev pub without_item : Bool → ℕ → ℕ → List ItemRow → List ItemRow
without_item on_text object number rows =
    filter (λ row. not (is_item on_text object number row)) rows
