-- Links, as contracts see them.
use Rattle.std.specs.Prelude.{ℕ, ◌+◌, ◌≤◌, ◌==◌, ◌||◌, Bool, List, filter, if◌then◌else◌}
use Rattle.kom_types.specs.declared.texts.TextLink.{TextLink}
use Rattle.row_slots.specs.Lists.{room_in}
use Rattle.misc_links.specs.Kinds.{is_same}

-- The links in the order of adding; how many more fit without memory; and, for each kind, the texts
-- that a list is kept for of the links from them, and into them, each with the room in its list.
pub record Linked : Type 0 where
  pub links : List TextLink
  pub spare : ℕ
  pub comments_from : List (ℕ × ℕ)
  pub footnotes_from : List (ℕ × ℕ)
  pub comments_into : List (ℕ × ℕ)
  pub footnotes_into : List (ℕ × ℕ)

-- whether a link is from a text or into it
abbrev pub touches : ℕ → TextLink → Bool
touches text row = row.child == text || row.parent == text

-- the links from a text and into it, in the order of adding
abbrev pub links_of_text : ℕ → List TextLink → List TextLink
links_of_text text rows = filter (touches text) rows

-- how many more links from a text its list has room for
abbrev pub room_from : Linked → ℕ → Bool → ℕ
room_from table text footnote =
    room_in (if footnote then table.footnotes_from else table.comments_from) text

-- how many more links into a text its list has room for
abbrev pub room_into : Linked → ℕ → Bool → ℕ
room_into table text footnote =
    room_in (if footnote then table.footnotes_into else table.comments_into) text

-- one more link needs no memory
pub record HasRoom (table : Linked) (child parent : ℕ) (footnote : Bool) : Type 0 where
  pub spare : 1 ≤ table.spare
  pub from : 1 ≤ room_from table child footnote
  pub into : 1 ≤ room_into table parent footnote

-- no room falls
pub record KeepsRoom (old new : Linked) : Type 0 where
  pub spare : old.spare ≤ new.spare
  pub from : (text : ℕ) (kind : Bool) → room_from old text kind ≤ room_from new text kind
  pub into : (text : ℕ) (kind : Bool) → room_into old text kind ≤ room_into new text kind

-- room falls by one at most, and only in all, in the child's list and in the parent's
pub record UsesRoom (old new : Linked) (child parent : ℕ) (footnote : Bool) : Type 0 where
  pub spare : old.spare ≤ new.spare + 1
  pub from : (text : ℕ) (kind : Bool) → room_from old text kind
      ≤ room_from new text kind + (if is_same child footnote text kind then 1 else 0)
  pub into : (text : ℕ) (kind : Bool) → room_into old text kind
      ≤ room_into new text kind + (if is_same parent footnote text kind then 1 else 0)
