-- Links by their places in the lists of their texts.
use Rattle.std.proofs.Common.{◌≡◌, ℕ, Bool, true, false, ◌&&◌, eqb, List, find, Option, Some, option_map, refl, ◌∙◌}
use Rattle.std.specs.Option.{option_flatten}
use Rattle.std.proofs.lemmas.Bool.{and_parts, eqb-true, false≢true}
use Rattle.kom_types.specs.Bits.{alike}
use Rattle.kom_types.specs.declared.texts.TextLink.{TextLink}
use Rattle.kom_types.specs.tables.Texts.{is_link, link_of}
use Rattle.row_slots.specs.Slots.{rows_in}
use Rattle.row_slots.proofs.Places.{row_at}
use Rattle.misc_links.specs.Keeping.{is_from, is_into, is_parent_at, is_child_at, IsKept}
use Rattle.row_slots.proofs.Passing.{found, found_row}

and_swapped : (one two three : Bool) → (one && two && three) ≡ (one && three && two)
and_swapped true true three = elim three as (λ c. c ≡ (c && true)) [ true ↦ refl | false ↦ refl ]
and_swapped true false three = elim three as (λ c. false ≡ (c && false)) [ true ↦ refl | false ↦ refl ]
and_swapped false two three = refl

and_turned : (one two three : Bool) → (one && two && three) ≡ (two && three && one)
and_turned true true three = elim three as (λ c. c ≡ (c && true)) [ true ↦ refl | false ↦ refl ]
and_turned true false three = refl
and_turned false true three = elim three as (λ c. false ≡ (c && false)) [ true ↦ refl | false ↦ refl ]
and_turned false false three = refl

alike_same : (one other : Bool) → alike one other ≡ true → one ≡ other
alike_same true true same = refl
alike_same true false same = absurd (false≢true same)
alike_same false true same = absurd (false≢true same)
alike_same false false same = refl

-- what a link is of
pub link_parts : (child parent : ℕ) (footnote : Bool) (row : TextLink) → is_link child parent footnote row ≡ true →
    (row.child ≡ child) × (row.parent ≡ parent) × (row.footnote ≡ footnote)
link_parts child parent footnote row is =
    let kind = and_parts (eqb row.child child && eqb row.parent parent) (alike row.footnote footnote) is in
    let ends = and_parts (eqb row.child child) (eqb row.parent parent) kind.0 in (
      eqb-true row.child child ends.0,
      eqb-true row.parent parent ends.1,
      alike_same row.footnote footnote kind.1,
    )

module _ (slots : List (Option TextLink)) (from into : ℕ → Bool → List ℕ) (kept : IsKept slots from into)
    (child parent : ℕ) (footnote : Bool) (places : List ℕ) (are : places ≡ from child footnote) where
  same : (row : TextLink) → is_link child parent footnote row ≡ (is_from child footnote row && eqb row.parent parent)
  same row = and_swapped (eqb row.child child) (eqb row.parent parent) (alike row.footnote footnote)

  -- the link by what is found of its place
  pub link_found : (place : Option ℕ) → place ≡ find (is_parent_at slots parent) places →
      link_of child parent footnote (rows_in slots) ≡ option_flatten (option_map (row_at slots) place)
  link_found place is =
      found (λ row. eqb row.parent parent) (is_from child footnote) (is_link child parent footnote) same slots places
      (are ∙ kept.listed_from child footnote) place is

  -- the row at a place that was found
  pub row_found : (place : ℕ) → Some place ≡ find (is_parent_at slots parent) places →
      (row : TextLink) × (row_at slots place ≡ Some row) × (link_of child parent footnote (rows_in slots) ≡ Some row)
      × (is_link child parent footnote row ≡ true)
  row_found place is =
      found_row (λ row. eqb row.parent parent) (is_from child footnote) (is_link child parent footnote) same slots
      places (are ∙ kept.listed_from child footnote) place is

module _ (slots : List (Option TextLink)) (from into : ℕ → Bool → List ℕ) (kept : IsKept slots from into)
    (child parent : ℕ) (footnote : Bool) (places : List ℕ) (are : places ≡ into parent footnote) where
  same_into : (row : TextLink) → is_link child parent footnote row
      ≡ (is_into parent footnote row && eqb row.child child)
  same_into row = and_turned (eqb row.child child) (eqb row.parent parent) (alike row.footnote footnote)

  -- the link by what is found of its place among those into its parent
  pub link_found_into : (place : Option ℕ) → place ≡ find (is_child_at slots child) places →
      link_of child parent footnote (rows_in slots) ≡ option_flatten (option_map (row_at slots) place)
  link_found_into place is =
      found (λ row. eqb row.child child) (is_into parent footnote) (is_link child parent footnote) same_into slots
      places
      (are ∙ kept.listed_into parent footnote) place is
