-- The places of the links from a text and into it, among the lists of its places.
use Rattle.std.proofs.Common.{◌≡◌, ℕ, zero, suc, ◌+◌, ◌<◌, Bool, true, false, cond, ◌&&◌, ◌||◌, eqb, nat_eq, List, []}
use Rattle.std.proofs.Common.{◌∷◌, ◌++◌, map, filter_map, Option, Some, None, refl, sym, ap, ◌∙◌, arith}
use Rattle.std.specs.List.{cons_option}
use Rattle.std.specs.Option.{option_map_or}
use Rattle.std.proofs.lemmas.Bool.{eq-eqb, ne_eqb}
use Rattle.std.proofs.lemmas.List.Folds.{list_any-append}
use Rattle.kom_types.specs.Bits.{alike}
use Rattle.kom_types.specs.declared.texts.TextLink.{TextLink}
use Rattle.row_slots.specs.Slots.{rows_in, places_from, places_of}
use Rattle.row_slots.proofs.Places.{row_at, rows-places_of}
use Rattle.misc_links.specs.Keeping.{is_from, is_into, link_at, IsKept}
use Rattle.misc_links.specs.Linked.{touches, links_of_text}
use Rattle.row_slots.proofs.Passing.{passes_at}
use Rattle.misc_links.proofs.Rising.{AllAbove, Rises, has, has_none}

module _ {R : Type 0} (test : R → Bool) where
  -- ---- places rise

  above_places_from : (place later : ℕ) (slots : List (Option R)) → place < later →
      AllAbove place (places_from test later slots)
  above_places_from place later [] less = tt
  above_places_from place later (None ∷ slots) less = above_places_from place (later + 1) slots (omega arith)
  above_places_from place later (Some row ∷ slots) less =
      let rest = above_places_from place (later + 1) slots (omega arith) in
      elim (test row) as
      (λ b. AllAbove place (cond b (later ∷ places_from test (later + 1) slots) (places_from test (later + 1) slots))) [
        | true ↦ (less, rest)
        | false ↦ rest
      ]

  rises-places_from : (place : ℕ) (slots : List (Option R)) → Rises (places_from test place slots)
  rises-places_from place [] = tt
  rises-places_from place (None ∷ slots) = rises-places_from (place + 1) slots
  rises-places_from place (Some row ∷ slots) =
      let rest = rises-places_from (place + 1) slots in
      elim (test row) as
      (λ b. Rises (cond b (place ∷ places_from test (place + 1) slots) (places_from test (place + 1) slots))) [
        | true ↦ (above_places_from place (place + 1) slots (omega arith), rest)
        | false ↦ rest
      ]

  pub rises-places_of : (slots : List (Option R)) → Rises (places_of test slots)
  rises-places_of slots = rises-places_from 0 slots

  -- ---- which places they are

  has-places_from : (first place : ℕ) (slots : List (Option R)) →
      has (places_from test first slots) (first + place) ≡ passes_at test slots place
  has-places_from first place [] = refl
  has-places_from first zero (None ∷ slots) =
      has_none (first + 0) (places_from test (first + 1) slots)
      (above_places_from (first + 0) (first + 1) slots (omega arith))
  has-places_from first (suc place) (None ∷ slots) =
      let next : first + suc place ≡ (first + 1) + place = omega arith in
      rw next (has-places_from (first + 1) place slots)
  has-places_from first zero (Some row ∷ slots) =
      let rest : has (places_from test (first + 1) slots) (first + 0) ≡ false =
      has_none (first + 0) (places_from test (first + 1) slots)
      (above_places_from (first + 0) (first + 1) slots (omega arith)) in
      let here : eqb (first + 0) first ≡ true = eq-eqb (first + 0) first (omega arith) in
      elim (test row) as
      (λ b. has (cond b (first ∷ places_from test (first + 1) slots) (places_from test (first + 1) slots)) (first + 0)
      ≡ b) [
        | true ↦ ap (λ b. b || has (places_from test (first + 1) slots) (first + 0)) here
        | false ↦ rest
      ]
  has-places_from first (suc place) (Some row ∷ slots) =
      let next : first + suc place ≡ (first + 1) + place = omega arith in
      let rest : has (places_from test (first + 1) slots) (first + suc place) ≡ passes_at test slots place =
      ap (has (places_from test (first + 1) slots)) next ∙ has-places_from (first + 1) place slots in
      let other : eqb (first + suc place) first ≡ false =
      ne_eqb (first + suc place) first (λ is. absurd (omega (arith, is))) in
      elim (test row) as
      (λ b. has (cond b (first ∷ places_from test (first + 1) slots) (places_from test (first + 1) slots))
      (first + suc place)
      ≡ passes_at test slots place) [
        | true ↦ ap (λ b. b || has (places_from test (first + 1) slots) (first + suc place)) other ∙ rest
        | false ↦ rest
      ]

  pub has-places_of : (slots : List (Option R)) (place : ℕ) →
      has (places_of test slots) place ≡ passes_at test slots place
  has-places_of slots place =
      let same : place ≡ 0 + place = omega arith in
      ap (has (places_of test slots)) same ∙ has-places_from 0 place slots

-- ---- a link is in one list at least of each text that it touches

in_lists : (child parent footnote : Bool) →
    ((child && alike footnote false || child && alike footnote true)
    || (parent && alike footnote false || parent && alike footnote true)) ≡ (child || parent)
in_lists true true true = refl
in_lists true true false = refl
in_lists true false true = refl
in_lists true false false = refl
in_lists false true true = refl
in_lists false true false = refl
in_lists false false true = refl
in_lists false false false = refl

passes_in : (text : ℕ) (slot : Option TextLink) →
    ((option_map_or (is_from text false) slot false || option_map_or (is_from text true) slot false)
    || (option_map_or (is_into text false) slot false || option_map_or (is_into text true) slot false))
    ≡ option_map_or (touches text) slot false
passes_in text None = refl
passes_in text (Some row) = in_lists (eqb row.child text) (eqb row.parent text) row.footnote

module _ (slots : List (Option TextLink)) (from into : ℕ → Bool →
    List ℕ) (kept : IsKept slots from into) (text : ℕ) where
  pub has_all : (place : ℕ) →
      has ((from text false ++ from text true) ++ (into text false ++ into text true)) place
      ≡ has (places_of (touches text) slots) place
  has_all place =
      list_any-append (nat_eq place) (from text false ++ from text true) (into text false ++ into text true)
      ∙ (λ i. list_any-append (nat_eq place) (from text false) (from text true) i
      || list_any-append (nat_eq place) (into text false) (into text true) i)
      ∙ (λ i. (has (kept.listed_from text false i) place || has (kept.listed_from text true i) place)
      || (has (kept.listed_into text false i) place || has (kept.listed_into text true i) place))
      ∙ (λ i. (has-places_of (is_from text false) slots place i || has-places_of (is_from text true) slots place i)
      || (has-places_of (is_into text false) slots place i || has-places_of (is_into text true) slots place i))
      ∙ passes_in text (row_at slots place)
      ∙ sym (has-places_of (touches text) slots place)

-- ---- the links at places

links_through : (slots : List (Option TextLink)) (places : List ℕ) →
    filter_map (link_at slots) places ≡ filter_map (λ slot. slot) (map (row_at slots) places)
links_through slots [] = refl
links_through slots (place ∷ places) = ap (cons_option (link_at slots place)) (links_through slots places)

all_links : (rows : List TextLink) → filter_map (λ slot. slot) (map Some rows) ≡ rows
all_links [] = refl
all_links (row ∷ rows) = ap (λ rest. row ∷ rest) (all_links rows)

pub links_touching : (text : ℕ) (slots : List (Option TextLink)) →
    filter_map (link_at slots) (places_of (touches text) slots) ≡ links_of_text text (rows_in slots)
links_touching text slots =
    links_through slots (places_of (touches text) slots)
    ∙ ap (filter_map (λ slot. slot)) (rows-places_of (touches text) slots)
    ∙ all_links (links_of_text text (rows_in slots))
