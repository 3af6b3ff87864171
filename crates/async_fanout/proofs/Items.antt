-- The items of a text by their numbers, and what is told of those that change.
use Rattle.std.proofs.Common.{◌≡◌, ℕ, ◌+◌, Bool, true, false, cond, List, [], ◌∷◌, ◌++◌, map, take}
use Rattle.std.proofs.Common.{Option, Some, None, refl, ap, suc, zero, inl, inr, arith}
use Rattle.std.specs.List.{filter, filter_map, flat_map, find, slice_get, cons_option}
use Rattle.std.specs.Option.{option_map}
use Rattle.std.proofs.lemmas.Bool.{cases_Bool}
use Rattle.kom_types.specs.AuxItems.{is_shown}
use Rattle.kom_types.specs.declared.aux_items.Adder.{Adder}
use Rattle.kom_types.specs.declared.aux_items.AuxRow.{AuxRow}
use Rattle.kom_types.specs.declared.effects.Effect.{Effect}
use Rattle.kom_model.specs.Shown.{items_shown, item_told}
use Rattle.kom_model.specs.ToWhom.{item_added, items_made}
use Rattle.async_fanout.proofs.Brought.{filter_map-map}

module _ {A : Type 0} (test : A → Bool) where
  -- an element that passes, after others that do not, is what is found
  pub find-at : (xs : List A) (place : ℕ) (x : A) → find test (take place xs) ≡ None →
      Some x ≡ slice_get xs place → test x ≡ true → Some x ≡ find test xs
  find-at [] zero x before at passed = cc
  find-at [] (suc place) x before at passed = cc
  find-at (first ∷ xs) zero x before at passed =
      let same : first ≡ x = cc in
      let here : test first ≡ true = rw same passed in
      rw here at
  find-at (first ∷ xs) (suc place) x before at passed =
      elim (cases_Bool (test first)) [
        | inl here ↦ let wrong : Some first ≡ None = rw here at before in cc
        | inr there ↦ rw there (find-at xs place x (rw there at before) at passed)
      ]

  find-single : (x : A) → test x ≡ false → find test (x ∷ []) ≡ None
  find-single x failed = rw failed refl

  -- none is found yet where the next does not pass either
  pub find-more : (xs : List A) (place : ℕ) (x : A) → find test (take place xs) ≡ None →
      Some x ≡ slice_get xs place → test x ≡ false → find test (take (place + 1) xs) ≡ None
  find-more [] zero x before at failed = cc
  find-more [] (suc place) x before at failed = cc
  find-more (first ∷ xs) zero x before at failed =
      let same : first ≡ x = cc in
      let here : test first ≡ false = rw same failed in
      find-single first here
  find-more (first ∷ xs) (suc place) x before at failed =
      elim (cases_Bool (test first)) [
        | inl here ↦ let wrong : Some first ≡ None = rw here at before in cc
        | inr there ↦
            let next : suc place + 1 ≡ suc (place + 1) = omega arith in
            rw (next, there) (find-more xs place x (rw there at before) at failed)
      ]

-- an item as it is told, if it is shown
abbrev pub shown_one : Adder → AuxRow → List AuxRow
shown_one by item = cond (is_shown by item) (item_told by item ∷ []) []

abbrev pub shown_if : Adder → Option AuxRow → List AuxRow
shown_if by found = elim found [ None ↦ [] | Some item ↦ shown_one by item ]

-- items that are picked one by one
pub shown-each : {A : Type 0} (by : Adder) (pick : A → Option AuxRow) (xs : List A) →
    flat_map (λ x. shown_if by (pick x)) xs ≡ items_shown by (filter_map pick xs)
shown-each by pick [] = refl
shown-each by pick (x ∷ xs) =
    elim (pick x) as (λ found. shown_if by found ++ flat_map (λ x. shown_if by (pick x)) xs
    ≡ items_shown by (cons_option found (filter_map pick xs))) [
      | None ↦ shown-each by pick xs
      | Some item ↦
          let rest = shown-each by pick xs in
          elim (is_shown by item) as (λ b. cond b (item_told by item ∷ []) [] ++ flat_map (λ x. shown_if by (pick x)) xs
          ≡ map (item_told by) (cond b (item ∷ filter (is_shown by) (filter_map pick xs))
          (filter (is_shown by) (filter_map pick xs)))) [
            | true ↦ ap (λ list. item_told by item ∷ list) rest
            | false ↦ rest
          ]
    ]

-- the item that an effect adds
abbrev pub item_of : Effect → Option AuxRow
item_of effect = option_map (λ row. row.item) (item_added effect)

pub items-of : (effects : List Effect) → filter_map item_of effects ≡ items_made effects
items-of effects = filter_map-map item_added (λ row. row.item) effects
