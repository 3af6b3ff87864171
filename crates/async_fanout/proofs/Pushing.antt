-- Lists that are pushed one for each element of a list.
use Rattle.std.proofs.Common.{◌≡◌, ℕ, ◌+◌, ◌≤◌, List, [], ◌∷◌, ◌++◌, length, take, Some, None, sym, ap, ◌∙◌, inl, inr}
use Rattle.std.specs.List.{flat_map, slice_get}
use Rattle.std.proofs.lemmas.List.{take_more, take_all, flat_map_more}
use Rattle.std.proofs.lemmas.Option.{slice_get_within, slice_get_cases, get_or_from_slice_get}

-- there is an element at each place before the end
pub absent_past : {X : Type 0} (xs : List X) (place : ℕ) → slice_get xs place ≡ None → length xs ≤ place
absent_past xs place is = elim (slice_get_cases xs place).1 [
  | inl (row, within, there, read) ↦ cc
  | inr (past, none) ↦ past
]

module _ {X Y : Type 0} (make : X → List Y) (old : List Y) (xs : List X) where
  -- what is pushed for the first elements
  abbrev pub pushed_to : ℕ → List Y
  pushed_to place = old ++ flat_map make (take place xs)

  -- one more of them
  pub pushed : (place : ℕ) (x : X) (now new : List Y) → slice_get xs place ≡ Some x → now ≡ pushed_to place →
      new ≡ now ++ make x → new ≡ pushed_to (place + 1)
  pushed place x now new here is push =
      let more : take (place + 1) xs ≡ take place xs ++ x ∷ [] =
      take_more xs place x (slice_get_within xs place x here)
      ∙ ap (λ one. take place xs ++ one ∷ []) (get_or_from_slice_get xs place x x here) in
      push ∙ ap (λ l. l ++ make x) is ∙ flat_map_more make old (take place xs) x
      ∙ ap (λ l. old ++ flat_map make l) (sym more)

  -- all of them
  pub pushed_all : (place : ℕ) (now : List Y) → length xs ≤ place → now ≡ pushed_to place →
      now ≡ old ++ flat_map make xs
  pushed_all place now past is = is ∙ ap (λ l. old ++ flat_map make l) (take_all place xs past)
