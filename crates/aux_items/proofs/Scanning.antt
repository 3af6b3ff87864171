-- What is told of a list by reading one element after another.
use Rattle.std.proofs.Common.{◌≡◌, ℕ, suc, ◌+◌, ◌≤◌, Bool, true, false, cond, ◌||◌, List, ◌∷◌, length, filter}
use Rattle.std.proofs.Common.{find, drop, Some, None, sym, ap, ◌∙◌, inl, inr}
use Rattle.std.specs.List.{list_any, slice_get}
use Rattle.std.proofs.lemmas.List.{drop_more, drop_all}
use Rattle.std.proofs.lemmas.Option.{slice_get_within, slice_get_cases, get_or_from_slice_get}

-- there is an element at each place before the end
pub absent_past : {X : Type 0} (xs : List X) (place : ℕ) → slice_get xs place ≡ None → length xs ≤ place
absent_past xs place is = elim (slice_get_cases xs place).1 [
  | inl (row, within, there, read) ↦ cc
  | inr (past, none) ↦ past
]

-- what is left of a list from a place on
pub left_at : {X : Type 0} (xs : List X) (place : ℕ) (x : X) → slice_get xs place ≡ Some x →
    drop place xs ≡ x ∷ drop (place + 1) xs
left_at xs place x here =
    drop_more xs place x (slice_get_within xs place x here)
    ∙ ap (λ one. one ∷ drop (place + 1) xs) (get_or_from_slice_get xs place x x here)

module _ {X : Type 0} (test : X → Bool) (xs : List X) (place : ℕ) where
  -- ---- whether one passes

  pub any_here : (x : X) → slice_get xs place ≡ Some x → test x ≡ true → list_any test (drop place xs) ≡ true
  any_here x here passes =
      ap (list_any test) (left_at xs place x here) ∙ ap (λ b. b || list_any test (drop (place + 1) xs)) passes

  pub any_later : (x : X) → slice_get xs place ≡ Some x → test x ≡ false →
      list_any test (drop (place + 1) xs) ≡ list_any test (drop place xs)
  any_later x here fails =
      sym (ap (list_any test) (left_at xs place x here) ∙ ap (λ b. b || list_any test (drop (place + 1) xs)) fails)

  pub any_end : length xs ≤ place → list_any test (drop place xs) ≡ false
  any_end past = ap (list_any test) (drop_all place xs past)

  -- ---- the first that passes

  pub find_here : (x : X) → slice_get xs place ≡ Some x → test x ≡ true → find test (drop place xs) ≡ Some x
  find_here x here passes =
      ap (find test) (left_at xs place x here) ∙ ap (λ b. cond b (Some x) (find test (drop (place + 1) xs))) passes

  pub find_later : (x : X) → slice_get xs place ≡ Some x → test x ≡ false →
      find test (drop (place + 1) xs) ≡ find test (drop place xs)
  find_later x here fails =
      sym (ap (find test) (left_at xs place x here) ∙ ap (λ b. cond b (Some x) (find test (drop (place + 1) xs))) fails)

  pub find_end : length xs ≤ place → find test (drop place xs) ≡ None
  find_end past = ap (find test) (drop_all place xs past)

  -- ---- how many pass

  abbrev pub count_left : ℕ
  count_left = length (filter test (drop place xs))

  pub count_here : (x : X) → slice_get xs place ≡ Some x → test x ≡ true →
      count_left ≡ suc (length (filter test (drop (place + 1) xs)))
  count_here x here passes =
      ap (λ l. length (filter test l)) (left_at xs place x here)
      ∙ ap (λ b. length (cond b (x ∷ filter test (drop (place + 1) xs)) (filter test (drop (place + 1) xs)))) passes

  pub count_later : (x : X) → slice_get xs place ≡ Some x → test x ≡ false →
      count_left ≡ length (filter test (drop (place + 1) xs))
  count_later x here fails =
      ap (λ l. length (filter test l)) (left_at xs place x here)
      ∙ ap (λ b. length (cond b (x ∷ filter test (drop (place + 1) xs)) (filter test (drop (place + 1) xs)))) fails

  pub count_end : length xs ≤ place → count_left ≡ 0
  count_end past = ap (λ l. length (filter test l)) (drop_all place xs past)
