-- Which acts had ended by a moment, along a history that gets one entry longer.
use Rattle.std.proofs.Common.{◌≡◌, ◌≤◌, ◌<◌, ℕ, Bool, true, cond, List, [], ◌∷◌, ◌++◌, refl}
use Rattle.std.proofs.Common.{ap, ◌∙◌}
use Rattle.std.proofs.Math.Nat.{le_trans}
use Rattle.std.specs.Prelude.{nat_le}
use Rattle.std.specs.List.{AllByRecursion, filter}
use Rattle.std.proofs.lemmas.Bool.{le-leb, lt-leb}
use Rattle.std.proofs.lemmas.List.{append-nil}
use Rattle.std.proofs.lemmas.List.Elements.{filter-append}
use Rattle.kom_model.specs.State.{State}
use Rattle.kom_model.specs.Legal.{state_after}
use Rattle.kom_book.specs.Stops.{tick_of, stable_by, records_of}
use Rattle.kom_book.specs.declared.ticked.Ticked.{Ticked}

filter_all : {X : Type 0} (keep : X → Bool) (xs : List X) → AllByRecursion (λ x. keep x ≡ true) xs →
    filter keep xs ≡ xs
filter_all keep [] all = refl
filter_all keep (x ∷ xs) all =
    ap (λ b. cond b (x ∷ filter keep xs) (filter keep xs)) all.0
    ∙ ap (λ rest. x ∷ rest) (filter_all keep xs all.1)

module _ {D : Type 0} (moment : D → ℕ) where
  pub ticked_later : (history : List (Ticked D)) (early late : ℕ) → early ≤ late →
      AllByRecursion (λ entry. tick_of moment entry ≤ early) history →
      AllByRecursion (λ entry. tick_of moment entry ≤ late) history
  ticked_later [] early late less all = tt
  ticked_later (entry ∷ history) early late less all =
      (le_trans all.0 less, ticked_later history early late less all.1)

  ended : (history : List (Ticked D)) (at : ℕ) →
      AllByRecursion (λ entry. tick_of moment entry ≤ at) history →
      AllByRecursion (λ entry. nat_le (tick_of moment entry) at ≡ true) history
  ended [] at all = tt
  ended (entry ∷ history) at all = (le-leb (tick_of moment entry) at all.0, ended history at all.1)

  -- all had ended by then
  pub stable_all : (start : State) (history : List (Ticked D)) (at : ℕ) →
      AllByRecursion (λ entry. tick_of moment entry ≤ at) history →
      stable_by moment start history at ≡ (state_after start (records_of history)).stable
  stable_all start history at all =
      ap (λ some. (state_after start (records_of some)).stable)
      (filter_all (λ entry. nat_le (tick_of moment entry) at) history (ended history at all))

  -- the last one had not
  pub stable_before : (start : State) (history : List (Ticked D)) (entry : Ticked D) (at : ℕ) →
      at < tick_of moment entry → stable_by moment start (history ++ entry ∷ []) at
      ≡ stable_by moment start history at
  stable_before start history entry at late =
      let keep : Ticked D → Bool = λ one. nat_le (tick_of moment one) at in
      ap (λ some. (state_after start (records_of some)).stable)
      (filter-append keep history (entry ∷ [])
      ∙ ap (λ b. filter keep history ++ cond b (entry ∷ []) [])
      (lt-leb (tick_of moment entry) at late)
      ∙ append-nil (filter keep history))
