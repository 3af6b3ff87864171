-- Rows of a number that a mask hides, or not.
use Rattle.std.proofs.Common.{◌≡◌, ℕ, Bool, cond, not, ◌==◌, List, [], ◌∷◌, refl, ap, ap₂, inl, inr, nat_lt}
use Rattle.std.specs.Prelude.{map}
use Rattle.std.proofs.lemmas.Bool.{cases_Bool}
use Rattle.row_table.specs.Tables.{changed_row, with_row, without_row}
use Rattle.kom_laws.proofs.masking.Rows.{same-changed}
use Rattle.kom_laws.proofs.masking.Listed.{map-masked, map-twice, map-filtered}

module _ {X : Type 0} (number_of : X → ℕ) (hides : ℕ → Bool) (blank : X → X)
    (numbers : (row : X) → number_of (blank row) ≡ number_of row)
    (blanks : (row : X) → blank (blank row) ≡ blank row) where
  abbrev pub masked : X → X
  masked row = cond (hides (number_of row)) (blank row) row

  pub masked-number : (row : X) → number_of (masked row) ≡ number_of row
  masked-number row = same-changed number_of (hides (number_of row)) (blank row) row (numbers row)

  pub masked-twice : (row : X) → masked (masked row) ≡ masked row
  masked-twice row = elim (cases_Bool (hides (number_of row))) [
    | inl hidden ↦ rw hidden (rw (numbers row) (rw hidden (blanks row)))
    | inr shown ↦ rw shown (rw shown refl)
  ]

  pub row-masked : (change : X → X) → ((row : X) → number_of (change row) ≡ number_of row) →
      ((row : X) → blank (change (blank row)) ≡ blank (change row)) → (row : X) →
      masked (change (masked row)) ≡ masked (change row)
  row-masked change keeps same row = elim (cases_Bool (hides (number_of row))) [
    | inl hidden ↦ rw hidden (rw (keeps (blank row), keeps row, numbers row) (rw hidden (same row)))
    | inr shown ↦ rw shown refl
  ]

  -- rows that a test picks are changed
  pub picked-masked : (pick : X → Bool) (change : X → X) → ((row : X) → pick (blank row) ≡ pick row) →
      ((row : X) → number_of (change row) ≡ number_of row) →
      ((row : X) → blank (change (blank row)) ≡ blank (change row)) → (rows : List X) →
      map masked (map (λ row. cond (pick row) (change row) row) (map masked rows))
      ≡ map masked (map (λ row. cond (pick row) (change row) row) rows)
  picked-masked pick change picks keeps same rows =
      map-masked masked (λ row. cond (pick row) (change row) row)
      (row-masked (λ row. cond (pick row) (change row) row)
      (λ row. same-changed number_of (pick row) (change row) row (keeps row))
      (λ row. elim (cases_Bool (pick row)) [
        | inl here ↦ rw (picks row) (rw here (same row))
        | inr there ↦ rw (picks row) (rw there (blanks row))
      ])) rows

  pub changed-masked : (number : ℕ) (change : X → X) → ((row : X) → number_of (change row) ≡ number_of row) →
      ((row : X) → blank (change (blank row)) ≡ blank (change row)) → (rows : List X) →
      map masked (changed_row number_of number change (map masked rows))
      ≡ map masked (changed_row number_of number change rows)
  changed-masked number change keeps same rows =
      picked-masked (λ row. number_of row == number) change (λ row. ap (λ n. n == number) (numbers row)) keeps same rows

  pub added-masked : (given : X) (rows : List X) →
      map masked (with_row number_of given (map masked rows)) ≡ map masked (with_row number_of given rows)
  added-masked given [] = refl
  added-masked given (first ∷ rows) =
      let rest = added-masked given rows in
      let others = map-twice masked masked-twice rows in
      elim (cases_Bool (number_of given == number_of first)) [
        | inl here ↦ rw (masked-number first) (rw here (ap (λ rows. masked given ∷ rows) others))
        | inr there ↦ elim (cases_Bool (nat_lt (number_of given) (number_of first))) [
          | inl before ↦ rw (masked-number first) (rw there (rw before
              (ap₂ (λ (first : X) (rows : List X). masked given ∷ first ∷ rows) (masked-twice first) others)))
          | inr after ↦ rw (masked-number first) (rw there (rw after
              (ap₂ (λ (first : X) (rows : List X). first ∷ rows) (masked-twice first) rest)))
        ]
      ]

  pub gone-masked : (number : ℕ) (rows : List X) →
      map masked (without_row number_of number (map masked rows)) ≡ map masked (without_row number_of number rows)
  gone-masked number rows = map-filtered masked (λ row. not (number_of row == number))
      (λ row. ap (λ n. not (n == number)) (masked-number row)) masked-twice rows
