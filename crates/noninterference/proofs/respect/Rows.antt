-- Rows that change in hidden parts alone, and rows that are hidden whole, leave the same when these are taken out.
use Rattle.std.proofs.Common.{◌≡◌, ℕ, Bool, true, false, cond, not, ◌==◌, List, [], ◌∷◌, ◌++◌, refl, sym, ap, ap₂}
use Rattle.std.proofs.Common.{◌∙◌}
use Rattle.std.proofs.Common.{eqb-true, subst}
use Rattle.std.specs.Prelude.{map}
use Rattle.std.specs.List.{filter}
use Rattle.row_table.specs.Tables.{changed_row}

module _ {X : Type 0} (number_of : X → ℕ) (hides : ℕ → Bool) (blank : X → X) where
  abbrev masked : X → X
  masked row = cond (hides (number_of row)) (blank row) row

  -- a row of a hidden number that changes in what is taken from it alone
  row-vanishes : (change : X → X) (row : X) → number_of (change row) ≡ number_of row → blank (change row) ≡ blank row →
      hides (number_of row) ≡ true → masked (change row) ≡ masked row
  row-vanishes change row keeps same hidden =
      ap (λ n. cond (hides n) (blank (change row)) (change row)) keeps
      ∙ ap (λ b. cond b (blank (change row)) (change row)) hidden ∙ same
      ∙ sym (ap (λ b. cond b (blank row) row) hidden)

  -- rows that a test picks, all of which have hidden numbers
  pub picked-vanish : (pick : X → Bool) (change : X → X) → ((row : X) → number_of (change row) ≡ number_of row) →
      ((row : X) → blank (change row) ≡ blank row) → ((row : X) → pick row ≡ true → hides (number_of row) ≡ true) →
      (rows : List X) → map masked (map (λ row. cond (pick row) (change row) row) rows) ≡ map masked rows
  picked-vanish pick change keeps same hidden [] = refl
  picked-vanish pick change keeps same hidden (row ∷ rows) =
      ap₂ (λ (first : X) (others : List X). first ∷ others) (by (pick row) (hidden row))
      (picked-vanish pick change keeps same hidden rows) where
        by : (picked : Bool) → (picked ≡ true → hides (number_of row) ≡ true) →
            masked (cond picked (change row) row) ≡ masked row
        by true hidden = row-vanishes change row (keeps row) (same row) (hidden refl)
        by false hidden = refl

  -- the row of a hidden number
  pub changed-vanishes : (number : ℕ) (change : X → X) → ((row : X) → number_of (change row) ≡ number_of row) →
      ((row : X) → blank (change row) ≡ blank row) → hides number ≡ true → (rows : List X) →
      map masked (changed_row number_of number change rows) ≡ map masked rows
  changed-vanishes number change keeps same hidden rows =
      picked-vanish (λ row. number_of row == number) change keeps same
      (λ row here. subst (λ n. hides n ≡ true) (sym (eqb-true (number_of row) number here)) hidden) rows

-- a row that does not stay is added, and rows that do not stay go
pub added-vanishes : {X : Type 0} (keep : X → Bool) (given : X) → keep given ≡ false → (rows : List X) →
    filter keep (rows ++ given ∷ []) ≡ filter keep rows
added-vanishes keep given goes [] = ap (λ b. cond b (given ∷ []) []) goes
added-vanishes {X} keep given goes (row ∷ rows) = ap (λ (others : List X). cond (keep row) (row ∷ others) others)
    (added-vanishes keep given goes rows)

pub gone-vanish : {X : Type 0} (keep gone : X → Bool) → ((row : X) → gone row ≡ true → keep row ≡ false) →
    (rows : List X) → filter keep (filter (λ row. not (gone row)) rows) ≡ filter keep rows
gone-vanish keep gone hidden [] = refl
gone-vanish {X} keep gone hidden (row ∷ rows) =
    by (gone row) (hidden row) (gone-vanish keep gone hidden rows) where
      by : (goes : Bool) → (goes ≡ true → keep row ≡ false) →
          filter keep (filter (λ row. not (gone row)) rows) ≡ filter keep rows →
          filter keep (cond (not goes) (row ∷ filter (λ row. not (gone row)) rows)
          (filter (λ row. not (gone row)) rows))
          ≡ cond (keep row) (row ∷ filter keep rows) (filter keep rows)
      by true hidden rest = rest ∙ sym (ap (λ b. cond b (row ∷ filter keep rows) (filter keep rows)) (hidden refl))
      by false hidden rest = ap (λ (others : List X). cond (keep row) (row ∷ others) others) rest
