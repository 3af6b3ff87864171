-- What holds of all rows of a table.
use Rattle.std.proofs.Common.{ℕ, Bool, not, eqb, ltb, List, [], ◌∷◌, filter}
use Rattle.std.specs.List.{AllByRecursion}
use Rattle.std.proofs.lemmas.Bool.{cond_both}
use Rattle.row_table.specs.Tables.{with_row, without_row, changed_row}

-- ---- what holds of all
pub all_weaker : {X : Type 0} (P Q : X → Type 0) → ((x : X) → P x → Q x) → (xs : List X) → AllByRecursion P xs →
    AllByRecursion Q xs
all_weaker P Q weaker [] all = tt
all_weaker P Q weaker (x ∷ xs) all = (weaker x all.0, all_weaker P Q weaker xs all.1)

pub all_both : {X : Type 0} (P Q : X → Type 0) (xs : List X) → AllByRecursion P xs → AllByRecursion Q xs →
    AllByRecursion (λ x. P x × Q x) xs
all_both P Q [] all all' = tt
all_both P Q (x ∷ xs) all all' = ((all.0, all'.0), all_both P Q xs all.1 all'.1)

pub all_kept : {X : Type 0} (P : X → Type 0) (test : X → Bool) (xs : List X) → AllByRecursion P xs →
    AllByRecursion P (filter test xs)
all_kept P test [] all = tt
all_kept P test (x ∷ xs) all =
    let rest = all_kept P test xs all.1 in
    cond_both (test x) (x ∷ filter test xs) (filter test xs) (AllByRecursion P) (λ _. (all.0, rest)) (λ _. rest)

module _ {R : Type 0} (number_of : R → ℕ) where
  pub all_with_row : (P : R → Type 0) (row : R) (rows : List R) → P row → AllByRecursion P rows →
      AllByRecursion P (with_row number_of row rows)
  all_with_row P row [] here all = (here, tt)
  all_with_row P row (first ∷ rows) here all =
      cond_both (eqb (number_of row) (number_of first)) _ _ (AllByRecursion P) (λ _. (here, all.1))
      (λ _. cond_both (ltb (number_of row) (number_of first)) _ _ (AllByRecursion P) (λ _. (here, all))
      (λ _. (all.0, all_with_row P row rows here all.1)))

  pub all_without_row : (P : R → Type 0) (gone : ℕ) (rows : List R) → AllByRecursion P rows →
      AllByRecursion P (without_row number_of gone rows)
  all_without_row P gone rows all = all_kept P (λ row. not (eqb (number_of row) gone)) rows all

  pub all_changed_row : (P : R → Type 0) (number : ℕ) (change : R → R) → ((row : R) → P row → P (change row)) →
      (rows : List R) → AllByRecursion P rows → AllByRecursion P (changed_row number_of number change rows)
  all_changed_row P number change keeps [] all = tt
  all_changed_row P number change keeps (row ∷ rows) all = (
    cond_both (eqb (number_of row) number) (change row) row P (λ _. keeps row all.0) (λ _. all.0),
    all_changed_row P number change keeps rows all.1,
  )
