-- The numbers of all rows, rising.
use Rattle.std.proofs.Common.{◌≡◌, ℕ, suc, ◌<◌, Bool, true, false, cond, eqb, nat_eq, List, [], ◌∷◌, length, map}
use Rattle.std.proofs.Common.{get_or, Some, None, is_some, refl, sym, ap, ◌∙◌, inl, inr, arith, ⊎_elim}
use Rattle.std.specs.List.{AllPairs, dedup}
use Rattle.std.specs.List.Sorted.{IsPermutation, IsSorted}
use Rattle.std.specs.Map.{keys_of, lookup}
use Rattle.std.specs.Ordering.{nat_cmp}
use Rattle.std.specs.Cmp.{both_ways, unsigned_Decides}
use Rattle.std.specs.Set.{is_member}
use Rattle.std.proofs.lemmas.Bool.{cases_Bool, cases_eq, eq-eqb, ne_eqb}
use Rattle.std.proofs.lemmas.List.Kept.{AllPairs-from_increasing, Contains-dedup_nat, Contains-from_dedup}
use Rattle.std.proofs.lemmas.List.Sorted.{list_any-IsPermutation}
use Rattle.std.proofs.lemmas.Map.Keys.{IsStrictlyIncreasing-dedup}
use Rattle.std.proofs.lemmas.Map.Made.{is_member-Decides}
use Rattle.indexmap.specs.IndexMap.{IndexMap, keys}
use Rattle.row_table.specs.Tables.{row_of, AllAbove, IsByNumber}
use Rattle.row_table.specs.Keeping.{table_of, IsKept}
use Rattle.row_table.proofs.Keeping.{row_of-tabled, IsByNumber-tabled}
use Rattle.row_table.proofs.Rows.{same_rows}

-- a number as a row that is found by itself
abbrev itself : ℕ → ℕ
itself n = n

-- whether a number is in a list
abbrev has : List ℕ → ℕ → Bool
has xs k = is_member nat_eq xs k

found-itself : (k : ℕ) (xs : List ℕ) → row_of itself k xs ≡ cond (has xs k) (Some k) None
found-itself k [] = refl
found-itself k (x ∷ xs) = ⊎_elim
    (λ same.
    let here : eqb x k ≡ true = eq-eqb x k (sym same) in
    let here' : eqb k x ≡ true = eq-eqb k x same in
    rw (here, here') (ap Some (sym same)))
    (λ other.
    let not_here : eqb x k ≡ false = ne_eqb x k (λ e. other (sym e)) in
    let not_here' : eqb k x ≡ false = ne_eqb k x other in
    rw (not_here, not_here') (found-itself k xs))
    (cases_eq k x)

-- ---- a list that was sorted, each number kept once

above_from : (x : ℕ) (xs : List ℕ) → ((i : ℕ) (d : ℕ) → i < length xs → x < get_or xs i d) → AllAbove itself x xs
above_from x [] from = tt
above_from x (y ∷ xs) from = (from 0 y (omega arith), above_from x xs (λ i d below. from (suc i) d (omega arith)))

rising_from : (xs : List ℕ) → AllPairs (λ x y. x < y) xs → IsByNumber itself xs
rising_from [] up = tt
rising_from (x ∷ xs) up = (
  above_from x xs (λ i d below. up 0 (suc i) d (omega arith) (omega arith)),
  rising_from xs (λ i j d less below. up (suc i) (suc j) d (omega arith) (omega arith)),
)

has-dedup : (xs : List ℕ) (k : ℕ) → has (dedup eqb xs) k ≡ has xs k
has-dedup xs k =
    let kept = is_member-Decides unsigned_Decides (dedup eqb xs) k in
    let all = is_member-Decides unsigned_Decides xs k in
    both_ways (has (dedup eqb xs) k) (has xs k)
    (λ is. all.1 (Contains-from_dedup eqb xs k (kept.0 is)))
    (λ is. kept.1 (Contains-dedup_nat xs k (all.0 is)))

module _ {R : Type 0} (number_of : R → ℕ) where
  above_map : (k : ℕ) (rows : List R) → AllAbove number_of k rows → AllAbove itself k (map number_of rows)
  above_map k [] above = tt
  above_map k (row ∷ rows) above = (above.0, above_map k rows above.1)

  rising_map : (rows : List R) → IsByNumber number_of rows → IsByNumber itself (map number_of rows)
  rising_map [] rising = tt
  rising_map (row ∷ rows) rising = (above_map (number_of row) rows rising.0, rising_map rows rising.1)

  has_row : (k : ℕ) (rows : List R) → has (map number_of rows) k ≡ is_some (row_of number_of k rows)
  has_row k [] = refl
  has_row k (row ∷ rows) = ⊎_elim
      (λ same.
      let here : eqb (number_of row) k ≡ true = eq-eqb (number_of row) k (sym same) in
      let here' : eqb k (number_of row) ≡ true = eq-eqb k (number_of row) same in
      rw (here, here') refl)
      (λ other.
      let not_here : eqb (number_of row) k ≡ false = ne_eqb (number_of row) k (λ e. other (sym e)) in
      let not_here' : eqb k (number_of row) ≡ false = ne_eqb k (number_of row) other in
      rw (not_here, not_here') (has_row k rows))
      (cases_eq k (number_of row))

  has_key : (k : ℕ) (entries : List (ℕ × R)) → has (keys_of entries) k ≡ is_some (lookup (eqb k) entries)
  has_key k [] = refl
  has_key k (entry ∷ entries) = elim (cases_Bool (eqb k entry.0)) [
    | inl here ↦ rw here refl
    | inr other ↦ rw other (has_key k entries)
  ]

  module _ {S : Type 0} where
    pub numbers-sorted : (table : IndexMap ℕ R S) → IsKept number_of table → (given sorted : List ℕ) →
        given ≡ keys table → IsPermutation given sorted → IsSorted nat_cmp sorted →
        dedup eqb sorted ≡ map number_of (table_of number_of table).rows
    numbers-sorted table kept given sorted is moved is_sorted =
        let rows : List R = (table_of number_of table).rows in
        let same : (k : ℕ) → has (dedup eqb sorted) k ≡ has (map number_of rows) k = λ k.
        has-dedup sorted k ∙ sym (list_any-IsPermutation (nat_eq k) given sorted moved) ∙ ap (λ l. has l k) is
        ∙ has_key k table.entries ∙ sym (ap is_some (row_of-tabled number_of table kept k)) ∙ sym (has_row k rows) in
        same_rows itself (dedup eqb sorted) (map number_of rows)
        (rising_from (dedup eqb sorted)
        (AllPairs-from_increasing (dedup eqb sorted) (IsStrictlyIncreasing-dedup sorted is_sorted)))
        (rising_map rows (IsByNumber-tabled number_of table))
        (λ k. found-itself k (dedup eqb sorted) ∙ ap (λ b. cond b (Some k) None) (same k)
        ∙ sym (found-itself k (map number_of rows)))
