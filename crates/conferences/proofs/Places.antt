-- What stands at the place that a binary search in rising numbers answers.
use Rattle.std.proofs.Common.{◌≡◌, ℕ, ◌<◌, ◌≤◌, true, false, eqb, ltb, List, [], ◌∷◌, length}
use Rattle.std.proofs.Common.{get_or, insert, remove, Ok, Err}
use Rattle.std.proofs.Common.{zero, suc, refl, sym, ap, subst, ⊎_elim, arith}
use Rattle.std.specs.List.Sorted.{IsBinarySearchResult}
use Rattle.std.specs.Ordering.{nat_cmp}
use Rattle.std.proofs.lemmas.List.Sorted.{searched}
use Rattle.std.proofs.lemmas.Bool.{cases_lt, ne_eqb, eq-eqb, lt-ltb, le-ltb}
use Rattle.row_table.specs.Tables.{AllAbove}
use Rattle.conferences.specs.Secret.{IsRising, with_if}

-- all numbers of the list are greater than this one
abbrev IsBelow : ℕ → List ℕ → Type 0
IsBelow number numbers = AllAbove (λ other. other) number numbers

-- each number of such a list is greater
above_at : (bound : ℕ) (numbers : List ℕ) (i : ℕ) → IsBelow bound numbers → i < length numbers →
    bound < get_or numbers i 0
above_at bound [] i above within = absurd (omega arith)
above_at bound (first ∷ rest) zero above within = above.0
above_at bound (first ∷ rest) (suc i) above within = above_at bound rest i above.1 (omega arith)

-- a later number is no smaller
rises : (numbers : List ℕ) → IsRising numbers → (i j : ℕ) → i ≤ j → j < length numbers →
    get_or numbers i 0 ≤ get_or numbers j 0
rises [] rising i j le within = absurd (omega arith)
rises (first ∷ rest) rising zero zero le within = omega arith
rises (first ∷ rest) rising (suc i) zero le within = absurd (omega arith)
rises (first ∷ rest) rising zero (suc j) le within =
    let above : first < get_or rest j 0 = above_at first rest j rising.0 (omega arith) in omega arith
rises (first ∷ rest) rising (suc i) (suc j) le within = rises rest rising.1 i j (omega arith) (omega arith)

-- a number that is nowhere is taken out already
taken_out : (number : ℕ) (numbers : List ℕ) →
    ((k : ℕ) → k < length numbers → get_or numbers k 0 ≡ number → ⊥) → with_if false number numbers ≡ numbers
taken_out number [] absent = refl
taken_out number (first ∷ rest) absent =
    let other : eqb first number ≡ false = ne_eqb _ _ (absent 0 (omega arith)) in
    rw other (ap (λ later. first ∷ later) (taken_out number rest (λ k within. absent (suc k) (omega arith))))

-- nor is there anything to take out of greater numbers
taken_above : (number : ℕ) (numbers : List ℕ) → IsBelow number numbers → with_if false number numbers ≡ numbers
taken_above number numbers above =
    taken_out number numbers (λ k within is.
    let greater : number < get_or numbers k 0 = above_at number numbers k above within in omega arith)

-- what stands at the place of a number is taken out
pub removed_at : (numbers : List ℕ) (number i : ℕ) → IsRising numbers → i < length numbers →
    get_or numbers i 0 ≡ number → remove numbers i ≡ with_if false number numbers
removed_at [] number i rising within at = absurd (omega arith)
removed_at (first ∷ rest) number zero rising within at =
    let here : eqb first number ≡ true = eq-eqb _ _ at in
    rw here (sym (taken_above number rest (subst (λ n. IsBelow n rest) at rising.0)))
removed_at (first ∷ rest) number (suc i) rising within at =
    let above : first < get_or rest i 0 = above_at first rest i rising.0 (omega arith) in
    let other : eqb first number ≡ false = ne_eqb _ _ (λ e. omega arith) in
    rw other (ap (λ later. first ∷ later) (removed_at rest number i rising.1 (omega arith) at))

-- a number that is there is in its place already
pub there_at : (numbers : List ℕ) (number i : ℕ) → IsRising numbers → i < length numbers →
    get_or numbers i 0 ≡ number → numbers ≡ with_if true number numbers
there_at [] number i rising within at = absurd (omega arith)
there_at (first ∷ rest) number zero rising within at =
    let here : eqb number first ≡ true = eq-eqb _ _ (sym at) in rw here (ap (λ one. one ∷ rest) at)
there_at (first ∷ rest) number (suc i) rising within at =
    let above : first < get_or rest i 0 = above_at first rest i rising.0 (omega arith) in
    let other : eqb number first ≡ false = ne_eqb _ _ (λ e. omega arith) in
    let not_less : ltb number first ≡ false = le-ltb _ _ (omega arith) in
    rw (other, not_less) (ap (λ later. first ∷ later) (there_at rest number i rising.1 (omega arith) at))

-- what a search says of the place where it finds the number
pub found_at : (numbers : List ℕ) (number i : ℕ) → IsRising numbers →
    IsBinarySearchResult (λ other. nat_cmp other number) numbers (Ok i) →
    (i < length numbers) × (get_or numbers i 0 ≡ number)
found_at numbers number i rising found = searched numbers number (Ok i) found (rises numbers rising)

-- the place between the smaller numbers and the greater ones
pub record IsPlace (numbers : List ℕ) (number i : ℕ) : Type 0 where
  pub within : i ≤ length numbers
  pub smaller : (k : ℕ) → k < i → get_or numbers k 0 < number
  pub greater : (k : ℕ) → i ≤ k → k < length numbers → number < get_or numbers k 0

-- what a search says of the place where the number would be
pub place_for : (numbers : List ℕ) (number i : ℕ) → IsRising numbers →
    IsBinarySearchResult (λ other. nat_cmp other number) numbers (Err i) → IsPlace numbers number i
place_for numbers number i rising found =
    let place = searched numbers number (Err i) found (rises numbers rising) in
    record { within = place.0; smaller = place.1; greater = place.2 }

-- the same place in the list without its first number
later_place : (first : ℕ) (rest : List ℕ) (number i : ℕ) → IsPlace (first ∷ rest) number (suc i) → IsPlace rest number i
later_place first rest number i place = record {
  within = let within = place.within in omega arith;
  smaller = λ k low. place.smaller (suc k) (omega arith);
  greater = λ k low high. place.greater (suc k) (omega arith) (omega arith);
}

-- a number that is inserted at its place
pub inserted_at : (numbers : List ℕ) (number i : ℕ) → IsPlace numbers number i →
    insert numbers i number ≡ with_if true number numbers
inserted_at [] number zero place = refl
inserted_at [] number (suc i) place = let within = place.within in absurd (omega arith)
inserted_at (first ∷ rest) number zero place =
    let above : number < first = place.greater 0 (omega arith) (omega arith) in
    let other : eqb number first ≡ false = ne_eqb _ _ (λ e. omega arith) in
    let less : ltb number first ≡ true = lt-ltb _ _ above in rw (other, less) refl
inserted_at (first ∷ rest) number (suc i) place =
    let below : first < number = place.smaller 0 (omega arith) in
    let other : eqb number first ≡ false = ne_eqb _ _ (λ e. omega arith) in
    let not_less : ltb number first ≡ false = le-ltb _ _ (omega arith) in
    rw (other, not_less)
    (ap (λ later. first ∷ later) (inserted_at rest number i (later_place first rest number i place)))

-- a number that has no place is taken out already
pub absent_at : (numbers : List ℕ) (number i : ℕ) → IsPlace numbers number i →
    numbers ≡ with_if false number numbers
absent_at numbers number i place =
    sym (taken_out number numbers (λ k within is.
    ⊎_elim (λ low. let smaller : get_or numbers k 0 < number = place.smaller k low in omega arith)
    (λ high. let greater : number < get_or numbers k 0 = place.greater k high within in omega arith) (cases_lt k i)))
