-- The row that is nearest to a number, of those that pass a test, by a walk along the numbers.
use Rattle.std.proofs.Common.{◌≡◌, ℕ, ◌<◌, Bool, true, false, ◌&&◌, eqb, nat_lt, List, [], ◌∷◌, reverse}
use Rattle.std.proofs.Common.{Option, Some, None, is_some, option_map, refl, sym, ap, ◌∙◌, ⊎_elim, ne_of_lt, arith}
use Rattle.std.specs.List.{find, AllByRecursion}
use Rattle.std.specs.Option.{option_or}
use Rattle.std.proofs.lemmas.Bool.{cases_eq, cases_order, ne_eqb, lt-ltb, ltb-true}
use Rattle.std.proofs.lemmas.List.{reverse-append}
use Rattle.std.proofs.lemmas.List.Folds.{find-append}
use Rattle.row_table.specs.Tables.{row_of, AllAbove, IsByNumber}

both_or_not : (first second : Bool) → (first ≡ true → second ≡ false) → first && second ≡ false
both_or_not true second not_second = not_second refl
both_or_not false second not_second = refl

module _ {R : Type 0} (number_of : R → ℕ) where
  -- a row of this number is among these
  abbrev pub IsThere : ℕ → List R → Type 0
  IsThere number rows = is_some (row_of number_of number rows) ≡ true

  -- all rows have numbers below this one
  abbrev pub AllBelow : ℕ → List R → Type 0
  AllBelow next rows = AllByRecursion (λ row. number_of row < next) rows

  absent_above : (number : ℕ) (rows : List R) → AllAbove number_of number rows → row_of number_of number rows ≡ None
  absent_above number [] above = refl
  absent_above number (row ∷ rows) above =
      let other : eqb (number_of row) number ≡ false = ne_eqb _ _ (λ e. omega (arith, above.0)) in
      rw other (absent_above number rows above.1)

  both : (P Q S : R → Type 0) → ((row : R) → P row → Q row → S row) → (rows : List R) →
      AllByRecursion P rows → AllByRecursion Q rows → AllByRecursion S rows
  both P Q S give [] p q = tt
  both P Q S give (row ∷ rows) p q = (give row p.0 q.0, both P Q S give rows p.1 q.1)

  module _ (test : ℕ → Bool) where
    abbrev passes : R → Bool
    passes row = test (number_of row)

    abbrev pub AllFail : List R → Type 0
    AllFail rows = AllByRecursion (λ row. test (number_of row) ≡ false) rows

    -- a row more of a list that is searched from its end
    find-reversed : (row : R) (rows : List R) →
        find passes (reverse (row ∷ rows)) ≡ option_or (find passes (reverse rows)) (find passes (row ∷ []))
    find-reversed row rows =
        ap (find passes) (reverse-append (row ∷ []) rows) ∙ find-append passes (reverse rows) (row ∷ [])

    pub none-first : (rows : List R) → AllFail rows → find passes rows ≡ None
    none-first [] fail = refl
    none-first (row ∷ rows) fail = rw fail.0 (none-first rows fail.1)

    pub none-last : (rows : List R) → AllFail rows → find passes (reverse rows) ≡ None
    none-last [] fail = refl
    none-last (row ∷ rows) fail = rw (find-reversed row rows, none-last rows fail.1, fail.0) refl

    pub fail-below : (next : ℕ) (rows : List R) → AllBelow next rows → ((k : ℕ) → k < next → test k ≡ false) →
        AllFail rows
    fail-below next rows below fail =
        both (λ row. number_of row < next) (λ row. number_of row < next) (λ row. test (number_of row) ≡ false)
        (λ row under _. fail (number_of row) under) rows below below

    module _ (number : ℕ) (is : test number ≡ true) where
      pub first-found : (rows : List R) → IsByNumber number_of rows → IsThere number rows →
          ((k : ℕ) → k < number → test k ≡ false) → option_map number_of (find passes rows) ≡ Some number
      first-found [] rising there fail = cc
      first-found (row ∷ rows) rising there fail =
          ⊎_elim
          (λ (same : number_of row ≡ number).
          let here : test (number_of row) ≡ true = ap test same ∙ is in rw here (ap Some same))
          (⊎_elim
          (λ (less : number_of row < number).
          let other : eqb (number_of row) number ≡ false = ne_eqb _ _ (ne_of_lt less) in
          rw (fail (number_of row) less) (first-found rows rising.1 (rw other at there) fail))
          (λ (more : number < number_of row).
          let above : AllAbove number_of number (row ∷ rows) = (
            more,
            both (λ one. number_of row < number_of one) (λ one. number_of row < number_of one)
                (λ one. number < number_of one) (λ one high _. omega arith) rows rising.0 rising.0,
          ) in
          let wrong : false ≡ true = rw (absent_above number (row ∷ rows) above) at there in cc))
          (cases_order (number_of row) number)

      stays-found : (found other : Option R) → option_map number_of found ≡ Some number →
          option_map number_of (option_or found other) ≡ Some number
      stays-found None other at = cc
      stays-found (Some row) other at = at

      pub last-found : (next : ℕ) (rows : List R) → IsByNumber number_of rows → AllBelow next rows →
          IsThere number rows → ((k : ℕ) → number < k → k < next → test k ≡ false) →
          option_map number_of (find passes (reverse rows)) ≡ Some number
      last-found next [] rising below there fail = cc
      last-found next (row ∷ rows) rising below there fail =
          rw (find-reversed row rows) (⊎_elim
          (λ (same : number_of row ≡ number).
          let here : test (number_of row) ≡ true = ap test same ∙ is in
          let later : AllFail rows = both (λ one. number_of row < number_of one) (λ one. number_of one < next)
          (λ one. test (number_of one) ≡ false) (λ one high under. fail (number_of one) (omega arith) under) rows
          rising.0 below.1 in
          rw (none-last rows later, here) (ap Some same))
          (λ apart.
          let other : eqb (number_of row) number ≡ false = ne_eqb _ _ apart in
          stays-found _ _ (last-found next rows rising.1 below.1 (rw other at there) fail))
          (cases_eq (number_of row) number))

  -- the nearest row to a number, where all that are shown are there
  module _ (shown : ℕ → Bool) (start next : ℕ) (rows : List R) (rising : IsByNumber number_of rows)
      (below : AllBelow next rows) (there : (number : ℕ) → shown number ≡ true → IsThere number rows) where
    abbrev is_next : ℕ → Bool
    is_next k = nat_lt start k && shown k

    abbrev is_previous : ℕ → Bool
    is_previous k = nat_lt k start && shown k

    pub next-found : (number : ℕ) → start < number → shown number ≡ true →
        ((k : ℕ) → start < k → k < number → shown k ≡ false) →
        Some number ≡ option_map number_of (find (passes is_next) rows)
    next-found number above is none =
        sym (first-found is_next number (rw (lt-ltb start number above) is) rows rising (there number is)
        (λ k less. both_or_not (nat_lt start k) (shown k) (λ high. none k (ltb-true start k high) less)))

    pub next-none : ((k : ℕ) → start < k → k < next → shown k ≡ false) →
        None ≡ option_map number_of (find (passes is_next) rows)
    next-none none =
        sym (ap (option_map number_of) (none-first is_next rows (fail-below is_next next rows below
        (λ k less. both_or_not (nat_lt start k) (shown k) (λ high. none k (ltb-true start k high) less)))))

    pub previous-found : (number : ℕ) → number < start → shown number ≡ true →
        ((k : ℕ) → number < k → k < start → k < next → shown k ≡ false) →
        Some number ≡ option_map number_of (find (passes is_previous) (reverse rows))
    previous-found number under is none =
        sym (last-found is_previous number (rw (lt-ltb number start under) is) next rows rising below (there number is)
        (λ k more less. both_or_not (nat_lt k start) (shown k) (λ low. none k more (ltb-true k start low) less)))

    pub previous-none : ((k : ℕ) → k < start → k < next → shown k ≡ false) →
        None ≡ option_map number_of (find (passes is_previous) (reverse rows))
    previous-none none =
        sym (ap (option_map number_of) (none-last is_previous rows (fail-below is_previous next rows below
        (λ k less. both_or_not (nat_lt k start) (shown k) (λ low. none k (ltb-true k start low) less)))))
