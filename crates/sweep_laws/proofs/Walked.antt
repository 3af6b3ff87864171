-- What walks over rows come to: the numbers of all rows.
use Rattle.std.proofs.Common.{◌≡◌, ℕ, ◌==◌, ◌<◌, ◌≤◌, Bool, true, false, List, [], ◌∷◌, ◌++◌, Option, Some, None}
use Rattle.std.proofs.Common.{refl, ap, ◌∙◌, subst, inl, inr, nat_lt, lt-ltb, le-ltb, ltb-true, eq-eqb, ne_eqb, arith}
use Rattle.std.proofs.Common.{is_some}
use Rattle.std.specs.Prelude.{map, option_map, flat_map, IfSome}
use Rattle.std.specs.List.{AllByRecursion, find, filter, list_all, list_any}
use Rattle.std.proofs.lemmas.Bool.{cases_Bool}
use Rattle.row_table.specs.Tables.{row_of, AllAbove, IsByNumber}
use Rattle.kom_model.specs.Kinds.{is_among}
use Rattle.kom_sweep.specs.Due.{Step}
use Rattle.kom_sweep.specs.Walks.{Leads}
use Rattle.sweep_laws.proofs.Found.{all-both}

-- ---- what holds of parts
pub all-apart : {X : Type 0} (P : X → Type 0) (xs ys : List X) → AllByRecursion P (xs ++ ys) →
    AllByRecursion P xs × AllByRecursion P ys
all-apart P [] ys all = (tt, all)
all-apart P (x ∷ xs) ys all = let rest = all-apart P xs ys all.1 in ((all.0, rest.0), rest.1)

pub all-joined : {X : Type 0} (P : X → Type 0) (xs ys : List X) → AllByRecursion P xs → AllByRecursion P ys →
    AllByRecursion P (xs ++ ys)
all-joined P [] ys one other = other
all-joined P (x ∷ xs) ys one other = (one.0, all-joined P xs ys one.1 other)

pub all-flat : {X Y : Type 0} (P : Y → Type 0) (f : X → List Y) (xs : List X) → AllByRecursion P (flat_map f xs) →
    AllByRecursion (λ x. AllByRecursion P (f x)) xs
all-flat P f [] all = tt
all-flat P f (x ∷ xs) all = let parts = all-apart P (f x) (flat_map f xs) all in (parts.0, all-flat P f xs parts.1)

-- ---- a walk
module _ {R : Type 0} (number_of : R → ℕ) where
  -- the number of the next row after a number, if there is one
  abbrev pub next_in : List R → ℕ → Option ℕ
  next_in rows number = option_map number_of (find (λ row. nat_lt number (number_of row)) rows)

  next-first : (from : ℕ) (row : R) (rows : List R) → from < number_of row →
      next_in (row ∷ rows) from ≡ Some (number_of row)
  next-first from row rows above =
      let passes : nat_lt from (number_of row) ≡ true = lt-ltb from (number_of row) above in
      rw passes refl

  next-later : (from : ℕ) (row : R) (rows : List R) → number_of row ≤ from →
      next_in (row ∷ rows) from ≡ next_in rows from
  next-later from row rows below =
      let fails : nat_lt from (number_of row) ≡ false = le-ltb from (number_of row) below in
      rw fails refl

  module _ (all : List R) where
    -- rows that are left of all behind a number
    record Rest (from : ℕ) (rows : List R) : Type 0 where
      above : AllAbove number_of from rows
      rising : IsByNumber number_of rows
      same : (number : ℕ) → from ≤ number → next_in all number ≡ next_in rows number

    rest-more : (from : ℕ) (row : R) (rows : List R) → Rest from (row ∷ rows) → Rest (number_of row) rows
    rest-more from row rows rest = record {
      above = rest.rising.0;
      rising = rest.rising.1;
      same = λ number over. let below : from < number_of row = rest.above.0 in
          rest.same number (omega arith) ∙ next-later number row rows over;
    }

    walked : {X : Type 0} (from : ℕ) (rows : List R) (at : ℕ) (steps : List (Step X)) → Rest from rows →
        Leads from steps at →
        AllByRecursion (λ step. Some step.number ≡ next_in all step.after) steps →
        IfSome (next_in all at) (λ number. number ≤ at) → map (λ step. step.number) steps ≡ map number_of rows
    walked from [] at [] rest leads next end = refl
    walked from (row ∷ rows) at [] rest leads next end =
        let above : from < number_of row = rest.above.0 in
        let same : at ≡ from = leads in
        let found : next_in all at ≡ Some (number_of row) =
        rest.same at (omega arith) ∙ next-first at row rows (omega arith) in
        let below : number_of row ≤ at = subst (λ (found : Option ℕ). IfSome found (λ number. number ≤ at)) found end in
        absurd (omega arith)
    walked from [] at (step ∷ steps) rest leads next end =
        let none : Some step.number ≡ None =
        next.0 ∙ ap (next_in all) leads.0 ∙ rest.same from (omega arith) in cc
    walked from (row ∷ rows) at (step ∷ steps) rest leads next end =
        let found : Some step.number ≡ Some (number_of row) =
        next.0 ∙ ap (next_in all) leads.0 ∙ rest.same from (omega arith) ∙ next-first from row rows rest.above.0 in
        let here : step.number ≡ number_of row = cc found in
        let others = walked (number_of row) rows at steps (rest-more from row rows rest)
        (subst (λ (from : ℕ). Leads from steps at) here leads.2) next.1 end in
        rw (here, others) refl

    pub walked-all : {X : Type 0} (at : ℕ) (steps : List (Step X)) → IsByNumber number_of all →
        AllAbove number_of 0 all →
        Leads 0 steps at → AllByRecursion (λ step. Some step.number ≡ next_in all step.after) steps →
        IfSome (next_in all at) (λ number. number ≤ at) → map (λ step. step.number) steps ≡ map number_of all
    walked-all at steps rising above leads next end =
        walked 0 all at steps (record { above = above; rising = rising; same = λ number over. refl }) leads next end

  -- where no next one is told, none is found
  pub none-next : (rows : List R) (at : ℕ) → IfSome (next_in rows at) (λ number. number ≤ at) →
      find (λ row. nat_lt at (number_of row)) rows ≡ None
  none-next [] at end = refl
  none-next (row ∷ rows) at end = elim (cases_Bool (nat_lt at (number_of row))) [
    | inl over ↦
        let above : at < number_of row = ltb-true at (number_of row) over in
        let below : number_of row ≤ at =
        subst (λ (found : Option ℕ). IfSome found (λ number. number ≤ at)) (next-first at row rows above) end in
        absurd (omega arith)
    | inr under ↦ rw under (none-next rows at (rw under at end))
  ]

  -- each row is the row of its number
  pub all-rows : (rows : List R) → IsByNumber number_of rows →
      AllByRecursion (λ row. row_of number_of (number_of row) rows ≡ Some row) rows
  all-rows [] rising = tt
  all-rows (row ∷ rows) rising = (
    rw (eq-eqb (number_of row) (number_of row) refl) refl,
    all-both (λ one. number_of row < number_of one) (λ one. row_of number_of (number_of one) rows ≡ Some one)
        (λ one. row_of number_of (number_of one) (row ∷ rows) ≡ Some one)
        (λ one above found.
        let other : (number_of row == number_of one) ≡ false =
        ne_eqb (number_of row) (number_of one) (λ same. omega arith) in
        rw other found)
        rows rising.0 (all-rows rows rising.1),
  )

  pub among-rows : (rows : List R) (number : ℕ) →
      is_among (map number_of rows) number ≡ is_some (row_of number_of number rows)
  among-rows [] number = refl
  among-rows (row ∷ rows) number = elim (cases_Bool (number_of row == number)) [
    | inl here ↦ rw here refl
    | inr there ↦ rw there (among-rows rows number)
  ]

pub steps-positive : {X : Type 0} (from at : ℕ) (steps : List (Step X)) → Leads from steps at →
    AllByRecursion (λ step. 0 < step.number) steps
steps-positive from at [] leads = tt
steps-positive from at (step ∷ steps) leads =
    let above : step.after < step.number = leads.1 in
    (omega arith, steps-positive step.number at steps leads.2)

-- ---- tests by number
module _ {X : Type 0} (number_of : X → ℕ) (test : X → Bool) (by : ℕ → Bool) where
  pub filter-named : (rows : List X) → AllByRecursion (λ row. test row ≡ by (number_of row)) rows →
      map number_of (filter test rows) ≡ filter by (map number_of rows)
  filter-named [] all = refl
  filter-named (row ∷ rows) all = elim (cases_Bool (by (number_of row))) [
    | inl keeps ↦ rw (all.0, keeps) (ap (λ kept. number_of row ∷ kept) (filter-named rows all.1))
    | inr drops ↦ rw (all.0, drops) (filter-named rows all.1)
  ]

  pub all-named : (rows : List X) → AllByRecursion (λ row. test row ≡ by (number_of row)) rows →
      list_all test rows ≡ list_all by (map number_of rows)
  all-named [] all = refl
  all-named (row ∷ rows) all = rw (all.0) (rw (all-named rows all.1) refl)

  pub any-named : (rows : List X) → AllByRecursion (λ row. test row ≡ by (number_of row)) rows →
      list_any test rows ≡ list_any by (map number_of rows)
  any-named [] all = refl
  any-named (row ∷ rows) all = rw (all.0) (rw (any-named rows all.1) refl)
