-- Which row is found after a change of the rows.
use Rattle.std.proofs.Common.{◌≡◌, ℕ, ◌≤◌, true, false, cond, not, eqb, List, [], ◌∷◌, ◌++◌, map}
use Rattle.std.proofs.Common.{Option, Some, None, refl, sym, ap, ◌∙◌, inl, inr, if◌then◌else◌}
use Rattle.std.proofs.Common.{arith}
use Rattle.std.specs.List.{find, filter, AllByRecursion}
use Rattle.std.specs.Option.{option_map, IsSome}
use Rattle.std.proofs.lemmas.Bool.{cases_Bool, eqb-true, eq-eqb, ne_eqb}
use Rattle.kom_types.specs.Sessions.{Session, is_session}

-- one row, with this change where it is that of the session
abbrev pub changed_row : ℕ → (Session → Session) → Session → Session
changed_row number change row = if is_session number row then change row else row

-- a change that keeps the numbers of sessions
abbrev pub KeepsNumbers : (Session → Session) → Type 0
KeepsNumbers change = (row : Session) → (change row).seat.number ≡ row.seat.number

other_step : (number n : ℕ) (row changed : Session) (found found' : Option Session) →
    changed.seat.number ≡ row.seat.number → (n ≡ number → ⊥) → found' ≡ found →
    cond (eqb (cond (eqb row.seat.number number) changed row).seat.number n)
    (Some (cond (eqb row.seat.number number) changed row)) found'
    ≡ cond (eqb row.seat.number n) (Some row) found
other_step number n row changed found found' keeps other same =
    elim (cases_Bool (eqb row.seat.number number)) [
      | inl here ↦
          let at : row.seat.number ≡ number = eqb-true _ _ here in
          let no : eqb row.seat.number n ≡ false = ne_eqb _ _ (λ e. other (sym e ∙ at)) in
          let changed_no : eqb changed.seat.number n ≡ false = ap (λ k. eqb k n) keeps ∙ no in
          rw (here, no, changed_no) same
      | inr there ↦ rw there (rw same)
    ]

-- the row of another session stays
pub find-changed_other : (number n : ℕ) (change : Session → Session) → KeepsNumbers change → (n ≡ number → ⊥) →
    (rows : List Session) → find (is_session n) (map (changed_row number change) rows) ≡ find (is_session n) rows
find-changed_other number n change keeps other [] = refl
find-changed_other number n change keeps other (row ∷ rows) =
    let same = find-changed_other number n change keeps other rows in
    other_step number n row (change row) _ _ (keeps row) other same

same_step : (number : ℕ) (change : Session → Session) (row : Session) (found found' : Option Session) →
    KeepsNumbers change → found' ≡ option_map change found →
    cond (eqb (cond (eqb row.seat.number number) (change row) row).seat.number number)
    (Some (cond (eqb row.seat.number number) (change row) row)) found'
    ≡ option_map change (cond (eqb row.seat.number number) (Some row) found)
same_step number change row found found' keeps same =
    elim (cases_Bool (eqb row.seat.number number)) [
      | inl here ↦
          let here' : eqb (change row).seat.number number ≡ true = ap (λ k. eqb k number) (keeps row) ∙ here in
          rw (here, here') refl
      | inr there ↦ rw there (rw there same)
    ]

-- the row of the session itself is changed
pub find-changed_same : (number : ℕ) (change : Session → Session) → KeepsNumbers change → (rows : List Session) →
    find (is_session number) (map (changed_row number change) rows)
    ≡ option_map change (find (is_session number) rows)
find-changed_same number change keeps [] = refl
find-changed_same number change keeps (row ∷ rows) =
    same_step number change row _ _ keeps (find-changed_same number change keeps rows)

-- a row of another session at the end
pub find-added_other : (n : ℕ) (row : Session) → (n ≡ row.seat.number → ⊥) → (rows : List Session) →
    find (is_session n) (rows ++ row ∷ []) ≡ find (is_session n) rows
find-added_other n row other [] = let no : eqb row.seat.number n ≡ false = ne_eqb _ _ (λ e. other (sym e)) in rw no refl
find-added_other n row other (first ∷ rows) =
    ap (λ found. cond (eqb first.seat.number n) (Some first) found) (find-added_other n row other rows)

-- a row at the end whose session was not there
pub find-added_same : (row : Session) (rows : List Session) → find (is_session row.seat.number) rows ≡ None →
    find (is_session row.seat.number) (rows ++ row ∷ []) ≡ Some row
find-added_same row [] none = let here : eqb row.seat.number row.seat.number ≡ true = eq-eqb _ _ refl in rw here refl
find-added_same row (first ∷ rows) none =
    elim (cases_Bool (eqb first.seat.number row.seat.number)) [
      | inl here ↦ let wrong : Some first ≡ None = rw here at none in cc
      | inr there ↦ rw there (find-added_same row rows (rw there at none))
    ]

removed_other_step : (number n : ℕ) (row : Session) (kept rows : List Session) → (n ≡ number → ⊥) →
    find (is_session n) kept ≡ find (is_session n) rows →
    find (is_session n) (cond (not (eqb row.seat.number number)) (row ∷ kept) kept)
    ≡ cond (eqb row.seat.number n) (Some row) (find (is_session n) rows)
removed_other_step number n row kept rows other same =
    elim (cases_Bool (eqb row.seat.number number)) [
      | inl here ↦
          let at : row.seat.number ≡ number = eqb-true _ _ here in
          let no : eqb row.seat.number n ≡ false = ne_eqb _ _ (λ e. other (sym e ∙ at)) in
          rw (here, no) same
      | inr there ↦ rw there (rw same)
    ]

-- another session's row goes
pub find-removed_other : (number n : ℕ) → (n ≡ number → ⊥) → (rows : List Session) →
    find (is_session n) (filter (λ row. not (is_session number row)) rows) ≡ find (is_session n) rows
find-removed_other number n other [] = refl
find-removed_other number n other (row ∷ rows) =
    removed_other_step number n row _ rows other (find-removed_other number n other rows)

-- the session's row goes
pub find-removed_same : (number : ℕ) (rows : List Session) →
    find (is_session number) (filter (λ row. not (is_session number row)) rows) ≡ None
find-removed_same number [] = refl
find-removed_same number (row ∷ rows) =
    elim (cases_Bool (eqb row.seat.number number)) [
      | inl here ↦ rw here (find-removed_same number rows)
      | inr there ↦ rw there (rw there (find-removed_same number rows))
    ]

-- a number that no row has
pub find-undrawn : (bound n : ℕ) → (n ≤ bound → ⊥) → (rows : List Session) →
    AllByRecursion (λ row. row.seat.number ≤ bound) rows → find (is_session n) rows ≡ None
find-undrawn bound n above [] all = refl
find-undrawn bound n above (row ∷ rows) all =
    let no : eqb row.seat.number n ≡ false = ne_eqb _ _ (λ e. above (rw e at all.0)) in
    rw no (find-undrawn bound n above rows all.1)

-- a session that is there was drawn
pub drawn-found : (n bound : ℕ) (rows : List Session) → AllByRecursion (λ row. row.seat.number ≤ bound) rows →
    IsSome (find (is_session n) rows) → n ≤ bound
drawn-found n bound [] all some = cc
drawn-found n bound (row ∷ rows) all some =
    elim (cases_Bool (eqb row.seat.number n)) [
      | inl here ↦ let at : row.seat.number ≡ n = eqb-true _ _ here in omega (arith, all.0)
      | inr there ↦ drawn-found n bound rows all.1 (rw there at some)
    ]
