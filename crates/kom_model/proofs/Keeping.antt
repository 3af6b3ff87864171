-- Rows that keep the numbers of their sessions, while what waits changes.
use Rattle.std.proofs.Common.{◌≡◌, ℕ, true, false, cond, eqb, List, [], ◌∷◌, map, Option, Some}
use Rattle.std.proofs.Common.{None, refl, ap, ◌∙◌, inl, inr}
use Rattle.std.specs.List.{find, AllByRecursion}
use Rattle.std.proofs.lemmas.Bool.{cases_Bool}
use Rattle.kom_types.specs.Sessions.{Waiting, Session, is_session}
use Rattle.kom_model.specs.State.{IsInOrder}
use Rattle.kom_model.specs.Out.{waiting_in}
use Rattle.kom_model.proofs.Finding.{changed_row}

-- a row before and after, whose session keeps its number and whose waiting lists this relates
abbrev pub KeepsRow : (List Waiting → List Waiting → Type 0) → Session → Session → Type 0
KeepsRow related row row' = (row'.seat.number ≡ row.seat.number) × related row.waiting row'.waiting

-- all rows so, in order
abbrev pub KeepsRows : (List Waiting → List Waiting → Type 0) → List Session → List Session → Type 0
KeepsRows related [] [] = Unit {0}
KeepsRows related [] (row' ∷ rows') = ⊥
KeepsRows related (row ∷ rows) [] = ⊥
KeepsRows related (row ∷ rows) (row' ∷ rows') = KeepsRow related row row' × KeepsRows related rows rows'

-- a change of one session's row
pub KeepsRows-changed : (related : List Waiting → List Waiting → Type 0) → ((w : List Waiting) → related w w) →
    (number : ℕ) (change : Session → Session) → ((row : Session) → KeepsRow related row (change row)) →
    (rows : List Session) → KeepsRows related rows (map (changed_row number change) rows)
KeepsRows-changed related same number change keeps [] = tt
KeepsRows-changed related same number change keeps (row ∷ rows) = (
  elim (is_session number row) as (λ b. KeepsRow related row (cond b (change row) row)) [
    | true ↦ keeps row
    | false ↦ (refl, same row.waiting)
  ],
  KeepsRows-changed related same number change keeps rows,
)

pub KeepsRows-same : (related : List Waiting → List Waiting → Type 0) → ((w : List Waiting) → related w w) →
    (rows : List Session) → KeepsRows related rows rows
KeepsRows-same related same [] = tt
KeepsRows-same related same (row ∷ rows) = ((refl, same row.waiting), KeepsRows-same related same rows)

-- one change after another
pub KeepsRows-then : (first second both : List Waiting → List Waiting → Type 0) →
    ((a b c : List Waiting) → first a b → second b c → both a c) → (rows rows' rows'' : List Session) →
    KeepsRows first rows rows' → KeepsRows second rows' rows'' → KeepsRows both rows rows''
KeepsRows-then first second both joins [] [] [] one two = tt
KeepsRows-then first second both joins (row ∷ rows) (row' ∷ rows') (row'' ∷ rows'') one two = (
  (two.0.0 ∙ one.0.0, joins row.waiting row'.waiting row''.waiting one.0.1 two.0.1),
  KeepsRows-then first second both joins rows rows' rows'' one.1 two.1,
)
KeepsRows-then first second both joins [] [] (row'' ∷ rows'') one two = absurd two
KeepsRows-then first second both joins [] (row' ∷ rows') rows'' one two = absurd one
KeepsRows-then first second both joins (row ∷ rows) [] rows'' one two = absurd one
KeepsRows-then first second both joins (row ∷ rows) (row' ∷ rows') [] one two = absurd two

-- what waits for each session is so related
pub waiting-kept : (related : List Waiting → List Waiting → Type 0) → related [] [] → (n : ℕ) →
    (rows rows' : List Session) → KeepsRows related rows rows' →
    related (waiting_in (find (is_session n) rows)) (waiting_in (find (is_session n) rows'))
waiting-kept related none n [] [] kept = none
waiting-kept related none n [] (row' ∷ rows') kept = absurd kept
waiting-kept related none n (row ∷ rows) [] kept = absurd kept
waiting-kept related none n (row ∷ rows) (row' ∷ rows') kept =
    elim (cases_Bool (eqb row.seat.number n)) [
      | inl here ↦
          let here' : eqb row'.seat.number n ≡ true = ap (λ k. eqb k n) kept.0.0 ∙ here in
          rw (here, here') kept.0.1
      | inr there ↦
          let there' : eqb row'.seat.number n ≡ false = ap (λ k. eqb k n) kept.0.0 ∙ there in
          rw (there, there') (waiting-kept related none n rows rows' kept.1)
    ]

-- a session that is not there does not come
pub absent-kept : (related : List Waiting → List Waiting → Type 0) (n : ℕ) (rows rows' : List Session) →
    KeepsRows related rows rows' → find (is_session n) rows ≡ None → find (is_session n) rows' ≡ None
absent-kept related n [] [] kept none = refl
absent-kept related n [] (row' ∷ rows') kept none = absurd kept
absent-kept related n (row ∷ rows) [] kept none = absurd kept
absent-kept related n (row ∷ rows) (row' ∷ rows') kept none =
    elim (cases_Bool (eqb row.seat.number n)) [
      | inl here ↦ let wrong : Some row ≡ None = rw here at none in cc
      | inr there ↦
          let there' : eqb row'.seat.number n ≡ false = ap (λ k. eqb k n) kept.0.0 ∙ there in
          rw there' (absent-kept related n rows rows' kept.1 (rw there at none))
    ]

-- the numbers are the same, in order
pub numbers-kept : (related : List Waiting → List Waiting → Type 0) (rows rows' : List Session) →
    KeepsRows related rows rows' → map (λ row. row.seat.number) rows' ≡ map (λ row. row.seat.number) rows
numbers-kept related [] [] kept = refl
numbers-kept related [] (row' ∷ rows') kept = absurd kept
numbers-kept related (row ∷ rows) [] kept = absurd kept
numbers-kept related (row ∷ rows) (row' ∷ rows') kept =
    let first : row'.seat.number ≡ row.seat.number = kept.0.0 in
    let rest : map (λ row. row.seat.number) rows' ≡ map (λ row. row.seat.number) rows =
    numbers-kept related rows rows' kept.1 in
    cc

-- the same rows, with less said of what waits
pub KeepsRows-weaken : (related weaker : List Waiting → List Waiting → Type 0) →
    ((w w' : List Waiting) → related w w' → weaker w w') → (rows rows' : List Session) → KeepsRows related rows rows' →
    KeepsRows weaker rows rows'
KeepsRows-weaken related weaker weakens [] [] kept = tt
KeepsRows-weaken related weaker weakens [] (row' ∷ rows') kept = absurd kept
KeepsRows-weaken related weaker weakens (row ∷ rows) [] kept = absurd kept
KeepsRows-weaken related weaker weakens (row ∷ rows) (row' ∷ rows') kept = (
  (kept.0.0, weakens row.waiting row'.waiting kept.0.1),
  KeepsRows-weaken related weaker weakens rows rows' kept.1,
)

-- what waits is in order in each row
abbrev pub AllOrdered : ℕ → List Session → Type 0
AllOrdered entries = AllByRecursion (λ row. IsInOrder entries row.waiting)

-- each row stays in order, as entries are added
abbrev pub KeepsOrder : ℕ → ℕ → List Waiting → List Waiting → Type 0
KeepsOrder entries entries' waiting waiting' = IsInOrder entries waiting → IsInOrder entries' waiting'

pub ordered-kept : (entries entries' : ℕ) (rows rows' : List Session) →
    KeepsRows (KeepsOrder entries entries') rows rows' → AllOrdered entries rows → AllOrdered entries' rows'
ordered-kept entries entries' [] [] kept all = tt
ordered-kept entries entries' [] (row' ∷ rows') kept all = absurd kept
ordered-kept entries entries' (row ∷ rows) [] kept all = absurd kept
ordered-kept entries entries' (row ∷ rows) (row' ∷ rows') kept all =
    (kept.0.1 all.0, ordered-kept entries entries' rows rows' kept.1 all.1)

-- so what waits for each session is in order
pub ordered-found : (n entries : ℕ) (rows : List Session) → AllOrdered entries rows →
    IsInOrder entries (waiting_in (find (is_session n) rows))
ordered-found n entries [] all = (tt, tt)
ordered-found n entries (row ∷ rows) all =
    let found : Option Session = find (is_session n) rows in
    elim (eqb row.seat.number n) as (λ b. IsInOrder entries (waiting_in (cond b (Some row) found))) [
      | true ↦ all.0
      | false ↦ ordered-found n entries rows all.1
    ]
