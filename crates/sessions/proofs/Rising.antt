-- Rows in the order of their numbers, when one comes, changes or goes.
use Rattle.std.proofs.Common.{◌≡◌, ℕ, ◌<◌, Bool, true, false, cond, not, List, [], ◌∷◌, ◌++◌}
use Rattle.std.proofs.Common.{None, refl, ap, arith}
use Rattle.std.specs.List.{find, filter, AllByRecursion}
use Rattle.std.proofs.lemmas.Bool.{ne_eqb}
use Rattle.kom_types.specs.Sessions.{Session, is_session}
use Rattle.sessions.specs.Rows.{IsRising, AllBelow, with_row}

abbrev pub number_of : Session → ℕ
number_of row = row.seat.number

-- the numbers of all rows are above this one
abbrev pub AllAbove : ℕ → List Session → Type 0
AllAbove number rows = AllByRecursion (λ later. number < later.seat.number) rows

-- no row is that of the session
abbrev pub NoneIs : ℕ → List Session → Type 0
NoneIs number rows = AllByRecursion (λ row. is_session number row ≡ false) rows

pub none_above : (number : ℕ) (rows : List Session) → AllAbove number rows → NoneIs number rows
none_above number [] above = tt
none_above number (row ∷ rows) above =
    (ne_eqb _ _ (λ e. let above' : number < number_of row = above.0 in omega arith), none_above number rows above.1)

pub none_below : (number : ℕ) (rows : List Session) → AllBelow number rows → find (is_session number) rows ≡ None
none_below number [] below = refl
none_below number (row ∷ rows) below =
    let other : is_session number row ≡ false =
    ne_eqb _ _ (λ e. let below' : number_of row < number = below.0 in omega arith) in
    rw other (none_below number rows below.1)

pub with_row-none : (number : ℕ) (change : Session → Session) (rows : List Session) → NoneIs number rows →
    with_row number change rows ≡ rows
with_row-none number change [] none = refl
with_row-none number change (row ∷ rows) none =
    let other : is_session number row ≡ false = none.0 in
    rw other (ap (λ rest. row ∷ rest) (with_row-none number change rows none.1))

pub filter-none : (number : ℕ) (rows : List Session) → NoneIs number rows →
    filter (λ row. not (is_session number row)) rows ≡ rows
filter-none number [] none = refl
filter-none number (row ∷ rows) none =
    let other : is_session number row ≡ false = none.0 in
    rw other (ap (λ rest. row ∷ rest) (filter-none number rows none.1))

all_above_push : (number : ℕ) (row : Session) → number < number_of row → (rows : List Session) →
    AllAbove number rows → AllAbove number (rows ++ row ∷ [])
all_above_push number row below [] above = (below, tt)
all_above_push number row below (first ∷ rows) above = (above.0, all_above_push number row below rows above.1)

pub IsRising-push : (row : Session) (rows : List Session) → AllBelow (number_of row) rows → IsRising rows →
    IsRising (rows ++ row ∷ [])
IsRising-push row [] below rising = (tt, tt)
IsRising-push row (first ∷ rows) below rising =
    (all_above_push (number_of first) row below.0 rows rising.0, IsRising-push row rows below.1 rising.1)

-- a change that keeps the numbers of sessions
abbrev pub KeepsNumbers : (Session → Session) → Type 0
KeepsNumbers change = (row : Session) → number_of (change row) ≡ number_of row

all_above_changed : (bound number : ℕ) (change : Session → Session) → KeepsNumbers change → (rows : List Session) →
    AllAbove bound rows → AllAbove bound (with_row number change rows)
all_above_changed bound number change keeps [] above = tt
all_above_changed bound number change keeps (row ∷ rows) above =
    let rest : AllAbove bound (with_row number change rows) =
    all_above_changed bound number change keeps rows above.1 in
    elim (is_session number row) as (λ b. AllAbove bound (cond b (change row) row ∷ with_row number change rows)) [
      | true ↦ (rw (keeps row) above.0, rest)
      | false ↦ (above.0, rest)
    ]

pub IsRising-changed : (number : ℕ) (change : Session → Session) → KeepsNumbers change → (rows : List Session) →
    IsRising rows → IsRising (with_row number change rows)
IsRising-changed number change keeps [] rising = tt
IsRising-changed number change keeps (row ∷ rows) rising =
    let rest : IsRising (with_row number change rows) = IsRising-changed number change keeps rows rising.1 in
    let above : AllAbove (number_of row) (with_row number change rows) =
    all_above_changed (number_of row) number change keeps rows rising.0 in
    elim (is_session number row) as (λ b. IsRising (cond b (change row) row ∷ with_row number change rows)) [
      | true ↦ (rw (keeps row) above, rest)
      | false ↦ (above, rest)
    ]

all_above_filter : (bound : ℕ) (keep : Session → Bool) (rows : List Session) → AllAbove bound rows →
    AllAbove bound (filter keep rows)
all_above_filter bound keep [] above = tt
all_above_filter bound keep (row ∷ rows) above =
    let rest : AllAbove bound (filter keep rows) = all_above_filter bound keep rows above.1 in
    elim (keep row) as (λ b. AllAbove bound (cond b (row ∷ filter keep rows) (filter keep rows))) [
      | true ↦ (above.0, rest)
      | false ↦ rest
    ]

pub IsRising-filter : (keep : Session → Bool) (rows : List Session) → IsRising rows → IsRising (filter keep rows)
IsRising-filter keep [] rising = tt
IsRising-filter keep (row ∷ rows) rising =
    let rest : IsRising (filter keep rows) = IsRising-filter keep rows rising.1 in
    elim (keep row) as (λ b. IsRising (cond b (row ∷ filter keep rows) (filter keep rows))) [
      | true ↦ (all_above_filter (number_of row) keep rows rising.0, rest)
      | false ↦ rest
    ]
