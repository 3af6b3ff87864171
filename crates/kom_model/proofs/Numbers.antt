-- Each session keeps a number of its own.
use Rattle.std.proofs.Common.{◌≡◌, ℕ, ◌+◌, ◌≤◌, Bool, true, false, cond, nat_eq, List, [], ◌∷◌}
use Rattle.std.proofs.Common.{◌++◌, map, arith}
use Rattle.std.specs.List.{filter, AllByRecursion, IsDistinct}
use Rattle.std.proofs.lemmas.Bool.{ne_eqb}
use Rattle.kom_types.specs.Sessions.{Waiting, Session}
use Rattle.kom_model.proofs.Keeping.{KeepsRows, numbers-kept}

abbrev pub numbers_of : List Session → List ℕ
numbers_of rows = map (λ row. row.seat.number) rows

abbrev pub AllDrawn : ℕ → List Session → Type 0
AllDrawn bound rows = AllByRecursion (λ row. row.seat.number ≤ bound) rows

abbrev pub AllApart : List Session → Type 0
AllApart rows = IsDistinct nat_eq (numbers_of rows)

-- a number that none of these has
abbrev IsUnlike : ℕ → List Session → Type 0
IsUnlike n rows = AllByRecursion (λ k. nat_eq n k ≡ false) (numbers_of rows)

pub drawn-kept : (related : List Waiting → List Waiting → Type 0) (bound : ℕ) (rows rows' : List Session) →
    KeepsRows related rows rows' → AllDrawn bound rows → AllDrawn bound rows'
drawn-kept related bound [] [] kept all = tt
drawn-kept related bound [] (row' ∷ rows') kept all = absurd kept
drawn-kept related bound (row ∷ rows) [] kept all = absurd kept
drawn-kept related bound (row ∷ rows) (row' ∷ rows') kept all =
    (omega (arith, kept.0.0, all.0), drawn-kept related bound rows rows' kept.1 all.1)

pub apart-kept : (related : List Waiting → List Waiting → Type 0) (rows rows' : List Session) →
    KeepsRows related rows rows' → AllApart rows → AllApart rows'
apart-kept related rows rows' kept apart = rw (numbers-kept related rows rows' kept) apart

pub drawn-added : (bound : ℕ) (row : Session) → row.seat.number ≡ bound + 1 → (rows : List Session) →
    AllDrawn bound rows → AllDrawn (bound + 1) (rows ++ row ∷ [])
drawn-added bound row next [] all = (omega arith, tt)
drawn-added bound row next (first ∷ rows) all = (omega (arith, all.0), drawn-added bound row next rows all.1)

pub drawn-filtered : (bound : ℕ) (keep : Session → Bool) (rows : List Session) → AllDrawn bound rows →
    AllDrawn bound (filter keep rows)
drawn-filtered bound keep [] all = tt
drawn-filtered bound keep (row ∷ rows) all =
    let rest : AllDrawn bound (filter keep rows) = drawn-filtered bound keep rows all.1 in
    elim (keep row) as (λ b. AllDrawn bound (cond b (row ∷ filter keep rows) (filter keep rows))) [
      | true ↦ (all.0, rest)
      | false ↦ rest
    ]

unlike-added : (n bound : ℕ) (row : Session) → row.seat.number ≡ bound + 1 → n ≤ bound → (rows : List Session) →
    IsUnlike n rows → IsUnlike n (rows ++ row ∷ [])
unlike-added n bound row next below [] all = (ne_eqb n row.seat.number (λ e. omega arith), tt)
unlike-added n bound row next below (first ∷ rows) all = (all.0, unlike-added n bound row next below rows all.1)

pub apart-added : (bound : ℕ) (row : Session) → row.seat.number ≡ bound + 1 → (rows : List Session) →
    AllDrawn bound rows → AllApart rows → AllApart (rows ++ row ∷ [])
unfolding IsDistinct
apart-added bound row next [] all apart = (tt, tt)
apart-added bound row next (first ∷ rows) all apart = (
  unlike-added first.seat.number bound row next all.0 rows apart.0,
  apart-added bound row next rows all.1 apart.1,
)

unlike-filtered : (n : ℕ) (keep : Session → Bool) (rows : List Session) → IsUnlike n rows →
    IsUnlike n (filter keep rows)
unlike-filtered n keep [] all = tt
unlike-filtered n keep (row ∷ rows) all =
    let rest : IsUnlike n (filter keep rows) = unlike-filtered n keep rows all.1 in
    elim (keep row) as (λ b. IsUnlike n (cond b (row ∷ filter keep rows) (filter keep rows))) [
      | true ↦ (all.0, rest)
      | false ↦ rest
    ]

pub apart-filtered : (keep : Session → Bool) (rows : List Session) → AllApart rows → AllApart (filter keep rows)
unfolding IsDistinct
apart-filtered keep [] apart = tt
apart-filtered keep (row ∷ rows) apart =
    let rest : AllApart (filter keep rows) = apart-filtered keep rows apart.1 in
    elim (keep row) as (λ b. AllApart (cond b (row ∷ filter keep rows) (filter keep rows))) [
      | true ↦ (unlike-filtered row.seat.number keep rows apart.0, rest)
      | false ↦ rest
    ]
