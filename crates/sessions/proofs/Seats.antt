-- A session's seat is found by its number.
use Rattle.std.proofs.Common.{◌≡◌, ℕ, ◌==◌, Bor, List, [], ◌∷◌, map, Option, refl, sym, ap, ◌∙◌, inl, inr}
use Rattle.std.specs.List.{find}
use Rattle.std.specs.Option.{option_map, option_copied}
use Rattle.std.proofs.lemmas.Bool.{cases_Bool}
use Rattle.kom_types.specs.declared.seats.Seat.{Seat}
use Rattle.kom_types.specs.Sessions.{Session, is_session}

pub find-seat : (number : ℕ) (rows : List Session) →
    find (λ seat. seat.number == number) (map (λ row. row.seat) rows)
    ≡ option_map (λ row. row.seat) (find (is_session number) rows)
find-seat number [] = refl
find-seat number (row ∷ rows) =
    elim (cases_Bool (is_session number row)) [
      | inl here ↦ rw here refl
      | inr there ↦ rw there (find-seat number rows)
    ]

pub seat-there : (number : ℕ) (rows : List Session) (got : Option (Bor Session)) (seat : Option Seat) →
    option_copied got ≡ find (is_session number) rows → seat ≡ option_map (λ row. row.seat) (option_copied got) →
    seat ≡ find (λ one. one.number == number) (map (λ row. row.seat) rows)
seat-there number rows got seat found is =
    is ∙ ap (option_map (λ row. row.seat)) found ∙ sym (find-seat number rows)
