-- What becomes of the sessions where a conference goes.
use Rattle.std.proofs.Common.{◌≡◌, ℕ, ◌==◌, Bool, List, ◌++◌, filter, ap, ◌∙◌}
use Rattle.std.specs.List.{flat_map}
use Rattle.std.proofs.lemmas.Grind.{flat_map-append}
use Rattle.std.proofs.lemmas.List.Elements.{filter-append}
use Rattle.kom_types.specs.declared.effects.Effect.{Effect}
use Rattle.kom_types.specs.declared.seats.Seat.{Seat}
use Rattle.kom_model.specs.calls.Call.{Asked}
use Rattle.kom_model.specs.calls.Sessions.{seat_left}

-- what is counted of the sessions of a person among these
abbrev pub presence : Asked → ℕ → List Seat → List Effect
presence asked person seats = flat_map (seat_left asked) (filter (λ seat. seat.person == person) seats)

pub presence-append : (asked : Asked) (person : ℕ) (seats others : List Seat) →
    presence asked person (seats ++ others) ≡ presence asked person seats ++ presence asked person others
presence-append asked person seats others =
    let test : Seat → Bool = λ seat. seat.person == person in
    ap (flat_map (seat_left asked)) (filter-append test seats others)
    ∙ flat_map-append (seat_left asked) (filter test seats) (filter test others)
