-- No act was handed to a new core.
use Rattle.std.proofs.Common.{◌≡◌, ℕ, ◌≤◌, List, None, ap, arith}
use Rattle.kom_core.specs.Acts.{Held}
use Rattle.kom_model.specs.Initial.{initial}
use Rattle.kom_model.specs.State.{opening_state}

pub none_made : (held : Held) (password : List ℕ) (moment : ℕ) →
    held ≡ record { state = opening_state (initial password moment); last = None } → held.state.entries ≤ 0
none_made held password moment is =
    let none : held.state.entries ≡ 0 = ap (λ (held : Held). held.state.entries) is in
    omega (arith, none)
