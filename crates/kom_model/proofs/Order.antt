-- What waits is in order.
use Rattle.std.proofs.Common.{◌≡◌, ℕ, ◌+◌, ◌<◌, ◌≤◌, List, [], ◌∷◌, ◌++◌, drop, zero, suc, arith}
use Rattle.std.specs.List.{AllByRecursion}
use Rattle.kom_types.specs.Sessions.{Waiting}
use Rattle.kom_model.specs.State.{NeverFalls, IsInOrder}

abbrev pub AllBelow : ℕ → List Waiting → Type 0
AllBelow bound = AllByRecursion (λ one. one.entry < bound)

abbrev pub AllFrom : ℕ → List Waiting → Type 0
AllFrom bound = AllByRecursion (λ one. bound ≤ one.entry)

-- queued by the entry of this place
abbrev pub AllAt : ℕ → List Waiting → Type 0
AllAt place = AllByRecursion (λ one. one.entry ≡ place)

-- what never falls from a place on stands at it or after
pub AllFrom-never_falls : (bound place : ℕ) (waiting : List Waiting) → bound ≤ place → NeverFalls place waiting →
    AllFrom bound waiting
AllFrom-never_falls bound place [] low falls = tt
AllFrom-never_falls bound place (one ∷ waiting) low falls =
    let first : bound ≤ one.entry = omega (arith, falls.0) in
    (first, AllFrom-never_falls bound one.entry waiting first falls.1)

never_falls-from : (low place : ℕ) (waiting : List Waiting) → low ≤ place → NeverFalls place waiting →
    NeverFalls low waiting
never_falls-from low place [] below falls = tt
never_falls-from low place (one ∷ waiting) below falls = (omega (arith, falls.0), falls.1)

never_falls-drop : (n place : ℕ) (waiting : List Waiting) → NeverFalls place waiting →
    NeverFalls place (drop n waiting)
never_falls-drop zero place waiting falls = falls
never_falls-drop (suc n) place [] falls = tt
never_falls-drop (suc n) place (one ∷ waiting) falls =
    never_falls-from place one.entry (drop n waiting) falls.0 (never_falls-drop n one.entry waiting falls.1)

below-drop : (n bound : ℕ) (waiting : List Waiting) → AllBelow bound waiting → AllBelow bound (drop n waiting)
below-drop zero bound waiting all = all
below-drop (suc n) bound [] all = tt
below-drop (suc n) bound (one ∷ waiting) all = below-drop n bound waiting all.1

pub IsInOrder-drop : (n entries : ℕ) (waiting : List Waiting) → IsInOrder entries waiting →
    IsInOrder entries (drop n waiting)
IsInOrder-drop n entries waiting order =
    (never_falls-drop n 0 waiting order.0, below-drop n entries waiting order.1)

never_falls-after : (entries place : ℕ) (more : List Waiting) → place ≤ entries → AllAt entries more →
    NeverFalls place more
never_falls-after entries place [] low at = tt
never_falls-after entries place (one ∷ more) low at =
    (omega (arith, at.0), never_falls-after entries one.entry more (omega (arith, at.0)) at.1)

never_falls-append : (entries place : ℕ) (waiting more : List Waiting) → place ≤ entries → NeverFalls place waiting →
    AllBelow entries waiting → AllAt entries more → NeverFalls place (waiting ++ more)
never_falls-append entries place [] more low falls below at = never_falls-after entries place more low at
never_falls-append entries place (one ∷ waiting) more low falls below at =
    (falls.0, never_falls-append entries one.entry waiting more (omega (arith, below.0)) falls.1 below.1 at)

below-append : (entries : ℕ) (waiting more : List Waiting) → AllBelow entries waiting → AllAt entries more →
    AllBelow (entries + 1) (waiting ++ more)
below-append entries [] [] below at = tt
below-append entries [] (one ∷ more) below at = (omega (arith, at.0), below-append entries [] more below at.1)
below-append entries (one ∷ waiting) more below at =
    (omega (arith, below.0), below-append entries waiting more below.1 at)

-- what an entry queues stands after all that waits
pub IsInOrder-append : (entries : ℕ) (waiting more : List Waiting) → IsInOrder entries waiting → AllAt entries more →
    IsInOrder (entries + 1) (waiting ++ more)
IsInOrder-append entries waiting more order at = (
  never_falls-append entries 0 waiting more (omega arith) order.0 order.1 at,
  below-append entries waiting more order.1 at,
)
