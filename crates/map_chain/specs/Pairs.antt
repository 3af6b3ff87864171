-- Pairs of a local number and a text, in the order of their locals.
use Rattle.std.specs.Prelude.{◌≡◌, ℕ, ◌<◌, ◌≤◌, ◌==◌, not, nat_lt, nat_le, suc}
use Rattle.std.specs.Prelude.{List, [], ◌∷◌, length, take, drop, filter}
use Rattle.std.specs.Prelude.{Option, Some, None, if◌then◌else◌}

-- a local number and its text
abbrev pub Pair : Type 0
Pair = ℕ × ℕ

-- every local is below n
abbrev pub AllBelow : ℕ → List Pair → Type 0
AllBelow n [] = Unit {0}
AllBelow n (p ∷ ps) = (p.0 < n) × AllBelow n ps

-- every local is n or above
abbrev pub AllFrom : ℕ → List Pair → Type 0
AllFrom n [] = Unit {0}
AllFrom n (p ∷ ps) = (n ≤ p.0) × AllFrom n ps

-- the locals rise: each is below all that follow
abbrev pub IsRising : List Pair → Type 0
IsRising [] = Unit {0}
IsRising (p ∷ ps) = AllFrom (suc p.0) ps × IsRising ps

-- the text under the local n
abbrev pub text_of : ℕ → List Pair → Option ℕ
text_of n [] = None
text_of n (p ∷ ps) = if p.0 == n then Some p.1 else text_of n ps

-- the pairs but for the one under the local n
abbrev pub without : ℕ → List Pair → List Pair
without n = filter (λ p. not (p.0 == n))

-- the pairs under the local n and above
abbrev pub from_on : ℕ → List Pair → List Pair
from_on n = filter (λ p. nat_le n p.0)

-- the pairs strictly below the local n
abbrev pub below : ℕ → List Pair → List Pair
below n = filter (λ p. nat_lt p.0 n)

-- the local of the last pair
abbrev pub highest : List Pair → ℕ
highest [] = 0
highest (p ∷ []) = p.0
highest (p ∷ q ∷ ps) = highest (q ∷ ps)

-- the first k pairs have locals below n, and the others n or above
abbrev pub IsPlace : ℕ → List Pair → ℕ → Type 0
IsPlace n ps k = (k ≤ length ps) × AllBelow n (take k ps) × AllFrom n (drop k ps)

-- the first len of the 64 places hold pairs, and high is the local of the last
pub record IsBlock (len high : ℕ) (places : List Pair) : Type 0 where
  pub full : length places ≡ 64
  pub within : len ≤ 64
  pub top : high ≡ highest (take len places)
