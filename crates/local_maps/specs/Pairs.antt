-- Texts by local numbers, in the order of these.
use Rattle.std.specs.Prelude.{ℕ, ◌<◌, ◌==◌, not, nat_le, nat_lt, List, [], ◌∷◌, filter, find}
use Rattle.std.specs.Prelude.{Option, option_map, slice_get}
use Rattle.std.specs.List.{AllByRecursion}
use Rattle.kom_types.specs.declared.texts.LocalText.{LocalText}

-- What a map is to its callers: its pairs, and how many more can be added with no memory taken.
pub record Locals : Type 0 where
  pub pairs : List LocalText
  pub spare : ℕ

-- every local number is below this one
abbrev pub AllBelow : ℕ → List LocalText → Type 0
AllBelow local pairs = AllByRecursion (λ pair. pair.local < local) pairs

-- every local number is above this one
abbrev pub AllAbove : ℕ → List LocalText → Type 0
AllAbove local pairs = AllByRecursion (λ pair. local < pair.local) pairs

-- the local numbers rise: each is below all that follow
abbrev pub IsRising : List LocalText → Type 0
IsRising [] = Unit {0}
IsRising (pair ∷ pairs) = AllAbove pair.local pairs × IsRising pairs

-- the text of a local number
abbrev pub text_of : ℕ → List LocalText → Option ℕ
text_of local pairs = option_map (λ pair. pair.text) (find (λ pair. pair.local == local) pairs)

-- the least local number: that of the first pair
abbrev pub least_of : List LocalText → Option ℕ
least_of pairs = option_map (λ pair. pair.local) (slice_get pairs 0)

-- the pairs but for the one of this local number
abbrev pub without : ℕ → List LocalText → List LocalText
without local pairs = filter (λ pair. not (pair.local == local)) pairs

-- the pairs of this local number and above
abbrev pub from_on : ℕ → List LocalText → List LocalText
from_on local pairs = filter (λ pair. nat_le local pair.local) pairs

-- the pairs of local numbers below this one
abbrev pub below : ℕ → List LocalText → List LocalText
below local pairs = filter (λ pair. nat_lt pair.local local) pairs

-- a pair as a chain has it
abbrev pub local_text : ℕ × ℕ → LocalText
local_text pair = record { local = pair.0; text = pair.1 }
