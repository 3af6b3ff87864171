-- Places in a list of ranges.
use Rattle.std.specs.Prelude.{◌≡◌, ℕ, ◌+◌, ◌≤◌, ◌<◌, List, length, take, drop, slice_index_or}
use Rattle.std.specs.List.{AllByRecursion}
use Rattle.std.specs.FinSet.{insert}
use Rattle.kom_types.specs.declared.memberships.ReadRange.{ReadRange}
use Rattle.read_ranges.specs.Numbers.{range, AreRanges, union_of}

-- each range ends below n
abbrev pub EndBelow : ℕ → List ReadRange → Type 0
EndBelow n rs = AllByRecursion (λ r. r.last < n) rs

-- each range ends at n or above
abbrev pub EndFrom : ℕ → List ReadRange → Type 0
EndFrom n rs = AllByRecursion (λ r. n ≤ r.last) rs

-- the place before which the ranges end below n, and from which on they end at n or above
pub record IsPlaceOf (rs : List ReadRange) (n at : ℕ) : Type 0 where
  pub within : at ≤ length rs
  pub below : EndBelow n (take at rs)
  pub from : EndFrom n (drop at rs)

-- the range at a place ends right below n
pub record EndsJustBelow (rs : List ReadRange) (at n : ℕ) : Type 0 where
  pub within : at < length rs
  pub end : (slice_index_or rs at (range 0 0)).last + 1 ≡ n

-- new has the numbers of old, and n
pub record Marks (old new : List ReadRange) (n : ℕ) : Type 0 where
  pub ranges : AreRanges new
  pub numbers : union_of new ≡ insert (union_of old) n
