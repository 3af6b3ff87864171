-- When a list of ranges is refused.
use Rattle.std.specs.Prelude.{◌≡◌, ℕ, ◌-◌, ◌≤◌, ◌<◌, ◌⊎◌, List, length, slice_index_or}
use Rattle.std.specs.Prelude.{Option, Some, None, Result, Err, ◌↔◌}
use Rattle.kom_types.specs.declared.memberships.ReadRange.{ReadRange}
use Rattle.read_ranges.specs.Numbers.{range, greatest}
use Rattle.read_ranges.specs.declared.RangeFault.{RangeFault}
use Rattle.read_ranges.specs.declared.RangeFault.TheVariants.{Invalid, Order, Memory}

-- the range at place i of the list
abbrev pub range_at : List ReadRange → ℕ → ReadRange
range_at rs i = slice_index_or rs i (range 0 0)

-- range i begins with 0, or after its end
abbrev pub IsInvalidAt : List ReadRange → ℕ → Type 0
IsInvalidAt rs i = let r = range_at rs i in (r.first ≡ 0) ⊎ (r.last < r.first)

-- range i has one before it, and begins at or before the end of that
abbrev pub IsOutOfOrderAt : List ReadRange → ℕ → Type 0
IsOutOfOrderAt rs i =
    let r = range_at rs i in let before = range_at rs (i - 1) in (0 < i) × (r.first ≤ before.last)

-- no range below place i is faulty
abbrev pub IsFaultlessBelow : List ReadRange → ℕ → Type 0
IsFaultlessBelow rs i = (k : ℕ) → k < i → ¬ (IsInvalidAt rs k ⊎ IsOutOfOrderAt rs k)

-- no range of the list is faulty
abbrev pub IsFaultless : List ReadRange → Type 0
IsFaultless rs = IsFaultlessBelow rs (length rs)

-- the ranges below place i end within the bounds of a set
abbrev pub EndWithinBelow : List ReadRange → ℕ → Type 0
EndWithinBelow rs i = (k : ℕ) → k < i → let r = range_at rs k in r.last ≤ greatest

-- range i is the first faulty one
pub record IsFirstFault (rs : List ReadRange) (i : ℕ) : Type 0 where
  pub within : i < length rs
  pub first : IsFaultlessBelow rs i
  pub faulty : IsInvalidAt rs i ⊎ IsOutOfOrderAt rs i

-- range i is the first faulty one, and is invalid
pub record IsFirstInvalid (rs : List ReadRange) (i : ℕ) : Type 0 where
  pub within : i < length rs
  pub first : IsFaultlessBelow rs i
  pub invalid : IsInvalidAt rs i

-- range i is the first faulty one, and is out of order alone
pub record IsFirstOutOfOrder (rs : List ReadRange) (i : ℕ) : Type 0 where
  pub within : i < length rs
  pub first : IsFaultlessBelow rs i
  pub valid : ¬ IsInvalidAt rs i
  pub out_of_order : IsOutOfOrderAt rs i

-- the result is the fault of a place exactly at the places that are so
abbrev pub IsErrExactlyAt : Result Unit RangeFault → (ℕ → RangeFault) → (ℕ → Type 0) → Type 0
IsErrExactlyAt result fault is_so = (i : ℕ) → (result ≡ Err (fault i)) ↔ is_so i

-- a fault names the first faulty range
abbrev pub IsListFault : List ReadRange → RangeFault → Type 0
IsListFault rs (Invalid i) = IsFirstInvalid rs i
IsListFault rs (Order i) = IsFirstOutOfOrder rs i
IsListFault rs Memory = ⊥

-- what is wrong with range i, of which being invalid goes before being out of order
abbrev pub IsFaultAt : List ReadRange → ℕ → Option RangeFault → Type 0
IsFaultAt rs i None = ¬ IsInvalidAt rs i × ¬ IsOutOfOrderAt rs i
IsFaultAt rs i (Some (Invalid k)) = (k ≡ i) × IsInvalidAt rs i
IsFaultAt rs i (Some (Order k)) = (k ≡ i) × ¬ IsInvalidAt rs i × IsOutOfOrderAt rs i
IsFaultAt rs i (Some Memory) = ⊥
