-- A list of ranges as it is kept.
use Rattle.std.specs.Prelude.{ℕ, ◌++◌, max, List, Option, option_to_list}
use Rattle.kom_types.specs.declared.memberships.ReadRange.{ReadRange}

-- the ranges, and how many there is room for in all
pub record KeptRanges : Type 0 where
  pub items : List ReadRange
  pub spare : ℕ

-- a range alone, or many with so much room for them
abbrev pub kept_ranges : Option ReadRange → List ReadRange → ℕ → KeptRanges
kept_ranges one many capacity =
    record { items = option_to_list one ++ many; spare = max 1 capacity }
