-- Ranges with numbers more or less, and what is in them.
use Rattle.std.specs.Prelude.{ℕ, ◌+◌, ◌-◌, Bool, true, ◌==◌, ◌&&◌, not, nat_le, nat_lt}
use Rattle.std.specs.Prelude.{List, [], ◌∷◌, length, filter, if◌then◌else◌}
use Rattle.std.specs.List.{list_any, flat_map}
use Rattle.kom_types.specs.declared.memberships.ReadRange.{ReadRange}
use Rattle.read_ranges.specs.Numbers.{range, numbers_from, numbers_in, as_ranges}

-- the numbers of ranges, which rise if the ranges do
abbrev pub numbers_of : List ReadRange → List ℕ
numbers_of ranges = flat_map numbers_in ranges

-- how many numbers ranges have
abbrev pub size_of : List ReadRange → ℕ
size_of ranges = length (numbers_of ranges)

-- a number among rising ones, where it is not there yet
abbrev pub insert_new : ℕ → List ℕ → List ℕ
insert_new n [] = n ∷ []
insert_new n (first ∷ others) =
    if nat_lt n first then n ∷ first ∷ others
    else if n == first then first ∷ others else first ∷ insert_new n others

-- the ranges of the numbers of these ranges and one more
abbrev pub mark_read : ℕ → List ReadRange → List ReadRange
mark_read n ranges = as_ranges (insert_new n (numbers_of ranges))

-- and of many more
abbrev pub all_marked : List ℕ → List ReadRange → List ReadRange
all_marked [] ranges = ranges
all_marked (n ∷ numbers) ranges = all_marked numbers (mark_read n ranges)

-- the ranges of the numbers of these ranges but one
abbrev pub mark_unread : ℕ → List ReadRange → List ReadRange
mark_unread n ranges = as_ranges (filter (λ other. not (other == n)) (numbers_of ranges))

-- the ranges of the numbers from 1 to n
abbrev pub up_to : ℕ → List ReadRange
up_to n = if n == 0 then [] else range 1 n ∷ []

-- a number is in ranges
abbrev pub is_in : ℕ → List ReadRange → Bool
is_in n ranges = list_any (λ one. nat_le one.first n && nat_le n one.last) ranges

-- some number from the first to the last is not in ranges
abbrev pub has_unread : ℕ → ℕ → List ReadRange → Bool
has_unread first last ranges =
    list_any (λ n. not (is_in n ranges)) (numbers_from first (last + 1 - first))

-- each range begins after this number, or the end of the one before it, and not after its own end
abbrev pub rise_after : ℕ → List ReadRange → Bool
rise_after end [] = true
rise_after end (one ∷ others) =
    nat_lt end one.first && nat_le one.first one.last && rise_after one.last others
