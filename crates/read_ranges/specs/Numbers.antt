-- A set of numbers from 1 to 4294967295, and the ranges that it is shown as.
use Rattle.std.specs.Prelude.{ℕ, zero, suc, ◌+◌, ◌-◌, ◌≤◌, ◌<◌, ◌==◌, if◌then◌else◌}
use Rattle.std.specs.Prelude.{◌≡◌, List, [], ◌∷◌, length, filter, IsTrue, refl}
use Rattle.std.specs.List.{flat_map}
use Rattle.std.specs.Ordering.{nat_cmp}
use Rattle.std.specs.Coded.{Coded, code_by, coded×, coded_ℕ}
use Rattle.std.specs.FinSet.{FinSet, contains, from_list, code}
use Rattle.kom_types.specs.declared.memberships.ReadRange.{ReadRange}

-- the range from a first number to a last one
abbrev pub range : ℕ → ℕ → ReadRange
range first last = record { first = first; last = last }

-- what contracts see of a `Ranges`: the set of numbers, and how many ranges it has room for in all
pub record ReadSet : Type 0 where
  pub numbers : FinSet nat_cmp
  pub spare : ℕ

-- a read set is stored as the pair of its fields
abbrev pub read_set_code : Coded ReadSet
read_set_code =
    code_by (FinSet nat_cmp × ℕ) (coded× (code coded_ℕ) coded_ℕ)
    (λ s. (s.numbers, s.spare)) (λ p. record { numbers = p.0; spare = p.1 }) (λ _. refl)

-- the greatest number that a set may have
abbrev pub greatest : ℕ
greatest = 4294967295

-- the numbers from the first one up, so many of them
unfoldable pub numbers_from : ℕ → ℕ → List ℕ
numbers_from first zero = []
numbers_from first (suc count) = first ∷ numbers_from (first + 1) count

-- the numbers of a range
abbrev pub numbers_in : ReadRange → List ℕ
numbers_in r = numbers_from r.first (r.last + 1 - r.first)

-- the union of ranges
unfoldable pub union_of : List ReadRange → FinSet nat_cmp
union_of rs = from_list (flat_map numbers_in rs)

-- ranges that rise and neither meet nor touch: the first begins at `least` or later, each other one
-- two or more after the end of the one before
abbrev pub RiseFrom : ℕ → List ReadRange → Type 0
RiseFrom least [] = Unit {0}
RiseFrom least (r ∷ rs) =
    (least ≤ r.first) × (r.first ≤ r.last) × (r.last ≤ greatest) × RiseFrom (r.last + 2) rs

-- rising, disjoint, non-touching ranges of numbers from 1 on
abbrev pub AreRanges : List ReadRange → Type 0
AreRanges rs = RiseFrom 1 rs

-- a number put before ranges: it lengthens the first one if that begins right after it, and else
-- stands alone
abbrev pub with_number : ℕ → List ReadRange → List ReadRange
with_number n [] = range n n ∷ []
with_number n (r ∷ rs) = if r.first == n + 1 then range n r.last ∷ rs else range n n ∷ r ∷ rs

-- rising numbers as ranges, cut wherever a number is missing
abbrev pub as_ranges : List ℕ → List ReadRange
as_ranges [] = []
as_ranges (n ∷ ns) = with_number n (as_ranges ns)

-- the ranges of a set: its numbers in rising order, cut wherever one is missing
unfoldable pub ranges_of : FinSet nat_cmp → List ReadRange
ranges_of s = as_ranges (filter (contains s) (numbers_from 1 greatest))

-- how many ranges a set has
abbrev pub count_of : FinSet nat_cmp → ℕ
count_of s = length (ranges_of s)

-- how many ranges the union of a list has
abbrev pub made_by : List ReadRange → ℕ
made_by rs = count_of (union_of rs)

-- ranges that rise and neither meet nor touch, whose union is the set
abbrev pub AreRangesOf : List ReadRange → FinSet nat_cmp → Type 0
AreRangesOf rs s = AreRanges rs × (union_of rs ≡ s)

-- the set has no number but those from 1 to the greatest
abbrev pub IsWithinBounds : FinSet nat_cmp → Type 0
IsWithinBounds s = (n : ℕ) → IsTrue (contains s n) → (1 ≤ n) × (n ≤ greatest)

-- every number from here to the greatest is in the set
abbrev pub IsReadFrom : FinSet nat_cmp → ℕ → Type 0
IsReadFrom s from = (n : ℕ) → from ≤ n → n ≤ greatest → IsTrue (contains s n)

-- n is the first number from here on that is not in the set
pub record IsNextUnread (s : FinSet nat_cmp) (from n : ℕ) : Type 0 where
  pub from_here : from ≤ n
  pub in_bounds : n ≤ greatest
  pub unread : ¬ IsTrue (contains s n)
  pub read_before : (m : ℕ) → from ≤ m → m < n → IsTrue (contains s m)
