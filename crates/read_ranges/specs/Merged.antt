-- A list of ranges with those that touch made one.
use Rattle.std.specs.Prelude.{◌+◌, ◌==◌, if◌then◌else◌, List, [], ◌∷◌}
use Rattle.kom_types.specs.declared.memberships.ReadRange.{ReadRange}
use Rattle.read_ranges.specs.Numbers.{range}

-- a range put before ranges: it becomes one with the first of them where that begins right after it
abbrev pub with_range : ReadRange → List ReadRange → List ReadRange
with_range r [] = r ∷ []
with_range r (q ∷ qs) = if q.first == r.last + 1 then range r.first q.last ∷ qs else r ∷ q ∷ qs

-- the ranges of a rising list, with those that touch made one
abbrev pub merge_all : List ReadRange → List ReadRange
merge_all [] = []
merge_all (r ∷ rs) = with_range r (merge_all rs)
