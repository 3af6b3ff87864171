-- What the objects in memory do by their scripts.
use Rattle.std.specs.Prelude.{ℕ, zero, suc, ◌-◌, ◌==◌, min, if◌then◌else◌, Bool, IsTrue, ◌&&◌, not}
use Rattle.std.specs.Prelude.{List, [], ◌∷◌, ◌++◌, length, slice_index}
use Rattle.std.specs.List.{list_any}
use Rattle.kom_links.specs.WorldCounts.{next_call}
use Rattle.memory_links.specs.declared.memory_link.Script.{Script}

-- the count of faults after a call, by whether it failed and by the count before it; the count
-- stands still at 2^64 - 1
abbrev pub faults_after : Bool → ℕ → ℕ
faults_after failed faults = if failed then next_call faults else faults

-- whether the number of the next call stands in this list
abbrev pub is_next_in : List ℕ → ℕ → Bool
is_next_in numbers made = list_any (λ number. number == next_call made) numbers

-- the next call is one of those that are to fail
abbrev pub Fails : List ℕ → ℕ → Type 0
Fails fails made = IsTrue (is_next_in fails made)

-- the next call is one of those that are to wait, and none of those that are to fail
abbrev pub Waits : Script → ℕ → Type 0
Waits script made =
    IsTrue (is_next_in script.waits.items made && not (is_next_in script.fails.items made))

-- the moment that a script has for a reading, counted from 0; its last one serves all that come
-- later
abbrev pub moment_at : List ℕ → ℕ → ℕ
moment_at script reading = slice_index script (min reading (length script - 1))

-- the first so many readings of a clock with this script
abbrev pub readings : List ℕ → ℕ → List ℕ
readings script zero = []
readings script (suc count) = readings script count ++ moment_at script count ∷ []
