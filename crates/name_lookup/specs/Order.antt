-- Names that are kept by number, and the order in which they stand.
use Rattle.std.specs.Prelude.{◌≡◌, ℕ, ◌-◌, Bool, true, List, [], ◌∷◌, map, length, slice_get}
use Rattle.std.specs.Prelude.{is_some, unwrap_or, count_by, nat_eq, IsSortedByKey, if◌then◌else◌}
use Rattle.std.specs.Cmp.Lexicographic.{slice_cmp}
use Rattle.std.specs.Map.{lookup}
use Rattle.std.specs.Option.{option_map_or}
use Rattle.std.specs.Ordering.{nat_cmp, is_lt, on, then_cmp}
use Rattle.std.specs.declared.cmp.Ordering.{Ordering}
use Rattle.kom_types.specs.Names.{fold}
use Rattle.name_lookup.specs.declared.order.By.{By}
use Rattle.name_lookup.specs.declared.order.By.TheVariants.{Name, Letters}
use Rattle.name_lookup.specs.NamedRows.{Named, with_name, NoneClash}
use Rattle.name_lookup.specs.Letters.{letters_of}

-- the names, and how many more are taken without memory
pub record Indexed : Type 0 where
  pub names : List Named
  pub spare : ℕ

-- how two lists of letters stand to each other
abbrev pub letters_cmp : List ℕ → List ℕ → Ordering
letters_cmp = slice_cmp nat_cmp

-- how two names stand to each other: by their letters, and names of the same letters by all bytes
abbrev pub name_cmp : List ℕ → List ℕ → Ordering
name_cmp = then_cmp (on letters_of letters_cmp) (on (map fold) letters_cmp)

-- how a name stands to another one, or its letters to some letters
abbrev pub cmp_by : By → List ℕ → List ℕ → Ordering
cmp_by Name name asked = name_cmp name asked
cmp_by Letters name asked = letters_cmp (letters_of name) asked

-- numbers with their names, by rising number
abbrev pub rows_of : List (ℕ × List ℕ) → List Named
rows_of [] = []
rows_of (entry ∷ entries) = with_name entry.0 entry.1 (rows_of entries)

-- the name of a number, empty where it has none
abbrev pub name_in : List (ℕ × List ℕ) → ℕ → List ℕ
name_in entries number = unwrap_or (lookup (nat_eq number) entries) []

-- the letters of the name of a number
abbrev pub letters_in : List (ℕ × List ℕ) → ℕ → List ℕ
letters_in entries number = letters_of (name_in entries number)

-- whether the name of a number comes before what is asked for, and that of the last of some numbers
abbrev pub is_below : List (ℕ × List ℕ) → By → List ℕ → ℕ → Bool
is_below entries by asked number = is_lt (cmp_by by (name_in entries number) asked)

abbrev pub ends_below : List (ℕ × List ℕ) → By → List ℕ → List ℕ → Bool
ends_below entries by asked numbers =
    option_map_or (is_below entries by asked) (slice_get numbers (length numbers - 1)) true

-- the numbers stand in the order of their names
abbrev pub IsByName : List (ℕ × List ℕ) → List ℕ → Type 0
IsByName entries order = IsSortedByKey (name_in entries) name_cmp order

-- each number that has a name stands once in the order
abbrev pub StandsOnce : List (ℕ × List ℕ) → List ℕ → Type 0
StandsOnce entries order = (number : ℕ) → count_by (nat_eq number) order
    ≡ (if is_some (lookup (nat_eq number) entries) then 1 else 0)

-- the order of names by number, of which no two clash
pub record IsOrder (entries : List (ℕ × List ℕ)) (order : List ℕ) : Type 0 where
  pub by_name : IsByName entries order
  pub once : StandsOnce entries order
  pub none_clash : NoneClash (rows_of entries)
