-- The names of the conferences, by rising number.
use Rattle.std.specs.Prelude.{◌≡◌, ℕ, false, not, nat_lt, ◌==◌, List, [], ◌∷◌, map, filter}
use Rattle.std.specs.Prelude.{find, Option, option_map, if◌then◌else◌}
use Rattle.std.specs.List.{AllByRecursion}
use Rattle.kom_types.specs.Names.{clash, finds}

-- a conference's number and its name
pub record Named : Type 0 where
  pub number : ℕ
  pub name : List ℕ

-- the names, and the one that is taken without memory
pub record Lookup : Type 0 where
  pub names : List Named
  pub ready : Option (List ℕ)

abbrev pub named_row : ℕ → List ℕ → Named
named_row number name = record { number = number; name = name }

-- with the name of a number, in place of the one that it had or by rising number
abbrev pub with_name : ℕ → List ℕ → List Named → List Named
with_name number name [] = named_row number name ∷ []
with_name number name (one ∷ rows) =
    if number == one.number then named_row number name ∷ rows
    else if nat_lt number one.number then named_row number name ∷ one ∷ rows
    else one ∷ with_name number name rows

-- without the name of a number
abbrev pub without_name : ℕ → List Named → List Named
without_name number rows = filter (λ one. not (one.number == number)) rows

-- the number of the first name that clashes with this one
abbrev pub clash_of : List ℕ → List Named → Option ℕ
clash_of name rows = option_map (λ one. one.number) (find (λ one. clash name one.name) rows)

-- the numbers of the names that a pattern finds
abbrev pub matches_of : List ℕ → List Named → List ℕ
matches_of pattern rows = map (λ one. one.number) (filter (λ one. finds pattern one.name) rows)

-- no two names clash
abbrev pub NoneClash : List Named → Type 0
NoneClash [] = Unit {0}
NoneClash (one ∷ rows) =
    AllByRecursion (λ later. clash one.name later.name ≡ false) rows × NoneClash rows
