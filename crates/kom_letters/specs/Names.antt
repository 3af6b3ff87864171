-- A name or a subject in what is left of its line.
use Rattle.std.specs.Prelude.{ℕ, suc, ◌-◌, ◌==◌, nat_le, nat_lt, List, [], ◌∷◌, ◌++◌, length, take}
use Rattle.std.specs.Prelude.{map, if◌then◌else◌}
use Rattle.kom_letters.specs.Kinds.{shown_letter, columns_of}

-- how many letters of the front fit into so many columns
abbrev pub front_count : ℕ → List ℕ → ℕ
front_count room [] = 0
front_count room (c ∷ cs) =
    if nat_le (columns_of c) room then suc (front_count (room - columns_of c) cs) else 0

-- all letters if they fit; else as many as fit before three dots, or nothing where these do not fit
abbrev pub shorten : ℕ → List ℕ → List ℕ
shorten room cs =
    if front_count room cs == length cs then cs
    else if nat_lt room 3 then []
    else take (front_count (room - 3) cs) cs ++ 46 ∷ 46 ∷ 46 ∷ []

-- a name in so many columns: no control of it, not even a line feed, is shown as it is
abbrev pub shown_name : ℕ → List ℕ → List ℕ
shown_name room letters = shorten room (map shown_letter letters)
