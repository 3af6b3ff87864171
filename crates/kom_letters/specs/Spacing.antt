-- What is shown of a text, before its lines are cut.
use Rattle.std.specs.Prelude.{ℕ, ◌+◌, ◌-◌, ◌%◌, ◌&&◌, ◌==◌, List, [], ◌∷◌, ◌++◌, slice_index}
use Rattle.std.specs.Prelude.{replicate}
use Rattle.std.specs.Prelude.{if◌then◌else◌}
use Rattle.kom_letters.specs.Kinds.{shown_letter, columns_of}

-- What is shown of a letter before others, in a column of the eight up to the next stop: blanks up
-- to the stop of a tab, a line feed as it is, nothing of a carriage return before a line feed, and
-- one letter of each other one. Beside it stands the column behind that.
unfoldable pub piece_of : ℕ → ℕ → List ℕ → List ℕ × ℕ
piece_of at c rest =
    if c == 9 then (replicate (8 - at) 32, 0)
    else if c == 10 then (10 ∷ [], 0)
    else if (c == 13) && (slice_index rest 0 == 10) then ([], at)
    else (shown_letter c ∷ [], (at + columns_of (shown_letter c)) % 8)

-- what is shown of the letters behind a column
abbrev pub shown_letters : ℕ → List ℕ → List ℕ
shown_letters at [] = []
shown_letters at (c ∷ cs) = (piece_of at c cs).0 ++ shown_letters (piece_of at c cs).1 cs
