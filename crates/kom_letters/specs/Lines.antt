-- Where the lines of a text are cut, and what holds of any text on a screen.
use Rattle.std.specs.Prelude.{◌≡◌, ℕ, ◌+◌, ◌-◌, ◌≤◌, Bool, true, not, ◌&&◌, ◌||◌, ◌==◌, nat_le}
use Rattle.std.specs.Prelude.{List, [], ◌∷◌, ◌++◌}
use Rattle.std.specs.Prelude.{fold, filter, All, IsTrue, if◌then◌else◌}
use Rattle.kom_letters.specs.Kinds.{is_plain, widens, columns_of}

-- the column in which the cursor stands after a letter, and after several
abbrev pub column_after : ℕ → ℕ → ℕ
column_after at c = if c == 10 then 0 else at + columns_of c

abbrev pub cursor : ℕ → List ℕ → ℕ
cursor at cs = fold column_after at cs

-- from a column on the cursor never stands behind the last one: no line is wider than the columns
abbrev pub StaysWithin : ℕ → ℕ → List ℕ → Type 0
StaysWithin columns at [] = at ≤ columns
StaysWithin columns at (c ∷ cs) = (at ≤ columns) × StaysWithin columns (column_after at c) cs

abbrev pub BeginsWithBlank : List ℕ → Type 0
BeginsWithBlank [] = ⊥
BeginsWithBlank (c ∷ cs) = c ≡ 32

-- behind each line feed stands a blank
abbrev pub StandsBehindBlanks : List ℕ → Type 0
StandsBehindBlanks [] = Unit {0}
StandsBehindBlanks (c ∷ cs) = (c ≡ 10 → BeginsWithBlank cs) × StandsBehindBlanks cs

-- a letter that is shown as it is, or a line feed
abbrev pub is_shown : ℕ → Bool
is_shown c = is_plain c || (c == 10)

-- No letter steers or forges the screen, on which the cursor stands in a column: there are plain
-- letters and line feeds alone, no line is wider than the columns, and each line but the first
-- begins with a blank.
pub record IsHarmless (columns at : ℕ) (cs : List ℕ) : Type 0 where
  pub kinds : All (λ c. IsTrue (is_shown c)) cs
  pub widths : StaysWithin columns at cs
  pub blanks : StandsBehindBlanks cs

-- the letters that are seen: all but blanks and line feeds
abbrev pub visible_letters : List ℕ → List ℕ
visible_letters cs = filter (λ c. not ((c == 32) || (c == 10))) cs

-- the letters up to the next blank or line feed fit into so many columns
abbrev pub word_fits : ℕ → List ℕ → Bool
word_fits room [] = true
word_fits room (c ∷ cs) =
    (c == 32) || (c == 10) || (nat_le (columns_of c) room && word_fits (room - columns_of c) cs)

-- the column that is kept behind a letter for what may make it wide
abbrev pub kept_behind : List ℕ → ℕ
kept_behind [] = 0
kept_behind (c ∷ cs) = if widens c then 1 else 0

-- a letter fits behind a column, a blank together with the word behind it
abbrev pub fits : ℕ → ℕ → ℕ → List ℕ → Bool
fits columns at c rest =
    nat_le (at + columns_of c + kept_behind rest) columns
    && (not (c == 32) || word_fits (columns - at - 1) rest)

-- what a letter becomes before others: a line feed gets a blank behind it; a letter that does not
-- fit begins a line, behind a blank unless it is one
unfoldable pub as_laid : ℕ → ℕ → ℕ → List ℕ → List ℕ
as_laid columns at c rest =
    if c == 10 then 10 ∷ 32 ∷ []
    else if fits columns at c rest then c ∷ []
    else if c == 32 then 10 ∷ 32 ∷ []
    else 10 ∷ 32 ∷ c ∷ []

-- the lines of a text from a column on
abbrev pub lay_out : ℕ → ℕ → List ℕ → List ℕ
lay_out columns at [] = []
lay_out columns at (c ∷ cs) =
    as_laid columns at c cs ++ lay_out columns (cursor at (as_laid columns at c cs)) cs
