-- A text on a screen.
use Rattle.std.specs.Prelude.{ℕ, List, [], ◌∷◌, ◌++◌, min}
use Rattle.kom_letters.specs.declared.showing.Start.{Start}
use Rattle.kom_letters.specs.declared.showing.Start.TheVariants.{Behind, At}
use Rattle.kom_letters.specs.Spacing.{shown_letters}
use Rattle.kom_letters.specs.Lines.{lay_out, IsHarmless, BeginsWithBlank}

-- the blank in front of a text whose first line is not the program's own
abbrev pub front_of : Start → List ℕ
front_of Behind = 32 ∷ []
front_of (At column) = []

-- the column behind it
abbrev pub first_column : ℕ → Start → ℕ
first_column columns Behind = 1
first_column columns (At column) = min column columns

-- the letters of a text as they are shown in so many columns
abbrev pub shown_text : ℕ → Start → List ℕ → List ℕ
shown_text columns start letters =
    front_of start ++ lay_out columns (first_column columns start) (shown_letters 0 letters)

-- what is shown is harmless, and begins with a blank unless it is behind the program's own words
abbrev pub IsHarmlessFrom : ℕ → Start → List ℕ → Type 0
IsHarmlessFrom columns Behind shown = IsHarmless columns 0 shown × BeginsWithBlank shown
IsHarmlessFrom columns (At column) shown = IsHarmless columns (min column columns) shown
