-- Which letters are shown as they are, and how many columns they take.
use Rattle.std.specs.Prelude.{ℕ, Bool, true, false, not, ◌&&◌, ◌||◌, ◌==◌, nat_lt, unwrap_or}
use Rattle.std.specs.Prelude.{if◌then◌else◌}
use Rattle.std.specs.Int.{is_in_range}
use Rattle.ucd_category.specs.GeneralCategory.{general_category}
use Rattle.ucd_category.specs.declared.GeneralCategory.{GeneralCategory}
use Rattle.ucd_category.specs.declared.GeneralCategory.TheVariants.{Control, Surrogate, PrivateUse}
use Rattle.ucd_category.specs.declared.GeneralCategory.TheVariants.{Unassigned}
use Rattle.ucd_category.specs.declared.GeneralCategory.TheVariants.{LineSeparator}
use Rattle.ucd_category.specs.declared.GeneralCategory.TheVariants.{ParagraphSeparator}
use Rattle.unicode_width.specs.Width.{char_width}

-- letters, marks, digits, punctuation, symbols, blanks and joiners, but no control, no surrogate,
-- no private or missing code, and no separator of lines
abbrev pub is_written : GeneralCategory → Bool
is_written Control = false
is_written Surrogate = false
is_written PrivateUse = false
is_written Unassigned = false
is_written LineSeparator = false
is_written ParagraphSeparator = false
is_written _ = true

-- the marks by which a text turns the direction of what follows
abbrev pub turns_direction : ℕ → Bool
turns_direction c =
    (c == 0x061C) || is_in_range 0x200E 0x200F c || is_in_range 0x202A 0x202E c
    || is_in_range 0x2066 0x2069 c

-- A letter is shown as it is if it is printable ASCII; or if it is above ASCII, is written, turns
-- no direction, and does not stand for bytes that were no letter.
unfoldable pub is_plain : ℕ → Bool
is_plain c =
    is_in_range 0x20 0x7E c
    || (nat_lt 0x7F c && is_written (general_category c) && not (turns_direction c)
    && not (c == 0xFFFD))

-- what is shown of a letter: itself, or a question mark
abbrev pub shown_letter : ℕ → ℕ
shown_letter c = if is_plain c then c else 63

-- the selectors that make the letter before them wide, but not on each terminal
abbrev pub widens : ℕ → Bool
widens c = (c == 0xFE01) || (c == 0xFE0F)

-- the columns of a letter: none of a combining mark, two of a wide letter, and one of what may make
-- another letter wide
unfoldable pub columns_of : ℕ → ℕ
columns_of c = if widens c then 1 else unwrap_or (char_width false c) 0
