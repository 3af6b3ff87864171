-- The page of a text, and what a screen took of it.
use Rattle.std.specs.Prelude.{◌≡◌, ℕ, ◌==◌, Bool, not, if◌then◌else◌, List, [], ◌∷◌, ◌++◌, map}
use Rattle.std.specs.Prelude.{take_while, IfSome}
use Rattle.std.specs.Str.{chars}
use Rattle.kom_letters.specs.declared.charsets.Charset.{Charset}
use Rattle.kom_screen.specs.declared.fronts.Front.TheVariants as front
use Rattle.kom_screen.specs.Screens.{Seen, letters_behind}

abbrev pub goes_on : ℕ → Bool
goes_on byte = not (byte == 10)

-- the first line of some bytes, and what stands behind its line feed
abbrev pub first_line : List ℕ → List ℕ
first_line bytes = take_while goes_on bytes

abbrev pub behind_line : List ℕ → List ℕ
behind_line [] = []
behind_line (byte ∷ bytes) = if goes_on byte then behind_line bytes else bytes

-- some lines, each with its line feed, and bytes behind them
abbrev pub behind_lines : List (List ℕ) → List ℕ → List ℕ
behind_lines [] rest = rest
behind_lines (line ∷ lines) rest = line ++ 10 ∷ behind_lines lines rest

-- a line that has no line feed
abbrev pub last_line : List ℕ → List (List ℕ)
last_line [] = []
last_line (byte ∷ bytes) = (byte ∷ bytes) ∷ []

-- the lines of some bytes; a line feed at their end begins no line more
abbrev pub lines_from : List ℕ → List ℕ → List (List ℕ)
lines_from begun [] = last_line begun
lines_from begun (byte ∷ bytes) =
    if goes_on byte then lines_from (begun ++ byte ∷ []) bytes else begun ∷ lines_from [] bytes

abbrev pub lines_of : List ℕ → List (List ℕ)
lines_of bytes = lines_from [] bytes

-- A screen took these lines in this order, the last one first, each with its line feed.
abbrev pub HasShown : List (List ℕ) → List ℕ → Type 0
HasShown [] put = Unit {0}
HasShown (line ∷ earlier) put = (before text after : List ℕ) × (put ≡ before ++ text ++ 10 ∷ after)
    × (chars text ≡ line) × HasShown earlier before

abbrev pub Shows : List (List ℕ) → Seen → Type 0
Shows lines seen = IfSome seen.sink.put (HasShown lines)

-- lines, the last one first, onto others
abbrev pub onto : List (List ℕ) → List (List ℕ) → List (List ℕ)
onto [] earlier = earlier
onto (line ∷ lines) earlier = onto lines (line ∷ earlier)

-- the letters of a page, line by line: the subject, which is the body's first line, and the others
abbrev pub page_of : ℕ → Charset → List ℕ → List (List ℕ)
page_of columns charset body = letters_behind columns front.Subject charset (first_line body)
    ∷ map (letters_behind columns front.Blank charset) (lines_of (behind_line body))

-- A screen took the whole page of a text, in order.
abbrev pub HasPage : Seen → Charset → List ℕ → Type 0
HasPage seen charset body = Shows (onto (page_of seen.columns charset body) []) seen

-- A screen took these lines after all that it took before, and is as wide as it was.
pub record Adds (lines : List (List ℕ)) (old new : Seen) : Type 0 where
  pub columns : new.columns ≡ old.columns
  pub shown : (earlier : List (List ℕ)) → Shows earlier old → Shows (onto lines earlier) new
