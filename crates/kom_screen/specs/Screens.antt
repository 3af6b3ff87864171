-- What may stand on a screen, and what is put to one.
use Rattle.std.specs.Prelude.{◌≡◌, ℕ, ◌⊎◌, List, [], ◌∷◌, ◌++◌, length, All, IfSome, Option}
use Rattle.std.specs.Prelude.{Bool, false, if◌then◌else◌}
use Rattle.std.specs.List.{concat}
use Rattle.std.specs.Str.{chars}
use Rattle.kom_letters.specs.declared.charsets.Charset.{Charset}
use Rattle.kom_letters.specs.declared.showing.Start.{Start}
use Rattle.kom_letters.specs.declared.showing.Start.TheVariants as start
use Rattle.kom_letters.specs.Charsets.{letters_of}
use Rattle.kom_letters.specs.Lines.{IsHarmless, BeginsWithBlank}
use Rattle.kom_letters.specs.Showing.{shown_text}
use Rattle.kom_links.specs.Doors.{SinkView}
use Rattle.kom_links.specs.Outside.{with_bytes}
use Rattle.kom_links.specs.Talk.{IsPrefix}
use Rattle.kom_screen.specs.declared.fronts.Front.{Front}
use Rattle.kom_screen.specs.declared.fronts.Front.TheVariants as front
use Rattle.kom_screen.specs.Fronts.{own_words}

-- behind a blank front a text begins with a blank
abbrev pub Begins : Front → List ℕ → Type 0
Begins front.Blank rest = BeginsWithBlank rest
Begins _ rest = Unit {0}

-- Letters on a screen that is so wide, from the beginning of a line on: the program's own words or
-- a blank, and behind them a text that neither steers the screen nor forges a line.
pub record IsPiece (columns : ℕ) (cs : List ℕ) : Type 0 where
  pub front : Front
  pub rest : List ℕ
  pub all : cs ≡ own_words front ++ rest
  pub begins : Begins front rest
  pub harmless : IsHarmless columns (length (own_words front)) rest

-- bytes that are put to a screen at a time: a line feed, or such letters
abbrev pub IsPut : ℕ → List ℕ → Type 0
IsPut columns bytes = (bytes ≡ 10 ∷ []) ⊎ IsPiece columns (chars bytes)

-- All that was put to a screen: whole pieces, and where the screen failed the beginning of one.
pub record IsScreen (columns : ℕ) (has_failed : Bool) (put : List ℕ) : Type 0 where
  pub pieces : List (List ℕ)
  pub begun : List ℕ
  pub last : List ℕ
  pub all : put ≡ concat pieces ++ begun
  pub are : All (IsPut columns) pieces
  pub is_last : IsPut columns last
  pub part : IsPrefix begun last
  pub whole : has_failed ≡ false → begun ≡ []

-- what a sink tells that was put to it is harmless
abbrev pub IsScreenOf : ℕ → Bool → SinkView → Type 0
IsScreenOf columns has_failed sink = IfSome sink.put (IsScreen columns has_failed)

-- What contracts see of what is shown: the sink, how many columns it has, and whether it failed.
pub record Shown : Type 0 where
  pub sink : SinkView
  pub columns : ℕ
  pub has_failed : Bool

-- The same of a screen, and whether a prompt stands in its last line.
pub record Seen : Type 0 where
  pub sink : SinkView
  pub columns : ℕ
  pub has_failed : Bool
  pub is_open : Bool

-- where a text begins behind a front
abbrev pub start_of : Front → Start
start_of front.Blank = start.Behind
start_of other = start.At (length (own_words other))

-- the letters of a text as they are shown behind a front
abbrev pub letters_behind : ℕ → Front → Charset → List ℕ → List ℕ
letters_behind columns front charset bytes =
    own_words front ++ shown_text columns (start_of front) (letters_of charset bytes)

-- the line feed that ends a prompt
abbrev pub line_feed_if : Bool → List ℕ
line_feed_if is_open = if is_open then 10 ∷ [] else []

-- bytes are put to a screen, on a line of their own
abbrev pub put_on : Seen → List ℕ → Option (List ℕ)
put_on seen bytes = with_bytes bytes (with_bytes (line_feed_if seen.is_open) seen.sink.put)

-- where it is told, it has some bytes more at its end
abbrev pub Grows : Option (List ℕ) → Option (List ℕ) → Type 0
Grows old new = (more : List ℕ) × (new ≡ with_bytes more old)

-- A text is put to a screen on a line of its own, and what is put behind it.
pub record Puts (old : Seen) (letters behind : List ℕ) (new : Seen) : Type 0 where
  pub text : List ℕ
  pub spelled : chars text ≡ letters
  pub put : new.sink.put ≡ put_on old (text ++ behind)
