-- How a line goes on byte by byte.
use Rattle.std.specs.Prelude.{ℕ, zero, suc, true, false, nat_lt, List, [], ◌∷◌, ◌++◌, length, fold}
use Rattle.kom_types.specs.declared.byte_kind.ByteKind.{ByteKind}
use Rattle.kom_types.specs.declared.byte_kind.ByteKind.TheVariants as kind
use Rattle.kom_types.specs.declared.side.Side.{Side}
use Rattle.kom_types.specs.declared.side.Side.TheVariants as side
use Rattle.kom_types.specs.ByteKind.{kind_of}
use Rattle.kom_types.specs.Token.{Token, Digits, Text, Open, Close, Star, Signed, number_of}
use Rattle.kom_types.specs.Token.{is_integer}

-- how far a line has come: between two tokens, in a run of these digits, in a string of which these
-- bytes have come and one more than so many are to come, directly after a token, or after this sign
-- and these digits
pub data Mode : Type 0 where
  Between : Mode
  Run : List ℕ → Mode
  Inside : ℕ → List ℕ → Mode
  Past : Mode
  AfterSign : ℕ → List ℕ → Mode

-- what a byte does: tokens end with it and the line goes on, the line ends, or the byte fits
-- nowhere
pub data Move : Type 0 where
  Goes : List Token → Mode → Move
  Ends : List Token → Move
  Unfits : Move

-- a string of which these bytes have come and so many are to come
abbrev pub string_from : ℕ → List ℕ → Move
string_from zero text = Goes (Text text ∷ []) Past
string_from (suc lacking) text = Goes [] (Inside lacking text)

-- a byte after a token, which it may have ended
abbrev pub move_past : List Token → ByteKind → Move
move_past tokens kind.Blank = Goes tokens Between
move_past tokens kind.LineFeed = Ends tokens
move_past tokens kind.Digit = Unfits
move_past tokens kind.Hollerith = Unfits
move_past tokens kind.Open = Unfits
move_past tokens kind.Close = Unfits
move_past tokens kind.Star = Unfits
move_past tokens kind.Sign = Unfits
move_past tokens kind.Other = Unfits

-- a sign where a token may begin
abbrev pub move_to_sign : Side → ℕ → Move
move_to_sign side.Client sign = Unfits
move_to_sign side.Server sign = Goes [] (AfterSign sign [])

-- a byte where a token may begin
abbrev pub move_between : Side → ℕ → ByteKind → Move
move_between side byte kind.Blank = Goes [] Between
move_between side byte kind.LineFeed = Ends []
move_between side byte kind.Digit = Goes [] (Run (byte ∷ []))
move_between side byte kind.Hollerith = Unfits
move_between side byte kind.Open = Goes (Open ∷ []) Past
move_between side byte kind.Close = Goes (Close ∷ []) Past
move_between side byte kind.Star = Goes (Star ∷ []) Past
move_between side byte kind.Sign = move_to_sign side byte
move_between side byte kind.Other = Unfits

-- a byte after digits
abbrev pub move_in_run : List ℕ → ℕ → ByteKind → Move
move_in_run digits byte kind.Digit = elim (nat_lt (length digits) 16) [
  | true ↦ Goes [] (Run (digits ++ byte ∷ []))
  | false ↦ Unfits
]
move_in_run digits byte kind.Hollerith = elim (is_integer digits) [
  | true ↦ string_from (number_of digits) []
  | false ↦ Unfits
]
move_in_run digits byte kind.Blank = move_past (Digits digits ∷ []) kind.Blank
move_in_run digits byte kind.LineFeed = move_past (Digits digits ∷ []) kind.LineFeed
move_in_run digits byte kind.Open = Unfits
move_in_run digits byte kind.Close = Unfits
move_in_run digits byte kind.Star = Unfits
move_in_run digits byte kind.Sign = Unfits
move_in_run digits byte kind.Other = Unfits

-- a byte that may end a sign's run of these digits
abbrev pub move_past_sign : ℕ → List ℕ → ByteKind → Move
move_past_sign sign [] sort = Unfits
move_past_sign sign (digit ∷ digits) sort = move_past (Signed sign (digit ∷ digits) ∷ []) sort

-- a byte after a sign and digits
abbrev pub move_after_sign : ℕ → List ℕ → ℕ → ByteKind → Move
move_after_sign sign digits byte kind.Digit = elim (nat_lt (length digits) 16) [
  | true ↦ Goes [] (AfterSign sign (digits ++ byte ∷ []))
  | false ↦ Unfits
]
move_after_sign sign digits byte kind.Blank = move_past_sign sign digits kind.Blank
move_after_sign sign digits byte kind.LineFeed = move_past_sign sign digits kind.LineFeed
move_after_sign sign digits byte kind.Hollerith = move_past_sign sign digits kind.Hollerith
move_after_sign sign digits byte kind.Open = move_past_sign sign digits kind.Open
move_after_sign sign digits byte kind.Close = move_past_sign sign digits kind.Close
move_after_sign sign digits byte kind.Star = move_past_sign sign digits kind.Star
move_after_sign sign digits byte kind.Sign = move_past_sign sign digits kind.Sign
move_after_sign sign digits byte kind.Other = move_past_sign sign digits kind.Other

abbrev pub move : Side → Mode → ℕ → Move
move side Between byte = move_between side byte (kind_of byte)
move side (Run digits) byte = move_in_run digits byte (kind_of byte)
move side (Inside lacking text) byte = string_from lacking (text ++ byte ∷ [])
move side Past byte = move_past [] (kind_of byte)
move side (AfterSign sign digits) byte = move_after_sign sign digits byte (kind_of byte)

-- a line's bytes so far: they go on with these tokens whole, they are a line, or no line begins so
pub data LexerState : Type 0 where
  Going : List Token → Mode → LexerState
  Ended : List Token → LexerState
  Stuck : LexerState

abbrev pub lexer_after : List Token → Move → LexerState
lexer_after tokens (Goes more mode) = Going (tokens ++ more) mode
lexer_after tokens (Ends more) = Ended (tokens ++ more)
lexer_after tokens Unfits = Stuck

abbrev pub next : Side → LexerState → ℕ → LexerState
next side (Going tokens mode) byte = lexer_after tokens (move side mode byte)
next side (Ended tokens) byte = Stuck
next side Stuck byte = Stuck

abbrev pub onward : Side → LexerState → List ℕ → LexerState
onward side state bytes = fold (next side) state bytes

-- these bytes of a line
abbrev pub walk : Side → List ℕ → LexerState
walk side bytes = onward side (Going [] Between) bytes
