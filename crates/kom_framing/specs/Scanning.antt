-- What is kept of a line that has begun, and what its next bytes do to it.
use Rattle.std.specs.Prelude.{◌≡◌, ℕ, ◌+◌, ◌-◌, ◌^◌, ◌<◌, ◌≤◌, true, List, [], ◌∷◌, ◌++◌, length}
use Rattle.std.specs.Prelude.{get_or, take, drop, Option, option_to_list}
use Rattle.kom_types.specs.declared.byte_kind.ByteKind.{ByteKind}
use Rattle.kom_types.specs.declared.byte_kind.ByteKind.TheVariants as kind
use Rattle.kom_types.specs.declared.side.Side.{Side}
use Rattle.kom_types.specs.ByteKind.{is_digit, kind_of}
use Rattle.kom_types.specs.Token.{Token, number_of, is_integer}
use Rattle.kom_types.specs.Grammar.{drop_while}
use Rattle.kom_framing.specs.declared.lexer.Lexer.{Lexer}
use Rattle.kom_framing.specs.declared.lexer.Lexer.TheVariants as lexer
use Rattle.kom_framing.specs.declared.lexer.Step.{Step}
use Rattle.kom_framing.specs.declared.lexer.Step.TheVariants as step
use Rattle.kom_framing.specs.Spans.{tokens_of, AreTokens}
use Rattle.kom_framing.specs.Lexing.{Mode, Between, Run, Inside, Past, AfterSign, Goes, Ends}
use Rattle.kom_framing.specs.Lexing.{Unfits, move}
use Rattle.kom_framing.specs.Lexing.{Going, Ended, Stuck, onward, walk}

-- the bytes so far of a string whose length begins there
abbrev pub text_from : ℕ → List ℕ → List ℕ
text_from start bytes = drop 1 (drop_while is_digit (drop start bytes))

-- how far a line of these bytes has come, by what the lexer knows
abbrev pub mode_of : Lexer → List ℕ → Mode
mode_of lexer.Between bytes = Between
mode_of (lexer.Run start number) bytes = Run (drop start bytes)
mode_of (lexer.Inside start lacking) bytes = Inside (lacking - 1) (text_from start bytes)
mode_of lexer.Past bytes = Past
mode_of (lexer.AfterSign start) bytes =
    AfterSign (get_or bytes start 0) (drop (start + 1) bytes)

abbrev pub AreDigits : List ℕ → Type 0
AreDigits [] = Unit {0}
AreDigits (byte ∷ bytes) = (is_digit byte ≡ true) × AreDigits bytes

-- the lexer's numbers are those of a run of digits at the end of these bytes
pub record IsRun (start number : ℕ) (bytes : List ℕ) : Type 0 where
  pub begun : start < length bytes
  pub short : length bytes ≤ start + 16
  pub digits : AreDigits (drop start bytes)
  pub spells : number_of (drop start bytes) ≡ number
  pub small : number < 10 ^ (length bytes - start)

-- these bytes end with the length of a string, an `H`, and the string but for so many bytes
pub record IsInside (start lacking : ℕ) (bytes : List ℕ) : Type 0 where
  pub digits : List ℕ
  pub text : List ℕ
  pub begun : 1 ≤ length digits
  pub are_digits : AreDigits digits
  pub length_is : is_integer digits ≡ true
  pub bytes_are : drop start bytes ≡ digits ++ 72 ∷ text
  pub counts : number_of digits ≡ length text + lacking
  pub lacks : 1 ≤ lacking

-- the lexer's number is that of a sign, and perhaps digits, at the end of these bytes
pub record IsAfterSign (start : ℕ) (bytes : List ℕ) : Type 0 where
  pub begun : start < length bytes
  pub short : length bytes ≤ start + 17
  pub sign : kind_of (get_or bytes start 0) ≡ kind.Sign
  pub digits : AreDigits (drop (start + 1) bytes)

abbrev pub IsLexer : Lexer → List ℕ → Type 0
IsLexer lexer.Between bytes = Unit {0}
IsLexer (lexer.Run start number) bytes = IsRun start number bytes
IsLexer (lexer.Inside start lacking) bytes = IsInside start lacking bytes
IsLexer lexer.Past bytes = Unit {0}
IsLexer (lexer.AfterSign start) bytes = IsAfterSign start bytes

-- the tokens that end with a step
abbrev pub tokens_ended : List ℕ → Option ℕ → List Token
tokens_ended bytes start = tokens_of bytes (option_to_list start)

-- the step over a byte of this kind after a token, or after digits that it makes a token
abbrev pub step_by : Option ℕ → ByteKind → Step
step_by start kind.Blank = step.Goes 1 start lexer.Between
step_by start kind.LineFeed = step.Ends start
step_by start kind.Digit = step.Unfit
step_by start kind.Hollerith = step.Unfit
step_by start kind.Open = step.Unfit
step_by start kind.Close = step.Unfit
step_by start kind.Star = step.Unfit
step_by start kind.Sign = step.Unfit
step_by start kind.Other = step.Unfit

-- a step over one byte is what the byte does to the line
abbrev pub IsMove : Side → Step → Lexer → List ℕ → ℕ → Type 0
IsMove side (step.Goes count start after) before bytes byte =
    (count ≡ 1)
    × (move side (mode_of before bytes) byte
    ≡ Goes (tokens_ended (bytes ++ byte ∷ []) start) (mode_of after (bytes ++ byte ∷ [])))
    × IsLexer after (bytes ++ byte ∷ []) × AreTokens (bytes ++ byte ∷ []) (option_to_list start)
IsMove side (step.Ends start) before bytes byte =
    (move side (mode_of before bytes) byte ≡ Ends (tokens_ended (bytes ++ byte ∷ []) start))
    × AreTokens (bytes ++ byte ∷ []) (option_to_list start)
IsMove side step.Unfit before bytes byte = move side (mode_of before bytes) byte ≡ Unfits

-- so many bytes of those after lead on, with these tokens
pub record LeadsOn (side : Side) (count : ℕ) (start : Option ℕ) (after before : Lexer)
    (bytes tail : List ℕ) : Type 0 where
  pub some : 1 ≤ count
  pub within : count ≤ length tail
  pub onward_is : (tokens : List Token)
      → onward side (Going tokens (mode_of before bytes)) (take count tail)
      ≡ Going (tokens ++ tokens_ended (bytes ++ take count tail) start)
      (mode_of after (bytes ++ take count tail))
  pub sound : IsLexer after (bytes ++ take count tail)
  pub whole : AreTokens (bytes ++ take count tail) (option_to_list start)

-- the line ends with the next byte, and with these tokens
pub record EndsLine (side : Side) (start : Option ℕ) (before : Lexer) (bytes tail : List ℕ)
    : Type 0 where
  pub onward_is : (tokens : List Token)
      → onward side (Going tokens (mode_of before bytes)) (take 1 tail)
      ≡ Ended (tokens ++ tokens_ended (bytes ++ take 1 tail) start)
  pub whole : AreTokens (bytes ++ take 1 tail) (option_to_list start)

-- a step is what the bytes after these do to the line
abbrev pub Does : Side → Step → Lexer → List ℕ → List ℕ → Type 0
Does side (step.Goes count start after) before bytes tail =
    LeadsOn side count start after before bytes tail
Does side (step.Ends start) before bytes tail = EndsLine side start before bytes tail
Does side step.Unfit before bytes tail =
    (tokens : List Token) → onward side (Going tokens (mode_of before bytes)) (take 1 tail) ≡ Stuck

-- what is kept of the bytes of a line that goes on
pub record IsBegun (side : Side) (bytes : List ℕ) (starts : List ℕ) (lexer : Lexer)
    : Type 0 where
  pub walked : walk side bytes ≡ Going (tokens_of bytes starts) (mode_of lexer bytes)
  pub whole : AreTokens bytes starts
  pub sound : IsLexer lexer bytes
