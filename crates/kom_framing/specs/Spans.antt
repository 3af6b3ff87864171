-- The tokens of a line, by the places of its bytes at which they begin.
use Rattle.std.specs.Prelude.{◌≡◌, ℕ, ◌^◌, ◌&&◌, nat_le, nat_lt, true, false, List, [], ◌∷◌, drop}
use Rattle.std.specs.Prelude.{map, Option, Some, None}
use Rattle.kom_types.specs.declared.side.Side.TheVariants as side
use Rattle.kom_types.specs.Token.{Token, Digits, Text, Open, Close, Star, Signed}
use Rattle.kom_types.specs.Grammar.{Form, Prefix, Whole, Unfit, Cut, token_at}
use Rattle.kom_framing.specs.declared.token.Token.{Token as SeenToken}
use Rattle.kom_framing.specs.declared.token.Token.TheVariants as seen

-- the token that a caller sees
abbrev pub token_seen : SeenToken → Token
token_seen (seen.Digits digits) = Digits digits.now
token_seen (seen.Text text) = Text text.now
token_seen seen.Open = Open
token_seen seen.Close = Close
token_seen seen.Star = Star
token_seen (seen.Signed sign digits) = Signed sign digits.now

-- The token with which these bytes begin, and the bytes after it. A sign is read as a server's: a
-- client's line that has one is at fault before it has the token.
abbrev pub cut_of : List ℕ → Form Cut
cut_of [] = Prefix
cut_of (byte ∷ tail) = token_at side.Server byte tail

-- the bytes from this place on begin with a token that is whole
pub record IsToken (bytes : List ℕ) (start : ℕ) : Type 0 where
  pub cut : Cut
  pub whole : cut_of (drop start bytes) ≡ Whole cut

abbrev pub AreTokens : List ℕ → List ℕ → Type 0
AreTokens bytes [] = Unit {0}
AreTokens bytes (start ∷ starts) = IsToken bytes start × AreTokens bytes starts

-- a token that was cut, and a star if none was
abbrev pub token_cut : Form Cut → Token
token_cut Prefix = Star
token_cut (Whole cut) = cut.token
token_cut Unfit = Star

-- the token that begins at this place of these bytes
abbrev pub token_of : List ℕ → ℕ → Token
token_of bytes start = token_cut (cut_of (drop start bytes))

abbrev pub tokens_of : List ℕ → List ℕ → List Token
tokens_of bytes starts = map (token_of bytes) starts

-- the next token is taken, and those after it are left
abbrev pub Takes : Option SeenToken → List Token → List Token → Type 0
Takes None tokens rest = tokens ≡ []
Takes (Some token) tokens rest = tokens ≡ token_seen token ∷ rest

-- the integer of so many digits that spell this number: ten at most, below 2^32
abbrev pub integer_told : ℕ → ℕ → Option ℕ
integer_told count number =
    elim (nat_le count 10 && nat_lt number (2 ^ 32)) [ true ↦ Some number | false ↦ None ]
