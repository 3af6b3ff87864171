use Rattle.std.specs.Prelude.{ℕ, zero, suc, ◌+◌, Bool, true, false, nat_le, nat_lt, ◌==◌, ◌&&◌}
use Rattle.std.specs.Prelude.{◌||◌, List, [], ◌∷◌, length, take, drop, take_while, codes}
use Rattle.kom_types.specs.declared.limits.TheConstants.{LONGEST_USER_NAME}
use Rattle.kom_types.specs.declared.byte_kind.ByteKind.TheVariants as kind
use Rattle.kom_types.specs.declared.side.Side.{Side}
use Rattle.kom_types.specs.declared.side.Side.TheVariants as side
use Rattle.kom_types.specs.ByteKind.{is_blank, is_digit, kind_of}
use Rattle.kom_types.specs.Token.{Token, Digits, Text, Open, Close, Star, Signed, number_of}
use Rattle.kom_types.specs.Token.{is_integer}

-- What some bytes are to a rule that reads them from the left: at fault nowhere yet, and more is
-- wanted; exactly the whole of what it asks; or at fault.
pub data Form (X : Type 0) : Type 0 where
  Prefix : Form X
  Whole : X → Form X
  Unfit : Form X

-- what is left after the bytes at the beginning that pass the test
abbrev pub drop_while : (ℕ → Bool) → List ℕ → List ℕ
drop_while test [] = []
drop_while test (byte ∷ bytes) =
    elim (test byte) [ true ↦ drop_while test bytes | false ↦ byte ∷ bytes ]

-- a token, and the bytes after it
pub record Cut : Type 0 where
  pub token : Token
  pub tail : List ℕ

-- a Hollerith string of that many bytes
abbrev pub string_at : ℕ → List ℕ → Form Cut
string_at count bytes = elim (nat_le count (length bytes)) [
  | true ↦ Whole (record { token = Text (take count bytes); tail = drop count bytes })
  | false ↦ Prefix
]

-- a run of 1 to 16 digits with what is after it: an `H` makes it the length of a string
abbrev pub run_at : List ℕ → List ℕ → Form Cut
run_at digits [] = elim (nat_le (length digits) 16) [ true ↦ Prefix | false ↦ Unfit ]
run_at digits (byte ∷ tail) = elim (byte == 72) [
  | true ↦ elim (is_integer digits) [ true ↦ string_at (number_of digits) tail | false ↦ Unfit ]
  | false ↦ elim (nat_le (length digits) 16) [
    | true ↦ Whole (record { token = Digits digits; tail = byte ∷ tail })
    | false ↦ Unfit
  ]
]

-- a sign, and a run of 1 to 16 digits directly after it with what is after that
abbrev pub signed_run_at : ℕ → List ℕ → List ℕ → Form Cut
signed_run_at sign digits [] = elim (nat_le (length digits) 16) [ true ↦ Prefix | false ↦ Unfit ]
signed_run_at sign digits (byte ∷ tail) =
    elim (nat_le 1 (length digits) && nat_le (length digits) 16) [
      | true ↦ Whole (record { token = Signed sign digits; tail = byte ∷ tail })
      | false ↦ Unfit
    ]

-- the token that begins with this sign: only a server's lines have one
abbrev pub signed_at : Side → ℕ → List ℕ → Form Cut
signed_at side.Client sign bytes = Unfit
signed_at side.Server sign bytes =
    signed_run_at sign (take_while is_digit bytes) (drop_while is_digit bytes)

-- the token that begins with this byte
abbrev pub token_at : Side → ℕ → List ℕ → Form Cut
token_at side byte bytes = elim (kind_of byte) [
  | kind.Digit ↦ run_at (byte ∷ take_while is_digit bytes) (drop_while is_digit bytes)
  | kind.Open ↦ Whole (record { token = Open; tail = bytes })
  | kind.Close ↦ Whole (record { token = Close; tail = bytes })
  | kind.Star ↦ Whole (record { token = Star; tail = bytes })
  | kind.Sign ↦ signed_at side byte bytes
  | kind.Blank ↦ Unfit
  | kind.LineFeed ↦ Unfit
  | kind.Hollerith ↦ Unfit
  | kind.Other ↦ Unfit
]

-- a token is followed by a blank or by the line's end
abbrev pub may_follow : List ℕ → Bool
may_follow [] = true
may_follow (byte ∷ bytes) = is_blank byte || byte == 10

-- a line ends with its line feed
abbrev pub end_of_line : List ℕ → Form (List Token)
end_of_line [] = Whole []
end_of_line (byte ∷ bytes) = Unfit

-- the tokens are these, and then those
abbrev pub with_token : Token → Form (List Token) → Form (List Token)
with_token token Prefix = Prefix
with_token token (Whole tokens) = Whole (token ∷ tokens)
with_token token Unfit = Unfit

-- the tokens of a line from here to its line feed; a line has fewer than `most` of them
abbrev pub tokens_at : Side → ℕ → List ℕ → Form (List Token)
tokens_at side zero bytes = Unfit
tokens_at side (suc most) bytes = elim (drop_while is_blank bytes) [
  | [] ↦ Prefix
  | byte ∷ tail ↦ elim (byte == 10) [
    | true ↦ end_of_line tail
    | false ↦ elim (token_at side byte tail) [
      | Prefix ↦ Prefix
      | Whole cut ↦ elim (may_follow cut.tail) [
        | true ↦ with_token cut.token (tokens_at side most cut.tail)
        | false ↦ Unfit
      ]
      | Unfit ↦ Unfit
    ]
  ]
]

-- A line: blanks, tokens with at least one blank between two, blanks, and a line feed that is not
-- inside a string. (Protocol A, "Client-Server Protocol".)
abbrev pub line_form : Side → List ℕ → Form (List Token)
line_form side bytes = tokens_at side (length bytes + 1) bytes

-- exactly so many bytes
abbrev pub exactly : ℕ → List ℕ → Form (List ℕ)
exactly count bytes = elim (nat_lt (length bytes) count) [
  | true ↦ Prefix
  | false ↦ elim (length bytes == count) [ true ↦ Whole bytes | false ↦ Unfit ]
]

-- the length of a user name is a run of 1 to 4 digits that spells at most the greatest length
abbrev pub is_name_length : List ℕ → Bool
is_name_length digits =
    nat_le 1 (length digits) && nat_le (length digits) 4
    && nat_le (number_of digits) LONGEST_USER_NAME

-- the user name, whose length is this run of digits with what is after it
abbrev pub name_at : List ℕ → List ℕ → Form (List ℕ)
name_at digits [] = elim (nat_le (length digits) 4) [ true ↦ Prefix | false ↦ Unfit ]
name_at digits (byte ∷ tail) = elim (byte == 72 && is_name_length digits) [
  | true ↦ exactly (number_of digits) tail
  | false ↦ Unfit
]

-- A client's greeting: the letter `A`, blanks, and the user name as a Hollerith string. The blanks
-- are this server's choice: a client in wide use sends one. (Protocol A, "Connecting to the LysKOM
-- server".)
abbrev pub client_greeting : List ℕ → Form (List ℕ)
client_greeting [] = Prefix
client_greeting (letter ∷ bytes) = elim (letter == 65) [
  | true ↦
      let name = drop_while is_blank bytes in
      name_at (take_while is_digit name) (drop_while is_digit name)
  | false ↦ Unfit
]

-- exactly these letters, which name no user
abbrev pub letters_at : List ℕ → List ℕ → Form (List ℕ)
letters_at [] [] = Whole []
letters_at [] (byte ∷ bytes) = Unfit
letters_at (letter ∷ letters) [] = Prefix
letters_at (letter ∷ letters) (byte ∷ bytes) = elim (byte == letter) [
  | true ↦ letters_at letters bytes
  | false ↦ Unfit
]

-- the bytes of a server's greeting
abbrev pub welcome : List ℕ
welcome = codes "LysKOM\n"

-- The greeting of a stream: a client's, or a server's answer to it. (Protocol A, "Connecting to the
-- LysKOM server".)
abbrev pub greeting_form : Side → List ℕ → Form (List ℕ)
greeting_form side.Client bytes = client_greeting bytes
greeting_form side.Server bytes = letters_at welcome bytes
