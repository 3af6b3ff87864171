-- What a server's line is to a client, and what is shown of it. (Protocol A, "Server Replies".)
use Rattle.std.specs.Prelude.{ℕ, ◌==◌, true, false, if◌then◌else◌, List, [], ◌∷◌, map, codes}
use Rattle.std.specs.Prelude.{Option, Some, None}
use Rattle.kom_types.specs.Printing.{line_of}
use Rattle.kom_types.specs.spellings.Words.{hollerith}
use Rattle.kom_types.specs.Token.{Token, Digits, Text, Open, Close, Star, Signed, number_of}
use Rattle.kom_types.specs.Token.{is_integer}

-- A server's line: a good reply to this reference, with the tokens of its result; a refusal, with
-- its code and its status; a message, with the number of its arguments and its tokens; or none of
-- these.
pub data Reply : Type 0 where
  Good : ℕ → List Token → Reply
  Refusal : ℕ → List ℕ → List ℕ → Reply
  Message : List ℕ → List Token → Reply
  Departs : Reply

-- the integer that some digits spell, if they do
abbrev pub integer_in : List ℕ → Option ℕ
integer_in digits = elim (is_integer digits) [ true ↦ Some (number_of digits) | false ↦ None ]

-- the digits of an integer
abbrev pub integer_digits : Token → Option (List ℕ)
integer_digits (Digits digits) = elim (is_integer digits) [ true ↦ Some digits | false ↦ None ]
integer_digits (Text bytes) = None
integer_digits Open = None
integer_digits Close = None
integer_digits Star = None
integer_digits (Signed sign digits) = None

-- a refusal of this reference, if there are a code and a status
abbrev pub refusal_with : ℕ → Option (List ℕ) → Option (List ℕ) → Reply
refusal_with reference (Some code) (Some status) = Refusal reference code status
refusal_with reference (Some code) None = Departs
refusal_with reference None status = Departs

-- a refusal of this reference, if exactly two integers are left
abbrev pub refusal_by : ℕ → List Token → Reply
refusal_by reference [] = Departs
refusal_by reference (code ∷ []) = Departs
refusal_by reference (code ∷ status ∷ []) =
    refusal_with reference (integer_digits code) (integer_digits status)
refusal_by reference (code ∷ status ∷ token ∷ tokens) = Departs

-- a line that begins with this sign directly before an integer: `=`, `%` or `:`
abbrev pub reply_by : ℕ → List ℕ → ℕ → List Token → Reply
reply_by sign digits number tokens =
    if sign == 61 then Good number tokens
    else if sign == 37 then refusal_by number tokens
    else if sign == 58 then Message digits tokens
    else Departs

-- What a server's line is.
abbrev pub reply_of : List Token → Reply
reply_of [] = Departs
reply_of (Digits digits ∷ tokens) = Departs
reply_of (Text bytes ∷ tokens) = Departs
reply_of (Open ∷ tokens) = Departs
reply_of (Close ∷ tokens) = Departs
reply_of (Star ∷ tokens) = Departs
reply_of (Signed sign digits ∷ tokens) = elim (integer_in digits) [
  | Some number ↦ reply_by sign digits number tokens
  | None ↦ Departs
]

-- how a token is spelled: digits as they came
abbrev pub spelling_of : Token → List ℕ
spelling_of (Digits digits) = digits
spelling_of (Text bytes) = hollerith bytes
spelling_of Open = codes "{"
spelling_of Close = codes "}"
spelling_of Star = codes "*"
spelling_of (Signed sign digits) = sign ∷ digits

-- what is shown of a good reply, of a refusal and of a message
abbrev pub shown_good : List Token → List ℕ
shown_good tokens = line_of (codes "ok" ∷ map spelling_of tokens)

abbrev pub shown_refusal : List ℕ → List ℕ → List ℕ
shown_refusal code status = line_of (codes "error" ∷ code ∷ status ∷ [])

abbrev pub shown_message : List ℕ → List Token → List ℕ
shown_message digits tokens = line_of (codes "*" ∷ digits ∷ map spelling_of tokens)
