-- What is typed: key lines, the requests that they make, and how a request is spelled. (The forms
-- of key lines are this client's own; Protocol A, "List of Calls", has what is sent.)
use Rattle.std.specs.Prelude.{ℕ, ◌==◌, ◌&&◌, nat_le, nat_lt, Bool, true, false, List, [], ◌∷◌}
use Rattle.std.specs.Prelude.{◌++◌, length, take, drop, take_while, Option, Some, None, option_map}
use Rattle.std.specs.Prelude.{option_and_then, codes}
use Rattle.std.specs.Fmt.{decimal}
use Rattle.std.specs.Str.{bytes_eq}
use Rattle.kom_types.specs.ByteKind.{is_blank, is_digit}
use Rattle.kom_types.specs.Grammar.{drop_while}
use Rattle.kom_types.specs.Printing.{line_of}
use Rattle.kom_types.specs.spellings.Words.{Words, hollerith}

-- What a key line asks for: to log in as a person with a password; the conferences with unread
-- texts; a text; to write a text to a conference, or a comment to a text in it; to mark a text of a
-- conference as read by its local number. Numbers stand as they were typed.
pub data Request : Type 0 where
  Login : List ℕ → List ℕ → Request
  Unread : Request
  Read : List ℕ → Request
  Write : List ℕ → List ℕ → Request
  Comment : List ℕ → List ℕ → List ℕ → Request
  Mark : List ℕ → List ℕ → Request

-- the lines of what was typed, each without its line feed; one that has not ended is dropped
abbrev pub lines_after : List ℕ → List ℕ → List (List ℕ)
lines_after text [] = []
lines_after text (byte ∷ bytes) = elim (byte == 10) [
  | true ↦ text ∷ lines_after [] bytes
  | false ↦ lines_after (text ++ byte ∷ []) bytes
]

abbrev pub key_lines : List ℕ → List (List ℕ)
key_lines keys = lines_after [] keys

-- what is left of a line after this word, if the line begins with it
abbrev pub after_word : List ℕ → List ℕ → Option (List ℕ)
after_word word text = elim (bytes_eq (take (length word) text) word) [
  | true ↦ Some (drop (length word) text)
  | false ↦ None
]

-- a number as it was typed, and what is left of the line after it
pub record Numbered : Type 0 where
  pub digits : List ℕ
  pub tail : List ℕ

-- a number has 1 to 10 digits
abbrev pub is_number : List ℕ → Bool
is_number digits = nat_le 1 (length digits) && nat_le (length digits) 10

-- one blank, and the rest of the line, which may be empty
abbrev pub rest_after : List ℕ → Option (List ℕ)
rest_after [] = None
rest_after (byte ∷ bytes) = elim (is_blank byte) [ true ↦ Some bytes | false ↦ None ]

-- a number of a line that begins with one
abbrev pub number_at : List ℕ → Option Numbered
number_at text = elim (is_number (take_while is_digit text)) [
  | true ↦ Some (record { digits = take_while is_digit text; tail = drop_while is_digit text })
  | false ↦ None
]

-- one blank, and a number
abbrev pub number_after : List ℕ → Option Numbered
number_after tail = option_and_then number_at (rest_after tail)

-- the line ends here
abbrev pub at_end : Request → List ℕ → Option Request
at_end request [] = Some request
at_end request (byte ∷ bytes) = None

-- what each form reads after its word
abbrev pub login_after : List ℕ → Option Request
login_after tail =
    option_and_then (λ person. option_map (Login person.digits) (rest_after person.tail))
    (number_after tail)

abbrev pub read_after : List ℕ → Option Request
read_after tail =
    option_and_then (λ text. at_end (Read text.digits) text.tail) (number_after tail)

abbrev pub write_after : List ℕ → Option Request
write_after tail =
    option_and_then (λ conf. option_map (Write conf.digits) (rest_after conf.tail))
    (number_after tail)

abbrev pub comment_after : List ℕ → Option Request
comment_after tail =
    option_and_then (λ conf. option_and_then (λ text.
    option_map (Comment conf.digits text.digits) (rest_after text.tail)) (number_after conf.tail))
    (number_after tail)

abbrev pub mark_after : List ℕ → Option Request
mark_after tail =
    option_and_then (λ conf. option_and_then (λ local.
    at_end (Mark conf.digits local.digits) local.tail) (number_after conf.tail))
    (number_after tail)

-- a form of key line: its word, and what is read after it
pub record Form : Type 0 where
  pub word : List ℕ
  pub reads : List ℕ → Option Request

abbrev pub forms : List Form
forms = record { word = codes "login"; reads = login_after }
    ∷ record { word = codes "list"; reads = at_end Unread }
    ∷ record { word = codes "read"; reads = read_after }
    ∷ record { word = codes "write"; reads = write_after }
    ∷ record { word = codes "comment"; reads = comment_after }
    ∷ record { word = codes "mark"; reads = mark_after }
    ∷ []

-- what a line asks for by the first form whose word it begins with
abbrev pub request_by : List Form → List ℕ → Option Request
request_by [] text = None
request_by (form ∷ others) text = elim (after_word form.word text) [
  | Some tail ↦ form.reads tail
  | None ↦ request_by others text
]

-- how many bytes a key line has at most, its line feed counted
abbrev pub longest_key_line : ℕ
longest_key_line = 65536

-- What a key line asks for, if it has one of the forms and is not too long.
abbrev pub request_of : List ℕ → Option Request
request_of text = elim (nat_lt (length text) longest_key_line) [
  | true ↦ request_by forms text
  | false ↦ None
]

-- the call that a request makes, and its arguments; `person` is that of the last login line
abbrev pub words_of : List ℕ → Request → Words
words_of person (Login number password) =
    codes "62" ∷ number ∷ hollerith password ∷ codes "0" ∷ []
words_of person Unread = codes "52" ∷ person ∷ []
words_of person (Read text) = codes "25" ∷ text ∷ codes "0" ∷ codes "4294967295" ∷ []
words_of person (Write conference body) =
    codes "86" ∷ hollerith body ∷ codes "1 { 0" ∷ conference ∷ codes "} 0 { }" ∷ []
words_of person (Comment conference text body) =
    codes "86" ∷ hollerith body ∷ codes "2 { 0" ∷ conference ∷ codes "2" ∷ text
    ∷ codes "} 0 { }" ∷ []
words_of person (Mark conference local) =
    codes "27" ∷ conference ∷ codes "1 {" ∷ local ∷ codes "}" ∷ []

-- What is sent for a request under this reference.
abbrev pub request_line : ℕ → List ℕ → Request → List ℕ
request_line reference person request = line_of (decimal reference ∷ words_of person request)

-- the person of the last login line after this request
abbrev pub person_after : Request → List ℕ → List ℕ
person_after (Login number password) person = number
person_after Unread person = person
person_after (Read text) person = person
person_after (Write conference body) person = person
person_after (Comment conference text body) person = person
person_after (Mark conference local) person = person
