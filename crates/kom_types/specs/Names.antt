-- Names: which of them clash, and what a pattern finds. That letters of Latin-1 fold too is this
-- server's choice. (Protocol A, "lookup-z-name" and "get-collate-table".)
use Rattle.std.specs.Prelude.{ℕ, ◌-◌, Bool, true, false, ◌==◌, ◌||◌, ◌&&◌, not, nat_le, nat_lt}
use Rattle.std.specs.Prelude.{List, [], ◌∷◌, ◌++◌, map, if◌then◌else◌, bytes_eq}
use Rattle.std.specs.List.{starts_with, list_all}
use Rattle.kom_types.specs.ByteKind.{is_blank}

-- a small letter of Latin-1 that has a capital one
abbrev pub is_small : ℕ → Bool
is_small byte =
    nat_le 97 byte && nat_le byte 122
    || nat_le 224 byte && nat_le byte 254 && not (byte == 247)

-- a byte in which small letters and capital ones are alike
abbrev pub fold : ℕ → ℕ
fold byte = if is_small byte then byte - 32 else byte

-- Two names clash where they differ in small and capital letters alone.
abbrev pub clash : List ℕ → List ℕ → Bool
clash first second = bytes_eq (map fold first) (map fold second)

-- What stands outside parentheses, from a place that stands inside some or not: one that is opened
-- and not closed reaches to the end.
abbrev pub outside : Bool → List ℕ → List ℕ
outside inside [] = []
outside true (byte ∷ bytes) = outside (not (byte == 41)) bytes
outside false (byte ∷ bytes) = if byte == 40 then outside true bytes else byte ∷ outside false bytes

-- a word before others, unless it is empty
abbrev pub with_word : List ℕ → List (List ℕ) → List (List ℕ)
with_word [] words = words
with_word (byte ∷ word) words = (byte ∷ word) ∷ words

-- the words of some bytes, blanks between them, of which the first goes on with these
abbrev pub words_after : List ℕ → List ℕ → List (List ℕ)
words_after word [] = with_word word []
words_after word (byte ∷ bytes) =
    if is_blank byte then with_word word (words_after [] bytes)
    else words_after (word ++ byte ∷ []) bytes

-- the words of a name or a pattern, in which small letters and capital ones are alike
abbrev pub words_of : List ℕ → List (List ℕ)
words_of name = words_after [] (outside false (map fold name))

-- each word is a prefix of the word at its place, and there are no more of them
abbrev pub are_prefixes : List (List ℕ) → List (List ℕ) → Bool
are_prefixes [] words = true
are_prefixes (first ∷ prefixes) [] = false
are_prefixes (first ∷ prefixes) (word ∷ words) =
    starts_with (λ a b. a == b) word first && are_prefixes prefixes words

-- Whether a pattern finds a name: each of its words is a prefix of the name's word at that place.
unfoldable pub finds : List ℕ → List ℕ → Bool
finds pattern name = are_prefixes (words_of pattern) (words_of name)

-- a byte that may stand in a name: no control character
abbrev pub is_proper : ℕ → Bool
is_proper byte = nat_le 32 byte && nat_lt byte 127 || nat_lt 159 byte

abbrev pub are_some : List (List ℕ) → Bool
are_some [] = false
are_some (word ∷ words) = true

-- Whether some bytes may be a name: none is a control character, and a pattern can find them.
unfoldable pub is_name : List ℕ → Bool
is_name name = list_all is_proper name && are_some (words_of name)
