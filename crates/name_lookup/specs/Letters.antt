-- The letters of names, by which they stand in order.
use Rattle.std.specs.Prelude.{ℕ, Bool, true, false, ◌==◌, List, [], ◌∷◌, ◌++◌, map}
use Rattle.std.specs.Prelude.{◌&&◌, drop, if◌then◌else◌}
use Rattle.std.specs.List.{after_first}
use Rattle.kom_types.specs.ByteKind.{is_blank}
use Rattle.kom_types.specs.Names.{fold, outside}
use Rattle.name_lookup.specs.declared.letters.Place.{Place}
use Rattle.name_lookup.specs.declared.letters.Letters.{Letters}

-- the blank after a word
abbrev pub word_end : Bool → List ℕ
word_end true = 32 ∷ []
word_end false = []

-- the letters of words and a blank after each, from within a word or from between two
abbrev pub letters : Bool → List ℕ → List ℕ
letters in_word [] = word_end in_word
letters in_word (byte ∷ bytes) =
    if is_blank byte then word_end in_word ++ letters false bytes else byte ∷ letters true bytes

-- the letters of the words of a name or a pattern, a blank after each word
abbrev pub letters_of : List ℕ → List ℕ
letters_of name = letters false (outside false (map fold name))

-- the letters that bytes add from a place on, and those that are left
abbrev pub letters_after : Place → List ℕ → List ℕ
letters_after place bytes = letters place.in_word (outside place.inside bytes)

abbrev pub letters_left : Letters → List ℕ
letters_left walk = letters_after walk.place (map fold walk.rest.now)

-- the letters after the blank of the first word
abbrev pub after_word : List ℕ → List ℕ
after_word rest = after_first (λ letter. letter == 32) rest

-- the letters up to the blank of the first word and with it, or all; and those before it
abbrev pub through_word : List ℕ → List ℕ
through_word [] = []
through_word (letter ∷ rest) =
    if letter == 32 then letter ∷ [] else letter ∷ through_word rest

abbrev pub first_word : List ℕ → List ℕ
first_word [] = []
first_word (letter ∷ rest) = if letter == 32 then [] else letter ∷ first_word rest

-- whether a blank ends the first word
abbrev pub ends_word : List ℕ → Bool
ends_word [] = false
ends_word (letter ∷ rest) = if letter == 32 then true else ends_word rest

-- whether a name's next letter is this one
abbrev pub first_is : ℕ → List ℕ → Bool
first_is asked [] = false
first_is asked (letter ∷ name) = letter == asked

-- whether a pattern of these letters finds a name of those
abbrev pub matches : List ℕ → List ℕ → Bool
matches [] name = true
matches (asked ∷ pattern) name =
    if asked == 32 then matches pattern (after_word name)
    else first_is asked name && matches pattern (drop 1 name)
