-- The numbers among the words of a command line.
use Rattle.std.specs.Prelude.{◌≡◌, ◌≢◌, ℕ, ◌&&◌, nat_le, Bool, List, [], ◌∷◌, length, codes}
use Rattle.std.specs.Prelude.{Option, Some, None, if◌then◌else◌}
use Rattle.std.specs.List.{list_all}
use Rattle.kom_types.specs.ByteKind.{is_digit}
use Rattle.kom_types.specs.Token.{number_of}
use Rattle.kom_commands.specs.declared.numbers.AtPort.{AtPort}
use Rattle.kom_commands.specs.declared.numbers.Way.{Way}
use Rattle.kom_commands.specs.declared.numbers.Way.TheVariants as way

-- one to six digits
abbrev pub is_number : List ℕ → Bool
is_number word =
    nat_le 1 (length word) && nat_le (length word) 6 && list_all is_digit word

-- the number that a word is, if it is one from the least to the greatest
abbrev pub number_in : ℕ → ℕ → List ℕ → Option ℕ
number_in least greatest word =
    if is_number word && nat_le least (number_of word) && nat_le (number_of word) greatest
    then Some (number_of word)
    else None

-- the word that has links served one at a time by each worker, or many
abbrev pub word_of : Way → List ℕ
word_of way.OneAtATime = codes "serve"
word_of way.ManyAtATime = codes "hub"

-- the words that have a store served: at this port, by so many workers, in this way
abbrev pub SaysServe : List (List ℕ) → AtPort → Type 0
SaysServe words at = (store port workers : List ℕ)
    × (words ≡ word_of at.way ∷ store ∷ port ∷ workers ∷ []) × (store ≢ [])
    × (number_in 1 65535 port ≡ Some at.port) × (number_in 1 64 workers ≡ Some at.workers)
