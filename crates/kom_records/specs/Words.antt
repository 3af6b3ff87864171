-- The tokens that a server's words are.
use Rattle.std.specs.Prelude.{ℕ, List, [], ◌∷◌, ◌++◌, map}
use Rattle.kom_types.specs.Token.{Token}
use Rattle.kom_types.specs.spellings.Words.{Words}
use Rattle.kom_framing.specs.Spans.{token_of}

-- the token that a word is before a line's end
unfoldable pub token_of_word : List ℕ → Token
token_of_word word = token_of (word ++ 10 ∷ []) 0

abbrev pub tokens_of_words : Words → List Token
tokens_of_words = map token_of_word
