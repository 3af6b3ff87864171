-- What words leave in a sink, where one word after the other is put.
use Rattle.std.specs.Prelude.{List, ℕ, [], ◌∷◌}
use Rattle.kom_types.specs.spellings.Words.{Words}

-- with these words, where this is what one word leaves
abbrev pub with_words : {S : Type 0} → (List ℕ → S → S) → Words → S → S
with_words with_word [] sink = sink
with_words with_word (word ∷ words) sink = with_words with_word words (with_word word sink)

-- nothing that was put is lost: the bytes that it began with it begins with still
abbrev pub Keeps : {S : Type 0} → (List ℕ → S → Type 0) → S → S → Type 0
Keeps begins old new = (prefix : List ℕ) → begins prefix old → begins prefix new
