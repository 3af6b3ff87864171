-- Words behind what a writer has written.
use Rattle.std.specs.Prelude.{[], ◌∷◌}
use Rattle.kom_types.specs.spellings.Words.{Words}
use Rattle.kom_framing.specs.Writing.{Written, put_word}

-- words, one after the other
abbrev pub put_words : Words → Written → Written
put_words [] written = written
put_words (word ∷ words) written = put_words words (put_word word written)
