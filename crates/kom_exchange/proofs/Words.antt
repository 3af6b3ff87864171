-- Words that are spelled one after the other, and the line that they make.
use Rattle.std.proofs.Common.{◌≡◌, ℕ, Bool, true, false, List, [], ◌∷◌, ◌++◌, refl, ap, ◌∙◌, append_assoc, map}
use Rattle.std.proofs.Common.{if◌then◌else◌}
use Rattle.std.specs.Fmt.{decimal}
use Rattle.std.specs.List.{join_with_byte}
use Rattle.kom_types.specs.Printing.{line_of}
use Rattle.kom_types.specs.spellings.Words.{Words, hollerith}
use Rattle.kom_framing.specs.Writing.{Written, put_word, end_line}
use Rattle.kom_exchange.specs.declared.request.Request.{Request}
use Rattle.kom_exchange.specs.Asking.{word_of, words_of, greeting}
use Rattle.kom_exchange.specs.Writing.{put_words}

-- behind a word, and at a line's beginning
abbrev open_at : List ℕ → Written
open_at bytes = record { bytes = bytes; joined = false }

abbrev ended_at : List ℕ → Written
ended_at bytes = record { bytes = bytes; joined = true }

-- words after a first one
after_words : (bytes word : List ℕ) (words : Words)
    → put_words words (open_at (bytes ++ word)) ≡ open_at (bytes ++ join_with_byte 32 (word ∷ words))
after_words bytes word [] = refl
after_words bytes word (next ∷ words) =
    after_words ((bytes ++ word) ++ 32 ∷ []) next words
    ∙ ap open_at (append_assoc (bytes ++ word) (32 ∷ []) (join_with_byte 32 (next ∷ words))
    ∙ append_assoc bytes word (32 ∷ join_with_byte 32 (next ∷ words)))

-- a first word
first_word : (word : List ℕ) (a : Written) → a.joined ≡ true → put_word word a ≡ open_at (a.bytes ++ word)
first_word word a e = ap (λ (b : Bool). open_at ((if b then a.bytes else a.bytes ++ 32 ∷ []) ++ word)) e

-- the words of a request, in their order
pub line_put : (reference : ℕ) (request : Request) (a b c d e : Written) → a.joined ≡ true
    → b ≡ put_word (decimal reference) a → c ≡ put_word (decimal request.call) b
    → d ≡ put_words (map word_of request.arguments) c → e ≡ end_line d
    → e ≡ record { bytes = a.bytes ++ line_of (words_of (reference, request)); joined = true }
line_put reference request a b c d e joined eb ec ed ee =
    let words : Words = decimal request.call ∷ map word_of request.arguments in
    ee
    ∙ ap end_line (ed ∙ ap (put_words (map word_of request.arguments)) (ec ∙ ap (put_word (decimal request.call))
    (eb ∙ first_word (decimal reference) a joined)) ∙ after_words a.bytes (decimal reference) words)
    ∙ ap ended_at (append_assoc a.bytes (join_with_byte 32 (decimal reference ∷ words)) (10 ∷ []))

-- the words of a greeting
pub greeting_put : (user : List ℕ) (a b c d e : Written) → a ≡ record { bytes = []; joined = true }
    → b ≡ put_word (65 ∷ []) a → c ≡ record b { joined = true } → d ≡ put_word (hollerith user) c → e ≡ end_line d
    → e ≡ record { bytes = greeting user; joined = true }
greeting_put user a b c d e ea eb ec ed ee =
    ee ∙ ap end_line (ed ∙ ap (put_word (hollerith user)) (ec ∙ ap (λ (w : Written). record w { joined = true })
    (eb ∙ ap (put_word (65 ∷ [])) ea)))
