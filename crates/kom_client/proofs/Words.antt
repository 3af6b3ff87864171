-- Words that are spelled one after the other, and the line that they make.
use Rattle.std.proofs.Common.{◌≡◌, ℕ, ◌+◌, ◌<◌, true, false, List, [], ◌∷◌, ◌++◌, length, drop, map}
use Rattle.std.proofs.Common.{Some}
use Rattle.std.proofs.Common.{refl, sym, ap, ◌∙◌, append_assoc}
use Rattle.std.specs.List.{join_with_byte, slice_get}
use Rattle.std.proofs.lemmas.List.{at_drop_more}
use Rattle.std.proofs.lemmas.Option.{get_or_from_slice_get}
use Rattle.kom_types.specs.Printing.{line_of}
use Rattle.kom_types.specs.Token.{Token}
use Rattle.kom_types.specs.spellings.Words.{Words}
use Rattle.kom_framing.specs.Writing.{Written, put_word, end_line}
use Rattle.kom_client.specs.Seen.{with_words}
use Rattle.kom_client.specs.Replies.{spelling_of}

-- words after a first one
after_a_word : (bytes word : List ℕ) (words : Words)
    → (with_words words (record { bytes = bytes ++ word; joined = false })).bytes
    ≡ bytes ++ join_with_byte 32 (word ∷ words)
after_a_word bytes word [] = refl
after_a_word bytes word (next ∷ words) =
    after_a_word ((bytes ++ word) ++ 32 ∷ []) next words
    ∙ append_assoc (bytes ++ word) (32 ∷ []) _ ∙ append_assoc bytes word _

-- a first word, the others, and the line's end are a line
pub line_put : (word : List ℕ) (words : Words) (a b c d : Written) → a ≡ record { bytes = []; joined = true }
    → b ≡ put_word word a → c ≡ with_words words b → d ≡ end_line c → d.bytes ≡ line_of (word ∷ words)
line_put word words a b c d ea eb ec ed =
    ap (λ (w : Written). w.bytes)
    (ed ∙ ap end_line (ec ∙ ap (with_words words) (eb ∙ ap (put_word word) ea)))
    ∙ ap (λ (bytes : List ℕ). bytes ++ 10 ∷ []) (after_a_word [] word words)

-- a token more
pub token_more : (tokens : List Token) (index : ℕ) (token : Token) (old new : Written) → index < length tokens
    → slice_get tokens index ≡ Some token → new ≡ put_word (spelling_of token) old
    → with_words (map spelling_of (drop index tokens)) old ≡ with_words (map spelling_of (drop (index + 1) tokens)) new
token_more tokens index token old new within at e =
    at_drop_more (λ (ts : List Token). with_words (map spelling_of ts) old) tokens index token within
    ∙ ap (λ (t : Token). with_words (map spelling_of (drop (index + 1) tokens)) (put_word (spelling_of t) old))
    (get_or_from_slice_get tokens index token token at)
    ∙ ap (λ (w : Written). with_words (map spelling_of (drop (index + 1) tokens)) w) (sym e)
