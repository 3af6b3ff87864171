-- Words put into a sink: at the end of a writer, and their lengths.
use Rattle.std.proofs.Common.{◌≡◌, ℕ, ◌+◌, ◌-◌, ◌^◌, ◌<◌, ◌≤◌, ◌==◌, true, false, List, [], ◌∷◌, ◌++◌}
use Rattle.std.proofs.Common.{get_or, drop, length, refl, ap, ◌∙◌, sym, arith, append_assoc, length-append}
use Rattle.std.specs.Fmt.{decimal}
use Rattle.std.specs.List.{join_with_byte, flat_map}
use Rattle.std.proofs.lemmas.List.{drop_more}
use Rattle.kom_types.specs.Printing.{line_of}
use Rattle.kom_types.specs.spellings.Words.{Words, array}
use Rattle.kom_framing.specs.Writing.{Written, put_word, end_line}
use Rattle.kom_replies.specs.Sinks.{with_words}
use Rattle.kom_replies.specs.Lengths.{cap_at_u64, put_length}

pub with_words_append : {S : Type 0} (with_word : List ℕ → S → S) (xs ys : Words) (sink : S) →
    with_words with_word (xs ++ ys) sink ≡ with_words with_word ys (with_words with_word xs sink)
with_words_append with_word [] ys sink = refl
with_words_append with_word (x ∷ xs) ys sink = with_words_append with_word xs ys (with_word x sink)

-- an array that is not empty: its length, a brace, its elements, a brace
pub array_put : {S X : Type 0} (with_word : List ℕ → S → S) (element : X → Words) (values : List X) (sink : S) →
    false ≡ (length values == 0) →
    with_words with_word (array element values) sink
    ≡ with_word (125 ∷ [])
    (with_words with_word (flat_map element values) (with_word (123 ∷ []) (with_word (decimal (length values)) sink)))
array_put with_word element [] sink some = let none : false ≡ true = some in cc
array_put with_word element (value ∷ values) sink some =
    with_words_append with_word (flat_map element (value ∷ values)) ((125 ∷ []) ∷ []) _

-- words after a first one
after_a_word : (bytes word : List ℕ) (words : Words) →
    (with_words put_word words (record { bytes = bytes ++ word; joined = false })).bytes
    ≡ bytes ++ join_with_byte 32 (word ∷ words)
after_a_word bytes word [] = refl
after_a_word bytes word (next ∷ words) =
    after_a_word ((bytes ++ word) ++ 32 ∷ []) next words
    ∙ append_assoc (bytes ++ word) (32 ∷ []) _ ∙ append_assoc bytes word _

-- words at a line's beginning, and the line's end, are a line
pub line_written : (words : Words) (bytes : List ℕ) →
    end_line (with_words put_word words (record { bytes = bytes; joined = true }))
    ≡ record { bytes = bytes ++ line_of words; joined = true }
line_written [] bytes = refl
line_written (word ∷ words) bytes =
    ap (λ (written : List ℕ). let line : Written = record { bytes = written; joined = true } in line)
    (ap (λ (written : List ℕ). written ++ 10 ∷ []) (after_a_word bytes word words) ∙ append_assoc bytes _ (10 ∷ []))

-- how many bytes words take
unfoldable pub total : Words → ℕ
total [] = 0
total (word ∷ words) = (length word + 1) + total words

lengths_capped : (words : Words) (n : ℕ) → n ≤ 2 ^ 64 - 1 → with_words put_length words n ≡ cap_at_u64 (n + total words)
unfolding total
lengths_capped [] n within = omega arith
lengths_capped (word ∷ words) n within =
    let within' : cap_at_u64 (n + (length word + 1)) ≤ 2 ^ 64 - 1 = omega arith in
    let rest = lengths_capped words (cap_at_u64 (n + (length word + 1))) within' in
    omega (arith, rest)

pub line_length : (word : List ℕ) (words : Words) → length (line_of (word ∷ words)) ≡ total (word ∷ words)
unfolding total
line_length word [] = length-append word (10 ∷ []) ∙ omega arith
line_length word (next ∷ words) =
    let rest : length (join_with_byte 32 (next ∷ words) ++ 10 ∷ []) ≡ total (next ∷ words) = line_length next words in
    let this = length-append word ((32 ∷ join_with_byte 32 (next ∷ words)) ++ 10 ∷ []) in
    ap length (append_assoc word (32 ∷ join_with_byte 32 (next ∷ words)) (10 ∷ [])) ∙ this ∙ omega (arith, rest)

-- the lengths of a line's words are the line's length
pub line_measured : (word : List ℕ) (words : Words) →
    with_words put_length (word ∷ words) 0 ≡ cap_at_u64 (length (line_of (word ∷ words)))
line_measured word words =
    let within : 0 ≤ 2 ^ 64 - 1 = omega arith in
    let counted = lengths_capped (word ∷ words) 0 within in
    let long = line_length word words in
    omega (arith, counted, long)

-- of values that are spelled in a row, the next and those after it
pub next_put : {S X : Type 0} (with_word : List ℕ → S → S) (spelling : X → Words) (values : List X) (place : ℕ)
    (value : X) (sink : S) → place < length values → value ≡ get_or values place value →
    with_words with_word (flat_map spelling (drop place values)) sink
    ≡ with_words with_word (flat_map spelling (drop (place + 1) values)) (with_words with_word (spelling value) sink)
next_put with_word spelling values place value sink within is =
    let rest : Words = flat_map spelling (drop (place + 1) values) in
    ap (λ those. with_words with_word (flat_map spelling those) sink) (drop_more values place value within)
    ∙ with_words_append with_word (spelling (get_or values place value)) rest sink
    ∙ ap (λ next. with_words with_word rest (with_words with_word (spelling next) sink)) (sym is)
