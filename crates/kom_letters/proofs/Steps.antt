-- One letter more of those that are shown.
use Rattle.std.proofs.Common.{◌≡◌, ℕ, ◌+◌, ◌-◌, ◌<◌, ◌≤◌, true, ◌&&◌, ◌||◌, ◌==◌, nat_le, List, [], ◌++◌, length}
use Rattle.std.proofs.Common.{get_or, drop, sym, ap, ◌∙◌, append_assoc}
use Rattle.std.proofs.lemmas.List.{at_drop_more, at_drop_all}
use Rattle.kom_letters.specs.Kinds.{columns_of}
use Rattle.kom_letters.specs.Spacing.{piece_of, shown_letters}
use Rattle.kom_letters.specs.Lines.{cursor, word_fits, as_laid, lay_out}

-- what is shown with one letter more, and with the last one
pub spaced_step : (out : List ℕ) (at : ℕ) (xs : List ℕ) (i : ℕ) → i < length xs → out ++ shown_letters at (drop i xs)
    ≡ (out ++ (piece_of at (get_or xs i 0) (drop (i + 1) xs)).0)
    ++ shown_letters (piece_of at (get_or xs i 0) (drop (i + 1) xs)).1 (drop (i + 1) xs)
spaced_step out at xs i within =
    ap (λ (ys : List ℕ). out ++ ys) (at_drop_more (shown_letters at) xs i 0 within)
    ∙ sym (append_assoc out (piece_of at (get_or xs i 0) (drop (i + 1) xs)).0
    (shown_letters (piece_of at (get_or xs i 0) (drop (i + 1) xs)).1 (drop (i + 1) xs)))

pub spaced_end : (at : ℕ) (xs : List ℕ) (i : ℕ) → length xs ≤ i → shown_letters at (drop i xs) ≡ []
spaced_end at xs i past = at_drop_all (shown_letters at) xs i past

-- the same of lines
pub laid_step : (out : List ℕ) (columns at : ℕ) (xs : List ℕ) (i : ℕ) → i < length xs →
    out ++ lay_out columns at (drop i xs)
    ≡ (out ++ as_laid columns at (get_or xs i 0) (drop (i + 1) xs))
    ++ lay_out columns (cursor at (as_laid columns at (get_or xs i 0) (drop (i + 1) xs))) (drop (i + 1) xs)
laid_step out columns at xs i within =
    let here = as_laid columns at (get_or xs i 0) (drop (i + 1) xs) in
    ap (λ (ys : List ℕ). out ++ ys) (at_drop_more (lay_out columns at) xs i 0 within)
    ∙ sym (append_assoc out here (lay_out columns (cursor at here) (drop (i + 1) xs)))

pub laid_end : (columns at : ℕ) (xs : List ℕ) (i : ℕ) → length xs ≤ i → lay_out columns at (drop i xs) ≡ []
laid_end columns at xs i past = at_drop_all (lay_out columns at) xs i past

-- the same of a word
pub word_step : (room : ℕ) (xs : List ℕ) (i : ℕ) → i < length xs → word_fits room (drop i xs)
    ≡ ((get_or xs i 0 == 32) || (get_or xs i 0 == 10) || (nat_le (columns_of (get_or xs i 0)) room
    && word_fits (room - columns_of (get_or xs i 0)) (drop (i + 1) xs)))
word_step room xs i within = at_drop_more (word_fits room) xs i 0 within

pub word_end : (room : ℕ) (xs : List ℕ) (i : ℕ) → length xs ≤ i → word_fits room (drop i xs) ≡ true
word_end room xs i past = at_drop_all (word_fits room) xs i past
