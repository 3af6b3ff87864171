-- One element more of a list that is gone through, and the last one.
use Rattle.std.proofs.Common.{◌≡◌, ℕ, ◌+◌, ◌<◌, ◌≤◌, List, [], ◌∷◌, ◌++◌, length, get_or, drop, map, sym, ap, ◌∙◌}
use Rattle.std.proofs.Common.{append_assoc, append-nil}
use Rattle.std.proofs.lemmas.List.{at_drop_more, at_drop_all}
use Rattle.kom_framing.specs.Writing.{Written, put_word}
use Rattle.kom_exchange.specs.declared.request.Argument.{Argument}
use Rattle.kom_exchange.specs.declared.request.Argument.TheVariants as argument
use Rattle.kom_exchange.specs.Asking.{word_of}
use Rattle.kom_exchange.specs.Writing.{put_words}

pub words_step : (xs : List Argument) (i : ℕ) (d : Argument) (w : Written) → i < length xs →
    put_words (map word_of (drop i xs)) w
    ≡ put_words (map word_of (drop (i + 1) xs)) (put_word (word_of (get_or xs i d)) w)
words_step xs i d w within = at_drop_more (λ (ys : List Argument). put_words (map word_of ys) w) xs i d within

pub words_end : (xs : List Argument) (i : ℕ) (w : Written) → length xs ≤ i →
    put_words (map word_of (drop i xs)) w ≡ w
words_end xs i w past = at_drop_all (λ (ys : List Argument). put_words (map word_of ys) w) xs i past

pub numbers_step : (out : List Argument) (xs : List ℕ) (i d : ℕ) → i < length xs →
    out ++ map argument.Number (drop i xs)
    ≡ (out ++ argument.Number (get_or xs i d) ∷ []) ++ map argument.Number (drop (i + 1) xs)
numbers_step out xs i d within =
    ap (λ (ys : List Argument). out ++ ys) (at_drop_more (map argument.Number) xs i d within)
    ∙ sym (append_assoc out (argument.Number (get_or xs i d) ∷ []) (map argument.Number (drop (i + 1) xs)))

pub numbers_end : (out : List Argument) (xs : List ℕ) (i : ℕ) → length xs ≤ i →
    out ++ map argument.Number (drop i xs) ≡ out
numbers_end out xs i past =
    ap (λ (ys : List Argument). out ++ ys) (at_drop_all (map argument.Number) xs i past) ∙ append-nil out
