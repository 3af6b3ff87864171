-- One element more of a list that is gone through, and the last one.
use Rattle.std.proofs.Common.{◌≡◌, ℕ, ◌+◌, ◌<◌, ◌≤◌, List, [], ◌∷◌, ◌++◌, length, get_or, drop, sym}
use Rattle.std.proofs.Common.{ap, ◌∙◌, append_assoc, fold, filter, Option, Some, None, refl}
use Rattle.std.specs.Option.{option_to_list}
use Rattle.std.specs.List.{filter_map, cons_option}
use Rattle.std.proofs.lemmas.List.{at_drop_more, at_drop_all}
use Rattle.kom_types.specs.declared.texts.MiscInfo.{MiscInfo}
use Rattle.kom_reader.specs.declared.recipients.Part.{Part}
use Rattle.kom_reader.specs.declared.rows.Row.{Row}
use Rattle.kom_reader.specs.declared.words.Word.{Word}
use Rattle.kom_reader.specs.declared.words.Choice.{Choice}
use Rattle.kom_reader.specs.declared.words.Choice.TheVariants as choice
use Rattle.kom_reader.specs.Links.{part_by, group_after, parts_behind, all_rising, footnote_in, comment_in}
use Rattle.kom_reader.specs.Reading.{Reading, is_row_in}
use Rattle.kom_reader.specs.Steps.{lower}
use Rattle.kom_reader.specs.Hearing.{with_part}
use Rattle.kom_reader.specs.Words.{fits, choice_and, choice_of}

pub parts_step : (out : List Part) (group : Option ℕ) (xs : List MiscInfo) (i : ℕ) (d : MiscInfo) → i < length xs →
    out ++ parts_behind group (drop i xs)
    ≡ (out ++ part_by group (get_or xs i d)) ++ parts_behind (group_after group (get_or xs i d)) (drop (i + 1) xs)
parts_step out group xs i d within =
    ap (λ (ys : List Part). out ++ ys) (at_drop_more (parts_behind group) xs i d within)
    ∙ sym (append_assoc out (part_by group (get_or xs i d))
    (parts_behind (group_after group (get_or xs i d)) (drop (i + 1) xs)))

pub parts_end : (group : Option ℕ) (xs : List MiscInfo) (i : ℕ) → length xs ≤ i → parts_behind group (drop i xs) ≡ []
parts_end group xs i past = at_drop_all (parts_behind group) xs i past

-- the first one of several, if there is one
some_first : (out : List ℕ) (o : Option ℕ) (rest : List ℕ) →
    all_rising out (cons_option o rest) ≡ all_rising (all_rising out (option_to_list o)) rest
some_first out None rest = refl
some_first out (Some text) rest = refl

pub footnotes_step : (out : List ℕ) (xs : List MiscInfo) (i : ℕ) (d : MiscInfo) → i < length xs →
    all_rising out (filter_map footnote_in (drop i xs))
    ≡ all_rising (all_rising out (option_to_list (footnote_in (get_or xs i d))))
    (filter_map footnote_in (drop (i + 1) xs))
footnotes_step out xs i d within =
    at_drop_more (λ ys. all_rising out (filter_map footnote_in ys)) xs i d within
    ∙ some_first out (footnote_in (get_or xs i d)) (filter_map footnote_in (drop (i + 1) xs))

pub footnotes_end : (out : List ℕ) (xs : List MiscInfo) (i : ℕ) → length xs ≤ i →
    all_rising out (filter_map footnote_in (drop i xs)) ≡ out
footnotes_end out xs i past = at_drop_all (λ ys. all_rising out (filter_map footnote_in ys)) xs i past

pub comments_step : (out : List ℕ) (xs : List MiscInfo) (i : ℕ) (d : MiscInfo) → i < length xs →
    all_rising out (filter_map comment_in (drop i xs))
    ≡ all_rising (all_rising out (option_to_list (comment_in (get_or xs i d))))
    (filter_map comment_in (drop (i + 1) xs))
comments_step out xs i d within =
    at_drop_more (λ ys. all_rising out (filter_map comment_in ys)) xs i d within
    ∙ some_first out (comment_in (get_or xs i d)) (filter_map comment_in (drop (i + 1) xs))

pub comments_end : (out : List ℕ) (xs : List MiscInfo) (i : ℕ) → length xs ≤ i →
    all_rising out (filter_map comment_in (drop i xs)) ≡ out
comments_end out xs i past = at_drop_all (λ ys. all_rising out (filter_map comment_in ys)) xs i past

pub first_step : (c : ℕ) (first : Option Row) (xs : List Row) (i : ℕ) (d : Row) → i < length xs →
    fold lower first (filter (is_row_in c) (drop i xs))
    ≡ fold lower first (filter (is_row_in c) (get_or xs i d ∷ drop (i + 1) xs))
first_step c first xs i d within = at_drop_more (λ ys. fold lower first (filter (is_row_in c) ys)) xs i d within

pub first_end : (c : ℕ) (first : Option Row) (xs : List Row) (i : ℕ) → length xs ≤ i →
    fold lower first (filter (is_row_in c) (drop i xs)) ≡ first
first_end c first xs i past = at_drop_all (λ ys. fold lower first (filter (is_row_in c) ys)) xs i past

pub learned_step : (text : ℕ) (r : Reading) (xs : List Part) (i : ℕ) (d : Part) → i < length xs →
    fold (with_part text) r (drop i xs) ≡ fold (with_part text) (with_part text r (get_or xs i d)) (drop (i + 1) xs)
learned_step text r xs i d within = at_drop_more (λ ys. fold (with_part text) r ys) xs i d within

pub learned_end : (text : ℕ) (r : Reading) (xs : List Part) (i : ℕ) → length xs ≤ i →
    fold (with_part text) r (drop i xs) ≡ r
learned_end text r xs i past = at_drop_all (λ ys. fold (with_part text) r ys) xs i past

pub word_step : (typed : List ℕ) (choice : Choice) (xs : List Word) (i : ℕ) (d : Word) → i < length xs →
    fold choice_and choice (filter (fits typed) (drop i xs))
    ≡ fold choice_and choice (filter (fits typed) (get_or xs i d ∷ drop (i + 1) xs))
word_step typed choice xs i d within =
    at_drop_more (λ ys. fold choice_and choice (filter (fits typed) ys)) xs i d within

pub word_end : (typed : List ℕ) (choice : Choice) (xs : List Word) (i : ℕ) → length xs ≤ i →
    fold choice_and choice (filter (fits typed) (drop i xs)) ≡ choice
word_end typed choice xs i past = at_drop_all (λ ys. fold choice_and choice (filter (fits typed) ys)) xs i past

-- several stay several
several_stay : (ws : List Word) → fold choice_and choice.Several ws ≡ choice.Several
several_stay [] = refl
several_stay (w ∷ ws) = several_stay ws

pub choice_fold : (ws : List Word) → fold choice_and choice.None ws ≡ choice_of ws
choice_fold [] = refl
choice_fold (w ∷ []) = refl
choice_fold (w ∷ o ∷ ws) = several_stay ws
