-- The rule of an array reads exactly its spelling.
use Rattle.std.proofs.Common.{◌≡◌, ℕ, zero, suc, List, [], ◌∷◌, ◌++◌, length, refl, sym, ap, subst, ◌∙◌}
use Rattle.std.proofs.Common.{arith}
use Rattle.std.specs.List.{All, flat_map}
use Rattle.std.proofs.lemmas.List.Elements.{All-cons, All-nil}
use Rattle.kom_types.specs.Token.{Token, Digits, Text, Open, Close, Star, Signed}
use Rattle.kom_types.specs.calls.Arguments.{Taken, Took, then, elements, close_array}
use Rattle.kom_types.specs.spellings.Words.{Words}
use Rattle.kom_types.specs.spellings.Words as words
use Rattle.kom_records.specs.Fits.{IsNumber, AreFit}
use Rattle.kom_records.specs.Rules.{array, array_of}
use Rattle.kom_records.specs.Words.{token_of_word, tokens_of_words}
use Rattle.kom_records.proofs.Spelled.{IsSpelled, step, onward, glue, split, took_same, passed}
use Rattle.kom_records.proofs.Values.{number_is}
use Rattle.kom_records.proofs.WordTokens.{word_open, word_close, word_star}

module _ {X : Type 0} (reads : List Token → Taken X) (spells : X → Words) (Is : X → Type 0)
    (rule : IsSpelled reads spells Is) where
  -- the elements
  elements_back : (values : List X) (tail : List Token) → All Is values →
      elements reads (length values) (tokens_of_words (flat_map spells values) ++ tail) ≡ Took values tail
  elements_back [] tail fits = refl
  elements_back (value ∷ values) tail fits =
      let rest = tokens_of_words (flat_map spells values) ++ tail in
      let next : X → List Token → Taken (List X) = λ one t.
      then (elements reads (length values) t) (λ others. Took (one ∷ others)) in
      ap (λ t. then (reads t) next) (split (spells value) (flat_map spells values) tail)
      ∙ onward rule value rest next _ (fits 0 value (omega arith))
      (ap (λ taken. then taken (λ others. Took (value ∷ others)))
      (elements_back values tail (λ k d h. fits (suc k) d (omega arith))))

  record Elements (count : ℕ) (values : List X) (tokens tail : List Token) : Type 0 where
    long : length values ≡ count
    fits : All Is values
    is : tokens ≡ tokens_of_words (flat_map spells values) ++ tail

  elements_from : (count : ℕ) (values : List X) (tokens tail : List Token) →
      elements reads count tokens ≡ Took values tail → Elements count values tokens tail
  elements_from zero values tokens tail is =
      let same = took_same [] values tokens tail is in
      subst (λ vs. Elements zero vs tokens tail) same.0
      (record { long = refl; fits = All-nil Is; is = same.1 })
  elements_from (suc count) values tokens tail is =
      let one = step rule tokens _ values tail is in
      let more = passed (elements reads count one.mid) (λ others. Took (one.value ∷ others)) values tail one.rest in
      let rest = elements_from count more.value one.mid more.mid more.first in
      let same = took_same (one.value ∷ more.value) values more.mid tail more.rest in
      subst (λ vs. Elements (suc count) vs tokens tail) same.0
      (record {
        long = ap suc rest.long;
        fits = All-cons Is one.value more.value one.fits rest.fits;
        is = glue (spells one.value) tokens one.mid _ one.is (rest.is
            ∙ ap (λ t. tokens_of_words (flat_map spells more.value) ++ t) same.1)
            ∙ sym (split (spells one.value) (flat_map spells more.value) tail);
      })

  -- the braces
  array_of_back : (value : X) (values : List X) (tail : List Token) → All Is (value ∷ values) →
      array_of reads (suc (length values))
      (tokens_of_words ((123 ∷ []) ∷ (flat_map spells (value ∷ values) ++ (125 ∷ []) ∷ [])) ++ tail)
      ≡ Took (value ∷ values) tail
  array_of_back value values tail fits =
      let all = value ∷ values in
      let inside = tokens_of_words (flat_map spells all ++ (125 ∷ []) ∷ []) ++ tail in
      ap (λ token. array_of reads (suc (length values)) (token ∷ inside)) word_open
      ∙ ap (λ t. then (elements reads (length all) t) close_array) (split (flat_map spells all) ((125 ∷ []) ∷ []) tail)
      ∙ ap (λ taken. then taken close_array) (elements_back all (token_of_word (125 ∷ []) ∷ tail) fits)
      ∙ ap (λ token. close_array all (token ∷ tail)) word_close

  array_back : (values : List X) (tail : List Token) → AreFit Is values →
      array reads (tokens_of_words (words.array spells values) ++ tail) ≡ Took values tail
  array_back [] tail fits =
      onward number_is 0 (token_of_word (42 ∷ []) ∷ tail) (array_of reads) _ (omega arith)
      (ap (λ token. array_of reads 0 (token ∷ tail)) word_star)
  array_back (value ∷ values) tail fits =
      onward number_is (length (value ∷ values)) _ (array_of reads) _ fits.0
      (array_of_back value values tail fits.1)

  closed_from : (found values : List X) (tokens tail : List Token) → close_array found tokens ≡ Took values tail →
      (found ≡ values) × (tokens ≡ token_of_word (125 ∷ []) ∷ tail)
  closed_from found values [] tail is = cc
  closed_from found values (Digits digits ∷ tokens) tail is = cc
  closed_from found values (Text bytes ∷ tokens) tail is = cc
  closed_from found values (Open ∷ tokens) tail is = cc
  closed_from found values (Close ∷ tokens) tail is =
      let same = took_same found values tokens tail is in
      (same.0, rw (word_close, same.1) refl)
  closed_from found values (Star ∷ tokens) tail is = cc
  closed_from found values (Signed sign digits ∷ tokens) tail is = cc

  -- what is in braces is some values that are spelled
  record Braced (count : ℕ) (values : List X) (tokens tail : List Token) : Type 0 where
    long : length values ≡ count
    fits : All Is values
    is : tokens ≡ tokens_of_words (flat_map spells values ++ (125 ∷ []) ∷ []) ++ tail

  braced : (count : ℕ) (values : List X) (tokens tail : List Token) →
      then (elements reads count tokens) close_array ≡ Took values tail → Braced count values tokens tail
  braced count values tokens tail is =
      let inside = passed (elements reads count tokens) close_array values tail is in
      let found = elements_from count inside.value tokens inside.mid inside.first in
      let last = closed_from inside.value values inside.mid tail inside.rest in
      subst (λ vs. Braced count vs tokens tail) last.0
      (record {
        long = found.long;
        fits = found.fits;
        is = found.is ∙ ap (λ t. tokens_of_words (flat_map spells inside.value) ++ t) last.1
            ∙ sym (split (flat_map spells inside.value) ((125 ∷ []) ∷ []) tail);
      })

  record Array (count : ℕ) (values : List X) (tokens tail : List Token) : Type 0 where
    long : length values ≡ count
    fits : All Is values
    is : tokens_of_words (words.number count) ++ tokens ≡ tokens_of_words (words.array spells values) ++ tail

  in_braces : (count : ℕ) (values : List X) (tokens tail : List Token) → Braced (suc count) values tokens tail →
      Array (suc count) values (Open ∷ tokens) tail
  in_braces count [] tokens tail found = absurd (omega (arith, found.long))
  in_braces count (value ∷ values) tokens tail found = record {
    long = found.long;
    fits = found.fits;
    is = ap (λ t. tokens_of_words (words.number (suc count)) ++ t)
        (ap (λ token. token ∷ tokens) (sym word_open) ∙ ap (λ t. token_of_word (123 ∷ []) ∷ t) found.is)
        ∙ ap (λ n. tokens_of_words (words.number n)
        ++ (token_of_word (123 ∷ []) ∷ (tokens_of_words (flat_map spells (value ∷ values) ++ (125 ∷ []) ∷ []) ++ tail)))
        (sym found.long);
  }

  array_of_from : (count : ℕ) (values : List X) (tokens tail : List Token) →
      array_of reads count tokens ≡ Took values tail → Array count values tokens tail
  array_of_from zero values [] tail is = cc
  array_of_from zero values (Digits digits ∷ tokens) tail is = cc
  array_of_from zero values (Text bytes ∷ tokens) tail is = cc
  array_of_from zero values (Open ∷ tokens) tail is = cc
  array_of_from zero values (Close ∷ tokens) tail is = cc
  array_of_from zero values (Star ∷ tokens) tail is =
      let same = took_same [] values tokens tail is in
      subst (λ vs. Array 0 vs (Star ∷ tokens) tail) same.0
      (record {
        long = refl;
        fits = All-nil Is;
        is = ap (λ token. tokens_of_words (words.number 0) ++ (token ∷ tokens)) (sym word_star)
            ∙ ap (λ t. tokens_of_words (words.number 0) ++ (token_of_word (42 ∷ []) ∷ t)) same.1;
      })
  array_of_from zero values (Signed sign digits ∷ tokens) tail is = cc
  array_of_from (suc count) values [] tail is = cc
  array_of_from (suc count) values (Digits digits ∷ tokens) tail is = cc
  array_of_from (suc count) values (Text bytes ∷ tokens) tail is = cc
  array_of_from (suc count) values (Open ∷ tokens) tail is =
      in_braces count values tokens tail (braced (suc count) values tokens tail is)
  array_of_from (suc count) values (Close ∷ tokens) tail is = cc
  array_of_from (suc count) values (Star ∷ tokens) tail is = cc
  array_of_from (suc count) values (Signed sign digits ∷ tokens) tail is = cc

  array_from : (tokens tail : List Token) (values : List X) → array reads tokens ≡ Took values tail →
      AreFit Is values × (tokens ≡ tokens_of_words (words.array spells values) ++ tail)
  array_from tokens tail values is =
      let one = step number_is tokens (array_of reads) values tail is in
      let found = array_of_from one.value values one.mid tail one.rest in
      ((subst IsNumber (sym found.long) one.fits, found.fits), one.is ∙ found.is)

  pub array_is : IsSpelled (array reads) (words.array spells) (AreFit Is)
  array_is = record { back = array_back; forth = array_from }
