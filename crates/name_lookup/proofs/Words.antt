-- The letters of a name are those of its words, and a pattern finds by letters what it finds by words.
use Rattle.std.proofs.Common.{◌≡◌, ℕ, Bool, true, false, cond, ◌&&◌, eqb, List, [], ◌∷◌, ◌++◌, map, refl, sym, ap, ap₂}
use Rattle.std.proofs.Common.{append-nil, Option, Some, None, MatchOption, is_some, ◌∙◌, true≢false, arith, one-add}
use Rattle.std.proofs.Common.{add-one, append_assoc}
use Rattle.std.specs.List.{AllByRecursion, starts_with}
use Rattle.std.proofs.lemmas.Bool.Decides.{nat_tests}
use Rattle.kom_types.specs.ByteKind.{is_blank}
use Rattle.kom_types.specs.Names.{fold, outside, with_word, words_after, words_of, are_prefixes, are_some, finds}
use Rattle.name_lookup.specs.Letters.{word_end, letters, letters_of, after_word, matches}

-- ---- the letters of words
abbrev joined : List (List ℕ) → List ℕ
joined [] = []
joined (word ∷ words) = word ++ (32 ∷ joined words)

abbrev pub is_begun : List ℕ → Bool
is_begun [] = false
is_begun (letter ∷ word) = true

is_begun-push : (word : List ℕ) (letter : ℕ) → is_begun (word ++ letter ∷ []) ≡ true
is_begun-push [] letter = refl
is_begun-push (first ∷ word) letter = refl

joined-with_word : (word : List ℕ) (words : List (List ℕ)) →
    joined (with_word word words) ≡ word ++ (word_end (is_begun word) ++ joined words)
joined-with_word [] words = refl
joined-with_word (letter ∷ word) words = refl

joined-words_after : (word bytes : List ℕ) → joined (words_after word bytes) ≡ word ++ letters (is_begun word) bytes
joined-words_after word [] = joined-with_word word []
    ∙ ap (λ rest. word ++ rest) (append-nil (word_end (is_begun word)))
joined-words_after word (byte ∷ bytes) = by (λ begun. joined-words_after begun bytes) (is_blank byte)
  where
    by : ((begun : List ℕ) → joined (words_after begun bytes) ≡ begun ++ letters (is_begun begun) bytes) →
        (blank : Bool) →
        joined (cond blank (with_word word (words_after [] bytes)) (words_after (word ++ byte ∷ []) bytes))
        ≡ word ++ cond blank (word_end (is_begun word) ++ letters false bytes) (byte ∷ letters true bytes)
    by rest true =
        joined-with_word word (words_after [] bytes)
        ∙ ap (λ more. word ++ (word_end (is_begun word) ++ more)) (rest [])
    by rest false =
        rest (word ++ byte ∷ [])
        ∙ ap (λ begun. (word ++ byte ∷ []) ++ letters begun bytes) (is_begun-push word byte)
        ∙ append_assoc word (byte ∷ []) (letters true bytes)

letters_of-joined : (name : List ℕ) → joined (words_of name) ≡ letters_of name
letters_of-joined name = joined-words_after [] (outside false (map fold name))

-- ---- words have letters, and no blank among them
abbrev pub HasNoBlank : List ℕ → Type 0
HasNoBlank word = AllByRecursion (λ letter. eqb letter 32 ≡ false) word

abbrev AreWords : List (List ℕ) → Type 0
AreWords [] = Unit {0}
AreWords (word ∷ words) = (is_begun word ≡ true) × HasNoBlank word × AreWords words

HasNoBlank-push : (word : List ℕ) (letter : ℕ) → HasNoBlank word → eqb letter 32 ≡ false →
    HasNoBlank (word ++ letter ∷ [])
HasNoBlank-push [] letter none here = (here, tt)
HasNoBlank-push (first ∷ word) letter none here = (none.0, HasNoBlank-push word letter none.1 here)

no_space : (byte : ℕ) → is_blank byte ≡ false → eqb byte 32 ≡ false
no_space byte other = grind (arith, nat_tests)

AreWords-with_word : (word : List ℕ) (words : List (List ℕ)) → HasNoBlank word → AreWords words →
    AreWords (with_word word words)
AreWords-with_word [] words none are = are
AreWords-with_word (letter ∷ word) words none are = (refl, none, are)

AreWords-words_after : (word bytes : List ℕ) → HasNoBlank word → AreWords (words_after word bytes)
AreWords-words_after word [] none = AreWords-with_word word [] none tt
AreWords-words_after word (byte ∷ bytes) none =
    by (λ begun. AreWords-words_after begun bytes) (is_blank byte) refl
  where
    by : ((begun : List ℕ) → HasNoBlank begun → AreWords (words_after begun bytes)) →
        (blank : Bool) → is_blank byte ≡ blank →
        AreWords (cond blank (with_word word (words_after [] bytes)) (words_after (word ++ byte ∷ []) bytes))
    by rest true is = AreWords-with_word word (words_after [] bytes) none (rest [] tt)
    by rest false is = rest (word ++ byte ∷ []) (HasNoBlank-push word byte none (no_space byte is))

is_begun-joined : (words : List (List ℕ)) → AreWords words → is_begun (joined words) ≡ are_some words
is_begun-joined [] are = refl
is_begun-joined ([] ∷ words) are = absurd (true≢false (sym are.0))
is_begun-joined ((letter ∷ word) ∷ words) are = refl

pub are_some-words_of : (name : List ℕ) → is_begun (letters_of name) ≡ are_some (words_of name)
are_some-words_of name =
    sym (ap is_begun (letters_of-joined name))
    ∙ is_begun-joined (words_of name) (AreWords-words_after [] (outside false (map fold name)) tt)

-- a walk of letters says with its first answer whether there are any
pub begins : (before after : List ℕ) (first : Option ℕ) →
    MatchOption first ((before ≡ []) × (after ≡ [])) (λ letter. before ≡ letter ∷ after) →
    is_some first ≡ is_begun before
begins before after None gives = sym (ap is_begun gives.0)
begins before after (Some letter) gives = sym (ap is_begun gives)

-- ---- a pattern by its letters
pub after_word-joined : (word rest : List ℕ) → HasNoBlank word → after_word (word ++ (32 ∷ rest)) ≡ rest
after_word-joined [] rest none = refl
after_word-joined (letter ∷ word) rest none =
    let here : eqb letter 32 ≡ false = none.0 in
    let rest' = after_word-joined word rest none.1 in
    rw (here, one-add, add-one) (rw add-one at rest')

pub after_word-none : (letters : List ℕ) → HasNoBlank letters → after_word letters ≡ []
after_word-none [] none = refl
after_word-none (letter ∷ letters) none =
    let here : eqb letter 32 ≡ false = none.0 in
    let rest = after_word-none letters none.1 in
    rw (here, one-add, add-one) (rw add-one at rest)

matches-word : (word pattern held name : List ℕ) → HasNoBlank word → HasNoBlank held →
    matches (word ++ (32 ∷ pattern)) (held ++ (32 ∷ name)) ≡ (starts_with eqb held word && matches pattern name)
matches-word [] pattern held name none none' = ap (matches pattern) (after_word-joined held name none')
matches-word (letter ∷ word) pattern [] name none none' =
    let here : eqb letter 32 ≡ false = none.0 in
    let there : eqb 32 letter ≡ false = grind (arith, nat_tests) in
    rw (here, there) refl
matches-word (letter ∷ word) pattern (first ∷ held) name none none' =
    let here : eqb letter 32 ≡ false = none.0 in
    let rest = matches-word word pattern held name none.1 none'.1 in
    let flip : eqb first letter ≡ eqb letter first = grind (arith, nat_tests) in
    rw (here, rest, flip) (grind arith)

matches-joined : (words held : List (List ℕ)) → AreWords words → AreWords held →
    matches (joined words) (joined held) ≡ are_prefixes words held
matches-joined [] held are are' = refl
matches-joined ([] ∷ words) held are are' = absurd (true≢false (sym are.0))
matches-joined ((letter ∷ word) ∷ words) [] are are' =
    let here : eqb letter 32 ≡ false = are.1.0 in rw here refl
matches-joined ((letter ∷ word) ∷ words) (held ∷ others) are are' =
    matches-word (letter ∷ word) (joined words) held (joined others) are.1 are'.1
    ∙ ap (λ rest. starts_with eqb held (letter ∷ word) && rest) (matches-joined words others are.2 are'.2)

pub finds-letters : (pattern name : List ℕ) → finds pattern name ≡ matches (letters_of pattern) (letters_of name)
unfolding finds
finds-letters pattern name =
    sym (matches-joined (words_of pattern) (words_of name)
    (AreWords-words_after [] (outside false (map fold pattern)) tt)
    (AreWords-words_after [] (outside false (map fold name)) tt))
    ∙ ap₂ matches (letters_of-joined pattern) (letters_of-joined name)
