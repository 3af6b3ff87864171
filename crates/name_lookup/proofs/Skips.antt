-- Which names a pattern cannot find after one at which it was looked, by letters.
use Rattle.std.proofs.Common.{◌≡◌, ℕ, ◌<◌, ◌≤◌, ◌⊎◌, Bool, true, false, cond, ◌&&◌, eqb, ltb, List, [], ◌∷◌, ◌++◌}
use Rattle.std.proofs.Common.{length, take, is_lt, nat_cmp, Less, Equal, Greater, refl, sym, ap, subst, ◌∙◌, zero, suc}
use Rattle.std.proofs.Common.{inl, inr, true≢false, arith, append_assoc, length-append}
use Rattle.std.proofs.lemmas.Bool.{and_parts, cases_Bool, cases_order, cases_lt, eqb-true, eq-eqb, ne_eqb, lt-ltb}
use Rattle.std.proofs.lemmas.Bool.{le-ltb, false_from_ne_true}
use Rattle.std.proofs.lemmas.Cmp.{lists_total, nat_cmp_total, tied_itself}
use Rattle.name_lookup.specs.Letters.{after_word, first_word, through_word, ends_word, matches}
use Rattle.std.proofs.lemmas.List.{take_all, take-append-le}
use Rattle.name_lookup.specs.declared.steps.Step.TheVariants.{Found, Seek, End}
use Rattle.name_lookup.specs.Steps.{NoneUpTo, NoneFrom, IsStepOf}
use Rattle.name_lookup.specs.Order.{letters_cmp}
use Rattle.name_lookup.proofs.Words.{HasNoBlank, after_word-joined, after_word-none}

-- ---- letters in order
abbrev lt : List ℕ → List ℕ → Bool
lt low high = is_lt (letters_cmp low high)

not_below_itself : (xs : List ℕ) → lt xs xs ≡ false
not_below_itself xs = ap is_lt (tied_itself (lists_total nat_cmp_total) xs)

less : (x y : ℕ) → x < y → nat_cmp x y ≡ Less
less x y below = rw (lt-ltb x y below) refl

same : (x y : ℕ) → x ≡ y → nat_cmp x y ≡ Equal
same x y is = rw (le-ltb x y (omega arith), eq-eqb x y is) refl

greater : (x y : ℕ) → y < x → nat_cmp x y ≡ Greater
greater x y above = rw (le-ltb x y (omega arith), ne_eqb x y (λ e. omega arith)) refl

-- what is between two lists with one first letter has it too
pub head_between : (letter : ℕ) (low high xs : List ℕ) → lt xs (letter ∷ low) ≡ false → lt xs (letter ∷ high) ≡ true →
    (rest : List ℕ) × (xs ≡ letter ∷ rest) × (lt rest low ≡ false) × (lt rest high ≡ true)
head_between letter low high [] from upto = absurd (true≢false from)
head_between letter low high (x ∷ xs) from upto = by (cases_order x letter)
  where
    by : (x ≡ letter) ⊎ ((x < letter) ⊎ (letter < x)) →
        (rest : List ℕ) × (x ∷ xs ≡ letter ∷ rest) × (lt rest low ≡ false) × (lt rest high ≡ true)
    by (inl is) =
        (xs, ap (λ l. l ∷ xs) is, rw (same x letter is) at from, rw (same x letter is) at upto)
    by (inr (inl below)) = absurd (true≢false (rw (less x letter below) at from))
    by (inr (inr above)) = absurd (true≢false (sym (rw (greater x letter above) at upto)))

between : (word low high xs : List ℕ) → lt xs (word ++ (32 ∷ low)) ≡ false → lt xs (word ++ (32 ∷ high)) ≡ true →
    (rest : List ℕ) × (xs ≡ word ++ (32 ∷ rest)) × (lt rest low ≡ false) × (lt rest high ≡ true)
between [] low high xs from upto = head_between 32 low high xs from upto
between (letter ∷ word) low high xs from upto =
    let head = head_between letter (word ++ (32 ∷ low)) (word ++ (32 ∷ high)) xs from upto in
    let tail = between word low high head.0 head.2 head.3 in
    (tail.0, head.1 ∙ ap (λ l. letter ∷ l) tail.1, tail.2, tail.3)

-- what is from letters and a blank on, and below those letters and what comes next after a blank
below_next : (low xs : List ℕ) → lt xs (32 ∷ low) ≡ false → lt xs (33 ∷ []) ≡ true →
    (rest : List ℕ) × (xs ≡ 32 ∷ rest) × (lt rest low ≡ false)
below_next low [] from upto = absurd (true≢false from)
below_next low (x ∷ xs) from upto = by (cases_order x 32) (cases_order x 33)
  where
    none_below : (ys : List ℕ) → lt ys [] ≡ false
    none_below [] = refl
    none_below (y ∷ ys) = refl

    by : (x ≡ 32) ⊎ ((x < 32) ⊎ (32 < x)) → (x ≡ 33) ⊎ ((x < 33) ⊎ (33 < x)) →
        (rest : List ℕ) × (x ∷ xs ≡ 32 ∷ rest) × (lt rest low ≡ false)
    by (inl is) other = (xs, ap (λ l. l ∷ xs) is, rw (same x 32 is) at from)
    by (inr (inl below)) other = absurd (true≢false (rw (less x 32 below) at from))
    by (inr (inr above)) (inl is) =
        absurd (true≢false (sym (rw (same x 33 is) at upto) ∙ none_below xs))
    by (inr (inr above)) (inr (inl below)) = absurd (omega arith)
    by (inr (inr above)) (inr (inr high)) = absurd (true≢false (sym (rw (greater x 33 high) at upto)))

within_word : (word low xs : List ℕ) → lt xs (word ++ (32 ∷ low)) ≡ false → lt xs (word ++ (33 ∷ [])) ≡ true →
    (rest : List ℕ) × (xs ≡ word ++ (32 ∷ rest)) × (lt rest low ≡ false)
within_word [] low xs from upto = below_next low xs from upto
within_word (letter ∷ word) low xs from upto =
    let head = head_between letter (word ++ (32 ∷ low)) (word ++ (33 ∷ [])) xs from upto in
    let tail = within_word word low head.0 head.2 head.3 in
    (tail.0, head.1 ∙ ap (λ l. letter ∷ l) tail.1, tail.2)

-- what begins with a letter or a later one
from_letter : (letter : ℕ) (low xs : List ℕ) → lt xs (letter ∷ low) ≡ false →
    (first : ℕ) × ((rest : List ℕ) × ((xs ≡ first ∷ rest)
    × ((letter < first) ⊎ ((first ≡ letter) × (lt rest low ≡ false)))))
from_letter letter low [] from = absurd (true≢false from)
from_letter letter low (x ∷ xs) from = by (cases_order x letter)
  where
    by : (x ≡ letter) ⊎ ((x < letter) ⊎ (letter < x)) → (first : ℕ) × ((rest : List ℕ) × ((x ∷ xs ≡ first ∷ rest)
        × ((letter < first) ⊎ ((first ≡ letter) × (lt rest low ≡ false)))))
    by (inl is) = (x, (xs, (refl, inr (is, rw (same x letter is) at from))))
    by (inr (inl below)) = absurd (true≢false (rw (less x letter below) at from))
    by (inr (inr above)) = (x, (xs, (refl, inl above)))

-- ---- the first word of letters
HasNoBlank-first_word : (letters : List ℕ) → HasNoBlank (first_word letters)
HasNoBlank-first_word [] = tt
HasNoBlank-first_word (letter ∷ letters) =
    by (eqb letter 32) refl (HasNoBlank-first_word letters)
  where
    by : (blank : Bool) → eqb letter 32 ≡ blank → HasNoBlank (first_word letters) →
        HasNoBlank (cond blank [] (letter ∷ first_word letters))
    by true is rest = tt
    by false is rest = (is, rest)

abbrev rest_of : List ℕ → List ℕ
rest_of [] = []
rest_of (letter ∷ letters) = cond (eqb letter 32) letters (rest_of letters)

word_and_rest : (letters : List ℕ) → ends_word letters ≡ true → letters ≡ first_word letters ++ (32 ∷ rest_of letters)
word_and_rest [] ends = absurd (true≢false (sym ends))
word_and_rest (letter ∷ letters) ends = by (word_and_rest letters) (cases_Bool (eqb letter 32))
  where
    by : (ends_word letters ≡ true → letters ≡ first_word letters ++ (32 ∷ rest_of letters)) →
        (eqb letter 32 ≡ true) ⊎ (eqb letter 32 ≡ false) →
        letter ∷ letters ≡ first_word (letter ∷ letters) ++ (32 ∷ rest_of (letter ∷ letters))
    by rest (inl is) = rw is (ap (λ l. l ∷ letters) (eqb-true letter 32 is))
    by rest (inr other) = rw other (ap (λ l. letter ∷ l) (rest (rw other at ends)))

pub word_and_after : (letters : List ℕ) → ends_word letters ≡ true →
    letters ≡ first_word letters ++ (32 ∷ after_word letters)
word_and_after letters ends =
    let split = word_and_rest letters ends in
    let rest : after_word letters ≡ rest_of letters =
    ap after_word split ∙ after_word-joined (first_word letters) (rest_of letters) (HasNoBlank-first_word letters) in
    split ∙ ap (λ l. first_word letters ++ (32 ∷ l)) (sym rest)

pub through_word-ended : (letters : List ℕ) → ends_word letters ≡ true →
    through_word letters ≡ first_word letters ++ 32 ∷ []
through_word-ended [] ends = absurd (true≢false (sym ends))
through_word-ended (letter ∷ letters) ends = by (through_word-ended letters) (cases_Bool (eqb letter 32))
  where
    by : (ends_word letters ≡ true → through_word letters ≡ first_word letters ++ 32 ∷ []) →
        (eqb letter 32 ≡ true) ⊎ (eqb letter 32 ≡ false) →
        through_word (letter ∷ letters) ≡ first_word (letter ∷ letters) ++ 32 ∷ []
    by rest (inl is) = rw is (ap (λ l. l ∷ []) (eqb-true letter 32 is))
    by rest (inr other) = rw other (ap (λ l. letter ∷ l) (rest (rw other at ends)))

pub through_word-all : (letters : List ℕ) → ends_word letters ≡ false → through_word letters ≡ letters
through_word-all [] ends = refl
through_word-all (letter ∷ letters) ends = by (through_word-all letters) (cases_Bool (eqb letter 32))
  where
    by : (ends_word letters ≡ false → through_word letters ≡ letters) →
        (eqb letter 32 ≡ true) ⊎ (eqb letter 32 ≡ false) → through_word (letter ∷ letters) ≡ letter ∷ letters
    by rest (inl is) = absurd (true≢false (rw is at ends))
    by rest (inr other) = rw other (ap (λ l. letter ∷ l) (rest (rw other at ends)))

no_blank : (letters : List ℕ) → ends_word letters ≡ false → HasNoBlank letters
no_blank [] ends = tt
no_blank (letter ∷ letters) ends = by (no_blank letters) (cases_Bool (eqb letter 32))
  where
    by : (ends_word letters ≡ false → HasNoBlank letters) → (eqb letter 32 ≡ true) ⊎ (eqb letter 32 ≡ false) →
        HasNoBlank (letter ∷ letters)
    by rest (inl is) = absurd (true≢false (rw is at ends))
    by rest (inr other) = (other, rest (rw other at ends))

-- what a pattern finds is not below its first word
found_from : (pattern name : List ℕ) → matches pattern name ≡ true → lt name (first_word pattern) ≡ false
found_from [] [] found = refl
found_from [] (letter ∷ name) found = refl
found_from (asked ∷ pattern) name found = by (found_from pattern) (cases_Bool (eqb asked 32)) name found
  where
    by : ((held : List ℕ) → matches pattern held ≡ true → lt held (first_word pattern) ≡ false) →
        (eqb asked 32 ≡ true) ⊎ (eqb asked 32 ≡ false) → (held : List ℕ) → matches (asked ∷ pattern) held ≡ true →
        lt held (first_word (asked ∷ pattern)) ≡ false
    by rest (inl blank) [] hit = rw blank refl
    by rest (inl blank) (letter ∷ held) hit = rw blank refl
    by rest (inr other) [] hit = absurd (true≢false (sym (rw other at hit)))
    by rest (inr other) (letter ∷ held) hit =
        let parts = and_parts (eqb letter asked) (matches pattern held) (rw other at hit) in
        rw (other, same letter asked (eqb-true letter asked parts.0)) (rest held parts.1)

-- ---- what a look at a name tells
pub data Skip : Type 0 where
  Hit : Skip
  To : List ℕ → Skip
  Past : Skip

-- after a letter; and after a word with its blank
abbrev pub bump : ℕ → Skip → Skip
bump letter Hit = Hit
bump letter (To target) = To (letter ∷ target)
bump letter Past = Past

abbrev pub over : List ℕ → Skip → Skip
over word Hit = Hit
over word (To target) = To (word ++ (32 ∷ target))
over word Past = To (word ++ 33 ∷ [])

abbrev pub at_blank : List ℕ → (List ℕ → Skip) → List ℕ → Skip
at_blank pattern next name =
    cond (ends_word name) (over (first_word name) (next (after_word name)))
    (cond (matches pattern []) Hit (To name))

abbrev pub at_letter : ℕ → List ℕ → (List ℕ → Skip) → List ℕ → Skip
at_letter asked word next [] = To word
at_letter asked word next (letter ∷ name) =
    cond (eqb letter asked) (bump letter (next name)) (cond (ltb asked letter) Past (To word))

abbrev pub skip : List ℕ → List ℕ → Skip
skip [] name = Hit
skip (asked ∷ pattern) name =
    cond (eqb asked 32) (at_blank pattern (skip pattern) name)
    (at_letter asked (first_word (asked ∷ pattern)) (skip pattern) name)

abbrev pub Holds : Skip → List ℕ → List ℕ → Type 0
Holds Hit pattern name = matches pattern name ≡ true
Holds (To target) pattern name = (matches pattern name ≡ false) × NoneUpTo pattern name target
Holds Past pattern name = NoneFrom pattern name

module _ (asked : ℕ) (pattern : List ℕ) (blank : eqb asked 32 ≡ true) where
  at_word : (name : List ℕ) → matches (asked ∷ pattern) name ≡ matches pattern (after_word name)
  at_word name = rw blank refl

  -- a name of the word and others
  at_joined : (word rest : List ℕ) → HasNoBlank word →
      matches (asked ∷ pattern) (word ++ (32 ∷ rest)) ≡ matches pattern rest
  at_joined word rest none =
      at_word (word ++ (32 ∷ rest)) ∙ ap (matches pattern) (after_word-joined word rest none)

  over_holds : (word rest : List ℕ) (told : Skip) → HasNoBlank word → Holds told pattern rest →
      Holds (over word told) (asked ∷ pattern) (word ++ (32 ∷ rest))
  over_holds word rest Hit none holds = at_joined word rest none ∙ holds
  over_holds word rest (To target) none holds = (
    at_joined word rest none ∙ holds.0,
    λ other from upto. let x = between word rest target other from upto in
        ap (matches (asked ∷ pattern)) x.1 ∙ at_joined word x.0 none ∙ holds.1 x.0 x.2 x.3,
  )
  over_holds word rest Past none holds = (
    at_joined word rest none ∙ holds rest (not_below_itself rest),
    λ other from upto. let x = within_word word rest other from upto in
        ap (matches (asked ∷ pattern)) x.1 ∙ at_joined word x.0 none ∙ holds x.0 x.2,
  )

  blank_holds : (name : List ℕ) → ((rest : List ℕ) → Holds (skip pattern rest) pattern rest) →
      Holds (at_blank pattern (skip pattern) name) (asked ∷ pattern) name
  blank_holds name later = by (cases_Bool (ends_word name))
    where
      ended : ends_word name ≡ true →
          Holds (over (first_word name) (skip pattern (after_word name))) (asked ∷ pattern) name
      ended ends =
          let split = word_and_after name ends in
          let P : List ℕ → Type 0 =
          λ n. Holds (over (first_word name) (skip pattern (after_word name))) (asked ∷ pattern) n in
          subst P (sym split)
          (over_holds (first_word name) (after_word name) (skip pattern (after_word name)) (HasNoBlank-first_word name)
          (later (after_word name)))

      open_ended : ends_word name ≡ false → (all : Bool) → matches pattern [] ≡ all →
          Holds (cond all Hit (To name)) (asked ∷ pattern) name
      open_ended ends true is =
          at_word name ∙ ap (matches pattern) (after_word-none name (no_blank name ends)) ∙ is
      open_ended ends false is = (
        at_word name ∙ ap (matches pattern) (after_word-none name (no_blank name ends)) ∙ is,
        λ other from upto. absurd (true≢false (sym upto ∙ from)),
      )

      by : (ends_word name ≡ true) ⊎ (ends_word name ≡ false) →
          Holds (at_blank pattern (skip pattern) name) (asked ∷ pattern) name
      by (inl ends) = rw ends (ended ends)
      by (inr unended) = rw unended (open_ended unended (matches pattern []) refl)

module _ (asked : ℕ) (pattern : List ℕ) (letter_asked : eqb asked 32 ≡ false) where
  at_first : (letter : ℕ) (name : List ℕ) →
      matches (asked ∷ pattern) (letter ∷ name) ≡ (eqb letter asked && matches pattern name)
  at_first letter name = rw letter_asked refl

  at_none : matches (asked ∷ pattern) [] ≡ false
  at_none = rw letter_asked refl

  at_same : (letter : ℕ) (name : List ℕ) → eqb letter asked ≡ true →
      matches (asked ∷ pattern) (letter ∷ name) ≡ matches pattern name
  at_same letter name is = at_first letter name ∙ rw is refl

  at_other : (letter : ℕ) (name : List ℕ) → eqb letter asked ≡ false →
      matches (asked ∷ pattern) (letter ∷ name) ≡ false
  at_other letter name other = at_first letter name ∙ rw other refl

  none_before : (name : List ℕ) → NoneUpTo (asked ∷ pattern) name (first_word (asked ∷ pattern))
  none_before name other from upto =
      false_from_ne_true (matches (asked ∷ pattern) other) (λ hit.
      true≢false (sym upto ∙ found_from (asked ∷ pattern) other hit))

  bump_holds : (letter : ℕ) (name : List ℕ) (told : Skip) → eqb letter asked ≡ true → Holds told pattern name →
      Holds (bump letter told) (asked ∷ pattern) (letter ∷ name)
  bump_holds letter name Hit is holds = at_same letter name is ∙ holds
  bump_holds letter name (To target) is holds = (
    at_same letter name is ∙ holds.0,
    λ other from upto. let x = head_between letter name target other from upto in
        ap (matches (asked ∷ pattern)) x.1 ∙ at_same letter x.0 is ∙ holds.1 x.0 x.2 x.3,
  )
  bump_holds letter name Past is holds =
      λ other from. let x = from_letter letter name other from in
      ap (matches (asked ∷ pattern)) x.1.1.0 ∙ by x.0 x.1.0 x.1.1.1
    where
      by : (first : ℕ) (rest : List ℕ) → (letter < first) ⊎ ((first ≡ letter) × (lt rest name ≡ false)) →
          matches (asked ∷ pattern) (first ∷ rest) ≡ false
      by first rest (inl above) =
          let held : letter ≡ asked = eqb-true letter asked is in
          at_other first rest (ne_eqb first asked (λ e. omega arith))
      by first rest (inr itself) =
          at_same first rest (ap (λ l. eqb l asked) itself.0 ∙ is) ∙ holds rest itself.1

  past_holds : (letter : ℕ) (name : List ℕ) → asked < letter → NoneFrom (asked ∷ pattern) (letter ∷ name)
  past_holds letter name above other from =
      let x = from_letter letter name other from in
      ap (matches (asked ∷ pattern)) x.1.1.0 ∙ by x.0 x.1.0 x.1.1.1
    where
      by : (first : ℕ) (rest : List ℕ) → (letter < first) ⊎ ((first ≡ letter) × (lt rest name ≡ false)) →
          matches (asked ∷ pattern) (first ∷ rest) ≡ false
      by first rest (inl higher) = at_other first rest (ne_eqb first asked (λ e. omega arith))
      by first rest (inr itself) = at_other first rest (ne_eqb first asked (λ e. omega (arith, itself.0)))

  letter_holds : (name : List ℕ) → ((rest : List ℕ) → Holds (skip pattern rest) pattern rest) →
      Holds (at_letter asked (first_word (asked ∷ pattern)) (skip pattern) name) (asked ∷ pattern) name
  letter_holds [] later = (at_none, none_before [])
  letter_holds (letter ∷ name) later = by (cases_Bool (eqb letter asked)) (cases_lt asked letter)
    where
      by : (eqb letter asked ≡ true) ⊎ (eqb letter asked ≡ false) → (asked < letter) ⊎ (letter ≤ asked) →
          Holds (at_letter asked (first_word (asked ∷ pattern)) (skip pattern) (letter ∷ name)) (asked ∷ pattern)
          (letter ∷ name)
      by (inl is) order = rw is (bump_holds letter name (skip pattern name) is (later name))
      by (inr other) (inl above) = rw (other, lt-ltb asked letter above) (past_holds letter name above)
      by (inr other) (inr below) =
          rw (other, le-ltb asked letter below) (at_other letter name other, none_before (letter ∷ name))

-- a look tells the truth
skip_holds : (pattern name : List ℕ) → Holds (skip pattern name) pattern name
skip_holds [] name = refl
skip_holds (asked ∷ pattern) name = by (skip_holds pattern) (cases_Bool (eqb asked 32))
  where
    by : ((rest : List ℕ) → Holds (skip pattern rest) pattern rest) →
        (eqb asked 32 ≡ true) ⊎ (eqb asked 32 ≡ false) → Holds (skip (asked ∷ pattern) name) (asked ∷ pattern) name
    by rest (inl blank) =
        let P : Bool → Type 0 = λ b. Holds (cond b (at_blank pattern (skip pattern) name)
        (at_letter asked (first_word (asked ∷ pattern)) (skip pattern) name)) (asked ∷ pattern) name in
        subst P (sym blank) (blank_holds asked pattern blank name rest)
    by rest (inr other) =
        let P : Bool → Type 0 = λ b. Holds (cond b (at_blank pattern (skip pattern) name)
        (at_letter asked (first_word (asked ∷ pattern)) (skip pattern) name)) (asked ∷ pattern) name in
        subst P (sym other) (letter_holds asked pattern other name rest)

pub tells_found : (pattern name target : List ℕ) → skip pattern name ≡ Hit → IsStepOf Found pattern name target
tells_found pattern name target is = subst (λ told. Holds told pattern name) is (skip_holds pattern name)

pub tells_seek : (pattern name target : List ℕ) → skip pattern name ≡ To target → IsStepOf Seek pattern name target
tells_seek pattern name target is = subst (λ told. Holds told pattern name) is (skip_holds pattern name)

pub tells_end : (pattern name target : List ℕ) → skip pattern name ≡ Past → IsStepOf End pattern name target
tells_end pattern name target is = subst (λ told. Holds told pattern name) is (skip_holds pattern name)

-- ---- a look that has come so far: past some words, and some letters of the next
abbrev pub bumped : List ℕ → Skip
bumped [] = Past
bumped (letter ∷ letters) = To (take (length letters) (letter ∷ letters) ++ 33 ∷ [])

abbrev pub wrap : List ℕ → List ℕ → Skip → Skip
wrap before word Hit = Hit
wrap before word (To target) = To (before ++ (word ++ target))
wrap before word Past = bumped before

bumped-blank : (letters : List ℕ) → bumped (letters ++ 32 ∷ []) ≡ To (letters ++ 33 ∷ [])
bumped-blank [] = refl
bumped-blank (letter ∷ letters) =
    let long : length (letters ++ 32 ∷ []) ≡ suc (length letters) =
    omega (arith, length-append letters (32 ∷ [])) in
    let all : take (length letters) (letters ++ 32 ∷ []) ≡ letters =
    take-append-le (length letters) letters (32 ∷ []) (omega arith) ∙ take_all (length letters) letters (omega arith) in
    ap (λ n. To (take n (letter ∷ (letters ++ 32 ∷ [])) ++ 33 ∷ [])) long
    ∙ ap (λ l. To ((letter ∷ l) ++ 33 ∷ [])) all

pub wrap-over : (before word part : List ℕ) (told : Skip) →
    wrap before word (over part told) ≡ wrap (before ++ (word ++ (part ++ 32 ∷ []))) [] told
wrap-over before word part Hit = refl
wrap-over before word part (To target) =
    let flat : (before ++ (word ++ (part ++ 32 ∷ []))) ++ target ≡ before ++ (word ++ (part ++ (32 ∷ target))) =
    simp append_assoc in
    ap To (sym flat)
wrap-over before word part Past =
    let left : before ++ (word ++ (part ++ 32 ∷ [])) ≡ ((before ++ word) ++ part) ++ 32 ∷ [] =
    sym (simp append_assoc) in
    let right : ((before ++ word) ++ part) ++ 33 ∷ [] ≡ before ++ (word ++ (part ++ 33 ∷ [])) = simp append_assoc in
    sym (ap bumped left ∙ bumped-blank ((before ++ word) ++ part) ∙ ap To right)

take-within : (n letter : ℕ) (letters : List ℕ) → take n (letter ∷ take n letters) ≡ take n (letter ∷ letters)
take-within zero letter letters = refl
take-within (suc n) letter [] = refl
take-within (suc n) letter (next ∷ letters) = ap (λ l. letter ∷ l) (take-within n next letters)

pub bumped-take : (start : ℕ) (letters : List ℕ) → suc start ≤ length letters →
    bumped (take (suc start) letters) ≡ To (take start letters ++ 33 ∷ [])
bumped-take start [] le = absurd (omega arith)
bumped-take start (letter ∷ letters) le =
    ap (λ n. To (take n (letter ∷ take start letters) ++ 33 ∷ [])) (length-take_le start letters (omega arith))
    ∙ ap (λ l. To (l ++ 33 ∷ [])) (take-within start letter letters)
  where
    length-take_le : (n : ℕ) (xs : List ℕ) → n ≤ length xs → length (take n xs) ≡ n
    length-take_le zero xs le = refl
    length-take_le (suc n) [] le = absurd (omega arith)
    length-take_le (suc n) (x ∷ xs) le = omega (arith, length-take_le n xs (omega arith))
