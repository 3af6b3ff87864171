-- That a rule reads exactly what is spelled, and rules one after the other.
use Rattle.std.proofs.Common.{◌==◌, Bool, true, false, arith}
use Rattle.std.proofs.lemmas.Bool.Decides.{nat_tests}
use Rattle.std.proofs.Common.{◌≡◌, ℕ, List, [], ◌∷◌, ◌++◌, refl, ap, ◌∙◌}
use Rattle.kom_types.specs.Token.{Token}
use Rattle.kom_types.specs.calls.Arguments.{Taken, Took, Departs, Departure, then}
use Rattle.kom_types.specs.spellings.Words.{Words}
use Rattle.kom_records.specs.Words.{token_of_word, tokens_of_words}

-- The rule reads the spelling of a value that fits, and what it reads is that.
pub record IsSpelled {X : Type 0} (reads : List Token → Taken X) (spells : X → Words) (Is : X → Type 0) : Type 0 where
  pub back : (value : X) (tail : List Token) → Is value →
      reads (tokens_of_words (spells value) ++ tail) ≡ Took value tail
  pub forth : (tokens tail : List Token) (value : X) → reads tokens ≡ Took value tail →
      Is value × (tokens ≡ tokens_of_words (spells value) ++ tail)

pub took_same : {X : Type 0} (one other : X) (some rest : List Token) → Took one some ≡ Took other rest →
    (one ≡ other) × (some ≡ rest)
took_same one other some rest same =
    let value : one ≡ other = cc in
    let tail : some ≡ rest = cc in
    (value, tail)

-- a value was read, and then what follows
pub record Passed {X Y : Type 0} (taken : Taken X) (next : X → List Token → Taken Y) (end : Taken Y) : Type 0 where
  pub value : X
  pub mid : List Token
  pub first : taken ≡ Took value mid
  pub rest : next value mid ≡ end

pub passed : {X Y : Type 0} (taken : Taken X) (next : X → List Token → Taken Y) (y : Y) (tail : List Token) →
    then taken next ≡ Took y tail → Passed taken next (Took y tail)
passed (Took value mid) next y tail is = record { value = value; mid = mid; first = refl; rest = is }
passed (Departs departure) next y tail is = cc

-- a value that fits was read from its spelling, and then what follows
pub record Step {X Y : Type 0} (spells : X → Words) (Is : X → Type 0) (tokens : List Token)
    (next : X → List Token → Taken Y) (end : Taken Y) : Type 0 where
  pub value : X
  pub mid : List Token
  pub fits : Is value
  pub is : tokens ≡ tokens_of_words (spells value) ++ mid
  pub rest : next value mid ≡ end

pub step : {X Y : Type 0} {reads : List Token → Taken X} {spells : X → Words} {Is : X → Type 0} →
    IsSpelled reads spells Is → (tokens : List Token) (next : X → List Token → Taken Y) (y : Y) (tail : List Token) →
    then (reads tokens) next ≡ Took y tail → Step spells Is tokens next (Took y tail)
step {X} {Y} {reads} {spells} {Is} rule tokens next y tail is =
    let one = passed (reads tokens) next y tail is in
    let told = rule.forth tokens one.mid one.value one.first in
    record { value = one.value; mid = one.mid; fits = told.0; is = told.1; rest = one.rest }

pub on : {X Y : Type 0} {reads : List Token → Taken X} {spells : X → Words} {Is : X → Type 0} →
    IsSpelled reads spells Is → (tokens : List Token) (next : X → List Token → Taken Y) (y : Y) (tail : List Token) →
    then (reads tokens) next ≡ Took y tail → {Goal : Type 0} →
    ((value : X) (mid : List Token) → Is value → tokens ≡ tokens_of_words (spells value) ++ mid →
    next value mid ≡ Took y tail → Goal) → Goal
on rule tokens next y tail is so =
    let one = step rule tokens next y tail is in
    so one.value one.mid one.fits one.is one.rest

-- the spelling of a value that fits is read, and then what follows
pub onward : {X Y : Type 0} {reads : List Token → Taken X} {spells : X → Words} {Is : X → Type 0} →
    IsSpelled reads spells Is → (value : X) (mid : List Token) (next : X → List Token → Taken Y) (end : Taken Y) →
    Is value → next value mid ≡ end → then (reads (tokens_of_words (spells value) ++ mid)) next ≡ end
onward rule value mid next end fits rest = ap (λ taken. then taken next) (rule.back value mid fits) ∙ rest

-- words, and then those that are left
pub glue : (words : Words) (tokens mid rest : List Token) → tokens ≡ tokens_of_words words ++ mid → mid ≡ rest →
    tokens ≡ tokens_of_words words ++ rest
glue words tokens mid rest is more = is ∙ ap (λ t. tokens_of_words words ++ t) more

-- the tokens of some words and others
pub split : (some others : Words) (tail : List Token) →
    tokens_of_words (some ++ others) ++ tail ≡ tokens_of_words some ++ (tokens_of_words others ++ tail)
split [] others tail = refl
split (word ∷ some) others tail = ap (λ tokens. token_of_word word ∷ tokens) (split some others tail)

-- what is made of a value that a rule reads
pub made_is : {X Y : Type 0} {reads : List Token → Taken X} {spells : X → Words} {Is : X → Type 0} →
    IsSpelled reads spells Is → (make : X → Y) (tokens tail : List Token) (y : Y) →
    then (reads tokens) (λ value. Took (make value)) ≡ Took y tail →
    (value : X) × (Is value × (tokens ≡ tokens_of_words (spells value) ++ tail) × (make value ≡ y))
made_is rule make tokens tail y is =
    let one = step rule tokens (λ value. Took (make value)) y tail is in
    let same = took_same (make one.value) y one.mid tail one.rest in
    (one.value, (one.fits, glue _ tokens one.mid tail one.is same.1, same.0))

-- a rule that is chosen by a number: this one, or one of the others
pub data Branch {X : Type 0} (number one : ℕ) (first others : Taken X) (end : Taken X) : Type 0 where
  yes : number ≡ one → first ≡ end → Branch number one first others end
  not : others ≡ end → Branch number one first others end

branch_by : {X : Type 0} (number one : ℕ) (first others end : Taken X) (test : Bool) → (number == one) ≡ test →
    (elim test [ true ↦ first | false ↦ others ]) ≡ end → Branch number one first others end
branch_by number one first others end true same is =
    let equal : number ≡ one = grind (arith, nat_tests) in
    yes equal is
branch_by number one first others end false same is = not is

pub branch : {X : Type 0} (number one : ℕ) (first others end : Taken X) →
    (elim (number == one) [ true ↦ first | false ↦ others ]) ≡ end → Branch number one first others end
branch number one first others end is = branch_by number one first others end (number == one) refl is

pub departs_not : {X : Type 0} {departure : Departure} {value : X} {tail : List Token} →
    Departs departure ≡ Took value tail → ⊥
departs_not is = cc
