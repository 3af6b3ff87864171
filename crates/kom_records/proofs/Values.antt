-- The rules of values read exactly their spellings.
use Rattle.std.proofs.Common.{◌≡◌, ℕ, ◌^◌, ◌<◌, ◌&&◌, Bool, true, false, zero, suc, Some, None}
use Rattle.std.proofs.Common.{List, [], ◌∷◌, ◌++◌, length, refl, sym, ap, subst, ◌∙◌, arith}
use Rattle.std.specs.Prelude.{Option, nat_le, nat_lt, bytes_eq}
use Rattle.std.specs.Fmt.{decimal}
use Rattle.std.proofs.lemmas.Bool.Decides.{nat_tests}
use Rattle.std.proofs.lemmas.Slice.Eq.{bytes_eq-Decides}
use Rattle.kom_types.specs.Token.{Token, Digits, Text, Open, Close, Star, Signed, number_of, is_integer}
use Rattle.kom_types.specs.calls.Arguments.{Took, Departs, Malformed}
use Rattle.kom_types.specs.spellings.Words.{Words}
use Rattle.kom_types.specs.spellings.Words as words
use Rattle.kom_records.specs.Fits.{IsNumber, IsByte, IsText}
use Rattle.kom_records.specs.Rules.{number, text, number_told, taken_of, byte, flag, flag_of}
use Rattle.kom_records.specs.Words.{token_of_word, tokens_of_words}
use Rattle.kom_records.proofs.Spelled.{IsSpelled, step, onward, glue, took_same}
use Rattle.kom_records.proofs.WordTokens.{word_decimal, word_text}
use Rattle.kom_records.proofs.WordTokens.{is_integer-decimal, number_of_decimal}

parts : (a b : Bool) → (a && b) ≡ true → (a ≡ true) × (b ≡ true)
parts true b is = (refl, is)
parts false b is = cc

joins : (a b : Bool) → a ≡ true → b ≡ true → (a && b) ≡ true
joins a b one two = rw (one, two) refl

-- a run of digits tells a number
pub told_decimal : (n : ℕ) → n < 2 ^ 32 → number_told (decimal n) ≡ Some n
told_decimal n within =
    let whole = is_integer-decimal n within in
    let is = number_of_decimal n (omega arith) in
    let same : bytes_eq (decimal (number_of (decimal n))) (decimal n) ≡ true =
    (bytes_eq-Decides (decimal (number_of (decimal n))) (decimal n)).1 (ap decimal is) in
    ap (λ (test : Bool). elim test [ true ↦ Some (number_of (decimal n)) | false ↦ None ]) (joins _ _ whole same)
    ∙ ap Some is

record Told (digits : List ℕ) (n : ℕ) : Type 0 where
  within : n < 2 ^ 32
  is : decimal n ≡ digits

told_by : (digits : List ℕ) (n : ℕ) (test : Bool) →
    (is_integer digits && bytes_eq (decimal (number_of digits)) digits) ≡ test →
    (elim test [ true ↦ Some (number_of digits) | false ↦ None ]) ≡ Some n → Told digits n
told_by digits n true test told =
    let is : number_of digits ≡ n = cc in
    let both = parts (is_integer digits) (bytes_eq (decimal (number_of digits)) digits) test in
    let small = parts (nat_le (length digits) 10) (nat_lt (number_of digits) (2 ^ 32)) both.0 in
    let spelled = (bytes_eq-Decides (decimal (number_of digits)) digits).0 both.1 in
    let within : number_of digits < 2 ^ 32 = grind (arith, nat_tests) in
    record { within = subst (λ m. m < 2 ^ 32) is within; is = ap decimal (sym is) ∙ spelled }
told_by digits n false test told = cc

pub told_is : (digits : List ℕ) (n : ℕ) → number_told digits ≡ Some n → (n < 2 ^ 32) × (decimal n ≡ digits)
told_is digits n told =
    let all = told_by digits n _ refl told in
    (all.within, all.is)

number_forth : (digits : List ℕ) (tokens tail : List Token) (n : ℕ) (told : Option ℕ) → number_told digits ≡ told →
    taken_of told tokens ≡ Took n tail →
    IsNumber n × (Digits digits ∷ tokens ≡ tokens_of_words (words.number n) ++ tail)
number_forth digits tokens tail n (Some m) told is =
    let same = took_same m n tokens tail is in
    let found = told_is digits n (told ∙ ap Some same.0) in
    let word : token_of_word (decimal n) ≡ Digits digits = word_decimal n found.0 ∙ ap Digits found.1 in
    (found.0, rw (word, same.1) refl)
number_forth digits tokens tail n None told is = cc

number_from : (tokens tail : List Token) (n : ℕ) → number tokens ≡ Took n tail →
    IsNumber n × (tokens ≡ tokens_of_words (words.number n) ++ tail)
number_from [] tail n is = cc
number_from (Digits digits ∷ tokens) tail n is = number_forth digits tokens tail n (number_told digits) refl is
number_from (Text bytes ∷ tokens) tail n is = cc
number_from (Open ∷ tokens) tail n is = cc
number_from (Close ∷ tokens) tail n is = cc
number_from (Star ∷ tokens) tail n is = cc
number_from (Signed sign digits ∷ tokens) tail n is = cc

pub number_is : IsSpelled number words.number IsNumber
number_is = record {
  back = λ n tail within. rw (word_decimal n within, told_decimal n within) refl;
  forth = number_from;
}

-- a byte
byte_by : (n m : ℕ) (tokens tail : List Token) (small : Bool) → nat_le n 255 ≡ small →
    (elim small [ true ↦ Took n tokens | false ↦ Departs Malformed ]) ≡ Took m tail →
    IsByte m × (n ≡ m) × (tokens ≡ tail)
byte_by n m tokens tail true small is =
    let same = took_same n m tokens tail is in
    let within : n < 2 ^ 8 = grind (arith, nat_tests) in
    (subst IsByte same.0 within, same.0, same.1)
byte_by n m tokens tail false small is = cc

byte_from : (tokens tail : List Token) (n : ℕ) → byte tokens ≡ Took n tail →
    IsByte n × (tokens ≡ tokens_of_words (words.number n) ++ tail)
byte_from tokens tail n is =
    let one = step number_is tokens _ n tail is in
    let last = byte_by one.value n one.mid tail _ refl one.rest in (
      last.0,
      glue (words.number n) tokens one.mid tail
          (one.is ∙ ap (λ m. tokens_of_words (words.number m) ++ one.mid) last.1) last.2,
    )

pub byte_is : IsSpelled byte words.number IsByte
byte_is = record {
  back = λ n tail within.
      let small : nat_le n 255 ≡ true = grind (arith, nat_tests) in
      onward number_is n tail _ _ (omega arith) (rw small refl);
  forth = byte_from;
}

-- a truth value
flag_by : (n : ℕ) (value : Bool) (tokens tail : List Token) → flag_of n tokens ≡ Took value tail →
    (words.number n ≡ words.flag value) × (tokens ≡ tail)
flag_by zero value tokens tail is =
    let same = took_same false value tokens tail is in
    (ap words.flag same.0, same.1)
flag_by (suc zero) value tokens tail is =
    let same = took_same true value tokens tail is in
    (ap words.flag same.0, same.1)
flag_by (suc (suc more)) value tokens tail is = cc

flag_from : (tokens tail : List Token) (value : Bool) → flag tokens ≡ Took value tail →
    Unit {0} × (tokens ≡ tokens_of_words (words.flag value) ++ tail)
flag_from tokens tail value is =
    let one = step number_is tokens _ value tail is in
    let last = flag_by one.value value one.mid tail one.rest in (
      tt,
      glue (words.flag value) tokens one.mid tail
          (one.is ∙ ap (λ (spelled : Words). tokens_of_words spelled ++ one.mid) last.0) last.1,
    )

flag_back : (value : Bool) (tail : List Token) → flag (tokens_of_words (words.flag value) ++ tail) ≡ Took value tail
flag_back true tail = onward number_is 1 tail flag_of _ (omega arith) refl
flag_back false tail = onward number_is 0 tail flag_of _ (omega arith) refl

pub flag_is : IsSpelled flag words.flag (λ value. Unit {0})
flag_is = record { back = λ value tail fits. flag_back value tail; forth = flag_from }

-- a string
text_by : (found bytes : List ℕ) (tokens tail : List Token) (short : Bool) → nat_lt (length found) (2 ^ 32) ≡ short →
    (elim short [ true ↦ Took found tokens | false ↦ Departs Malformed ]) ≡ Took bytes tail →
    IsText bytes × (found ≡ bytes) × (tokens ≡ tail)
text_by found bytes tokens tail true short is =
    let same = took_same found bytes tokens tail is in
    let within : length found < 2 ^ 32 = grind (arith, nat_tests) in
    (subst IsText same.0 within, same.0, same.1)
text_by found bytes tokens tail false short is = cc

text_from : (tokens tail : List Token) (bytes : List ℕ) → text tokens ≡ Took bytes tail →
    IsText bytes × (tokens ≡ tokens_of_words (words.text bytes) ++ tail)
text_from [] tail bytes is = cc
text_from (Digits digits ∷ tokens) tail bytes is = cc
text_from (Text found ∷ tokens) tail bytes is =
    let last = text_by found bytes tokens tail _ refl is in
    let word : token_of_word (words.hollerith bytes) ≡ Text found = word_text bytes last.0 ∙ ap Text (sym last.1) in
    (last.0, rw (word, last.2) refl)
text_from (Open ∷ tokens) tail bytes is = cc
text_from (Close ∷ tokens) tail bytes is = cc
text_from (Star ∷ tokens) tail bytes is = cc
text_from (Signed sign digits ∷ tokens) tail bytes is = cc

pub text_is : IsSpelled text words.text IsText
text_is = record {
  back = λ bytes tail within.
      let short : nat_lt (length bytes) (2 ^ 32) ≡ true = grind (arith, nat_tests) in
      ap (λ token. text (token ∷ tail)) (word_text bytes within)
      ∙ ap (λ (test : Bool). elim test [ true ↦ Took bytes tail | false ↦ Departs Malformed ]) short;
  forth = text_from;
}
