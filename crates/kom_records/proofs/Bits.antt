-- The rule of bits reads exactly their spelling.
use Rattle.std.proofs.Common.{◌≡◌, ℕ, ◌+◌, ◌*◌, ◌/◌, ◌%◌, ◌-◌, ◌^◌, ◌<◌, ◌≤◌, ◌==◌, ◌&&◌, ◌||◌, Bool, true, false}
use Rattle.std.proofs.Common.{zero, suc}
use Rattle.std.proofs.Common.{List, [], ◌∷◌, ◌++◌, length, refl, sym, ap, subst, ◌∙◌, arith}
use Rattle.std.specs.Prelude.{fold}
use Rattle.std.specs.List.{list_all}
use Rattle.std.proofs.lemmas.Bool.Decides.{nat_tests}
use Rattle.std.proofs.Math.Nat.{pow-suc, div-div-eq-div-mul, div-eq_of_lt, lt-mul-div-succ, div-one, pow-le-pow_right}
use Rattle.kom_types.specs.Token.{Token, Digits, Text, Open, Close, Star, Signed}
use Rattle.kom_types.specs.calls.Arguments.{Took, Departs, Malformed, bits, bits_of, is_binary}
use Rattle.kom_types.specs.spellings.Words.{bit_string}
use Rattle.kom_types.specs.spellings.Words as words
use Rattle.kom_records.specs.Rules.{first_bits}
use Rattle.kom_records.specs.Fits.{IsByte}
use Rattle.kom_records.specs.Words.{token_of_word, tokens_of_words}
use Rattle.kom_records.proofs.Spelled.{IsSpelled, step, onward, glue, took_same}
use Rattle.kom_records.proofs.WordTokens.{word_bits, length-bit_string}

-- a binary digit more
abbrev more_bits : ℕ → List ℕ → ℕ
more_bits = fold (λ number digit. 2 * number + (digit - 48))

abbrev is_bit : ℕ → Bool
is_bit digit = digit == 48 || digit == 49

parts : (a b : Bool) → (a && b) ≡ true → (a ≡ true) × (b ≡ true)
parts true b is = (refl, is)
parts false b is = cc

joins : (a b : Bool) → a ≡ true → b ≡ true → (a && b) ≡ true
joins a b one two = rw (one, two) refl

-- half of what is left
halved : (n width : ℕ) → n / 2 ^ suc width ≡ n / 2 ^ width / 2
halved n width = ap (λ k. n / k) (pow-suc 2 width) ∙ sym (div-div-eq-div-mul n (2 ^ width) 2)

bits_read : (n width : ℕ) → more_bits (n / 2 ^ width) (bit_string n width) ≡ n
bits_read n zero = div-one n
bits_read n (suc width) =
    let half = halved n width in
    let next : 2 * (n / 2 ^ suc width) + (48 + n / 2 ^ width % 2 - 48) ≡ n / 2 ^ width = omega (arith, half) in
    ap (λ so_far. more_bits so_far (bit_string n width)) next ∙ bits_read n width

bit_is : (n : ℕ) → is_bit (48 + n % 2) ≡ true
bit_is n =
    let small : n % 2 < 2 = omega arith in
    grind (arith, nat_tests)

bits_are : (n width : ℕ) → list_all is_bit (bit_string n width) ≡ true
bits_are n zero = refl
bits_are n (suc width) =
    joins (is_bit (48 + n / 2 ^ width % 2)) (list_all is_bit (bit_string n width)) (bit_is (n / 2 ^ width))
    (bits_are n width)

binary : (n width : ℕ) → is_binary width (bit_string n width) ≡ true
binary n width =
    let long = length-bit_string n width in
    let same : (length (bit_string n width) == width) ≡ true = grind (arith, nat_tests) in
    joins (length (bit_string n width) == width) (list_all is_bit (bit_string n width)) same (bits_are n width)

pub bits_of-bit_string : (n width : ℕ) → n < 2 ^ width → bits_of (bit_string n width) ≡ n
bits_of-bit_string n width within =
    ap (λ from. more_bits from (bit_string n width)) (sym (div-eq_of_lt within)) ∙ bits_read n width

-- what was read is spelled so
spelled_so : (from : ℕ) (digits : List ℕ) → list_all is_bit digits ≡ true →
    (more_bits from digits / 2 ^ length digits ≡ from) × (bit_string (more_bits from digits) (length digits) ≡ digits)
spelled_so from [] are = (div-one from, refl)
spelled_so from (digit ∷ digits) are =
    let both = parts (is_bit digit) (list_all is_bit digits) are in
    let all = more_bits (2 * from + (digit - 48)) digits in
    let rest = spelled_so (2 * from + (digit - 48)) digits both.1 in
    let half = halved all (length digits) in
    let low : 48 ≤ digit = grind (arith, nat_tests) in
    let high : digit ≤ 49 = grind (arith, nat_tests) in
    let there : all / 2 ^ suc (length digits) ≡ from = omega (arith, half, rest.0) in
    let here : 48 + all / 2 ^ length digits % 2 ≡ digit = omega (arith, rest.0) in
    (there, ap (λ first. first ∷ bit_string all (length digits)) here ∙ ap (λ others. digit ∷ others) rest.1)

none_left : (n width : ℕ) → n / 2 ^ width ≡ 0 → n < 2 ^ width
none_left n width none =
    let two : 0 < 2 = omega arith in
    let from : 0 ≤ width = omega arith in
    let power : 2 ^ 0 ≤ 2 ^ width = pow-le-pow_right two from in
    let some : 0 < 2 ^ width = omega arith in
    let last = rw none at (lt-mul-div-succ n some) in
    omega (arith, last)

bits_by : (width n : ℕ) (digits : List ℕ) (tokens tail : List Token) (are : Bool) → 0 < width → width ≤ 16 →
    is_binary width digits ≡ are →
    (elim are [ true ↦ Took (bits_of digits) tokens | false ↦ Departs Malformed ]) ≡ Took n tail →
    (n < 2 ^ width) × (Digits digits ∷ tokens ≡ tokens_of_words (words.bits width n) ++ tail)
bits_by width n digits tokens tail true some most are is =
    let same = took_same (bits_of digits) n tokens tail is in
    let both = parts (length digits == width) (list_all is_bit digits) are in
    let long : length digits ≡ width = grind (arith, nat_tests) in
    let spelled = spelled_so 0 digits both.1 in
    let within : bits_of digits < 2 ^ width = subst (λ k. bits_of digits < 2 ^ k) long
    (none_left (bits_of digits) (length digits) spelled.0) in
    let run : bit_string n width ≡ digits =
    ap (λ m. bit_string m width) (sym same.0) ∙ ap (bit_string (bits_of digits)) (sym long) ∙ spelled.1 in
    let word : token_of_word (bit_string n width) ≡ Digits digits = word_bits n width some most ∙ ap Digits run in
    (subst (λ m. m < 2 ^ width) same.0 within, rw (word, same.1) refl)
bits_by width n digits tokens tail false some most are is = cc

bits_from : (width : ℕ) → 0 < width → width ≤ 16 → (tokens tail : List Token) (n : ℕ) →
    bits width tokens ≡ Took n tail → (n < 2 ^ width) × (tokens ≡ tokens_of_words (words.bits width n) ++ tail)
bits_from width some most [] tail n is = cc
bits_from width some most (Digits digits ∷ tokens) tail n is =
    bits_by width n digits tokens tail _ some most refl is
bits_from width some most (Text bytes ∷ tokens) tail n is = cc
bits_from width some most (Open ∷ tokens) tail n is = cc
bits_from width some most (Close ∷ tokens) tail n is = cc
bits_from width some most (Star ∷ tokens) tail n is = cc
bits_from width some most (Signed sign digits ∷ tokens) tail n is = cc

bits_back : (width : ℕ) → 0 < width → width ≤ 16 → (n : ℕ) (tail : List Token) → n < 2 ^ width →
    bits width (tokens_of_words (words.bits width n) ++ tail) ≡ Took n tail
bits_back width some most n tail within =
    let digits = bit_string n width in
    ap (λ token. bits width (token ∷ tail)) (word_bits n width some most)
    ∙ ap (λ (test : Bool). elim test [ true ↦ Took (bits_of digits) tail | false ↦ Departs Malformed ]) (binary n width)
    ∙ ap (λ m. Took m tail) (bits_of-bit_string n width within)

pub bits_is : (width : ℕ) → 0 < width → width ≤ 16 → IsSpelled (bits width) (words.bits width) (λ n. n < 2 ^ width)
bits_is width some most = record { back = bits_back width some most; forth = bits_from width some most }

pub bits_8_is : IsSpelled (bits 8) (words.bits 8) IsByte
bits_8_is = bits_is 8 (omega arith) (omega arith)

pub bits_16_is : IsSpelled (bits 16) (words.bits 16) (λ n. n < 2 ^ 16)
bits_16_is = bits_is 16 (omega arith) (omega arith)

first_from : (tokens tail : List Token) (n : ℕ) → first_bits tokens ≡ Took n tail →
    (IsByte n × (n % 16 ≡ 0)) × (tokens ≡ tokens_of_words (words.bits 4 (n / 16)) ++ tail)
first_from tokens tail n is =
    let one = step (bits_is 4 (omega arith) (omega arith)) tokens (λ value. Took (16 * value)) n tail is in
    let same = took_same (16 * one.value) n one.mid tail one.rest in
    let value : one.value ≡ n / 16 = omega (arith, same.0) in
    let fits : one.value < 16 = one.fits in
    let small : n < 2 ^ 8 = omega (arith, same.0, fits) in
    let first : n % 16 ≡ 0 = omega (arith, same.0) in (
      (small, first),
      glue (words.bits 4 (n / 16)) tokens one.mid tail
          (one.is ∙ ap (λ m. tokens_of_words (words.bits 4 m) ++ one.mid) value) same.1,
    )

pub first_bits_is : IsSpelled first_bits (λ n. words.bits 4 (n / 16)) (λ n. IsByte n × (n % 16 ≡ 0))
first_bits_is = record {
  back = λ n tail fits.
      let small : n / 16 < 2 ^ 4 = omega (arith, fits.0) in
      let same : 16 * (n / 16) ≡ n = omega (arith, fits.1) in
      onward (bits_is 4 (omega arith) (omega arith)) (n / 16) tail (λ value. Took (16 * value)) _ small
      (ap (λ m. Took m tail) same);
  forth = first_from;
}
