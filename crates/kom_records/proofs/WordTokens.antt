-- The token that each word of a server is.
use Rattle.std.proofs.Common.{◌≡◌, ℕ, zero, suc, ◌+◌, ◌*◌, ◌/◌, ◌%◌, ◌-◌, ◌^◌, ◌<◌, ◌≤◌, ◌&&◌, Bool, true, false}
use Rattle.std.proofs.Common.{List, [], ◌∷◌, ◌++◌, length, take, drop, refl, ap, ◌∙◌, arith, append_assoc}
use Rattle.std.proofs.Common.{length-append}
use Rattle.std.specs.Prelude.{nat_le, fold}
use Rattle.std.specs.List.{take_while, list_all}
use Rattle.std.specs.Fmt.{decimal}
use Rattle.std.specs.Char.{digit_value}
use Rattle.std.specs.Str.Parse.{AllDigits, digits_value_after}
use Rattle.std.proofs.lemmas.Bool.Decides.{nat_tests}
use Rattle.std.proofs.lemmas.Fmt.{decimal_is_IsNumeral, length-decimal-le}
use Rattle.std.proofs.lemmas.Str.{digit_value_digit}
use Rattle.std.proofs.lemmas.Str.Parse.{digit_from_value}
use Rattle.std.proofs.Math.Seq.{take-append_seam, drop-append_seam}
use Rattle.kom_types.specs.ByteKind.{is_digit, kind_of}
use Rattle.kom_types.specs.declared.byte_kind.ByteKind.TheVariants as kind
use Rattle.kom_types.specs.declared.side.Side.TheVariants as side
use Rattle.kom_types.specs.Grammar.{Form, Prefix, Whole, Unfit, Cut, run_at, drop_while, signed_run_at, string_at}
use Rattle.kom_types.specs.Token.{Digits, Text, Open, Close, Star, Signed, number_of, is_integer}
use Rattle.kom_types.specs.spellings.Words.{bit_string, hollerith}
use Rattle.kom_framing.specs.Spans.{token_cut, cut_of}
use Rattle.kom_framing.proofs.Lexing.{token_kind}
use Rattle.kom_framing.proofs.Lists.{take_while-yes, take_while-no, drop_while-yes, drop_while-no}
use Rattle.kom_records.specs.Words.{token_of_word}

-- digits alone
pub record AreDigits (digits : List ℕ) : Type 0 where
  pub each : list_all is_digit digits ≡ true

parts : (a b : Bool) → (a && b) ≡ true → (a ≡ true) × (b ≡ true)
parts true b is = (refl, is)
parts false b is = cc

joins : (a b : Bool) → a ≡ true → b ≡ true → (a && b) ≡ true
joins a b one two = rw (one, two) refl

-- the digits before a byte that is none
digits_taken : (digits : List ℕ) (stop : ℕ) (more : List ℕ) → list_all is_digit digits ≡ true →
    is_digit stop ≡ false → take_while is_digit (digits ++ stop ∷ more) ≡ digits
digits_taken [] stop more are ends = take_while-no is_digit stop more ends
digits_taken (digit ∷ digits) stop more are ends =
    let both = parts (is_digit digit) (list_all is_digit digits) are in
    take_while-yes is_digit digit (digits ++ stop ∷ more) both.0
    ∙ ap (λ (all : List ℕ). digit ∷ all) (digits_taken digits stop more both.1 ends)

digits_dropped : (digits : List ℕ) (stop : ℕ) (more : List ℕ) → list_all is_digit digits ≡ true →
    is_digit stop ≡ false → drop_while is_digit (digits ++ stop ∷ more) ≡ stop ∷ more
digits_dropped [] stop more are ends = drop_while-no is_digit stop more ends
digits_dropped (digit ∷ digits) stop more are ends =
    let both = parts (is_digit digit) (list_all is_digit digits) are in
    drop_while-yes is_digit digit (digits ++ stop ∷ more) both.0 ∙ digits_dropped digits stop more both.1 ends

digit_kind : (byte : ℕ) → is_digit byte ≡ true → kind_of byte ≡ kind.Digit
digit_kind byte is = grind (arith, nat_tests)

-- a run of digits before another byte
pub run_cut : (digit : ℕ) (digits : List ℕ) (stop : ℕ) (more : List ℕ) → list_all is_digit (digit ∷ digits) ≡ true →
    is_digit stop ≡ false → cut_of (digit ∷ (digits ++ stop ∷ more)) ≡ run_at (digit ∷ digits) (stop ∷ more)
run_cut digit digits stop more are ends =
    let both = parts (is_digit digit) (list_all is_digit digits) are in
    let all = digits ++ stop ∷ more in
    token_kind side.Server digit all kind.Digit (digit_kind digit both.0)
    ∙ ap (λ run. run_at (digit ∷ run) (drop_while is_digit all)) (digits_taken digits stop more both.1 ends)
    ∙ ap (λ tail. run_at (digit ∷ digits) tail) (digits_dropped digits stop more both.1 ends)

-- a word of digits
pub digits_word : (digits : List ℕ) → list_all is_digit digits ≡ true → 0 < length digits → length digits ≤ 16 →
    token_of_word digits ≡ Digits digits
unfolding token_of_word
digits_word [] are some short = absurd (omega arith)
digits_word (digit ∷ digits) are some short =
    let fits : nat_le (length (digit ∷ digits)) 16 ≡ true = grind (arith, nat_tests) in
    let cut : Cut = record { token = Digits (digit ∷ digits); tail = 10 ∷ [] } in
    ap token_cut (run_cut digit digits 10 [] are refl)
    ∙ ap (λ (test : Bool). token_cut (elim test [ true ↦ Whole cut | false ↦ Unfit ])) fits

-- the digits of a number are digits, which spell it
are_digits : (digits : List ℕ) → AllDigits 10 digits → list_all is_digit digits ≡ true
are_digits [] are = refl
are_digits (digit ∷ digits) are =
    let range = digit_from_value digit are.0 in
    let one : is_digit digit ≡ true = grind (arith, nat_tests, range.0, range.1) in
    joins (is_digit digit) (list_all is_digit digits) one (are_digits digits are.1)

value_after : (digits : List ℕ) (number : ℕ) → AllDigits 10 digits →
    fold (λ n digit. 10 * n + (digit - 48)) number digits ≡ digits_value_after 10 number digits
value_after [] number are = refl
value_after (digit ∷ digits) number are =
    let value = digit_value_digit digit (digit_from_value digit are.0) in
    let same : 10 * number + (digit - 48) ≡ number * 10 + digit_value digit = omega (arith, value) in
    ap (λ n. fold (λ n digit. 10 * n + (digit - 48)) n digits) same
    ∙ value_after digits (number * 10 + digit_value digit) are.1

pub decimal_digits : (n : ℕ) → n < 2 ^ 64 → list_all is_digit (decimal n) ≡ true
decimal_digits n within = are_digits (decimal n) (decimal_is_IsNumeral n within).0.1

pub number_of_decimal : (n : ℕ) → n < 2 ^ 64 → number_of (decimal n) ≡ n
number_of_decimal n within =
    let is = decimal_is_IsNumeral n within in
    value_after (decimal n) 0 is.0.1 ∙ is.1

pub decimal_short : (n : ℕ) → n < 2 ^ 32 → length (decimal n) ≤ 10
decimal_short n within = length-decimal-le 10 n (omega arith) (omega arith) (omega arith)

pub decimal_some : (n : ℕ) → n < 2 ^ 64 → 0 < length (decimal n)
decimal_some n within = (decimal_is_IsNumeral n within).0.0

pub word_decimal : (n : ℕ) → n < 2 ^ 32 → token_of_word (decimal n) ≡ Digits (decimal n)
word_decimal n within =
    digits_word (decimal n) (decimal_digits n (omega arith)) (decimal_some n (omega arith))
    (omega (arith, decimal_short n within))

pub is_integer-decimal : (n : ℕ) → n < 2 ^ 32 → is_integer (decimal n) ≡ true
is_integer-decimal n within =
    let short : nat_le (length (decimal n)) 10 ≡ true = grind (arith, nat_tests, decimal_short n within) in
    rw (short, number_of_decimal n (omega arith)) (grind (arith, nat_tests))

-- bits
bit_digit : (bits : ℕ) → is_digit (48 + bits % 2) ≡ true
bit_digit bits =
    let low : bits % 2 < 2 = omega arith in
    grind (arith, nat_tests)

pub bits_digits : (bits width : ℕ) → list_all is_digit (bit_string bits width) ≡ true
bits_digits bits zero = refl
bits_digits bits (suc width) =
    joins (is_digit (48 + bits / 2 ^ width % 2)) (list_all is_digit (bit_string bits width))
    (bit_digit (bits / 2 ^ width)) (bits_digits bits width)

pub length-bit_string : (bits width : ℕ) → length (bit_string bits width) ≡ width
length-bit_string bits zero = refl
length-bit_string bits (suc width) = ap suc (length-bit_string bits width)

pub word_bits : (bits width : ℕ) → 0 < width → width ≤ 16 →
    token_of_word (bit_string bits width) ≡ Digits (bit_string bits width)
word_bits bits width some short =
    let long = length-bit_string bits width in
    digits_word (bit_string bits width) (bits_digits bits width) (omega (arith, long)) (omega (arith, long))

-- a string
text_run : (digits bytes more : List ℕ) → is_integer digits ≡ true → number_of digits ≡ length bytes →
    run_at digits (72 ∷ (bytes ++ more)) ≡ Whole (record { token = Text bytes; tail = more })
text_run digits bytes more integer long =
    let all = bytes ++ more in
    let fits : nat_le (length bytes) (length all) ≡ true =
    grind (arith, nat_tests, length-append bytes more) in
    let cut : List ℕ → List ℕ → Form Cut = λ text tail. Whole (record { token = Text text; tail = tail }) in
    ap (λ (test : Bool). elim test [ true ↦ string_at (number_of digits) all | false ↦ Unfit ]) integer
    ∙ ap (λ count. string_at count all) long
    ∙ ap (λ (test : Bool). elim test [
      | true ↦ cut (take (length bytes) all)
          (drop (length bytes) all)
      | false ↦ Prefix
    ])
    fits
    ∙ ap (λ text. cut text (drop (length bytes) all)) (take-append_seam bytes more)
    ∙ ap (cut bytes) (drop-append_seam bytes more)

pub text_cut : (digits : List ℕ) (bytes more : List ℕ) → list_all is_digit digits ≡ true → 0 < length digits →
    is_integer digits ≡ true → number_of digits ≡ length bytes →
    cut_of (digits ++ 72 ∷ (bytes ++ more)) ≡ Whole (record { token = Text bytes; tail = more })
text_cut [] bytes more are some integer long = absurd (omega arith)
text_cut (digit ∷ digits) bytes more are some integer long =
    run_cut digit digits 72 (bytes ++ more) are refl ∙ text_run (digit ∷ digits) bytes more integer long

pub word_text : (bytes : List ℕ) → length bytes < 2 ^ 32 → token_of_word (hollerith bytes) ≡ Text bytes
unfolding token_of_word
word_text bytes within =
    let digits = decimal (length bytes) in
    ap (λ word. token_cut (cut_of word)) (append_assoc digits (72 ∷ bytes) (10 ∷ []))
    ∙ ap token_cut (text_cut digits bytes (10 ∷ []) (decimal_digits (length bytes) (omega arith))
    (decimal_some (length bytes) (omega arith)) (is_integer-decimal (length bytes) within)
    (number_of_decimal (length bytes) (omega arith)))

-- a sign and a number before another byte
pub signed_run : (sign n stop : ℕ) (more : List ℕ) → n < 2 ^ 32 → is_digit stop ≡ false →
    signed_run_at sign (take_while is_digit (decimal n ++ stop ∷ more))
    (drop_while is_digit (decimal n ++ stop ∷ more))
    ≡ Whole (record { token = Signed sign (decimal n); tail = stop ∷ more })
signed_run sign n stop more within ends =
    let digits = decimal n in
    let are = decimal_digits n (omega arith) in
    let from : nat_le 1 (length digits) ≡ true =
    grind (arith, nat_tests, decimal_some n (omega arith)) in
    let to : nat_le (length digits) 16 ≡ true =
    grind (arith, nat_tests, decimal_short n within) in
    let cut : Cut = record { token = Signed sign digits; tail = stop ∷ more } in
    ap (λ run. signed_run_at sign run (drop_while is_digit (digits ++ stop ∷ more)))
    (digits_taken digits stop more are ends)
    ∙ ap (λ tail. signed_run_at sign digits tail) (digits_dropped digits stop more are ends)
    ∙ ap (λ (test : Bool). elim test [ true ↦ Whole cut | false ↦ Unfit ]) (joins _ _ from to)

signed_cut : (sign n : ℕ) → n < 2 ^ 32 →
    token_cut (signed_run_at sign (take_while is_digit (decimal n ++ 10 ∷ []))
    (drop_while is_digit (decimal n ++ 10 ∷ []))) ≡ Signed sign (decimal n)
signed_cut sign n within = ap token_cut (signed_run sign n 10 [] within refl)

-- `=`, `%` and `:`
pub word_good : (n : ℕ) → n < 2 ^ 32 → token_of_word (61 ∷ decimal n) ≡ Signed 61 (decimal n)
unfolding token_of_word
word_good n within = signed_cut 61 n within

pub word_refusal : (n : ℕ) → n < 2 ^ 32 → token_of_word (37 ∷ decimal n) ≡ Signed 37 (decimal n)
unfolding token_of_word
word_refusal n within = signed_cut 37 n within

pub word_message : (n : ℕ) → n < 2 ^ 32 → token_of_word (58 ∷ decimal n) ≡ Signed 58 (decimal n)
unfolding token_of_word
word_message n within = signed_cut 58 n within

-- braces and the star
pub word_open : token_of_word (123 ∷ []) ≡ Open
unfolding token_of_word
word_open = refl

pub word_close : token_of_word (125 ∷ []) ≡ Close
unfolding token_of_word
word_close = refl

pub word_star : token_of_word (42 ∷ []) ≡ Star
unfolding token_of_word
word_star = refl
