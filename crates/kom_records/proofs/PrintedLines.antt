-- A printed line has the tokens of its words.
use Rattle.std.proofs.Common.{◌≡◌, ℕ, zero, suc, ◌+◌, ◌^◌, ◌<◌, ◌≤◌, ◌==◌, Bool, true, false, List, []}
use Rattle.std.proofs.Common.{◌∷◌, ◌++◌}
use Rattle.std.specs.Prelude.{nat_le}
use Rattle.std.specs.List.{take_while}
use Rattle.std.proofs.Common.{◌&&◌, length, refl, sym, ap, ◌∙◌, arith, append_assoc, length-append}
use Rattle.std.specs.Fmt.{decimal}
use Rattle.std.specs.List.{All, flat_map, join_with_byte, list_all}
use Rattle.std.proofs.lemmas.Bool.Decides.{nat_tests}
use Rattle.kom_types.specs.ByteKind.{is_blank, is_digit}
use Rattle.kom_types.specs.declared.side.Side.TheVariants as side
use Rattle.kom_types.specs.Grammar.{Form, Prefix, Whole, Unfit, Cut, drop_while, token_at, may_follow, end_of_line}
use Rattle.kom_types.specs.Grammar.{with_token}
use Rattle.kom_types.specs.Grammar.{tokens_at, line_form, signed_run_at}
use Rattle.kom_types.specs.Printing.{line_of}
use Rattle.kom_types.specs.Token.{Token, Digits, Text, Open, Close, Star, Signed, number_of, is_integer}
use Rattle.kom_types.specs.spellings.Words.{Words, bit_string}
use Rattle.kom_types.specs.spellings.Words as words
use Rattle.kom_framing.proofs.Lists.{drop_while-no}
use Rattle.kom_records.specs.Fits.{IsNumber, IsText, AreFit}
use Rattle.kom_records.specs.Words.{token_of_word, tokens_of_words}
use Rattle.kom_records.proofs.WordTokens.{decimal_digits, decimal_some, decimal_short, bits_digits, length-bit_string}
use Rattle.kom_records.proofs.WordTokens.{run_cut, text_cut, digits_word, signed_run, is_integer-decimal}
use Rattle.kom_records.proofs.WordTokens.{number_of_decimal, word_text, word_good, word_refusal, word_message}
use Rattle.kom_records.proofs.WordTokens.{word_open}
use Rattle.kom_records.proofs.WordTokens.{word_close, word_star}

-- the tokens after a token
abbrev after_cut : ℕ → Form Cut → Form (List Token)
after_cut most Prefix = Prefix
after_cut most (Whole cut) = elim (may_follow cut.tail) [
  | true ↦ with_token cut.token (tokens_at side.Server most cut.tail)
  | false ↦ Unfit
]
after_cut most Unfit = Unfit

abbrev on_bytes : ℕ → List ℕ → Form (List Token)
on_bytes most [] = Prefix
on_bytes most (byte ∷ tail) = elim (byte == 10) [
  | true ↦ end_of_line tail
  | false ↦ after_cut most (token_at side.Server byte tail)
]

-- what follows a word: a space and more words, or the line's end
abbrev after_word : Words → List ℕ
after_word [] = 10 ∷ []
after_word (word ∷ others) = 32 ∷ (word ++ after_word others)

-- a word is one token, whatever follows it
pub record IsOne (word : List ℕ) : Type 0 where
  pub first : ℕ
  pub rest : List ℕ
  pub is : word ≡ first ∷ rest
  pub begins : is_blank first ≡ false
  pub inside : (first == 10) ≡ false
  pub cut : (others : Words) → token_at side.Server first (rest ++ after_word others)
      ≡ Whole (record { token = token_of_word word; tail = after_word others })

may_end : (others : Words) → may_follow (after_word others) ≡ true
may_end [] = refl
may_end (word ∷ others) = refl

one_token : (most : ℕ) (word : List ℕ) (others : Words) (one : IsOne word) →
    on_bytes most (drop_while is_blank (word ++ after_word others))
    ≡ with_token (token_of_word word) (tokens_at side.Server most (after_word others))
one_token most word others one =
    let after = after_word others in
    ap (λ bytes. on_bytes most (drop_while is_blank (bytes ++ after))) one.is
    ∙ ap (on_bytes most) (drop_while-no is_blank one.first (one.rest ++ after) one.begins)
    ∙ ap (λ (test : Bool). elim test [
      | true ↦ end_of_line (one.rest ++ after)
      | false ↦ after_cut most (token_at side.Server one.first (one.rest ++ after))
    ]) one.inside
    ∙ ap (after_cut most) (one.cut others)
    ∙ ap (λ (test : Bool). elim test [
      | true ↦ with_token (token_of_word word) (tokens_at side.Server most after)
      | false ↦ Unfit
    ]) (may_end others)

abbrev pub AllOne : Words → Type 0
AllOne [] = Unit {0}
AllOne (word ∷ others) = IsOne word × AllOne others

tokens_after : (most : ℕ) (others : Words) → AllOne others → length others < most →
    tokens_at side.Server most (after_word others) ≡ Whole (tokens_of_words others)
tokens_after zero others are few = absurd (omega arith)
tokens_after (suc most) [] are few = refl
tokens_after (suc most) (word ∷ others) are few =
    one_token most word others are.0
    ∙ ap (with_token (token_of_word word)) (tokens_after most others are.1 (omega arith))

-- the line of some words
line_after : (word : List ℕ) (others : Words) → line_of (word ∷ others) ≡ word ++ after_word others
line_after word [] = refl
line_after word (next ∷ others) =
    append_assoc word (32 ∷ join_with_byte 32 (next ∷ others)) (10 ∷ [])
    ∙ ap (λ bytes. word ++ 32 ∷ bytes) (line_after next others)

long_enough : (others : Words) → length others < length (after_word others)
long_enough [] = omega arith
long_enough (word ∷ others) = omega (arith, long_enough others, length-append word (after_word others))

pub line_form-words : (word : List ℕ) (others : Words) → AllOne (word ∷ others) →
    line_form side.Server (line_of (word ∷ others)) ≡ Whole (tokens_of_words (word ∷ others))
line_form-words word others are =
    let bytes = word ++ after_word others in
    let long : length others < length bytes =
    omega (arith, long_enough others, length-append word (after_word others)) in
    let most : length bytes + 1 ≡ suc (length bytes) = omega arith in
    ap (line_form side.Server) (line_after word others)
    ∙ ap (λ n. tokens_at side.Server n bytes) most
    ∙ one_token (length bytes) word others are.0
    ∙ ap (with_token (token_of_word word)) (tokens_after (length bytes) others are.1 long)

-- a run of digits before what follows it
run_whole : (digit : ℕ) (digits : List ℕ) → list_all is_digit (digit ∷ digits) ≡ true →
    length (digit ∷ digits) ≤ 16 → (others : Words) → token_at side.Server digit (digits ++ after_word others)
    ≡ Whole (record { token = Digits (digit ∷ digits); tail = after_word others })
run_whole digit digits are short [] =
    let fits : nat_le (length (digit ∷ digits)) 16 ≡ true = grind (arith, nat_tests) in
    run_cut digit digits 10 [] are refl
    ∙ ap (λ (test : Bool). elim test [
      | true ↦ Whole (record { token = Digits (digit ∷ digits); tail = 10 ∷ [] })
      | false ↦ Unfit
    ]) fits
run_whole digit digits are short (word ∷ others) =
    let fits : nat_le (length (digit ∷ digits)) 16 ≡ true = grind (arith, nat_tests) in
    let more = word ++ after_word others in
    run_cut digit digits 32 more are refl
    ∙ ap (λ (test : Bool). elim test [
      | true ↦ Whole (record { token = Digits (digit ∷ digits); tail = 32 ∷ more })
      | false ↦ Unfit
    ]) fits

-- a sign and its number before what follows them
signed_after : (sign n : ℕ) → n < 2 ^ 32 → (others : Words) →
    signed_run_at sign (take_while is_digit (decimal n ++ after_word others))
    (drop_while is_digit (decimal n ++ after_word others))
    ≡ Whole (record { token = Signed sign (decimal n); tail = after_word others })
signed_after sign n within [] = signed_run sign n 10 [] within refl
signed_after sign n within (word ∷ others) = signed_run sign n 32 (word ++ after_word others) within refl

-- words that are tokens
pub record AreOne (words : Words) : Type 0 where
  pub each : AllOne words

AllOne-append : (xs ys : Words) → AllOne xs → AllOne ys → AllOne (xs ++ ys)
AllOne-append [] ys left right = right
AllOne-append (x ∷ xs) ys left right = (left.0, AllOne-append xs ys left.1 right)

infixl 65 ◌⊕◌
pub ◌⊕◌ : {xs ys : Words} → AreOne xs → AreOne ys → AreOne (xs ++ ys)
◌⊕◌ {xs} {ys} left right = record { each = AllOne-append xs ys left.each right.each }

digit_begins : (digit : ℕ) → is_digit digit ≡ true → is_blank digit ≡ false
digit_begins digit is = grind (arith, nat_tests)

digit_inside : (digit : ℕ) → is_digit digit ≡ true → (digit == 10) ≡ false
digit_inside digit is = grind (arith, nat_tests)

parts : (a b : Bool) → (a && b) ≡ true → (a ≡ true) × (b ≡ true)
parts true b is = (refl, is)
parts false b is = cc

abbrev whole : Token → List ℕ → Form Cut
whole token tail = Whole (record { token = token; tail = tail })

whole_as : (token other : Token) (tail : List ℕ) → other ≡ token →
    whole token tail ≡ whole other tail
whole_as token other tail same = ap (λ t. whole t tail) (sym same)

one_digits : (digits : List ℕ) → list_all is_digit digits ≡ true → 0 < length digits → length digits ≤ 16 → IsOne digits
one_digits [] are some short = absurd (omega arith)
one_digits (digit ∷ digits) are some short =
    let first = (parts (is_digit digit) (list_all is_digit digits) are).0 in
    record {
      first = digit;
      rest = digits;
      is = refl;
      begins = digit_begins digit first;
      inside = digit_inside digit first;
      cut = λ others. run_whole digit digits are short others
          ∙ whole_as (Digits (digit ∷ digits)) (token_of_word (digit ∷ digits)) (after_word others)
          (digits_word (digit ∷ digits) are some short);
    }

pub one_number : (n : ℕ) → IsNumber n → AreOne (words.number n)
one_number n within = record {
  each = (
    one_digits (decimal n) (decimal_digits n (omega arith)) (decimal_some n (omega arith))
        (omega (arith, decimal_short n within)),
    tt,
  );
}

pub one_bits : (n width : ℕ) → 0 < width → width ≤ 16 → AreOne (words.bits width n)
one_bits n width some short =
    let long = length-bit_string n width in
    record {
      each = (one_digits (bit_string n width) (bits_digits n width) (omega (arith, long)) (omega (arith, long)), tt);
    }

one_text_by : (digits bytes : List ℕ) → list_all is_digit digits ≡ true → 0 < length digits →
    is_integer digits ≡ true → number_of digits ≡ length bytes → token_of_word (digits ++ 72 ∷ bytes) ≡ Text bytes →
    IsOne (digits ++ 72 ∷ bytes)
one_text_by [] bytes are some integer long word = absurd (omega arith)
one_text_by (digit ∷ digits) bytes are some integer long word =
    let first = (parts (is_digit digit) (list_all is_digit digits) are).0 in
    record {
      first = digit;
      rest = digits ++ 72 ∷ bytes;
      is = refl;
      begins = digit_begins digit first;
      inside = digit_inside digit first;
      cut = λ others. ap (token_at side.Server digit) (append_assoc digits (72 ∷ bytes) (after_word others))
          ∙ text_cut (digit ∷ digits) bytes (after_word others) are some integer long
          ∙ whole_as (Text bytes) (token_of_word (digit ∷ digits ++ 72 ∷ bytes)) (after_word others) word;
    }

pub one_text : (bytes : List ℕ) → IsText bytes → AreOne (words.text bytes)
one_text bytes within =
    let long = length bytes in
    record {
      each = (
        one_text_by (decimal long) bytes (decimal_digits long (omega arith)) (decimal_some long (omega arith))
            (is_integer-decimal long within) (number_of_decimal long (omega arith)) (word_text bytes within),
        tt,
      );
    }

pub one_open : AreOne ((123 ∷ []) ∷ [])
one_open = record {
  each = (
    record {
      first = 123;
      rest = [];
      is = refl;
      begins = refl;
      inside = refl;
      cut = λ others. whole_as Open (token_of_word (123 ∷ [])) (after_word others) word_open;
    },
    tt,
  );
}

pub one_close : AreOne ((125 ∷ []) ∷ [])
one_close = record {
  each = (
    record {
      first = 125;
      rest = [];
      is = refl;
      begins = refl;
      inside = refl;
      cut = λ others. whole_as Close (token_of_word (125 ∷ [])) (after_word others) word_close;
    },
    tt,
  );
}

pub one_star : AreOne ((42 ∷ []) ∷ [])
one_star = record {
  each = (
    record {
      first = 42;
      rest = [];
      is = refl;
      begins = refl;
      inside = refl;
      cut = λ others. whole_as Star (token_of_word (42 ∷ [])) (after_word others) word_star;
    },
    tt,
  );
}

pub one_good : (n : ℕ) → IsNumber n → AreOne ((61 ∷ decimal n) ∷ [])
one_good n within = record {
  each = (
    record {
      first = 61;
      rest = decimal n;
      is = refl;
      begins = refl;
      inside = refl;
      cut = λ others. signed_after 61 n within others
          ∙ whole_as (Signed 61 (decimal n)) (token_of_word (61 ∷ decimal n)) (after_word others) (word_good n within);
    },
    tt,
  );
}

pub one_refusal : (n : ℕ) → IsNumber n → AreOne ((37 ∷ decimal n) ∷ [])
one_refusal n within = record {
  each = (
    record {
      first = 37;
      rest = decimal n;
      is = refl;
      begins = refl;
      inside = refl;
      cut = λ others. signed_after 37 n within others
          ∙ whole_as (Signed 37 (decimal n)) (token_of_word (37 ∷ decimal n)) (after_word others)
          (word_refusal n within);
    },
    tt,
  );
}

pub one_message : (n : ℕ) → IsNumber n → AreOne ((58 ∷ decimal n) ∷ [])
one_message n within = record {
  each = (
    record {
      first = 58;
      rest = decimal n;
      is = refl;
      begins = refl;
      inside = refl;
      cut = λ others. signed_after 58 n within others
          ∙ whole_as (Signed 58 (decimal n)) (token_of_word (58 ∷ decimal n)) (after_word others)
          (word_message n within);
    },
    tt,
  );
}

one_flat : {X : Type 0} (element : X → Words) (Is : X → Type 0) → ((x : X) → Is x → AreOne (element x)) →
    (values : List X) → All Is values → AreOne (flat_map element values)
one_flat element Is each [] fits = record { each = tt }
one_flat element Is each (value ∷ values) fits =
    each value (fits 0 value (omega arith))
    ⊕ one_flat element Is each values (λ k d h. fits (suc k) d (omega arith))

pub one_array : {X : Type 0} (element : X → Words) (Is : X → Type 0) → ((x : X) → Is x → AreOne (element x)) →
    (values : List X) → AreFit Is values → AreOne (words.array element values)
one_array element Is each [] fits = one_number 0 (omega arith) ⊕ one_star
one_array element Is each (value ∷ values) fits =
    one_number (length (value ∷ values)) fits.0 ⊕ one_open ⊕ one_flat element Is each (value ∷ values
    ) fits.1 ⊕ one_close
