-- Plain bytes, and the bytes that end them.
use Rattle.std.proofs.Common.{◌≡◌, ℕ, ◌+◌, ◌/◌, ◌%◌, ◌^◌, ◌<◌, ◌≤◌, ◌==◌, ◌||◌, Bool, true, false, if◌then◌else◌}
use Rattle.std.proofs.Common.{List, [], ◌∷◌, ◌++◌, zero, suc, refl, ap, ◌∙◌, sym, arith}
use Rattle.std.specs.Fmt.{decimal, digits, digits_onto, digit_glyph}
use Rattle.std.proofs.lemmas.Bool.Decides.{nat_tests}
use Rattle.kom_types.specs.spellings.Words.{bit_string}

-- a line feed, a space, or the letter H
abbrev pub is_stop : ℕ → Bool
is_stop byte = (byte == 10) || ((byte == 32) || (byte == 72))

-- no byte is a stop
abbrev pub IsPlain : List ℕ → Type 0
IsPlain [] = Unit {0}
IsPlain (byte ∷ bytes) = (is_stop byte ≡ false) × IsPlain bytes

-- two plain lists, each before a stop, that begin the same bytes are one
pub plain_then_stop : (ws vs : List ℕ) (c d : ℕ) (r s : List ℕ) → IsPlain ws → IsPlain vs →
    is_stop c ≡ true → is_stop d ≡ true → ws ++ c ∷ r ≡ vs ++ d ∷ s → (ws ≡ vs) × (c ≡ d) × (r ≡ s)
plain_then_stop [] [] c d r s plain plain' stop stop' same = (refl, cc, cc)
plain_then_stop [] (v ∷ vs) c d r s plain plain' stop stop' same =
    let is : c ≡ v = cc in
    let no : true ≡ false = sym stop ∙ ap is_stop is ∙ plain'.0 in
    cc
plain_then_stop (w ∷ ws) [] c d r s plain plain' stop stop' same =
    let is : d ≡ w = cc in
    let no : true ≡ false = sym stop' ∙ ap is_stop is ∙ plain.0 in
    cc
plain_then_stop (w ∷ ws) (v ∷ vs) c d r s plain plain' stop stop' same =
    let is : w ≡ v = cc in
    let rest : ws ++ c ∷ r ≡ vs ++ d ∷ s = cc in
    let cut = plain_then_stop ws vs c d r s plain.1 plain'.1 stop stop' rest in
    (cc, cut.1, cut.2)

-- a digit is no stop
is_stop-digit : (byte : ℕ) → 48 ≤ byte → byte < 58 → is_stop byte ≡ false
is_stop-digit byte low high = grind (arith, nat_tests)

-- nor is what stands for one
is_stop-glyph : (digit : ℕ) → is_stop (digit_glyph false digit) ≡ false
is_stop-glyph digit = grind (arith, nat_tests)

-- digits before plain bytes are plain
IsPlain-digits : (k n : ℕ) (rest : List ℕ) → IsPlain rest → IsPlain (digits_onto k 10 false n rest)
IsPlain-digits zero n rest plain = plain
IsPlain-digits (suc k) n rest plain =
    elim (n / 10 == 0) as (λ (last : Bool). IsPlain (if last then digit_glyph false (n % 10) ∷ rest
    else digits_onto k 10 false (n / 10) (digit_glyph false (n % 10) ∷ rest))) [
      | true ↦ (is_stop-glyph (n % 10), plain)
      | false ↦ IsPlain-digits k (n / 10) (digit_glyph false (n % 10) ∷ rest) (is_stop-glyph (n % 10), plain)
    ]

-- a number's digits are plain
pub IsPlain-decimal : (n : ℕ) → IsPlain (decimal n)
unfolding digits
IsPlain-decimal n = IsPlain-digits 64 n [] tt

-- and so are bits
pub IsPlain-bit_string : (bits width : ℕ) → IsPlain (bit_string bits width)
IsPlain-bit_string bits zero = tt
IsPlain-bit_string bits (suc width) =
    (is_stop-digit (48 + bits / 2 ^ width % 2) (omega arith) (omega arith), IsPlain-bit_string bits width)
