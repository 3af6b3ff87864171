-- What is sent reads as it was typed.
use Rattle.std.proofs.Common.{◌≡◌, ℕ, zero, suc, Bool, true, false, not, ◌&&◌, nat_lt, List, [], ◌∷◌}
use Rattle.std.proofs.Common.{IsUtf8, refl, sym, ap, ◌∙◌, subst, arith}
use Rattle.std.specs.List.{list_any, list_all}
use Rattle.std.specs.Str.{chars, IsAscii, is_utf8}
use Rattle.std.proofs.lemmas.Bool.{and_parts, true≢false}
use Rattle.std.proofs.lemmas.Bool.Decides.{nat_tests}
use Rattle.std.proofs.lemmas.Str.{chars_from_encodes, chars-IsAscii, is_utf8-from_IsUtf8, IsUtf8-from_is_utf8}
use Rattle.bstr.specs.Utf8.{lossy_chars}
use Rattle.bstr.proofs.lemmas.EncodeLemmas.{lossy_chars-utf8}
use Rattle.kom_letters.specs.Charsets.{charset_at, reads_as_utf8}
use Rattle.kom_letters.specs.Typing.{fits_latin1, goes_as_latin1, IsAsTyped}

-- UTF-8 is read as its letters
pub decoded_text : (bytes : List ℕ) → IsUtf8 bytes → lossy_chars bytes ≡ chars bytes
decoded_text bytes text = chars_from_encodes (lossy_chars bytes) bytes text (lossy_chars-utf8 bytes text)

-- bytes that are ASCII alone
ascii : (bytes : List ℕ) → list_any (nat_lt 127) bytes ≡ false → IsAscii bytes
ascii [] none i = omega arith
ascii (b ∷ bytes) none zero = grind (arith, nat_tests)
ascii (b ∷ bytes) none (suc i) =
    let rest : list_any (nat_lt 127) bytes ≡ false = grind (arith, nat_tests) in ascii bytes rest i

ascii_fits : (bytes : List ℕ) → list_any (nat_lt 127) bytes ≡ false → list_all (λ c. nat_lt c 256) bytes ≡ true
ascii_fits [] none = refl
ascii_fits (b ∷ bytes) none =
    let rest : list_any (nat_lt 127) bytes ≡ false = grind (arith, nat_tests) in
    let others : list_all (λ c. nat_lt c 256) bytes ≡ true = ascii_fits bytes rest in
    grind (arith, nat_tests)

ascii_goes : (bytes : List ℕ) → list_any (nat_lt 127) bytes ≡ false → goes_as_latin1 bytes ≡ true
unfolding fits_latin1 reads_as_utf8
ascii_goes bytes none = rw (ascii_fits bytes none, none) refl

-- a text that does not go as ISO 8859-1 is read as UTF-8
pub reads_back : (typed : List ℕ) → IsUtf8 typed → goes_as_latin1 (chars typed) ≡ false → reads_as_utf8 typed ≡ true
unfolding reads_as_utf8
reads_back typed text other =
    elim (list_any (nat_lt 127) typed) as
    (λ b. list_any (nat_lt 127) typed ≡ b → (b && is_utf8 typed) ≡ true) [
      | true ↦ λ some. is_utf8-from_IsUtf8 typed text
      | false ↦ λ none. absurd (true≢false (sym (ascii_goes typed none)
          ∙ sym (ap goes_as_latin1 (chars-IsAscii typed (ascii typed none))) ∙ other))
    ] refl

-- what is sent as UTF-8, and as ISO 8859-1
pub utf8_as_typed : (typed body : List ℕ) → body ≡ typed → IsUtf8 typed → goes_as_latin1 (chars typed) ≡ false
    → IsAsTyped (chars typed) body true
unfolding charset_at
utf8_as_typed typed body is text other =
    subst (λ (bytes : List ℕ). IsAsTyped (chars typed) bytes true) (sym is) (record {
      told = decoded_text typed text;
      untold = rw (reads_back typed text other) (decoded_text typed text);
      latin1 = sym (ap not other);
    })

pub latin1_as_typed : (typed body : List ℕ) → body ≡ chars typed → goes_as_latin1 (chars typed) ≡ true
    → IsAsTyped (chars typed) body false
latin1_as_typed typed body is goes =
    let unread : reads_as_utf8 (chars typed) ≡ false = not_true
    (and_parts (fits_latin1 (chars typed)) (not (reads_as_utf8 (chars typed))) goes).1 in
    subst (λ (bytes : List ℕ). IsAsTyped (chars typed) bytes false) (sym is) (record {
      told = rw unread refl;
      untold = rw unread refl;
      latin1 = sym (ap not goes);
    })
  where
    not_true : {b : Bool} → not b ≡ true → b ≡ false
    not_true {b = true} e = sym e
    not_true {b = false} e = refl

-- bytes that are no UTF-8
pub is_utf8_false : (bytes : List ℕ) → ¬ (IsUtf8 bytes) → false ≡ is_utf8 bytes
is_utf8_false bytes fault = elim (is_utf8 bytes) as (λ b. is_utf8 bytes ≡ b → false ≡ b) [
  | true ↦ λ e. absurd (fault (IsUtf8-from_is_utf8 bytes e))
  | false ↦ λ e. refl
] refl
