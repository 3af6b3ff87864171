-- Numbers that digits spell.
use Rattle.std.proofs.Common.{◌≡◌, ℕ, ◌+◌, ◌<◌, ◌≤◌, ◌*◌, ◌-◌, ◌^◌, ◌==◌, ◌&&◌, min, Bool, true, false, IsTrue, List}
use Rattle.std.proofs.Common.{[], ◌∷◌, ◌++◌, take, length, get_or, zero, suc, refl, sym, ap, ◌∙◌, arith, subst}
use Rattle.std.proofs.Common.{Option, Some, None}
use Rattle.std.specs.Prelude.{IfSome, IfNone}
use Rattle.std.specs.List.{list_all}
use Rattle.std.proofs.lemmas.List.{take_more, take_all}
use Rattle.std.proofs.lemmas.List.Sums.{fold-append}
use Rattle.std.proofs.lemmas.List.Folds.{list_all_more}
use Rattle.kom_types.specs.ByteKind.{is_digit}
use Rattle.kom_sweep.specs.Due.{number_in}
use Rattle.kom_sweep.specs.Names.{names_number}

spelled_push : (digits : List ℕ) (digit : ℕ) → number_in (digits ++ digit ∷ []) ≡ number_in digits * 10 + (digit - 48)
spelled_push digits digit = fold-append (λ number digit. number * 10 + (digit - 48)) 0 digits (digit ∷ [])

capped : (n d m : ℕ) → min (min n m * 10 + d) m ≡ min (n * 10 + d) m
capped n d m = omega arith

-- one digit more, up to a number that no text has
pub spelled_more : (content : List ℕ) (i d number : ℕ) → i < length content →
    number ≡ min (number_in (take i content)) (2 ^ 32) →
    min (number * 10 + (get_or content i d - 48)) (2 ^ 32) ≡ min (number_in (take (i + 1) content)) (2 ^ 32)
spelled_more content i d number less is =
    ap (λ n. min (n * 10 + (get_or content i d - 48)) (2 ^ 32)) is
    ∙ capped (number_in (take i content)) (get_or content i d - 48) (2 ^ 32)
    ∙ ap (λ n. min n (2 ^ 32)) (sym (spelled_push (take i content) (get_or content i d)))
    ∙ ap (λ digits. min (number_in digits) (2 ^ 32)) (sym (take_more content i d less))

pub digits_more : (content : List ℕ) (i d : ℕ) → i < length content → IsTrue (list_all is_digit (take i content)) →
    is_digit (get_or content i d) ≡ true → IsTrue (list_all is_digit (take (i + 1) content))
digits_more content i d less all one =
    list_all_more is_digit content i d less ∙ ap (λ b. b && is_digit (get_or content i d)) all ∙ one

-- where one byte is no digit, not all are
pub not_digits : (content : List ℕ) (i d : ℕ) → i < length content → is_digit (get_or content i d) ≡ false →
    list_all is_digit content ≡ false
not_digits [] i d less other = absurd (omega arith)
not_digits (byte ∷ content) zero d less other = ap (λ b. b && list_all is_digit content) other
not_digits (byte ∷ content) (suc i) d less other =
    ap (λ b. is_digit byte && b) (not_digits content i d (omega arith) other) ∙ by (is_digit byte)
  where
    by : (b : Bool) → (b && false) ≡ false
    by true = refl
    by false = refl

-- the number is read, where it is one that a text may have
pub number_read : (content : List ℕ) (number text : ℕ) → IsTrue (list_all is_digit (take (length content) content)) →
    number ≡ min (number_in (take (length content) content)) (2 ^ 32) → number < 2 ^ 32 →
    (list_all is_digit content && (number_in content == text)) ≡ names_number (Some number) text
number_read content number text all is less =
    let whole = take_all (length content) content (omega arith) in
    ap (λ b. b && (number_in content == text)) (sym (ap (list_all is_digit) whole) ∙ all)
    ∙ ap (λ n. n == text) (sym (omega (arith, is ∙ ap (λ digits. min (number_in digits) (2 ^ 32)) whole)))

pub number_past : (content : List ℕ) (number text : ℕ) →
    number ≡ min (number_in (take (length content) content)) (2 ^ 32) →
    2 ^ 32 ≤ number → text < 2 ^ 32 → (list_all is_digit content && (number_in content == text)) ≡ false
number_past content number text is past less =
    let whole = take_all (length content) content (omega arith) in
    let great : 2 ^ 32 ≤ number_in content = omega (arith, is ∙ ap (λ digits. min (number_in digits) (2 ^ 32)) whole) in
    ap (λ b. list_all is_digit content && b) (other (number_in content) great) ∙ by (list_all is_digit content)
  where
    other : (n : ℕ) → 2 ^ 32 ≤ n → (n == text) ≡ false
    other n great = grind arith

    by : (b : Bool) → (b && false) ≡ false
    by true = refl
    by false = refl

pub none_read : (content : List ℕ) (text : ℕ) → list_all is_digit content ≡ false →
    (list_all is_digit content && (number_in content == text)) ≡ names_number None text
none_read content text e = ap (λ b. b && (number_in content == text)) e

whole : (content : List ℕ) (i : ℕ) → length content ≤ i → take (length content) content ≡ take i content
whole content i past = take_all (length content) content (omega arith) ∙ sym (take_all i content past)

-- what was read of all bytes
pub number_known : (content : List ℕ) (i number text : ℕ) (result : Option ℕ) → length content ≤ i →
    IsTrue (list_all is_digit (take i content)) → number ≡ min (number_in (take i content)) (2 ^ 32) → text < 2 ^ 32 →
    IfSome result (λ one. (one ≡ number) × (number < 2 ^ 32)) → IfNone result (2 ^ 32 ≤ number) →
    (list_all is_digit content && (number_in content == text)) ≡ names_number result text
number_known content i number text (Some one) past all is small (same, less) none =
    number_read content one text (ap (list_all is_digit) (whole content i past) ∙ all)
    (same ∙ is ∙ ap (λ digits. min (number_in digits) (2 ^ 32)) (sym (whole content i past)))
    (subst (λ (n : ℕ). n < 2 ^ 32) (sym same) less)
number_known content i number text None past all is small some past_all =
    number_past content number text (is ∙ ap (λ digits. min (number_in digits) (2 ^ 32)) (sym (whole content i past)))
    past_all small
