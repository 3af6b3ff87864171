-- The words that lines are made of, and that such a line ends in one place only.
use Rattle.std.proofs.Common.{◌≡◌, ℕ, ◌^◌, ◌<◌, ◌==◌, ◌||◌, Bool, true, false}
use Rattle.std.proofs.Common.{List, [], ◌∷◌, ◌++◌, length, refl, ap, ◌∙◌, sym, arith, append_assoc, length-append}
use Rattle.std.specs.Fmt.{decimal}
use Rattle.std.proofs.lemmas.Bool.Decides.{nat_tests}
use Rattle.std.specs.List.{join_with_byte, flat_map}
use Rattle.kom_types.specs.Printing.{line_of}
use Rattle.kom_types.specs.spellings.Words.{Words, hollerith}
use Rattle.kom_replies.proofs.Digits.{decimal_tells}
use Rattle.kom_replies.proofs.Stops.{IsPlain, is_stop, IsPlain-decimal, plain_then_stop}
use Rattle.kom_replies.proofs.WrittenWords.{total}

-- a word of a line: plain, or a string after its length
pub data IsWord (word : List ℕ) : Type 0 where
  is_plain : IsPlain word → IsWord word
  is_string : (text : List ℕ) → word ≡ hollerith text → IsWord word

-- each is a word of a line
abbrev pub AllWords : Words → Type 0
AllWords [] = Unit {0}
AllWords (word ∷ words) = IsWord word × AllWords words

-- the same as a record, whose words a lemma finds from it
pub record AreWords (words : Words) : Type 0 where
  pub each : AllWords words

AllWords-append : (xs ys : Words) → AllWords xs → AllWords ys → AllWords (xs ++ ys)
AllWords-append [] ys left right = right
AllWords-append (x ∷ xs) ys left right = (left.0, AllWords-append xs ys left.1 right)

-- words of a line after words of a line
infixl 65 ◌⊕◌
pub ◌⊕◌ : {xs ys : Words} → AreWords xs → AreWords ys → AreWords (xs ++ ys)
◌⊕◌ {xs} {ys} left right = record { each = AllWords-append xs ys left.each right.each }

AllWords-flat_map : {X : Type 0} (element : X → Words) → ((x : X) → AreWords (element x)) → (values : List X) →
    AllWords (flat_map element values)
AllWords-flat_map element each [] = tt
AllWords-flat_map element each (value ∷ values) =
    AllWords-append (element value) (flat_map element values) (each value).each (AllWords-flat_map element each values)

-- what each value is spelled as, in a row
pub AreWords-flat_map : {X : Type 0} (element : X → Words) → ((x : X) → AreWords (element x)) → (values : List X) →
    AreWords (flat_map element values)
AreWords-flat_map element each values = record { each = AllWords-flat_map element each values }

-- two lists of one length that begin the same bytes are one
same_length : (xs ys r s : List ℕ) → length xs ≡ length ys → xs ++ r ≡ ys ++ s → (xs ≡ ys) × (r ≡ s)
same_length [] [] r s long same = (refl, same)
same_length [] (y ∷ ys) r s long same = absurd (omega arith)
same_length (x ∷ xs) [] r s long same = absurd (omega arith)
same_length (x ∷ xs) (y ∷ ys) r s long same =
    let rest : xs ++ r ≡ ys ++ s = cc in
    let cut = same_length xs ys r s (omega arith) rest in
    let is : x ≡ y = cc in
    (cc, cut.1)

-- what comes after a word of a line: a space or a line feed
abbrev is_end : ℕ → Bool
is_end byte = (byte == 32) || (byte == 10)

-- an end is a stop
is_stop-end : (byte : ℕ) → is_end byte ≡ true → is_stop byte ≡ true
is_stop-end byte end = grind (arith, nat_tests)

-- a plain word before an end begins no string
plain_no_string : (word text : List ℕ) (c : ℕ) (r s : List ℕ) → IsPlain word → is_end c ≡ true →
    word ++ c ∷ r ≡ hollerith text ++ s → ⊥
plain_no_string word text c r s plain end same =
    let cut = plain_then_stop word (decimal (length text)) c 72 r (text ++ s) plain (IsPlain-decimal (length text))
    (is_stop-end c end) refl (same ∙ append_assoc (decimal (length text)) (72 ∷ text) s) in
    let no : false ≡ true = ap is_end (sym cut.1) ∙ end in
    cc

-- two strings that begin the same bytes are one
string_then_more : (text other r s : List ℕ) → length text < 2 ^ 64 → hollerith text ++ r ≡ hollerith other ++ s →
    (text ≡ other) × (r ≡ s)
string_then_more text other r s short same =
    let cut = plain_then_stop (decimal (length text)) (decimal (length other)) 72 72 (text ++ r) (other ++ s)
    (IsPlain-decimal (length text)) (IsPlain-decimal (length other)) refl refl
    (sym (append_assoc (decimal (length text)) (72 ∷ text) r) ∙ same
    ∙ append_assoc (decimal (length other)) (72 ∷ other) s) in
    same_length text other r s (decimal_tells (length text) (length other) short cut.0) cut.2

-- two words, each before an end, that begin the same bytes are one
word_then_end : (w v : List ℕ) (c d : ℕ) (r s : List ℕ) → IsWord w → IsWord v → length w < 2 ^ 64 →
    is_end c ≡ true → is_end d ≡ true → w ++ c ∷ r ≡ v ++ d ∷ s → (w ≡ v) × (c ≡ d) × (r ≡ s)
word_then_end w v c d r s (is_plain p) (is_plain q) short end end' same =
    plain_then_stop w v c d r s p q (is_stop-end c end) (is_stop-end d end') same
word_then_end w v c d r s (is_plain p) (is_string text is) short end end' same =
    absurd (plain_no_string w text c r (d ∷ s) p end (same ∙ ap (λ word. word ++ d ∷ s) is))
word_then_end w v c d r s (is_string text is) (is_plain q) short end end' same =
    absurd (plain_no_string v text d s (c ∷ r) q end' (sym same ∙ ap (λ word. word ++ c ∷ r) is))
word_then_end w v c d r s (is_string text is) (is_string other is') short end end' same =
    let long = ap length is ∙ length-append (decimal (length text)) (72 ∷ text) in
    let cut = string_then_more text other (c ∷ r) (d ∷ s) (omega (arith, long, short))
    (ap (λ word. word ++ c ∷ r) (sym is) ∙ same ∙ ap (λ word. word ++ d ∷ s) is') in
    let more : c ∷ r ≡ d ∷ s = cut.1 in
    (is ∙ ap hollerith cut.0 ∙ sym is', cc, cc)

-- a line is its first word, a space and the line of the others
line_goes_on : (word next : List ℕ) (words : Words) (r : List ℕ) →
    line_of (word ∷ next ∷ words) ++ r ≡ word ++ 32 ∷ (line_of (next ∷ words) ++ r)
line_goes_on word next words r =
    ap (λ line. line ++ r) (append_assoc word (32 ∷ join_with_byte 32 (next ∷ words)) (10 ∷ []))
    ∙ append_assoc word (32 ∷ line_of (next ∷ words)) r

-- two lines of words that begin the same bytes are one
pub line_then_more : (w v : List ℕ) (ws vs : Words) (r s : List ℕ) → AllWords (w ∷ ws) → AllWords (v ∷ vs) →
    total (w ∷ ws) < 2 ^ 64 → line_of (w ∷ ws) ++ r ≡ line_of (v ∷ vs) ++ s → (w ∷ ws ≡ v ∷ vs) × (r ≡ s)
unfolding total
line_then_more w v [] [] r s are are' short same =
    let cut = word_then_end w v 10 10 r s are.0 are'.0 (omega arith) refl refl
    (sym (append_assoc w (10 ∷ []) r) ∙ same ∙ append_assoc v (10 ∷ []) s) in
    (cc, cut.2)
line_then_more w v [] (y ∷ vs) r s are are' short same =
    let cut = word_then_end w v 10 32 r (line_of (y ∷ vs) ++ s) are.0 are'.0 (omega arith) refl refl
    (sym (append_assoc w (10 ∷ []) r) ∙ same ∙ line_goes_on v y vs s) in
    absurd (omega (arith, cut.1))
line_then_more w v (x ∷ ws) [] r s are are' short same =
    let cut = word_then_end w v 32 10 (line_of (x ∷ ws) ++ r) s are.0 are'.0 (omega arith) refl refl
    (sym (line_goes_on w x ws r) ∙ same ∙ append_assoc v (10 ∷ []) s) in
    absurd (omega (arith, cut.1))
line_then_more w v (x ∷ ws) (y ∷ vs) r s are are' short same =
    let cut = word_then_end w v 32 32 (line_of (x ∷ ws) ++ r) (line_of (y ∷ vs) ++ s) are.0 are'.0
    (omega arith) refl refl (sym (line_goes_on w x ws r) ∙ same ∙ line_goes_on v y vs s) in
    let rest = line_then_more x y ws vs r s are.1 are'.1 (omega arith) cut.2 in
    let is : w ≡ v = cut.0 in
    let others : x ∷ ws ≡ y ∷ vs = rest.0 in
    (cc, rest.1)
