-- A greeting read byte by byte is the greeting that the grammar reads.
use Rattle.std.proofs.Common.{◌≡◌, ℕ, ◌+◌, ◌*◌, ◌-◌, ◌<◌, ◌≤◌, Bool, true, false, ◌&&◌, eqb, leb, ltb, List, [], ◌∷◌}
use Rattle.std.proofs.Common.{◌++◌, length, drop, refl, sym, ap, ◌∙◌, inl, inr, arith, append_assoc}
use Rattle.std.specs.List.{take_while}
use Rattle.std.proofs.lemmas.Bool.{cases_Bool, cases_lt, both_ways, and_right, and_left, and_from, le-leb, lt-leb}
use Rattle.std.proofs.lemmas.Bool.{lt-ltb, le-ltb, ne_eqb}
use Rattle.std.proofs.lemmas.List.{append-nil, length-append, length_push}
use Rattle.std.proofs.lemmas.List.Sums.{fold_push}
use Rattle.kom_types.specs.declared.limits.TheConstants.{LONGEST_USER_NAME}
use Rattle.kom_types.specs.declared.side.Side.{Side}
use Rattle.kom_types.specs.declared.side.Side.TheVariants as sides
use Rattle.kom_types.specs.declared.byte_kind.ByteKind.{ByteKind}
use Rattle.kom_types.specs.declared.byte_kind.ByteKind.TheVariants as kind
use Rattle.kom_types.specs.ByteKind.{is_blank, is_digit, kind_of}
use Rattle.kom_types.specs.Token.{number_of}
use Rattle.kom_types.specs.Grammar.{Form, Prefix, Whole, Unfit, drop_while, exactly, is_name_length, name_at}
use Rattle.kom_types.specs.Grammar.{client_greeting, letters_at, welcome, greeting_form}
use Rattle.kom_framing.specs.Splitting.{Opening, Letter, Length, Name, Letters, opening_from, client_opening}
use Rattle.kom_framing.specs.Splitting.{opening_of}
use Rattle.kom_framing.specs.Hearing.{Greets, Going, Ended, Stuck, name_from, hear_after_letter, hear_in_length, next}
use Rattle.kom_framing.specs.Hearing.{letters_from, onward, hear_all}
use Rattle.kom_framing.proofs.Looks.{look, blank, feed, digit, hollerith, open_brace, close_brace, star, sign_byte}
use Rattle.kom_framing.proofs.Looks.{other}
use Rattle.kom_framing.proofs.Lists.{take_while-yes, take_while-no, drop_while-yes, drop_while-no, HeadFails}
use Rattle.kom_framing.proofs.Lists.{head_fails}

-- what the definitions choose by a test
abbrev choice : {X : Type 0} → Bool → X → X → X
choice b x y = elim b [ true ↦ x | false ↦ y ]

-- the state of a greeting of this form, of which this is kept
abbrev pub told : Form (List ℕ) → Opening → Greets
told Prefix opening = Going opening
told (Whole name) opening = Ended name
told Unfit opening = Stuck

pub onward-stuck : (bytes : List ℕ) → onward Stuck bytes ≡ Stuck
onward-stuck [] = refl
onward-stuck (byte ∷ bytes) = onward-stuck bytes

-- ---- the name

abbrev told_name : ℕ → List ℕ → Greets
told_name count name = told (exactly count name) (Name count name)

name_told : (count : ℕ) (name : List ℕ) → name_from count name ≡ told_name count name
name_told count name = elim (cases_Bool (ltb (length name) count)) [
  | inl e ↦ ap (λ (b : Bool). choice b (Going (Name count name)) (choice (eqb (length name) count) (Ended name) Stuck))
      e
      ∙ sym (ap
      (λ (b : Bool). told (choice b Prefix (choice (eqb (length name) count) (Whole name) Unfit)) (Name count name))
      e)
  | inr e ↦ elim (cases_Bool (eqb (length name) count)) [
    | inl same ↦ ap
        (λ (b : Bool). choice b (Going (Name count name)) (choice (eqb (length name) count) (Ended name) Stuck)) e
        ∙ ap (λ (b : Bool). choice b (Ended name) Stuck) same
        ∙ sym (ap (λ (b : Bool). told (choice b Prefix (choice (eqb (length name) count) (Whole name) Unfit))
        (Name count name)) e
        ∙ ap (λ (b : Bool). told (choice b (Whole name) Unfit) (Name count name)) same)
    | inr same ↦ ap
        (λ (b : Bool). choice b (Going (Name count name)) (choice (eqb (length name) count) (Ended name) Stuck)) e
        ∙ ap (λ (b : Bool). choice b (Ended name) Stuck) same
        ∙ sym (ap (λ (b : Bool). told (choice b Prefix (choice (eqb (length name) count) (Whole name) Unfit))
        (Name count name)) e
        ∙ ap (λ (b : Bool). told (choice b (Whole name) Unfit) (Name count name)) same)
  ]
]

name_full : (count : ℕ) (name : List ℕ) (byte : ℕ) → count ≤ length name → next (name_from count name) byte ≡ Stuck
name_full count name byte full = elim (cases_Bool (eqb (length name) count)) [
  | inl same ↦ ap (λ (b : Bool). next
      (choice b (Going (Name count name)) (choice (eqb (length name) count) (Ended name) Stuck)) byte)
      (le-ltb (length name) count full)
      ∙ ap (λ (b : Bool). next (choice b (Ended name) Stuck) byte) same
  | inr same ↦ ap (λ (b : Bool). next
      (choice b (Going (Name count name)) (choice (eqb (length name) count) (Ended name) Stuck)) byte)
      (le-ltb (length name) count full)
      ∙ ap (λ (b : Bool). next (choice b (Ended name) Stuck) byte) same
]

name_short : (count : ℕ) (name : List ℕ) (byte : ℕ) → length name < count
    → next (name_from count name) byte ≡ name_from count (name ++ byte ∷ [])
name_short count name byte short =
    ap
    (λ (b : Bool). next (choice b (Going (Name count name)) (choice (eqb (length name) count) (Ended name) Stuck)) byte)
    (lt-ltb (length name) count short)

too_long : (count : ℕ) (name : List ℕ) → count < length name → told_name count name ≡ Stuck
too_long count name long =
    ap (λ (b : Bool). told (choice b Prefix (choice (eqb (length name) count) (Whole name) Unfit)) (Name count name))
    (le-ltb (length name) count (omega arith))
    ∙ ap (λ (b : Bool). told (choice b (Whole name) Unfit) (Name count name))
    (ne_eqb (length name) count (λ e. omega arith))

name_onward : (count : ℕ) (name rest : List ℕ) → onward (name_from count name) rest ≡ told_name count (name ++ rest)
name_onward count name [] = name_told count name ∙ sym (ap (told_name count) (append-nil name))
name_onward count name (byte ∷ rest) = elim (cases_lt (length name) count) [
  | inl lt ↦ ap (λ (s : Greets). onward s rest) (name_short count name byte lt)
      ∙ name_onward count (name ++ byte ∷ []) rest ∙ ap (told_name count) (append_assoc name (byte ∷ []) rest)
  | inr le ↦ ap (λ (s : Greets). onward s rest) (name_full count name byte le) ∙ onward-stuck rest
      ∙ sym (too_long count (name ++ byte ∷ rest) (omega (arith, length-append name (byte ∷ rest))))
]

-- ---- the length of the name

abbrev told_run : List ℕ → List ℕ → Greets
told_run digits rest = told (name_at digits rest) (opening_from digits rest)

run_prefix : (byte : ℕ) (digits : List ℕ) → length (byte ∷ digits) ≤ 4
    → told_run (byte ∷ digits) [] ≡ Going (Length (length (byte ∷ digits)) (number_of (byte ∷ digits)))
run_prefix byte digits short =
    ap (λ (b : Bool). told (choice b Prefix Unfit) (opening_from (byte ∷ digits) []))
    (le-leb (length (byte ∷ digits)) 4 short)

run_stuck : (digits : List ℕ) (byte : ℕ) (rest : List ℕ) → (eqb byte 72 && is_name_length digits) ≡ false
    → told_run digits (byte ∷ rest) ≡ Stuck
run_stuck digits byte rest e =
    ap (λ (b : Bool). told (choice b (exactly (number_of digits) rest) Unfit) (opening_from digits (byte ∷ rest))) e

run_long : (digits rest : List ℕ) → 4 < length digits → told_run digits rest ≡ Stuck
run_long digits [] long =
    ap (λ (b : Bool). told (choice b Prefix Unfit) (opening_from digits [])) (lt-leb (length digits) 4 long)
run_long digits (byte ∷ rest) long =
    run_stuck digits byte rest (and_right _ _ (and_left _ _ (and_right _ _ (lt-leb (length digits) 4 long))))

run_name : (first : ℕ) (digits : List ℕ) (byte : ℕ) (rest : List ℕ) → eqb byte 72 ≡ true
    → is_name_length (first ∷ digits) ≡ true
    → told_run (first ∷ digits) (byte ∷ rest) ≡ told_name (number_of (first ∷ digits)) rest
run_name first digits byte rest h e =
    ap (λ (b : Bool). told (choice b (exactly (number_of (first ∷ digits)) rest) Unfit)
    (Name (number_of (first ∷ digits)) rest)) (and_from _ _ h e)

is_length : (first : ℕ) (digits : List ℕ) → length (first ∷ digits) ≤ 4
    → is_name_length (first ∷ digits) ≡ leb (number_of (first ∷ digits)) LONGEST_USER_NAME
is_length first digits short =
    ap (λ (b : Bool). b && leb (length (first ∷ digits)) 4 && leb (number_of (first ∷ digits)) LONGEST_USER_NAME)
    (le-leb 1 (length (first ∷ digits)) (omega arith))
    ∙ ap (λ (b : Bool). b && leb (number_of (first ∷ digits)) LONGEST_USER_NAME)
    (le-leb (length (first ∷ digits)) 4 short)

-- a run with what is after it, in a greeting that has these digits of it already
abbrev told_from : List ℕ → List ℕ → Greets
told_from digits bytes = told_run (digits ++ take_while is_digit bytes) (drop_while is_digit bytes)

told_from-ended : (digits : List ℕ) (byte : ℕ) (bytes : List ℕ) → is_digit byte ≡ false
    → told_from digits (byte ∷ bytes) ≡ told_run digits (byte ∷ bytes)
told_from-ended digits byte bytes e =
    ap (λ (t : List ℕ). told_run (digits ++ t) (drop_while is_digit (byte ∷ bytes)))
    (take_while-no is_digit byte bytes e)
    ∙ ap (λ (d : List ℕ). told_run d (drop_while is_digit (byte ∷ bytes))) (append-nil digits)
    ∙ ap (told_run digits) (drop_while-no is_digit byte bytes e)

told_from-digit : (digits : List ℕ) (byte : ℕ) (bytes : List ℕ) → is_digit byte ≡ true
    → told_from digits (byte ∷ bytes) ≡ told_from (digits ++ byte ∷ []) bytes
told_from-digit digits byte bytes e =
    ap (λ (t : List ℕ). told_run (digits ++ t) (drop_while is_digit (byte ∷ bytes)))
    (take_while-yes is_digit byte bytes e)
    ∙ ap (λ (d : List ℕ). told_run d (drop_while is_digit (byte ∷ bytes)))
    (sym (append_assoc digits (byte ∷ []) (take_while is_digit bytes)))
    ∙ ap (told_run ((digits ++ byte ∷ []) ++ take_while is_digit bytes)) (drop_while-yes is_digit byte bytes e)

abbrev in_length : List ℕ → Greets
in_length digits = Going (Length (length digits) (number_of digits))

in_length-push : (digits : List ℕ) (byte : ℕ)
    → Going (Length (length digits + 1) (10 * number_of digits + (byte - 48))) ≡ in_length (digits ++ byte ∷ [])
in_length-push digits byte =
    ap (λ (n : ℕ). Going (Length n (10 * number_of digits + (byte - 48)))) (sym (length_push digits byte))
    ∙ ap (λ (n : ℕ). Going (Length (length (digits ++ byte ∷ [])) n))
    (sym (fold_push (λ number digit. 10 * number + (digit - 48)) 0 digits byte))

length_kind : (digits : List ℕ) (byte : ℕ) (bytes : List ℕ) (sort : ByteKind) → kind_of byte ≡ sort
    → onward (in_length digits) (byte ∷ bytes)
    ≡ onward (hear_in_length (length digits) (number_of digits) byte sort) bytes
length_kind digits byte bytes sort e =
    ap (λ (k : ByteKind). onward (hear_in_length (length digits) (number_of digits) byte k) bytes) e

length_stuck : (first : ℕ) (digits : List ℕ) (byte : ℕ) (bytes : List ℕ) (sort : ByteKind) → kind_of byte ≡ sort
    → hear_in_length (length (first ∷ digits)) (number_of (first ∷ digits)) byte sort ≡ Stuck → eqb byte 72 ≡ false
    → is_digit byte ≡ false
    → onward (in_length (first ∷ digits)) (byte ∷ bytes) ≡ told_from (first ∷ digits) (byte ∷ bytes)
length_stuck first digits byte bytes sort e stuck h d =
    length_kind (first ∷ digits) byte bytes sort e ∙ ap (λ (s : Greets). onward s bytes) stuck ∙ onward-stuck bytes
    ∙ sym (told_from-ended (first ∷ digits) byte bytes d ∙ run_stuck (first ∷ digits) byte bytes (and_left _ _ h))

length_ends : (first : ℕ) (digits : List ℕ) (byte : ℕ) (bytes : List ℕ) → length (first ∷ digits) ≤ 4
    → kind_of byte ≡ kind.Hollerith → eqb byte 72 ≡ true → is_digit byte ≡ false
    → onward (in_length (first ∷ digits)) (byte ∷ bytes) ≡ told_from (first ∷ digits) (byte ∷ bytes)
length_ends first digits byte bytes short e h d =
    let number = number_of (first ∷ digits) in
    let left = length_kind (first ∷ digits) byte bytes kind.Hollerith e in
    elim (cases_Bool (leb number LONGEST_USER_NAME)) [
      | inl found ↦ left ∙ ap (λ (b : Bool). onward (choice b (name_from number []) Stuck) bytes) found
          ∙ name_onward number [] bytes
          ∙ sym (told_from-ended (first ∷ digits) byte bytes d
          ∙ run_name first digits byte bytes h (is_length first digits short ∙ found))
      | inr none ↦ left ∙ ap (λ (b : Bool). onward (choice b (name_from number []) Stuck) bytes) none
          ∙ onward-stuck bytes
          ∙ sym (told_from-ended (first ∷ digits) byte bytes d
          ∙ run_stuck (first ∷ digits) byte bytes (and_right _ _ (is_length first digits short ∙ none)))
    ]

length_onward : (first : ℕ) (digits bytes : List ℕ) → length (first ∷ digits) ≤ 4
    → onward (in_length (first ∷ digits)) bytes ≡ told_from (first ∷ digits) bytes
length_onward first digits [] short =
    sym (ap (λ (d : List ℕ). told_run d []) (append-nil (first ∷ digits)) ∙ run_prefix first digits short)
length_onward first digits (byte ∷ bytes) short = elim (look byte) [
  | blank l ↦ length_stuck first digits byte bytes kind.Blank l.kind_is refl l.hollerith_is l.digit_is
  | feed l ↦ length_stuck first digits byte bytes kind.LineFeed l.kind_is refl l.hollerith_is l.digit_is
  | digit l ↦ elim (cases_lt (length (first ∷ digits)) 4) [
    | inl lt ↦ length_kind (first ∷ digits) byte bytes kind.Digit l.kind_is
        ∙ ap (λ (b : Bool). onward (choice b
        (Going (Length (length (first ∷ digits) + 1) (10 * number_of (first ∷ digits) + (byte - 48)))) Stuck) bytes)
        (lt-ltb (length (first ∷ digits)) 4 lt)
        ∙ ap (λ (s : Greets). onward s bytes) (in_length-push (first ∷ digits) byte)
        ∙ length_onward first (digits ++ byte ∷ []) bytes (omega (arith, length-append digits (byte ∷ [])))
        ∙ sym (told_from-digit (first ∷ digits) byte bytes l.digit_is)
    | inr le ↦ length_kind (first ∷ digits) byte bytes kind.Digit l.kind_is
        ∙ ap (λ (b : Bool). onward (choice b
        (Going (Length (length (first ∷ digits) + 1) (10 * number_of (first ∷ digits) + (byte - 48)))) Stuck) bytes)
        (le-ltb (length (first ∷ digits)) 4 le)
        ∙ onward-stuck bytes
        ∙ sym (told_from-digit (first ∷ digits) byte bytes l.digit_is
        ∙ run_long (((first ∷ digits) ++ byte ∷ []) ++ take_while is_digit bytes) (drop_while is_digit bytes)
        (omega (
          arith,
          length-append ((first ∷ digits) ++ byte ∷ []) (take_while is_digit bytes),
          length-append (first ∷ digits) (byte ∷ []),
        )))
  ]
  | hollerith l ↦ length_ends first digits byte bytes short l.kind_is l.hollerith_is l.digit_is
  | open_brace l ↦ length_stuck first digits byte bytes kind.Open l.kind_is refl l.hollerith_is l.digit_is
  | close_brace l ↦ length_stuck first digits byte bytes kind.Close l.kind_is refl l.hollerith_is l.digit_is
  | star l ↦ length_stuck first digits byte bytes kind.Star l.kind_is refl l.hollerith_is l.digit_is
  | sign_byte l ↦ length_stuck first digits byte bytes kind.Sign l.kind_is refl l.hollerith_is l.digit_is
  | other l ↦ length_stuck first digits byte bytes kind.Other l.kind_is refl l.hollerith_is l.digit_is
]

-- ---- after the letter

letter_kind : (byte : ℕ) (bytes : List ℕ) (sort : ByteKind) → kind_of byte ≡ sort
    → onward (Going Letter) (byte ∷ bytes) ≡ onward (hear_after_letter byte sort) bytes
letter_kind byte bytes sort e = ap (λ (k : ByteKind). onward (hear_after_letter byte k) bytes) e

not_skipped : (byte : ℕ) (bytes : List ℕ) → is_blank byte ≡ false
    → onward (Going Letter) (byte ∷ bytes) ≡ onward (Going Letter) (drop_while is_blank (byte ∷ bytes))
not_skipped byte bytes e = sym (ap (onward (Going Letter)) (drop_while-no is_blank byte bytes e))

blanks_skipped : (bytes : List ℕ) → onward (Going Letter) bytes ≡ onward (Going Letter) (drop_while is_blank bytes)
blanks_skipped [] = refl
blanks_skipped (byte ∷ bytes) = elim (look byte) [
  | blank l ↦ letter_kind byte bytes kind.Blank l.kind_is ∙ blanks_skipped bytes
      ∙ sym (ap (onward (Going Letter)) (drop_while-yes is_blank byte bytes l.blank_is))
  | feed l ↦ not_skipped byte bytes l.blank_is
  | digit l ↦ not_skipped byte bytes l.blank_is
  | hollerith l ↦ not_skipped byte bytes l.blank_is
  | open_brace l ↦ not_skipped byte bytes l.blank_is
  | close_brace l ↦ not_skipped byte bytes l.blank_is
  | star l ↦ not_skipped byte bytes l.blank_is
  | sign_byte l ↦ not_skipped byte bytes l.blank_is
  | other l ↦ not_skipped byte bytes l.blank_is
]

letter_stuck : (byte : ℕ) (bytes : List ℕ) (sort : ByteKind) → kind_of byte ≡ sort → hear_after_letter byte sort ≡ Stuck
    → is_digit byte ≡ false → onward (Going Letter) (byte ∷ bytes) ≡ told_from [] (byte ∷ bytes)
letter_stuck byte bytes sort e stuck d =
    letter_kind byte bytes sort e ∙ ap (λ (s : Greets). onward s bytes) stuck ∙ onward-stuck bytes
    ∙ sym (told_from-ended [] byte bytes d ∙ run_stuck [] byte bytes (and_right (eqb byte 72) (is_name_length []) refl))

letter_onward : (bytes : List ℕ) → HeadFails is_blank bytes → onward (Going Letter) bytes ≡ told_from [] bytes
letter_onward [] head = refl
letter_onward (byte ∷ bytes) head = elim (look byte) [
  | blank l ↦ absurd (both_ways _ head l.blank_is)
  | feed l ↦ letter_stuck byte bytes kind.LineFeed l.kind_is refl l.digit_is
  | digit l ↦ letter_kind byte bytes kind.Digit l.kind_is
      ∙ ap (λ (n : ℕ). onward (Going (Length 1 n)) bytes) (omega arith)
      ∙ length_onward byte [] bytes (omega arith)
      ∙ sym (told_from-digit [] byte bytes l.digit_is)
  | hollerith l ↦ letter_stuck byte bytes kind.Hollerith l.kind_is refl l.digit_is
  | open_brace l ↦ letter_stuck byte bytes kind.Open l.kind_is refl l.digit_is
  | close_brace l ↦ letter_stuck byte bytes kind.Close l.kind_is refl l.digit_is
  | star l ↦ letter_stuck byte bytes kind.Star l.kind_is refl l.digit_is
  | sign_byte l ↦ letter_stuck byte bytes kind.Sign l.kind_is refl l.digit_is
  | other l ↦ letter_stuck byte bytes kind.Other l.kind_is refl l.digit_is
]

client_told : (bytes : List ℕ) → hear_all sides.Client bytes ≡ told (client_greeting bytes) (client_opening bytes)
client_told [] = refl
client_told (letter ∷ bytes) = elim (cases_Bool (eqb letter 65)) [
  | inl e ↦ ap (λ (b : Bool). onward (choice b (Going Letter) Stuck) bytes) e ∙ blanks_skipped bytes
      ∙ letter_onward (drop_while is_blank bytes) (head_fails is_blank bytes)
      ∙ sym (ap (λ (b : Bool). told (choice b
      (name_at (take_while is_digit (drop_while is_blank bytes)) (drop_while is_digit (drop_while is_blank bytes)))
      Unfit) (client_opening (letter ∷ bytes))) e)
  | inr e ↦ ap (λ (b : Bool). onward (choice b (Going Letter) Stuck) bytes) e ∙ onward-stuck bytes
      ∙ sym (ap (λ (b : Bool). told (choice b
      (name_at (take_while is_digit (drop_while is_blank bytes)) (drop_while is_digit (drop_while is_blank bytes)))
      Unfit) (client_opening (letter ∷ bytes))) e)
]

-- ---- the letters of a server's greeting

letters_onward : (letters bytes : List ℕ)
    → onward (letters_from letters) bytes ≡ told (letters_at letters bytes) (Letters (drop (length bytes) letters))
letters_onward [] [] = refl
letters_onward [] (byte ∷ bytes) = onward-stuck bytes
letters_onward (letter ∷ letters) [] = refl
letters_onward (letter ∷ letters) (byte ∷ bytes) = elim (cases_Bool (eqb byte letter)) [
  | inl e ↦ ap (λ (b : Bool). onward (choice b (letters_from letters) Stuck) bytes) e ∙ letters_onward letters bytes
      ∙ sym (ap (λ (b : Bool). told (choice b (letters_at letters bytes) Unfit) (Letters (drop (length bytes) letters)))
      e)
  | inr e ↦ ap (λ (b : Bool). onward (choice b (letters_from letters) Stuck) bytes) e ∙ onward-stuck bytes
      ∙ sym (ap (λ (b : Bool). told (choice b (letters_at letters bytes) Unfit) (Letters (drop (length bytes) letters)))
      e)
]

-- the greeting of these bytes is what was heard, and what is kept of it is what the definition keeps
pub heard-told : (side : Side) (bytes : List ℕ)
    → hear_all side bytes ≡ told (greeting_form side bytes) (opening_of side bytes)
heard-told sides.Client bytes = client_told bytes
heard-told sides.Server bytes = letters_onward welcome bytes
