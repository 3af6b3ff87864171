-- A run of digits with what is after it, as the grammar reads it.
use Rattle.std.proofs.Common.{◌≡◌, ℕ, ◌<◌, ◌≤◌, Bool, true, false, eqb, List, [], ◌∷◌, ◌++◌, length}
use Rattle.std.proofs.Common.{refl, sym, ap, ◌∙◌, inl, inr, arith, append_assoc}
use Rattle.std.specs.List.{take_while}
use Rattle.std.proofs.lemmas.Bool.{cases_Bool, and_left, le-leb, lt-leb}
use Rattle.std.proofs.lemmas.List.{append-nil}
use Rattle.kom_types.specs.ByteKind.{is_digit}
use Rattle.kom_types.specs.Token.{Digits, number_of, is_integer}
use Rattle.kom_types.specs.Grammar.{Form, Prefix, Whole, Unfit, Cut, drop_while, string_at, run_at}
use Rattle.kom_framing.specs.Scanning.{AreDigits}
use Rattle.kom_framing.proofs.Lists.{take_while-yes, take_while-no, drop_while-yes, drop_while-no}

-- what the definitions choose by a test
abbrev pub choice : {X : Type 0} → Bool → X → X → X
choice b x y = elim b [ true ↦ x | false ↦ y ]

pub run_prefix : (digits : List ℕ) → length digits ≤ 16 → run_at digits [] ≡ Prefix
run_prefix digits short = rw (le-leb (length digits) 16 short, run_at) refl

pub run_cut : (digits : List ℕ) (byte : ℕ) (bytes : List ℕ) → eqb byte 72 ≡ false → length digits ≤ 16
    → run_at digits (byte ∷ bytes) ≡ Whole (record { token = Digits digits; tail = byte ∷ bytes })
run_cut digits byte bytes e short = rw (e, le-leb (length digits) 16 short, run_at) refl

pub run_string : (digits : List ℕ) (byte : ℕ) (bytes : List ℕ) → eqb byte 72 ≡ true
    → run_at digits (byte ∷ bytes) ≡ choice (is_integer digits) (string_at (number_of digits) bytes) Unfit
run_string digits byte bytes e = rw (e, run_at) refl

long_is_no_integer : (digits : List ℕ) → 16 < length digits → is_integer digits ≡ false
long_is_no_integer digits long = and_left _ _ (lt-leb (length digits) 10 (omega arith))

pub run_long : (digits rest : List ℕ) → 16 < length digits → run_at digits rest ≡ Unfit
run_long digits [] long = rw (lt-leb (length digits) 16 long, run_at) refl
run_long digits (byte ∷ rest) long = elim (cases_Bool (eqb byte 72)) [
  | inl h ↦ run_string digits byte rest h
      ∙ ap (λ (b : Bool). choice b (string_at (number_of digits) rest) Unfit) (long_is_no_integer digits long)
  | inr h ↦ rw (h, lt-leb (length digits) 16 long, run_at) refl
]

-- a run with what is after it, in a line that has these digits of it already, as a rule reads it
abbrev pub run_from : (List ℕ → List ℕ → Form Cut) → List ℕ → List ℕ → Form Cut
run_from rule digits bytes = rule (digits ++ take_while is_digit bytes) (drop_while is_digit bytes)

pub run_from-ended : (rule : List ℕ → List ℕ → Form Cut) (digits : List ℕ) (byte : ℕ) (bytes : List ℕ)
    → is_digit byte ≡ false → run_from rule digits (byte ∷ bytes) ≡ rule digits (byte ∷ bytes)
run_from-ended rule digits byte bytes e =
    ap (λ (t : List ℕ). rule (digits ++ t) (drop_while is_digit (byte ∷ bytes))) (take_while-no is_digit byte bytes e)
    ∙ ap (λ (d : List ℕ). rule d (drop_while is_digit (byte ∷ bytes))) (append-nil digits)
    ∙ ap (rule digits) (drop_while-no is_digit byte bytes e)

pub run_from-digit : (rule : List ℕ → List ℕ → Form Cut) (digits : List ℕ) (byte : ℕ) (bytes : List ℕ)
    → is_digit byte ≡ true → run_from rule digits (byte ∷ bytes) ≡ run_from rule (digits ++ byte ∷ []) bytes
run_from-digit rule digits byte bytes e =
    ap (λ (t : List ℕ). rule (digits ++ t) (drop_while is_digit (byte ∷ bytes)))
    (take_while-yes is_digit byte bytes e)
    ∙ ap (λ (d : List ℕ). rule d (drop_while is_digit (byte ∷ bytes)))
    (sym (append_assoc digits (byte ∷ []) (take_while is_digit bytes)))
    ∙ ap (rule ((digits ++ byte ∷ []) ++ take_while is_digit bytes)) (drop_while-yes is_digit byte bytes e)

-- digits before other bytes
pub take_digits : (digits rest : List ℕ) → AreDigits digits
    → take_while is_digit (digits ++ rest) ≡ digits ++ take_while is_digit rest
take_digits [] rest all = refl
take_digits (byte ∷ digits) rest all =
    take_while-yes is_digit byte (digits ++ rest) all.0
    ∙ ap (λ (t : List ℕ). byte ∷ t) (take_digits digits rest all.1)

pub drop_digits : (digits rest : List ℕ) → AreDigits digits
    → drop_while is_digit (digits ++ rest) ≡ drop_while is_digit rest
drop_digits [] rest all = refl
drop_digits (byte ∷ digits) rest all =
    drop_while-yes is_digit byte (digits ++ rest) all.0 ∙ drop_digits digits rest all.1

pub are_digits-append : (digits more : List ℕ) → AreDigits digits → AreDigits more → AreDigits (digits ++ more)
are_digits-append [] more all others = others
are_digits-append (byte ∷ digits) more all others = (all.0, are_digits-append digits more all.1 others)
