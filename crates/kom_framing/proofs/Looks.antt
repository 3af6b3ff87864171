-- Each byte is of one kind, which decides the tests on it.
use Rattle.std.proofs.Common.{◌≡◌, ℕ, Bool, true, false, List, ◌∷◌, eqb, ◌||◌, refl, ap, ◌∙◌, inl, inr, arith}
use Rattle.std.proofs.lemmas.Bool.{cases_Bool, both_ways, eqb-true}
use Rattle.std.proofs.lemmas.Bool.Decides.{nat_tests}
use Rattle.kom_types.specs.declared.byte_kind.ByteKind.{ByteKind}
use Rattle.kom_types.specs.declared.byte_kind.ByteKind.TheVariants as kind
use Rattle.kom_types.specs.ByteKind.{is_blank, is_digit, is_sign, kind_of}
use Rattle.kom_types.specs.Grammar.{may_follow}

-- what the tests say of a byte
pub record Looks (byte : ℕ) (sort : ByteKind) (blank feed digit hollerith : Bool) : Type 0 where
  pub kind_is : kind_of byte ≡ sort
  pub blank_is : is_blank byte ≡ blank
  pub feed_is : eqb byte 10 ≡ feed
  pub digit_is : is_digit byte ≡ digit
  pub hollerith_is : eqb byte 72 ≡ hollerith

pub data Look (byte : ℕ) : Type 0 where
  blank : Looks byte kind.Blank true false false false → Look byte
  feed : Looks byte kind.LineFeed false true false false → Look byte
  digit : Looks byte kind.Digit false false true false → Look byte
  hollerith : Looks byte kind.Hollerith false false false true → Look byte
  open_brace : Looks byte kind.Open false false false false → Look byte
  close_brace : Looks byte kind.Close false false false false → Look byte
  star : Looks byte kind.Star false false false false → Look byte
  sign_byte : Looks byte kind.Sign false false false false → Look byte
  other : Looks byte kind.Other false false false false → Look byte

blank_alone : (byte : ℕ) → is_blank byte ≡ true
    → (eqb byte 10 ≡ false) × ((is_digit byte ≡ false) × (eqb byte 72 ≡ false))
blank_alone byte e = grind (arith, nat_tests)

feed_alone : (byte : ℕ) → eqb byte 10 ≡ true → (is_digit byte ≡ false) × (eqb byte 72 ≡ false)
feed_alone byte e = grind (arith, nat_tests)

digit_alone : (byte : ℕ) → is_digit byte ≡ true → eqb byte 72 ≡ false
digit_alone byte e = grind (arith, nat_tests)

look_on : (byte : ℕ) → is_blank byte ≡ false → eqb byte 10 ≡ false → is_digit byte ≡ false → Look byte
look_on byte b f d = elim (cases_Bool (eqb byte 72)) [
  | inl h ↦ hollerith
      (record { kind_is = rw (b, f, d, h) refl; blank_is = b; feed_is = f; digit_is = d; hollerith_is = h })
  | inr h ↦ elim (cases_Bool (eqb byte 123)) [
    | inl o ↦ open_brace
        (record { kind_is = rw (b, f, d, h, o) refl; blank_is = b; feed_is = f; digit_is = d; hollerith_is = h })
    | inr o ↦ elim (cases_Bool (eqb byte 125)) [
      | inl c ↦ close_brace
          (record { kind_is = rw (b, f, d, h, o, c) refl; blank_is = b; feed_is = f; digit_is = d; hollerith_is = h })
      | inr c ↦ elim (cases_Bool (eqb byte 42)) [
        | inl s ↦ star (record {
          kind_is = rw (b, f, d, h, o, c, s) refl;
          blank_is = b;
          feed_is = f;
          digit_is = d;
          hollerith_is = h;
        })
        | inr s ↦ elim (cases_Bool (is_sign byte)) [
          | inl g ↦ sign_byte (record {
            kind_is = rw (b, f, d, h, o, c, s, g) refl;
            blank_is = b;
            feed_is = f;
            digit_is = d;
            hollerith_is = h;
          })
          | inr g ↦ other (record {
            kind_is = rw (b, f, d, h, o, c, s, g) refl;
            blank_is = b;
            feed_is = f;
            digit_is = d;
            hollerith_is = h;
          })
        ]
      ]
    ]
  ]
]

pub look : (byte : ℕ) → Look byte
look byte = elim (cases_Bool (is_blank byte)) [
  | inl b ↦ let others = blank_alone byte b in
      blank (record {
        kind_is = rw b refl;
        blank_is = b;
        feed_is = others.0;
        digit_is = others.1.0;
        hollerith_is = others.1.1;
      })
  | inr b ↦ elim (cases_Bool (eqb byte 10)) [
    | inl f ↦ let others = feed_alone byte f in
        feed
        (record { kind_is = rw (b, f) refl; blank_is = b; feed_is = f; digit_is = others.0; hollerith_is = others.1 })
    | inr f ↦ elim (cases_Bool (is_digit byte)) [
      | inl d ↦ digit (record {
        kind_is = rw (b, f, d) refl;
        blank_is = b;
        feed_is = f;
        digit_is = d;
        hollerith_is = digit_alone byte d;
      })
      | inr d ↦ look_on byte b f d
    ]
  ]
]

-- what the kind of a byte says of the tests on it
pub digit_is : (byte : ℕ) → kind_of byte ≡ kind.Digit → is_digit byte ≡ true
digit_is byte e = elim (look byte) [
  | blank l ↦ let k = l.kind_is in absurd cc
  | feed l ↦ let k = l.kind_is in absurd cc
  | digit l ↦ l.digit_is
  | hollerith l ↦ let k = l.kind_is in absurd cc
  | open_brace l ↦ let k = l.kind_is in absurd cc
  | close_brace l ↦ let k = l.kind_is in absurd cc
  | star l ↦ let k = l.kind_is in absurd cc
  | sign_byte l ↦ let k = l.kind_is in absurd cc
  | other l ↦ let k = l.kind_is in absurd cc
]

pub hollerith_is : (byte : ℕ) → kind_of byte ≡ kind.Hollerith → byte ≡ 72
hollerith_is byte e = elim (look byte) [
  | blank l ↦ let k = l.kind_is in absurd cc
  | feed l ↦ let k = l.kind_is in absurd cc
  | digit l ↦ let k = l.kind_is in absurd cc
  | hollerith l ↦ eqb-true byte 72 l.hollerith_is
  | open_brace l ↦ let k = l.kind_is in absurd cc
  | close_brace l ↦ let k = l.kind_is in absurd cc
  | star l ↦ let k = l.kind_is in absurd cc
  | sign_byte l ↦ let k = l.kind_is in absurd cc
  | other l ↦ let k = l.kind_is in absurd cc
]

pub no_digit : (byte : ℕ) → (kind_of byte ≡ kind.Digit → ⊥) → is_digit byte ≡ false
no_digit byte apart = elim (look byte) [
  | blank l ↦ l.digit_is
  | feed l ↦ l.digit_is
  | digit l ↦ absurd (apart l.kind_is)
  | hollerith l ↦ l.digit_is
  | open_brace l ↦ l.digit_is
  | close_brace l ↦ l.digit_is
  | star l ↦ l.digit_is
  | sign_byte l ↦ l.digit_is
  | other l ↦ l.digit_is
]

pub no_hollerith : (byte : ℕ) → (kind_of byte ≡ kind.Hollerith → ⊥) → eqb byte 72 ≡ false
no_hollerith byte apart = elim (look byte) [
  | blank l ↦ l.hollerith_is
  | feed l ↦ l.hollerith_is
  | digit l ↦ l.hollerith_is
  | hollerith l ↦ absurd (apart l.kind_is)
  | open_brace l ↦ l.hollerith_is
  | close_brace l ↦ l.hollerith_is
  | star l ↦ l.hollerith_is
  | sign_byte l ↦ l.hollerith_is
  | other l ↦ l.hollerith_is
]

pub digit_kind : (byte : ℕ) → is_digit byte ≡ true → kind_of byte ≡ kind.Digit
digit_kind byte e = elim (look byte) [
  | blank l ↦ absurd (both_ways _ l.digit_is e)
  | feed l ↦ absurd (both_ways _ l.digit_is e)
  | digit l ↦ l.kind_is
  | hollerith l ↦ absurd (both_ways _ l.digit_is e)
  | open_brace l ↦ absurd (both_ways _ l.digit_is e)
  | close_brace l ↦ absurd (both_ways _ l.digit_is e)
  | star l ↦ absurd (both_ways _ l.digit_is e)
  | sign_byte l ↦ absurd (both_ways _ l.digit_is e)
  | other l ↦ absurd (both_ways _ l.digit_is e)
]

-- whether a byte may follow a token
pub follows : (byte : ℕ) (bytes : List ℕ) (b f : Bool) → is_blank byte ≡ b → eqb byte 10 ≡ f
    → may_follow (byte ∷ bytes) ≡ (b || f)
follows byte bytes b f blank_is feed_is =
    ap (λ (x : Bool). x || eqb byte 10) blank_is ∙ ap (λ (x : Bool). b || x) feed_is
