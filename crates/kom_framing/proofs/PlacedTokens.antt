-- What is found at the place of a token is that token.
use Rattle.std.proofs.Common.{◌≡◌, ℕ, ◌+◌, ◌*◌, ◌-◌, ◌^◌, ◌<◌, ◌≤◌, Bool, true, false, ◌&&◌, eqb, leb, List, [], ◌∷◌}
use Rattle.std.proofs.Common.{length, get_or, take, drop, None, refl, sym, ap, subst, ◌∙◌, inl, inr, add-one, arith}
use Rattle.std.specs.List.{take_while, slice_range}
use Rattle.std.proofs.Math.Seq.{drop-append_seam, take-append_seam}
use Rattle.std.proofs.lemmas.Bool.{cases_Bool, and_parts, both_ways, eqb-true, leb-true}
use Rattle.std.proofs.lemmas.List.{drop-drop, drop_more, get_or-drop, length-drop}
use Rattle.std.proofs.lemmas.List.Sums.{fold_more}
use Rattle.std.proofs.Math.Nat.{pow-suc}
use Rattle.kom_types.specs.declared.byte_kind.ByteKind.{ByteKind}
use Rattle.kom_types.specs.declared.byte_kind.ByteKind.TheVariants as kind
use Rattle.kom_types.specs.declared.side.Side.TheVariants as side
use Rattle.kom_types.specs.ByteKind.{is_digit, kind_of}
use Rattle.kom_types.specs.Token.{Token, Digits, Text, Star, Signed, number_of, is_integer, integer_of}
use Rattle.kom_types.specs.Grammar.{Form, Prefix, Whole, Unfit, Cut, drop_while, string_at, run_at, signed_run_at}
use Rattle.kom_framing.specs.Spans.{cut_of, IsToken, token_cut, token_of}
use Rattle.kom_framing.proofs.Lists.{take_while-yes, take_while-no, drop_while-yes, parted}
use Rattle.kom_framing.proofs.Looks.{digit_is, digit_kind}
use Rattle.kom_framing.proofs.Steps.{digit_bounds}
use Rattle.kom_framing.proofs.Runs.{choice, run_string}
use Rattle.kom_framing.proofs.Lexing.{token_of_kind, token_kind}
use Rattle.kom_framing.proofs.Spans.{begins_within}

-- the bytes of a token, from its first one on
from_first : (bytes : List ℕ) (start : ℕ) (sort : ByteKind) → IsToken bytes start
    → kind_of (get_or bytes start 0) ≡ sort
    → cut_of (drop start bytes) ≡ token_of_kind side.Server (get_or bytes start 0) (drop (start + 1) bytes) sort
from_first bytes start sort token e =
    ap cut_of (drop_more bytes start 0 (begins_within bytes start token))
    ∙ token_kind side.Server (get_or bytes start 0) (drop (start + 1) bytes) sort e

-- ---- tokens of one byte

star_of_kind : (byte : ℕ) (bytes : List ℕ) (sort : ByteKind) → (sort ≡ kind.Digit → ⊥) → (sort ≡ kind.Open → ⊥)
    → (sort ≡ kind.Close → ⊥) → (sort ≡ kind.Sign → ⊥)
    → token_cut (token_of_kind side.Server byte bytes sort) ≡ Star
star_of_kind byte bytes kind.Digit d o c s = absurd (d refl)
star_of_kind byte bytes kind.Open d o c s = absurd (o refl)
star_of_kind byte bytes kind.Close d o c s = absurd (c refl)
star_of_kind byte bytes kind.Star d o c s = refl
star_of_kind byte bytes kind.Sign d o c s = absurd (s refl)
star_of_kind byte bytes kind.Blank d o c s = refl
star_of_kind byte bytes kind.LineFeed d o c s = refl
star_of_kind byte bytes kind.Hollerith d o c s = refl
star_of_kind byte bytes kind.Other d o c s = refl

pub star_found : (bytes : List ℕ) (start : ℕ) → IsToken bytes start → (kind_of (get_or bytes start 0) ≡ kind.Digit → ⊥)
    → (kind_of (get_or bytes start 0) ≡ kind.Open → ⊥) → (kind_of (get_or bytes start 0) ≡ kind.Close → ⊥)
    → (kind_of (get_or bytes start 0) ≡ kind.Sign → ⊥) → token_of bytes start ≡ Star
star_found bytes start token d o c s =
    ap token_cut (from_first bytes start (kind_of (get_or bytes start 0)) token refl)
    ∙ star_of_kind (get_or bytes start 0) (drop (start + 1) bytes) (kind_of (get_or bytes start 0)) d o c s

-- ---- runs of digits

-- the digits from a place on, and the place after them
record Digitwise (bytes : List ℕ) (start end : ℕ) : Type 0 where
  digits : slice_range bytes start end ≡ take_while is_digit (drop start bytes)
  rest : drop end bytes ≡ drop_while is_digit (drop start bytes)

digitwise : (bytes : List ℕ) (start end : ℕ) → end ≡ start + length (take_while is_digit (drop start bytes))
    → Digitwise bytes start end
digitwise bytes start end e =
    let from : List ℕ = drop start bytes in
    let digits : List ℕ = take_while is_digit from in
    let rest : List ℕ = drop_while is_digit from in
    let count : end - start ≡ length digits = omega arith in
    record {
      digits = ap (λ (n : ℕ). take n from) count ∙ ap (take (length digits)) (sym (parted is_digit from))
          ∙ take-append_seam digits rest;
      rest = ap (λ (n : ℕ). drop n bytes) e ∙ sym (drop-drop (length digits) start bytes)
          ∙ ap (drop (length digits)) (sym (parted is_digit from)) ∙ drop-append_seam digits rest;
    }

choice_unfit : (b : Bool) (form : Form Cut) (cut : Cut) → choice b form Unfit ≡ Whole cut
    → (b ≡ true) × (form ≡ Whole cut)
choice_unfit true form cut e = (refl, e)
choice_unfit false form cut e = absurd cc

choice_prefix : (b : Bool) (form : Form Cut) (cut : Cut) → choice b form Prefix ≡ Whole cut
    → (b ≡ true) × (form ≡ Whole cut)
choice_prefix true form cut e = (refl, e)
choice_prefix false form cut e = absurd cc

-- no run is whole before the byte after it
run_alone : (digits : List ℕ) (cut : Cut) → run_at digits [] ≡ Whole cut → ⊥
run_alone digits cut e = let p = choice_unfit (leb (length digits) 16) Prefix cut e in let q = p.1 in absurd cc

signed_alone : (mark : ℕ) (digits : List ℕ) (cut : Cut) → signed_run_at mark digits [] ≡ Whole cut → ⊥
signed_alone mark digits cut e = let p = choice_unfit (leb (length digits) 16) Prefix cut e in let q = p.1 in absurd cc

string_found : (count : ℕ) (bytes : List ℕ) (cut : Cut) → string_at count bytes ≡ Whole cut
    → (count ≤ length bytes) × (cut.token ≡ Text (take count bytes))
string_found count bytes cut e =
    let p =
    choice_prefix (leb count (length bytes))
    (Whole (record { token = Text (take count bytes); tail = drop count bytes })) cut e in
    (leb-true count (length bytes) p.0, sym (ap token_cut p.1))

-- what the byte after a run of digits says of the token that begins with them
pub record IsRunAt (bytes : List ℕ) (start end : ℕ) : Type 0 where
  pub inside : end < length bytes
  pub few : length (slice_range bytes start end) ≤ 16
  pub short : get_or bytes end 0 ≡ 72 → length (slice_range bytes start end) ≤ 10
  pub within : get_or bytes end 0 ≡ 72 → end + 1 + number_of (slice_range bytes start end) ≤ length bytes
  pub text : get_or bytes end 0 ≡ 72
      → token_of bytes start ≡ Text (slice_range bytes (end + 1) (end + 1 + number_of (slice_range bytes start end)))
  pub digits : (get_or bytes end 0 ≡ 72 → ⊥) → token_of bytes start ≡ Digits (slice_range bytes start end)

-- the same of a cut
record Found (bytes digits : List ℕ) (end : ℕ) (token : Token) : Type 0 where
  inside : end < length bytes
  few : length digits ≤ 16
  short : get_or bytes end 0 ≡ 72 → length digits ≤ 10
  within : get_or bytes end 0 ≡ 72 → end + 1 + number_of digits ≤ length bytes
  text : get_or bytes end 0 ≡ 72 → token ≡ Text (slice_range bytes (end + 1) (end + 1 + number_of digits))
  digits_are : (get_or bytes end 0 ≡ 72 → ⊥) → token ≡ Digits digits

found : (bytes digits rest : List ℕ) (end : ℕ) (cut : Cut) → drop end bytes ≡ rest → run_at digits rest ≡ Whole cut
    → Found bytes digits end cut.token
found bytes digits [] end cut left whole = absurd (run_alone digits cut whole)
found bytes digits (byte ∷ tail) end cut left whole =
    let inside : end < length bytes = omega (arith, length-drop end bytes, ap length left) in
    let head : get_or bytes end 0 ≡ byte =
    sym (ap (λ (t : List ℕ). get_or t 0 0) (drop_more bytes end 0 inside)) ∙ ap (λ (t : List ℕ). get_or t 0 0) left in
    let after : drop (end + 1) bytes ≡ tail =
    sym (ap (drop 1) (drop_more bytes end 0 inside)) ∙ ap (drop 1) left in
    let count : ℕ = number_of digits in
    let string : get_or bytes end 0 ≡ 72 → (is_integer digits ≡ true) × (string_at count tail ≡ Whole cut) =
    λ e. choice_unfit (is_integer digits) (string_at count tail) cut
    (sym (run_string digits byte tail (ap (λ (b : ℕ). eqb b 72) (sym head ∙ e))) ∙ whole) in
    record {
      inside = inside;
      few = elim (cases_Bool (eqb byte 72)) [
        | inl e ↦
            let ten : length digits ≤ 10 =
            leb-true (length digits) 10 (and_parts _ _ (string (head ∙ eqb-true byte 72 e)).0).0 in
            omega arith
        | inr e ↦
            leb-true (length digits) 16 (choice_unfit (leb (length digits) 16)
            (Whole (record { token = Digits digits; tail = byte ∷ tail })) cut
            (sym (ap (λ (b : Bool). choice b (choice (is_integer digits) (string_at count tail) Unfit)
            (choice (leb (length digits) 16) (Whole (record { token = Digits digits; tail = byte ∷ tail })) Unfit)) e)
            ∙ whole)).0
      ];
      short = λ e. leb-true (length digits) 10 (and_parts _ _ (string e).0).0;
      within = λ e. omega (
        arith,
        (string_found count tail cut (string e).1).0,
        length-drop (end + 1) bytes,
        ap length after,
      );
      text = λ e. (string_found count tail cut (string e).1).1
          ∙ ap (λ (t : List ℕ). Text (take count t)) (sym after)
          ∙ ap (λ (n : ℕ). Text (take n (drop (end + 1) bytes))) (omega arith);
      digits_are = λ apart. elim (cases_Bool (eqb byte 72)) [
        | inl e ↦ absurd (apart (head ∙ eqb-true byte 72 e))
        | inr e ↦
            let p =
            choice_unfit (leb (length digits) 16) (Whole (record { token = Digits digits; tail = byte ∷ tail })) cut
            (sym (ap (λ (b : Bool). choice b (choice (is_integer digits) (string_at count tail) Unfit)
            (choice (leb (length digits) 16) (Whole (record { token = Digits digits; tail = byte ∷ tail })) Unfit)) e)
            ∙ whole) in
            sym (ap token_cut p.1)
      ];
    }

pub run_found : (bytes : List ℕ) (start end : ℕ) → IsToken bytes start → kind_of (get_or bytes start 0) ≡ kind.Digit
    → end ≡ start + length (take_while is_digit (drop start bytes)) → IsRunAt bytes start end
run_found bytes start end token e at =
    let parts = digitwise bytes start end at in
    let byte : ℕ = get_or bytes start 0 in
    let tail : List ℕ = drop (start + 1) bytes in
    let from : drop start bytes ≡ byte ∷ tail = drop_more bytes start 0 (begins_within bytes start token) in
    let digits : slice_range bytes start end ≡ byte ∷ take_while is_digit tail =
    parts.digits ∙ ap (take_while is_digit) from ∙ take_while-yes is_digit byte tail (digit_is byte e) in
    let rest : drop end bytes ≡ drop_while is_digit tail =
    parts.rest ∙ ap (drop_while is_digit) from ∙ drop_while-yes is_digit byte tail (digit_is byte e) in
    let whole : run_at (slice_range bytes start end) (drop end bytes) ≡ Whole token.cut =
    ap (λ (t : List ℕ). run_at t (drop end bytes)) digits
    ∙ ap (run_at (byte ∷ take_while is_digit tail)) rest
    ∙ sym (from_first bytes start kind.Digit token e) ∙ token.whole in
    let it = found bytes (slice_range bytes start end) (drop end bytes) end token.cut refl whole in
    let same : token_of bytes start ≡ token.cut.token = ap token_cut token.whole in
    record {
      inside = it.inside;
      few = it.few;
      short = it.short;
      within = it.within;
      text = λ h. same ∙ it.text h;
      digits = λ h. same ∙ it.digits_are h;
    }

signed_of : (mark : ℕ) (digits rest : List ℕ) (cut : Cut) → signed_run_at mark digits rest ≡ Whole cut
    → cut.token ≡ Signed mark digits
signed_of mark digits [] cut whole = absurd (signed_alone mark digits cut whole)
signed_of mark digits (byte ∷ tail) cut whole =
    sym (ap token_cut (choice_unfit (leb 1 (length digits) && leb (length digits) 16)
    (Whole (record { token = Signed mark digits; tail = byte ∷ tail })) cut whole).1)

pub signed_found : (bytes : List ℕ) (start end : ℕ) → IsToken bytes start → kind_of (get_or bytes start 0) ≡ kind.Sign
    → end ≡ start + 1 + length (take_while is_digit (drop (start + 1) bytes))
    → token_of bytes start ≡ Signed (get_or bytes start 0) (slice_range bytes (start + 1) end)
signed_found bytes start end token e at =
    let mark : ℕ = get_or bytes start 0 in
    let tail : List ℕ = drop (start + 1) bytes in
    let parts = digitwise bytes (start + 1) end at in
    ap token_cut token.whole
    ∙ signed_of mark (take_while is_digit tail) (drop_while is_digit tail) token.cut
    (sym (from_first bytes start kind.Sign token e) ∙ token.whole)
    ∙ ap (Signed mark) (sym parts.digits)

-- ---- the number that digits spell

-- the first digits of a token, up to a place, and the number that they spell
pub record IsSpelled (bytes : List ℕ) (start end number : ℕ) : Type 0 where
  pub counts : start + length (take_while is_digit (drop start bytes))
      ≡ end + length (take_while is_digit (drop end bytes))
  pub from : start ≤ end
  pub spelled : number ≡ number_of (slice_range bytes start end)
  pub small : number < 10 ^ (end - start)

pub spelled_first : (bytes : List ℕ) (start : ℕ) → IsSpelled bytes start start 0
spelled_first bytes start =
    let none : 0 ≡ start - start = omega arith in
    record {
      counts = refl;
      from = omega arith;
      spelled = ap (λ (n : ℕ). number_of (take n (drop start bytes))) none;
      small = subst (λ (n : ℕ). 0 < 10 ^ n) none (omega arith);
    }

-- how many digits there are from a place that has one
one_at_least : (bytes : List ℕ) (at : ℕ) → at < length bytes → is_digit (get_or bytes at 0) ≡ true
    → length (take_while is_digit (drop at bytes)) ≡ 1 + length (take_while is_digit (drop (at + 1) bytes))
one_at_least bytes at within digit =
    ap (λ (t : List ℕ). length (take_while is_digit t)) (drop_more bytes at 0 within)
    ∙ ap length (take_while-yes is_digit (get_or bytes at 0) (drop (at + 1) bytes) digit) ∙ omega arith

none_at : (bytes : List ℕ) (at : ℕ) → at < length bytes → is_digit (get_or bytes at 0) ≡ false
    → length (take_while is_digit (drop at bytes)) ≡ 0
none_at bytes at within digit =
    ap (λ (t : List ℕ). length (take_while is_digit t)) (drop_more bytes at 0 within)
    ∙ ap length (take_while-no is_digit (get_or bytes at 0) (drop (at + 1) bytes) digit)

-- a token has a byte after its digits, and sixteen of them at most
pub spelled_within : (bytes : List ℕ) (start end number : ℕ) → IsToken bytes start
    → kind_of (get_or bytes start 0) ≡ kind.Digit → IsSpelled bytes start end number
    → (end < length bytes) × (is_digit (get_or bytes end 0) ≡ true → end - start < 16)
spelled_within bytes start end number token e is =
    let count : ℕ = length (take_while is_digit (drop start bytes)) in
    let run = run_found bytes start (start + count) token e refl in
    let within : end < length bytes = omega (arith, is.counts, run.inside) in
    let few : count ≤ 16 =
    subst (λ (n : ℕ). n ≤ 16) (ap length (digitwise bytes start (start + count) refl).digits) run.few in
    (within, λ digit. omega (arith, is.counts, one_at_least bytes end within digit))

grows : (number digit index : ℕ) → number < 10 ^ index → digit ≤ 9 → 10 * number + digit < 10 ^ (index + 1)
grows number digit index small low =
    let power : 10 ^ (index + 1) ≡ 10 ^ index * 10 = ap (λ (k : ℕ). 10 ^ k) (add-one index) ∙ pow-suc 10 index in
    omega arith

pub spelled_next : (bytes : List ℕ) (start end number : ℕ) → end < length bytes
    → is_digit (get_or bytes end 0) ≡ true → IsSpelled bytes start end number
    → IsSpelled bytes start (end + 1) (10 * number + (get_or bytes end 0 - 48))
spelled_next bytes start end number within digit is =
    let step : ℕ → ℕ → ℕ = λ number digit. 10 * number + (digit - 48) in
    let byte : ℕ = get_or bytes end 0 in
    let rest : List ℕ = drop start bytes in
    let index : ℕ = end - start in
    let one_more : index + 1 ≡ end + 1 - start = omega (arith, is.from) in
    let below : index < length rest = omega (arith, is.from, length-drop start bytes) in
    let same : get_or rest index 0 ≡ byte =
    get_or-drop start bytes index 0 ∙ ap (λ (n : ℕ). get_or bytes n 0) (omega (arith, is.from)) in
    let bounds = digit_bounds byte (digit_kind byte digit) in
    record {
      counts = is.counts ∙ omega (arith, one_at_least bytes end within digit);
      from = omega (arith, is.from);
      spelled = ap (λ (n : ℕ). step n byte) is.spelled
          ∙ ap (step (number_of (take index rest))) (sym same)
          ∙ sym (fold_more step 0 rest index 0 below)
          ∙ ap (λ (n : ℕ). number_of (take n rest)) one_more;
      small = subst (λ (n : ℕ). 10 * number + (byte - 48) < 10 ^ n) one_more
          (grows number (byte - 48) index is.small (omega (arith, bounds.1)));
    }

pub spelled_end : (bytes : List ℕ) (start end number : ℕ) → end < length bytes
    → is_digit (get_or bytes end 0) ≡ false → IsSpelled bytes start end number
    → end ≡ start + length (take_while is_digit (drop start bytes))
spelled_end bytes start end number within digit is = omega (arith, is.counts, none_at bytes end within digit)

-- ---- integers

signed_no_integer : (mark : ℕ) (digits rest : List ℕ) → integer_of (token_cut (signed_run_at mark digits rest)) ≡ None
signed_no_integer mark digits [] =
    elim (leb (length digits) 16) as (λ (b : Bool). integer_of (token_cut (choice b Prefix Unfit)) ≡ None) [
      | true ↦ refl
      | false ↦ refl
    ]
signed_no_integer mark digits (byte ∷ rest) =
    elim (leb 1 (length digits) && leb (length digits) 16) as (λ (b : Bool). integer_of
    (token_cut (choice b (Whole (record { token = Signed mark digits; tail = byte ∷ rest })) Unfit)) ≡ None) [
      | true ↦ refl
      | false ↦ refl
    ]

kind_no_integer : (byte : ℕ) (bytes : List ℕ) (sort : ByteKind) → (sort ≡ kind.Digit → ⊥)
    → integer_of (token_cut (token_of_kind side.Server byte bytes sort)) ≡ None
kind_no_integer byte bytes kind.Digit apart = absurd (apart refl)
kind_no_integer byte bytes kind.Open apart = refl
kind_no_integer byte bytes kind.Close apart = refl
kind_no_integer byte bytes kind.Star apart = refl
kind_no_integer byte bytes kind.Sign apart =
    signed_no_integer byte (take_while is_digit bytes) (drop_while is_digit bytes)
kind_no_integer byte bytes kind.Blank apart = refl
kind_no_integer byte bytes kind.LineFeed apart = refl
kind_no_integer byte bytes kind.Hollerith apart = refl
kind_no_integer byte bytes kind.Other apart = refl

-- a token that begins with no digit spells no integer
pub no_integer : (bytes : List ℕ) (start : ℕ) → IsToken bytes start → is_digit (get_or bytes start 0) ≡ false
    → integer_of (token_of bytes start) ≡ None
no_integer bytes start token e =
    ap (λ (f : Form Cut). integer_of (token_cut f))
    (from_first bytes start (kind_of (get_or bytes start 0)) token refl)
    ∙ kind_no_integer (get_or bytes start 0) (drop (start + 1) bytes) (kind_of (get_or bytes start 0))
    (λ (same : kind_of (get_or bytes start 0) ≡ kind.Digit).
    absurd (both_ways _ e (digit_is (get_or bytes start 0) same)))
