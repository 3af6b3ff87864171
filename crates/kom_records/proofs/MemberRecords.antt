-- The rules of memberships read exactly their spellings.
use Rattle.std.proofs.Common.{◌≡◌, ℕ, zero, suc, ◌&&◌, Bool, true, false, List, [], ◌∷◌, ◌++◌, refl, sym, ap, subst}
use Rattle.std.proofs.Common.{◌∙◌}
use Rattle.std.proofs.Common.{arith, drop}
use Rattle.std.specs.Prelude.{nat_lt, length}
use Rattle.std.proofs.lemmas.Bool.Decides.{nat_tests}
use Rattle.kom_types.specs.declared.memberships.Membership.{Membership}
use Rattle.kom_types.specs.declared.memberships.RangesShown.{RangesShown}
use Rattle.kom_types.specs.declared.memberships.RangesShown.TheVariants as shown
use Rattle.kom_types.specs.declared.memberships.ReadRange.{ReadRange}
use Rattle.kom_types.specs.spellings.Memberships as memberships
use Rattle.kom_types.specs.spellings.Words as words
use Rattle.kom_types.specs.spellings.Words.{Words}
use Rattle.kom_types.specs.Token.{Token, Digits, Text, Open, Close, Star, Signed}
use Rattle.kom_types.specs.calls.Arguments.{Took}
use Rattle.kom_records.specs.Fits.{IsNumber, IsReadRange, AreRangesShown, IsMembership, AreFit}
use Rattle.kom_records.specs.Records.{read_range, ranges, ranges_by, is_star_next, membership}
use Rattle.kom_records.specs.Rules.{array, array_of, map_taken}
use Rattle.kom_records.specs.Words.{token_of_word, tokens_of_words}
use Rattle.kom_records.proofs.Spelled.{IsSpelled, on, onward, glue, split, took_same, passed}
use Rattle.kom_records.proofs.Values.{number_is, byte_is}
use Rattle.kom_records.proofs.Bits.{bits_8_is}
use Rattle.kom_records.proofs.Moments.{time_is}
use Rattle.kom_records.proofs.LongArrays.{array_is}
use Rattle.kom_records.proofs.SmallRecords.{read_range_is}
use Rattle.kom_records.proofs.WordTokens.{word_star, word_open}

read_ranges_is : IsSpelled (array read_range) (words.array memberships.read_range) (AreFit IsReadRange)
read_ranges_is = array_is read_range memberships.read_range IsReadRange read_range_is

-- an array of ranges after its length
inside_back : (count : ℕ) (all : List ReadRange) (mid tail : List Token) → IsNumber count →
    tokens_of_words (words.array memberships.read_range all) ++ tail ≡ tokens_of_words (words.number count) ++ mid →
    AreFit IsReadRange all → array_of read_range count mid ≡ Took all tail
inside_back count all mid tail within same fits =
    sym (onward number_is count mid (array_of read_range) _ within refl)
    ∙ ap (array read_range) (sym same) ∙ read_ranges_is.back all tail fits

no_true : (test : Bool) → (test && false) ≡ true → ⊥
no_true true is = cc
no_true false is = cc

no_star : (test : Bool) → (test && false) ≡ false
no_star true = refl
no_star false = refl

by_star : (count : ℕ) (t : List Token) (test : Bool) → (nat_lt 0 count && is_star_next t) ≡ test →
    ranges_by count t ≡ (elim test [
      | true ↦ Took (shown.Count count) (drop 1 t)
      | false ↦ map_taken shown.All (array_of read_range count t)
    ])
by_star count t test is =
    ap (λ (test : Bool). elim test [
      | true ↦ Took (shown.Count count) (drop 1 t)
      | false ↦ map_taken shown.All (array_of read_range count t)
    ]) is

ranges_back : (of : RangesShown) (tail : List Token) → AreRangesShown of →
    ranges (tokens_of_words (memberships.ranges_shown of) ++ tail) ≡ Took of tail
ranges_back (shown.Count zero) tail fits = absurd fits
ranges_back (shown.Count (suc more)) tail fits =
    let some : nat_lt 0 (suc more) ≡ true = grind (arith, nat_tests) in
    onward number_is (suc more) (token_of_word (42 ∷ []) ∷ tail) ranges_by _ fits
    (ap (λ token. ranges_by (suc more) (token ∷ tail)) word_star
    ∙ by_star (suc more) (Star ∷ tail) true (ap (λ (test : Bool). test && true) some))
ranges_back (shown.All []) tail fits =
    onward number_is 0 (token_of_word (42 ∷ []) ∷ tail) ranges_by _ (omega arith)
    (ap (λ taken. map_taken shown.All taken)
    (inside_back 0 [] (token_of_word (42 ∷ []) ∷ tail) tail (omega arith) refl fits))
ranges_back (shown.All (one ∷ others)) tail fits =
    let all = one ∷ others in
    let count = length all in
    let inside = tokens_of_words (drop 2 (words.array memberships.read_range all)) ++ tail in
    onward number_is count (token_of_word (123 ∷ []) ∷ inside) ranges_by _ fits.0
    (by_star count (token_of_word (123 ∷ []) ∷ inside) false
    (ap (λ token. nat_lt 0 count && is_star_next (token ∷ inside)) word_open ∙ no_star (nat_lt 0 count))
    ∙ ap (λ taken. map_taken shown.All taken)
    (inside_back count all (token_of_word (123 ∷ []) ∷ inside) tail fits.0 refl fits))

star_from : (count : ℕ) (mid tail : List Token) (of : RangesShown) → IsNumber count →
    (nat_lt 0 count && is_star_next mid) ≡ true → Took (shown.Count count) (drop 1 mid) ≡ Took of tail →
    AreRangesShown of
    × (tokens_of_words (words.number count) ++ mid ≡ tokens_of_words (memberships.ranges_shown of) ++ tail)
star_from zero mid tail of within is taken = cc
star_from (suc more) [] tail of within is taken = absurd (no_true (nat_lt 0 (suc more)) is)
star_from (suc more) (Digits digits ∷ mid) tail of within is taken = absurd (no_true (nat_lt 0 (suc more)) is)
star_from (suc more) (Text bytes ∷ mid) tail of within is taken = absurd (no_true (nat_lt 0 (suc more)) is)
star_from (suc more) (Open ∷ mid) tail of within is taken = absurd (no_true (nat_lt 0 (suc more)) is)
star_from (suc more) (Close ∷ mid) tail of within is taken = absurd (no_true (nat_lt 0 (suc more)) is)
star_from (suc more) (Star ∷ mid) tail of within is taken =
    let same = took_same (shown.Count (suc more)) of mid tail taken in
    subst (λ (of : RangesShown). AreRangesShown of × (tokens_of_words (words.number (suc more)) ++ (Star ∷ mid)
    ≡ tokens_of_words (memberships.ranges_shown of) ++ tail)) same.0 (
      within,
      ap (λ token. tokens_of_words (words.number (suc more)) ++ (token ∷ mid)) (sym word_star)
          ∙ ap (λ t. tokens_of_words (words.number (suc more)) ++ (token_of_word (42 ∷ []) ∷ t)) same.1,
    )
star_from (suc more) (Signed sign digits ∷ mid) tail of within is taken =
    absurd (no_true (nat_lt 0 (suc more)) is)

array_from : (count : ℕ) (mid tail : List Token) (of : RangesShown) → IsNumber count →
    map_taken shown.All (array_of read_range count mid) ≡ Took of tail →
    AreRangesShown of
    × (tokens_of_words (words.number count) ++ mid ≡ tokens_of_words (memberships.ranges_shown of) ++ tail)
array_from count mid tail of within taken =
    let one = passed (array_of read_range count mid) (λ all. Took (shown.All all)) of tail taken in
    let whole : array read_range (tokens_of_words (words.number count) ++ mid) ≡ Took one.value one.mid =
    onward number_is count mid (array_of read_range) _ within one.first in
    let found = read_ranges_is.forth (tokens_of_words (words.number count) ++ mid) one.mid one.value whole in
    let same = took_same (shown.All one.value) of one.mid tail one.rest in
    subst (λ (of : RangesShown). AreRangesShown of × (tokens_of_words (words.number count) ++ mid
    ≡ tokens_of_words (memberships.ranges_shown of) ++ tail)) same.0
    (found.0, found.1 ∙ ap (λ t. tokens_of_words (words.array memberships.read_range one.value) ++ t) same.1)

either_from : (count : ℕ) (mid tail : List Token) (of : RangesShown) (test : Bool) → IsNumber count →
    (nat_lt 0 count && is_star_next mid) ≡ test → (elim test [
      | true ↦ Took (shown.Count count) (drop 1 mid)
      | false ↦ map_taken shown.All (array_of read_range count mid)
    ]) ≡ Took of tail →
    AreRangesShown of
    × (tokens_of_words (words.number count) ++ mid ≡ tokens_of_words (memberships.ranges_shown of) ++ tail)
either_from count mid tail of true within is taken = star_from count mid tail of within is taken
either_from count mid tail of false within is taken = array_from count mid tail of within taken

ranges_from : (tokens tail : List Token) (of : RangesShown) → ranges tokens ≡ Took of tail →
    AreRangesShown of × (tokens ≡ tokens_of_words (memberships.ranges_shown of) ++ tail)
ranges_from tokens tail of is =
    on number_is tokens ranges_by of tail is (λ count mid fits same rest.
    let found = either_from count mid tail of _ fits refl rest in
    (found.0, same ∙ found.1))

ranges_is : IsSpelled ranges memberships.ranges_shown AreRangesShown
ranges_is = record { back = ranges_back; forth = ranges_from }

membership_back : (of : Membership) (tail : List Token) → IsMembership of →
    membership (tokens_of_words (memberships.membership of) ++ tail) ≡ Took of tail
membership_back of tail fits =
    let flat : Words =
    words.number of.position ++ words.time of.last_time_read ++ words.number of.conference ++
    words.number of.priority in
    let some : Words = memberships.ranges_shown of.ranges in
    let more0 : Words = words.number of.added_by in
    let more1 : Words = words.time of.added_at in
    let more2 : Words = words.bits 8 of.kind in
    ap membership (ap (λ t. tokens_of_words flat ++ t) (split ((some ++ more0) ++ more1) more2 tail
    ∙ split (some ++ more0) more1 (tokens_of_words more2 ++ tail)
    ∙ split some more0 (tokens_of_words more1 ++ (tokens_of_words more2 ++ tail))))
    ∙ onward number_is of.position _ _ _ fits.0 (
    onward time_is of.last_time_read _ _ _ fits.1.0 (
    onward number_is of.conference _ _ _ fits.1.1.0 (
    onward byte_is of.priority _ _ _ fits.1.1.1.0 (
    onward ranges_is of.ranges _ _ _ fits.1.1.1.1.0 (
    onward number_is of.added_by _ _ _ fits.1.1.1.1.1.0 (
    onward time_is of.added_at _ _ _ fits.1.1.1.1.1.1.0 (
    onward bits_8_is of.kind _ _ _ fits.1.1.1.1.1.1.1 (refl))))))))

membership_from : (tokens tail : List Token) (of : Membership) → membership tokens ≡ Took of tail →
    IsMembership of × (tokens ≡ tokens_of_words (memberships.membership of) ++ tail)
membership_from tokens tail of is =
    on number_is tokens _ of tail is (λ v0 t0 f0 e0 r0.
    on time_is t0 _ of tail r0 (λ v1 t1 f1 e1 r1.
    on number_is t1 _ of tail r1 (λ v2 t2 f2 e2 r2.
    on byte_is t2 _ of tail r2 (λ v3 t3 f3 e3 r3.
    on ranges_is t3 _ of tail r3 (λ v4 t4 f4 e4 r4.
    on number_is t4 _ of tail r4 (λ v5 t5 f5 e5 r5.
    on time_is t5 _ of tail r5 (λ v6 t6 f6 e6 r6.
    on bits_8_is t6 _ of tail r6 (λ v7 t7 f7 e7 r7.
    let some : Words = memberships.ranges_shown v4 in
    let more0 : Words = words.number v5 in
    let more1 : Words = words.time v6 in
    let more2 : Words = words.bits 8 v7 in
    let same = took_same _ of t7 tail r7 in
    let Told : Membership → Type 0 =
    λ of. IsMembership of × (tokens ≡ tokens_of_words (memberships.membership of) ++ tail) in
    subst Told same.0 (
      (f0, (f1, (f2, (f3, (f4, (f5, (f6, f7))))))),
      glue (words.number v0) tokens t0 _ e0 (
          glue (words.time v1) t0 t1 _ e1 (
          glue (words.number v2) t1 t2 _ e2 (
          glue (words.number v3) t2 t3 _ e3 (
          (glue (memberships.ranges_shown v4) t3 t4 _ e4 (
          glue (words.number v5) t4 t5 _ e5 (
          glue (words.time v6) t5 t6 _ e6 (
          glue (words.bits 8 v7) t6 t7 _ e7 (
          same.1))))
          ∙ sym (split ((some ++ more0) ++ more1) more2 tail
          ∙ split (some ++ more0) more1 (tokens_of_words more2 ++ tail)
          ∙ split some more0 (tokens_of_words more1 ++ (tokens_of_words more2 ++ tail)))))))),
    )))))))))

pub membership_is : IsSpelled membership memberships.membership IsMembership
membership_is = record { back = membership_back; forth = membership_from }
