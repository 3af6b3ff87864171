-- An effect whose bytes begin a set of ranges of which one is faulty.
use Rattle.std.proofs.Common.{◌≡◌, ℕ, zero, suc, ◌+◌, ◌-◌, ◌*◌, ◌/◌, ◌<◌, ◌≤◌, min, Bool, true, false, not, ◌&&◌}
use Rattle.std.proofs.Common.{List, [], ◌∷◌, ◌++◌, length, drop, refl, sym, ap, subst, ◌∙◌, arith, ltb, leb}
use Rattle.std.specs.Int.{w32, w64, from_le_bytes}
use Rattle.std.proofs.lemmas.Bool.{and_parts, eqb-true}
use Rattle.std.proofs.lemmas.List.{drop-append-le, drop-drop, length-drop}
use Rattle.kom_types.specs.declared.limits.TheConstants.{LAST_MOMENT}
use Rattle.kom_types.specs.declared.effects.Effect.{Effect}
use Rattle.kom_types.specs.declared.effects.Effect.TheVariants as effect
use Rattle.kom_types.specs.declared.memberships.ReadRange.{ReadRange}
use Rattle.read_ranges.specs.Changed.{rise_after}
use Rattle.effect_codec.specs.Fields.{Whole, number_at, limited_at, ranges_of}
use Rattle.effect_codec.specs.Fields.{so_many_ranges_at, and_then, value_at}
use Rattle.effect_codec.specs.Table.{read_set}
use Rattle.effect_codec.specs.Coding.{effect_at, row_at}
use Rattle.effect_codec.specs.Faulty.{has_faulty_range, ranges_there, SetsFaulty, BeginsFaulty}
use Rattle.effect_codec.proofs.Effects.{effect_again}
use Rattle.effect_codec.proofs.Spelled.{and_then_whole, read_whole, limited_whole}
use Rattle.effect_codec.proofs.Stays.{le_before}

-- the fields of a set of ranges
record HasSet (bytes : List ℕ) (one : Effect) : Type 0 where
  pub person : ℕ
  pub conference : ℕ
  pub at : ℕ
  pub is : one ≡ effect.ReadSet person conference at (ranges_of (from_le_bytes w32 (drop 16 bytes)) (drop 20 bytes))

has_set : (bytes : List ℕ) (one : Effect) (rest : List ℕ) → row_at read_set bytes ≡ Whole one rest → HasSet bytes one
unfolding value_at
has_set bytes one rest read =
    let (person, after_person, is_person, read_1) = and_then_whole (number_at bytes) _ one rest read in
    let (conference, after_conference, is_conference, read_2) = and_then_whole (number_at after_person) _ one rest read_1 in
    let (at, after_at, is_at, read_3) = and_then_whole (limited_at w64 LAST_MOMENT after_conference) _ one rest read_2 in
    let (ranges, after, is_ranges, read_4) =
    and_then_whole (and_then (number_at after_at) so_many_ranges_at) _ one rest read_3 in
    let (many, after_many, is_many, read_5) = and_then_whole (number_at after_at) so_many_ranges_at ranges after is_ranges in
    let one_is : one ≡ effect.ReadSet person conference at ranges = cc read_4 in
    let first = read_whole (from_le_bytes w32) 4 bytes person after_person is_person in
    let second = read_whole (from_le_bytes w32) 4 after_person conference after_conference is_conference in
    let third = (limited_whole w64 LAST_MOMENT after_conference at after_at is_at).0 in
    let fourth = read_whole (from_le_bytes w32) 4 after_at many after_many is_many in
    let fifth = read_whole (ranges_of many) (8 * many) after_many ranges after read_5 in
    let at_8 : after_conference ≡ drop 8 bytes =
    second.rest_is ∙ ap (λ (l : List ℕ). drop 4 l) first.rest_is ∙ drop-drop 4 4 bytes in
    let at_16 : after_at ≡ drop 16 bytes =
    third.rest_is ∙ ap (λ (l : List ℕ). drop 8 l) at_8 ∙ drop-drop 8 8 bytes in
    let at_20 : after_many ≡ drop 20 bytes =
    fourth.rest_is ∙ ap (λ (l : List ℕ). drop 4 l) at_16 ∙ drop-drop 4 16 bytes in
    let count : many ≡ from_le_bytes w32 (drop 16 bytes) =
    fourth.found_is ∙ ap (λ (l : List ℕ). from_le_bytes w32 l) at_16 in
    record {
      person = person;
      conference = conference;
      at = at;
      is = one_is ∙ ap (λ (r : List ReadRange). effect.ReadSet person conference at r)
          (fifth.found_is ∙ ap (λ (l : List ℕ). ranges_of many l) at_20
          ∙ ap (λ (n : ℕ). ranges_of n (drop 20 bytes)) count);
    }

-- where ranges rise, those before some of them do
rise_before : (few many end : ℕ) (bytes more : List ℕ) → few ≤ many → 8 * few ≤ length bytes
    → rise_after end (ranges_of many (bytes ++ more)) ≡ true → rise_after end (ranges_of few bytes) ≡ true
rise_before zero many end bytes more fewer here rise = refl
rise_before (suc few) zero end bytes more fewer here rise = absurd (omega (arith, fewer))
rise_before (suc few) (suc many) end bytes more fewer here rise =
    let first : from_le_bytes w32 (bytes ++ more) ≡ from_le_bytes w32 bytes =
    le_before w32 bytes more (omega arith) (omega (arith, here)) in
    let last : from_le_bytes w32 (drop 4 (bytes ++ more)) ≡ from_le_bytes w32 (drop 4 bytes) =
    ap (λ (l : List ℕ). from_le_bytes w32 l) (drop-append-le 4 bytes more (omega (arith, here)))
    ∙ le_before w32 (drop 4 bytes) more (omega arith) (omega (arith, here, length-drop 4 bytes)) in
    let others : drop 8 (bytes ++ more) ≡ drop 8 bytes ++ more = drop-append-le 8 bytes more (omega (arith, here)) in
    let tests : ℕ → ℕ → List ℕ → Bool =
    λ one_first one_last l. rise_after end (record { first = one_first; last = one_last } ∷ ranges_of many l) in
    let same : rise_after end (ranges_of (suc many) (bytes ++ more))
    ≡ tests (from_le_bytes w32 bytes) (from_le_bytes w32 (drop 4 bytes)) (drop 8 bytes ++ more) =
    ap (λ (n : ℕ). tests n (from_le_bytes w32 (drop 4 (bytes ++ more))) (drop 8 (bytes ++ more))) first
    ∙ ap (λ (n : ℕ). tests (from_le_bytes w32 bytes) n (drop 8 (bytes ++ more))) last
    ∙ ap (tests (from_le_bytes w32 bytes) (from_le_bytes w32 (drop 4 bytes))) others in
    let own_first : ℕ = from_le_bytes w32 bytes in
    let own_last : ℕ = from_le_bytes w32 (drop 4 bytes) in
    let rises : Bool = ltb end own_first && leb own_first own_last in
    let others_few : Bool = rise_after own_last (ranges_of few (drop 8 bytes)) in
    let both : (rises ≡ true) × (rise_after own_last (ranges_of many (drop 8 bytes ++ more)) ≡ true) =
    and_parts rises (rise_after own_last (ranges_of many (drop 8 bytes ++ more))) (sym same ∙ rise) in
    ap (λ (b : Bool). b && others_few) both.0
    ∙ rise_before few many own_last (drop 8 bytes) more (omega (arith, fewer))
    (omega (arith, here, length-drop 8 bytes)) both.1

not_true : (test : Bool) → (test ≡ true → ⊥) → test ≡ false
not_true true never = absurd (never refl)
not_true false never = refl

-- so many ranges that are there do not rise, and so neither do all that are declared
sets_faulty : (few : ℕ) (bytes more : List ℕ) (one : Effect) → few ≤ from_le_bytes w32 (drop 16 bytes)
    → 8 * few ≤ length (drop 20 bytes) → rise_after 0 (ranges_of few (drop 20 bytes)) ≡ false
    → HasSet (bytes ++ more) one → SetsFaulty one
sets_faulty zero bytes more one fewer here fall set = absurd (cc fall)
sets_faulty (suc few) bytes more one fewer here fall set =
    let long : 28 ≤ length bytes = omega (arith, here, length-drop 20 bytes) in
    let count : from_le_bytes w32 (drop 16 (bytes ++ more)) ≡ from_le_bytes w32 (drop 16 bytes) =
    ap (λ (l : List ℕ). from_le_bytes w32 l) (drop-append-le 16 bytes more (omega (arith, long)))
    ∙ le_before w32 (drop 16 bytes) more (omega arith) (omega (arith, long, length-drop 16 bytes)) in
    let there : drop 20 (bytes ++ more) ≡ drop 20 bytes ++ more = drop-append-le 20 bytes more (omega (arith, long)) in
    let many : ℕ = from_le_bytes w32 (drop 16 bytes) in
    let ranges_are : ranges_of (from_le_bytes w32 (drop 16 (bytes ++ more))) (drop 20 (bytes ++ more))
    ≡ ranges_of many (drop 20 bytes ++ more) =
    ap (λ (n : ℕ). ranges_of n (drop 20 (bytes ++ more))) count ∙ ap (ranges_of many) there in
    record {
      person = set.person;
      conference = set.conference;
      at = set.at;
      ranges = ranges_of many (drop 20 bytes ++ more);
      is = set.is ∙ ap (λ (r : List ReadRange). effect.ReadSet set.person set.conference set.at r) ranges_are;
      faulty = not_true _ (λ rise.
          let rises = rise_before (suc few) many 0 (drop 20 bytes) more fewer here rise in
          let both : true ≡ false = sym rises ∙ fall in
          cc both);
    }

not_not : (test : Bool) → not test ≡ true → test ≡ false
not_not true is = absurd (cc is)
not_not false is = refl

pub begins_faulty : (bytes : List ℕ) → has_faulty_range bytes ≡ true → BeginsFaulty bytes
begins_faulty [] faulty one more rest in_range is = absurd (cc faulty)
begins_faulty (byte ∷ bytes) faulty one more rest in_range is =
    let both = and_parts _ _ faulty in
    let kind : byte ≡ 19 = eqb-true byte 19 both.0 in
    let read : effect_at (byte ∷ (bytes ++ more)) ≡ Whole one rest = ap effect_at is ∙ effect_again one rest in_range in
    let read_19 : row_at read_set (bytes ++ more) ≡ Whole one rest =
    subst (λ (n : ℕ). effect_at (n ∷ (bytes ++ more)) ≡ Whole one rest) kind read in
    sets_faulty (min (from_le_bytes w32 (drop 16 bytes)) (length (drop 20 bytes) / 8)) bytes more one (omega arith)
    (omega arith) (not_not _ both.1) (has_set (bytes ++ more) one rest read_19)

-- too few bytes have no range
pub none_there : (bytes : List ℕ) → length bytes < 21 → rise_after 0 (ranges_there bytes) ≡ true
none_there bytes short =
    let none : min (from_le_bytes w32 (drop 17 bytes)) (length (drop 21 bytes) / 8) ≡ 0 =
    omega (arith, short, length-drop 21 bytes) in
    ap (λ (n : ℕ). rise_after 0 (ranges_of n (drop 21 bytes))) none
