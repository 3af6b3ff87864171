-- The numbers of messages, and their bits.
use Rattle.std.proofs.Common.{◌≡◌, ℕ, ◌+◌, ◌*◌, ◌%◌, ◌^◌, ◌<◌, true, false, eqb, ltb, bit_or, List, [], ◌∷◌, length}
use Rattle.std.proofs.Common.{drop, get_or, add-one, drop-cons, refl, inl, inr, arith}
use Rattle.std.specs.List.{list_all, filter, fold}
use Rattle.std.proofs.lemmas.Bool.{or_cases, and_parts, eqb-true, ltb-true}
use Rattle.std.proofs.lemmas.Nat.{one_shl}
use Rattle.kom_model.specs.Kinds.{is_among}
use Rattle.kom_types.specs.declared.async_numbers.TheConstants.{MESSAGE_NUMBERS}
use Rattle.kom_model.specs.calls.Sessions.{is_message}

-- a number that stands in a list is below what all of the list are
among-below : (limit number : ℕ) (numbers : List ℕ) → list_all (λ one. ltb one limit) numbers ≡ true →
    is_among numbers number ≡ true → number < limit
among-below limit number [] all is = cc
among-below limit number (one ∷ numbers) all is =
    let parts = and_parts (ltb one limit) (list_all (λ one. ltb one limit) numbers) all in
    elim (or_cases (eqb one number) (is_among numbers number) is) [
      | inl here ↦
          let same : one ≡ number = eqb-true one number here in
          let below : one < limit = ltb-true one limit parts.0 in
          omega arith
      | inr there ↦ among-below limit number numbers parts.1 there
    ]

message-below : (number : ℕ) → is_message number ≡ true → number < 32
message-below number is = among-below 32 number MESSAGE_NUMBERS refl is

-- with the bits of those of some numbers that are of messages
abbrev pub with_bits : ℕ → List ℕ → ℕ
with_bits bits numbers = fold (λ bits number. bit_or bits (2 ^ number)) bits (filter is_message numbers)

-- the number at a place is of a message, and its bit is set
pub bits_set : (bits : ℕ) (numbers : List ℕ) (place : ℕ) → place < length numbers →
    is_message (get_or numbers place 0) ≡ true →
    with_bits (bit_or bits (1 * 2 ^ get_or numbers place 0 % 2 ^ 32)) (drop (place + 1) numbers)
    ≡ with_bits bits (drop place numbers)
bits_set bits numbers place in_range is =
    let shifted = one_shl (get_or numbers place 0) 32 (message-below (get_or numbers place 0) is) in
    rw (shifted, drop-cons numbers place 0 in_range, is, add-one) refl

-- or it is of none
pub bits_passed : (bits : ℕ) (numbers : List ℕ) (place : ℕ) → place < length numbers →
    is_message (get_or numbers place 0) ≡ false →
    with_bits bits (drop (place + 1) numbers) ≡ with_bits bits (drop place numbers)
bits_passed bits numbers place in_range is = rw (drop-cons numbers place 0 in_range, is, add-one) refl
