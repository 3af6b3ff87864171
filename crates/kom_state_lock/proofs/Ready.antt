-- All passes of a hall, in order, are what closing the hall asks.
use Rattle.std.proofs.Common.{◌≡◌, ℕ, zero, suc, ◌<◌, ◌+◌, List, [], ◌∷◌, ◌++◌, length, map, get_or, All, Contains}
use Rattle.std.proofs.Common.{Option, Some, take, sym, refl, ap, ◌∙◌, subst, arith, length-append}
use Rattle.std.specs.Prelude.{slice_index_or}
use Rattle.std.specs.Option.{option_to_list}
use Rattle.std.proofs.Math.Seq.{take-append_seam}
use native.Mathlib.Decide.{ℕ_discrete}
use Rattle.kom_state_lock.specs.Passes.{HallModel, PassModel, IsPassOf, HoldsNoTurn, IsReady, AreReady, AreReadyButLast}
use Rattle.kom_state_lock.specs.Passes.{IsReadyLast, number_of}

module _ {B E : Type 0} where
  pub ready_table : (hall : HallModel B) (passes : List (PassModel B E)) → AreReady hall passes
      → All (λ p. p.table ≡ hall.table) passes
  ready_table hall passes ready k d low = (ready.each k d low).table

  pub ready_free : (hall : HallModel B) (passes : List (PassModel B E)) → AreReady hall passes
      → All (λ p. HoldsNoTurn p.turn) passes
  ready_free hall passes ready k d low = (ready.each k d low).free

  number_at : (passes : List (PassModel B E)) (k n : ℕ) → k < length passes
      → ((d : PassModel B E) → (slice_index_or passes k d).number ≡ n) → get_or (map number_of passes) k n ≡ n
  number_at [] k n low e = absurd (omega arith)
  number_at (x ∷ passes) zero n low e = e x
  number_at (x ∷ passes) (suc k) n low e = number_at passes k n (omega arith) e

  mapped : (passes : List (PassModel B E)) → length (map number_of passes) ≡ length passes
  mapped [] = refl
  mapped (x ∷ passes) = ap suc (mapped passes)

  pub ready_every : (hall : HallModel B) (passes : List (PassModel B E)) → AreReady hall passes → (n : ℕ)
      → n < hall.passes → Contains (map number_of passes) n
  ready_every hall passes ready n low =
      let here : n < length passes = omega (arith, ready.long) in
      (n, omega (arith, mapped passes), number_at passes n n here (λ d. (ready.each n d here).number))

  before_last : (passes : List (PassModel B E)) (last : PassModel B E) (k : ℕ) (d : PassModel B E) → k < length passes
      → slice_index_or (passes ++ last ∷ []) k d ≡ slice_index_or passes k d
  before_last [] last k d low = absurd (omega arith)
  before_last (x ∷ passes) last zero d low = refl
  before_last (x ∷ passes) last (suc k) d low = before_last passes last k d (omega arith)

  at_last : (passes : List (PassModel B E)) (last : PassModel B E) (k : ℕ) (d : PassModel B E) → k ≡ length passes
      → slice_index_or (passes ++ last ∷ []) k d ≡ last
  at_last [] last zero d e = refl
  at_last [] last (suc k) d e = absurd (omega arith)
  at_last (x ∷ passes) last zero d e = absurd (omega arith)
  at_last (x ∷ passes) last (suc k) d e = at_last passes last k d (omega arith)

  -- the last pass is kept apart from the others
  pub ready_apart : (hall : HallModel B) (passes : List (PassModel B E)) (last : PassModel B E)
      → AreReady hall (passes ++ last ∷ []) → AreReadyButLast hall passes × IsReadyLast hall last
  ready_apart hall passes last ready =
      let more = length-append passes (last ∷ []) in
      let long : length passes + 1 ≡ hall.passes = sym more ∙ ready.long in
      let own : IsReady hall (length passes) last =
      subst (IsReady hall (length passes)) (at_last passes last (length passes) last refl)
      (ready.each (length passes) last (omega arith)) in (
        record {
          long = long;
          each = λ k d low. subst (IsReady hall k) (before_last passes last k d low) (ready.each k d (omega arith));
        },
        record { table = own.table; last = ap (λ n. n + 1) own.number ∙ long; free = own.free },
      )

  pub ready_popped : (hall : HallModel B) (row passes : List (PassModel B E)) (popped : Option (PassModel B E))
      (last : PassModel B E) → AreReady hall row → row ≡ passes ++ option_to_list popped → popped ≡ Some last
      → AreReadyButLast hall passes × IsReadyLast hall last
  ready_popped hall row passes popped last ready e is =
      ready_apart hall passes last (subst (AreReady hall) (e ∙ ap (λ o. passes ++ option_to_list o) is) ready)

  -- and comes back to them
  pub ready_again : (hall : HallModel B) (passes : List (PassModel B E)) (last : PassModel B E)
      → AreReadyButLast hall passes → IsReadyLast hall last → AreReady hall (passes ++ last ∷ [])
  ready_again hall passes last others own = record {
    long = length-append passes (last ∷ []) ∙ others.long;
    each = λ k d low. elim (ℕ_discrete k (length passes)) [
      | yes e ↦
          let number : number_of last ≡ k = omega (arith, own.last, others.long) in
          subst (IsReady hall k) (sym (at_last passes last k d e))
          record { table = own.table; number = number; free = own.free }
      | no e ↦
          let below : k < length passes = omega (arith, length-append passes (last ∷ [])) in
          subst (IsReady hall k) (sym (before_last passes last k d below)) (others.each k d below)
    ];
  }

  -- the others as a slice of the row was left, and the last one as it is after its own turns
  pub ready_pushed : (hall : HallModel B) (row others rest : List (PassModel B E)) (n : ℕ) (was last : PassModel B E)
      → row ≡ take n (others ++ rest) ++ last ∷ [] → n ≡ length others
      → AreReadyButLast hall others → IsReadyLast hall was
      → IsPassOf hall last → HoldsNoTurn last.turn → last.number ≡ was.number → AreReady hall row
  ready_pushed hall row others rest n was last e long ready own table free number =
      let seam : take n (others ++ rest) ≡ others =
      ap (λ m. take m (others ++ rest)) long ∙ take-append_seam others rest in
      let items : row ≡ others ++ last ∷ [] = e ∙ ap (λ l. l ++ last ∷ []) seam in
      let same : number_of last + 1 ≡ hall.passes = ap (λ m. m + 1) number ∙ own.last in
      subst (AreReady hall) (sym items)
      (ready_again hall others last ready record { table = table; last = same; free = free })
