-- What is left where no gate failed.
use Rattle.std.proofs.Common.{◌≡◌, ℕ, zero, suc, ◌+◌, ◌<◌, ◌≤◌, ◌⊎◌, inl, inr, List, [], ◌∷◌, ◌++◌, length, map, take}
use Rattle.std.proofs.Common.{get_or, sym, subst, arith}
use Rattle.std.proofs.lemmas.List.{map-append, take_all, take_more}
use Rattle.std.specs.List.{AllByRecursion}
use Rattle.kom_types.specs.declared.acts.Record.{Record}
use Rattle.kom_links.specs.Doors.{GateView}
use Rattle.kom_model.specs.State.{State}
use Rattle.kom_serving.specs.Runs.{IsDone, IsOver, HasFailed}

pub over_of : {L : Type 0} (start : State) (history : List Record) (gates : List (GateView L)) →
    AllByRecursion (λ gate. IsDone start history gate) gates → (HasFailed gates → ⊥) → IsOver start history gates
over_of start history [] all none = inl tt
over_of start history (gate ∷ gates) all none = elim all.0 [
  | inl failed ↦ absurd (none (inl failed))
  | inr (inl ended) ↦ elim (over_of start history gates all.1 (λ failed. none (inr failed))) [
    | inl others ↦ inl (ended, others)
    | inr stopped ↦ inr stopped
  ]
  | inr (inr stopped) ↦ inr stopped
]

-- what all have by what is seen of them is had by all that is seen
pub all_viewed : {X Y : Type 0} (view : X → Y) (P : Y → Type 0) (items : List X) →
    AllByRecursion (λ x. P (view x)) items → AllByRecursion P (map view items)
all_viewed view P [] all = tt
all_viewed view P (x ∷ items) all = (all.0, all_viewed view P items all.1)

-- ---- which gates failed

failed_append : {L : Type 0} (gates more : List (GateView L)) → HasFailed (gates ++ more) →
    HasFailed gates ⊎ HasFailed more
failed_append [] more failed = inr failed
failed_append (gate ∷ gates) more (inl failed) = inl (inl failed)
failed_append (gate ∷ gates) more (inr later) = elim (failed_append gates more later) [
  | inl failed ↦ inl (inr failed)
  | inr failed ↦ inr failed
]

pub none_more : {G L : Type 0} (view : G → GateView L) (gates : List G) (i : ℕ) (d : G) → i < length gates →
    (HasFailed (map view (take i gates)) → ⊥) → (view (get_or gates i d)).faults ≡ 0 →
    HasFailed (map view (take (i + 1) gates)) → ⊥
none_more {G} view gates i d low none well failed =
    let taken : take (i + 1) gates ≡ take i gates ++ get_or gates i d ∷ [] = take_more gates i d low in
    let failed' : HasFailed (map view (take i gates) ++ view (get_or gates i d) ∷ []) =
    subst (λ all. HasFailed all) (map-append view (take i gates) (get_or gates i d ∷ []))
    (subst (λ (taken : List G). HasFailed (map view taken)) taken failed) in
    elim (failed_append (map view (take i gates)) (view (get_or gates i d) ∷ []) failed') [
      | inl before ↦ none before
      | inr (inl here) ↦ here well
      | inr (inr nothing) ↦ nothing
    ]

pub failed_at : {G L : Type 0} (view : G → GateView L) (gates : List G) (i : ℕ) (d : G) → i < length gates →
    ((view (get_or gates i d)).faults ≡ 0 → ⊥) → HasFailed (map view gates)
failed_at view [] i d low some = absurd (omega arith)
failed_at view (gate ∷ gates) zero d low some = inl some
failed_at view (gate ∷ gates) (suc i) d low some = inr (failed_at view gates i d (omega arith) some)

pub none_at_all : {G L : Type 0} (view : G → GateView L) (gates : List G) (i : ℕ) → length gates ≤ i →
    (HasFailed (map view (take i gates)) → ⊥) → HasFailed (map view gates) → ⊥
none_at_all {G} view gates i all none failed =
    none (subst (λ (taken : List G). HasFailed (map view taken)) (sym (take_all i gates all)) failed)
