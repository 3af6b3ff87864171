-- How often something is needed, and when there is room for all that is needed.
use Rattle.std.proofs.Common.{◌≡◌, ℕ, ◌+◌, ◌<◌, ◌≤◌, ◌⊎◌, Bool, true, false, cond, List, [], ◌∷◌, ◌++◌}
use Rattle.std.proofs.Common.{All, length, take, get_or, append_assoc, append-nil, refl, sym, ap, ap₂, subst}
use Rattle.std.proofs.Common.{◌∙◌, inl, inr, true≢false, arith}
use Rattle.std.proofs.lemmas.List.{take_more}
use Rattle.std.proofs.lemmas.Bool.{cases_Bool, eqb-true, and_parts}
use Rattle.std.proofs.lemmas.List.Elements.{All-tail}
use Rattle.std.proofs.lemmas.List.Sums.{sum_by-append, sum_by-cons}
use Rattle.kom_types.specs.Bits.{alike}
use Rattle.texts.specs.declared.needs.Need.{Need}
use Rattle.texts.specs.declared.needs.Need.TheVariants as need
use Rattle.texts.specs.Needs.{same, count_of}
use Rattle.kom_types.specs.declared.effects.Effect.{Effect}
use Rattle.kom_state.specs.Room.{needs_of, all_needs}

pub count_of-append : (one : Need) (needs more : List Need) →
    count_of one (needs ++ more) ≡ count_of one needs + count_of one more
count_of-append one needs more = sum_by-append (λ other. cond (same one other) 1 0) needs more

alike_same : (one other : Bool) → alike one other ≡ true → one ≡ other
alike_same true true is = refl
alike_same true false is = absurd (true≢false (sym is))
alike_same false true is = absurd (true≢false (sym is))
alike_same false false is = refl

pub same_eq : (one other : Need) → same one other ≡ true → one ≡ other
same_eq need.Text need.Text is = refl
same_eq need.Recipient need.Recipient is = refl
same_eq (need.RecipientOf text) (need.RecipientOf second) is = ap need.RecipientOf (eqb-true _ _ is)
same_eq (need.Local conference) (need.Local second) is = ap need.Local (eqb-true _ _ is)
same_eq need.Link need.Link is = refl
same_eq (need.LinkFrom text footnote) (need.LinkFrom second kind) is =
    let parts = and_parts _ _ is in ap₂ need.LinkFrom (eqb-true _ _ parts.0) (alike_same _ _ parts.1)
same_eq (need.LinkInto text footnote) (need.LinkInto second kind) is =
    let parts = and_parts _ _ is in ap₂ need.LinkInto (eqb-true _ _ parts.0) (alike_same _ _ parts.1)
same_eq need.Mark need.Mark is = refl
same_eq (need.MarkOf person) (need.MarkOf second) is = ap need.MarkOf (eqb-true _ _ is)
same_eq (need.MarkOn text) (need.MarkOn second) is = ap need.MarkOn (eqb-true _ _ is)
same_eq (need.Created person) (need.Created second) is = ap need.Created (eqb-true _ _ is)
same_eq one other is = absurd (true≢false (sym is))

-- room for each thing as often as it is needed is room for all
module _ (room : Need → ℕ) where
  found_or_none : (one : Need) (needs needed : List Need) → All (λ each. count_of each needed ≤ room each) needs →
      (count_of one needs ≡ 0) ⊎ (count_of one needed ≤ room one)
  found_or_none one [] needed each = inl refl
  found_or_none one (first ∷ needs) needed each =
      by (found_or_none one needs needed
      (All-tail (λ other. count_of other needed ≤ room other) first needs each)) (cases_Bool (same one first))
    where
      by : (count_of one needs ≡ 0) ⊎ (count_of one needed ≤ room one) →
          (same one first ≡ true) ⊎ (same one first ≡ false) →
          (count_of one (first ∷ needs) ≡ 0) ⊎ (count_of one needed ≤ room one)
      by rest (inl is) =
          inr (subst (λ other. count_of other needed ≤ room other) (sym (same_eq one first is))
          (each 0 first (omega arith)))
      by (inr has) (inr not) = inr has
      by (inl none) (inr not) =
          let zero : cond {A = ℕ} (same one first) 1 0 ≡ 0 = rw not refl in
          inl (omega (arith, sum_by-cons (λ other. cond (same one other) 1 0) first needs, zero, none))

  pub room_for_all : (needs : List Need) → All (λ each. count_of each needs ≤ room each) needs → (one : Need) →
      count_of one needs ≤ room one
  room_for_all needs each one = by (found_or_none one needs needs each)
    where
      by : (count_of one needs ≡ 0) ⊎ (count_of one needs ≤ room one) → count_of one needs ≤ room one
      by (inl none) = omega (arith, none)
      by (inr has) = has

-- ---- what effects need, one after another
all_needs-append : (effects more : List Effect) → all_needs (effects ++ more) ≡ all_needs effects ++ all_needs more
all_needs-append [] more = refl
all_needs-append (what ∷ effects) more =
    ap (λ needs. needs_of what ++ needs) (all_needs-append effects more)
    ∙ sym (append_assoc (needs_of what) (all_needs effects) (all_needs more))

pub all_needs-more : (effects : List Effect) (at : ℕ) (what : Effect) → at < length effects →
    what ≡ get_or effects at what →
    all_needs (take (at + 1) effects) ≡ all_needs (take at effects) ++ needs_of what
all_needs-more effects at what lt is =
    ap all_needs (take_more effects at what lt)
    ∙ all_needs-append (take at effects) (get_or effects at what ∷ [])
    ∙ ap (λ one. all_needs (take at effects) ++ (needs_of one ++ [])) (sym is)
    ∙ ap (λ needs. all_needs (take at effects) ++ needs) (append-nil (needs_of what))
