-- What a drain takes.
use Rattle.std.proofs.Common.{◌≡◌, ℕ, ◌≤◌, Bool, nat_lt, List, [], ◌∷◌, length, take, refl, ap, ◌∙◌}
use Rattle.std.proofs.Common.{subst, inl, inr, suc, zero, arith}
use Rattle.std.specs.List.{take_while, prefix_len}
use Rattle.std.proofs.lemmas.Bool.{cases_Bool, ltb-true, ltb-false}
use Rattle.std.proofs.lemmas.List.Sums.{take_while-cons}
use Rattle.kom_types.specs.Sessions.{Waiting, most_drained, drained_count}
use Rattle.kom_model.specs.State.{State, NeverFalls}
use Rattle.kom_model.specs.Out.{items_of, waiting_for, drained_from}
use Rattle.kom_model.proofs.Order.{AllBelow, AllFrom, AllFrom-never_falls}

abbrev pub is_below : ℕ → Waiting → Bool
is_below stable one = nat_lt one.entry stable

-- the longest prefix that stands below
below-take_while : (stable : ℕ) (waiting : List Waiting) → AllBelow stable (take_while (is_below stable) waiting)
below-take_while stable [] = tt
below-take_while stable (one ∷ waiting) =
    rw (take_while-cons (is_below stable) one waiting)
    (elim (cases_Bool (is_below stable one)) [
      | inl below ↦ rw below (ltb-true _ _ below, below-take_while stable waiting)
      | inr past ↦ rw past tt
    ])

below-take : (stable n : ℕ) (waiting : List Waiting) → AllBelow stable waiting → AllBelow stable (take n waiting)
below-take stable zero waiting all = tt
below-take stable (suc n) [] all = tt
below-take stable (suc n) (one ∷ waiting) all = (all.0, below-take stable n waiting all.1)

-- as many of the items as a prefix has are that prefix
pub prefix_of_prefix : (n m : ℕ) (waiting : List Waiting) →
    take (length (take n (take m waiting))) waiting ≡ take n (take m waiting)
prefix_of_prefix zero m waiting = refl
prefix_of_prefix (suc n) zero waiting = refl
prefix_of_prefix (suc n) (suc m) [] = refl
prefix_of_prefix (suc n) (suc m) (one ∷ waiting) = ap (λ rest. one ∷ rest) (prefix_of_prefix n m waiting)

-- a drain takes what is stable alone
pub drained_below : (state : State) (number : ℕ) → AllBelow state.stable (drained_from number state)
drained_below state number =
    let waiting : List Waiting = waiting_for number state in
    rw (prefix_of_prefix most_drained (prefix_len (is_below state.stable) waiting) waiting)
    (below-take state.stable most_drained (take_while (is_below state.stable) waiting)
    (below-take_while state.stable waiting))

-- where a drain gives nothing, nothing that waits is stable
pub AllFrom-nothing_drained : (bound stable : ℕ) (waiting : List Waiting) → bound ≤ stable → NeverFalls 0 waiting →
    items_of (take (drained_count stable waiting) waiting) ≡ [] → AllFrom bound waiting
AllFrom-nothing_drained bound stable [] low falls nothing = tt
AllFrom-nothing_drained bound stable (one ∷ waiting) low falls nothing =
    elim (cases_Bool (is_below stable one)) [
      | inl below ↦
          let rest : List Waiting = take_while (is_below stable) waiting in
          let begins : take_while (is_below stable) (one ∷ waiting) ≡ one ∷ rest =
          take_while-cons (is_below stable) one waiting ∙ rw below refl in
          let wrong : one.item ∷ items_of (take (length (take 63 rest)) waiting) ≡ [] =
          subst (λ w. items_of (take (length (take most_drained w)) (one ∷ waiting)) ≡ []) begins nothing in
          cc
      | inr past ↦
          let first : bound ≤ one.entry = omega (arith, ltb-false _ _ past) in
          (first, AllFrom-never_falls bound one.entry waiting first falls.1)
    ]
