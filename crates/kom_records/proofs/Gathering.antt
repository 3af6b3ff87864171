-- Reading elements one after the other, as a loop does.
use Rattle.std.proofs.Common.{◌≡◌, ℕ, suc, ◌-◌, ◌+◌, ◌<◌, true, List, [], ◌∷◌, ◌++◌, refl, sym, ap, ◌∙◌}
use Rattle.std.proofs.Common.{append_assoc, arith}
use Rattle.kom_types.specs.Token.{Token}
use Rattle.kom_types.specs.calls.Arguments.{Taken, Took, Departs, then, elements}
use Rattle.kom_records.specs.declared.fault.ReadFault.{ReadFault}
use Rattle.kom_records.specs.declared.fault.ReadFault.TheVariants as fault
use Rattle.kom_records.specs.Telling.{DepartsAs}

-- the elements that were read, and those that are still read
abbrev pub after : {X : Type 0} → List X → Taken (List X) → Taken (List X)
after before taken = then taken (λ values. Took (before ++ values))

regroup : {X : Type 0} (before : List X) (value : X) (taken : Taken (List X)) →
    after before (then taken (λ values. Took (value ∷ values))) ≡ after (before ++ value ∷ []) taken
regroup before value (Took values tail) = ap (λ vs. Took vs tail) (sym (append_assoc before (value ∷ []) values))
regroup before value (Departs departure) = refl

-- one element more
pub goes_on : {X : Type 0} (reads : List Token → Taken X) (before : List X) (count index : ℕ) (tokens rest : List Token)
    (value : X) (total : Taken (List X)) → index < count → reads tokens ≡ Took value rest →
    after before (elements reads (count - index) tokens) ≡ total →
    after (before ++ value ∷ []) (elements reads (count - (index + 1)) rest) ≡ total
goes_on reads before count index tokens rest value total below taken so_far =
    let left : count - index ≡ suc (count - (index + 1)) = omega arith in
    let one : after before (elements reads (count - index) tokens)
    ≡ after (before ++ value ∷ []) (elements reads (count - (index + 1)) rest) =
    rw (left, taken) (regroup before value (elements reads (count - (index + 1)) rest)) in
    sym one ∙ so_far

-- an element that departs
pub departs : {X : Type 0} (found : ReadFault) (reads : List Token → Taken X) (before : List X) (count index : ℕ)
    (tokens : List Token) (total : Taken (List X)) → index < count → DepartsAs true (reads tokens) found →
    after before (elements reads (count - index) tokens) ≡ total → DepartsAs true total found
departs fault.Departs reads before count index tokens total below taken so_far =
    let left : count - index ≡ suc (count - (index + 1)) = omega arith in
    let one : after before (elements reads (count - index) tokens) ≡ Departs _ = rw (left, taken) refl in
    sym so_far ∙ one
departs fault.Memory reads before count index tokens total below taken so_far = taken
