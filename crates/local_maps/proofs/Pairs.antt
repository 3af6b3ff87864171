-- The pairs of a chain, as pairs of a local number and its text.
use Rattle.std.proofs.Common.{◌≡◌, ℕ, suc, Bool, true, false, cond, eqb, List, [], ◌∷◌, ◌++◌, map, filter, find}
use Rattle.std.proofs.Common.{option_map, Some, refl, ap}
use Rattle.std.specs.List.{AllByRecursion}
use Rattle.kom_types.specs.declared.texts.LocalText.{LocalText}
use Rattle.map_chain.specs.Pairs.{Pair}
use Rattle.map_chain.specs.Pairs as chain
use Rattle.local_maps.specs.Pairs.{AllBelow, AllAbove, IsRising, text_of, local_text}

pub filter-local_text : (test : LocalText → Bool) (ps : List Pair) →
    filter test (map local_text ps) ≡ map local_text (filter (λ p. test (local_text p)) ps)
filter-local_text test [] = refl
filter-local_text test (p ∷ ps) =
    elim (test (local_text p)) as
    (λ b. cond b (local_text p ∷ filter test (map local_text ps)) (filter test (map local_text ps))
    ≡ map local_text (cond b (p ∷ filter (λ q. test (local_text q)) ps) (filter (λ q. test (local_text q)) ps))) [
      | true ↦ ap (λ l. local_text p ∷ l) (filter-local_text test ps)
      | false ↦ filter-local_text test ps
    ]

pub text_of-local_text : (local : ℕ) (ps : List Pair) → text_of local (map local_text ps) ≡ chain.text_of local ps
text_of-local_text local [] = refl
text_of-local_text local (p ∷ ps) =
    elim (eqb p.0 local) as
    (λ b. option_map (λ pair. pair.text)
    (cond b (Some (local_text p)) (find (λ pair. eqb pair.local local) (map local_text ps)))
    ≡ cond b (Some p.1) (chain.text_of local ps)) [
      | true ↦ refl
      | false ↦ text_of-local_text local ps
    ]

pub below-in_chain : (local : ℕ) (ps : List Pair) → AllBelow local (map local_text ps) → chain.AllBelow local ps
below-in_chain local [] all = tt
below-in_chain local (p ∷ ps) all = (all.0, below-in_chain local ps all.1)

above-local_text : (local : ℕ) (ps : List Pair) → chain.AllFrom (suc local) ps → AllAbove local (map local_text ps)
above-local_text local [] all = tt
above-local_text local (p ∷ ps) all = (all.0, above-local_text local ps all.1)

pub rising-local_text : (ps : List Pair) → chain.IsRising ps → IsRising (map local_text ps)
rising-local_text [] rising = tt
rising-local_text (p ∷ ps) rising = (above-local_text p.0 ps rising.0, rising-local_text ps rising.1)

-- what holds of all holds of those that pass a test
pub all_filter : (P : LocalText → Type 0) (test : LocalText → Bool) (pairs : List LocalText) →
    AllByRecursion P pairs → AllByRecursion P (filter test pairs)
all_filter P test [] all = tt
all_filter P test (pair ∷ pairs) all =
    elim (test pair) as (λ b. AllByRecursion P (cond b (pair ∷ filter test pairs) (filter test pairs))) [
      | true ↦ (all.0, all_filter P test pairs all.1)
      | false ↦ all_filter P test pairs all.1
    ]

-- and of all with one more at the end
pub all_push : (P : LocalText → Type 0) (pairs : List LocalText) (last : LocalText) →
    AllByRecursion P pairs → P last → AllByRecursion P (pairs ++ last ∷ [])
all_push P [] last all here = (here, tt)
all_push P (pair ∷ pairs) last all here = (all.0, all_push P pairs last all.1 here)

pub none-local_text : (ps : List Pair) → map local_text ps ≡ [] → ps ≡ []
none-local_text [] none = refl
none-local_text (p ∷ ps) none = cc
