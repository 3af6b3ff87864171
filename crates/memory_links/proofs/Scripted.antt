-- When an answer that did not come is none that a script asks for.
use Rattle.std.proofs.Common.{◌≡◌, ◌↔◌, ℕ, Bool, true, false, ◌&&◌, not, List, refl, sym, ◌∙◌}
use Rattle.std.proofs.lemmas.Bool.{false≢true}
use Rattle.memory_links.specs.declared.memory_link.Script.{Script}
use Rattle.memory_links.specs.Script.{is_next_in, Fails, Waits}

-- the next call does not fail
pub not_failing : {A : Type 0} (fails : List ℕ) (made : ℕ) → is_next_in fails made ≡ false → Fails fails made → A
not_failing fails made quiet h = absurd (false≢true (sym quiet ∙ h))

-- the next call does not fail, and no failure is answered
pub no_failure : {A : Type 0} (fails : List ℕ) (made : ℕ) → (A → ⊥) → is_next_in fails made ≡ false →
    A ↔ Fails fails made
no_failure fails made other quiet = (λ a. absurd (other a), not_failing fails made quiet)

-- both parts of a wait
first_of : (waits fails : Bool) → waits && not fails ≡ true → waits ≡ true
first_of true fails h = refl
first_of false fails h = absurd (false≢true h)

second_of : (waits fails : Bool) → waits && not fails ≡ true → fails ≡ false
second_of true true h = absurd (false≢true h)
second_of true false h = refl
second_of false fails h = absurd (false≢true h)

-- the next call fails, and no wait is answered
pub failure_first : {A : Type 0} (script : Script) (made : ℕ) → (A → ⊥) → is_next_in script.fails.items made ≡ true →
    A ↔ Waits script made
failure_first script made other failing =
    let quiet : Waits script made → is_next_in script.fails.items made ≡ false
    = second_of (is_next_in script.waits.items made) (is_next_in script.fails.items made) in
    (λ a. absurd (other a), λ h. absurd (false≢true (sym (quiet h) ∙ failing)))

-- the next call does not wait, and no wait is answered
pub no_wait : {A : Type 0} (script : Script) (made : ℕ) → (A → ⊥) → is_next_in script.waits.items made ≡ false →
    A ↔ Waits script made
no_wait script made other quiet =
    let waiting : Waits script made → is_next_in script.waits.items made ≡ true
    = first_of (is_next_in script.waits.items made) (is_next_in script.fails.items made) in
    (λ a. absurd (other a), λ h. absurd (false≢true (sym quiet ∙ waiting h)))

-- a call that fails does not wait
pub fails_alone : (result waits fails : Bool) → result ≡ waits && not fails → fails ≡ true → result ≡ false
fails_alone result true true is failing = is
fails_alone result false true is failing = is
fails_alone result waits false is failing = absurd (false≢true failing)
