-- A rule that is chosen by a number.
use Rattle.std.proofs.Common.{◌≡◌, ℕ, ◌==◌, Bool, true, false, if◌then◌else◌, refl, arith}
use Rattle.std.proofs.lemmas.Bool.Decides.{nat_tests}
use Rattle.kom_types.specs.calls.Arguments.{Taken}

choose_by : {X : Type 0} (number one : ℕ) (first others end : Taken X) (test : Bool) → (number == one) ≡ test →
    (if test then first else others) ≡ end → {Goal : Type 0} →
    (number ≡ one → first ≡ end → Goal) → (others ≡ end → Goal) → Goal
choose_by number one first others end true same is this that =
    let equal : number ≡ one = grind (arith, nat_tests) in
    this equal is
choose_by number one first others end false same is this that = that is

-- it is this one, or one of the others
pub choose : {X : Type 0} (number one : ℕ) (first others end : Taken X) →
    (if number == one then first else others) ≡ end → {Goal : Type 0} →
    (number ≡ one → first ≡ end → Goal) → (others ≡ end → Goal) → Goal
choose number one first others end is this that =
    choose_by number one first others end (number == one) refl is this that
