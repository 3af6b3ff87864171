-- What guards say that let a call pass.
use Rattle.std.proofs.Common.{◌≡◌, ℕ, ◌==◌, Bool, true, false, cond, List, [], ◌∷◌, ◌++◌, Some, None, refl}
use Rattle.std.specs.Prelude.{is_some}
use Rattle.kom_model.specs.Db.{Db, person_of}
use Rattle.kom_model.specs.calls.Guards.{Guard, first_refusal, unless, refusal, person_guard}

-- all guards let a call pass
abbrev pub AllPass : List Guard → Type 0
AllPass [] = Unit {0}
AllPass (guard ∷ guards) = (guard ≡ None) × AllPass guards

pub all-pass : (guards : List Guard) → first_refusal guards ≡ None → AllPass guards
all-pass [] passes = tt
all-pass (None ∷ guards) passes = (refl, all-pass guards passes)
all-pass (Some refused ∷ guards) passes = absurd cc

pub pass-both : (guards others : List Guard) → AllPass (guards ++ others) → AllPass guards × AllPass others
pass-both [] others pass = (tt, pass)
pass-both (guard ∷ guards) others pass =
    let rest = pass-both guards others pass.1 in ((pass.0, rest.0), rest.1)

-- a guard that lets pass holds; so does one that first wants a number
pub passed : (holds : Bool) (code status : ℕ) → unless holds code status ≡ None → holds ≡ true
passed true code status passes = refl
passed false code status passes = cc

pub numbered-passed : (zero holds : Bool) (code code' status : ℕ) →
    cond zero (refusal code 0) (unless holds code' status) ≡ None → holds ≡ true
numbered-passed true holds code code' status passes = cc
numbered-passed false holds code code' status passes = passed holds code' status passes

-- the person is there
pub person-there : (db : Db) (person : ℕ) → person_guard db person ≡ None → is_some (person_of db person) ≡ true
person-there db person passes =
    numbered-passed (person == 0) (is_some (person_of db person)) _ _ person passes
