-- What making a store comes to.
use Rattle.std.proofs.Common.{◌≡◌, ℕ, Bool, List, [], ◌∷◌, length, Option, Some, None, refl, sym, ◌∙◌}
use Rattle.std.proofs.lemmas.Bool.{false≢true}
use Rattle.std.specs.Option.{IfSome}
use Rattle.std.specs.Prelude.{IsTrue, is_some}
use Rattle.kom_links.specs.Doors.{IsFound}
use Rattle.store_check.specs.Stores.{Fails}

empty_of : (bytes : List ℕ) → length bytes ≡ 0 → bytes ≡ []
empty_of [] none = refl
empty_of (byte ∷ bytes) none = cc

-- a disk that was opened is empty where the file was
pub found_empty : (tells : Bool) (files : Option (List ℕ → List ℕ)) (path bytes : List ℕ) (faults size : ℕ) →
    IsFound tells files path bytes faults → (IsTrue tells → size ≡ length bytes) → (IsTrue tells → size ≡ 0) →
    IsTrue tells → IfSome files (λ found. found path ≡ [])
found_empty tells None path bytes faults size found counted none told = tt
found_empty tells (Some files) path bytes faults size found counted none told =
    sym (found.found told) ∙ empty_of bytes (sym (counted told) ∙ none told)

-- a disk that has failed no more often than one that had not
pub not_failed : {D : Type 0} (faults : D → ℕ) (unopened : Type 0) (disk : Option D) (before : ℕ) →
    IsTrue (is_some disk) → IfSome disk (λ made. faults made ≡ before) → before ≡ 0 → Fails faults unopened disk → ⊥
not_failed faults unopened None before there same none fails = false≢true there
not_failed faults unopened (Some disk) before there same none fails = fails (same ∙ none)
