-- How many there are of what is shown, as it is told.
use Rattle.std.proofs.Common.{◌≡◌, ℕ, Bool, true, false, cond, List, length, map, filter, take, refl, ap, ◌∙◌, arith}
use Rattle.std.proofs.lemmas.List.{length-take}
use Rattle.kom_model.specs.Shown.{told_count}
use Rattle.query_calls.proofs.Memberships.{length-filter-map}

-- what is counted stops at the last count
pub counted_told : {X : Type 0} (xs : List X) → length (take 4294967295 xs) ≡ told_count (length xs)
counted_told xs = omega (arith, length-take 4294967295 xs)

pub counted_told-map : {X Y : Type 0} (make : X → Y) (test : Y → Bool) (xs : List X) →
    length (take 4294967295 (filter test (map make xs))) ≡ told_count (length (filter (λ x. test (make x)) xs))
counted_told-map make test xs =
    counted_told (filter test (map make xs)) ∙ ap told_count (length-filter-map make test xs)

-- of none 0 is told
pub told_if : (seen : Bool) (count : ℕ) → cond seen (told_count count) 0 ≡ told_count (cond seen count 0)
told_if true count = refl
told_if false count = refl
