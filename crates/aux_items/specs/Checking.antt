-- What the check of a change of aux-items answers.
use Rattle.std.specs.Prelude.{◌≡◌, ℕ, Option, Some, None, Result, Ok, Err}
use Rattle.kom_types.specs.AuxItems.{AuxRefusal}

-- a change passes, or is refused with a code for the entry at a place
abbrev pub Checks : Option AuxRefusal → Result Unit (ℕ × ℕ) → Type 0
Checks refusal (Ok done) = refusal ≡ None
Checks refusal (Err refused) =
    refusal ≡ Some (record { code = refused.0; index = refused.1 })
