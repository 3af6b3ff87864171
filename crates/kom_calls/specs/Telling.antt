-- What a reader of arguments returns, by what the arguments are.
use Rattle.std.specs.Prelude.{◌≡◌, ℕ, Bool, true, false, IsTrue, List, [], ◌∷◌, Option, Some, None}
use Rattle.std.specs.Prelude.{Result, Ok, Err}
use Rattle.kom_types.specs.declared.calls.Call.{Call}
use Rattle.kom_types.specs.Token.{Token}
use Rattle.kom_types.specs.calls.Arguments.{Taken, Took, Departs, Malformed, BadBool, LongArray}
use Rattle.kom_types.specs.calls.Arguments.{is_binary, bits_of}
use Rattle.kom_types.specs.calls.Pattern.{none}
use Rattle.kom_calls.specs.declared.fault.ArgumentFault.{ArgumentFault}
use Rattle.kom_calls.specs.declared.fault.ArgumentFault.TheVariants as fault

-- the tokens depart so, or else memory ran out, which a reader may tell that needs room
abbrev pub DepartsAs : {X : Type 0} → Bool → Taken X → ArgumentFault → Type 0
DepartsAs room taken fault.Malformed = taken ≡ Departs Malformed
DepartsAs room taken fault.BadBool = taken ≡ Departs BadBool
DepartsAs room taken fault.LongArray = taken ≡ Departs LongArray
DepartsAs room taken fault.Memory = IsTrue room

-- a value and the tokens that are left, or why there is none
abbrev pub ReadsAs : {X : Type 0} → Bool → Taken X → Result X ArgumentFault → List Token → Type 0
ReadsAs room taken (Ok value) rest = taken ≡ Took value rest
ReadsAs room taken (Err found) rest = DepartsAs room taken found

-- the number of a run of digits, if they are so many binary digits
abbrev pub bits_told : ℕ → List ℕ → Option ℕ
bits_told width digits =
    elim (is_binary width digits) [ true ↦ Some (bits_of digits) | false ↦ None ]

-- the same of whichever call the tokens would make
abbrev pub AllDepart : {M : Type 0} → Bool → (M → Taken Call) → ArgumentFault → Type 0
AllDepart room taken fault.Malformed = (make : _) → taken make ≡ Departs Malformed
AllDepart room taken fault.BadBool = (make : _) → taken make ≡ Departs BadBool
AllDepart room taken fault.LongArray = (make : _) → taken make ≡ Departs LongArray
AllDepart room taken fault.Memory = IsTrue room

-- where no token is left, each call without arguments is made
abbrev pub Ends : Result (Unit {0}) ArgumentFault → List Token → Type 0
Ends (Ok done) tokens = (call : Call) → none call tokens ≡ Took call []
Ends (Err found) tokens = AllDepart false (λ call. none call tokens) found

-- the value, unless memory ran out
abbrev pub Boxes : {X : Type 0} → X → Result X ArgumentFault → Type 0
Boxes value (Ok boxed) = boxed ≡ value
Boxes value (Err found) = found ≡ fault.Memory
