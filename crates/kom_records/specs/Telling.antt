-- What a reader of tokens returns, by what the tokens are.
use Rattle.std.specs.Prelude.{◌≡◌, Bool, IsTrue, List, [], ◌∷◌, Option, Some, None, Result, Ok, Err}
use Rattle.kom_types.specs.Token.{Token}
use Rattle.kom_types.specs.calls.Arguments.{Taken, Took, Departs, Malformed}
use Rattle.kom_framing.specs.declared.token.Token.{Token as SeenToken}
use Rattle.kom_framing.specs.Spans.{token_seen}
use Rattle.kom_records.specs.declared.fault.ReadFault.{ReadFault}
use Rattle.kom_records.specs.declared.fault.ReadFault.TheVariants as fault

-- the next token, and those after it
abbrev pub Next : Option SeenToken → List Token → List Token → Type 0
Next None tokens rest = tokens ≡ []
Next (Some token) tokens rest = tokens ≡ token_seen token ∷ rest

-- the tokens depart, or else memory ran out, which a reader may tell that needs room
abbrev pub DepartsAs : {X : Type 0} → Bool → Taken X → ReadFault → Type 0
DepartsAs room taken fault.Departs = taken ≡ Departs Malformed
DepartsAs room taken fault.Memory = IsTrue room

-- a value and the tokens that are left, or why there is none
abbrev pub ReadsAs : {X : Type 0} → Bool → Taken X → Result X ReadFault → List Token → Type 0
ReadsAs room taken (Ok value) rest = taken ≡ Took value rest
ReadsAs room taken (Err found) rest = DepartsAs room taken found

-- whether no token is left
abbrev pub Ends : Result (Unit {0}) ReadFault → List Token → Type 0
Ends (Ok done) tokens = tokens ≡ []
Ends (Err fault.Departs) tokens = tokens ≡ [] → ⊥
Ends (Err fault.Memory) tokens = ⊥

-- the value, unless memory ran out
abbrev pub Boxes : {X : Type 0} → X → Result X ReadFault → Type 0
Boxes value (Ok boxed) = boxed ≡ value
Boxes value (Err found) = found ≡ fault.Memory
