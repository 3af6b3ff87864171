-- The pattern of a call.
use Rattle.std.specs.Prelude.{ℕ, List, [], ◌∷◌}
use Rattle.kom_types.specs.declared.calls.Call.{Call}
use Rattle.kom_types.specs.Token.{Token}
use Rattle.kom_types.specs.calls.Arguments.{Taken, Took, Departs, Malformed, then}

-- A call's number, and what its arguments make: a call after which no token is left, or why they
-- make none.
pub record Pattern : Type 0 where
  pub number : ℕ
  pub reads : List Token → Taken Call

-- a call without arguments
abbrev pub none : Call → List Token → Taken Call
none call [] = Took call []
none call (token ∷ tokens) = Departs Malformed

-- a call of so many arguments, each read by its rule, and the call that they make
abbrev pub one : {A : Type 0} → (List Token → Taken A) → (A → Call) → List Token → Taken Call
one first make tokens = then (first tokens) (λ a. none (make a))

abbrev pub two : {A B : Type 0} → (List Token → Taken A) → (List Token → Taken B)
    → (A → B → Call) → List Token → Taken Call
two first second make tokens = then (first tokens) (λ a. one second (make a))

abbrev pub three : {A B C : Type 0} → (List Token → Taken A) → (List Token → Taken B)
    → (List Token → Taken C) → (A → B → C → Call) → List Token → Taken Call
three first second third make tokens = then (first tokens) (λ a. two second third (make a))

abbrev pub four : {A B C D : Type 0} → (List Token → Taken A) → (List Token → Taken B)
    → (List Token → Taken C) → (List Token → Taken D)
    → (A → B → C → D → Call) → List Token → Taken Call
four first second third fourth make tokens =
    then (first tokens) (λ a. three second third fourth (make a))

abbrev pub five : {A B C D E : Type 0} → (List Token → Taken A) → (List Token → Taken B)
    → (List Token → Taken C) → (List Token → Taken D) → (List Token → Taken E)
    → (A → B → C → D → E → Call) → List Token → Taken Call
five first second third fourth fifth make tokens =
    then (first tokens) (λ a. four second third fourth fifth (make a))
