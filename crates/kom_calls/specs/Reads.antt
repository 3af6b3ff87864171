-- What the reader of calls returns.
use Rattle.std.specs.Prelude.{◌≡◌, ◌==◌, ℕ, Bool, true, List, [], ◌∷◌, Option, Some, None, Result}
use Rattle.std.specs.Prelude.{Ok, Err, find}
use Rattle.std.specs.List.{list_any}
use Rattle.kom_types.specs.declared.calls.Call.{Call}
use Rattle.kom_types.specs.declared.calls.Call.TheVariants as call
use Rattle.kom_types.specs.declared.aux_items.AuxChange.{AuxChange}
use Rattle.kom_types.specs.declared.texts.NewText.{NewText}
use Rattle.kom_types.specs.Token.{Token}
use Rattle.kom_types.specs.calls.Arguments.{Taken, Took, integer, string, numbers, misc_inputs}
use Rattle.kom_types.specs.calls.Arguments.{aux_inputs}
use Rattle.kom_types.specs.calls.Pattern.{Pattern, one, two, three}
use Rattle.kom_calls.specs.declared.fault.ArgumentFault.{ArgumentFault}
use Rattle.kom_calls.specs.Telling.{DepartsAs, AllDepart}

-- the arguments of each call that is made of one, two or three arguments of these kinds
abbrev pub ReadsOne : {A : Type 0} → Bool → (List Token → Taken A) → List Token
    → Result A ArgumentFault → Type 0
ReadsOne room first tokens (Ok a) = (make : _ → Call) → one first make tokens ≡ Took (make a) []
ReadsOne room first tokens (Err found) = AllDepart room (λ make. one first make tokens) found

abbrev pub ReadsTwo : {A B : Type 0} → Bool → (List Token → Taken A) → (List Token → Taken B)
    → List Token → Result (A × B) ArgumentFault → Type 0
ReadsTwo room first second tokens (Ok read) =
    (make : _ → _ → Call) → two first second make tokens ≡ Took (make read.0 read.1) []
ReadsTwo room first second tokens (Err found) =
    AllDepart room (λ make. two first second make tokens) found

abbrev pub ReadsThree : {A B C : Type 0} → Bool → (List Token → Taken A) → (List Token → Taken B)
    → (List Token → Taken C) → List Token → Result (A × B × C) ArgumentFault → Type 0
ReadsThree room first second third tokens (Ok read) =
    (make : _ → _ → _ → Call) →
    three first second third make tokens ≡ Took (make read.0 read.1 read.2) []
ReadsThree room first second third tokens (Err found) =
    AllDepart room (λ make. three first second third make tokens) found

-- the arguments of each call that is made of a text or of a change of aux-items
abbrev pub ReadsText : List Token → Result NewText ArgumentFault → Type 0
ReadsText tokens (Ok text) = (make : _ → _ → _ → Call) →
    three string misc_inputs aux_inputs make tokens
    ≡ Took (make text.body text.misc_inputs text.aux_items) []
ReadsText tokens (Err found) =
    AllDepart true (λ make. three string misc_inputs aux_inputs make tokens) found

abbrev pub ReadsChange : List Token → Result AuxChange ArgumentFault → Type 0
ReadsChange tokens (Ok change) = (make : _ → _ → _ → Call) →
    three integer numbers aux_inputs make tokens
    ≡ Took (make change.object change.delete change.add) []
ReadsChange tokens (Err found) =
    AllDepart true (λ make. three integer numbers aux_inputs make tokens) found

-- the numbers of the calls that have a string or an array
abbrev pub numbers_with_room : List ℕ
numbers_with_room =
    3 ∷ 4 ∷ 8 ∷ 27 ∷ 53 ∷ 62 ∷ 69 ∷ 76 ∷ 80 ∷ 86 ∷ 87 ∷ 88 ∷ 89 ∷ 92 ∷ 93 ∷ 110 ∷ []

abbrev pub takes_room : ℕ → Bool
takes_room number = list_any (λ one. one == number) numbers_with_room

-- the pattern of a call in a table, if it has one
abbrev pub pattern_of : ℕ → List Pattern → Option Pattern
pattern_of number patterns = find (λ pattern. pattern.number == number) patterns

-- a call that the reader has read is none that it refuses
abbrev pub IsKnown : Call → Type 0
IsKnown (call.Refused code status) = ⊥
IsKnown _ = Unit {0}

-- the call that arguments make by a pattern, or why they make none
abbrev pub Reads : Option Pattern → List Token → Result Call ArgumentFault → Type 0
Reads None tokens result = ⊥
Reads (Some pattern) tokens (Ok call) = (pattern.reads tokens ≡ Took call []) × IsKnown call
Reads (Some pattern) tokens (Err found) =
    DepartsAs (takes_room pattern.number) (pattern.reads tokens) found

-- the same, or else no pattern was found, and the tokens stay
abbrev pub ReadsBy : Option Pattern → List Token → Result (Option Call) ArgumentFault → List Token
    → Type 0
ReadsBy None tokens (Ok None) rest = rest ≡ tokens
ReadsBy None tokens (Ok (Some call)) rest = ⊥
ReadsBy None tokens (Err found) rest = ⊥
ReadsBy (Some pattern) tokens (Ok None) rest = ⊥
ReadsBy (Some pattern) tokens (Ok (Some call)) rest =
    (pattern.reads tokens ≡ Took call []) × IsKnown call
ReadsBy (Some pattern) tokens (Err found) rest =
    DepartsAs (takes_room pattern.number) (pattern.reads tokens) found
