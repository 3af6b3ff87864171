-- What a call comes to.
use Rattle.std.specs.Prelude.{◌≡◌, ℕ, ◌-◌, ◌^◌, true, List, length, min, Result, Ok, Err}
use Rattle.kom_types.specs.declared.decisions.Decision.{Decision}
use Rattle.kom_types.specs.declared.effects.Effect.{Effect}
use Rattle.kom_types.specs.declared.items.Item.{Item}
use Rattle.kom_types.specs.declared.items.Item.TheVariants as item
use Rattle.kom_types.specs.declared.replies.Reply.{Reply}
use Rattle.kom_types.specs.Printing.{print_of}
use Rattle.kom_model.specs.declared.call_errors.CallError.{CallError}
use Rattle.kom_model.specs.declared.call_errors.CallError.TheVariants as error
use Rattle.kom_model.specs.State.{State}
use Rattle.kom_model.specs.calls.Call.{Asked, Definition, outcome_of}
use Rattle.kom_model.specs.Decide.{asked_in, decision_of, is_firm}
use Rattle.kom_model.specs.Sending.{Delivery}
use Rattle.kom_model.specs.ToWhom.{messages_of}
use Rattle.kom_model.specs.After.{moment_of}
use Rattle.kom_core.specs.declared.asking.Asking.{Asking}

-- this reply to the call of this reference prints to so many bytes
abbrev pub IsLong : ℕ → Reply → ℕ → Type 0
IsLong reference reply len = len ≡ min (length (print_of (item.Reply reference reply))) (2 ^ 64 - 1)

-- memory did not run out
abbrev pub HadMemory : Result Decision CallError → Type 0
HadMemory (Ok decision) = Unit {0}
HadMemory (Err (error.Refused refused)) = Unit {0}
HadMemory (Err error.Memory) = ⊥

-- the item is a reply
abbrev pub IsReply : Item → Type 0
IsReply item.Hello = ⊥
IsReply (item.Reply reference body) = Unit {0}
IsReply (item.Message message) = ⊥
IsReply item.Fault = ⊥

-- the item is a reply, and this stands in it
abbrev pub HasBody : Reply → Item → Type 0
HasBody body item.Hello = ⊥
HasBody body (item.Reply reference other) = body ≡ other
HasBody body (item.Message message) = ⊥
HasBody body item.Fault = ⊥

-- a call of this definition comes to this
abbrev pub Defines : Definition → Decision → Type 0
Defines definition decision = decision ≡ outcome_of definition

-- all that a call may read in a state
abbrev pub asked_by : State → Asking → Asked
asked_by state asking =
    asked_in state (moment_of state asking.moment) asking.session asking.reference

-- what it comes to
abbrev pub Decides : State → Asking → Decision → Type 0
Decides state asking decision = decision ≡ decision_of (asked_by state asking) asking.call.now

-- the effects that it has
abbrev pub effects_by : State → Asking → List Effect
effects_by state asking = (decision_of (asked_by state asking) asking.call.now).effects

-- whether it is firm
abbrev pub IsFirm : State → Asking → Type 0
IsFirm state asking = is_firm (asked_by state asking) asking.call.now ≡ true

-- what it comes to, and the messages that it then sends
abbrev pub ComesTo : State → Asking → Decision → List Delivery → Type 0
ComesTo state asking decision messages = Decides state asking decision
    × (messages ≡ messages_of (asked_by state asking) asking.call.now decision)
