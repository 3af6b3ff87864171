-- The reply to a call of a run is the one of its reference among what waits.
use Rattle.std.proofs.Common.{◌≡◌, ℕ, ◌+◌, ◌≤◌, List, [], ◌∷◌, Contains, refl, sym, subst, arith}
use Rattle.std.specs.List.{AllByRecursion}
use Rattle.std.specs.Prelude.{codes}
use Rattle.kom_types.specs.declared.acts.Act.TheVariants as act
use Rattle.kom_types.specs.declared.calls.Call.{Call}
use Rattle.kom_types.specs.declared.items.Item.{Item}
use Rattle.kom_types.specs.declared.items.Item.TheVariants as item
use Rattle.kom_types.specs.declared.replies.Reply.{Reply}
use Rattle.kom_types.specs.Sessions.{Waiting, Session}
use Rattle.kom_model.specs.Initial.{initial}
use Rattle.kom_model.specs.State.{State, opening_state}
use Rattle.kom_model.specs.Legal.{state_after}
use Rattle.kom_load.specs.Loading.{lone_act, flush_drain, connect_one, call_once, reply_at, new_server}
use Rattle.kom_load.specs.Steps.{IsBefore, AreBefore, taken_at}
use Rattle.kom_load.proofs.Waiting.{AllHold, Holds, stepped, call-holds, connect-holds, flush-holds, drain-holds}
use Rattle.kom_load.proofs.Waiting.{taken-holds, holds_at}

all_weaker : {X : Type 0} (P Q : X → Type 0) → ((x : X) → P x → Q x) → (xs : List X) → AllByRecursion P xs →
    AllByRecursion Q xs
all_weaker P Q weaker [] all = tt
all_weaker P Q weaker (x ∷ xs) all = (weaker x all.0, all_weaker P Q weaker xs all.1)

hold-weaker : (P Q : Item → Type 0) → ((what : Item) → P what → Q what) → (rows : List Session) →
    AllByRecursion (Holds P) rows → AllByRecursion (Holds Q) rows
hold-weaker P Q weaker rows all =
    all_weaker (Holds P) (Holds Q) (λ row here. all_weaker (λ (one : Waiting). P one.item) (λ one. Q one.item)
    (λ one. weaker one.item) row.waiting here) rows all

-- a reply has this reference at most, and if it has that it is this one
abbrev IsUpTo : ℕ → Reply → Item → Type 0
IsUpTo index body (item.Reply reference given) = (reference ≤ index) × (reference ≡ index → given ≡ body)
IsUpTo index body other = Unit {0}

before-up_to : (index : ℕ) (body : Reply) (what : Item) → IsBefore index what → IsUpTo index body what
before-up_to index body item.Hello is = tt
before-up_to index body (item.Reply reference given) is =
    (omega (arith, is), λ same. absurd (omega (arith, is, same)))
before-up_to index body (item.Message message) is = tt
before-up_to index body item.Fault is = tt

up_to-before : (index : ℕ) (body : Reply) (what : Item) → IsUpTo index body what → IsBefore (index + 1) what
up_to-before index body item.Hello is = tt
up_to-before index body (item.Reply reference given) is = let most = is.0 in omega (arith, most)
up_to-before index body (item.Message message) is = tt
up_to-before index body item.Fault is = tt

module _ (index : ℕ) (what : Call) (state : State) (before : AreBefore index state) where
  abbrev body : Reply
  body = reply_at state index what

  abbrev after_call : State
  after_call = stepped index 1 (act.Call 1 index what) state

  call-up_to : AllHold (IsUpTo index body) after_call
  unfolding AreBefore reply_at
  call-up_to =
      call-holds (IsUpTo index body) (λ message. tt) index 1 index what state (omega arith, λ same. refl)
      (hold-weaker (IsBefore index) (IsUpTo index body) (before-up_to index body) state.sessions before)

  flushed-up_to : AllHold (IsUpTo index body) (stepped index 0 act.Flush after_call)
  flushed-up_to = flush-holds (IsUpTo index body) index after_call call-up_to

  pub called-before : AreBefore (index + 1) (state_after state (call_once index what))
  unfolding AreBefore call_once flush_drain lone_act
  called-before =
      hold-weaker (IsUpTo index body) (IsBefore (index + 1)) (up_to-before index body)
      (state_after state (call_once index what)).sessions
      (drain-holds (IsUpTo index body) index (stepped index 0 act.Flush after_call) flushed-up_to)

  pub reply-is : (items : List Item) →
      items ≡ taken_at index (state_after state (lone_act index 1 (act.Call 1 index what))) →
      (reply : Reply) → Contains items (item.Reply index reply) → reply ≡ body
  unfolding lone_act taken_at
  reply-is items taken reply has =
      let held : AllByRecursion (IsUpTo index body) items = subst (AllByRecursion (IsUpTo index body)) (sym taken)
      (taken-holds (IsUpTo index body) 1 (stepped index 0 act.Flush after_call) flushed-up_to) in
      let one : IsUpTo index body (item.Reply index reply) =
      subst (IsUpTo index body) has.2 (holds_at (IsUpTo index body) items has.0 (item.Reply index reply) has.1 held) in
      one.1 refl

-- no reply waits after the greeting
pub greeted-before : AreBefore 0 (state_after new_server connect_one)
unfolding AreBefore connect_one flush_drain lone_act new_server
greeted-before =
    let holds : Item → Type 0 = IsBefore 0 in
    let one = stepped 0 1 (act.Connect (codes "load") (codes "memory")) (opening_state (initial [] 0)) in
    drain-holds holds 0 (stepped 0 0 act.Flush one)
    (flush-holds holds 0 one
    (connect-holds holds 0 1 (codes "load") (codes "memory") (opening_state (initial [] 0)) tt tt))
