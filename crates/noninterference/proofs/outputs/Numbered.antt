-- The number of what is sent is that of each message that it tells.
use Rattle.std.proofs.Common.{◌≡◌, ℕ, Bool, true, false, ◌==◌, List, [], ◌∷◌, Option, Some, None, sym, ap}
use Rattle.std.specs.Prelude.{map}
use Rattle.std.specs.List.{filter_map, cons_option, AllByRecursion}
use Rattle.std.specs.Option.{IfSome}
use Rattle.kom_types.specs.declared.effects.Effect.{Effect}
use Rattle.kom_types.specs.declared.effects.Effect.TheVariants as effect
use Rattle.kom_types.specs.declared.messages.Message.{Message}
use Rattle.kom_types.specs.declared.messages.Message.TheVariants as message
use Rattle.kom_model.specs.declared.viewers.Viewer.{Viewer}
use Rattle.kom_model.specs.Messages.{told_if}
use Rattle.kom_model.specs.Sending.{Sending}
use Rattle.kom_model.specs.ToWhom.{left_conference}
use Rattle.kom_laws.proofs.masking.Rows.{told}

-- the number of a message is that by which a session accepts it
abbrev pub number_of : Message → ℕ
number_of (message.NewName named) = 5
number_of message.SyncDatabase = 7
number_of (message.LeaveConference conference) = 8
number_of (message.Login person session) = 9
number_of (message.SendMessage sent) = 12
number_of (message.Logout person session) = 13
number_of (message.DeletedText text stat) = 14
number_of (message.NewText text stat) = 15
number_of (message.NewRecipient text conference tag) = 16
number_of (message.SubRecipient text conference tag) = 17
number_of (message.NewMembership person conference) = 18
number_of (message.NewUserArea person old_text new_text) = 19
number_of (message.NewPresentation conference old_text new_text) = 20
number_of (message.NewMotd conference old_text new_text) = 21
number_of (message.TextAuxChanged changed) = 22

-- what it tells is a message of its number
pub record IsNumbered (sending : Sending) : Type 0 where
  pub tells : (viewer : Viewer) (what : Message) → sending.told viewer ≡ Some what → number_of what ≡ sending.number

pub numbered-if : (shown : Bool) (made what : Message) → told_if shown made ≡ Some what →
    number_of what ≡ number_of made
numbered-if true made what same = sym (ap (told 0 number_of) same)
numbered-if false made what same = cc

-- of rows that may be there, of each of a list, and of what is picked from one
pub row-numbered : {X : Type 0} (send : X → Sending) → ((row : X) → IsNumbered (send row)) → (found : Option X) →
    AllByRecursion IsNumbered (elim found [ None ↦ [] | Some row ↦ send row ∷ [] ])
row-numbered send numbered None = tt
row-numbered send numbered (Some row) = (numbered row, tt)

pub map-numbered : {X : Type 0} (send : X → Sending) → ((row : X) → IsNumbered (send row)) → (rows : List X) →
    AllByRecursion IsNumbered (map send rows)
map-numbered send numbered [] = tt
map-numbered send numbered (row ∷ rows) = (numbered row, map-numbered send numbered rows)

option-numbered : (picked : Option Sending) (sent : List Sending) → IfSome picked IsNumbered →
    AllByRecursion IsNumbered sent → AllByRecursion IsNumbered (cons_option picked sent)
option-numbered None sent is numbered = numbered
option-numbered (Some sending) sent is numbered = (is, numbered)

pub pick-numbered : {X : Type 0} (pick : X → Option Sending) → ((row : X) → IfSome (pick row) IsNumbered) →
    (rows : List X) → AllByRecursion IsNumbered (filter_map pick rows)
pick-numbered pick numbered [] = tt
pick-numbered pick numbered (row ∷ rows) =
    option-numbered (pick row) (filter_map pick rows) (numbered row) (pick-numbered pick numbered rows)

pub left-numbered : (what : Effect) → IfSome (left_conference what) IsNumbered
left-numbered (effect.MemberGone person conference) =
    record { tells = λ viewer what. numbered-if (viewer.person == person) (message.LeaveConference conference) what }
left-numbered other = tt
