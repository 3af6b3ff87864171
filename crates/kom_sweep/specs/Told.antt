-- What calls were made, and what each was answered.
use Rattle.std.specs.Prelude.{◌≡◌, ℕ, ◌+◌, ◌==◌, ◌⊎◌, List, [], ◌∷◌, Option, Some, None}
use Rattle.std.specs.Prelude.{if◌then◌else◌, Bool, true, false}
use Rattle.std.specs.List.{list_all}
use Rattle.std.specs.Option.{option_or}
use Rattle.kom_types.specs.declared.acts.Act.{Act}
use Rattle.kom_types.specs.declared.acts.Act.TheVariants as act
use Rattle.kom_types.specs.declared.calls.Call.{Call}
use Rattle.kom_types.specs.declared.calls.Call.TheVariants as call
use Rattle.kom_types.specs.declared.items.Item.{Item}
use Rattle.kom_types.specs.declared.items.Item.TheVariants as item
use Rattle.kom_types.specs.declared.replies.Reply.{Reply}

-- a call, and the reply to it, if one came
pub record Told : Type 0 where
  pub call : Call
  pub reply : Option Reply

abbrev pub tell : Call → Option Reply → Told
tell call reply = record { call = call; reply = reply }

-- A call that was made by this reference, then flushed and drained, and what the drain gave.
pub record Exchange : Type 0 where
  pub reference : ℕ
  pub call : Call
  pub items : List Item

-- the reply to the call of a reference, if the item is that
abbrev pub reply_of : ℕ → Item → Option Reply
reply_of reference item.Hello = None
reply_of reference (item.Reply given body) = if given == reference then Some body else None
reply_of reference (item.Message message) = None
reply_of reference item.Fault = None

-- the one of these items that is; the last, if there are several
abbrev pub reply_in : ℕ → List Item → Option Reply
reply_in reference [] = None
reply_in reference (item ∷ items) = option_or (reply_in reference items) (reply_of reference item)

abbrev pub told_of : Exchange → Told
told_of one = tell one.call (reply_in one.reference one.items)

abbrev pub acts_of : ℕ → Exchange → List Act
acts_of session one =
    act.Call session one.reference one.call ∷ act.Flush ∷ act.Drain session ∷ []

-- The last call of a session whose desk refuses to go on: none was made, or one, to which nothing
-- was given; the desk may have had a flush after it.
pub data Last : Type 0 where
  NoCall : Last
  Called : ℕ → Call → Last
  Flushed : ℕ → Call → Last

abbrev pub told_last : Last → List Told
told_last NoCall = []
told_last (Called reference call) = tell call None ∷ []
told_last (Flushed reference call) = tell call None ∷ []

abbrev pub acts_last : ℕ → Last → List Act
acts_last session NoCall = []
acts_last session (Called reference call) = act.Call session reference call ∷ []
acts_last session (Flushed reference call) = act.Call session reference call ∷ act.Flush ∷ []

-- references count up from 1, and from 1 again after the greatest
abbrev pub next_reference : ℕ → ℕ
next_reference reference = if reference == 4294967295 then 1 else reference + 1

-- the references of these calls count up from one, and the other is next
abbrev pub AreNumbered : ℕ → List Exchange → ℕ → Type 0
AreNumbered from [] next = next ≡ from
AreNumbered from (one ∷ exchanges) next =
    (one.reference ≡ from) × AreNumbered (next_reference from) exchanges next

abbrev pub IsNumbered : ℕ → Last → Type 0
IsNumbered next NoCall = Unit {0}
IsNumbered next (Called reference call) = reference ≡ next
IsNumbered next (Flushed reference call) = reference ≡ next

-- the call was made, or none was
abbrev pub IsAbout : Call → List Told → Type 0
IsAbout call calls = (calls ≡ []) ⊎ ((reply : Option Reply) × (calls ≡ tell call reply ∷ []))

-- A call by which a sweep asks, uses its rights, has all made stable, or logs out. It changes no
-- text.
abbrev pub asks : Call → Bool
asks (call.Enable level) = true
asks call.SyncKom = true
asks (call.FindNextConfNo start) = true
asks (call.GetConfStat conference) = true
asks (call.GetPersonStat person) = true
asks (call.FindNextTextNo start) = true
asks (call.GetTextStat text) = true
asks call.Logout = true
asks _ = false

abbrev pub only_asks : List Told → Bool
only_asks calls = list_all (λ one. asks one.call) calls
