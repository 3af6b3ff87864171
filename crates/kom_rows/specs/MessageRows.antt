-- Who gets which message of a call, and what the calls come to that only tell or send, worked out
-- by hand.
use Rattle.std.specs.Prelude.{◌≡◌, ℕ, ◌-◌, ◌^◌, ◌==◌, true, false, List, [], ◌∷◌, ◌++◌, length, map}
use Rattle.std.specs.Prelude.{filter, not, codes, replicate, None}
use Rattle.kom_types.specs.declared.aux_items.AuxRow.{AuxRow}
use Rattle.kom_types.specs.declared.calls.Call.{Call}
use Rattle.kom_types.specs.declared.calls.Call.TheVariants as call
use Rattle.kom_types.specs.declared.effects.ConfField.TheVariants as field
use Rattle.kom_types.specs.declared.effects.Counter.TheVariants as counter
use Rattle.kom_types.specs.declared.effects.Effect.{Effect}
use Rattle.kom_types.specs.declared.effects.Effect.TheVariants as effect
use Rattle.kom_types.specs.declared.effects.PersonField.TheVariants as person_field
use Rattle.kom_types.specs.declared.items.Item.{Item}
use Rattle.kom_types.specs.declared.items.Item.TheVariants as queue
use Rattle.kom_types.specs.declared.messages.Message.{Message}
use Rattle.kom_types.specs.declared.messages.Message.TheVariants as message
use Rattle.kom_types.specs.declared.replies.Reply.TheVariants as reply
use Rattle.kom_types.specs.declared.seats.Seat.{Seat}
use Rattle.kom_types.specs.declared.session_changes.SessionChange.TheVariants as change
use Rattle.kom_types.specs.declared.sessions.DynamicSession.{DynamicSession}
use Rattle.kom_types.specs.declared.texts.MiscInfo.{MiscInfo}
use Rattle.kom_types.specs.declared.texts.MiscInfo.TheVariants as info
use Rattle.kom_types.specs.declared.texts.MiscInput.{MiscInput}
use Rattle.kom_types.specs.tables.Persons.{password_hash}
use Rattle.kom_rows.specs.Cast.{Cast, cast_over, four_persons, makes, member, under, sends, links}
use Rattle.kom_rows.specs.Cast.{lines, item, new_item, adds, given_item, changes, new_misc, text}
use Rattle.kom_rows.specs.Cast.{new_conference, new_person, seat, asks, after, comes_to, answers}
use Rattle.kom_rows.specs.Cast.{early_of}
use Rattle.kom_model.specs.Db.{Db, empty_db}
use Rattle.kom_model.specs.Decide.{decision_of, definition_of}
use Rattle.kom_model.specs.Effects.{apply_all, all_fit}
use Rattle.kom_model.specs.Sending.{Delivery}
use Rattle.kom_model.specs.ToWhom.{messages_of}
use Rattle.kom_model.specs.calls.Call.{Asked, Definition}
use Rattle.kom_model.specs.calls.Guards.{refusal}

-- The four persons; and, supervised by 5, the conferences 9, which is open, 10, which is secret,
-- 11, which is protected, and 12, which is open and has no member. In 9 are Bo, Cy as a passive
-- member, Di as one who takes messages inversely too, and Anna inversely alone. Bo is in 10; Di is
-- in Bo's letterbox, by which she supervises him, and was invited to 11.
abbrev pub made_persons : List Effect
made_persons =
    four_persons
    ++ makes 9 (codes "Open") 8 ∷ makes 10 (codes "Board") 160 ∷ makes 11 (codes "Closed") 128
    ∷ makes 12 (codes "Empty") 0 ∷ effect.Password 5 (password_hash 5 [])
    ∷ member 6 9 1 6 0 ∷ member 7 9 1 7 64 ∷ member 8 9 1 8 80 ∷ member 5 9 1 5 16
    ∷ member 8 6 2 6 0 ∷ member 6 10 2 5 0 ∷ member 8 11 3 5 128 ∷ []

-- Text 1 is Bo's to 9, as a copy to 10, and to Di as one that is shown to few; Anna has a mark on
-- it. Text 2 is Anna's to Cy and as a copy to 10, a comment to 1; 3 is Anna's to 10 alone; 4 is
-- without an author to 9, and to Bo as one that is shown to few; 5 is Bo's to nobody.
abbrev pub made_texts : List Effect
made_texts =
    effect.TextAdded 1 6 20 lines ∷ sends 1 9 0 1 ∷ sends 1 10 1 1 ∷ sends 1 8 15 1
    ∷ effect.Created 6 1 1
    ∷ effect.TextAdded 2 5 21 [] ∷ sends 2 7 0 1 ∷ sends 2 10 1 2 ∷ links 2 1 false 0 21
    ∷ effect.Created 5 1 2
    ∷ effect.TextAdded 3 5 22 (codes "x") ∷ sends 3 10 0 3 ∷ effect.Created 5 2 3
    ∷ effect.TextAdded 4 0 23 [] ∷ sends 4 9 0 2 ∷ sends 4 6 15 1
    ∷ effect.TextAdded 5 6 24 [] ∷ effect.Created 6 2 5
    ∷ effect.MarkSet 5 1 9 ∷ []

-- The items of text 1: Di's are one that comments inherit, a secret one, and one whose creator is
-- hidden; Anna's is secret and hides her.
abbrev pub inherited_item : AuxRow
inherited_item = item 1 2 8 64 0 (codes "a")

abbrev pub secret_item : AuxRow
secret_item = item 2 2 8 32 0 (codes "b")

abbrev pub hiding_item : ℕ → AuxRow
hiding_item creator = item 3 3 creator 16 0 (codes "c")

abbrev pub annas_item : AuxRow
annas_item = item 4 2 5 48 0 (codes "d")

-- those of text 2: a secret one of Anna's, and one of Bo's
abbrev pub annas_secret : AuxRow
annas_secret = item 1 1 5 32 0 (codes "e")

abbrev pub bos_item : AuxRow
bos_item = item 2 2 6 0 0 (codes "f")

abbrev pub made_items : List Effect
made_items =
    adds true 1 (inherited_item ∷ secret_item ∷ hiding_item 8 ∷ annas_item ∷ [])
    ++ adds true 2 (annas_secret ∷ bos_item ∷ [])

abbrev pub made_rows : List Effect
made_rows = made_persons ++ made_texts ++ made_items

abbrev pub rows : Db
rows = apply_all made_rows empty_db

-- all messages are accepted; and the messages 5, 13 and 15
abbrev pub all_messages : ℕ
all_messages = 8388607

abbrev pub few_messages : ℕ
few_messages = 40992

-- a session of a person at this level, in this conference, since a moment, that accepts these
abbrev pub hearer : ℕ → ℕ → ℕ → ℕ → ℕ → ℕ → Seat
hearer number person level working login accepted =
    record (seat number person level working login) { active = login; accepted = accepted }

-- Nobody is logged in at session 2. Anna has session 3, in 10; Bo 4, in 9, and 5, which accepts few
-- messages; Cy 6, in 9, and 7, which is strong and in 10; Di 8, which is invisible; and 9 has
-- ended.
abbrev pub others : List Seat
others =
    hearer 2 0 0 0 0 all_messages ∷ hearer 3 5 0 10 12 all_messages ∷ hearer 4 6 0 9 14 all_messages
    ∷ hearer 5 6 0 0 15 few_messages ∷ hearer 6 7 0 9 16 all_messages
    ∷ hearer 7 7 255 10 17 all_messages ∷ record (hearer 8 8 0 0 18 all_messages) { flags = 128 }
    ∷ record (hearer 9 0 0 0 0 all_messages) { ended = true } ∷ []

-- Session 1 of a person, in 9 since moment 10: it accepts these messages.
abbrev pub seats : ℕ → ℕ → ℕ → List Seat
seats accepted person level = hearer 1 person level 9 10 accepted ∷ others

abbrev pub cast : Cast
cast = cast_over rows (seats 0)

-- the strong session is Cy's; Anna has not the privilege
open cast use {asked, stranger, anna, bo, cy, di, high_cy as strong, high_anna as not_strong}

-- the same, if session 1 accepts all messages
abbrev pub hears : ℕ → ℕ → Asked
hears person level = asks rows (seats all_messages person level)

-- session 1 of a person that logged in at this very moment
abbrev pub just_in : ℕ → Asked
just_in person = record (asked person 0) { seats = hearer 1 person 0 9 30 0 ∷ others }

-- a session accepts these messages; and all sessions do
abbrev pub with_accepted : ℕ → Seat → Seat
with_accepted accepted seat = record seat { accepted = accepted }

abbrev pub all_accept : ℕ → Asked → Asked
all_accept accepted asked = record asked { seats = map (with_accepted accepted) asked.seats }

-- the messages of a call, each with its session
abbrev pub messages_by : Asked → Call → List Delivery
messages_by asked call = messages_of asked call (decision_of asked call)

-- a message to a session; and one to each of these
abbrev pub one : ℕ → Message → Delivery
one session told = record { session = session; item = queue.Message told }

abbrev pub told_to : List ℕ → Message → List Delivery
told_to sessions told = map (λ session. one session told) sessions

-- what a session is sent, in order; and what each of the nine is
abbrev pub items_sent_to : List Delivery → ℕ → List Item
items_sent_to messages session =
    map (λ each. each.item) (filter (λ each. each.session == session) messages)

abbrev pub all_heard : Asked → Call → List (List Item)
all_heard asked call =
    map (items_sent_to (messages_by asked call)) (1 ∷ 2 ∷ 3 ∷ 4 ∷ 5 ∷ 6 ∷ 7 ∷ 8 ∷ 9 ∷ [])

abbrev pub items_of_messages : List (List Message) → List (List Item)
items_of_messages told = map (map (λ each. queue.Message each)) told

-- how many sessions get a message of a call if all accept these
abbrev pub message_count : ℕ → Asked → Call → ℕ
message_count accepted asked call = length (messages_by (all_accept accepted asked) call)

-- each message by a call of its own, if all sessions accept what is told of its number
abbrev pub each_counted : (ℕ → ℕ) → List ℕ
each_counted accepts =
    message_count (accepts 5) anna (call.ChangeName 9 (codes "New"))
    ∷ message_count (accepts 7) strong call.SyncKom
    ∷ message_count (accepts 8) bo (call.SubMember 9 6)
    ∷ message_count (accepts 9) stranger (call.Login 5 [] false)
    ∷ message_count (accepts 12) anna (call.SendMessage 0 (codes "Hi"))
    ∷ message_count (accepts 13) anna call.Logout
    ∷ message_count (accepts 14) bo (call.DeleteText 1)
    ∷ message_count (accepts 15) di (call.CreateText (text [] (new_misc 0 9 ∷ []) []))
    ∷ message_count (accepts 16) bo (call.AddRecipient 1 7 1)
    ∷ message_count (accepts 17) bo (call.SubRecipient 1 9)
    ∷ message_count (accepts 18) anna (call.AddMember 11 5 100 0 0)
    ∷ message_count (accepts 19) bo (call.SetUserArea 6 1)
    ∷ message_count (accepts 20) anna (call.SetPresentation 9 1)
    ∷ message_count (accepts 21) anna (call.SetEtcMotd 9 1)
    ∷ message_count (accepts 22) di (call.ModifyTextInfo (changes 1 [] (given_item 2 0 0 [] ∷ [])))
    ∷ []

abbrev pub name_changed : ℕ → List ℕ → List ℕ → Message
name_changed conference old new =
    message.NewName (record { conference = conference; old_name = old; new_name = new })

abbrev pub said_to : ℕ → ℕ → List ℕ → Message
said_to recipient sender what =
    message.SendMessage (record { recipient = recipient; sender = sender; text = what })

abbrev pub items_changed : ℕ → List AuxRow → List AuxRow → Message
items_changed number deleted added =
    message.TextAuxChanged (record { text = number; deleted = deleted; added = added })

-- the recipients of texts that are told
abbrev pub in_open : ℕ → List MiscInfo
in_open local = info.Recipient 9 ∷ info.Local local ∷ []

abbrev pub in_board : ℕ → List MiscInfo
in_board local = info.CopyRecipient 10 ∷ info.Local local ∷ []

abbrev pub to_cy : ℕ → List MiscInfo
to_cy local = info.Recipient 7 ∷ info.Local local ∷ []

abbrev pub to_few : ℕ → ℕ → List MiscInfo
to_few conference local = info.BlindRecipient conference ∷ info.Local local ∷ []

-- the texts that are there, as they are told
abbrev pub first_told : List MiscInfo → List AuxRow → Message
first_told recipients items = message.DeletedText 1 (record {
  created = 20;
  author = 6;
  lines = 2;
  chars = 5;
  marks = 1;
  misc_infos = recipients ++ info.CommentIn 2 ∷ [];
  aux_items = items;
})

abbrev pub second_told : List MiscInfo → List AuxRow → Message
second_told recipients items = message.DeletedText 2 (record {
  created = 21;
  author = 5;
  lines = 0;
  chars = 0;
  marks = 0;
  misc_infos = recipients ++ info.CommentTo 1 ∷ [];
  aux_items = items;
})

abbrev pub third_told : Message
third_told = message.DeletedText 3 (record {
  created = 22;
  author = 5;
  lines = 0;
  chars = 1;
  marks = 0;
  misc_infos = info.Recipient 10 ∷ info.Local 3 ∷ [];
  aux_items = [];
})

abbrev pub fourth_told : List MiscInfo → Message
fourth_told recipients = message.DeletedText 4 (record {
  created = 23;
  author = 0;
  lines = 0;
  chars = 0;
  marks = 0;
  misc_infos = recipients;
  aux_items = [];
})

-- a text that is made, as it is told
abbrev pub made_told : ℕ → ℕ → ℕ → List MiscInfo → List AuxRow → Message
made_told author line_count char_count infos items = message.NewText 6 (record {
  created = 30;
  author = author;
  lines = line_count;
  chars = char_count;
  marks = 0;
  misc_infos = infos;
  aux_items = items;
})

-- Di writes to 9 and, shown to few, to Anna: a comment to 1, with a secret item and one that hides
-- her
abbrev pub dis_text : Call
dis_text = call.CreateText (text (10 ∷ []) (new_misc 0 9 ∷ new_misc 15 5 ∷ new_misc 2 1 ∷ [])
    (given_item 2 32 0 (codes "g") ∷ given_item 3 16 0 (codes "h") ∷ []))

-- what others are told of its items: what the comment inherits comes last
abbrev pub dis_items : List AuxRow
dis_items = new_item 2 3 0 16 0 (codes "h") ∷ item 3 2 8 64 0 (codes "a") ∷ []

-- Anna writes to Cy and, as a copy, to 10, with a secret item
abbrev pub annas_text : Call
annas_text = call.CreateText (text (codes "Hi") (new_misc 0 7 ∷ new_misc 1 10 ∷ [])
    (given_item 2 32 0 (codes "g") ∷ []))

-- somebody writes without being named to 9 and, shown to few, to Di, with a secret item
abbrev pub anonymous_text : Call
anonymous_text = call.CreateAnonymousText (text [] (new_misc 0 9 ∷ new_misc 15 8 ∷ [])
    (given_item 2 32 0 (codes "g") ∷ []))

abbrev pub plain_text : List MiscInput → Call
plain_text recipients = call.CreateText (text [] recipients [])

-- a session as it is told: its number, its person, its conference, how long it is idle, its flags
abbrev pub on : ℕ → ℕ → ℕ → ℕ → ℕ → DynamicSession
on session person working idle flags = record {
  session = session;
  person = person;
  working = working;
  idle = idle;
  flags = flags;
  doing = [];
}

abbrev pub tells_sessions : List DynamicSession → Definition
tells_sessions sessions = answers (reply.DynamicSessions sessions)

-- session 2, if it had the flag invisible
abbrev pub nobody_hides : Seat
nobody_hides = record (hearer 2 0 0 0 0 0) { flags = 128 }

-- Di's session 1 after many years
abbrev pub much_later : Asked
much_later = record di { moment = 5000000000 }

-- the sessions that are there, if session 1 is of this person, and 10 is told as this
abbrev pub all_on : ℕ → ℕ → List DynamicSession
all_on person board =
    on 1 person 9 20 0 ∷ on 2 0 0 30 0 ∷ on 3 5 board 18 0 ∷ on 4 6 9 16 0 ∷ on 5 6 0 15 0
    ∷ on 6 7 9 14 0 ∷ on 7 7 board 13 0 ∷ on 8 8 0 12 128 ∷ []

-- the sessions of Bo log out, his own among them or not, and his memberships end
abbrev pub others_log_out : List Message
others_log_out = message.Logout 6 4 ∷ message.Logout 6 5 ∷ []

abbrev pub bo_logs_out : List Message
bo_logs_out = message.Logout 6 1 ∷ others_log_out

abbrev pub bo_leaves : List Message
bo_leaves =
    message.LeaveConference 6 ∷ message.LeaveConference 9 ∷ message.LeaveConference 10 ∷ []

-- the same of Di
abbrev pub di_logs_out : List Message
di_logs_out = message.Logout 8 1 ∷ message.Logout 8 8 ∷ []

abbrev pub di_leaves : List Message
di_leaves =
    message.LeaveConference 8 ∷ message.LeaveConference 9 ∷ message.LeaveConference 6
    ∷ message.LeaveConference 11 ∷ []

-- Di logs in where Cy was
abbrev pub cy_then_di : List Message
cy_then_di = message.Logout 7 1 ∷ message.Login 8 1 ∷ []

-- Anna's session 1 and those of Cy are all that is there
abbrev pub few_are_there : Asked
few_are_there = record (hears 5 0) {
  seats =
      hearer 1 5 0 9 10 all_messages ∷ hearer 6 7 0 9 16 all_messages
      ∷ hearer 7 7 255 10 17 all_messages ∷ [];
}

-- who gets which message of a call
pub record WorkedMessages : Type 0 where
  pub all_are_made : all_fit made_rows empty_db ≡ true
  -- Message 5: to all that see the conference, under its old name and its new one
  pub renamed_to_all : messages_by anna (call.ChangeName 9 (codes "New"))
      ≡ told_to (3 ∷ 4 ∷ 5 ∷ 6 ∷ 7 ∷ 8 ∷ []) (name_changed 9 (codes "Open") (codes "New"))
  -- to the caller too, if its session accepts it
  pub renamed_to_the_caller : messages_by (hears 5 0) (call.ChangeName 9 (codes "New"))
      ≡ told_to (1 ∷ 3 ∷ 4 ∷ 5 ∷ 6 ∷ 7 ∷ 8 ∷ []) (name_changed 9 (codes "Open") (codes "New"))
  -- a secret one to who supervises it, is a member, or is strong
  pub renamed_in_secret : messages_by anna (call.ChangeName 10 (codes "New"))
      ≡ told_to (3 ∷ 4 ∷ 5 ∷ 7 ∷ []) (name_changed 10 (codes "Board") (codes "New"))
  -- a protected one is seen by all, and a letterbox is
  pub renamed_protected : messages_by anna (call.ChangeName 11 (codes "New"))
      ≡ told_to (3 ∷ 4 ∷ 5 ∷ 6 ∷ 7 ∷ 8 ∷ []) (name_changed 11 (codes "Closed") (codes "New"))
  pub renamed_letterbox : messages_by bo (call.ChangeName 6 (codes "Bob"))
      ≡ told_to (3 ∷ 4 ∷ 5 ∷ 6 ∷ 7 ∷ 8 ∷ []) (name_changed 6 (codes "Bo") (codes "Bob"))
  -- also to the name that it has
  pub renamed_alike : messages_by anna (call.ChangeName 9 (codes "Open"))
      ≡ told_to (3 ∷ 4 ∷ 5 ∷ 6 ∷ 7 ∷ 8 ∷ []) (name_changed 9 (codes "Open") (codes "Open"))
  -- not by a call that is refused
  pub not_renamed :
      map (λ name. messages_by anna (call.ChangeName 9 name)) ([] ∷ codes "bo" ∷ codes "board" ∷ [])
      ≡ replicate 3 []
  pub not_renamed_by_others :
      map (λ asked. messages_by asked (call.ChangeName 9 (codes "New")))
      (stranger ∷ bo ∷ asked 6 255 ∷ [])
      ≡ replicate 3 []
  -- Message 7: to all
  pub synced : messages_by strong call.SyncKom
      ≡ told_to (3 ∷ 4 ∷ 6 ∷ 7 ∷ 8 ∷ []) message.SyncDatabase
  pub synced_to_the_caller : messages_by (hears 7 255) call.SyncKom
      ≡ told_to (1 ∷ 3 ∷ 4 ∷ 6 ∷ 7 ∷ 8 ∷ []) message.SyncDatabase
  pub not_synced : map (λ asked. messages_by asked call.SyncKom) (stranger ∷ cy ∷ not_strong ∷ [])
      ≡ replicate 3 []
  -- Message 8: to who left, whoever ended the membership
  pub left_alone : messages_by bo (call.SubMember 9 6)
      ≡ told_to (4 ∷ []) (message.LeaveConference 9)
  pub left_through_another :
      map (λ person. messages_by anna (call.SubMember 9 person)) (5 ∷ 6 ∷ 7 ∷ 8 ∷ [])
      ≡ told_to (3 ∷ []) (message.LeaveConference 9)
      ∷ told_to (4 ∷ []) (message.LeaveConference 9)
      ∷ told_to (6 ∷ 7 ∷ []) (message.LeaveConference 9)
      ∷ told_to (8 ∷ []) (message.LeaveConference 9) ∷ []
  pub left_with_the_caller : messages_by (hears 6 0) (call.SubMember 9 6)
      ≡ told_to (1 ∷ 4 ∷ []) (message.LeaveConference 9)
  pub left_in_secret : messages_by anna (call.SubMember 10 6)
      ≡ told_to (4 ∷ []) (message.LeaveConference 10)
  pub invitation_ended : messages_by di (call.SubMember 11 8)
      ≡ told_to (8 ∷ []) (message.LeaveConference 11)
  -- not from one's letterbox, nor through one who may not, nor of one who is no member
  pub not_left :
      messages_by bo (call.SubMember 6 6) ∷ messages_by bo (call.SubMember 9 7)
      ∷ messages_by anna (call.SubMember 12 6)
      ∷ []
      ≡ replicate 3 []
  -- once for each membership that ends with its conference
  pub left_with_the_conference : all_heard anna (call.DeleteConf 9)
      ≡ items_of_messages
      ([] ∷ [] ∷ (message.LeaveConference 9 ∷ []) ∷ (message.LeaveConference 9 ∷ []) ∷ []
      ∷ (message.LeaveConference 9 ∷ []) ∷ (message.LeaveConference 9 ∷ [])
      ∷ (message.LeaveConference 9 ∷ []) ∷ [] ∷ [])
  pub left_with_none : messages_by anna (call.DeleteConf 12) ≡ []
  pub not_deleted : messages_by bo (call.DeleteConf 9) ∷ messages_by di (call.DeleteConf 10) ∷ []
      ≡ replicate 2 []
  -- A letterbox goes: first each of its person's sessions logs out, and then the memberships end
  pub bo_went : all_heard bo (call.DeleteConf 6)
      ≡ items_of_messages
      ([] ∷ [] ∷ bo_logs_out ∷ (bo_logs_out ++ bo_leaves) ∷ bo_logs_out ∷ bo_logs_out ∷ bo_logs_out
      ∷ (bo_logs_out ++ message.LeaveConference 6 ∷ []) ∷ [] ∷ [])
  pub bo_heard_it : items_sent_to (messages_by (hears 6 0) (call.DeleteConf 6)) 1
      ≡ map (λ each. queue.Message each) (bo_logs_out ++ bo_leaves)
  pub bo_went_through_the_strong : all_heard strong (call.DeleteConf 6)
      ≡ items_of_messages
      ([] ∷ [] ∷ others_log_out ∷ (others_log_out ++ bo_leaves) ∷ others_log_out ∷ others_log_out
      ∷ others_log_out ∷ (others_log_out ++ message.LeaveConference 6 ∷ []) ∷ [] ∷ [])
  -- also of an invisible session; and no recipient of a text is told of
  pub di_went : all_heard di (call.DeleteConf 8)
      ≡ items_of_messages
      ([] ∷ [] ∷ di_logs_out ∷ di_logs_out ∷ di_logs_out ∷ di_logs_out ∷ di_logs_out
      ∷ (di_logs_out ++ di_leaves) ∷ [] ∷ [])
  -- and of one that logged in at this moment
  pub just_went : items_sent_to (messages_by (just_in 6) (call.DeleteConf 6)) 3
      ≡ map (λ each. queue.Message each) bo_logs_out
  -- Message 9: to all that were logged in before
  pub logged_in : messages_by stranger (call.Login 5 [] false)
      ≡ told_to (3 ∷ 4 ∷ 6 ∷ 7 ∷ 8 ∷ []) (message.Login 5 1)
  pub logged_in_from_nobody : messages_by (hears 0 0) (call.Login 5 [] false)
      ≡ told_to (3 ∷ 4 ∷ 6 ∷ 7 ∷ 8 ∷ []) (message.Login 5 1)
  -- not of an invisible login, nor of one that is refused
  pub logged_in_invisibly : messages_by stranger (call.Login 5 [] true) ≡ []
  pub not_logged_in :
      messages_by stranger (call.Login 5 (codes "x") false)
      ∷ messages_by stranger (call.Login 9 [] false)
      ∷ messages_by cy (call.Login 5 (codes "x") false) ∷ []
      ≡ replicate 3 []
  -- one over another: first that logs out
  pub logged_in_over_another : all_heard (hears 7 255) (call.Login 8 (codes "x") false)
      ≡ items_of_messages
      (cy_then_di ∷ [] ∷ cy_then_di ∷ cy_then_di ∷ (message.Logout 7 1 ∷ []) ∷ cy_then_di
      ∷ cy_then_di ∷ cy_then_di ∷ [] ∷ [])
  pub logged_in_again : items_sent_to (messages_by (hears 5 0) (call.Login 5 [] false)) 1
      ≡ queue.Message (message.Logout 5 1) ∷ queue.Message (message.Login 5 1) ∷ []
  -- the one that logs out is told of, though the next logs in invisibly
  pub logged_in_invisibly_over_another : messages_by (hears 7 255) (call.Login 8 (codes "x") true)
      ≡ told_to (1 ∷ 3 ∷ 4 ∷ 5 ∷ 6 ∷ 7 ∷ 8 ∷ []) (message.Logout 7 1)
  -- Message 12: to all
  pub said_to_all : messages_by anna (call.SendMessage 0 (codes "Hi"))
      ≡ told_to (3 ∷ 4 ∷ 6 ∷ 7 ∷ 8 ∷ []) (said_to 0 5 (codes "Hi"))
  pub said_to_the_caller : messages_by (hears 5 0) (call.SendMessage 0 (codes "Hi"))
      ≡ told_to (1 ∷ 3 ∷ 4 ∷ 6 ∷ 7 ∷ 8 ∷ []) (said_to 0 5 (codes "Hi"))
  -- or to the members of a conference that are not passive, or are passive inversely
  pub said_to_members : messages_by anna (call.SendMessage 9 (codes "Hi"))
      ≡ told_to (4 ∷ 8 ∷ []) (said_to 9 5 (codes "Hi"))
  pub said_in_secret : messages_by strong (call.SendMessage 10 [])
      ≡ told_to (4 ∷ []) (said_to 10 7 [])
  pub said_to_persons : map (λ letterbox. messages_by di (call.SendMessage letterbox (codes "Hi")))
      (5 ∷ 6 ∷ 7 ∷ 8 ∷ [])
      ≡ told_to (3 ∷ []) (said_to 5 8 (codes "Hi"))
      ∷ told_to (4 ∷ 8 ∷ []) (said_to 6 8 (codes "Hi"))
      ∷ told_to (6 ∷ 7 ∷ []) (said_to 7 8 (codes "Hi"))
      ∷ told_to (8 ∷ []) (said_to 8 8 (codes "Hi")) ∷ []
  -- also to who was only invited
  pub said_to_the_invited : messages_by anna (call.SendMessage 11 [])
      ≡ told_to (8 ∷ []) (said_to 11 5 [])
  pub not_said : messages_by stranger (call.SendMessage 0 [])
      ∷ messages_by di (call.SendMessage 10 [])
      ∷ messages_by anna (call.SendMessage 12 []) ∷ []
      ≡ replicate 3 []
  -- Message 13: to all that were logged in before, the one that logs out among them
  pub logged_out : messages_by anna call.Logout
      ≡ told_to (3 ∷ 4 ∷ 5 ∷ 6 ∷ 7 ∷ 8 ∷ []) (message.Logout 5 1)
  pub logged_out_itself : messages_by (hears 5 0) call.Logout
      ≡ told_to (1 ∷ 3 ∷ 4 ∷ 5 ∷ 6 ∷ 7 ∷ 8 ∷ []) (message.Logout 5 1)
  pub logged_out_at_once : messages_by (just_in 5) call.Logout
      ≡ told_to (3 ∷ 4 ∷ 5 ∷ 6 ∷ 7 ∷ 8 ∷ []) (message.Logout 5 1)
  pub nobody_logged_out : messages_by stranger call.Logout ∷ messages_by (hears 0 0) call.Logout
      ∷ []
      ≡ replicate 2 []
  -- by a disconnect too, of oneself or of another, which still gets it
  pub disconnected_itself : map (λ session. messages_by bo (call.Disconnect session)) (0 ∷ 1 ∷ [])
      ≡ replicate 2 (told_to (3 ∷ 4 ∷ 5 ∷ 6 ∷ 7 ∷ 8 ∷ []) (message.Logout 6 1))
  pub disconnected_another : map (λ session. messages_by bo (call.Disconnect session)) (4 ∷ 5 ∷ [])
      ≡ told_to (3 ∷ 4 ∷ 5 ∷ 6 ∷ 7 ∷ 8 ∷ []) (message.Logout 6 4)
      ∷ told_to (3 ∷ 4 ∷ 5 ∷ 6 ∷ 7 ∷ 8 ∷ []) (message.Logout 6 5) ∷ []
  pub disconnected_invisible : messages_by strong (call.Disconnect 8)
      ≡ told_to (3 ∷ 4 ∷ 5 ∷ 6 ∷ 7 ∷ 8 ∷ []) (message.Logout 8 8)
  -- nobody logs out where nobody is logged in, nor by a call that is refused
  pub nobody_disconnected : messages_by stranger (call.Disconnect 0)
      ∷ messages_by strong (call.Disconnect 2)
      ∷ messages_by anna (call.Disconnect 4) ∷ messages_by strong (call.Disconnect 9) ∷ []
      ≡ replicate 4 []
  -- Message 14: to who reads the text and takes one of its recipients, as it is told to each
  pub first_deleted : messages_by bo (call.DeleteText 1)
      ≡ one 3 (first_told (in_open 1 ++ in_board 1)
      (inherited_item ∷ hiding_item 0 ∷ annas_item ∷ []))
      ∷ one 4 (first_told (in_open 1 ++ in_board 1 ++ to_few 8 1)
      (inherited_item ∷ secret_item ∷ hiding_item 8 ∷ annas_item ∷ []))
      ∷ one 8 (first_told (in_open 1 ++ to_few 8 1)
      (inherited_item ∷ secret_item ∷ hiding_item 8 ∷ annas_item ∷ [])) ∷ []
  -- its author takes none of its recipients; a strong session is told all, and takes no more
  pub second_deleted : messages_by (hears 5 0) (call.DeleteText 2)
      ≡ one 4 (second_told (to_cy 1 ++ in_board 2) (bos_item ∷ []))
      ∷ one 6 (second_told (to_cy 1) (bos_item ∷ []))
      ∷ one 7 (second_told (to_cy 1 ++ in_board 2) (annas_secret ∷ bos_item ∷ [])) ∷ []
  pub third_deleted : messages_by anna (call.DeleteText 3) ≡ one 4 third_told ∷ []
  -- without an author, shown to few
  pub fourth_deleted : messages_by strong (call.DeleteText 4)
      ≡ one 3 (fourth_told (in_open 2)) ∷ one 4 (fourth_told (in_open 2 ++ to_few 6 1))
      ∷ one 8 (fourth_told (in_open 2 ++ to_few 6 1)) ∷ []
  pub fifth_deleted : messages_by bo (call.DeleteText 5) ≡ []
  pub no_text_deleted : messages_by cy (call.DeleteText 1) ∷ messages_by di (call.DeleteText 3) ∷ []
      ≡ replicate 2 []
  -- Message 15: as the entry makes it
  pub text_of_di : messages_by (hears 8 0) dis_text
      ≡ one 3 (made_told 8 1 1 (in_open 3 ++ to_few 5 1 ++ info.CommentTo 1 ∷ []) dis_items)
      ∷ told_to (4 ∷ 5 ∷ []) (made_told 8 1 1 (in_open 3 ++ info.CommentTo 1 ∷ []) dis_items)
  pub text_of_anna : messages_by (hears 5 0) annas_text
      ≡ told_to (4 ∷ 5 ∷ []) (made_told 5 0 2 (to_cy 2 ++ in_board 4) [])
      ++ one 6 (made_told 5 0 2 (to_cy 2) [])
      ∷ one 7 (made_told 5 0 2 (to_cy 2 ++ in_board 4) (new_item 1 2 5 32 0 (codes "g") ∷ [])) ∷ []
  -- without an author: its maker is not told of a recipient that is shown to few, but of its item
  pub text_without_an_author : messages_by (hears 6 0) anonymous_text
      ≡ one 1 (made_told 0 0 0 (in_open 3) (new_item 1 2 6 32 0 (codes "g") ∷ []))
      ∷ one 3 (made_told 0 0 0 (in_open 3) [])
      ∷ told_to (4 ∷ 5 ∷ [])
      (made_told 0 0 0 (in_open 3) (new_item 1 2 6 32 0 (codes "g") ∷ []))
      ++ one 8 (made_told 0 0 0 (in_open 3 ++ to_few 8 2) []) ∷ []
  -- the author owns its items
  pub text_to_its_author : items_sent_to (messages_by (hears 6 0)
      (call.CreateText (text [] (new_misc 0 9 ∷ new_misc 15 8 ∷ []) (given_item 2 48 0 [] ∷ [])))) 1
      ≡ queue.Message (made_told 6 0 0 (in_open 3 ++ to_few 8 2) (new_item 1 2 6 48 0 [] ∷ [])) ∷ []
  -- also to who was only invited; not to who is passive, and not where there is nobody
  pub text_to_the_invited : messages_by anna (plain_text (new_misc 0 11 ∷ []))
      ≡ one 8 (made_told 5 0 0 (info.Recipient 11 ∷ info.Local 1 ∷ []) []) ∷ []
  pub text_to_nobody : map (λ recipients. messages_by anna (plain_text recipients))
      ([] ∷ (new_misc 0 12 ∷ []) ∷ (new_misc 2 1 ∷ []) ∷ [])
      ≡ replicate 3 []
  pub no_text_made :
      messages_by stranger (plain_text (new_misc 0 9 ∷ []))
      ∷ messages_by di (plain_text (new_misc 0 9 ∷ new_misc 0 10 ∷ []))
      ∷ messages_by anna (call.CreateText (text [] (new_misc 0 9 ∷ []) (given_item 99 0 0 [] ∷ [])))
      ∷ []
      ≡ replicate 3 []
  -- Message 16: to who takes the conference
  pub recipient_added : messages_by bo (call.AddRecipient 1 7 1)
      ≡ told_to (6 ∷ 7 ∷ []) (message.NewRecipient 1 7 1)
  pub recipient_added_for_few : messages_by bo (call.AddRecipient 1 11 15)
      ≡ told_to (8 ∷ []) (message.NewRecipient 1 11 15)
  -- though it did not read the text before; not to who is passive there
  pub recipient_added_from_secret : messages_by anna (call.AddRecipient 3 9 0)
      ≡ told_to (3 ∷ 4 ∷ []) (message.NewRecipient 3 9 0)
  pub recipient_added_for_nobody : messages_by anna (call.AddRecipient 3 12 0) ≡ []
  pub no_recipient_added :
      messages_by bo (call.AddRecipient 1 9 0) ∷ messages_by bo (call.AddRecipient 1 11 2)
      ∷ messages_by di (call.AddRecipient 3 9 0) ∷ []
      ≡ replicate 3 []
  -- Message 17: with the type that it had
  pub recipient_went : messages_by bo (call.SubRecipient 1 9)
      ≡ told_to (3 ∷ 4 ∷ []) (message.SubRecipient 1 9 0)
  pub copy_recipient_went : messages_by anna (call.SubRecipient 1 10)
      ≡ told_to (4 ∷ []) (message.SubRecipient 1 10 1)
  pub blind_recipient_went : messages_by bo (call.SubRecipient 1 8)
      ≡ told_to (8 ∷ []) (message.SubRecipient 1 8 15)
  pub no_recipient_went :
      messages_by anna (call.SubRecipient 1 8) ∷ messages_by cy (call.SubRecipient 1 9)
      ∷ messages_by bo (call.SubRecipient 1 11) ∷ []
      ≡ replicate 3 []
  -- Message 18: of a new membership, to its person
  pub joined : messages_by anna (call.AddMember 11 5 100 0 0)
      ≡ told_to (3 ∷ []) (message.NewMembership 5 11)
  pub joined_through_another : messages_by (hears 6 0) (call.AddMember 12 8 100 0 96)
      ≡ told_to (8 ∷ []) (message.NewMembership 8 12)
  pub joined_by_strength : messages_by strong (call.AddMember 10 7 100 0 64)
      ≡ told_to (6 ∷ 7 ∷ []) (message.NewMembership 7 10)
  -- not of one that was there, set again or left as it is; nor by a call that is refused
  pub not_joined :
      messages_by bo (call.AddMember 9 6 1 0 64) ∷ messages_by anna (call.AddMember 9 6 1 0 64)
      ∷ messages_by di (call.AddMember 10 8 1 0 0) ∷ messages_by bo (call.AddMember 11 6 1 0 0) ∷ []
      ≡ replicate 4 []
  -- Message 19: to the person
  pub area_set : messages_by bo (call.SetUserArea 6 1)
      ≡ told_to (4 ∷ []) (message.NewUserArea 6 0 1)
  pub area_set_again : map (λ text. messages_by
      (after (effect.PersonField 6 (person_field.UserArea 3) ∷ []) bo) (call.SetUserArea 6 text))
      (0 ∷ 1 ∷ 3 ∷ [])
      ≡ told_to (4 ∷ []) (message.NewUserArea 6 3 0) ∷ told_to (4 ∷ []) (message.NewUserArea 6 3 1)
      ∷ told_to (4 ∷ []) (message.NewUserArea 6 3 3) ∷ []
  pub area_set_by_another : messages_by (hears 7 255) (call.SetUserArea 8 5)
      ≡ told_to (8 ∷ []) (message.NewUserArea 8 0 5)
  pub no_area_set : messages_by anna (call.SetUserArea 6 1) ∷ messages_by di (call.SetUserArea 8 3)
      ∷ []
      ≡ replicate 2 []
  -- Message 20, and 21: to who sees the conference, whether it reads the text or not
  pub presented : messages_by anna (call.SetPresentation 9 3)
      ≡ told_to (3 ∷ 4 ∷ 6 ∷ 7 ∷ 8 ∷ []) (message.NewPresentation 9 0 3)
  pub presented_in_secret : messages_by anna (call.SetPresentation 10 3)
      ≡ told_to (3 ∷ 4 ∷ 7 ∷ []) (message.NewPresentation 10 0 3)
  pub presented_again : messages_by
      (after (effect.ConfField 9 (field.Presentation 3) ∷ effect.ConfField 9 (field.Motd 2) ∷ [])
      anna) (call.SetPresentation 9 0)
      ≡ told_to (3 ∷ 4 ∷ 6 ∷ 7 ∷ 8 ∷ []) (message.NewPresentation 9 3 0)
  pub door_set : messages_by (hears 6 0) (call.SetEtcMotd 6 1)
      ≡ told_to (1 ∷ 3 ∷ 4 ∷ 6 ∷ 7 ∷ 8 ∷ []) (message.NewMotd 6 0 1)
  pub door_set_again : messages_by
      (after (effect.ConfField 10 (field.Presentation 3) ∷ effect.ConfField 10 (field.Motd 2) ∷ [])
      anna) (call.SetEtcMotd 10 1)
      ≡ told_to (3 ∷ 4 ∷ 7 ∷ []) (message.NewMotd 10 2 1)
  pub not_presented : messages_by bo (call.SetPresentation 9 1)
      ∷ messages_by bo (call.SetEtcMotd 9 1)
      ∷ messages_by anna (call.SetPresentation 9 98) ∷ []
      ≡ replicate 3 []
  -- Message 22: what each is shown of the items, from before and as they are added
  pub items_told_to_each : messages_by bo (call.ModifyTextInfo
      (changes 1 (1 ∷ []) (given_item 6 32 0 (codes "i") ∷ [])))
      ≡ one 3 (items_changed 1 (inherited_item ∷ []) [])
      ∷ told_to (4 ∷ 8 ∷ [])
      (items_changed 1 (inherited_item ∷ []) (new_item 5 6 6 32 0 (codes "i") ∷ []))
  -- not where nothing is shown
  pub secret_item_went : messages_by di (call.ModifyTextInfo (changes 1 (2 ∷ []) []))
      ≡ told_to (4 ∷ 8 ∷ []) (items_changed 1 (secret_item ∷ []) [])
  pub secret_item_added : messages_by (hears 7 0)
      (call.ModifyTextInfo (changes 1 [] (given_item 2 32 0 (codes "i") ∷ [])))
      ≡ told_to (4 ∷ 8 ∷ []) (items_changed 1 [] (new_item 5 2 7 32 0 (codes "i") ∷ []))
  -- without its creator, where that is hidden
  pub hiding_item_went : messages_by di (call.ModifyTextInfo (changes 1 (3 ∷ []) []))
      ≡ one 3 (items_changed 1 (hiding_item 0 ∷ []) [])
      ∷ told_to (4 ∷ 8 ∷ []) (items_changed 1 (hiding_item 8 ∷ []) [])
  pub hiding_item_added : messages_by di
      (call.ModifyTextInfo (changes 1 [] (given_item 2 16 0 [] ∷ given_item 2 0 0 [] ∷ [])))
      ≡ one 3 (items_changed 1 [] (new_item 5 2 0 16 0 [] ∷ new_item 6 2 8 0 0 [] ∷ []))
      ∷ told_to (4 ∷ 8 ∷ [])
      (items_changed 1 [] (new_item 5 2 8 16 0 [] ∷ new_item 6 2 8 0 0 [] ∷ []))
  -- in the order of the effects
  pub items_went_in_turn : messages_by di (call.ModifyTextInfo (changes 1 (3 ∷ 1 ∷ []) []))
      ≡ one 3 (items_changed 1 (hiding_item 0 ∷ inherited_item ∷ []) [])
      ∷ told_to (4 ∷ 8 ∷ []) (items_changed 1 (hiding_item 8 ∷ inherited_item ∷ []) [])
  -- a strong session is shown all; the author takes no recipient
  pub item_of_the_second_went : messages_by (hears 5 0)
      (call.ModifyTextInfo (changes 2 (1 ∷ []) []))
      ≡ one 7 (items_changed 2 (annas_secret ∷ []) []) ∷ []
  -- to its creator, who does not own the text, and to no other who does not
  pub item_told_to_its_creator :
      map (λ flags. messages_by bo
      (call.ModifyTextInfo (changes 2 [] (given_item 2 flags 0 [] ∷ []))))
      (48 ∷ 16 ∷ [])
      ≡ told_to (4 ∷ 7 ∷ []) (items_changed 2 [] (new_item 3 2 6 48 0 [] ∷ []))
      ∷ (one 4 (items_changed 2 [] (new_item 3 2 6 16 0 [] ∷ []))
      ∷ one 6 (items_changed 2 [] (new_item 3 2 0 16 0 [] ∷ []))
      ∷ one 7 (items_changed 2 [] (new_item 3 2 6 16 0 [] ∷ [])) ∷ []) ∷ []
  pub no_items_told :
      messages_by (hears 6 0) (call.ModifyTextInfo (changes 1 [] []))
      ∷ messages_by (hears 6 0) (call.ModifyTextInfo (changes 5 [] (given_item 2 0 0 [] ∷ [])))
      ∷ messages_by anna (call.ModifyTextInfo (changes 1 (1 ∷ []) []))
      ∷ messages_by di (call.ModifyTextInfo (changes 1 [] (given_item 99 0 0 [] ∷ []))) ∷ []
      ≡ replicate 4 []
  -- A message goes to who accepts its number, and to nobody else
  pub accepted_alone : each_counted (λ number. 2 ^ number)
      ≡ 7 ∷ 7 ∷ 3 ∷ 6 ∷ 7 ∷ 7 ∷ 5 ∷ 3 ∷ 2 ∷ 4 ∷ 2 ∷ 3 ∷ 7 ∷ 7 ∷ 5 ∷ []
  pub not_accepted : each_counted (λ number. all_messages - 2 ^ number) ≡ replicate 15 0
  pub none_accepted : each_counted (λ number. 0) ≡ replicate 15 0
  -- Other calls send nothing
  pub sends_nothing : map (messages_by (hears 5 0))
      (call.WhoAmI ∷ call.Enable 255 ∷ call.ChangeConference 9 ∷ call.AcceptAsync (5 ∷ [])
      ∷ call.UserActive ∷ call.GetText 1 0 5 ∷ call.SetSupervisor 9 5 ∷ call.SetConfType 9 160
      ∷ call.AddComment 3 1 ∷ call.SubComment 2 1 ∷ call.AddFootnote 3 2 ∷ call.MarkText 1 7
      ∷ call.MarkAsRead 9 (1 ∷ []) ∷ call.SetMembershipType 5 9 0
      ∷ call.ModifyConfInfo (changes 9 [] (given_item 10 0 0 [] ∷ []))
      ∷ call.CreateConf (new_conference 8 []) ∷ call.CreatePerson (new_person [])
      ∷ call.Refused 2 0 ∷ [])
      ≡ replicate 18 []
  pub shutdown_sends_nothing : messages_by (hears 7 255) (call.ShutdownKom 0) ≡ []
  -- Call 43: of a strong session
  pub sync_comes_to : definition_of strong call.SyncKom ≡ comes_to [] []
  pub sync_refused :
      early_of (map (λ asked. definition_of asked call.SyncKom) (stranger ∷ cy ∷ not_strong ∷ []))
      ≡ replicate 3 (refusal 12 0)
  -- Call 44: of a strong session; the value is not looked at
  pub shutdown_comes_to :
      map (λ value. definition_of strong (call.ShutdownKom value)) (0 ∷ 4294967295 ∷ [])
      ≡ replicate 2 (comes_to [] (change.Stop ∷ []))
  pub shutdown_refused :
      early_of (map (λ asked. definition_of asked (call.ShutdownKom 0))
      (stranger ∷ cy ∷ not_strong ∷ []))
      ≡ replicate 3 (refusal 12 0)
  -- Call 53: refused in this order: nobody is logged in; the message is too long; the conference is
  -- missing; it is hidden; no session gets it
  pub saying_refused :
      early_of (definition_of stranger (call.SendMessage 99 (replicate 10001 97))
      ∷ definition_of anna (call.SendMessage 99 (replicate 10001 97))
      ∷ definition_of anna (call.SendMessage 99 []) ∷ definition_of di (call.SendMessage 10 [])
      ∷ definition_of anna (call.SendMessage 12 [])
      ∷ definition_of (all_accept 0 anna) (call.SendMessage 0 [])
      ∷ definition_of (all_accept 0 anna) (call.SendMessage 9 [])
      ∷ definition_of anna (call.SendMessage 0 (replicate 10000 97)) ∷ [])
      ≡ refusal 6 0 ∷ refusal 5 10000 ∷ refusal 9 99 ∷ refusal 9 10 ∷ refusal 53 12 ∷ refusal 53 0
      ∷ refusal 53 9 ∷ None ∷ []
  -- of those that are there none: Cy is passive, Anna takes messages inversely, strength is nothing
  pub saying_to_nobody :
      early_of (definition_of few_are_there (call.SendMessage 9 [])
      ∷ definition_of few_are_there (call.SendMessage 6 [])
      ∷ definition_of few_are_there (call.SendMessage 5 [])
      ∷ definition_of few_are_there (call.SendMessage 0 []) ∷ [])
      ≡ refusal 53 9 ∷ refusal 53 6 ∷ None ∷ None ∷ []
  pub saying_comes_to :
      map (λ recipient. definition_of anna (call.SendMessage recipient (codes "Hi")))
      (0 ∷ 9 ∷ 6 ∷ 11 ∷ [])
      ≡ replicate 4 (comes_to [] [])
  -- Call 55: a session is logged out and ended
  pub ends_itself : map (λ session. definition_of bo (call.Disconnect session)) (0 ∷ 1 ∷ [])
      ≡ replicate 2 (comes_to (effect.Counted 6 counter.TimePresent 20 ∷ [])
      (change.Person 1 0 false ∷ change.Ended 1 ∷ []))
  pub ends_itself_at_once : definition_of (just_in 6) (call.Disconnect 0)
      ≡ comes_to [] (change.Person 1 0 false ∷ change.Ended 1 ∷ [])
  -- also where nobody is logged in
  pub nobody_ends_itself :
      map (λ session. definition_of stranger (call.Disconnect session)) (0 ∷ 1 ∷ [])
      ≡ replicate 2 (comes_to [] (change.Ended 1 ∷ []))
  pub ends_another :
      definition_of bo (call.Disconnect 4) ∷ definition_of strong (call.Disconnect 8)
      ∷ definition_of strong (call.Disconnect 2)
      ∷ definition_of (after (under 5 6) anna) (call.Disconnect 5) ∷ []
      ≡ comes_to (effect.Counted 6 counter.TimePresent 16 ∷ [])
      (change.Person 4 0 false ∷ change.Ended 4 ∷ [])
      ∷ comes_to (effect.Counted 8 counter.TimePresent 12 ∷ [])
      (change.Person 8 0 false ∷ change.Ended 8 ∷ [])
      ∷ comes_to [] (change.Ended 2 ∷ [])
      ∷ comes_to (effect.Counted 6 counter.TimePresent 15 ∷ [])
      (change.Person 5 0 false ∷ change.Ended 5 ∷ []) ∷ []
  -- refused: there is no such session, or it has ended, before all else; nobody is logged in there,
  -- or a person that the caller does not supervise, be it the caller's own
  pub ending_refused :
      early_of (definition_of stranger (call.Disconnect 99)
      ∷ definition_of strong (call.Disconnect 99) ∷ definition_of strong (call.Disconnect 9)
      ∷ definition_of anna (call.Disconnect 9) ∷ definition_of stranger (call.Disconnect 2)
      ∷ definition_of stranger (call.Disconnect 3) ∷ definition_of anna (call.Disconnect 2)
      ∷ definition_of anna (call.Disconnect 4) ∷ definition_of not_strong (call.Disconnect 4)
      ∷ definition_of (after (under 5 6) bo) (call.Disconnect 4)
      ∷ definition_of (after (under 5 6) bo) (call.Disconnect 1)
      ∷ definition_of anna (call.Disconnect 3) ∷ [])
      ≡ refusal 42 99 ∷ refusal 42 99 ∷ refusal 42 9 ∷ refusal 42 9 ∷ refusal 12 2 ∷ refusal 12 3
      ∷ refusal 12 2 ∷ refusal 12 4 ∷ refusal 12 4 ∷ refusal 12 4 ∷ None ∷ None ∷ []
  -- Call 83: all sessions that have not ended, with the conferences that are seen
  pub tells_all_sessions : definition_of anna (call.WhoIsOnDynamic true true 0)
      ≡ tells_sessions (all_on 5 10)
  pub tells_sessions_to_others :
      map (λ asked. definition_of asked (call.WhoIsOnDynamic true true 0))
      (stranger ∷ bo ∷ cy ∷ strong ∷ di ∷ [])
      ≡ tells_sessions (all_on 0 0) ∷ tells_sessions (all_on 6 10) ∷ tells_sessions (all_on 7 0)
      ∷ tells_sessions (all_on 7 10) ∷ tells_sessions (all_on 8 0) ∷ []
  -- the visible, the invisible, neither
  pub tells_some_sessions : definition_of di (call.WhoIsOnDynamic true false 0)
      ∷ definition_of di (call.WhoIsOnDynamic false true 0)
      ∷ definition_of di (call.WhoIsOnDynamic false false 0) ∷ []
      ≡ tells_sessions (on 1 8 9 20 0 ∷ on 2 0 0 30 0 ∷ on 3 5 0 18 0 ∷ on 4 6 9 16 0
      ∷ on 5 6 0 15 0 ∷ on 6 7 9 14 0 ∷ on 7 7 0 13 0 ∷ [])
      ∷ tells_sessions (on 8 8 0 12 128 ∷ []) ∷ tells_sessions [] ∷ []
  -- those that are idle for so long at most
  pub tells_sessions_in_use : definition_of di (call.WhoIsOnDynamic true true 14)
      ∷ definition_of di (call.WhoIsOnDynamic true false 14)
      ∷ definition_of di (call.WhoIsOnDynamic false true 12)
      ∷ definition_of di (call.WhoIsOnDynamic false true 11) ∷ []
      ≡ tells_sessions (on 6 7 9 14 0 ∷ on 7 7 0 13 0 ∷ on 8 8 0 12 128 ∷ [])
      ∷ tells_sessions (on 6 7 9 14 0 ∷ on 7 7 0 13 0 ∷ [])
      ∷ tells_sessions (on 8 8 0 12 128 ∷ []) ∷ tells_sessions [] ∷ []
  -- idle for longer than is told: also for longer than the time that is told then
  pub tells_a_long_time :
      map (λ most. definition_of much_later (call.WhoIsOnDynamic false true most))
      (0 ∷ 4294967294 ∷ 4294967295 ∷ [])
      ≡ tells_sessions (on 8 8 0 4294967295 128 ∷ []) ∷ tells_sessions [] ∷ tells_sessions [] ∷ []
  -- where nobody is logged in, nobody is invisible
  pub tells_of_nobody_as_visible :
      map (λ invisible. definition_of (record di { seats = nobody_hides ∷ [] })
      (call.WhoIsOnDynamic (not invisible) invisible 0)) (false ∷ true ∷ [])
      ≡ tells_sessions (on 2 0 0 30 128 ∷ []) ∷ tells_sessions [] ∷ []
  -- Call 84: what does not change of a session
  pub tells_a_session : map (λ session. definition_of stranger (call.GetStaticSessionInfo session))
      (1 ∷ 8 ∷ [])
      ≡ replicate 2 (answers (reply.StaticSession (record {
        user = codes "ceder";
        host = codes "h";
        ident_user = [];
        connected = 5;
      })))
  pub telling_refused :
      early_of (map (λ session. definition_of strong (call.GetStaticSessionInfo session))
      (0 ∷ 9 ∷ 10 ∷ []))
      ≡ refusal 42 0 ∷ refusal 42 9 ∷ refusal 42 10 ∷ []
