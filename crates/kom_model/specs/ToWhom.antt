-- The messages that a call sends, by what the call came to. Receivers and what they are told are by
-- the rows before the entry, but for what the entry itself makes.
use Rattle.std.specs.Prelude.{ℕ, Bool, true, false, ◌==◌, ◌||◌, List, [], ◌∷◌, ◌++◌, map}
use Rattle.std.specs.Prelude.{Option, Some, None, is_some, if◌then◌else◌}
use Rattle.std.specs.List.{filter_map, flat_map, find}
use Rattle.kom_types.specs.declared.aux_items.AuxRow.{AuxRow}
use Rattle.kom_types.specs.declared.aux_items.ItemRow.{ItemRow}
use Rattle.kom_types.specs.declared.calls.Call.{Call}
use Rattle.kom_types.specs.declared.calls.Call.TheVariants as call
use Rattle.kom_types.specs.declared.decisions.Decision.{Decision}
use Rattle.kom_types.specs.declared.effects.Effect.{Effect}
use Rattle.kom_types.specs.declared.effects.Effect.TheVariants as effect
use Rattle.kom_types.specs.declared.replies.Reply.{Reply}
use Rattle.kom_types.specs.declared.replies.Reply.TheVariants as reply
use Rattle.kom_types.specs.declared.session_changes.SessionChange.{SessionChange}
use Rattle.kom_types.specs.declared.session_changes.SessionChange.TheVariants as change
use Rattle.kom_types.specs.declared.texts.TextLink.{TextLink}
use Rattle.kom_types.specs.declared.texts.Recipient.{Recipient}
use Rattle.kom_types.specs.declared.texts.TextRow.{TextRow}
use Rattle.kom_types.specs.tables.Texts.{fresh_text}
use Rattle.kom_model.specs.Db.{Db, conference_of, person_of, membership_of, text_of, recipient_of}
use Rattle.kom_model.specs.Db.{items_of}
use Rattle.kom_model.specs.Messages as Messages
use Rattle.kom_model.specs.Sending.{Delivery, Sending, delivered_to}
use Rattle.kom_model.specs.Shown.{text_head_of}
use Rattle.kom_model.specs.calls.Call.{Asked}
use Rattle.kom_model.specs.calls.Guards.{caller, seat_at}

-- who is logged out of a session, and who logs in, unless invisibly
abbrev pub logged_out : Asked → SessionChange → Option Sending
logged_out asked (change.Person session person invisible) = elim (seat_at asked.seats session) [
  | None ↦ None
  | Some seat ↦ if person == 0 then Some (Messages.logout seat.person session) else None
]
logged_out asked other = None

abbrev pub logged_in : SessionChange → Option Sending
logged_in (change.Person session person invisible) =
    if person == 0 || invisible then None else Some (Messages.login person session)
logged_in other = None

-- a membership that goes
abbrev pub left_conference : Effect → Option Sending
left_conference (effect.MemberGone person conference) =
    Some (Messages.leave_conference person conference)
left_conference other = None

-- the items of a text that a change names, in the order of their naming
abbrev pub items_named : Db → ℕ → List ℕ → List AuxRow
items_named db text numbers =
    filter_map (λ number. find (λ item. item.number == number) (items_of db true text)) numbers

-- a text that is there is deleted
abbrev pub of_deleted : Db → ℕ → List Sending
of_deleted db text = elim (text_of db text) [
  | None ↦ []
  | Some row ↦ Messages.deleted_text db row ∷ []
]

-- the texts that effects make, and what hangs on texts then
abbrev pub text_added : Effect → Option TextRow
text_added (effect.TextAdded number author at body) = Some (fresh_text number author at body)
text_added other = None

abbrev pub recipient_added : Effect → Option Recipient
recipient_added (effect.RecipientAdded recipient) = Some recipient
recipient_added other = None

abbrev pub link_added : Effect → Option TextLink
link_added (effect.LinkAdded link) = Some link
link_added other = None

abbrev pub item_added : Effect → Option ItemRow
item_added (effect.AuxAdded on_text object item) =
    Some (record { on_text = on_text; object = object; item = item })
item_added other = None

abbrev pub items_made : List Effect → List AuxRow
items_made effects = map (λ row. row.item) (filter_map item_added effects)

-- The rows with the texts that a call makes as the only texts: who reads such a text, and what is
-- told of it, is by these, since nothing hangs on a text before it is made.
abbrev pub only_added : List Effect → Db → Db
only_added effects db = record db {
  texts = filter_map text_added effects;
  recipients = filter_map recipient_added effects;
  links = filter_map link_added effects;
  marks = [];
  items = filter_map item_added effects;
}

abbrev pub of_made : List Effect → Db → List Sending
of_made effects db = map
    (λ row. Messages.new_text (only_added effects db) (text_head_of row))
    (filter_map text_added effects)

-- What an accepted call sends, beside who logs out and in.
abbrev pub sent_by : Asked → Decision → Call → List Sending
sent_by asked decision (call.ChangeName number name) = elim (conference_of asked.db number) [
  | None ↦ []
  | Some row ↦ Messages.new_name asked.db number row.name name ∷ []
]
sent_by asked decision (call.DeleteConf number) = filter_map left_conference decision.effects
sent_by asked decision (call.SubMember conference person) =
    filter_map left_conference decision.effects
sent_by asked decision (call.SetPresentation number text) = elim (conference_of asked.db number) [
  | None ↦ []
  | Some row ↦ Messages.new_presentation asked.db number row.presentation text ∷ []
]
sent_by asked decision (call.SetEtcMotd number text) = elim (conference_of asked.db number) [
  | None ↦ []
  | Some row ↦ Messages.new_motd asked.db number row.motd text ∷ []
]
sent_by asked decision (call.DeleteText text) = of_deleted asked.db text
sent_by asked decision (call.AddRecipient text conference tag) =
    Messages.new_recipient asked.db text conference tag ∷ []
sent_by asked decision (call.SubRecipient text conference) =
    elim (recipient_of asked.db text conference) [
      | None ↦ []
      | Some row ↦ Messages.sub_recipient asked.db text conference row.tag ∷ []
    ]
sent_by asked decision call.SyncKom = Messages.sync_database ∷ []
sent_by asked decision (call.SendMessage recipient text) =
    Messages.send_message asked.db recipient (caller asked).person text ∷ []
sent_by asked decision (call.SetUserArea person text) = elim (person_of asked.db person) [
  | None ↦ []
  | Some row ↦ Messages.new_user_area person row.user_area text ∷ []
]
sent_by asked decision (call.CreateText given) = of_made decision.effects asked.db
sent_by asked decision (call.CreateAnonymousText given) = of_made decision.effects asked.db
sent_by asked decision (call.ModifyTextInfo given) = Messages.text_aux_changed asked.db given.object
    (items_named asked.db given.object given.delete) (items_made decision.effects) ∷ []
sent_by asked decision (call.AddMember conference person priority place kind) =
    if is_some (membership_of asked.db person conference) then []
    else Messages.new_membership person conference ∷ []
sent_by asked decision other = []

-- a call that is refused sends nothing
abbrev pub is_refused : Reply → Bool
is_refused (reply.Refused code status) = true
is_refused other = false

-- all that a call sends that came to this, in order: logouts come first
abbrev pub sendings : Asked → Call → Decision → List Sending
sendings asked call decision =
    filter_map (logged_out asked) decision.changes ++ filter_map logged_in decision.changes
    ++ (if is_refused decision.reply then [] else sent_by asked decision call)

-- The messages of a call that came to this: message by message, and each by rising session.
unfoldable pub messages_of : Asked → Call → Decision → List Delivery
messages_of asked call decision =
    flat_map (delivered_to asked.db asked.seats) (sendings asked call decision)
