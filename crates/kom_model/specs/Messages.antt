-- What each message tells, and whom. (Protocol A, "Asynchronous Messages".)
use Rattle.std.specs.Prelude.{ℕ, Bool, false, ◌==◌, ◌||◌, ◌&&◌, not, List, length}
use Rattle.std.specs.Prelude.{Option, Some, None, if◌then◌else◌}
use Rattle.std.specs.List.{list_any}
use Rattle.kom_types.specs.Bits.{alike, is_on}
use Rattle.kom_types.specs.declared.async_numbers.TheConstants as async
use Rattle.kom_types.specs.declared.aux_items.AuxRow.{AuxRow}
use Rattle.kom_types.specs.declared.messages.Message.{Message}
use Rattle.kom_types.specs.declared.messages.Message.TheVariants as message
use Rattle.kom_types.specs.declared.texts.TextRow.{TextRow}
use Rattle.kom_types.specs.tables.Memberships.{is_passive}
use Rattle.kom_model.specs.declared.text_heads.TextHead.{TextHead}
use Rattle.kom_model.specs.declared.viewers.Viewer.{Viewer}
use Rattle.kom_model.specs.Db.{Db, membership_kind_of, recipients_of}
use Rattle.kom_model.specs.Rights.{sees, reads}
use Rattle.kom_model.specs.Sending.{Sending}
use Rattle.kom_model.specs.Shown.{shown_stat, stat_of, text_adder, items_shown}

abbrev pub sending_of : ℕ → (Viewer → Option Message) → Sending
sending_of number told = record { number = number; told = told }

abbrev pub told_if : Bool → Message → Option Message
told_if shown what = if shown then Some what else None

-- the membership of a person in a conference is there, and has a type that this holds of
abbrev pub is_member_with : (ℕ → Bool) → Db → ℕ → ℕ → Bool
is_member_with test db person conference = elim (membership_kind_of db person conference) [
  | None ↦ false
  | Some kind ↦ test kind
]

-- a person takes the texts of a conference: it is a member, and not passive
abbrev pub takes : Db → ℕ → ℕ → Bool
takes db person conference =
    is_member_with (λ kind. not (is_passive kind)) db person conference

-- a text is told to who reads it and takes the texts of one of its recipients
abbrev pub gets_text : Db → Viewer → ℕ → Bool
gets_text db viewer text = reads db viewer text
    && list_any (λ row. takes db viewer.person row.conference) (recipients_of db text)

-- message 5, new-name: to who sees the conference
abbrev pub new_name : Db → ℕ → List ℕ → List ℕ → Sending
new_name db conference old_name name = sending_of async.NEW_NAME (λ viewer.
    told_if (sees db viewer conference)
    (message.NewName (record { conference = conference; old_name = old_name; new_name = name })))

-- message 7, sync-db: to all
abbrev pub sync_database : Sending
sync_database = sending_of async.SYNC_DB (λ viewer. Some message.SyncDatabase)

-- message 8, leave-conf: to the person who left
abbrev pub leave_conference : ℕ → ℕ → Sending
leave_conference person conference = sending_of async.LEAVE_CONF (λ viewer.
    told_if (viewer.person == person) (message.LeaveConference conference))

-- message 9, login: to all
abbrev pub login : ℕ → ℕ → Sending
login person session = sending_of async.LOGIN (λ viewer. Some (message.Login person session))

-- what is sent to a conference is heard by its members, but by those whose membership has one of
-- the bits passive and passive-message-invert; what is sent to 0 by all
abbrev pub is_heard : ℕ → Bool
is_heard kind = alike (is_passive kind) (is_on 16 kind)

abbrev pub hears : Db → ℕ → ℕ → Bool
hears db person recipient = recipient == 0 || is_member_with is_heard db person recipient

-- message 12, send-message
abbrev pub send_message : Db → ℕ → ℕ → List ℕ → Sending
send_message db recipient sender text = sending_of async.SEND_MESSAGE (λ viewer.
    told_if (hears db viewer.person recipient)
    (message.SendMessage (record { recipient = recipient; sender = sender; text = text })))

-- message 13, logout: to all
abbrev pub logout : ℕ → ℕ → Sending
logout person session = sending_of async.LOGOUT (λ viewer. Some (message.Logout person session))

-- message 14, deleted-text, and 15, new-text: with what is told of the text to the receiver
abbrev pub deleted_text : Db → TextRow → Sending
deleted_text db row =
    sending_of async.DELETED_TEXT (λ viewer. told_if (gets_text db viewer row.number)
    (message.DeletedText row.number (shown_stat db viewer row)))

abbrev pub new_text : Db → TextHead → Sending
new_text db head = sending_of async.NEW_TEXT (λ viewer. told_if (gets_text db viewer head.number)
    (message.NewText head.number (stat_of db viewer head)))

-- message 16, new-recipient, and 17, sub-recipient: to who takes the conference's texts
abbrev pub new_recipient : Db → ℕ → ℕ → ℕ → Sending
new_recipient db text conference tag = sending_of async.NEW_RECIPIENT (λ viewer.
    told_if (takes db viewer.person conference) (message.NewRecipient text conference tag))

abbrev pub sub_recipient : Db → ℕ → ℕ → ℕ → Sending
sub_recipient db text conference tag = sending_of async.SUB_RECIPIENT (λ viewer.
    told_if (takes db viewer.person conference) (message.SubRecipient text conference tag))

-- message 18, new-membership: to the person
abbrev pub new_membership : ℕ → ℕ → Sending
new_membership person conference = sending_of async.NEW_MEMBERSHIP (λ viewer.
    told_if (viewer.person == person) (message.NewMembership person conference))

-- message 19, new-user-area: to the person
abbrev pub new_user_area : ℕ → ℕ → ℕ → Sending
new_user_area person old_text new_text = sending_of async.NEW_USER_AREA (λ viewer.
    told_if (viewer.person == person) (message.NewUserArea person old_text new_text))

-- message 20, new-presentation, and 21, new-motd: to who sees the conference
abbrev pub new_presentation : Db → ℕ → ℕ → ℕ → Sending
new_presentation db conference old_text new_text = sending_of async.NEW_PRESENTATION (λ viewer.
    told_if (sees db viewer conference) (message.NewPresentation conference old_text new_text))

abbrev pub new_motd : Db → ℕ → ℕ → ℕ → Sending
new_motd db conference old_text new_text = sending_of async.NEW_MOTD (λ viewer.
    told_if (sees db viewer conference) (message.NewMotd conference old_text new_text))

-- message 22, text-aux-changed: with the items that are shown to the receiver, if there are any
abbrev pub text_aux_changed : Db → ℕ → List AuxRow → List AuxRow → Sending
text_aux_changed db text deleted added = sending_of async.TEXT_AUX_CHANGED (λ viewer.
    let gone = items_shown (text_adder db viewer text) deleted in
    let come = items_shown (text_adder db viewer text) added in
    told_if (gets_text db viewer text && not (length gone == 0 && length come == 0))
    (message.TextAuxChanged (record { text = text; deleted = gone; added = come })))
