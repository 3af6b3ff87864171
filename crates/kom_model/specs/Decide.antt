-- What a call is answered and changes. (Protocol A, "Protocol Requests".)
use Rattle.std.specs.Prelude.{ℕ, Bool, true, false, ◌==◌, ◌||◌, ◌&&◌, not, is_some}
use Rattle.std.specs.Prelude.{length, nat_le, if◌then◌else◌}
use Rattle.kom_types.specs.declared.limits.TheConstants.{LONGEST_REPLY}
use Rattle.kom_types.specs.declared.errors.TheConstants as error
use Rattle.kom_types.specs.declared.calls.Call.{Call}
use Rattle.kom_types.specs.declared.calls.Call.TheVariants as call
use Rattle.kom_types.specs.declared.decisions.Decision.{Decision}
use Rattle.kom_types.specs.declared.items.Item.TheVariants as item
use Rattle.kom_types.specs.Printing.{print_of}
use Rattle.kom_types.specs.calls.Numbers.{number_of_call}
use Rattle.kom_model.specs.State.{State, seats_of}
use Rattle.kom_model.specs.declared.kinds.TheConstants.{FIRM_NUMBERS}
use Rattle.kom_model.specs.Kinds.{accept_async, is_among}
use Rattle.kom_model.specs.calls.Call.{Asked, Definition, outcome_of, refuse, refused_with}
use Rattle.kom_model.specs.calls.AuxItems as AuxItems
use Rattle.kom_model.specs.calls.Conferences as Conferences
use Rattle.kom_model.specs.calls.Memberships as Memberships
use Rattle.kom_model.specs.calls.NewTexts as NewTexts
use Rattle.kom_model.specs.calls.Persons as Persons
use Rattle.kom_model.specs.calls.Server as Server
use Rattle.kom_model.specs.calls.Sessions as Sessions
use Rattle.kom_model.specs.calls.Texts as Texts

-- what a call in this state may read, at this moment
abbrev pub asked_in : State → ℕ → ℕ → ℕ → Asked
asked_in state moment session reference =
    record {
      db = state.db;
      seats = seats_of state;
      moment = moment;
      session = session;
      reference = reference;
    }

-- The definition of each call.
abbrev pub definition_of : Asked → Call → Definition
definition_of asked call.Logout = Sessions.logout asked
definition_of asked (call.ChangeConference conference) =
    Memberships.change_conference asked conference
definition_of asked (call.ChangeName conference name) =
    Conferences.change_name asked conference name
definition_of asked (call.ChangeWhatIAmDoing doing) = Sessions.change_what_i_am_doing asked doing
definition_of asked (call.SetPrivBits person privileges) =
    Persons.set_priv_bits asked person privileges
definition_of asked (call.SetPasswd change) = Persons.set_passwd asked change
definition_of asked (call.DeleteConf conference) = Conferences.delete_conf asked conference
definition_of asked (call.SubMember conference person) =
    Memberships.sub_member asked conference person
definition_of asked (call.SetPresentation conference text) =
    Conferences.set_presentation asked conference text
definition_of asked (call.SetEtcMotd conference text) =
    Conferences.set_etc_motd asked conference text
definition_of asked (call.SetSupervisor conference supervisor) =
    Conferences.set_supervisor asked conference supervisor
definition_of asked (call.SetPermittedSubmitters conference submitters) =
    Conferences.set_permitted_submitters asked conference submitters
definition_of asked (call.SetSuperConf conference super_conference) =
    Conferences.set_super_conf asked conference super_conference
definition_of asked (call.SetConfType conference kind) =
    Conferences.set_conf_type asked conference kind
definition_of asked (call.SetGarbNice conference days) =
    Conferences.set_garb_nice asked conference days
definition_of asked call.GetMarks = Texts.get_marks asked
definition_of asked (call.GetText text start end) = Texts.get_text asked text start end
definition_of asked (call.MarkAsRead conference locals) =
    Memberships.mark_as_read asked conference locals
definition_of asked (call.DeleteText text) = Texts.delete_text asked text
definition_of asked (call.AddRecipient text conference tag) =
    Texts.add_recipient asked text conference tag
definition_of asked (call.SubRecipient text conference) = Texts.sub_recipient asked text conference
definition_of asked (call.AddComment text parent) = Texts.add_comment asked text parent
definition_of asked (call.SubComment text parent) = Texts.sub_comment asked text parent
definition_of asked call.GetTime = Server.get_time asked
definition_of asked (call.SetUnread conference count) =
    Memberships.set_unread asked conference count
definition_of asked (call.Enable level) = Sessions.enable asked level
definition_of asked (call.AddFootnote text parent) = Texts.add_footnote asked text parent
definition_of asked (call.SubFootnote text parent) = Texts.sub_footnote asked text parent
definition_of asked call.SyncKom = Server.sync_kom asked
definition_of asked (call.ShutdownKom value) = Server.shutdown_kom asked
definition_of asked (call.GetPersonStat person) = Persons.get_person_stat asked person
definition_of asked (call.GetUnreadConfs person) = Memberships.get_unread_confs asked person
definition_of asked (call.SendMessage recipient text) =
    Sessions.send_message_to asked recipient text
definition_of asked (call.Disconnect session) = Sessions.disconnect asked session
definition_of asked call.WhoAmI = Sessions.who_am_i asked
definition_of asked (call.SetUserArea person text) = Persons.set_user_area asked person text
definition_of asked (call.FindNextTextNo start) = Texts.find_next_text_no asked start
definition_of asked (call.FindPreviousTextNo start) = Texts.find_previous_text_no asked start
definition_of asked (call.Login person password invisible) =
    Sessions.login asked person password invisible
definition_of asked (call.SetClientVersion version) = Sessions.set_client_version asked version
definition_of asked (call.GetClientName session) = Sessions.get_client_name asked session
definition_of asked (call.GetClientVersion session) = Sessions.get_client_version asked session
definition_of asked (call.MarkText text kind) = Texts.mark_text asked text kind
definition_of asked (call.UnmarkText text) = Texts.unmark_text asked text
definition_of asked call.GetVersionInfo = Server.get_version_info
definition_of asked (call.LookupZName pattern persons conferences) =
    Conferences.lookup_z_name asked pattern persons conferences
definition_of asked (call.SetLastRead conference local) =
    Memberships.set_last_read asked conference local
definition_of asked (call.GetUconfStat conference) = Conferences.get_uconf_stat asked conference
definition_of asked (call.AcceptAsync numbers) = Sessions.accept_async asked numbers
definition_of asked call.QueryAsync = Sessions.query_async asked
definition_of asked call.UserActive = Sessions.user_active asked
definition_of asked (call.WhoIsOnDynamic visible invisible most) =
    Sessions.who_is_on_dynamic asked visible invisible most
definition_of asked (call.GetStaticSessionInfo session) =
    Sessions.get_static_session_info asked session
definition_of asked call.GetCollateTable = Conferences.get_collate_table
definition_of asked (call.CreateText text) = NewTexts.create_text asked text
definition_of asked (call.CreateAnonymousText text) = NewTexts.create_anonymous_text asked text
definition_of asked (call.CreateConf conference) = Conferences.create_conf asked conference
definition_of asked (call.CreatePerson person) = Persons.create_person asked person
definition_of asked (call.GetTextStat text) = Texts.get_text_stat asked text
definition_of asked (call.GetConfStat conference) = Conferences.get_conf_stat asked conference
definition_of asked (call.ModifyTextInfo change) = AuxItems.modify_text_info asked change
definition_of asked (call.ModifyConfInfo change) = AuxItems.modify_conf_info asked change
definition_of asked call.GetInfo = Server.get_info
definition_of asked call.QueryPredefinedAuxItems = AuxItems.query_predefined_aux_items
definition_of asked (call.SetExpire conference days) =
    Conferences.set_expire asked conference days
definition_of asked (call.AddMember conference person priority place kind) =
    Memberships.add_member asked conference person priority place kind
definition_of asked (call.GetMembers conference first count) =
    Memberships.get_members asked conference first count
definition_of asked (call.SetMembershipType person conference kind) =
    Memberships.set_membership_type asked person conference kind
definition_of asked (call.LocalToGlobal conference first count) =
    Texts.local_to_global asked conference first count
definition_of asked (call.MapCreatedTexts person first count) =
    Texts.map_created_texts asked person first count
definition_of asked (call.SetKeepCommented conference days) =
    Conferences.set_keep_commented asked conference days
definition_of asked (call.SetPersFlags person flags) = Persons.set_pers_flags asked person flags
definition_of asked (call.QueryReadTexts person conference want_ranges most) =
    Memberships.query_read_texts asked person conference want_ranges most
definition_of asked (call.GetMembership person first count want_ranges most) =
    Memberships.get_membership asked person first count want_ranges most
definition_of asked (call.MarkAsUnread conference local) =
    Memberships.mark_as_unread asked conference local
definition_of asked (call.SetReadRanges conference ranges) =
    Memberships.set_read_ranges asked conference ranges
definition_of asked call.FirstUnusedConfNo = Conferences.first_unused_conf_no asked
definition_of asked call.FirstUnusedTextNo = Texts.first_unused_text_no asked
definition_of asked (call.FindNextConfNo number) = Conferences.find_next_conf_no asked number
definition_of asked (call.FindPreviousConfNo number) =
    Conferences.find_previous_conf_no asked number
definition_of asked (call.LocalToGlobalReverse conference ceiling count) =
    Texts.local_to_global_reverse asked conference ceiling count
definition_of asked (call.Refused code status) = refused_with code status

-- the last guard of every call: a reply whose line would be longer is refused, and nothing changes
abbrev pub limit_reply : ℕ → Decision → Decision
limit_reply reference decision =
    if nat_le (length (print_of (item.Reply reference decision.reply))) LONGEST_REPLY then decision
    else refuse (record { code = error.LONG_ARRAY; status = 0 })

-- What a session's call comes to.
unfoldable pub decision_of : Asked → Call → Decision
decision_of asked call = limit_reply asked.reference (outcome_of (definition_of asked call))

-- whether the reader refused the call
abbrev pub was_refused : Call → Bool
was_refused (call.Refused code status) = true
was_refused other = false

-- A firm call is never answered that memory ran out: it is of those that take none, or the reader
-- refused it, or an early guard does, unless it makes a change all the same.
unfoldable pub is_firm : Asked → Call → Bool
is_firm asked call = let number = number_of_call call in
    is_among FIRM_NUMBERS number || was_refused call
    || (not (number == accept_async) && is_some (definition_of asked call).early)
