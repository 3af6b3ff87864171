-- The laws of calls, call by call: what each comes to fits, and what it sends stands erased.
use Rattle.std.proofs.Common.{◌≡◌, ℕ, true, false, cond, [], ◌∷◌, Option, Some, None, refl, ap, ap₂}
use Rattle.std.specs.List.{filter_map}
use Rattle.kom_types.specs.declared.calls.Call.{Call}
use Rattle.kom_types.specs.declared.calls.Call.TheVariants as call
use Rattle.kom_types.specs.declared.conferences.ConferenceRow.{ConferenceRow}
use Rattle.kom_types.specs.declared.decisions.Decision.{Decision}
use Rattle.kom_types.specs.declared.effects.ConfField.TheVariants as field
use Rattle.kom_types.specs.declared.messages.Message.TheVariants as message
use Rattle.kom_types.specs.declared.replies.Reply.TheVariants as reply
use Rattle.kom_types.specs.declared.seats.Seat.{Seat}
use Rattle.kom_types.specs.declared.texts.TextRow.{TextRow}
use Rattle.kom_model.specs.declared.viewers.Viewer.{Viewer}
use Rattle.kom_model.specs.Effects.{IsProtected, all_fit}
use Rattle.kom_model.specs.Decide.{decision_of, definition_of}
use Rattle.kom_model.specs.Messages.{told_if, new_membership}
use Rattle.kom_model.specs.ToWhom.{text_added, items_made}
use Rattle.kom_model.specs.Whole.{IsWhole}
use Rattle.kom_model.specs.calls.Call.{Asked, answer, done_with}
use Rattle.kom_model.specs.calls.Conferences.{nearest}
use Rattle.kom_model.specs.calls.Guards.{caller, seat_at, text_or_none_guard, conference_or_none_guard}
use Rattle.kom_model.specs.calls.Sessions.{static_of}
use Rattle.kom_model.specs.calls.Texts.{nearest_text}
use Rattle.kom_model.specs.State.{AreSeated}
use Rattle.kom_laws.specs.Erasing.{erased_db, mask_of}
use Rattle.kom_laws.specs.Fitting.{DecidedFit}
use Rattle.kom_laws.specs.Groups.{Group, IsInGroup}
use Rattle.kom_laws.specs.Laws.{IsSentSame, told_to}
use Rattle.kom_laws.proofs.Added.{made-erased}
use Rattle.kom_laws.proofs.Messages.{alone, takes-erased, hears-erased, conference-told, deleted-erased}
use Rattle.kom_laws.proofs.Messages.{recipient-told, aux-told}
use Rattle.kom_laws.proofs.Sent.{caller-erased, area-told, named-read}
use Rattle.kom_laws.proofs.masking.Accessors.{joined-masked}
use Rattle.kom_laws.proofs.fitting.Conferences.{change_name-fits, set_field-fits, set_conf_type-fits}
use Rattle.kom_laws.proofs.fitting.Clearing.{delete_conf-fits}
use Rattle.kom_laws.proofs.fitting.Deleting.{delete_text-fits}
use Rattle.kom_laws.proofs.fitting.Guards.{decided-fits}
use Rattle.kom_laws.proofs.fitting.Memberships.{set_unread-fits, set_last_read-fits, set_read_ranges-fits}
use Rattle.kom_laws.proofs.fitting.Memberships.{sub_member-fits}
use Rattle.kom_laws.proofs.fitting.Memberships.{set_membership_type-fits, add_member-fits, mark_as_read-fits}
use Rattle.kom_laws.proofs.fitting.Memberships.{mark_as_unread-fits}
use Rattle.kom_laws.proofs.fitting.NewTexts.{new_text-fits}
use Rattle.kom_laws.proofs.fitting.Persons.{set_priv_bits-fits, set_passwd-fits, set_pers_flags-fits}
use Rattle.kom_laws.proofs.fitting.Persons.{set_user_area-fits}
use Rattle.kom_laws.proofs.fitting.Items.{modify_text_info-fits, modify_conf_info-fits}
use Rattle.kom_laws.proofs.fitting.Making.{create_conf-fits, create_person-fits}
use Rattle.kom_laws.proofs.fitting.Sessions.{logout-fits, login-fits, disconnect-fits}
use Rattle.kom_laws.proofs.fitting.Texts.{get_text-fits, add_recipient-fits, sub_recipient-fits, add_comment-fits}
use Rattle.kom_laws.proofs.fitting.Texts.{sub_comment-fits, add_footnote-fits, sub_footnote-fits, mark_text-fits}
use Rattle.kom_laws.proofs.fitting.Texts.{unmark_text-fits}

-- whether a number is answered, or that there is none, nothing is changed
nearest_text-fits : (asked : Asked) (start : ℕ) (found : Option TextRow) →
    all_fit (nearest_text asked start found).rest.effects asked.db ≡ true
nearest_text-fits asked start None = refl
nearest_text-fits asked start (Some row) = refl

nearest-fits : (asked : Asked) (start : ℕ) (found : Option ConferenceRow) →
    all_fit (nearest asked start found).rest.effects asked.db ≡ true
nearest-fits asked start None = refl
nearest-fits asked start (Some row) = refl

session-fits : (asked : Asked) (found : Option Seat) → all_fit (elim found as (λ _. Decision) [
  | None ↦ done_with [] []
  | Some seat ↦ answer (reply.StaticSession (static_of seat))
]).effects asked.db ≡ true
session-fits asked None = refl
session-fits asked (Some seat) = refl

rest-fits : (asked : Asked) (call : Call) → IsWhole asked.db → AreSeated asked.db asked.seats →
    (definition_of asked call).early ≡ None →
    all_fit (definition_of asked call).rest.effects asked.db ≡ true
rest-fits asked (call.ChangeConference conference) whole seated passes = refl
rest-fits asked (call.ChangeName conference name) whole seated passes =
    change_name-fits asked conference name passes
rest-fits asked (call.ChangeWhatIAmDoing doing) whole seated passes = refl
rest-fits asked (call.SetPrivBits person privileges) whole seated passes =
    set_priv_bits-fits asked person privileges passes
rest-fits asked (call.SetPasswd change) whole seated passes =
    set_passwd-fits asked change passes
rest-fits asked (call.SubMember conference person) whole seated passes =
    sub_member-fits asked conference person passes
rest-fits asked (call.SetPresentation conference text) whole seated passes =
    set_field-fits asked conference (text_or_none_guard asked.db (caller asked) text ∷ [])
    (field.Presentation text) (λ row. refl) passes
rest-fits asked (call.SetEtcMotd conference text) whole seated passes =
    set_field-fits asked conference (text_or_none_guard asked.db (caller asked) text ∷ [])
    (field.Motd text) (λ row. refl) passes
rest-fits asked (call.SetSupervisor conference supervisor) whole seated passes =
    set_field-fits asked conference
    (conference_or_none_guard asked.db (caller asked) supervisor ∷ []) (field.Supervisor supervisor)
    (λ row. refl) passes
rest-fits asked (call.SetPermittedSubmitters conference submitters) whole seated passes =
    set_field-fits asked conference
    (conference_or_none_guard asked.db (caller asked) submitters ∷ []) (field.PermittedSubmitters submitters)
    (λ row. refl) passes
rest-fits asked (call.SetSuperConf conference super_conference) whole seated passes =
    set_field-fits asked conference
    (conference_or_none_guard asked.db (caller asked) super_conference ∷ []) (field.SuperConference super_conference)
    (λ row. refl) passes
rest-fits asked (call.SetConfType conference kind) whole seated passes =
    set_conf_type-fits asked conference kind passes
rest-fits asked (call.SetGarbNice conference nice) whole seated passes =
    set_field-fits asked conference [] (field.Nice nice) (λ row. refl) passes
rest-fits asked call.GetMarks whole seated passes = refl
rest-fits asked (call.GetText text start end) whole seated passes =
    get_text-fits asked text start end seated passes
rest-fits asked (call.AddRecipient text conference kind) whole seated passes =
    add_recipient-fits asked text conference kind passes
rest-fits asked (call.SubRecipient text conference) whole seated passes =
    sub_recipient-fits asked text conference passes
rest-fits asked (call.AddComment text parent) whole seated passes =
    add_comment-fits asked text parent passes
rest-fits asked (call.SubComment text parent) whole seated passes =
    sub_comment-fits asked text parent passes
rest-fits asked call.GetTime whole seated passes = refl
rest-fits asked (call.AddFootnote text parent) whole seated passes =
    add_footnote-fits asked text parent passes
rest-fits asked (call.SubFootnote text parent) whole seated passes =
    sub_footnote-fits asked text parent passes
rest-fits asked (call.SetUnread conference count) whole seated passes =
    set_unread-fits asked conference count passes
rest-fits asked (call.Enable level) whole seated passes = refl
rest-fits asked call.SyncKom whole seated passes = refl
rest-fits asked (call.ShutdownKom value) whole seated passes = refl
rest-fits asked (call.GetPersonStat person) whole seated passes = refl
rest-fits asked (call.GetUnreadConfs person) whole seated passes = refl
rest-fits asked (call.SendMessage recipient message) whole seated passes = refl
rest-fits asked call.WhoAmI whole seated passes = refl
rest-fits asked (call.SetUserArea person text) whole seated passes =
    set_user_area-fits asked person text passes
rest-fits asked (call.FindNextTextNo start) whole seated passes = nearest_text-fits asked start _
rest-fits asked (call.FindPreviousTextNo start) whole seated passes = nearest_text-fits asked start _
rest-fits asked (call.SetClientVersion client) whole seated passes = refl
rest-fits asked (call.GetClientName session) whole seated passes = refl
rest-fits asked (call.GetClientVersion session) whole seated passes = refl
rest-fits asked (call.MarkText text kind) whole seated passes =
    mark_text-fits asked text kind seated passes
rest-fits asked (call.UnmarkText text) whole seated passes =
    unmark_text-fits asked text passes
rest-fits asked call.GetVersionInfo whole seated passes = refl
rest-fits asked (call.LookupZName name persons conferences) whole seated passes = refl
rest-fits asked (call.SetLastRead conference local) whole seated passes =
    set_last_read-fits asked conference local passes
rest-fits asked (call.GetUconfStat conference) whole seated passes = refl
rest-fits asked (call.AcceptAsync numbers) whole seated passes = refl
rest-fits asked call.QueryAsync whole seated passes = refl
rest-fits asked call.UserActive whole seated passes = refl
rest-fits asked (call.WhoIsOnDynamic visible invisible idle) whole seated passes = refl
rest-fits asked (call.GetStaticSessionInfo session) whole seated passes = session-fits asked
    (seat_at asked.seats session)
rest-fits asked call.GetCollateTable whole seated passes = refl
rest-fits asked (call.GetTextStat text) whole seated passes = refl
rest-fits asked (call.GetConfStat conference) whole seated passes = refl
rest-fits asked call.GetInfo whole seated passes = refl
rest-fits asked call.QueryPredefinedAuxItems whole seated passes = refl
rest-fits asked (call.SetExpire conference expire) whole seated passes =
    set_field-fits asked conference [] (field.Expire expire) (λ row. refl) passes
rest-fits asked (call.AddMember conference person priority place kind) whole seated passes =
    add_member-fits asked conference person priority place kind passes
rest-fits asked (call.GetMembers conference first count) whole seated passes = refl
rest-fits asked (call.SetMembershipType person conference kind) whole seated passes =
    set_membership_type-fits asked person conference kind passes
rest-fits asked (call.LocalToGlobal conference first count) whole seated passes = refl
rest-fits asked (call.MapCreatedTexts author first count) whole seated passes = refl
rest-fits asked (call.SetKeepCommented conference days) whole seated passes =
    set_field-fits asked conference [] (field.KeepCommented days) (λ row. refl) passes
rest-fits asked (call.SetPersFlags person flags) whole seated passes =
    set_pers_flags-fits asked person flags passes
rest-fits asked (call.QueryReadTexts person conference want_ranges most) whole seated passes = refl
rest-fits asked (call.GetMembership person first count want_ranges most) whole seated passes = refl
rest-fits asked (call.SetReadRanges conference ranges) whole seated passes =
    set_read_ranges-fits asked conference ranges passes
rest-fits asked call.FirstUnusedConfNo whole seated passes = refl
rest-fits asked call.FirstUnusedTextNo whole seated passes = refl
rest-fits asked (call.FindNextConfNo start) whole seated passes = nearest-fits asked start _
rest-fits asked (call.FindPreviousConfNo start) whole seated passes = nearest-fits asked start _
rest-fits asked (call.LocalToGlobalReverse conference ceiling count) whole seated passes = refl
rest-fits asked (call.Refused code status) whole seated passes = refl
rest-fits asked call.Logout whole seated passes = logout-fits asked seated
rest-fits asked (call.DeleteConf conference) whole seated passes =
    delete_conf-fits asked conference whole seated passes
rest-fits asked (call.MarkAsRead conference locals) whole seated passes =
    mark_as_read-fits asked conference locals whole seated passes
rest-fits asked (call.DeleteText text) whole seated passes = delete_text-fits asked text whole passes
rest-fits asked (call.Disconnect session) whole seated passes = disconnect-fits asked session seated
rest-fits asked (call.Login person password invisible) whole seated passes =
    login-fits asked person password invisible seated passes
rest-fits asked (call.CreateText text) whole seated passes = new_text-fits false asked text whole seated passes
rest-fits asked (call.CreateAnonymousText text) whole seated passes = new_text-fits true asked text whole seated passes
rest-fits asked (call.CreateConf conference) whole seated passes =
    create_conf-fits asked conference whole seated passes
rest-fits asked (call.CreatePerson person) whole seated passes =
    create_person-fits asked person whole seated passes
rest-fits asked (call.ModifyTextInfo change) whole seated passes =
    modify_text_info-fits asked change passes
rest-fits asked (call.ModifyConfInfo change) whole seated passes =
    modify_conf_info-fits asked change passes
rest-fits asked (call.MarkAsUnread conference local) whole seated passes =
    mark_as_unread-fits asked conference local whole passes

pub decided-fit : DecidedFit
unfolding decision_of
decided-fit asked call whole seated =
    decided-fits asked.reference (definition_of asked call) asked.db (rest-fits asked call whole seated)

-- what a call sends tells a person of a group the same in the state without what is hidden from the group
module _ (group : Group) (asked : Asked) (viewer : Viewer) (decision : Decision) (protected : IsProtected asked.db)
    (whole : IsWhole asked.db) (in_group : IsInGroup group viewer) where
  pub sent-erased : IsSentSame viewer asked (erased_db group asked.db) decision
  sent-erased (call.ChangeName conference name) =
      conference-told group asked.db viewer conference 5 (λ row. message.NewName
      (record { conference = conference; old_name = row.name; new_name = name })) in_group
  sent-erased (call.SetPresentation conference text) =
      conference-told group asked.db viewer conference 20
      (λ row. message.NewPresentation conference row.presentation text) in_group
  sent-erased (call.SetEtcMotd conference text) =
      conference-told group asked.db viewer conference 21 (λ row. message.NewMotd conference row.motd text) in_group
  sent-erased (call.DeleteText text) = deleted-erased group asked.db viewer text protected in_group
  sent-erased (call.AddRecipient text conference tag) =
      ap (λ taken. alone (told_if taken (message.NewRecipient text conference tag)))
      (takes-erased group asked.db viewer.person conference)
  sent-erased (call.SubRecipient text conference) =
      recipient-told group asked.db viewer text conference whole in_group
  sent-erased (call.SendMessage recipient text) =
      ap₂ (λ heard sender. alone (told_if heard (message.SendMessage
      (record { recipient = recipient; sender = sender; text = text }))))
      (hears-erased group asked.db viewer.person recipient) (caller-erased group asked viewer)
  sent-erased (call.SetUserArea person text) = area-told group asked viewer person text
  sent-erased (call.CreateText given) =
      made-erased group asked.db decision.effects viewer (filter_map text_added decision.effects)
  sent-erased (call.CreateAnonymousText given) =
      made-erased group asked.db decision.effects viewer (filter_map text_added decision.effects)
  sent-erased (call.ModifyTextInfo given) =
      ap alone (aux-told group asked.db viewer given.object _ _ (items_made decision.effects) protected in_group
      (named-read group asked viewer given.object given.delete))
  sent-erased (call.AddMember conference person priority place kind) =
      ap (λ joined. told_to viewer (cond joined [] (new_membership person conference ∷ [])))
      (joined-masked (mask_of group asked.db) asked.db person conference)
  sent-erased other = refl
