-- The laws of calls, call by call: what each comes to is the same over two sets of stored rows that are alike to the
-- caller; what it sends has the numbers of its messages; and it sends nothing where it changes nothing.
use Rattle.std.proofs.Common.{◌≡◌, Bool, true, false, cond, ◌==◌, [], ◌∷◌, ◌++◌, is_some, refl, sym, ap, true≢false}
use Rattle.std.specs.Prelude.{map}
use Rattle.std.specs.List.{filter_map, AllByRecursion}
use Rattle.kom_types.specs.declared.calls.Call.{Call}
use Rattle.kom_types.specs.declared.calls.Call.TheVariants as call
use Rattle.kom_types.specs.declared.decisions.Decision.{Decision}
use Rattle.kom_types.specs.declared.effects.Effect.TheVariants as effect
use Rattle.kom_types.specs.declared.messages.Message.TheVariants as message
use Rattle.kom_types.specs.declared.seats.Seat.{Seat}
use Rattle.kom_model.specs.Db.{Db, conference_of, person_of, membership_of, text_of, recipient_of}
use Rattle.kom_model.specs.Db.{recipients_of, links_of, marks_on, items_of}
use Rattle.kom_model.specs.Decide.{decision_of, definition_of, limit_reply}
use Rattle.kom_model.specs.Messages as Messages
use Rattle.kom_model.specs.Rights.{sees}
use Rattle.kom_model.specs.ToWhom.{sent_by, left_conference, of_made, only_added, text_added, is_refused}
use Rattle.kom_model.specs.calls.Call.{Asked, outcome_of}
use Rattle.kom_model.specs.calls.Guards.{caller}
use Rattle.kom_laws.specs.Groups.{Group}
use Rattle.noninterference.specs.outputs.Answers.{ComesToSame, erased_asked}
use Rattle.noninterference.specs.outputs.Brought.{brought_to}
use Rattle.noninterference.proofs.Silent.{brings_none, some-none, append-some, append-none, map-none}
use Rattle.noninterference.proofs.Silent.{member-silent, change-silent}
use Rattle.noninterference.proofs.outputs.Alike.{IsAlikeTo, over}
use Rattle.noninterference.proofs.outputs.Numbered.{IsNumbered, numbered-if, row-numbered, map-numbered}
use Rattle.noninterference.proofs.outputs.Numbered.{pick-numbered, left-numbered}
use Rattle.noninterference.proofs.outputs.Passing.{itself}
use Rattle.noninterference.proofs.outputs.calls.AuxItems as AuxItems
use Rattle.noninterference.proofs.outputs.calls.Conferences as Conferences
use Rattle.noninterference.proofs.outputs.calls.Memberships as Memberships
use Rattle.noninterference.proofs.outputs.calls.NewTexts as NewTexts
use Rattle.noninterference.proofs.outputs.calls.Persons as Persons
use Rattle.noninterference.proofs.outputs.calls.Server as Server
use Rattle.noninterference.proofs.outputs.calls.Sessions as Sessions
use Rattle.noninterference.proofs.outputs.calls.Texts as Texts

module _ (asked : Asked) (one : Db) (alike : IsAlikeTo (caller asked) one asked.db) where
  pub comes-same : (call : Call) → ComesToSame (definition_of (over one asked) call) (definition_of asked call)
  comes-same call.Logout = Sessions.logout-same asked one alike
  comes-same (call.ChangeConference conference) = Memberships.change_conference-same asked one alike conference
  comes-same (call.ChangeName conference name) = Conferences.change_name-same asked one alike conference name
  comes-same (call.ChangeWhatIAmDoing doing) = itself _
  comes-same (call.SetPrivBits person privileges) = Persons.set_priv_bits-same asked one alike person privileges
  comes-same (call.SetPasswd change) = Persons.set_passwd-same asked one alike change
  comes-same (call.DeleteConf conference) = Conferences.delete_conf-same asked one alike conference
  comes-same (call.SubMember conference person) = Memberships.sub_member-same asked one alike conference person
  comes-same (call.SetPresentation conference text) = Conferences.set_presentation-same asked one alike conference text
  comes-same (call.SetEtcMotd conference text) = Conferences.set_etc_motd-same asked one alike conference text
  comes-same (call.SetSupervisor conference supervisor) =
      Conferences.set_supervisor-same asked one alike conference supervisor
  comes-same (call.SetPermittedSubmitters conference submitters) =
      Conferences.set_permitted_submitters-same asked one alike conference submitters
  comes-same (call.SetSuperConf conference super_conference) =
      Conferences.set_super_conf-same asked one alike conference super_conference
  comes-same (call.SetConfType conference kind) = Conferences.set_conf_type-same asked one alike conference kind
  comes-same (call.SetGarbNice conference days) = Conferences.set_garb_nice-same asked one alike conference days
  comes-same call.GetMarks = Texts.get_marks-same asked one alike
  comes-same (call.GetText text start end) = Texts.get_text-same asked one alike text start end
  comes-same (call.MarkAsRead conference locals) = Memberships.mark_as_read-same asked one alike conference locals
  comes-same (call.DeleteText text) = Texts.delete_text-same asked one alike text
  comes-same (call.AddRecipient text conference tag) = Texts.add_recipient-same asked one alike text conference tag
  comes-same (call.SubRecipient text conference) = Texts.sub_recipient-same asked one alike text conference
  comes-same (call.AddComment text parent) = Texts.add_comment-same asked one alike text parent
  comes-same (call.SubComment text parent) = Texts.sub_comment-same asked one alike text parent
  comes-same call.GetTime = itself _
  comes-same (call.AddFootnote text parent) = Texts.add_footnote-same asked one alike text parent
  comes-same (call.SubFootnote text parent) = Texts.sub_footnote-same asked one alike text parent
  comes-same (call.SetUnread conference count) = Memberships.set_unread-same asked one alike conference count
  comes-same (call.Enable level) = Sessions.enable-same asked one alike level
  comes-same call.SyncKom = Server.sync_kom-same asked one alike
  comes-same (call.ShutdownKom value) = Server.shutdown_kom-same asked one alike
  comes-same (call.GetPersonStat person) = Persons.get_person_stat-same asked one alike person
  comes-same (call.GetUnreadConfs person) = Memberships.get_unread_confs-same asked one alike person
  comes-same (call.SendMessage recipient text) = Sessions.send_message-same asked one alike recipient text
  comes-same (call.Disconnect session) = Sessions.disconnect-same asked one alike session
  comes-same call.WhoAmI = itself _
  comes-same (call.SetUserArea person text) = Persons.set_user_area-same asked one alike person text
  comes-same (call.FindNextTextNo start) = Texts.find_next-same asked one alike start
  comes-same (call.FindPreviousTextNo start) = Texts.find_previous-same asked one alike start
  comes-same (call.Login person password invisible) = Sessions.login-same asked one alike person password invisible
  comes-same (call.SetClientVersion version) = itself _
  comes-same (call.GetClientName session) = itself _
  comes-same (call.GetClientVersion session) = itself _
  comes-same (call.MarkText text kind) = Texts.mark_text-same asked one alike text kind
  comes-same (call.UnmarkText text) = Texts.unmark_text-same asked one alike text
  comes-same call.GetVersionInfo = itself _
  comes-same (call.LookupZName pattern persons conferences) =
      Conferences.lookup-same asked one alike pattern persons conferences
  comes-same (call.SetLastRead conference local) = Memberships.set_last_read-same asked one alike conference local
  comes-same (call.GetUconfStat conference) = Conferences.get_uconf_stat-same asked one alike conference
  comes-same (call.AcceptAsync numbers) = itself _
  comes-same call.QueryAsync = itself _
  comes-same call.UserActive = itself _
  comes-same (call.WhoIsOnDynamic visible invisible most) =
      Sessions.who_is_on-same asked one alike visible invisible most
  comes-same (call.GetStaticSessionInfo session) = itself _
  comes-same call.GetCollateTable = itself _
  comes-same (call.CreateText text) = NewTexts.new_text-same asked one alike false text
  comes-same (call.CreateAnonymousText text) = NewTexts.new_text-same asked one alike true text
  comes-same (call.CreateConf conference) = Conferences.create_conf-same asked one alike conference
  comes-same (call.CreatePerson person) = Persons.create_person-same asked one alike person
  comes-same (call.GetTextStat text) = Texts.get_text_stat-same asked one alike text
  comes-same (call.GetConfStat conference) = Conferences.get_conf_stat-same asked one alike conference
  comes-same (call.ModifyTextInfo change) = AuxItems.modify_text_info-same asked one alike change
  comes-same (call.ModifyConfInfo change) = AuxItems.modify_conf_info-same asked one alike change
  comes-same call.GetInfo = itself _
  comes-same call.QueryPredefinedAuxItems = itself _
  comes-same (call.SetExpire conference days) = Conferences.set_expire-same asked one alike conference days
  comes-same (call.AddMember conference person priority place kind) =
      Memberships.add_member-same asked one alike conference person priority place kind
  comes-same (call.GetMembers conference first count) =
      Memberships.get_members-same asked one alike conference first count
  comes-same (call.SetMembershipType person conference kind) =
      Memberships.set_membership_type-same asked one alike person conference kind
  comes-same (call.LocalToGlobal conference first count) =
      Texts.local_to_global-same asked one alike conference first count
  comes-same (call.MapCreatedTexts person first count) = Texts.map_created-same asked one alike person first count
  comes-same (call.SetKeepCommented conference days) =
      Conferences.set_keep_commented-same asked one alike conference days
  comes-same (call.SetPersFlags person flags) = Persons.set_pers_flags-same asked one alike person flags
  comes-same (call.QueryReadTexts person conference want_ranges most) =
      Memberships.query_read_texts-same asked one alike person conference want_ranges most
  comes-same (call.GetMembership person first count want_ranges most) =
      Memberships.get_membership-same asked one alike person first count want_ranges most
  comes-same (call.MarkAsUnread conference local) = Memberships.mark_as_unread-same asked one alike conference local
  comes-same (call.SetReadRanges conference ranges) =
      Memberships.set_read_ranges-same asked one alike conference ranges
  comes-same call.FirstUnusedConfNo = Conferences.first_unused-same asked one alike
  comes-same call.FirstUnusedTextNo = Texts.first_unused-same asked one alike
  comes-same (call.FindNextConfNo number) = Conferences.find_next-same asked one alike number
  comes-same (call.FindPreviousConfNo number) = Conferences.find_previous-same asked one alike number
  comes-same (call.LocalToGlobalReverse conference ceiling count) =
      Texts.local_to_global_reverse-same asked one alike conference ceiling count
  comes-same (call.Refused code status) = itself _

-- what a call sends has the numbers of its messages
pub sent-numbered : (asked : Asked) (decision : Decision) (call : Call) →
    AllByRecursion IsNumbered (sent_by asked decision call)
sent-numbered asked decision (call.ChangeName conference name) = row-numbered _ (λ row. record {
  tells = λ viewer what. numbered-if (sees asked.db viewer conference) _ what;
}) (conference_of asked.db conference)
sent-numbered asked decision (call.DeleteConf conference) = pick-numbered left_conference left-numbered decision.effects
sent-numbered asked decision (call.SubMember conference person) =
    pick-numbered left_conference left-numbered decision.effects
sent-numbered asked decision (call.SetPresentation conference text) = row-numbered _ (λ row. record {
  tells = λ viewer what. numbered-if (sees asked.db viewer conference) _ what;
}) (conference_of asked.db conference)
sent-numbered asked decision (call.SetEtcMotd conference text) = row-numbered _ (λ row. record {
  tells = λ viewer what. numbered-if (sees asked.db viewer conference) _ what;
}) (conference_of asked.db conference)
sent-numbered asked decision (call.DeleteText text) = row-numbered _ (λ row. record {
  tells = λ viewer what. numbered-if (Messages.gets_text asked.db viewer row.number) _ what;
}) (text_of asked.db text)
sent-numbered asked decision (call.AddRecipient text conference tag) = (
  record {
    tells = λ viewer what. numbered-if (Messages.takes asked.db viewer.person conference) _ what;
  },
  tt,
)
sent-numbered asked decision (call.SubRecipient text conference) = row-numbered _ (λ row. record {
  tells = λ viewer what. numbered-if (Messages.takes asked.db viewer.person conference) _ what;
}) (recipient_of asked.db text conference)
sent-numbered asked decision call.SyncKom = (
  record {
    tells = λ viewer what. numbered-if true message.SyncDatabase what;
  },
  tt,
)
sent-numbered asked decision (call.SendMessage recipient text) = (
  record {
    tells = λ viewer what. numbered-if (Messages.hears asked.db viewer.person recipient) _ what;
  },
  tt,
)
sent-numbered asked decision (call.SetUserArea person text) = row-numbered _ (λ row. record {
  tells = λ viewer what. numbered-if (viewer.person == person) _ what;
}) (person_of asked.db person)
sent-numbered asked decision (call.CreateText given) = map-numbered _ (λ row. record {
  tells = λ viewer what. numbered-if
      (Messages.gets_text (only_added decision.effects asked.db) viewer row.number) _ what;
}) (filter_map text_added decision.effects)
sent-numbered asked decision (call.CreateAnonymousText given) = map-numbered _ (λ row. record {
  tells = λ viewer what. numbered-if
      (Messages.gets_text (only_added decision.effects asked.db) viewer row.number) _ what;
}) (filter_map text_added decision.effects)
sent-numbered asked decision (call.ModifyTextInfo given) = (
  record {
    tells = λ viewer what. numbered-if _ (message.TextAuxChanged _) what;
  },
  tt,
)
sent-numbered asked decision (call.AddMember conference person priority place kind) =
    new_member (is_some (membership_of asked.db person conference)) where
      new_member : (joined : Bool) →
          AllByRecursion IsNumbered (cond joined [] (Messages.new_membership person conference ∷ []))
      new_member true = tt
      new_member false = (record { tells = λ viewer what. numbered-if (viewer.person == person) _ what }, tt)
sent-numbered asked decision other = tt

-- calls that send though they change nothing, and 80: what they come to hangs on nothing that is ever hidden
abbrev pub is_public : Call → Bool
is_public (call.AcceptAsync numbers) = true
is_public call.SyncKom = true
is_public (call.SendMessage recipient text) = true
is_public other = false

-- another call that changes nothing sends nothing
module _ (asked : Asked) (seat : Seat) where
  pub sent-silent : (what : Call) (decision : Decision) → is_public what ≡ false → decision.effects ≡ [] →
      is_refused (definition_of asked what).rest.reply ≡ false → (definition_of asked what).rest.effects ≡ [] →
      brings_none asked seat (sent_by asked decision what)
  sent-silent call.SyncKom decision other none accepted idle = absurd (true≢false other)
  sent-silent (call.SendMessage recipient text) decision other none accepted idle = absurd (true≢false other)
  sent-silent (call.ChangeName conference name) decision other none accepted idle = absurd (some-none idle)
  sent-silent (call.SetPresentation conference text) decision other none accepted idle = absurd (some-none idle)
  sent-silent (call.SetEtcMotd conference text) decision other none accepted idle = absurd (some-none idle)
  sent-silent (call.AddRecipient text conference tag) decision other none accepted idle = absurd (some-none idle)
  sent-silent (call.SubRecipient text conference) decision other none accepted idle = absurd (some-none idle)
  sent-silent (call.SetUserArea person text) decision other none accepted idle = absurd (some-none idle)
  sent-silent (call.DeleteText text) decision other none accepted idle = absurd (append-some
      (map (λ link. effect.LinkGone link.child link.parent link.footnote) (links_of asked.db text)
      ++ map (λ row. effect.RecipientGone row.text row.conference) (recipients_of asked.db text)
      ++ map (λ row. effect.MarkGone row.person row.text) (marks_on asked.db text)
      ++ map (λ item. effect.AuxGone true text item.number) (items_of asked.db true text))
      (effect.TextGone text) [] idle)
  sent-silent (call.DeleteConf conference) decision other none accepted idle =
      ap (λ effects. brought_to asked.db seat (filter_map left_conference effects)) none
  sent-silent (call.SubMember conference person) decision other none accepted idle =
      ap (λ effects. brought_to asked.db seat (filter_map left_conference effects)) none
  sent-silent (call.CreateText given) decision other none accepted idle =
      ap (λ effects. brought_to asked.db seat (of_made effects asked.db)) none
  sent-silent (call.CreateAnonymousText given) decision other none accepted idle =
      ap (λ effects. brought_to asked.db seat (of_made effects asked.db)) none
  sent-silent (call.ModifyTextInfo given) decision other none accepted idle =
      change-silent asked seat given _ _ decision.effects accepted idle
      (λ none. map-none (λ number. effect.AuxGone true given.object number) given.delete (append-none _ _ none)) none
  sent-silent (call.AddMember conference person priority place kind) decision other none accepted idle =
      member-silent asked seat person conference priority place kind (membership_of asked.db person conference) idle
  sent-silent what decision other none accepted idle = refl

-- these come to the same whatever is hidden
module _ (group : Group) (asked : Asked) where
  pub public-decided : (what : Call) → is_public what ≡ true →
      decision_of (erased_asked group asked) what ≡ decision_of asked what
  unfolding decision_of
  public-decided (call.AcceptAsync numbers) public = refl
  public-decided call.SyncKom public = rw (Sessions.caller-erased group asked) refl
  public-decided (call.SendMessage recipient text) public =
      ap (λ definition. limit_reply asked.reference (outcome_of definition))
      (Sessions.message-erased group asked recipient text)
  public-decided what public = absurd (true≢false (sym public))
