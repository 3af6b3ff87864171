-- What each message tells a person of a group is the same in the state without what is hidden from the group.
use Rattle.std.proofs.Common.{◌≡◌, ℕ, Bool, true, false, ◌==◌, ◌||◌, ◌&&◌, not, List, [], ◌∷◌, length}
use Rattle.std.proofs.Common.{Option, Some, None, refl, ap, ap₂, ◌∙◌, sym, inl, inr, true≢false, is_some}
use Rattle.std.proofs.Common.{eqb-true}
use Rattle.std.specs.Prelude.{map, option_map, IsTrue}
use Rattle.std.specs.List.{AllByRecursion, find, filter_map, list_any}
use Rattle.std.proofs.lemmas.Bool.{cases_Bool, both_ways, and_left, and_parts, or_left, or_right}
use Rattle.kom_types.specs.declared.aux_items.Adder.{Adder}
use Rattle.kom_types.specs.declared.aux_items.AuxRow.{AuxRow}
use Rattle.kom_types.specs.declared.conferences.ConferenceHead.{ConferenceHead}
use Rattle.kom_types.specs.declared.conferences.ConferenceRow.{ConferenceRow}
use Rattle.kom_types.specs.declared.messages.Message.{Message}
use Rattle.kom_types.specs.declared.messages.Message.TheVariants as message
use Rattle.kom_types.specs.declared.texts.Recipient.{Recipient}
use Rattle.kom_types.specs.declared.texts.TextRow.{TextRow}
use Rattle.row_table.specs.Tables.{row_of}
use Rattle.kom_types.specs.declared.memberships.MembershipRow.{MembershipRow}
use Rattle.kom_types.specs.tables.Conferences.{is_secret_conference, head_of, number_of_conference}
use Rattle.kom_types.specs.tables.Memberships.{is_passive, is_membership}
use Rattle.kom_model.specs.declared.viewers.Viewer.{Viewer}
use Rattle.kom_model.specs.Db.{Db, conference_of, conference_head_of, membership_of, membership_kind_of, text_of}
use Rattle.kom_model.specs.Db.{recipient_of}
use Rattle.kom_model.specs.Effects.{IsProtected}
use Rattle.kom_model.specs.Messages.{sending_of, told_if, takes, gets_text, is_heard, hears, deleted_text}
use Rattle.kom_model.specs.Messages.{sub_recipient, text_aux_changed}
use Rattle.kom_model.specs.Rights.{is_let_in, sees, reads}
use Rattle.kom_model.specs.Sending.{Sending}
use Rattle.kom_model.specs.Shown.{items_shown}
use Rattle.kom_model.specs.ToWhom.{of_deleted}
use Rattle.kom_model.specs.Whole.{IsWhole, has_conference}
use Rattle.kom_laws.specs.Groups.{Group, IsInGroup, is_unseen, is_unread}
use Rattle.kom_laws.specs.masking.Masks.{masked_conference, masked_text}
use Rattle.kom_laws.specs.Erasing.{erased_db, mask_of}
use Rattle.kom_laws.specs.Laws.{told_to}
use Rattle.kom_laws.proofs.masking.Rows.{told, told-changed}
use Rattle.kom_laws.proofs.masking.Accessors.{kind-masked, same-conference, same-text, conference-seen, recipients-read}
use Rattle.kom_laws.proofs.masking.Accessors.{recipient-seen}
use Rattle.kom_laws.proofs.Rights.{sees-masked, reads-erased, seen-by, read-by}
use Rattle.kom_laws.proofs.Told.{in-of, owns-told, stat-told}

-- what is sent of a row that may be there, and what that tells
abbrev pub of_row : {X : Type 0} → (X → Sending) → Option X → List Sending
of_row send found = elim found [ None ↦ [] | Some row ↦ send row ∷ [] ]

abbrev pub alone : Option Message → List Message
alone what = filter_map (λ what. what) (what ∷ [])

row-told : {X : Type 0} (viewer : Viewer) (send : X → Sending) (found : Option X) →
    told_to viewer (of_row send found) ≡ told [] (λ row. alone ((send row).told viewer)) found
row-told viewer send None = refl
row-told viewer send (Some row) = refl

-- the same of the row that a test finds, over rows that are changed
pub changed-told : {X : Type 0} (viewer : Viewer) (test : X → Bool) (change : X → X) (send send' : X → Sending) →
    ((row : X) → test (change row) ≡ test row) →
    ((row : X) → test row ≡ true → (send (change row)).told viewer ≡ (send' row).told viewer) → (rows : List X) →
    told_to viewer (of_row send (find test (map change rows))) ≡ told_to viewer (of_row send' (find test rows))
changed-told viewer test change send send' tests sends rows =
    row-told viewer send (find test (map change rows))
    ∙ told-changed test change [] (λ row. alone ((send row).told viewer)) (λ row. alone ((send' row).told viewer))
    tests (λ row here. ap alone (sends row here)) rows
    ∙ sym (row-told viewer send' (find test rows))

-- who takes the texts of a conference, and hears what is sent to it
pub takes-erased : (group : Group) (db : Db) (person conference : ℕ) →
    takes (erased_db group db) person conference ≡ takes db person conference
takes-erased group db person conference =
    ap (told false (λ kind. not (is_passive kind))) (kind-masked (mask_of group db) db person conference)

pub hears-erased : (group : Group) (db : Db) (person recipient : ℕ) →
    hears (erased_db group db) person recipient ≡ hears db person recipient
hears-erased group db person recipient =
    ap (λ kind. recipient == 0 || told false is_heard kind) (kind-masked (mask_of group db) db person recipient)

-- who takes the texts of a conference sees it
joined : (kind : Option ℕ) → told false (λ kind. not (is_passive kind)) kind ≡ true → is_some kind ≡ true
joined None is = absurd (true≢false (sym is))
joined (Some kind) is = refl

let_in-sees : (let_in : ConferenceHead → Bool) (head : Option ConferenceHead) → is_some head ≡ true →
    ((head : ConferenceHead) → let_in head ≡ true) →
    told false (λ head. not (is_secret_conference head.kind) || let_in head) head ≡ true
let_in-sees let_in None there all = absurd (true≢false (sym there))
let_in-sees let_in (Some head) there all = or_right _ _ (all head)

takes-sees : (db : Db) (viewer : Viewer) (conference : ℕ) → is_some (conference_head_of db conference) ≡ true →
    takes db viewer.person conference ≡ true → sees db viewer conference ≡ true
unfolding sees
takes-sees db viewer conference there is =
    let_in-sees (λ head. is_let_in db viewer conference head.supervisor) (conference_head_of db conference) there
    (λ head. or_right _ _ (or_left _ _ (or_left _ _ (joined (membership_kind_of db viewer.person conference) is))))

-- the conference of a membership is there
held-there : (conferences : List ConferenceRow) (person conference : ℕ) (rows : List MembershipRow) →
    AllByRecursion (λ row. IsTrue (has_conference conferences row.conference)) rows →
    is_some (find (is_membership person conference) rows) ≡ true → has_conference conferences conference ≡ true
held-there conferences person conference [] held there = absurd (true≢false (sym there))
held-there conferences person conference (row ∷ rows) held there =
    elim (cases_Bool (is_membership person conference row)) [
      | inl here ↦
          let same = eqb-true row.conference conference
          (and_parts (row.person == person) (row.conference == conference) here).1 in
          rw (← same) held.0
      | inr apart ↦ held-there conferences person conference rows held.1 (rw apart at there)
    ]

some-told : {X Y : Type 0} (tell : X → Y) (found : Option X) → is_some (option_map tell found) ≡ is_some found
some-told tell None = refl
some-told tell (Some row) = refl

member-there : (db : Db) (person conference : ℕ) → IsWhole db →
    is_some (membership_kind_of db person conference) ≡ true → is_some (conference_head_of db conference) ≡ true
unfolding membership_kind_of membership_of conference_head_of conference_of
member-there db person conference whole is =
    some-told head_of (row_of number_of_conference conference db.conferences)
    ∙ held-there db.conferences person conference db.memberships whole.memberships.conference_there
    (sym (some-told (λ (row : MembershipRow). row.kind) (find (is_membership person conference) db.memberships)) ∙ is)

pub takes-seen : (group : Group) (db : Db) (viewer : Viewer) (conference : ℕ) → IsWhole db → IsInGroup group viewer →
    takes db viewer.person conference ≡ true → is_unseen group db conference ≡ false
takes-seen group db viewer conference whole in_group is =
    seen-by group db viewer conference (in-of group viewer in_group) (takes-sees db viewer conference
    (member-there db viewer.person conference whole (joined (membership_kind_of db viewer.person conference) is)) is)

-- who does not read a text is told nothing of it; and who is told of a text is the same
pub unread-lost : (db : Db) (viewer : Viewer) (text : ℕ) → reads db viewer text ≡ false →
    gets_text db viewer text ≡ false
unread-lost db viewer text fails = and_left _ _ fails

gets-erased : (group : Group) (db : Db) (viewer : Viewer) (text : ℕ) → IsProtected db → IsInGroup group viewer →
    gets_text (erased_db group db) viewer text ≡ gets_text db viewer text
gets-erased group db viewer text protected in_group =
    let may : reads (erased_db group db) viewer text ≡ reads db viewer text =
    reads-erased group db viewer text protected (in-of group viewer in_group) in
    elim (cases_Bool (reads db viewer text)) [
      | inl is ↦
          let recipients = recipients-read (mask_of group db) db text (read-by group db viewer text in_group is) in
          λ i. may i && list_any (λ (row : Recipient). takes-erased group db viewer.person row.conference i)
          (recipients i)
      | inr fails ↦ unread-lost (erased_db group db) viewer text (may ∙ fails)
          ∙ sym (unread-lost db viewer text fails)
    ]

-- what is told to some is the same, if it is so where it is told
if-told : (shown shown' : Bool) (what what' : Message) → shown ≡ shown' → (shown' ≡ true → what ≡ what') →
    told_if shown what ≡ told_if shown' what'
if-told shown shown' what what' same whats = elim (cases_Bool shown') [
  | inl is ↦ rw (same, is) (ap (λ what. Some what) (whats is))
  | inr fails ↦ rw (same, fails) refl
]

-- a message of a conference, to who sees that
abbrev pub to_seers : Db → ℕ → ℕ → (ConferenceRow → Message) → ConferenceRow → Sending
to_seers db conference number tell row =
    sending_of number (λ viewer. told_if (sees db viewer conference) (tell row))

pub conference-told : (group : Group) (db : Db) (viewer : Viewer) (conference number : ℕ)
    (tell : ConferenceRow → Message) → IsInGroup group viewer →
    told_to viewer (of_row (to_seers (erased_db group db) conference number tell)
    (conference_of (erased_db group db) conference))
    ≡ told_to viewer (of_row (to_seers db conference number tell) (conference_of db conference))
unfolding conference_of
conference-told group db viewer conference number tell in_group =
    let test : ConferenceRow → Bool = λ row. row.number == conference in
    changed-told viewer test (masked_conference (mask_of group db))
    (to_seers (erased_db group db) conference number tell)
    (to_seers db conference number tell) (λ row. same-conference test (mask_of group db) row refl)
    (λ row here. if-told _ _ _ _ (sees-masked (mask_of group db) db viewer conference) (λ is. ap tell
    (conference-seen (mask_of group db) conference row here
    (seen-by group db viewer conference (in-of group viewer in_group) is)))) db.conferences

pub unread-by : (group : Group) (db : Db) (viewer : Viewer) (text : ℕ) → IsInGroup group viewer →
    is_unread group db text ≡ true → reads db viewer text ≡ false
unread-by group db viewer text in_group unread = elim (cases_Bool (reads db viewer text)) [
  | inl is ↦ absurd (both_ways (is_unread group db text) (read-by group db viewer text in_group is) unread)
  | inr fails ↦ fails
]

-- the message of a text that is deleted
row-deleted : (group : Group) (db : Db) (viewer : Viewer) (row : TextRow) → IsProtected db → IsInGroup group viewer →
    (deleted_text (erased_db group db) (masked_text (mask_of group db) row)).told viewer
    ≡ (deleted_text db row).told viewer
row-deleted group db viewer row protected in_group =
    let gets : gets_text (erased_db group db) viewer row.number ≡ gets_text db viewer row.number =
    gets-erased group db viewer row.number protected in_group in
    elim (cases_Bool (is_unread group db row.number)) [
      | inl unread ↦
          let lost : gets_text db viewer row.number ≡ false =
          unread-lost db viewer row.number (unread-by group db viewer row.number in_group unread) in
          rw unread (rw (gets, lost) refl)
      | inr read ↦ rw read (rw (gets, stat-told group db viewer row read) refl)
    ]

pub deleted-erased : (group : Group) (db : Db) (viewer : Viewer) (text : ℕ) → IsProtected db →
    IsInGroup group viewer → told_to viewer (of_deleted (erased_db group db) text) ≡ told_to viewer (of_deleted db text)
unfolding text_of
deleted-erased group db viewer text protected in_group =
    let test : TextRow → Bool = λ row. row.number == text in
    changed-told viewer test (masked_text (mask_of group db)) (deleted_text (erased_db group db)) (deleted_text db)
    (λ row. same-text test (mask_of group db) row refl)
    (λ row here. row-deleted group db viewer row protected in_group) db.texts

-- the message of a recipient that goes, to who takes the texts of the conference
abbrev to_takers : Bool → ℕ → ℕ → Option Recipient → List Message
to_takers takes text conference found =
    told [] (λ row. alone (told_if takes (message.SubRecipient text conference row.tag))) found

not-taken : (text conference : ℕ) (found : Option Recipient) → to_takers false text conference found ≡ []
not-taken text conference None = refl
not-taken text conference (Some row) = refl

pub recipient-told : (group : Group) (db : Db) (viewer : Viewer) (text conference : ℕ) → IsWhole db →
    IsInGroup group viewer →
    told_to viewer (of_row (λ row. sub_recipient (erased_db group db) text conference row.tag)
    (recipient_of (erased_db group db) text conference))
    ≡ told_to viewer (of_row (λ row. sub_recipient db text conference row.tag) (recipient_of db text conference))
recipient-told group db viewer text conference whole in_group =
    let part : Option Recipient = recipient_of (erased_db group db) text conference in
    let full : Option Recipient = recipient_of db text conference in
    let same : (taken : Bool) → takes db viewer.person conference ≡ taken →
    to_takers taken text conference part ≡ to_takers taken text conference full = λ taken. elim taken
    as (λ taken. takes db viewer.person conference ≡ taken →
    to_takers taken text conference part ≡ to_takers taken text conference full) [
      | true ↦ λ is. ap (to_takers true text conference) (recipient-seen (mask_of group db) db text conference
          (takes-seen group db viewer conference whole in_group is))
      | false ↦ λ fails. not-taken text conference part ∙ sym (not-taken text conference full)
    ] in
    row-told viewer _ part
    ∙ ap (λ taken. to_takers taken text conference part) (takes-erased group db viewer.person conference)
    ∙ same (takes db viewer.person conference) refl
    ∙ sym (row-told viewer _ full)

-- the message of items of a text, to who gets what is told of that
aux_changed-erased : (group : Group) (db : Db) (viewer : Viewer) (text : ℕ) (deleted added : List AuxRow) →
    IsProtected db → IsInGroup group viewer → (text_aux_changed (erased_db group db) text deleted added).told viewer
    ≡ (text_aux_changed db text deleted added).told viewer
aux_changed-erased group db viewer text deleted added protected in_group =
    ap₂ (λ (gets : Bool) (adder : Adder).
    let gone = items_shown adder deleted in
    let come = items_shown adder added in
    told_if (gets && not (length gone == 0 && length come == 0))
    (message.TextAuxChanged (record { text = text; deleted = gone; added = come })))
    (gets-erased group db viewer text protected in_group) (owns-told group db viewer text)

aux_changed-lost : (db : Db) (viewer : Viewer) (text : ℕ) (deleted added : List AuxRow) →
    reads db viewer text ≡ false → (text_aux_changed db text deleted added).told viewer ≡ None
aux_changed-lost db viewer text deleted added fails = rw (unread-lost db viewer text fails) refl

pub aux-told : (group : Group) (db : Db) (viewer : Viewer) (text : ℕ) (deleted deleted' added : List AuxRow) →
    IsProtected db → IsInGroup group viewer → (is_unread group db text ≡ false → deleted ≡ deleted') →
    (text_aux_changed (erased_db group db) text deleted added).told viewer
    ≡ (text_aux_changed db text deleted' added).told viewer
aux-told group db viewer text deleted deleted' added protected in_group gone =
    aux_changed-erased group db viewer text deleted added protected in_group
    ∙ elim (cases_Bool (reads db viewer text)) [
      | inl is ↦ ap (λ (deleted : List AuxRow). (text_aux_changed db text deleted added).told viewer)
          (gone (read-by group db viewer text in_group is))
      | inr fails ↦ aux_changed-lost db viewer text deleted added fails
          ∙ sym (aux_changed-lost db viewer text deleted' added fails)
    ]
