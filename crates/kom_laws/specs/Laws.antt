-- What a group may see and do, and what is shown to it, is the same in the state without what is
-- hidden from it.
use Rattle.std.specs.Prelude.{◌≡◌, ℕ, true, List, option_map}
use Rattle.std.specs.List.{filter_map}
use Rattle.kom_types.specs.declared.calls.Call.{Call}
use Rattle.kom_types.specs.declared.decisions.Decision.{Decision}
use Rattle.kom_types.specs.declared.memberships.MembershipRow.{MembershipRow}
use Rattle.kom_types.specs.declared.messages.Message.{Message}
use Rattle.kom_types.specs.declared.seats.Seat.{Seat}
use Rattle.kom_types.specs.declared.texts.Recipient.{Recipient}
use Rattle.kom_model.specs.declared.viewers.Viewer.{Viewer}
use Rattle.kom_model.specs.calls.Call.{Asked}
use Rattle.kom_model.specs.Db.{Db, conference_of, person_of, text_of}
use Rattle.kom_model.specs.Effects.{IsProtected}
use Rattle.kom_model.specs.Sending.{Sending}
use Rattle.kom_model.specs.ToWhom.{sent_by}
use Rattle.kom_model.specs.Viewers.{viewer_of}
use Rattle.kom_model.specs.Whole.{IsWhole}
use Rattle.kom_model.specs.Rights.{supervises, sees, reads_conference, reads, may_submit}
use Rattle.kom_model.specs.Shown.{shows_recipient, shows_membership, is_reserved, shows_reads}
use Rattle.kom_model.specs.Shown.{members_shown, memberships_shown, ranges_shown, time_shown}
use Rattle.kom_model.specs.Shown.{person_told, conference_told, shown_stat, working_shown}
use Rattle.kom_laws.specs.Groups.{Group, IsInGroup, IsOfGroup, is_unseen, is_unread}
use Rattle.kom_laws.specs.masking.Laws.{HidesMore}
use Rattle.kom_laws.specs.masking.Masks.{Mask, masked_db}
use Rattle.kom_laws.specs.Erasing.{erased_db, mask_of}

-- what who looks may see and do is the same over two sets of stored rows
pub record HasSameRights (viewer : Viewer) (one other : Db) : Type 0 where
  pub supervises : (person conference : ℕ)
      → supervises one person conference ≡ supervises other person conference
  pub sees : (conference : ℕ) → sees one viewer conference ≡ sees other viewer conference
  pub reads_conference : (conference : ℕ)
      → reads_conference one viewer conference ≡ reads_conference other viewer conference
  pub reads : (text : ℕ) → reads one viewer text ≡ reads other viewer text
  pub may_submit : (conference : ℕ)
      → may_submit one viewer conference ≡ may_submit other viewer conference

-- what is shown to who looks is the same over two sets of stored rows: all memberships and members;
-- and a conference that it sees, with what was read of it
pub record IsShownSame (viewer : Viewer) (one other : Db) : Type 0 where
  pub recipient : (author : ℕ) (row : Recipient)
      → shows_recipient one viewer author row ≡ shows_recipient other viewer author row
  pub membership : (person conference kind : ℕ) → shows_membership one viewer person conference kind
      ≡ shows_membership other viewer person conference kind
  pub reserved : (person : ℕ) → is_reserved one person ≡ is_reserved other person
  pub reads : (person : ℕ) → shows_reads one viewer person ≡ shows_reads other viewer person
  pub members : (conference : ℕ)
      → members_shown one viewer conference ≡ members_shown other viewer conference
  pub memberships : (person : ℕ)
      → memberships_shown one viewer person ≡ memberships_shown other viewer person
  pub ranges : (row : MembershipRow) → sees other viewer row.conference ≡ true
      → ranges_shown one viewer row ≡ ranges_shown other viewer row
  pub time : (row : MembershipRow) → time_shown one viewer row ≡ time_shown other viewer row
  pub conference : (number : ℕ) → sees other viewer number ≡ true
      → option_map (conference_told one viewer) (conference_of one number)
      ≡ option_map (conference_told other viewer) (conference_of other number)
  pub working : (seat : Seat) → working_shown one viewer seat ≡ working_shown other viewer seat

-- and all persons, and a text that it reads
pub record IsToldSame (viewer : Viewer) (one other : Db) : Type 0 where
  pub person : (number : ℕ) → option_map (person_told one viewer) (person_of one number)
      ≡ option_map (person_told other viewer) (person_of other number)
  pub text : (number : ℕ) → reads other viewer number ≡ true
      → option_map (shown_stat one viewer) (text_of one number)
      ≡ option_map (shown_stat other viewer) (text_of other number)

-- what messages tell who looks
abbrev pub told_to : Viewer → List Sending → List Message
told_to viewer sendings = filter_map (λ sending. sending.told viewer) sendings

-- All that a call which came to this sends tells who looks the same over two sets of stored rows.
abbrev pub IsSentSame : Viewer → Asked → Db → Decision → Type 0
IsSentSame viewer asked other decision = (call : Call)
    → told_to viewer (sent_by (record asked { db = other }) decision call)
    ≡ told_to viewer (sent_by asked decision call)

-- what is hidden from a group stays so
pub record IsHiddenSame (group : Group) (one other : Db) : Type 0 where
  pub unseen : (conference : ℕ)
      → is_unseen group one conference ≡ is_unseen group other conference
  pub unread : (text : ℕ) → is_unread group one text ≡ is_unread group other text

-- The laws of erasing: over all stored rows in which each secret conference is read-protected, and
-- for nobody and each person of a group. That what a call sends is the same wants whole rows, since
-- a membership in a conference that is not there would hear of its texts. Whatever a mask hides,
-- who looks from a seat is the same, and as strong, and the same conferences are unseen; and if it
-- hides no more than is hidden from the group, the same texts are unread.
pub record StandErased : Type 0 where
  pub rights : (group : Group) (db : Db) (viewer : Viewer) → IsProtected db
      → IsOfGroup group viewer → HasSameRights viewer (erased_db group db) db
  pub shown : (group : Group) (db : Db) (viewer : Viewer) → IsProtected db
      → IsOfGroup group viewer → IsShownSame viewer (erased_db group db) db
  pub told : (group : Group) (db : Db) (viewer : Viewer) → IsProtected db
      → IsInGroup group viewer → IsToldSame viewer (erased_db group db) db
  pub sent : (group : Group) (asked : Asked) (decision : Decision) (viewer : Viewer)
      → IsProtected asked.db → IsWhole asked.db → IsInGroup group viewer
      → IsSentSame viewer asked (erased_db group asked.db) decision
  pub viewer : (mask : Mask) (db : Db) (seat : Seat)
      → viewer_of (masked_db mask db) seat ≡ viewer_of db seat
  pub hidden : (group : Group) (db : Db) → IsProtected db
      → IsHiddenSame group (erased_db group db) db
  pub unseen : (group : Group) (mask : Mask) (db : Db) (conference : ℕ)
      → is_unseen group (masked_db mask db) conference ≡ is_unseen group db conference
  pub masked : (group : Group) (mask : Mask) (db : Db) → IsProtected db
      → HidesMore mask (mask_of group db) → IsHiddenSame group (masked_db mask db) db
