-- What the calls on texts come to fits.
use Rattle.std.proofs.Common.{◌≡◌, ℕ, Bool, true, false, not, ◌==◌, ◌||◌, ◌&&◌, [], ◌∷◌, length, Option}
use Rattle.std.proofs.Common.{Some, None, refl, arith, nat_lt, nat_le}
use Rattle.std.specs.Prelude.{is_some, is_none}
use Rattle.std.proofs.lemmas.Bool.{and_from, le-leb}
use Rattle.kom_types.specs.declared.limits.TheConstants.{LAST_DRAWN, MOST_MARKS, MOST_RECIPIENTS}
use Rattle.kom_types.specs.declared.errors.TheConstants as error
use Rattle.kom_types.specs.declared.effects.ConfField.TheVariants as field
use Rattle.kom_types.specs.declared.effects.Counter.TheVariants as counter
use Rattle.kom_types.specs.declared.effects.Effect.{Effect}
use Rattle.kom_types.specs.declared.effects.Effect.TheVariants as effect
use Rattle.kom_types.specs.declared.texts.Recipient.{Recipient}
use Rattle.kom_types.specs.tables.Conferences.{number_of_conference, with_local_drawn}
use Rattle.kom_model.specs.declared.viewers.Viewer.{Viewer}
use Rattle.kom_model.specs.Db.{Db, conference_of, text_of, recipient_of, recipients_of, next_local_of}
use Rattle.kom_model.specs.Db.{link_of}
use Rattle.kom_model.specs.Db.{links_from, links_into, mark_of, marks_of}
use Rattle.kom_model.specs.Effects.{fits, after_effect, is_recipient_tag, most_links, all_fit}
use Rattle.kom_model.specs.Shown.{shows_recipient}
use Rattle.kom_model.specs.State.{AreSeated}
use Rattle.kom_model.specs.calls.Call.{Asked}
use Rattle.kom_model.specs.calls.Guards.{caller, login_guard, text_guard, conference_guard, submit_guard, unless}
use Rattle.kom_model.specs.calls.Texts.{get_text, body_of, add_recipient, new_recipient, written_now, local_guard}
use Rattle.kom_model.specs.calls.Texts.{sub_recipient, shows_to, may_take, author_of, add_comment, sub_comment}
use Rattle.kom_model.specs.calls.Texts.{add_footnote, sub_footnote, linked_now, unlinked_guard, into_guard, from_guard}
use Rattle.kom_model.specs.calls.Texts.{linked_guard, owns_text, linker_of, made_text, mark_text, unmark_text}
use Rattle.kom_laws.proofs.fitting.Conferences.{found-set}
use Rattle.kom_laws.proofs.fitting.Guards.{one-fits, all-pass, passed, conference-there, text-there, caller-there}
use Rattle.kom_model.proofs.whole.Found.{has-changed}

-- an effect that fits, and one that fits after it
two-fit : (first second : Effect) (db : Db) → fits first db ≡ true → fits second (after_effect first db) ≡ true →
    all_fit (first ∷ second ∷ []) db ≡ true
two-fit first second db fit after = rw fit (rw after refl)

shown-recipient : (db : Db) (caller : Viewer) (text conference : ℕ) → shows_to db caller text conference ≡ true →
    is_some (recipient_of db text conference) ≡ true
shown-recipient db caller text conference is = by (recipient_of db text conference) is where
  by : (found : Option Recipient) →
      (elim found [ None ↦ false | Some row ↦ shows_recipient db caller (author_of db text) row ]) ≡ true →
      is_some found ≡ true
  by None is = is
  by (Some row) is = refl

module _ (asked : Asked) where
  pub get_text-fits : (text start end : ℕ) → AreSeated asked.db asked.seats →
      (get_text asked text start end).early ≡ None →
      all_fit (get_text asked text start end).rest.effects asked.db ≡ true
  unfolding fits
  get_text-fits text start end seated passes =
      let pass = all-pass (login_guard (caller asked) ∷ text_guard asked.db (caller asked) text
      ∷ unless (nat_le start (length (body_of asked.db text))) error.INDEX_OUT_OF_RANGE start ∷ []) passes in
      one-fits (effect.Counted (caller asked).person counter.TextFetches 1) asked.db
      (caller-there asked seated pass.0)

  -- the conference is there after a recipient is added
  written-fits : (given : Recipient) → is_some (conference_of asked.db given.conference) ≡ true →
      fits (written_now asked given.conference) (after_effect (effect.RecipientAdded given) asked.db) ≡ true
  unfolding fits after_effect conference_of
  written-fits given there = found-set asked given.conference (field.LastWritten asked.moment) (λ row. refl)
      (conference_of (after_effect (effect.RecipientAdded given) asked.db) given.conference)
      (has-changed number_of_conference (λ row. true) (with_local_drawn given.local) (λ row. refl) given.conference
      asked.db.conferences (λ row found is. refl) given.conference there)

  pub add_recipient-fits : (text conference tag : ℕ) → (add_recipient asked text conference tag).early ≡ None →
      all_fit (add_recipient asked text conference tag).rest.effects asked.db ≡ true
  unfolding fits
  add_recipient-fits text conference tag passes =
      let pass = all-pass (login_guard (caller asked) ∷ text_guard asked.db (caller asked) text
      ∷ conference_guard asked.db (caller asked) conference ∷ unless (is_recipient_tag tag) error.ILLEGAL_INFO_TYPE tag
      ∷ unless (is_none (recipient_of asked.db text conference)) error.ALREADY_RECIPIENT conference
      ∷ submit_guard asked.db (caller asked) conference
      ∷ unless (nat_lt (length (recipients_of asked.db text)) MOST_RECIPIENTS) error.RECIPIENT_LIMIT text
      ∷ local_guard asked.db conference ∷ []) passes in
      let there = conference-there asked.db (caller asked) conference pass.1.1.0 in
      let tagged = passed (is_recipient_tag tag) _ tag pass.1.1.1.0 in
      let new = passed (is_none (recipient_of asked.db text conference)) _ conference pass.1.1.1.1.0 in
      let room = passed (nat_lt (length (recipients_of asked.db text)) MOST_RECIPIENTS) _ text pass.1.1.1.1.1.1.0 in
      let left = passed (nat_le (next_local_of asked.db conference) LAST_DRAWN) _ 0 pass.1.1.1.1.1.1.1.0 in
      let next = next_local_of asked.db conference in
      let level : nat_le next next ≡ true = le-leb next next (omega arith) in
      let given : Recipient = new_recipient asked text conference tag (caller asked).person in
      two-fit (effect.RecipientAdded given) (written_now asked conference) asked.db
      (and_from _ _ (and_from _ _ (and_from _ _ (and_from _ _ (and_from _ _
      (text-there asked.db (caller asked) text pass.1.0) there) new) tagged) (and_from _ _ level left)) room)
      (written-fits given there)

  pub sub_recipient-fits : (text conference : ℕ) → (sub_recipient asked text conference).early ≡ None →
      all_fit (sub_recipient asked text conference).rest.effects asked.db ≡ true
  unfolding fits
  sub_recipient-fits text conference passes =
      let pass = all-pass (login_guard (caller asked) ∷ text_guard asked.db (caller asked) text
      ∷ unless (not (conference == 0)) error.CONFERENCE_ZERO 0
      ∷ unless (shows_to asked.db (caller asked) text conference) error.NOT_RECIPIENT conference
      ∷ unless (may_take asked.db (caller asked) text conference) error.PERMISSION_DENIED text ∷ []) passes in
      one-fits (effect.RecipientGone text conference) asked.db (shown-recipient asked.db (caller asked) text conference
      (passed (shows_to asked.db (caller asked) text conference) _ conference pass.1.1.1.0))

  -- two texts that are there and not linked so, where there is room
  linked-fits : (child parent : ℕ) (footnote : Bool) → is_some (text_of asked.db child) ≡ true →
      is_some (text_of asked.db parent) ≡ true → is_none (link_of asked.db child parent footnote) ≡ true →
      nat_lt (length (links_into asked.db parent footnote)) (most_links footnote) ≡ true →
      nat_lt (length (links_from asked.db child footnote)) (most_links footnote) ≡ true →
      all_fit (linked_now asked child parent footnote ∷ []) asked.db ≡ true
  unfolding fits
  linked-fits child parent footnote one other new into from = one-fits (linked_now asked child parent footnote) asked.db
      (and_from _ _ (and_from _ _ (and_from _ _ (and_from _ _ one other) new) from) into)

  pub add_comment-fits : (child parent : ℕ) → (add_comment asked child parent).early ≡ None →
      all_fit (add_comment asked child parent).rest.effects asked.db ≡ true
  add_comment-fits child parent passes =
      let pass = all-pass (login_guard (caller asked) ∷ text_guard asked.db (caller asked) child
      ∷ text_guard asked.db (caller asked) parent ∷ unless (not (child == parent)) error.PERMISSION_DENIED child
      ∷ unlinked_guard asked.db child parent false error.ALREADY_COMMENT
      ∷ into_guard asked.db parent false error.COMMENT_LIMIT parent
      ∷ from_guard asked.db child false error.COMMENT_LIMIT ∷ []) passes in
      linked-fits child parent false (text-there asked.db (caller asked) child pass.1.0)
      (text-there asked.db (caller asked) parent pass.1.1.0)
      (passed (is_none (link_of asked.db child parent false)) _ child pass.1.1.1.1.0)
      (passed (nat_lt (length (links_into asked.db parent false)) (most_links false)) _ parent pass.1.1.1.1.1.0)
      (passed (nat_lt (length (links_from asked.db child false)) (most_links false)) _ child pass.1.1.1.1.1.1.0)

  pub add_footnote-fits : (child parent : ℕ) → (add_footnote asked child parent).early ≡ None →
      all_fit (add_footnote asked child parent).rest.effects asked.db ≡ true
  add_footnote-fits child parent passes =
      let pass = all-pass (login_guard (caller asked) ∷ text_guard asked.db (caller asked) child
      ∷ text_guard asked.db (caller asked) parent ∷ unless (not (child == parent)) error.PERMISSION_DENIED child
      ∷ unless (made_text asked.db (caller asked) child && made_text asked.db (caller asked) parent) error.NOT_AUTHOR
      parent
      ∷ unlinked_guard asked.db child parent true error.ALREADY_FOOTNOTE
      ∷ into_guard asked.db parent true error.FOOTNOTE_LIMIT parent
      ∷ from_guard asked.db child true error.FOOTNOTE_LIMIT ∷ []) passes in
      linked-fits child parent true (text-there asked.db (caller asked) child pass.1.0)
      (text-there asked.db (caller asked) parent pass.1.1.0)
      (passed (is_none (link_of asked.db child parent true)) _ child pass.1.1.1.1.1.0)
      (passed (nat_lt (length (links_into asked.db parent true)) (most_links true)) _ parent pass.1.1.1.1.1.1.0)
      (passed (nat_lt (length (links_from asked.db child true)) (most_links true)) _ child pass.1.1.1.1.1.1.1.0)

  unlinked-fits : (child parent : ℕ) (footnote : Bool) → is_some (link_of asked.db child parent footnote) ≡ true →
      all_fit (effect.LinkGone child parent footnote ∷ []) asked.db ≡ true
  unfolding fits
  unlinked-fits child parent footnote there = one-fits (effect.LinkGone child parent footnote) asked.db there

  pub sub_comment-fits : (child parent : ℕ) → (sub_comment asked child parent).early ≡ None →
      all_fit (sub_comment asked child parent).rest.effects asked.db ≡ true
  sub_comment-fits child parent passes =
      let pass = all-pass (login_guard (caller asked) ∷ text_guard asked.db (caller asked) child
      ∷ text_guard asked.db (caller asked) parent ∷ linked_guard asked.db child parent false error.NOT_COMMENT
      ∷ unless (owns_text asked.db (caller asked) child
      || linker_of asked.db child parent false == (caller asked).person) error.PERMISSION_DENIED child ∷ []) passes in
      unlinked-fits child parent false (passed (is_some (link_of asked.db child parent false)) _ child pass.1.1.1.0)

  pub sub_footnote-fits : (child parent : ℕ) → (sub_footnote asked child parent).early ≡ None →
      all_fit (sub_footnote asked child parent).rest.effects asked.db ≡ true
  sub_footnote-fits child parent passes =
      let pass = all-pass (login_guard (caller asked) ∷ text_guard asked.db (caller asked) child
      ∷ text_guard asked.db (caller asked) parent ∷ linked_guard asked.db child parent true error.NOT_FOOTNOTE
      ∷ unless (made_text asked.db (caller asked) child || (caller asked).strong) error.PERMISSION_DENIED child ∷ [])
      passes in
      unlinked-fits child parent true (passed (is_some (link_of asked.db child parent true)) _ child pass.1.1.1.0)

  pub mark_text-fits : (text kind : ℕ) → AreSeated asked.db asked.seats → (mark_text asked text kind).early ≡ None →
      all_fit (mark_text asked text kind).rest.effects asked.db ≡ true
  unfolding fits
  mark_text-fits text kind seated passes =
      let person = (caller asked).person in
      let room : Bool = is_some (mark_of asked.db person text) || nat_lt (length
      (marks_of asked.db person)) MOST_MARKS in
      let pass = all-pass (login_guard (caller asked) ∷ text_guard asked.db (caller asked) text
      ∷ unless room error.MARK_LIMIT 0 ∷ []) passes in
      one-fits (effect.MarkSet person text kind) asked.db (and_from _ _ (and_from _ _
      (caller-there asked seated pass.0) (text-there asked.db (caller asked) text pass.1.0))
      (passed room _ 0 pass.1.1.0))

  pub unmark_text-fits : (text : ℕ) → (unmark_text asked text).early ≡ None →
      all_fit (unmark_text asked text).rest.effects asked.db ≡ true
  unfolding fits
  unmark_text-fits text passes =
      let person = (caller asked).person in
      let pass = all-pass (login_guard (caller asked) ∷ unless (not (text == 0)) error.TEXT_ZERO 0
      ∷ unless (is_some (mark_of asked.db person text)) error.NOT_MARKED text ∷ []) passes in
      one-fits (effect.MarkGone person text) asked.db
      (passed (is_some (mark_of asked.db person text)) _ text pass.1.1.0)
