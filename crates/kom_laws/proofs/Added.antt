-- What the messages of texts that a call makes tell who looks is the same in the state without what is hidden from a
-- group.
use mathlib.Core.Path.{fun_ext}
use Rattle.std.proofs.Common.{◌≡◌, ℕ, Bool, false, ◌||◌, ◌&&◌, List, [], ◌∷◌, Option, refl, ap, ap₂}
use Rattle.std.specs.Prelude.{map}
use Rattle.std.specs.List.{filter, list_any, cons_option}
use Rattle.kom_types.specs.declared.effects.Effect.{Effect}
use Rattle.kom_types.specs.declared.messages.Message.{Message}
use Rattle.kom_types.specs.declared.messages.Message.TheVariants as message
use Rattle.kom_types.specs.declared.texts.Recipient.{Recipient}
use Rattle.kom_types.specs.declared.texts.TextRow.{TextRow}
use Rattle.kom_types.specs.declared.texts.TextStat.{TextStat}
use Rattle.kom_model.specs.declared.text_heads.TextHead.{TextHead}
use Rattle.kom_model.specs.declared.viewers.Viewer.{Viewer}
use Rattle.kom_model.specs.Db.{Db, conference_of, conference_head_of, membership_of, membership_kind_of, text_of}
use Rattle.kom_model.specs.Db.{text_author_of, recipients_of, links_from, links_into, marks_on, items_of}
use Rattle.kom_model.specs.Messages.{told_if, gets_text, new_text}
use Rattle.kom_model.specs.Rights.{supervises, sees, reads_conference, reads, is_author}
use Rattle.kom_model.specs.Shown.{shows_recipient, recipients_shown, text_adder, text_head_of, stat_of}
use Rattle.kom_model.specs.ToWhom.{only_added}
use Rattle.kom_laws.specs.Groups.{Group}
use Rattle.kom_laws.specs.Erasing.{erased_db, mask_of}
use Rattle.kom_laws.specs.Laws.{told_to}
use Rattle.kom_laws.proofs.masking.Rows.{told}
use Rattle.kom_laws.proofs.Rights.{supervises-masked, reads_conference-masked}
use Rattle.kom_laws.proofs.Shown.{recipient-erased}
use Rattle.kom_laws.proofs.Told.{stat-same}
use Rattle.kom_laws.proofs.Messages.{takes-erased}

module _ (group : Group) (db : Db) (effects : List Effect) (viewer : Viewer) where
  -- the rows with the texts that a call makes as the only texts: without what is hidden from the group, and all
  abbrev part : Db
  part = only_added effects (erased_db group db)

  abbrev whole : Db
  whole = only_added effects db

  -- other texts change no right over a conference
  supervises-added : (person conference : ℕ) → supervises part person conference ≡ supervises whole person conference
  unfolding supervises conference_head_of conference_of membership_kind_of membership_of
  supervises-added person conference = supervises-masked (mask_of group db) db person conference

  reads_conference-added : (conference : ℕ) →
      reads_conference part viewer conference ≡ reads_conference whole viewer conference
  unfolding reads_conference conference_head_of conference_of membership_kind_of membership_of
  reads_conference-added conference = reads_conference-masked (mask_of group db) db viewer conference

  recipient-added : (author : ℕ) (row : Recipient) →
      shows_recipient part viewer author row ≡ shows_recipient whole viewer author row
  unfolding sees reads_conference conference_head_of conference_of membership_kind_of membership_of
  recipient-added author row = recipient-erased group db viewer author row

  -- who reads a text, owns it, gets what is told of it, and what that is
  reads-added : (text : ℕ) → reads part viewer text ≡ reads whole viewer text
  unfolding reads recipients_of text_author_of text_of
  reads-added text = λ i. told false (λ author. viewer.strong || is_author viewer.person author
      || list_any (λ (row : Recipient). reads_conference-added row.conference i) (recipients_of whole text))
      (text_author_of whole text)

  owns-added : (text : ℕ) → text_adder part viewer text ≡ text_adder whole viewer text
  unfolding text_author_of text_of
  owns-added text = λ i. record {
    person = viewer.person;
    owns = told viewer.strong (λ author. is_author viewer.person author
        || supervises-added viewer.person author i || viewer.strong) (text_author_of whole text);
  }

  gets-added : (text : ℕ) → gets_text part viewer text ≡ gets_text whole viewer text
  unfolding recipients_of membership_kind_of membership_of
  gets-added text = λ i. reads-added text i && list_any (λ (row : Recipient).
      takes-erased group db viewer.person row.conference i) (recipients_of whole text)

  stat-added : (head : TextHead) → stat_of part viewer head ≡ stat_of whole viewer head
  unfolding recipients_of links_from links_into marks_on items_of
  stat-added head =
      let recipients : recipients_shown part viewer head.author head.number
      ≡ recipients_shown whole viewer head.author head.number =
      ap (λ (shows : Recipient → Bool). filter shows (recipients_of whole head.number))
      (fun_ext (recipient-added head.author)) in
      stat-same part whole viewer head recipients (λ footnote. refl) (λ footnote. refl) refl
      (owns-added head.number) refl

  pub made-erased : (rows : List TextRow) → told_to viewer (map (λ row. new_text part (text_head_of row)) rows)
      ≡ told_to viewer (map (λ row. new_text whole (text_head_of row)) rows)
  made-erased [] = refl
  made-erased (row ∷ rows) =
      ap₂ (λ (first : Option Message) (others : List Message). cons_option first others)
      (ap₂ (λ (gets : Bool) (stat : TextStat). told_if gets (message.NewText row.number stat))
      (gets-added row.number) (stat-added (text_head_of row))) (made-erased rows)
