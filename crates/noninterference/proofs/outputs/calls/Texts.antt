-- The calls about texts come to the same over two sets of stored rows that are alike to the caller.
use Rattle.std.proofs.Common.{◌≡◌, ℕ, Bool, true, false, ◌&&◌, nat_lt, List, [], Option, Some, None, refl, ap, sym, ◌∙◌}
use Rattle.std.specs.Prelude.{map, option_map, reverse, is_some}
use Rattle.kom_types.specs.declared.errors.TheConstants as error
use Rattle.kom_types.specs.declared.replies.Reply.{Reply}
use Rattle.kom_types.specs.declared.replies.Reply.TheVariants as reply
use Rattle.kom_types.specs.declared.texts.Recipient.{Recipient}
use Rattle.kom_types.specs.declared.texts.TextLink.{TextLink}
use Rattle.kom_types.specs.declared.texts.TextRow.{TextRow}
use Rattle.kom_types.specs.declared.texts.TextStat.{TextStat}
use Rattle.kom_model.specs.Db.{Db, text_of, texts_of, recipient_of, person_of}
use Rattle.kom_model.specs.Rights.{reads}
use Rattle.kom_model.specs.Shown.{shown_stat, shows_recipient}
use Rattle.kom_model.specs.calls.Call.{Asked, answer, done_with}
use Rattle.kom_model.specs.calls.Guards.{caller, login_guard, text_guard, conference_guard}
use Rattle.kom_model.specs.calls.Texts.{author_of, body_of, get_text, text_reply, get_text_stat, gone_text, delete_text}
use Rattle.kom_model.specs.calls.Texts.{add_recipient, shows_to, sender_of, linker_of, sub_recipient, add_comment}
use Rattle.kom_model.specs.calls.Texts.{sub_comment, add_footnote, sub_footnote, mark_text, unmark_text, get_marks}
use Rattle.kom_model.specs.calls.Texts.{first_unused_text_no, first_read, nearest_text, find_next_text_no}
use Rattle.kom_model.specs.calls.Texts.{find_previous_text_no, local_to_global, local_to_global_reverse}
use Rattle.kom_model.specs.calls.Texts.{map_created_texts}
use Rattle.kom_laws.specs.masking.Masks.{blank_text}
use Rattle.kom_laws.proofs.masking.Rows.{told}
use Rattle.noninterference.specs.outputs.Answers.{ComesToSame}
use Rattle.noninterference.specs.outputs.Same.{HasSameText, HasSameConference}
use Rattle.noninterference.proofs.outputs.Alike.{IsAlikeTo, over, caller-same, there-same, read-passed, seen-passed}
use Rattle.noninterference.proofs.outputs.Passing.{itself, from-path, passing, ended, by-guard}
use Rattle.noninterference.proofs.outputs.Rows.{told-alike, told-tells, find-alike, replied-same, reverse-alike}

module _ (asked : Asked) (one : Db) (alike : IsAlikeTo (caller asked) one asked.db) where
  abbrev part : Asked
  part = over one asked

  same : caller part ≡ caller asked
  same = caller-same asked one alike

  -- all of a text that is read, and of a conference that is seen
  whole : login_guard (caller asked) ≡ None → (text : ℕ) → text_guard asked.db (caller asked) text ≡ None →
      HasSameText text one asked.db
  whole login text read = alike.text text login (read-passed asked.db (caller asked) text read)

  all : (conference : ℕ) → conference_guard asked.db (caller asked) conference ≡ None →
      HasSameConference conference one asked.db
  all conference seen = alike.conference conference (seen-passed asked.db (caller asked) conference seen)

  author-same : (text : ℕ) → author_of one text ≡ author_of asked.db text
  author-same text = ap (told 0 (λ (author : ℕ). author)) (alike.public.author text)

  body-same : (text : ℕ) → HasSameText text one asked.db → body_of one text ≡ body_of asked.db text
  body-same text read = ap (told [] (λ (row : TextRow). row.body)) read.row

  pub get_text-same : (text start end : ℕ) → ComesToSame (get_text part text start end) (get_text asked text start end)
  get_text-same text start end = simp (same, by-guard, alike.rights.reads)
      (passing refl (λ login. passing refl (λ read. rw (body-same text (whole login text read)) (itself _))))

  reply-same : login_guard (caller asked) ≡ None → (text : ℕ) → reads asked.db (caller asked) text ≡ true →
      text_reply one (caller asked) text ≡ text_reply asked.db (caller asked) text
  reply-same login text read =
      let none : Reply = reply.Refused error.NO_SUCH_TEXT text in
      let tell : TextStat → Reply = λ stat. reply.TextStat stat in
      replied-same none tell (shown_stat one (caller asked)) (shown_stat asked.db (caller asked))
      (text_of one text) (text_of asked.db text) ((alike.told login).text text read)

  pub get_text_stat-same : (text : ℕ) → ComesToSame (get_text_stat part text) (get_text_stat asked text)
  get_text_stat-same text = simp (same, by-guard, alike.rights.reads)
      (passing refl (λ login. passing refl (λ read.
      ended (ap answer (reply-same login text (read-passed asked.db (caller asked) text read))))))

  gone-same : (text : ℕ) → HasSameText text one asked.db → gone_text one text ≡ gone_text asked.db text
  gone-same text read = rw (read.links, read.recipients, alike.public.marks_on text, read.items) refl

  pub delete_text-same : (text : ℕ) → ComesToSame (delete_text part text) (delete_text asked text)
  delete_text-same text = simp (same, by-guard, alike.rights.reads, author-same, alike.rights.supervises)
      (passing refl (λ login. passing refl (λ read. passing refl (λ owned.
      ended (ap (λ effects. done_with effects []) (gone-same text (whole login text read)))))))

  pub add_recipient-same : (text conference tag : ℕ) →
      ComesToSame (add_recipient part text conference tag) (add_recipient asked text conference tag)
  add_recipient-same text conference tag = simp (same, by-guard, alike.rights.reads, alike.rights.sees)
      (passing refl (λ login. passing refl (λ read. passing refl (λ seen.
      let text_whole : HasSameText text one asked.db = whole login text read in
      let conference_all : HasSameConference conference one asked.db = all conference seen in
      rw (
        text_whole.recipient conference,
        alike.rights.may_submit conference,
        text_whole.recipients,
        conference_all.next_local,
      ) (itself _)))))

  -- a recipient of a text that is read
  shows_to-same : (text conference : ℕ) → HasSameText text one asked.db →
      shows_to one (caller asked) text conference ≡ shows_to asked.db (caller asked) text conference
  shows_to-same text conference read =
      told-tells false _ _ (λ (row : Recipient).
      ap (λ author. shows_recipient one (caller asked) author row) (author-same text)
      ∙ alike.shown.recipient (author_of asked.db text) row) (recipient_of one text conference)
      ∙ ap (told false (λ (row : Recipient). shows_recipient asked.db (caller asked) (author_of asked.db text) row))
      (read.recipient conference)

  sender-same : (text conference : ℕ) → HasSameText text one asked.db →
      sender_of one text conference ≡ sender_of asked.db text conference
  sender-same text conference read = ap (told 0 (λ (row : Recipient). row.sender)) (read.recipient conference)

  linker-same : (child parent : ℕ) (footnote : Bool) → HasSameText child one asked.db →
      linker_of one child parent footnote ≡ linker_of asked.db child parent footnote
  linker-same child parent footnote read = ap (told 0 (λ (row : TextLink). row.sender)) (read.link parent footnote)

  pub sub_recipient-same : (text conference : ℕ) →
      ComesToSame (sub_recipient part text conference) (sub_recipient asked text conference)
  sub_recipient-same text conference = simp (same, by-guard, alike.rights.reads)
      (passing refl (λ login. passing refl (λ read.
      let text_whole : HasSameText text one asked.db = whole login text read in
      rw (shows_to-same text conference text_whole) (rw (sender-same text conference text_whole)
      (simp (author-same, alike.rights.supervises) (itself _))))))

  pub add_comment-same : (child parent : ℕ) →
      ComesToSame (add_comment part child parent) (add_comment asked child parent)
  add_comment-same child parent = simp (same, by-guard, alike.rights.reads)
      (passing refl (λ login. passing refl (λ child_read. passing refl (λ parent_read.
      let child_whole : HasSameText child one asked.db = whole login child child_read in
      let parent_whole : HasSameText parent one asked.db = whole login parent parent_read in
      rw (child_whole.link parent false, parent_whole.links_into false, child_whole.links_from false) (itself _)))))

  pub sub_comment-same : (child parent : ℕ) →
      ComesToSame (sub_comment part child parent) (sub_comment asked child parent)
  sub_comment-same child parent = simp (same, by-guard, alike.rights.reads)
      (passing refl (λ login. passing refl (λ read.
      let child_whole : HasSameText child one asked.db = whole login child read in
      rw (child_whole.link parent false) (rw (linker-same child parent false child_whole)
      (simp (author-same, alike.rights.supervises) (itself _))))))

  pub add_footnote-same : (child parent : ℕ) →
      ComesToSame (add_footnote part child parent) (add_footnote asked child parent)
  add_footnote-same child parent = simp (same, by-guard, alike.rights.reads, author-same)
      (passing refl (λ login. passing refl (λ child_read. passing refl (λ parent_read.
      let child_whole : HasSameText child one asked.db = whole login child child_read in
      let parent_whole : HasSameText parent one asked.db = whole login parent parent_read in
      rw (child_whole.link parent true, parent_whole.links_into true, child_whole.links_from true) (itself _)))))

  pub sub_footnote-same : (child parent : ℕ) →
      ComesToSame (sub_footnote part child parent) (sub_footnote asked child parent)
  sub_footnote-same child parent = simp (same, by-guard, alike.rights.reads, author-same)
      (passing refl (λ login. passing refl (λ read.
      let child_whole : HasSameText child one asked.db = whole login child read in
      rw (child_whole.link parent true) (itself _))))

  pub mark_text-same : (text kind : ℕ) → ComesToSame (mark_text part text kind) (mark_text asked text kind)
  mark_text-same text kind = rw same (rw (alike.rights.reads text)
      (rw (alike.public.mark (caller asked).person text, alike.public.marks (caller asked).person) (itself _)))

  pub unmark_text-same : (text : ℕ) → ComesToSame (unmark_text part text) (unmark_text asked text)
  unmark_text-same text = rw same (rw (alike.public.mark (caller asked).person text) (itself _))

  pub get_marks-same : ComesToSame (get_marks part) (get_marks asked)
  get_marks-same = rw same (rw (alike.public.marks (caller asked).person) (itself _))

  pub first_unused-same : ComesToSame (first_unused_text_no part) (first_unused_text_no asked)
  first_unused-same = rw alike.public.next_text (itself _)

  -- the nearest text that is read
  nearest-over : (start : ℕ) (found : Option TextRow) → nearest_text part start found ≡ nearest_text asked start found
  nearest-over start None = rw same refl
  nearest-over start (Some row) = rw same refl

  nearest-told : (start : ℕ) (found : Option TextRow) → nearest_text asked start found
      ≡ told (nearest_text asked start None) (λ row. nearest_text asked start (Some row)) found
  nearest-told start None = refl
  nearest-told start (Some row) = refl

  nearest-same : (start : ℕ) (found found' : Option TextRow) →
      option_map blank_text found ≡ option_map blank_text found' →
      ComesToSame (nearest_text part start found) (nearest_text asked start found')
  nearest-same start found found' same = from-path _ _ (nearest-over start found ∙ nearest-told start found
      ∙ told-alike blank_text (λ row. nearest_text asked start (Some row)) (λ row. refl)
      (nearest_text asked start None) found found' same ∙ sym (nearest-told start found'))

  first_read-same : (test : TextRow → Bool) → ((row : TextRow) → test (blank_text row) ≡ test row) →
      (ones others : List TextRow) → map blank_text ones ≡ map blank_text others →
      option_map blank_text (first_read part test ones) ≡ option_map blank_text (first_read asked test others)
  first_read-same test tests ones others rows = rw same (simp alike.rights.reads
      (find-alike blank_text (λ row. test row && reads asked.db (caller asked) row.number)
      (λ row. ap (λ b. b && reads asked.db (caller asked) row.number) (tests row)) ones others rows))

  pub find_next-same : (start : ℕ) → ComesToSame (find_next_text_no part start) (find_next_text_no asked start)
  find_next-same start = nearest-same start _ _ (first_read-same (λ row. nat_lt start row.number) (λ row. refl)
      (texts_of one) (texts_of asked.db) alike.public.texts)

  pub find_previous-same : (start : ℕ) →
      ComesToSame (find_previous_text_no part start) (find_previous_text_no asked start)
  find_previous-same start = nearest-same start _ _ (first_read-same (λ row. nat_lt row.number start) (λ row. refl)
      (reverse (texts_of one)) (reverse (texts_of asked.db))
      (reverse-alike blank_text (texts_of one) (texts_of asked.db) alike.public.texts))

  pub local_to_global-same : (conference first count : ℕ) →
      ComesToSame (local_to_global part conference first count) (local_to_global asked conference first count)
  local_to_global-same conference first count =
      simp (same, by-guard, alike.rights.sees, alike.rights.reads_conference)
      (passing refl (λ login. passing refl (λ seen.
      let conference_all : HasSameConference conference one asked.db = all conference seen in
      rw (conference_all.locals, conference_all.next_local) (itself _))))

  pub local_to_global_reverse-same : (conference ceiling count : ℕ) → ComesToSame
      (local_to_global_reverse part conference ceiling count) (local_to_global_reverse asked conference ceiling count)
  local_to_global_reverse-same conference ceiling count =
      simp (same, by-guard, alike.rights.sees, alike.rights.reads_conference)
      (passing refl (λ login. passing refl (λ seen.
      let conference_all : HasSameConference conference one asked.db = all conference seen in
      rw (conference_all.locals, conference_all.next_local) (itself _))))

  there : (person : ℕ) → is_some (person_of one person) ≡ is_some (person_of asked.db person)
  there person = there-same (caller asked) one asked.db alike person

  pub map_created-same : (person first count : ℕ) →
      ComesToSame (map_created_texts part person first count) (map_created_texts asked person first count)
  map_created-same person first count = simp (
    same,
    there,
    alike.rights.reads,
    alike.public.created,
    alike.public.next_created,
  ) (itself _)
