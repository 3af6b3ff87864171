-- What is shown next to a number: a conference that is seen, or a text that is read.
use Rattle.std.proofs.Common.{◌≡◌, ℕ, ◌<◌, Bool, true, false, not, ◌||◌, Option, Some, None}
use Rattle.std.proofs.Common.{is_some, option_map, refl}
use Rattle.row_table.specs.Tables.{row_of}
use Rattle.kom_types.specs.declared.conferences.ConferenceHead.{ConferenceHead}
use Rattle.kom_types.specs.declared.conferences.ConferenceRow.{ConferenceRow}
use Rattle.kom_types.specs.declared.texts.TextRow.{TextRow}
use Rattle.kom_types.specs.tables.Conferences.{number_of_conference, head_of, is_secret_conference}
use Rattle.kom_types.specs.tables.Texts.{number_of_text}
use Rattle.kom_model.specs.declared.viewers.Viewer.{Viewer}
use Rattle.kom_model.specs.Db.{Db, conference_of, conference_head_of, conferences_of}
use Rattle.kom_model.specs.Db.{text_of, text_author_of, texts_of}
use Rattle.kom_model.specs.Rights.{sees, is_let_in, reads, is_author, reads_by_recipient}
use Rattle.kom_model.specs.calls.Call.{Asked}
use Rattle.kom_model.specs.calls.Guards.{caller}
use Rattle.query_calls.specs.declared.nearest.Wanted.{Wanted}
use Rattle.query_calls.specs.declared.nearest.Wanted.TheVariants as wanted
use Rattle.query_calls.specs.Nearest.{shows, EndsAt, next_of, previous_of}
use Rattle.query_calls.proofs.AlongNumbers.{IsThere, next-found, next-none, previous-found, previous-none}

head_there : (tell : ConferenceHead → Bool) (found : Option ConferenceRow) →
    elim (option_map head_of found) [ None ↦ false | Some head ↦ tell head ] ≡ true → is_some found ≡ true
head_there tell None is = is
head_there tell (Some row) is = refl

author_there : (tell : ℕ → Bool) (found : Option TextRow) →
    elim (option_map (λ (row : TextRow). row.author) found) [ None ↦ false | Some author ↦ tell author ] ≡ true →
    is_some found ≡ true
author_there tell None is = is
author_there tell (Some row) is = refl

module _ (db : Db) (viewer : Viewer) (number : ℕ) where
  -- a conference that is seen is there, and so is a text that is read
  seen_there : sees db viewer number ≡ true → IsThere number_of_conference number (conferences_of db)
  unfolding sees conference_head_of conference_of conferences_of
  seen_there seen =
      head_there (λ head. not (is_secret_conference head.kind) || is_let_in db viewer number head.supervisor)
      (row_of number_of_conference number db.conferences) seen

  read_there : reads db viewer number ≡ true → IsThere number_of_text number (texts_of db)
  unfolding reads text_author_of text_of texts_of
  read_there read =
      author_there
      (λ author. viewer.strong || is_author viewer.person author || reads_by_recipient db viewer number)
      (row_of number_of_text number db.texts) read

module _ (asked : Asked) (start next : ℕ) where
  abbrev is_shown : Wanted → ℕ → Bool
  is_shown what number = shows asked.db (caller asked) what number

  pub next_found : (what : Wanted) (number : ℕ) → EndsAt asked.db what next → start < number →
      is_shown what number ≡ true → ((k : ℕ) → start < k → k < number → is_shown what k ≡ false) →
      Some number ≡ next_of asked what start
  next_found wanted.Conference number ends above shown none =
      next-found number_of_conference (sees asked.db (caller asked)) start next _ ends.1 ends.0
      (seen_there asked.db (caller asked)) number above shown none
  next_found wanted.Text number ends above shown none =
      next-found number_of_text (reads asked.db (caller asked)) start next _ ends.1 ends.0
      (read_there asked.db (caller asked)) number above shown none

  pub next_none : (what : Wanted) → EndsAt asked.db what next →
      ((k : ℕ) → start < k → k < next → is_shown what k ≡ false) → None ≡ next_of asked what start
  next_none wanted.Conference ends none =
      next-none number_of_conference (sees asked.db (caller asked)) start next _ ends.1 ends.0
      (seen_there asked.db (caller asked)) none
  next_none wanted.Text ends none =
      next-none number_of_text (reads asked.db (caller asked)) start next _ ends.1 ends.0
      (read_there asked.db (caller asked)) none

  pub previous_found : (what : Wanted) (number : ℕ) → EndsAt asked.db what next → number < start →
      is_shown what number ≡ true → ((k : ℕ) → number < k → k < start → k < next → is_shown what k ≡ false) →
      Some number ≡ previous_of asked what start
  previous_found wanted.Conference number ends under shown none =
      previous-found number_of_conference (sees asked.db (caller asked)) start next _ ends.1 ends.0
      (seen_there asked.db (caller asked)) number under shown none
  previous_found wanted.Text number ends under shown none =
      previous-found number_of_text (reads asked.db (caller asked)) start next _ ends.1 ends.0
      (read_there asked.db (caller asked)) number under shown none

  pub previous_none : (what : Wanted) → EndsAt asked.db what next →
      ((k : ℕ) → k < start → k < next → is_shown what k ≡ false) → None ≡ previous_of asked what start
  previous_none wanted.Conference ends none =
      previous-none number_of_conference (sees asked.db (caller asked)) start next _ ends.1 ends.0
      (seen_there asked.db (caller asked)) none
  previous_none wanted.Text ends none =
      previous-none number_of_text (reads asked.db (caller asked)) start next _ ends.1 ends.0
      (read_there asked.db (caller asked)) none
