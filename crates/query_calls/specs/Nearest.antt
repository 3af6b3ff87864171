-- The number that is nearest to one, of what the caller is shown.
use Rattle.std.specs.Prelude.{ℕ, Bool, nat_lt, reverse, Option}
use Rattle.std.specs.Option.{option_map}
use Rattle.row_table.specs.Tables.{IsByNumber}
use Rattle.kom_types.specs.tables.Conferences.{number_of_conference}
use Rattle.kom_types.specs.tables.Texts.{number_of_text}
use Rattle.kom_model.specs.declared.viewers.Viewer.{Viewer}
use Rattle.kom_model.specs.Db.{Db, conferences_of, texts_of}
use Rattle.kom_model.specs.Rights.{sees, reads}
use Rattle.kom_model.specs.calls.Call.{Asked}
use Rattle.kom_model.specs.calls.Conferences.{first_seen}
use Rattle.kom_model.specs.calls.Texts.{first_read}
use Rattle.kom_state.specs.Keeping.{AreBelow, AreTextsBelow}
use Rattle.query_calls.specs.declared.nearest.Wanted.{Wanted}
use Rattle.query_calls.specs.declared.nearest.Wanted.TheVariants as wanted

-- the conference of this number is seen, or the text read
abbrev pub shows : Db → Viewer → Wanted → ℕ → Bool
shows db viewer wanted.Conference number = sees db viewer number
shows db viewer wanted.Text number = reads db viewer number

-- the rows stand by rising number, below this one
abbrev pub EndsAt : Db → Wanted → ℕ → Type 0
EndsAt db wanted.Conference end =
    AreBelow end (conferences_of db) × IsByNumber number_of_conference (conferences_of db)
EndsAt db wanted.Text end =
    AreTextsBelow end (texts_of db) × IsByNumber number_of_text (texts_of db)

-- the first number after one, and the last before it
abbrev pub next_of : Asked → Wanted → ℕ → Option ℕ
next_of asked wanted.Conference start = option_map number_of_conference
    (first_seen asked (λ row. nat_lt start row.number) (conferences_of asked.db))
next_of asked wanted.Text start = option_map number_of_text
    (first_read asked (λ row. nat_lt start row.number) (texts_of asked.db))

abbrev pub previous_of : Asked → Wanted → ℕ → Option ℕ
previous_of asked wanted.Conference start = option_map number_of_conference
    (first_seen asked (λ row. nat_lt row.number start) (reverse (conferences_of asked.db)))
previous_of asked wanted.Text start = option_map number_of_text
    (first_read asked (λ row. nat_lt row.number start) (reverse (texts_of asked.db)))
