-- What the making of an act on a book comes to.
use Rattle.std.specs.Prelude.{◌≡◌, ℕ, Option, Some, Result, Ok, Err}
use Rattle.kom_types.specs.declared.acts.Entry.{Entry}
use Rattle.kom_types.specs.declared.acts.Record.{Record}
use Rattle.kom_types.specs.declared.answers.NotMade.{NotMade}
use Rattle.kom_model.specs.Making.{IsMadeBy, IsNotMade}
use Rattle.kom_book.specs.Stores.{IsNotRefused, IfBoth, StoreFollows, StopFollows}
use Rattle.kom_book.specs.Books.{BookView, Stays, state_in}
use Rattle.kom_core.specs.Acts.{Held}
use Rattle.batch_log.specs.declared.errors.FlushFault.{FlushFault}
use Rattle.kom_journal.specs.Images.{Image}
use Rattle.kom_journal.specs.Journals.{JournalView}

module _ {D : Type 0} where
  -- a book with this store
  abbrev pub book_of : Held → JournalView D → Option FlushFault → BookView D
  book_of core store refused =
      record { core = core; journal = Some store; refused = refused }

  -- a book's core and store go on by this record
  pub record Advances (faults : D → ℕ) (old : BookView D) (made : Record) (new : BookView D)
      : Type 0 where
    pub unrefused : IsNotRefused made → new.refused ≡ old.refused
    pub store : IfBoth (IsNotRefused made) (λ one other.
        StoreFollows faults (state_in old) one made new.refused other) old.journal new.journal

  -- the act of the entry was made on a book, by this record; or it was not, for this, and the book
  -- means the same
  abbrev pub BookComes : (D → ℕ) → BookView D → Entry → BookView D → Result Record NotMade → Type 0
  BookComes faults old entry new (Ok made) =
      IsMadeBy (state_in old) (state_in new) entry made × Advances faults old made new
  BookComes faults old entry new (Err why) =
      Stays old new × IsNotMade (state_in old) entry.act why

-- what a stop leaves meanwhile
abbrev pub StopsCome : {D : Type 0} → (D → ℕ) → (D → ℕ → Image → Type 0) → BookView D → BookView D
    → Result Record NotMade → Type 0
StopsCome moment images_at old new (Ok made) = IfBoth (Unit {0}) (λ one other.
    StopFollows moment images_at (state_in old) one made (state_in new) other)
    old.journal new.journal
StopsCome moment images_at old new (Err why) = Unit {0}
