-- What contracts see of a book, and how it goes on.
use Rattle.std.specs.Prelude.{◌≡◌, ℕ, Bool, false, List, [], Option, Some, None, option_map}
use Rattle.std.specs.Prelude.{IfSome, is_some, IsTrue}
use Rattle.std.specs.List.{AllByRecursion}
use Rattle.kom_model.specs.State.{State}
use Rattle.kom_model.specs.After.{MayFollow, after}
use Rattle.kom_model.specs.Legal.{IsByOwner}
use Rattle.kom_core.specs.Acts.{Held}
use Rattle.batch_log.specs.declared.errors.FlushFault.{FlushFault}
use Rattle.kom_journal.specs.Images.{Image, AreFor}
use Rattle.kom_journal.specs.Journals.{JournalView}
use Rattle.hall_desk.specs.Acts.{IsLed, IsOpening}
use Rattle.kom_book.specs.Stores.{IsNotRefused, IfBoth, StoreStays, StoreFollows, StopFollows}
use Rattle.kom_book.specs.Stores.{IsLeftNow}
pub use Rattle.kom_book.specs.Stops.{record_of}
use Rattle.kom_book.specs.Stops.{StoreLeads, StopLeads}
use Rattle.kom_book.specs.declared.ticked.Ticked.{Ticked}

-- the core; the store that keeps it, if there is one; and why that refused a flush, if it did
pub record BookView (D : Type 0) : Type 0 where
  pub core : Held
  pub journal : Option (JournalView D)
  pub refused : Option FlushFault

-- What a book keeps. Its core knows whether the store refused a flush; a store that refused none
-- has not failed, and without a store none is refused.
pub record IsMarked {D : Type 0} (store_refused : Bool) (journal : Option (JournalView D))
    (refused : Option FlushFault) : Type 0 where
  pub marked : store_refused ≡ is_some refused
  pub whole : refused ≡ None → IfSome journal (λ store. store.refused ≡ false)
  pub unstored : journal ≡ None → refused ≡ None

module _ {D : Type 0} where
  -- the server as plain rows
  abbrev pub state_in : BookView D → State
  state_in book = book.core.state

  -- the disk of the store; and how many batches that had when it was opened
  abbrev pub disk_in : BookView D → Option D
  disk_in book = option_map (λ store. store.disk) book.journal

  abbrev pub batches_in : BookView D → ℕ
  batches_in book = elim book.journal [ None ↦ 0 | Some store ↦ store.batches ]

  -- A book before its first act: nothing waits, and no flush has failed or was refused.
  pub record IsPlain (book : BookView D) : Type 0 where
    pub opening : IsOpening (state_in book)
    pub waits : IfSome book.journal (λ store. store.pending ≡ [])
    pub whole : IfSome book.journal (λ store. store.refused ≡ false)
    pub refused : book.refused ≡ None

  -- A book goes on by this entry, made by the pass of its session.
  pub record Follows (faults : D → ℕ) (old : BookView D) (entry : Ticked D) (new : BookView D)
      : Type 0 where
    pub follows : MayFollow (state_in old) entry.made
    pub owned : IsByOwner (state_in old) entry.made.entry
    pub state : state_in new ≡ after (state_in old) entry.made
    pub ticked : entry.store.value ≡ new.journal
    pub unrefused : IsNotRefused entry.made → new.refused ≡ old.refused
    pub store : IfBoth (IsNotRefused entry.made) (λ one other.
        StoreFollows faults (state_in old) one entry.made new.refused other) old.journal new.journal

  -- a book means the same
  pub record Stays (old new : BookView D) : Type 0 where
    pub state : state_in new ≡ state_in old
    pub refused : new.refused ≡ old.refused
    pub store : IfBoth (Unit {0}) StoreStays old.journal new.journal

  -- The records of a history lead here. Without a store no flush was refused.
  pub record Leads (faults : D → ℕ) (opening : BookView D) (history : List (Ticked D))
      (book : BookView D) : Type 0 where
    pub led : IsLed record_of state_in opening history book
    pub store : IfBoth (AllByRecursion (λ entry. IsNotRefused entry.made) history)
        (λ one other. IsPlain opening
        → StoreLeads faults (state_in opening) history one (state_in book) other)
        opening.journal book.journal

module _ {D : Type 0} (moment : D → ℕ) (images_at : D → ℕ → Image → Type 0) where
  -- what a stop now leaves of the store stands for the rows
  abbrev pub StandsNow : BookView D → Type 0
  StandsNow book = IfSome book.journal (λ store.
      AreFor (IsLeftNow moment images_at store.disk) (state_in book).db)

  -- what a stop leaves while a book goes on by an entry
  abbrev pub StopsFollow : BookView D → Ticked D → BookView D → Type 0
  StopsFollow old entry new = IfBoth (Unit {0}) (λ one other.
      StopFollows moment images_at (state_in old) one entry.made (state_in new) other)
      old.journal new.journal

  -- what a stop leaves since a plain opening, of which a stop leaves the rows
  abbrev pub StopsLead : BookView D → List (Ticked D) → BookView D → Type 0
  StopsLead opening history book = IfBoth (Unit {0}) (λ one other.
      IsPlain opening → StandsNow opening
      → StopLeads moment images_at (state_in opening) history one (state_in book) other)
      opening.journal book.journal

  -- How a book goes on by an entry; where its disk tells its content, with what a stop leaves.
  abbrev pub GoesOn : Bool → (D → ℕ) → BookView D → Ticked D → BookView D → Type 0
  GoesOn tells faults old entry new =
      Follows faults old entry new × (IsTrue tells → StopsFollow old entry new)

  -- where a history leads
  abbrev pub LeadsOn : Bool → (D → ℕ) → BookView D → List (Ticked D) → BookView D → Type 0
  LeadsOn tells faults opening history book =
      Leads faults opening history book × (IsTrue tells → StopsLead opening history book)
