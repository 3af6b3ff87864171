-- What an act leaves of a book.
use Rattle.std.proofs.Common.{◌≡◌, ℕ, Bool, Option, sym, subst}
use Rattle.std.specs.Prelude.{Ok, Err, IsTrue}
use Rattle.std.specs.declared.snapshot.Snapshot.{Snapshot}
use Rattle.kom_types.specs.declared.acts.Entry.{Entry}
use Rattle.kom_types.specs.declared.acts.Record.{Record}
use Rattle.kom_types.specs.declared.answers.NotMade.{NotMade}
use Rattle.kom_model.specs.Legal.{IsByOwner}
use Rattle.kom_journal.specs.Images.{Image}
use Rattle.kom_journal.specs.Journals.{JournalView}
use Rattle.hall_desk.specs.Acts.{Comes}
use Rattle.kom_book.specs.Books.{BookView, GoesOn, Stays, state_in, record_of}
use Rattle.kom_book.specs.Making.{BookComes, StopsCome}

module _ {D : Type 0} (moment : D → ℕ) (images_at : D → ℕ → Image → Type 0) (tells : Bool) (faults : D → ℕ) where
  -- an act that was made, with the store as it left it
  pub made_comes : (made : Record) (store : Snapshot (Option (JournalView D))) (old new : BookView D)
      (entry : Entry) → IsByOwner (state_in old) entry → BookComes faults old entry new (Ok made) →
      (IsTrue tells → StopsCome moment images_at old new (Ok made)) → store.value ≡ new.journal →
      Comes (GoesOn moment images_at tells faults) Stays record_of state_in old entry new
      (Ok (record { made = made; store = store }))
  made_comes made store old new entry own comes stops ticked = (
    (
      record {
        follows = comes.0.follows;
        owned = subst (λ (entry : Entry). IsByOwner (state_in old) entry) (sym comes.0.entry_made) own;
        state = comes.0.state;
        ticked = ticked;
        unrefused = comes.1.unrefused;
        store = comes.1.store;
      },
      stops,
    ),
    comes.0,
  )

  -- one that was not made
  pub refused_comes : (why : NotMade) (old new : BookView D) (entry : Entry) →
      BookComes faults old entry new (Err why) →
      Comes (GoesOn moment images_at tells faults) Stays record_of state_in old entry new (Err why)
  refused_comes why old new entry comes = (comes.0, comes.0.state, comes.1)
