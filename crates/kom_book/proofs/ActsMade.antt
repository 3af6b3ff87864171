-- What the making of an act comes to, beside its store or without one.
use Rattle.std.proofs.Common.{◌≡◌, inl, inr, ℕ, false, List, [], ◌++◌, Option}
use Rattle.std.proofs.Common.{Some, None, Result, Ok, Err, refl, sym, ap, ◌∙◌, subst}
use Rattle.std.specs.Prelude.{is_some, IfSome}
use Rattle.std.proofs.lemmas.List.{append-nil}
use Rattle.kom_types.specs.declared.acts.Act.TheVariants as act
use Rattle.kom_types.specs.declared.acts.Entry.{Entry}
use Rattle.kom_types.specs.declared.acts.Record.{Record}
use Rattle.kom_types.specs.declared.answers.NotMade.{NotMade}
use Rattle.kom_types.specs.declared.effects.Effect.{Effect}
use Rattle.kom_model.specs.Kept.{kept_of}
use Rattle.kom_model.specs.State.{State}
use Rattle.kom_core.specs.Acts.{Held, CoreComes}
use Rattle.kom_core.specs.Keeping.{kept_by}
use Rattle.kom_state.specs.Keepers.{append_pending}
use Rattle.batch_log.specs.declared.errors.FlushFault.{FlushFault}
use Rattle.kom_model.specs.Making.{IsMadeBy}
use Rattle.kom_journal.specs.Images.{Image}
use Rattle.kom_journal.specs.Journals.{JournalView, StaysAs}
use Rattle.kom_book.specs.Stores.{IsNotRefused, IfBoth, StoreStays, StoreFollows}
use Rattle.kom_book.specs.Books.{BookView, Stays, IsMarked, state_in}
use Rattle.kom_book.specs.Making.{BookComes, StopsCome, Advances, book_of}
use Rattle.kom_book.specs.Records.{refused_or_not, marked_same, marked_refused}
use Rattle.kom_book.proofs.StoreSteps.{kept_follows, kept_stops}

-- ---- without a store

-- a book of these
abbrev pub book_with : {D : Type 0} → Held → Option (JournalView D) → Option FlushFault → BookView D
book_with core journal refused = record { core = core; journal = journal; refused = refused }

module _ {D : Type 0} (faults : D → ℕ) where
  -- a book without a store
  abbrev pub unstored : Held → Option FlushFault → BookView D
  unstored core refused = record { core = core; journal = None; refused = refused }

  pub unstored_comes : (came : Result Record NotMade) (old new : Held) (refused : Option FlushFault) (entry : Entry) →
      CoreComes old.state entry new.state came →
      BookComes faults (unstored old refused) entry (unstored new refused) came
  unstored_comes (Ok made) old new refused entry comes =
      (comes.0, record { unrefused = λ long. refl; store = comes.1 })
  unstored_comes (Err why) old new refused entry comes =
      (record { state = comes.1; refused = refl; store = tt }, comes.0)

  pub unstored_stops : (moment : D → ℕ) (images_at : D → ℕ → Image → Type 0) (came : Result Record NotMade)
      (old new : Held) (refused : Option FlushFault) →
      StopsCome moment images_at (unstored old refused) (unstored new refused) came
  unstored_stops moment images_at (Ok made) old new refused = tt
  unstored_stops moment images_at (Err why) old new refused = tt

  -- ---- an act that is no flush, beside its store

  some_appended : (kept waited now : List Effect) → Some now ≡ append_pending kept (Some waited) → now ≡ waited ++ kept
  some_appended kept waited now is = cc

  pub kept_comes : (came : Result Record NotMade) (old new : Held) (one other : JournalView D)
      (refused : Option FlushFault) (entry : Entry) → (entry.act ≡ act.Flush → ⊥) →
      CoreComes old.state entry new.state came →
      Some other.pending ≡ append_pending (kept_by old.state came) (Some one.pending) → StaysAs one other →
      BookComes faults (book_of old one refused) entry (book_of new other refused) came
  kept_comes (Ok made) old new one other refused entry unflushed comes kept stays = (
    comes.0,
    record {
      unrefused = λ long. refl;
      store = kept_follows faults old.state one other made refused
          (λ is. unflushed (sym (ap (λ e. e.act) comes.0.entry_made) ∙ is))
          (some_appended (kept_of old.state made) one.pending other.pending kept) stays;
    },
  )
  kept_comes (Err why) old new one other refused entry unflushed comes kept stays = (
    record {
      state = comes.1;
      refused = refl;
      store = (stays, some_appended [] one.pending other.pending kept ∙ append-nil one.pending);
    },
    comes.0,
  )

pub kept_leaves : {D : Type 0} (moment : D → ℕ) (images_at : D → ℕ → Image → Type 0) (came : Result Record NotMade)
    (old new : Held) (one other : JournalView D) (refused : Option FlushFault) (entry : Entry) →
    (entry.act ≡ act.Flush → ⊥) → CoreComes old.state entry new.state came →
    Some other.pending ≡ append_pending (kept_by old.state came) (Some one.pending) → StaysAs one other →
    StopsCome moment images_at (book_of old one refused) (book_of new other refused) came
kept_leaves moment images_at (Ok made) old new one other refused entry unflushed comes kept stays =
    kept_stops moment images_at old.state new.state one other made
    (λ is. unflushed (sym (ap (λ e. e.act) comes.0.entry_made) ∙ is))
    comes.0.follows.possible comes.0.state
    (let is : other.pending ≡ one.pending ++ kept_of old.state made = cc in is) stays
kept_leaves moment images_at (Err why) old new one other refused entry unflushed comes kept stays = tt

-- ---- what a book keeps

module _ {D : Type 0} where
  marks_made : (faults : D → ℕ) (old new : BookView D) (entry : Entry) (made : Record) →
      IsMadeBy (state_in old) (state_in new) entry made → Advances faults old made new →
      IsMarked (state_in old).store_refused old.journal old.refused →
      (one other : Option (JournalView D)) → old.journal ≡ one → new.journal ≡ other →
      IfBoth (IsNotRefused made) (λ a b. StoreFollows faults (state_in old) a made new.refused b) one other →
      IsMarked (state_in new).store_refused new.journal new.refused
  marks_made faults old new entry made by advances kept None None was is on = record {
    marked = ap (λ (s : State). s.store_refused) by.state ∙ marked_same (state_in old) made on ∙ kept.marked
        ∙ ap is_some (sym (advances.unrefused on));
    whole = λ none. subst (λ (store : Option (JournalView D)). IfSome store (λ s. s.refused ≡ false)) (sym is) tt;
    unstored = λ none. advances.unrefused on ∙ kept.unstored was;
  }
  marks_made faults old new entry made by advances kept None (Some other) was is on = absurd on
  marks_made faults old new entry made by advances kept (Some one) None was is on = absurd on
  marks_made faults old new entry made by advances kept (Some one) (Some other) was is on =
      elim (refused_or_not made) [
        | inl refused ↦
            let why = on.refused refused.1 refused.2 in
            record {
              marked = ap (λ (s : State). s.store_refused) by.state
                  ∙ marked_refused (state_in old) made refused.0 ∙ ap is_some (sym why.1);
              whole = λ none. absurd (let wrong : None ≡ Some why.0 = sym none ∙ why.1 in cc);
              unstored = λ none. absurd (let wrong : None ≡ Some other = sym none ∙ is in cc);
            }
        | inr long ↦ record {
          marked = ap (λ (s : State). s.store_refused) by.state ∙ marked_same (state_in old) made long.1
              ∙ kept.marked ∙ ap is_some (sym (advances.unrefused long.1));
          whole = λ none.
              let calm : one.refused ≡ false =
              subst (λ (store : Option (JournalView D)). IfSome store (λ s. s.refused ≡ false)) was
              (kept.whole (sym (advances.unrefused long.1) ∙ none)) in
              subst (λ (store : Option (JournalView D)). IfSome store (λ s. s.refused ≡ false)) (sym is)
              (on.unfailed long.1 ∙ calm);
          unstored = λ none. absurd (let wrong : None ≡ Some other = sym none ∙ is in cc);
        }
      ]

  pub marks_stay : (old new : BookView D) → Stays old new →
      IsMarked (state_in old).store_refused old.journal old.refused →
      IsMarked (state_in new).store_refused new.journal new.refused
  marks_stay old new stays kept = go old.journal new.journal refl refl stays.store
    where
      go : (one other : Option (JournalView D)) → old.journal ≡ one → new.journal ≡ other →
          IfBoth (Unit {0}) StoreStays one other →
          IsMarked (state_in new).store_refused new.journal new.refused
      go None None was is same = record {
        marked = ap (λ (s : State). s.store_refused) stays.state ∙ kept.marked ∙ ap is_some (sym stays.refused);
        whole = λ none. subst (λ (store : Option (JournalView D)). IfSome store (λ s. s.refused ≡ false)) (sym is) tt;
        unstored = λ none. stays.refused ∙ kept.unstored was;
      }
      go None (Some other) was is same = absurd same
      go (Some one) None was is same = absurd same
      go (Some one) (Some other) was is same = record {
        marked = ap (λ (s : State). s.store_refused) stays.state ∙ kept.marked ∙ ap is_some (sym stays.refused);
        whole = λ none.
            let calm : one.refused ≡ false =
            subst (λ (store : Option (JournalView D)). IfSome store (λ s. s.refused ≡ false)) was
            (kept.whole (sym stays.refused ∙ none)) in
            subst (λ (store : Option (JournalView D)). IfSome store (λ s. s.refused ≡ false)) (sym is)
            (same.0.refused ∙ calm);
        unstored = λ none. absurd (let wrong : None ≡ Some other = sym none ∙ is in cc);
      }

  -- a book that comes to something keeps what it kept
  pub marks_come : (faults : D → ℕ) (came : Result Record NotMade) (old new : BookView D) (entry : Entry) →
      BookComes faults old entry new came →
      IsMarked (state_in old).store_refused old.journal old.refused →
      IsMarked (state_in new).store_refused new.journal new.refused
  marks_come faults (Ok made) old new entry comes kept =
      marks_made faults old new entry made comes.0 comes.1 kept old.journal new.journal refl refl comes.1.store
  marks_come faults (Err why) old new entry comes kept = marks_stay old new comes.0 kept
