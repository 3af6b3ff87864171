-- How a store goes on by an act.
use Rattle.std.proofs.Common.{◌≡◌, ◌≢◌, ◌<◌, ◌≤◌, ◌^◌, ◌⊎◌, inl, inr, ℕ, Bool, true, false, cond, List, [], ◌∷◌, ◌++◌}
use Rattle.std.proofs.Common.{Option, Some, None, Result, Ok, Err, refl, sym, ap, ◌∙◌, subst}
use Rattle.std.specs.Prelude.{◌↔◌}
use Rattle.std.proofs.Math.Nat.{le_refl}
use Rattle.std.proofs.lemmas.Bool.{cases_lt}
use Rattle.std.proofs.lemmas.List.{append-nil}
use Rattle.kom_types.specs.declared.acts.Act.TheVariants as act
use Rattle.kom_types.specs.declared.acts.Record.{Record}
use Rattle.kom_types.specs.declared.effects.Effect.{Effect}
use Rattle.kom_model.specs.Db.{Db}
use Rattle.kom_model.specs.Effects.{apply_all, all_fit}
use Rattle.kom_model.specs.Kept.{kept_of}
use Rattle.kom_model.specs.State.{State}
use Rattle.kom_model.specs.After.{after}
use Rattle.kom_model.specs.Refusal.{refusal_of}
use Rattle.kom_model.proofs.Kept.{kept_fits, kept_makes}
use Rattle.kom_disk.specs.Moments.{LeavesOnly}
use Rattle.kom_disk.proofs.Moments.{wider}
use Rattle.batch_log.specs.declared.errors.FlushFault.{FlushFault}
use Rattle.batch_log.specs.declared.errors.FlushFault.TheVariants as fault
use Rattle.kom_journal.specs.Images.{Image, StandsFor, AreFor, IsKept, IsForEither}
use Rattle.kom_journal.specs.Journals.{JournalView, StaysAs, size_with}
use Rattle.kom_journal.proofs.Sound.{apply_all-append, all_fit-append}
use Rattle.kom_book.specs.Stores.{IsFlush, base_after, StoreFollows}
use Rattle.kom_book.specs.Stores.{IsFlushCause, IsLeftNow, IsBase, MayLeave, StopFollows}
use Rattle.kom_book.specs.Records.{taken_is, is_of_taken, not_taken, short_taken, marked_same}
use Rattle.kom_book.specs.Records.{flush_keeps, flush_unmarked, only_closes}
use Rattle.kom_book.specs.StopLeading.{nothing_passes}

module _ {D : Type 0} (faults : D → ℕ) where
  -- an act that is no flush
  pub kept_follows : (state : State) (old new : JournalView D) (made : Record) (why : Option FlushFault) →
      (IsFlush made → ⊥) → new.pending ≡ old.pending ++ kept_of state made → StaysAs old new →
      StoreFollows faults state old made why new
  kept_follows state old new made why other pending stays = record {
    pending = pending ∙ sym (ap (λ (b : Bool). cond b [] (old.pending ++ kept_of state made)) (not_taken made other));
    unflushed = λ not. stays;
    nothing = λ none. stays.disk;
    batches = stays.batches;
    unrefused = λ long. ap faults stays.disk;
    unfailed = λ long. stays.refused;
    limited = λ is. absurd (other (taken_is made is).0);
    refused = λ is short. absurd (other is);
  }

  -- a flush that the store took
  pub taken_follows : (state : State) (old new : JournalView D) (made : Record) (why : Option FlushFault) →
      IsFlush made → made.short ≡ false → new.pending ≡ [] → (old.pending ≡ [] → new.disk ≡ old.disk) →
      new.batches ≡ old.batches → faults new.disk ≡ faults old.disk → new.refused ≡ old.refused →
      (old.pending ≡ []) ⊎ (size_with old ≤ 2 ^ 40) → StoreFollows faults state old made why new
  taken_follows state old new made why is long emptied nothing batches calm unfailed limited = record {
    pending = emptied
        ∙ sym (ap (λ (b : Bool). cond b [] (old.pending ++ kept_of state made)) (is_of_taken made is long));
    unflushed = λ not. absurd (not is);
    nothing = nothing;
    batches = batches;
    unrefused = λ so. calm;
    unfailed = λ so. unfailed;
    limited = λ taken. limited;
    refused = λ so short. absurd (let wrong : true ≡ false = sym short ∙ long in cc);
  }

  -- and one that it refused
  pub refused_follows : (state : State) (old new : JournalView D) (made : Record) (why : FlushFault) →
      IsFlush made → made.short ≡ true → new.pending ≡ old.pending → (old.pending ≡ [] → new.disk ≡ old.disk) →
      new.batches ≡ old.batches → IsFlushCause faults old new why →
      StoreFollows faults state old made (Some why) new
  refused_follows state old new made why is short same nothing batches cause = record {
    pending = same ∙ sym (append-nil old.pending)
        ∙ ap (λ (more : List Effect). old.pending ++ more) (sym (flush_keeps state made is).0)
        ∙ sym (ap (λ (b : Bool). cond b [] (old.pending ++ kept_of state made)) (short_taken made short));
    unflushed = λ not. absurd (not is);
    nothing = nothing;
    batches = batches;
    unrefused = λ so. absurd (let wrong : true ≡ false = sym short ∙ so is in cc);
    unfailed = λ so. absurd (let wrong : true ≡ false = sym short ∙ so is in cc);
    limited = λ taken. absurd (let wrong : true ≡ false = sym short ∙ (taken_is made taken).1 in cc);
    refused = λ so very. (why, refl, cause);
  }

-- ---- what a stop leaves

module _ {D : Type 0} (moment : D → ℕ) (images_at : D → ℕ → Image → Type 0) where
  pub kept_stops : (state later : State) (old new : JournalView D) (made : Record) → (IsFlush made → ⊥) →
      refusal_of state made.entry.act ≡ None → later ≡ after state made →
      new.pending ≡ old.pending ++ kept_of state made → StaysAs old new →
      StopFollows moment images_at state old made later new
  kept_stops state later old new made other possible next pending stays = record {
    base = λ base is.
        let kept : List Effect = kept_of state made in
        let same : base_after state base made ≡ base =
        ap (λ (b : Bool). cond b state.db base) (not_taken made other) in
        subst (λ (b : Db). IsBase moment images_at later new b) (sym same) (record {
          fit = subst (λ (list : List Effect). all_fit list base ≡ true) (sym pending)
              (all_fit-append old.pending kept base is.fit
              (subst (λ (db : Db). all_fit kept db ≡ true) (sym is.rows) (kept_fits state made)));
          rows = ap (λ (list : List Effect). apply_all list base) pending
              ∙ apply_all-append old.pending kept base ∙ ap (λ (db : Db). apply_all kept db) is.rows
              ∙ kept_makes state made ∙ sym (ap (λ (s : State). s.db) next);
          left = λ image left.
              elim (is.left image (subst (λ (disk : D). IsLeftNow moment images_at disk image) stays.disk left)) [
                | inl stands ↦ inl stands
                | inr both ↦ inr (
                  ap (λ (s : State). s.store_refused) next
                      ∙ marked_same state made (λ flush. absurd (other flush)) ∙ both.0,
                  subst (λ (db : Db). StandsFor db image)
                      (sym (only_closes state made both.0 possible).rows
                      ∙ sym (ap (λ (s : State). s.db) next)) both.1,
                )
              ];
        });
    any_moment = λ base is.
        subst (λ (disk : D). LeavesOnly moment images_at old.disk disk (MayLeave state made base))
        (sym stays.disk)
        (nothing_passes moment images_at old.disk (MayLeave state made base) (λ at image left.
        elim (is.left image left) [
          | inl stands ↦ inl stands
          | inr both ↦ inr (inr both.0, both.1)
        ]));
    kept = λ base is kept. subst (λ (disk : D). IsKept (IsLeftNow moment images_at disk)) (sym stays.disk) kept;
  }

  -- what a stop leaves now, in either way of saying it
  abbrev pub SaysNow : (D → Image → Type 0) → Type 0
  SaysNow images = (disk : D) (image : Image) → (images_at disk (moment disk) image ↔ images disk image)

  -- where no flush was refused a stop leaves the base
  base_alone : (images : D → Image → Type 0) → SaysNow images → (state : State) (store : JournalView D)
      (base : Db) → state.store_refused ≡ false → IsBase moment images_at state store base →
      AreFor (images store.disk) base
  base_alone images says state store base unmarked is image left =
      elim (is.left image ((says store.disk image).1 left)) [
        | inl stands ↦ stands
        | inr both ↦ absurd (let wrong : true ≡ false = sym both.0 ∙ unmarked in cc)
      ]

  kept_now : (images : D → Image → Type 0) → SaysNow images → (disk : D) →
      IsKept (IsLeftNow moment images_at disk) → IsKept (images disk)
  kept_now images says disk kept image left = kept image ((says disk image).1 left)

  as_now : (images : D → Image → Type 0) → SaysNow images → (disk : D) → IsKept (images disk) →
      IsKept (IsLeftNow moment images_at disk)
  as_now images says disk kept image left = kept image ((says disk image).0 left)

  -- what a flush of a store says
  pub record Flushes (images : D → Image → Type 0) (old new : JournalView D) : Type 0 where
    pub any_moment : (db : Db) → AreFor (images old.disk) db → all_fit old.pending db ≡ true
        → LeavesOnly moment images_at old.disk new.disk (IsForEither db (apply_all old.pending db))
    pub kept : (db : Db) → AreFor (images old.disk) db → all_fit old.pending db ≡ true
        → IsKept (images old.disk) → IsKept (images new.disk)

  flush_moments : (images : D → Image → Type 0) (old new : JournalView D) (state : State) (made : Record)
      (base : Db) → Flushes images old new → SaysNow images → IsFlush made → state.store_refused ≡ false →
      IsBase moment images_at state old base →
      LeavesOnly moment images_at old.disk new.disk (MayLeave state made base)
  flush_moments images old new state made base flushes says flush unmarked is =
      wider moment images_at old.disk new.disk (IsForEither base (apply_all old.pending base))
      (MayLeave state made base)
      (flushes.any_moment base (base_alone images says state old base unmarked is) is.fit)
      (λ at image from to left. elim left [
        | inl stands ↦ inl stands
        | inr other ↦ inr (inl flush, subst (λ (db : Db). StandsFor db image) is.rows other)
      ])

  flush_kept : (images : D → Image → Type 0) (old new : JournalView D) (state : State) (base : Db) →
      Flushes images old new → SaysNow images → state.store_refused ≡ false →
      IsBase moment images_at state old base → IsKept (IsLeftNow moment images_at old.disk) →
      IsKept (IsLeftNow moment images_at new.disk)
  flush_kept images old new state base flushes says unmarked is kept =
      as_now images says new.disk (flushes.kept base (base_alone images says state old base unmarked is) is.fit
      (kept_now images says old.disk kept))

  -- a flush that the store took
  pub taken_stops : (images : D → Image → Type 0) (state later : State) (old new : JournalView D) (made : Record) →
      SaysNow images → Flushes images old new → IsFlush made → made.short ≡ false →
      refusal_of state act.Flush ≡ None → later ≡ after state made → new.pending ≡ [] →
      ((db : Db) → AreFor (images old.disk) db → all_fit old.pending db ≡ true →
      AreFor (images new.disk) (apply_all old.pending db)) →
      StopFollows moment images_at state old made later new
  taken_stops images state later old new made says flushes flush long possible next emptied rows =
      let unmarked : state.store_refused ≡ false = flush_unmarked state possible in
      record {
        base = λ base is.
            let same : base_after state base made ≡ state.db =
            ap (λ (b : Bool). cond b state.db base) (is_of_taken made flush long) in
            subst (λ (b : Db). IsBase moment images_at later new b) (sym same) (record {
              fit = ap (λ (list : List Effect). all_fit list state.db) emptied;
              rows = ap (λ (list : List Effect). apply_all list state.db) emptied
                  ∙ sym (flush_keeps state made flush).1 ∙ sym (ap (λ (s : State). s.db) next);
              left = λ image left. inl (subst (λ (db : Db). StandsFor db image) is.rows
                  (rows base (base_alone images says state old base unmarked is) is.fit image
                  ((says new.disk image).0 left)));
            });
        any_moment = λ base is. flush_moments images old new state made base flushes says flush unmarked is;
        kept = λ base is. flush_kept images old new state base flushes says unmarked is;
      }

  -- and one that it refused
  pub refused_stops : (images : D → Image → Type 0) (state later : State) (old new : JournalView D)
      (made : Record) → SaysNow images → Flushes images old new → IsFlush made → made.short ≡ true →
      refusal_of state act.Flush ≡ None → later ≡ after state made → later.store_refused ≡ true →
      new.pending ≡ old.pending → StopFollows moment images_at state old made later new
  refused_stops images state later old new made says flushes flush short possible next marked same =
      let unmarked : state.store_refused ≡ false = flush_unmarked state possible in
      record {
        base = λ base is.
            let as_was : base_after state base made ≡ base =
            ap (λ (b : Bool). cond b state.db base) (short_taken made short) in
            let moments = flush_moments images old new state made base flushes says flush unmarked is in
            let db : later.db ≡ state.db = ap (λ (s : State). s.db) next ∙ (flush_keeps state made flush).1 in
            subst (λ (b : Db). IsBase moment images_at later new b) (sym as_was) (record {
              fit = ap (λ (list : List Effect). all_fit list base) same ∙ is.fit;
              rows = ap (λ (list : List Effect). apply_all list base) same ∙ is.rows ∙ sym db;
              left = λ image left.
                  elim (moments.each (moment new.disk) image moments.forward (le_refl (moment new.disk)) left) [
                    | inl stands ↦ inl stands
                    | inr both ↦ inr (marked, subst (λ (rows : Db). StandsFor rows image) (sym db) both.1)
                  ];
            });
        any_moment = λ base is. flush_moments images old new state made base flushes says flush unmarked is;
        kept = λ base is. flush_kept images old new state base flushes says unmarked is;
      }

-- a store that takes a flush has nothing to append, or stays within its limit
pub within_limit : {D : Type 0} (store : JournalView D) (result : Result Unit FlushFault) → store.refused ≡ false →
    ((n : ℕ) → (result ≡ Err (fault.Full n)) ↔ ((store.refused ≡ false) × (store.pending ≢ []) × (2 ^ 40 < n)
    × (n ≡ size_with store))) → result ≡ Ok tt → (store.pending ≡ []) ⊎ (size_with store ≤ 2 ^ 40)
within_limit store result calm full ok = elim (cases_lt (2 ^ 40) (size_with store)) [
  | inr within ↦ inr within
  | inl beyond ↦ go store.pending (λ some. (full (size_with store)).1 (calm, some, beyond, refl))
]
  where
    go : (pending : List Effect) → (pending ≢ [] → result ≡ Err (fault.Full (size_with store))) →
        (pending ≡ []) ⊎ (size_with store ≤ 2 ^ 40)
    go [] refused = inl refl
    go (one ∷ more) refused =
        absurd (let wrong : ◌≡◌ {A = Result Unit FlushFault} (Ok tt) (Err (fault.Full (size_with store))) =
        sym ok ∙ refused (λ none. cc) in cc)
