-- What the calls of a log make of what a journal keeps.
use Rattle.std.proofs.Common.{◌≡◌, ◌≢◌, ◌<◌, ◌+◌, ◌^◌, ◌↔◌, inl, inr, ℕ, Bool, true, false, IsTrue, List, [], ◌∷◌, ◌++◌}
use Rattle.std.proofs.Common.{length, take, ap, sym, subst, ◌∙◌, refl, arith}
use Rattle.std.proofs.lemmas.Bool.{cases_lt}
use Rattle.std.proofs.lemmas.List.{length-append, length-take}
use Rattle.kom_types.specs.declared.effects.Effect.{Effect}
use Rattle.kom_model.specs.Db.{Db, empty_db}
use Rattle.kom_model.specs.Effects.{apply_all, all_fit}
use Rattle.kom_disk.specs.Disk.{Only}
use Rattle.kom_disk.specs.Moments.{LeavesOnly}
use Rattle.kom_disk.proofs.Moments.{wider}
use Rattle.batch_log.specs.Batches.{batches}
use Rattle.batch_log.specs.Gates.{IsAtRest, IsStable, IsShutOrWhole, chunk_of}
use Rattle.batch_log.specs.Log.{LogView, flush_of, size_after}
use Rattle.effect_codec.specs.Coding.{coded_effect, IsInRange}
use Rattle.kom_journal.specs.Files.{IsStoreFrom, IsStoreOfEither, header, body_of}
use Rattle.kom_journal.specs.Images as store
use Rattle.kom_journal.specs.Images.{AreFor, IsKept, IsForEither}
use Rattle.kom_journal.specs.Journals.{IsStored, IsKeptWhole}
use Rattle.kom_journal.specs.Pending.{effects_in, IsSpelled}
use Rattle.kom_journal.proofs.Flushing.{StandsBefore, stands_before, flush_leaves, flush_leaves_all, stored_after}
use Rattle.kom_journal.proofs.Images.{files_for, for_on, kept_on, either_on}
use Rattle.kom_journal.proofs.Sound.{SoundFor, shut_sound, makes_none, either_of, one_of}
use Rattle.kom_journal.proofs.Spelled.{effects_of_none, spelled_none, spells_more, none_waits}

-- a store that was made: a header and a closed gate
made_stored : (bytes : List ℕ) (images : List ℕ → Type 0) → bytes ≡ header ++ 0 ∷ [] → Only bytes images
    → IsStored header 16 bytes images
made_stored bytes images is stable =
    let P : List ℕ → Type 0 = λ b. Only b images → IsStored header 16 b images in
    subst P (sym is) (λ only. record {
      at_rest = record { closed = refl; stable = only };
      bodies = [];
      read = record { whole = refl; at = refl; short = tt };
    }) stable

made_sound : (bytes : List ℕ) → bytes ≡ header ++ 0 ∷ [] → SoundFor header empty_db empty_db empty_db bytes
made_sound bytes is = shut_sound header empty_db [] empty_db (makes_none empty_db) bytes [] is

-- bytes that end with a gate at a place are one more than stand before it
pub rest_size : (place : ℕ) (bytes : List ℕ) → bytes ≡ take place bytes ++ 0 ∷ [] → length bytes ≡ place + 1
rest_size place bytes is =
    let counts : length bytes ≡ length (take place bytes) + 1 =
    ap length is ∙ length-append (take place bytes) (0 ∷ []) in
    omega (arith, counts, length-take place bytes)

-- a flush that does not answer that the store is full has a short body
pub short_of : (P : ℕ → Type 0) (place : ℕ) (body : List ℕ)
    → ((n : ℕ) → (P n ↔ ((body ≢ []) × (2 ^ 40 < n) × (n ≡ size_after place body)))) → ((n : ℕ) → P n → ⊥)
    → length body < 2 ^ 64
short_of P place [] full never = omega arith
short_of P place (byte ∷ bytes) full never =
    let size = size_after place (byte ∷ bytes) in
    elim (cases_lt (2 ^ 40) size) [
      | inl over ↦ absurd (never size ((full size).1
          ((λ (none : byte ∷ bytes ≡ []). let no : ⊥ = cc in no), over, refl)))
      | inr fits ↦ omega (arith, fits)
    ]

-- when a journal answers that
pub full_is : (P : ℕ → Type 0) (refused : Bool) (place : ℕ) (body : List ℕ) → IsSpelled body → refused ≡ false
    → ((n : ℕ) → (P n ↔ ((body ≢ []) × (2 ^ 40 < n) × (n ≡ size_after place body)))) → (n : ℕ)
    → (P n ↔ ((refused ≡ false) × (effects_in body ≢ []) × (2 ^ 40 < n)
    × (n ≡ size_after place (body_of (effects_in body)))))
full_is P refused place body spelled not full n = (
  λ (holds : P n).
      let w = (full n).0 holds in (
        not,
        λ (none : effects_in body ≡ []). w.0 (none_waits body spelled none),
        w.1,
        w.2 ∙ ap (size_after place) spelled.whole,
      ),
  λ w. (full n).1 (
    λ (none : body ≡ []). w.1 (ap effects_in none ∙ effects_of_none),
    w.2,
    w.3 ∙ ap (size_after place) (sym spelled.whole),
  ),
)

module _ {D : Type 0} (moment : D → ℕ) (images_at : D → ℕ → List ℕ → Type 0) (bytes : D → List ℕ)
    (images : D → List ℕ → Type 0) (tells : Bool) where
  -- what a journal keeps of a log
  abbrev pub Whole : Bool → LogView D → Type 0
  Whole refused log = IsKeptWhole tells refused log.place log.body (bytes log.disk) (images log.disk)

  -- of a store that was made
  pub made_whole : (disk : D) (log : LogView D) → log.disk ≡ disk → log.place ≡ 16 → log.body ≡ []
      → (IsTrue tells → IsStable (header ++ 0 ∷ []) (bytes disk) (images disk)) → Whole false log
  made_whole disk log same at empty written = record {
    spelled = subst IsSpelled (sym empty) spelled_none;
    stored = λ not told.
        let w = written told in
        let there = made_stored (bytes disk) (images disk) w.is w.stable in
        let moved : IsStored header 16 (bytes log.disk) (images log.disk) =
        subst (λ (d : D). IsStored header 16 (bytes d) (images d)) (sym same) there in
        subst (λ (n : ℕ). IsStored header n (bytes log.disk) (images log.disk)) (sym at) moved;
  }

  -- of a store that was opened
  pub opened_whole : (disk : D) (log : LogView D) (place : ℕ) → log.disk ≡ disk → log.place ≡ place → log.body ≡ []
      → (IsTrue tells → IsStored header place (bytes disk) (images disk)) → Whole false log
  opened_whole disk log place same at empty stored = record {
    spelled = subst IsSpelled (sym empty) spelled_none;
    stored = λ not told.
        let moved : IsStored header place (bytes log.disk) (images log.disk) =
        subst (λ (d : D). IsStored header place (bytes d) (images d)) (sym same) (stored told) in
        subst (λ (n : ℕ). IsStored header n (bytes log.disk) (images log.disk)) (sym at) moved;
  }

  pub made_for : (disk other : D) → other ≡ disk → IsStable (header ++ 0 ∷ []) (bytes disk) (images disk)
      → (image : List ℕ) → images other image → SoundFor header empty_db empty_db empty_db image
  made_for disk other same w image left =
      let moved : images disk image = subst (λ (d : D). images d image) same left in
      made_sound image (w.stable image moved ∙ w.is)

  -- after one effect more
  pub adds_whole : (refused : Bool) (old new : LogView D) (one : Effect)
      → new ≡ record old { body = new.body; spare = new.spare } → new.body ≡ old.body ++ coded_effect one
      → IsInRange one → Whole refused old → Whole refused new
  adds_whole refused old new one same more coded whole = record {
    spelled = subst IsSpelled (sym more) (spells_more old.body one whole.spelled coded).spelled;
    stored = λ not told.
        let P : LogView D → Type 0 = λ l. IsStored header l.place (bytes l.disk) (images l.disk) in
        subst P (sym same) (whole.stored not told);
  }

  -- after a flush
  pub flushed_whole : (refused : Bool) (old new : LogView D) → Whole refused old → length old.body < 2 ^ 64
      → new.body ≡ [] → new.place ≡ old.place + length (batches (flush_of old.body))
      → (IsTrue tells → bytes new.disk ≡ take old.place (bytes old.disk) ++ batches (flush_of old.body) ++ 0 ∷ [])
      → (IsTrue tells → IsAtRest new.place (bytes new.disk) (images new.disk)) → Whole refused new
  flushed_whole refused old new whole short empty at appended rests = record {
    spelled = subst IsSpelled (sym empty) spelled_none;
    stored = λ not told.
        let rest = subst (λ (n : ℕ). IsAtRest n (bytes new.disk) (images new.disk)) at (rests told) in
        subst (λ (n : ℕ). IsStored header n (bytes new.disk) (images new.disk)) (sym at)
        (stored_after header empty_db old.place (bytes old.disk) (images old.disk) (whole.stored not told) old.body
        (bytes new.disk) (images new.disk) short (appended told) rest);
  }

  module _ (told : IsTrue tells) (refused : Bool) (not : refused ≡ false) (old new : LogView D)
      (whole : Whole refused old) (short : length old.body < 2 ^ 64) (reads : images old.disk (bytes old.disk))
      (db : Db) (base : AreFor (store.images images old.disk) db) (fit : all_fit (effects_in old.body) db ≡ true) where
    stands : StandsBefore header empty_db db old.place (bytes old.disk)
    stands =
        stands_before header empty_db db old.place (bytes old.disk) (images old.disk) (whole.stored not told)
        (files_for old.disk images db base (bytes old.disk) reads)

    leaves : (at : ℕ) (image : List ℕ) → IsShutOrWhole (take old.place (bytes old.disk)) (chunk_of old.body) at image
        → SoundFor header empty_db db (apply_all (effects_in old.body) db) image
    leaves =
        flush_leaves header empty_db db old.place (bytes old.disk) stands (effects_in old.body) old.body
        whole.spelled.whole whole.spelled.coded fit short

    -- at any moment
    pub flush_moments :
        LeavesOnly moment images_at old.disk new.disk
        (IsShutOrWhole (take old.place (bytes old.disk)) (chunk_of old.body))
        → LeavesOnly (store.moment moment) (store.images_at images_at) old.disk new.disk
        (IsForEither db (apply_all (effects_in old.body) db))
    flush_moments any =
        either_on moment images_at old.disk new.disk db (apply_all (effects_in old.body) db)
        (wider moment images_at old.disk new.disk
        (IsShutOrWhole (take old.place (bytes old.disk)) (chunk_of old.body))
        (IsStoreOfEither header empty_db db (apply_all (effects_in old.body) db)) any
        (λ at image from to is. either_of header empty_db db (apply_all (effects_in old.body) db) image
        (leaves at image is)))

    -- each image is sound
    pub flush_kept : LeavesOnly moment images_at old.disk new.disk
        (IsShutOrWhole (take old.place (bytes old.disk)) (chunk_of old.body))
        → ((image : List ℕ) → images new.disk image → images_at new.disk (moment new.disk) image)
        → IsKept (store.images images new.disk)
    flush_kept any now =
        kept_on new.disk images (λ image left. (leaves (moment new.disk) image
        (any.each (moment new.disk) image any.forward (omega arith) (now image left))).sound)

    -- and after it
    pub flush_rows : Only (bytes new.disk) (images new.disk)
        → bytes new.disk ≡ take old.place (bytes old.disk) ++ batches (flush_of old.body) ++ 0 ∷ []
        → AreFor (store.images images new.disk) (apply_all (effects_in old.body) db)
    flush_rows stable is =
        let after : Db = apply_all (effects_in old.body) db in
        let found : SoundFor header empty_db after after (bytes new.disk) =
        flush_leaves_all header empty_db db old.place (bytes old.disk) stands (effects_in old.body) old.body
        whole.spelled.whole whole.spelled.coded fit short (bytes new.disk) is in
        for_on new.disk images after
        (λ image left. subst (IsStoreFrom header empty_db after) (sym (stable image left))
        (one_of header empty_db after (bytes new.disk) found))
