-- What the calls of an opening come to.
use Rattle.std.proofs.Common.{◌≡◌, ◌+◌, inl, ℕ, Bool, IsTrue, List, ◌∷◌, ◌++◌, take, drop, ap, sym, subst, ◌∙◌, arith}
use Rattle.std.proofs.Common.{map}
use Rattle.std.specs.Prelude.{◌↔◌}
use Rattle.std.proofs.lemmas.List.{drop-drop, take-append-drop, length-map}
use Rattle.kom_model.specs.Db.{Db}
use Rattle.kom_disk.specs.Disk.{Passes, AddsNone, Only}
use Rattle.kom_disk.specs.Moments.{LeavesOnly}
use Rattle.kom_disk.proofs.Moments.{in_turn, wider}
use Rattle.batch_log.specs.Repair.{HasGate, Mends}
use Rattle.batch_log.specs.Walk.{Stays}
use Rattle.batch_log.proofs.Ends.{reads_end}
use Rattle.batch_log.proofs.Looking.{looks}
use Rattle.kom_journal.specs.Files.{IsStoreFrom, IsSoundFile, AreSoundFiles, body_of}
use Rattle.kom_journal.specs.Opened.{IsMadeOf, IsLeftOfFile, Opens, CountsBatches}
use Rattle.kom_journal.proofs.Opens.{opened_stands, mends_leave}
use Rattle.kom_journal.proofs.Stopping.{never_synced, synced_then}
use Rattle.kom_journal.proofs.Unique.{stands_for_one}

drop_one : (rest more : List ℕ) (gate : ℕ) → rest ≡ gate ∷ more → drop 1 rest ≡ more
drop_one rest more gate is = ap (drop 1) is

module _ (start : List ℕ) (from : Db) (place gate count : ℕ) (db : Db) (file : List ℕ)
    (of : IsMadeOf start from place gate count db file) where
  -- what stands after the gate
  pub rest_is : drop (place + 1) file ≡ of.more
  rest_is = sym (drop-drop 1 place file) ∙ drop_one (drop place file) of.more gate of.ends

  pub gate_is : HasGate (take place file) gate (drop (place + 1) file) file
  gate_is =
      sym (take-append-drop place file)
      ∙ ap (λ (l : List ℕ). take place file ++ l) (of.ends ∙ ap (λ (l : List ℕ). gate ∷ l) (sym rest_is))

  -- how many batches there are
  pub counts_all : CountsBatches start count file
  counts_all = record {
    bodies = map body_of of.made.lists;
    has = reads_end start (map body_of of.made.lists) place file of.made.read gate of.more of.shut of.ends;
    counts = length-map of.made.lists body_of ∙ of.made.counts;
  }

module _ {D : Type 0} (moment : D → ℕ) (images_at : D → ℕ → List ℕ → Type 0) (bytes : D → List ℕ)
    (images : D → List ℕ → Type 0) (tells : Bool) (told : IsTrue tells)
    (now : (disk : D) (image : List ℕ) → (images_at disk (moment disk) image ↔ images disk image)) where
  -- a first sync that fails
  pub sync_fails : (old new : D) (after : List ℕ → Type 0)
      → Passes tells (moment old) (moment new) (images_at old) (images_at new)
      → AddsNone (images old) (images new) → Opens moment images_at old new (images old) after
  sync_fails old new after passes adds_none =
      never_synced moment images_at images now old new (images old) after
      (looks moment images images_at tells told now old new passes adds_none)

  -- a stretch that only reads leaves what its first disk may leave
  pub read_leaves : (old new : D) → LeavesOnly moment images_at old new (Stays (images old))
      → AddsNone (images old) (images new)
  read_leaves old new stays image left =
      stays.each (moment new) image stays.forward (omega arith) ((now new image).1 left)

  module _ (start : List ℕ) (from : Db) (old mid read : D) (db : Db)
      (passes : Passes tells (moment old) (moment mid) (images_at old) (images_at mid))
      (adds_none : AddsNone (images old) (images mid)) (same_mid : bytes mid ≡ bytes old)
      (stable : Only (bytes mid) (images mid))
      (stays : LeavesOnly moment images_at mid read (Stays (images mid)))
      (stands : IsStoreFrom start from db (bytes old)) where
    after_sync : (image : List ℕ) → images mid image → IsLeftOfFile start from (bytes old) db image
    after_sync image left =
        inl (subst (IsStoreFrom start from db) (sym (stable image left ∙ same_mid)) stands)

    reads : LeavesOnly moment images_at mid read (λ at image. IsLeftOfFile start from (bytes old) db image)
    reads =
        wider moment images_at mid read (Stays (images mid))
        (λ at image. IsLeftOfFile start from (bytes old) db image) stays
        (λ at image from to left. after_sync image left)

    first : LeavesOnly moment images_at old mid (Stays (images old))
    first = looks moment images images_at tells told now old mid passes adds_none

    -- an opening that ends as it has read
    pub read_opens : Opens moment images_at old read (images old) (IsLeftOfFile start from (bytes old) db)
    read_opens =
        synced_then moment images_at images now old mid read (images old) (IsLeftOfFile start from (bytes old) db)
        first reads

    -- and one that goes on to the repair
    module _ (new : D) (place gate count : ℕ) (rows : Db) (same_read : bytes read ≡ bytes old)
        (of : IsMadeOf start from place gate count rows (bytes old)) (sound : IsSoundFile start from (bytes old))
        (mends : LeavesOnly moment images_at read new
        (Mends (take place (bytes read)) gate (drop (place + 1) (bytes read)))) where
      mended : (at : ℕ) (image : List ℕ)
          → Mends (take place (bytes read)) gate (drop (place + 1) (bytes read)) at image
          → IsSoundFile start from image × IsLeftOfFile start from (bytes old) db image
      mended at image is =
          let moved : Mends (take place (bytes old)) gate (drop (place + 1) (bytes old)) at image =
          subst (λ (b : List ℕ). Mends (take place b) gate (drop (place + 1) b) at image) same_read is in
          let there : Mends (take place (bytes old)) gate of.more at image =
          subst (λ (l : List ℕ). Mends (take place (bytes old)) gate l at image)
          (rest_is start from place gate count rows (bytes old) of) moved in
          let found = mends_leave start from place gate count rows (bytes old) of sound at image there in
          let same : rows ≡ db =
          stands_for_one start from (bytes old) rows db
          (opened_stands start from place gate count rows (bytes old) of) stands in
          (found.0, subst (λ (d : Db). IsLeftOfFile start from (bytes old) d image) same found.1)

      pub repair_opens : Opens moment images_at old new (images old) (IsLeftOfFile start from (bytes old) db)
      repair_opens =
          synced_then moment images_at images now old mid new (images old) (IsLeftOfFile start from (bytes old) db)
          first
          (in_turn moment images_at mid read new (λ at image. IsLeftOfFile start from (bytes old) db image) reads
          (wider moment images_at read new
          (Mends (take place (bytes read)) gate (drop (place + 1) (bytes read)))
          (λ at image. IsLeftOfFile start from (bytes old) db image) mends
          (λ at image from to is. (mended at image is).1)))

      pub repair_keeps : AreSoundFiles start from (images new)
      repair_keeps image left =
          (mended (moment new) image
          (mends.each (moment new) image mends.forward (omega arith) ((now new image).1 left))).0
