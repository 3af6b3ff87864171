-- What a walk has read so far.
use Rattle.std.proofs.Common.{◌≡◌, ◌<◌, ◌≤◌, ◌+◌, ℕ, Bool, IsTrue, List, [], ◌∷◌, ◌++◌, length, take, drop, arith, ◌∙◌}
use Rattle.std.proofs.Common.{ap, subst, Some, None}
use Rattle.std.proofs.lemmas.List.{length_push}
use Rattle.kom_disk.specs.Moments.{LeavesOnly}
use Rattle.batch_log.specs.Walk.{Stays, IsReadTo, HasFirst, IsWalked, Stands}
use Rattle.batch_log.specs.declared.walks.Found.TheVariants.{Batch, End, Broken}
use Rattle.batch_log.proofs.Ends.{begins_read, reads_more, reads_broken}

-- the file is read up to here, over so many batches
abbrev pub IsPassed : ℕ → List ℕ → ℕ → ℕ → Type 0
IsPassed place file at count =
    (bodies : List (List ℕ)) × IsReadTo (take place file) bodies at file × (length bodies ≡ count)

pub record Walks {D : Type 0} (tells : Bool) (bytes : D → List ℕ) (size faults moment : D → ℕ)
    (images : D → List ℕ → Type 0) (images_at : D → ℕ → List ℕ → Type 0) (old now : D)
    (place len at count : ℕ) : Type 0 where
  pub within : at < len
  pub counted : count ≤ at
  pub same_size : size now ≡ size old
  pub same_faults : faults now ≡ faults old
  pub same_bytes : IsTrue tells → bytes now ≡ bytes old
  pub stop : IsTrue tells → LeavesOnly moment images_at old now (Stays (images old))
  pub passed : IsTrue tells → len ≡ length (bytes old) → IsPassed place (bytes old) at count

pub passed_none : (place : ℕ) (file : List ℕ) → place ≤ length file → IsPassed place file place 0
passed_none place file within = ([], begins_read place file within, omega arith)

pub passed_more : (place at count size : ℕ) (file now : List ℕ) → now ≡ file → IsPassed place file at count
    → Stands (drop at now) (Batch size) → IsPassed place file (at + (9 + size)) (count + 1)
passed_more place at count size file now same (bodies, read, counts) stands =
    let first : HasFirst size (drop at file) = subst (λ (l : List ℕ). HasFirst size (drop at l)) same stands in (
      bodies ++ first.body ∷ [],
      reads_more (take place file) bodies at file read size first,
      length_push bodies first.body ∙ ap (λ (n : ℕ). n + 1) counts,
    )

pub ended : (place at count gate : ℕ) (file now : List ℕ) → now ≡ file → IsPassed place file at count
    → Stands (drop at now) (End gate) → IsWalked (take place file) file at count (Some gate)
ended place at count gate file now same (bodies, read, counts) stands = (
  bodies,
  read,
  counts,
  stands.0,
  subst (λ (l : List ℕ). (more : List ℕ) × (drop at l ≡ gate ∷ more)) same stands.1,
)

pub broken : (place at count : ℕ) (file now : List ℕ) → now ≡ file → IsPassed place file at count
    → Stands (drop at now) Broken → IsWalked (take place file) file at count None
broken place at count file now same (bodies, read, counts) stands =
    let here = subst (λ (l : List ℕ). Stands (drop at l) Broken) same stands in
    reads_broken (take place file) bodies at file read here.0 here.1 here.2
