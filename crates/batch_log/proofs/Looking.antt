-- What a stop leaves while a disk is only read.
use Rattle.std.proofs.Common.{ℕ, Bool, IsTrue, List, arith}
use Rattle.std.specs.Prelude.{◌↔◌}
use Rattle.kom_disk.specs.Disk.{Passes, AddsNone}
use Rattle.kom_disk.specs.Moments.{LeavesOnly}
use Rattle.kom_disk.proofs.Moments.{begins, one_call, in_turn, wider}
use Rattle.batch_log.specs.Walk.{Stays}

module _ {D : Type 0} (moment : D → ℕ) (images : D → List ℕ → Type 0) (images_at : D → ℕ → List ℕ → Type 0)
    (tells : Bool) (told : IsTrue tells)
    (now : (disk : D) (image : List ℕ) → (images_at disk (moment disk) image ↔ images disk image)) where
  pub unread : (disk : D) → LeavesOnly moment images_at disk disk (Stays (images disk))
  unread disk = begins moment images_at disk (Stays (images disk)) (λ image left. (now disk image).0 left)

  pub looks : (old new : D) → Passes tells (moment old) (moment new) (images_at old) (images_at new)
      → AddsNone (images old) (images new) → LeavesOnly moment images_at old new (Stays (images old))
  looks old new passes adds_none =
      one_call moment images_at tells told old new (Stays (images old)) passes
      (λ at image left. (now old image).0 left)
      (λ at image left. adds_none image ((now new image).0 left))

  pub looks_on : (old mid new : D) → LeavesOnly moment images_at old mid (Stays (images old))
      → LeavesOnly moment images_at mid new (Stays (images mid))
      → LeavesOnly moment images_at old new (Stays (images old))
  looks_on old mid new first second =
      in_turn moment images_at old mid new (Stays (images old)) first
      (wider moment images_at mid new (Stays (images mid)) (Stays (images old)) second
      (λ at image from to left. first.each (moment mid) image first.forward (omega arith) ((now mid image).1 left)))
