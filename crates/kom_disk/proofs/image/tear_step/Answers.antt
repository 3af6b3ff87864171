use Rattle.std.proofs.Common.{ℕ, List, length, sym, subst, OnOk}
use Rattle.kom_disk.specs.Disk.{IsTorn}
use Rattle.kom_disk.specs.Steps.{LeftBy}
use Rattle.kom_disk.specs.declared.step.Step.{Step}
use Rattle.kom_disk.proofs.image.tear_step.Goals as goal

pub returns-in-Write-clause-left : goal.returns-in-Write-clause-left
returns-in-Write-clause-left c =
    let P : Step → Type 0 =
    λ s. OnOk c.tear_write.result (LeftBy s c.args.bytes.now.items c.tear_write.new.bytes.items) in
    let Q : List ℕ → Type 0 =
    λ (l : List ℕ). OnOk c.tear_write.result
    (IsTorn c.in-Write.at (length l) c.args.bytes.now.items c.tear_write.new.bytes.items) in
    subst P (sym c.in-Write.is) (subst Q c.deref.ensures.value c.tear_write.ensures.torn)

pub returns-in-Cut-clause-left : goal.returns-in-Cut-clause-left
returns-in-Cut-clause-left c =
    let P : Step → Type 0 = λ s. LeftBy s c.args.bytes.now.items c.tear_cut.new.bytes.items in
    subst P (sym c.in-Cut.is) c.tear_cut.ensures.torn
