use Rattle.std.proofs.Common.{◌++◌, [], ◌∷◌, inl, ℕ, List, OnOk, take, drop, ap, ◌∙◌, subst, refl}
use Rattle.std.proofs.lemmas.List.{take_at, drop_at}
use Rattle.kom_disk.proofs.Moments.{in_turn, wider}
use Rattle.kom_disk.specs.Moments.{LeavesOnly}
use Rattle.batch_log.specs.Batches.{with_length}
use Rattle.batch_log.specs.Gates.{IsStable, IsGated}
use Rattle.store_files.specs.Heads.{head_of}
use Rattle.store_files.specs.Writing.{IsNoStore, IsNoStoreOrNew}
use Rattle.store_files.proofs.Steps.{set_or_new}
use Rattle.store_files.proofs.writing.write_rest.Goals as goal

pub returns-in_err-write_length-clause-any_moment : goal.returns-in_err-write_length-clause-any_moment
returns-in_err-write_length-clause-any_moment g c told generation snapshot is shut =
    wider g.D.Disk.moment g.D.Disk.images_at c.args.disk.now c.write_length.new.disk IsNoStore
    (IsNoStoreOrNew generation snapshot) (c.write_length.ensures.any_moment told generation shut)
    (λ at image from to none. inl none)

pub returns-clause-any_moment : goal.returns-clause-any_moment
returns-clause-any_moment g c told generation snapshot is shut =
    let start = c.args.disk.now in
    let mid = c.write_length.new.disk in
    let end = c.set_gate.new.disk in
    let rest = with_length snapshot ++ 0 ∷ [] in
    let P = IsNoStoreOrNew generation snapshot in
    let now = (c.in_ok-write_length.ensures.written told generation snapshot is).is in
    let before = ap (take 24) now ∙ take_at (head_of generation) (0 ∷ rest) 24 refl in
    let after = ap (drop 25) now ∙ drop_at (head_of generation ++ 0 ∷ []) rest 25 refl in
    let Q : List ℕ → List ℕ → Type 0 = λ l m. LeavesOnly g.D.Disk.moment g.D.Disk.images_at mid end (IsGated l m) in
    let last : LeavesOnly g.D.Disk.moment g.D.Disk.images_at mid end (IsGated (head_of generation) rest) =
    subst (λ (l : List ℕ). Q l rest) before
    (subst (λ (m : List ℕ). Q (take 24 (g.D.Disk.bytes mid)) m) after (c.set_gate.ensures.any_moment told)) in
    in_turn g.D.Disk.moment g.D.Disk.images_at start mid end P
    (wider g.D.Disk.moment g.D.Disk.images_at start mid IsNoStore P
    (c.write_length.ensures.any_moment told generation shut) (λ at image from to none. inl none))
    (wider g.D.Disk.moment g.D.Disk.images_at mid end (IsGated (head_of generation) rest) P last
    (λ at image from to is. set_or_new generation at snapshot image is))

pub returns-clause-new : goal.returns-clause-new
returns-clause-new g c told generation snapshot is shut =
    let mid = c.write_length.new.disk in
    let end = c.set_gate.new.disk in
    let rest = with_length snapshot ++ 0 ∷ [] in
    let now = (c.in_ok-write_length.ensures.written told generation snapshot is).is in
    let before = ap (take 24) now ∙ take_at (head_of generation) (0 ∷ rest) 24 refl in
    let after = ap (drop 25) now ∙ drop_at (head_of generation ++ 0 ∷ []) rest 25 refl in
    subst (λ (l : List ℕ). OnOk c.set_gate.result (IsStable l (g.D.Disk.bytes end) (g.D.Disk.images end)))
    (ap (λ (l : List ℕ). l ++ 1 ∷ drop 25 (g.D.Disk.bytes mid)) before
    ∙ ap (λ (l : List ℕ). head_of generation ++ 1 ∷ l) after)
    (c.set_gate.ensures.written told)
