-- How a file goes on from one call to the next.
use Rattle.std.proofs.Common.{◌≡◌, ◌⊎◌, inl, inr, ℕ, Bool, List, Option, None, Some, Result, Ok, Err, refl, sym}
use Rattle.std.proofs.Common.{◌<◌, ◌^◌, ◌∙◌, ap, subst, arith}
use Rattle.kom_model.specs.Db.{Db}
use Rattle.kom_disk.specs.Faults.{Rose}
use Rattle.kom_disk.specs.Moments.{LeavesOnly}
use Rattle.kom_disk.proofs.Moments.{in_turn, wider}
use Rattle.store_files.specs.Writing.{SnapshotView, IsNoStore, IsNoStoreOrNew, StaysBeside}
use Rattle.store_files.specs.declared.choices.Choice.{Choice}
use Rattle.store_snapshots.specs.Coders.{FileGoesOn, FileComes, FileBecomes}
use Rattle.store_snapshots.specs.declared.errors.Unwritten.{Unwritten}
use Rattle.store_snapshots.specs.declared.errors.Unwritten.TheVariants as unwritten
use Rattle.store_snapshots.specs.Snapshots.{AreCoded, IsBesideOrNew, snapshot_bytes}

abbrev kind : Option Unwritten → ℕ
kind None = 0
kind (Some why) = 1

none_some : {why : Unwritten} → None ≡ Some why → ⊥
none_some is = omega (arith, ap kind is)

abbrev reason : Unwritten → Option Unwritten → Unwritten
reason other None = other
reason other (Some why) = why

some_same : {one other : Unwritten} → Some one ≡ Some other → one ≡ other
some_same {one} is = ap (reason one) is

abbrev is_err : {T : Type 0} → Result T Unwritten → ℕ
is_err (Ok value) = 0
is_err (Err why) = 1

ok_err : {T : Type 0} {value : T} {why : Unwritten} → Ok value ≡ Err why → ⊥
ok_err is = omega (arith, ap is_err is)

abbrev why_of : {T : Type 0} → Unwritten → Result T Unwritten → Unwritten
why_of other (Ok value) = other
why_of other (Err why) = why

err_same : {T : Type 0} {one other : Unwritten} → ◌≡◌ {A = Result T Unwritten} (Err one) (Err other) → one ≡ other
err_same {T} {one} is = ap (why_of one) is

abbrev sort : Unwritten → ℕ
sort unwritten.Fault = 0
sort (unwritten.Full len) = 1
sort unwritten.Memory = 2

abbrev len_in : Unwritten → ℕ
len_in unwritten.Fault = 0
len_in (unwritten.Full len) = len
len_in unwritten.Memory = 0

module _ {D : Type 0} (tells : Bool) (moment : D → ℕ) (images_at : D → ℕ → List ℕ → Type 0) (faults : D → ℕ) where
  pub itself : (file : SnapshotView D) → FileGoesOn tells moment images_at faults file file
  itself file = record { generation = refl; moments = λ told. inl refl }

  either : (a b c : D) → (b ≡ a) ⊎ LeavesOnly moment images_at a b IsNoStore
      → (c ≡ b) ⊎ LeavesOnly moment images_at b c IsNoStore → (c ≡ a) ⊎ LeavesOnly moment images_at a c IsNoStore
  either a b c (inl same) (inl still) = inl (still ∙ same)
  either a b c (inl same) (inr then) = inr (subst (λ (d : D). LeavesOnly moment images_at d c IsNoStore) same then)
  either a b c (inr first) (inl still) =
      inr (subst (λ (d : D). LeavesOnly moment images_at a d IsNoStore) (sym still) first)
  either a b c (inr first) (inr then) = inr (in_turn moment images_at a b c IsNoStore first then)

  pub goes_in_turn : (a b c : SnapshotView D) → FileGoesOn tells moment images_at faults a b
      → FileGoesOn tells moment images_at faults b c → FileGoesOn tells moment images_at faults a c
  goes_in_turn a b c first then = record {
    generation = then.generation ∙ first.generation;
    moments = λ told. either a.disk b.disk c.disk (first.moments told) (then.moments told);
  }

  -- what is known of a file that has refused nothing yet, after a call
  pub becomes_ok : {T : Type 0} (first old new : SnapshotView D) (was : Option Unwritten) (value : T)
      → FileBecomes tells moment images_at faults first old was None
      → FileComes tells moment images_at faults old new (Ok value)
      → FileBecomes tells moment images_at faults first new was None
  becomes_ok first old new was value so_far comes = record {
    goes_on = goes_in_turn first old new so_far.goes_on comes.goes_on;
    calm = λ not. comes.calm ok_err ∙ so_far.calm none_some;
    fault = λ unrefused is. absurd (none_some is);
    full = λ n unrefused is. absurd (none_some is);
  }

  pub becomes_err : {T : Type 0} (first old new : SnapshotView D) (was : Option Unwritten) (why : Unwritten)
      → FileBecomes tells moment images_at faults first old was None
      → FileComes tells moment images_at faults {T = T} old new (Err why)
      → FileBecomes tells moment images_at faults first new was (Some why)
  becomes_err first old new was why so_far comes = record {
    goes_on = goes_in_turn first old new so_far.goes_on comes.goes_on;
    calm = λ not. comes.calm (λ is. not (ap Some (err_same is))) ∙ so_far.calm none_some;
    fault = λ unrefused is.
        subst (λ (n : ℕ). Rose n (faults new.disk)) (so_far.calm none_some) (comes.fault (ap Err (some_same is)));
    full = λ n unrefused is. comes.full n (ap Err (some_same is));
  }

  -- before any call
  pub becomes_self : (file : SnapshotView D) (refused : Option Unwritten) → refused ≡ None
      → FileBecomes tells moment images_at faults file file refused refused
  becomes_self file refused unrefused = record {
    goes_on = itself file;
    calm = λ not. refl;
    fault = λ none is. absurd (none_some (sym none ∙ is));
    full = λ n none is. absurd (none_some (sym none ∙ is));
  }

  -- what a call came to, by why it was refused
  pub comes_ok : {T : Type 0} (first new : SnapshotView D) (was refused : Option Unwritten) (value : T) → refused ≡ None
      → FileBecomes tells moment images_at faults first new was refused
      → FileComes tells moment images_at faults first new (Ok value)
  comes_ok first new was refused value none becomes = record {
    goes_on = becomes.goes_on;
    calm = λ not. becomes.calm (λ is. none_some (sym none ∙ is));
    fault = λ is. absurd (ok_err is);
    full = λ n is. absurd (ok_err is);
  }

  pub comes_err : {T : Type 0} (first new : SnapshotView D) (was refused : Option Unwritten) (why : Unwritten)
      → was ≡ None
      → refused ≡ Some why → FileBecomes tells moment images_at faults first new was refused
      → FileComes tells moment images_at faults {T = T} first new (Err why)
  comes_err first new was refused why none is becomes = record {
    goes_on = becomes.goes_on;
    calm = λ not. becomes.calm (λ fault. not (ap Err (some_same (sym is ∙ fault))));
    fault = λ fault. becomes.fault none (is ∙ ap Some (err_same fault));
    full = λ n full. becomes.full n none (is ∙ ap Some (err_same full));
  }

  pub comes_memory : {T : Type 0} (first new : SnapshotView D) → FileGoesOn tells moment images_at faults first new
      → faults new.disk ≡ faults first.disk
      → FileComes tells moment images_at faults {T = T} first new (Err unwritten.Memory)
  comes_memory first new goes_on same = record {
    goes_on = goes_on;
    calm = λ not. same;
    fault = λ is. absurd (omega (arith, ap sort (err_same is)));
    full = λ n is. absurd (omega (arith, ap sort (err_same is)));
  }

  pub comes_full : {T : Type 0} (first new : SnapshotView D) (len : ℕ)
      → FileGoesOn tells moment images_at faults first new → faults new.disk ≡ faults first.disk
      → 2 ^ 40 < len → FileComes tells moment images_at faults {T = T} first new (Err (unwritten.Full len))
  comes_full first new len goes_on same long = record {
    goes_on = goes_on;
    calm = λ not. same;
    fault = λ is. absurd (omega (arith, ap sort (err_same is)));
    full = λ n is. subst (λ (m : ℕ). 2 ^ 40 < m) (ap len_in (err_same is)) long;
  }

  -- two calls in turn, of which the first was not refused
  pub comes_in_turn : {T U : Type 0} (a b c : SnapshotView D) (value : U) (result : Result T Unwritten)
      → FileComes tells moment images_at faults a b (Ok value) → FileComes tells moment images_at faults b c result
      → FileComes tells moment images_at faults a c result
  comes_in_turn a b c value (Ok other) first then = record {
    goes_on = goes_in_turn a b c first.goes_on then.goes_on;
    calm = λ not. then.calm not ∙ first.calm ok_err;
    fault = λ is. absurd (ok_err is);
    full = λ n is. absurd (ok_err is);
  }
  comes_in_turn a b c value (Err why) first then = record {
    goes_on = goes_in_turn a b c first.goes_on then.goes_on;
    calm = λ not. then.calm not ∙ first.calm ok_err;
    fault = λ is. subst (λ (n : ℕ). Rose n (faults c.disk)) (first.calm ok_err) (then.fault is);
    full = then.full;
  }

-- a snapshot that is given up
pub stays_so : {D : Type 0} (moment : D → ℕ) (images_at : D → ℕ → List ℕ → Type 0) (which : Choice) (a b c : D)
    → LeavesOnly moment images_at a b (StaysBeside which) → (c ≡ b) ⊎ LeavesOnly moment images_at b c IsNoStore
    → LeavesOnly moment images_at a c (StaysBeside which)
stays_so {D} moment images_at which a b c first (inl same) =
    subst (λ (d : D). LeavesOnly moment images_at a d (StaysBeside which)) (sym same) first
stays_so moment images_at which a b c first (inr then) =
    in_turn moment images_at a b c (StaysBeside which) first
    (wider moment images_at b c IsNoStore (StaysBeside which) then (λ at image from to none. none which))

-- while a snapshot is written, from its beginning on
module _ {D : Type 0} (moment : D → ℕ) (images_at : D → ℕ → List ℕ → Type 0) (which : Choice) (generation : ℕ)
    (db : Db) where
  pub begins_so : (a b : D) → LeavesOnly moment images_at a b (StaysBeside which)
      → LeavesOnly moment images_at a b (IsBesideOrNew which generation db)
  begins_so a b begins = wider moment images_at a b (StaysBeside which) (IsBesideOrNew which generation db) begins
      (λ at image from to is. inl is)

  goes_on_so : (a b c : D) → LeavesOnly moment images_at a b (IsBesideOrNew which generation db)
      → (c ≡ b) ⊎ LeavesOnly moment images_at b c IsNoStore
      → LeavesOnly moment images_at a c (IsBesideOrNew which generation db)
  goes_on_so a b c first (inl same) =
      subst (λ (d : D). LeavesOnly moment images_at a d (IsBesideOrNew which generation db)) (sym same) first
  goes_on_so a b c first (inr then) =
      in_turn moment images_at a b c (IsBesideOrNew which generation db) first
      (wider moment images_at b c IsNoStore (IsBesideOrNew which generation db) then
      (λ at image from to none. inl (none which)))

  pub told_so : (a b c : D) → LeavesOnly moment images_at a b (StaysBeside which)
      → (c ≡ b) ⊎ LeavesOnly moment images_at b c IsNoStore
      → LeavesOnly moment images_at a c (IsBesideOrNew which generation db)
  told_so a b c begins then = goes_on_so a b c (begins_so a b begins) then

  none_or_new : AreCoded db → (at : ℕ) (image : List ℕ) → IsNoStoreOrNew generation (snapshot_bytes db) at image
      → IsBesideOrNew which generation db at image
  none_or_new coded at image (inl none) = inl (none which)
  none_or_new coded at image (inr new) = inr (new, coded)

  pub ends_so : AreCoded db → (a b c d : D) → LeavesOnly moment images_at a b (StaysBeside which)
      → (c ≡ b) ⊎ LeavesOnly moment images_at b c IsNoStore
      → LeavesOnly moment images_at c d (IsNoStoreOrNew generation (snapshot_bytes db))
      → LeavesOnly moment images_at a d (IsBesideOrNew which generation db)
  ends_so coded a b c d begins then ends =
      in_turn moment images_at a c d (IsBesideOrNew which generation db) (told_so a b c begins then)
      (wider moment images_at c d (IsNoStoreOrNew generation (snapshot_bytes db)) (IsBesideOrNew which generation db)
      ends (λ at image from to is. none_or_new coded at image is))
