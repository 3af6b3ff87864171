-- How one more step changes what reads give and what a stop leaves.
use Rattle.std.proofs.Common.{◌≡◌, ◌≢◌, ◌≤◌, ◌+◌, ◌⊎◌, Option, None, Some, Result, Ok, Err, IfSome, IsSomeAnd, OnOk}
use Rattle.std.proofs.Common.{OnErr, inl, inr, ⊎_elim, ℕ, true, List, [], ◌∷◌, ◌++◌, length, take, Vec, refl, sym, ◌∙◌}
use Rattle.std.proofs.Common.{ap, subst, arith, length-append, drop, All, take-append-drop}
use Rattle.std.proofs.lemmas.List.{take-append-le}
use Rattle.std.specs.List.{AllByRecursion}
use Rattle.std.proofs.lemmas.List.Elements.{recursion_from_All}
use Rattle.std.specs.declared.alloc.Global.{Global}
use Rattle.kom_disk.specs.Disk.{overwritten, IsTorn, IsShortened, ComesBy, AddsNone, Only, Passes}
use Rattle.kom_disk.specs.Steps.{bytes_after, stable_after, torn_after, IsImage, KeepsNothing, IsWrite, LeftOf, LeftBy}
use Rattle.kom_disk.specs.Steps.{EndsSynced, all_steps}
use Rattle.kom_disk.specs.declared.step.Step.{Step}
use Rattle.kom_disk.specs.declared.step.Step.TheVariants.{Write, Cut, Sync, Pass}
use Rattle.kom_disk.proofs.Moments.{passes_in_turn}
use Rattle.kom_disk.proofs.Torn.{cut_away, torn_whole, cut_whole}

pub bytes_after-append : (bytes : List ℕ) (xs ys : List Step)
    → bytes_after bytes (xs ++ ys) ≡ bytes_after (bytes_after bytes xs) ys
bytes_after-append bytes [] ys = refl
bytes_after-append bytes (Write at from ∷ xs) ys = bytes_after-append (overwritten bytes at from.items) xs ys
bytes_after-append bytes (Cut len ∷ xs) ys = bytes_after-append (take len bytes) xs ys
bytes_after-append bytes (Sync ∷ xs) ys = bytes_after-append bytes xs ys
bytes_after-append bytes (Pass ∷ xs) ys = bytes_after-append bytes xs ys

pub stable_after-append : (stable bytes : List ℕ) (xs ys : List Step)
    → stable_after stable bytes (xs ++ ys) ≡ stable_after (stable_after stable bytes xs) (bytes_after bytes xs) ys
stable_after-append stable bytes [] ys = refl
stable_after-append stable bytes (Write at from ∷ xs) ys =
    stable_after-append stable (overwritten bytes at from.items) xs ys
stable_after-append stable bytes (Cut len ∷ xs) ys = stable_after-append stable (take len bytes) xs ys
stable_after-append stable bytes (Sync ∷ xs) ys = stable_after-append bytes bytes xs ys
stable_after-append stable bytes (Pass ∷ xs) ys = stable_after-append stable bytes xs ys

-- steps one after the other tear what those before them left
pub torn_apart : (images : List ℕ → Type 0) (bytes : List ℕ) (xs ys : List Step) (image : List ℕ)
    → torn_after images bytes (xs ++ ys) image → torn_after (torn_after images bytes xs) (bytes_after bytes xs) ys image
torn_apart images bytes [] ys image left = left
torn_apart images bytes (Write at from ∷ xs) ys image left =
    torn_apart (LeftOf (IsTorn at (length from.items)) images) (overwritten bytes at from.items) xs ys image left
torn_apart images bytes (Cut len ∷ xs) ys image left =
    torn_apart (LeftOf (IsShortened len) images) (take len bytes) xs ys image left
torn_apart images bytes (Sync ∷ xs) ys image left = torn_apart (λ was. was ≡ bytes) bytes xs ys image left
torn_apart images bytes (Pass ∷ xs) ys image left = torn_apart images bytes xs ys image left

pub torn_together : (images : List ℕ → Type 0) (bytes : List ℕ) (xs ys : List Step) (image : List ℕ)
    → torn_after (torn_after images bytes xs) (bytes_after bytes xs) ys image → torn_after images bytes (xs ++ ys) image
torn_together images bytes [] ys image left = left
torn_together images bytes (Write at from ∷ xs) ys image left =
    torn_together (LeftOf (IsTorn at (length from.items)) images) (overwritten bytes at from.items) xs ys image left
torn_together images bytes (Cut len ∷ xs) ys image left =
    torn_together (LeftOf (IsShortened len) images) (take len bytes) xs ys image left
torn_together images bytes (Sync ∷ xs) ys image left = torn_together (λ was. was ≡ bytes) bytes xs ys image left
torn_together images bytes (Pass ∷ xs) ys image left = torn_together images bytes xs ys image left

module _ (start : List ℕ) where
  abbrev torn : List Step → List ℕ → Type 0
  torn xs = torn_after (λ was. was ≡ start) start xs

  abbrev read : List Step → List ℕ
  read xs = bytes_after start xs

  -- an image after one more step
  one_more : (xs : List Step) (s : Step) (image : List ℕ) → IsImage start (xs ++ s ∷ []) image
      → torn_after (torn xs) (read xs) (s ∷ []) image ⊎ (image ≡ bytes_after (read xs) (s ∷ []))
  one_more xs s image left =
      ⊎_elim (λ torn. inl (torn_apart (λ was. was ≡ start) start xs (s ∷ []) image torn))
      (λ whole. inr (whole ∙ bytes_after-append start xs (s ∷ []))) left

  pub pass_adds : (xs : List Step) → AddsNone (IsImage start xs) (IsImage start (xs ++ Pass ∷ []))
  pass_adds xs image left = one_more xs Pass image left

  pub sync_only : (xs : List Step) → Only (read xs) (IsImage start (xs ++ Sync ∷ []))
  sync_only xs image left = ⊎_elim (λ is. is) (λ is. is) (one_more xs Sync image left)

  pub sync_adds : (xs : List Step) → AddsNone (IsImage start xs) (IsImage start (xs ++ Sync ∷ []))
  sync_adds xs image left = inr (sync_only xs image left)

  pub write_tears : (xs : List Step) (at : ℕ) (from : Vec ℕ Global) → at ≤ length (read xs)
      → ComesBy (IsTorn at (length from.items)) (IsImage start xs) (IsImage start (xs ++ Write at from ∷ []))
  write_tears xs at from within image left =
      ⊎_elim (λ torn. (torn.0, inl torn.1, torn.2))
      (λ whole. (
        read xs,
        inr refl,
        subst (λ (l : List ℕ). IsTorn at (length from.items) (read xs) l) (sym whole)
            (torn_whole at from.items (read xs) within),
      )) (one_more xs (Write at from) image left)

  pub cut_tears : (xs : List Step) (len : ℕ)
      → ComesBy (IsShortened len) (IsImage start xs) (IsImage start (xs ++ Cut len ∷ []))
  cut_tears xs len image left =
      ⊎_elim (λ torn. (torn.0, inl torn.1, torn.2))
      (λ whole. (
        read xs,
        inr refl,
        subst (λ (l : List ℕ). IsShortened len (read xs) l) (sym whole)
            (cut_whole len (read xs)),
      )) (one_more xs (Cut len) image left)

  pub nothing_read : (xs ys : List Step) → KeepsNothing xs ys → read ys ≡ read xs
  nothing_read xs ys (inl same) = ap read same
  nothing_read xs ys (inr more) = ap read more ∙ bytes_after-append start xs (Pass ∷ [])

  pub nothing_adds : (xs ys : List Step) → KeepsNothing xs ys → AddsNone (IsImage start xs) (IsImage start ys)
  nothing_adds xs ys (inl same) image left = subst (λ (l : List Step). IsImage start l image) same left
  nothing_adds xs ys (inr more) image left =
      pass_adds xs image (subst (λ (l : List Step). IsImage start l image) more left)

  -- what was left at the moments before stays, and the last moment is now
  abbrev at : List Step → ℕ → List ℕ → Type 0
  at xs moment = IsImage start (take moment xs)

  pub passes_same : (xs ys : List Step) → ys ≡ xs → Passes true (length xs) (length ys) (at xs) (at ys)
  passes_same xs ys same =
      subst (λ (l : List Step). Passes true (length xs) (length l) (at xs) (at l)) (sym same) (record {
        forward = omega arith;
        kept = λ _ moment image le. (λ left. left, λ left. left);
        inside = λ _ moment image after before left. absurd (omega arith);
      })

  pub passes_more : (xs ys : List Step) (s : Step) → ys ≡ xs ++ s ∷ []
      → Passes true (length xs) (length ys) (at xs) (at ys)
  passes_more xs ys s more =
      subst (λ (l : List Step). Passes true (length xs) (length l) (at xs) (at l)) (sym more) (record {
        forward = omega (arith, longer);
        kept = λ _ moment image le.
            let P : List Step → Type 0 = λ l. IsImage start l image in (
              λ left. subst P (take-append-le moment xs (s ∷ []) le) left,
              λ left. subst P
                  (sym (take-append-le moment xs (s ∷ []) le)) left,
            );
        inside = λ _ moment image after before left.
            let same : moment ≡ length (xs ++ s ∷ []) = omega (arith, longer) in
            let P : ℕ → Type 0 = λ m. IsImage start (take m (xs ++ s ∷ [])) image in
            inr (subst P same left);
      })
    where
      longer : length (xs ++ s ∷ []) ≡ length xs + 1
      longer = length-append xs (s ∷ [])

  pub passes_nothing : (xs ys : List Step) → KeepsNothing xs ys → Passes true (length xs) (length ys) (at xs) (at ys)
  passes_nothing xs ys (inl same) = passes_same xs ys same
  passes_nothing xs ys (inr more) = passes_more xs ys Pass more

  -- a call that failed, and then a part of it
  pub passes_on : (xs ys zs : List Step) → KeepsNothing xs ys → Passes true (length ys) (length zs) (at ys) (at zs)
      → Passes true (length xs) (length zs) (at xs) (at zs)
  passes_on xs ys zs nothing later = passes_in_turn length at true xs ys zs (passes_nothing xs ys nothing) later
      (λ told image left. (all_steps start xs image).1
      (nothing_adds xs ys nothing image ((all_steps start ys image).0 left)))

  pub comes_on : (step : List ℕ → List ℕ → Type 0) (xs ys : List Step) (images : List ℕ → Type 0) → KeepsNothing xs ys
      → ComesBy step (IsImage start ys) images → ComesBy step (IsImage start xs) images
  comes_on step xs ys images nothing later image left =
      let from = later image left in
      (from.0, nothing_adds xs ys nothing from.0 from.1, from.2)

  pub read_more : (xs ys : List Step) (s : Step) → ys ≡ xs ++ s ∷ [] → read ys ≡ bytes_after (read xs) (s ∷ [])
  read_more xs ys s more = ap read more ∙ bytes_after-append start xs (s ∷ [])

  -- a step more changes the images as that step does
  pub adds_by : (xs ys : List Step) → ys ≡ xs ++ Sync ∷ [] → AddsNone (IsImage start xs) (IsImage start ys)
  adds_by xs ys more image left = sync_adds xs image (subst (λ (l : List Step). IsImage start l image) more left)

  pub only_by : (xs ys : List Step) → ys ≡ xs ++ Sync ∷ [] → Only (read xs) (IsImage start ys)
  only_by xs ys more image left = sync_only xs image (subst (λ (l : List Step). IsImage start l image) more left)

  pub cut_by : (xs ys : List Step) (len : ℕ) → ys ≡ xs ++ Cut len ∷ []
      → ComesBy (IsShortened len) (IsImage start xs) (IsImage start ys)
  cut_by xs ys len more image left = cut_tears xs len image (subst (λ (l : List Step). IsImage start l image) more left)

  pub cut_failed : (xs ys : List Step) (len : ℕ) → KeepsNothing xs ys
      → ComesBy (IsShortened len) (IsImage start xs) (IsImage start ys)
  cut_failed xs ys len nothing image left = (image, nothing_adds xs ys nothing image left, cut_away len image)

  -- a step that writes these bytes at this place is the last one
  pub record Wrote (at : ℕ) (bytes : List ℕ) (xs ys : List Step) : Type 0 where
    pub copy : Vec ℕ Global
    pub same : copy.items ≡ bytes
    pub more : ys ≡ xs ++ Write at copy ∷ []

  pub wrote : (at : ℕ) (bytes : List ℕ) (xs ys : List Step) (step : Option Step) → IfSome step (IsWrite at bytes)
      → IsSomeAnd step (λ s. ys ≡ xs ++ s ∷ []) → Wrote at bytes xs ys
  wrote at bytes xs ys None is more = absurd more
  wrote at bytes xs ys (Some (Write place copy)) is more =
      record { copy = copy; same = is.1; more = more ∙ ap (λ (p : ℕ). xs ++ Write p copy ∷ []) is.0 }
  wrote at bytes xs ys (Some (Cut len)) is more = absurd is
  wrote at bytes xs ys (Some Sync) is more = absurd is
  wrote at bytes xs ys (Some Pass) is more = absurd is

  pub write_by : (at : ℕ) (bytes : List ℕ) (xs ys : List Step) → at ≤ length (read xs) → Wrote at bytes xs ys
      → ComesBy (IsTorn at (length bytes)) (IsImage start xs) (IsImage start ys)
  write_by at bytes xs ys within w image left =
      let P : List ℕ → Type 0 = λ (l : List ℕ). (was : List ℕ) × IsImage start xs was × IsTorn at (length l) was image in
      subst P w.same
      (write_tears xs at w.copy within image (subst (λ (l : List Step). IsImage start l image) w.more left))

  pub write_read : (at : ℕ) (bytes : List ℕ) (xs ys : List Step) → Wrote at bytes xs ys
      → read ys ≡ overwritten (read xs) at bytes
  write_read at bytes xs ys w =
      read_more xs ys (Write at w.copy) w.more ∙ ap (λ (l : List ℕ). overwritten (read xs) at l) w.same

-- a call that only looks keeps nothing, whether it fails or not
pub looked : {E : Type 0} (xs ys : List Step) (result : Result (Unit {0}) E)
    → OnOk result (IsSomeAnd (Some Pass) (λ s. ys ≡ xs ++ s ∷ [])) → OnErr result (KeepsNothing xs ys)
    → KeepsNothing xs ys
looked xs ys (Ok done) kept failed = inr kept
looked xs ys (Err error) kept failed = failed

-- what holds anyway
pub on_err : {T E : Type 0} (result : Result T E) (P : Type 0) → P → OnErr result P
on_err (Ok done) P here = tt
on_err (Err error) P here = here

-- what is known of a step that was kept
pub given_room : (step : Option Step) (P : Step → Type 0) (Q : Type 0) → IsSomeAnd step P → IfSome step (λ _. Q) → Q
given_room None P Q kept known = absurd kept
given_room (Some s) P Q kept known = known

-- after a sync, or an attempt at one
module _ {E : Type 0} (start : List ℕ) (xs ys : List Step) where
  pub synced_read : (result : Result (Unit {0}) E) → OnOk result (IsSomeAnd (Some Sync) (λ s. ys ≡ xs ++ s ∷ []))
      → OnErr result (KeepsNothing xs ys) → bytes_after start ys ≡ bytes_after start xs
  synced_read (Ok done) kept failed = read_more start xs ys Sync kept
  synced_read (Err error) kept failed = nothing_read start xs ys failed

  pub synced_adds : (result : Result (Unit {0}) E) → OnOk result (IsSomeAnd (Some Sync) (λ s. ys ≡ xs ++ s ∷ []))
      → OnErr result (KeepsNothing xs ys) → AddsNone (IsImage start xs) (IsImage start ys)
  synced_adds (Ok done) kept failed = adds_by start xs ys kept
  synced_adds (Err error) kept failed = nothing_adds start xs ys failed

  pub failed_adds : (result : Result (Unit {0}) E) → OnErr result (KeepsNothing xs ys)
      → OnErr result (AddsNone (IsImage start xs) (IsImage start ys))
  failed_adds (Ok done) failed = tt
  failed_adds (Err error) failed = nothing_adds start xs ys failed

  pub synced_kept : (result : Result (Unit {0}) E) → OnOk result (IsSomeAnd (Some Sync) (λ s. ys ≡ xs ++ s ∷ []))
      → OnOk result (length ys ≡ length xs + 1)
  synced_kept (Ok done) kept = ap length kept ∙ length-append xs (Sync ∷ [])
  synced_kept (Err error) kept = tt

  pub synced_only : (bytes : List ℕ) (result : Result (Unit {0}) E) → bytes ≡ bytes_after start xs
      → OnOk result (IsSomeAnd (Some Sync) (λ s. ys ≡ xs ++ s ∷ [])) → OnOk result (Only bytes (IsImage start ys))
  synced_only bytes (Ok done) is kept = λ image left. only_by start xs ys kept image left ∙ sym is
  synced_only bytes (Err error) is kept = tt

-- what holds of an image before it is torn
pub torn_by_more : (images more : List ℕ → Type 0) (bytes : List ℕ) (xs : List Step)
    → ((was : List ℕ) → images was → more was) → (image : List ℕ) → torn_after images bytes xs image
    → torn_after more bytes xs image
torn_by_more images more bytes [] wider image left = wider image left
torn_by_more images more bytes (Write at from ∷ xs) wider image left =
    torn_by_more (LeftOf (IsTorn at (length from.items)) images) (LeftOf (IsTorn at (length from.items)) more)
    (overwritten bytes at from.items) xs (λ was left. (left.0, wider left.0 left.1, left.2)) image left
torn_by_more images more bytes (Cut len ∷ xs) wider image left =
    torn_by_more (LeftOf (IsShortened len) images) (LeftOf (IsShortened len) more) (take len bytes) xs
    (λ was left. (left.0, wider left.0 left.1, left.2)) image left
torn_by_more images more bytes (Sync ∷ xs) wider image left = left
torn_by_more images more bytes (Pass ∷ xs) wider image left = torn_by_more images more bytes xs wider image left

-- one step more that is no sync
pub torn_once_more : (images : List ℕ → Type 0) (bytes : List ℕ) (xs : List Step) (s : Step) (was image : List ℕ)
    → torn_after images bytes xs was → LeftBy s was image → torn_after images bytes (xs ++ s ∷ []) image
torn_once_more images bytes xs (Write at from) was image before left =
    torn_together images bytes xs (Write at from ∷ []) image (was, before, left)
torn_once_more images bytes xs (Cut len) was image before left =
    torn_together images bytes xs (Cut len ∷ []) image (was, before, left)
torn_once_more images bytes xs Sync was image before left = absurd left
torn_once_more images bytes xs Pass was image before left =
    torn_together images bytes xs (Pass ∷ []) image (subst (torn_after images bytes xs) (sym left) before)

-- after a sync the bytes that are read are stable, and a stop leaves them
pub synced_left : (start : List ℕ) (xs : List Step) → EndsSynced xs → (image : List ℕ) → image ≡ bytes_after start xs
    → torn_after (λ was. was ≡ start) start xs image
synced_left start xs (inl none) image is =
    subst (λ (l : List Step). torn_after (λ was. was ≡ start) start l image) (sym none)
    (is ∙ ap (bytes_after start) none)
synced_left start xs (inr (before, ends)) image is =
    subst (λ (l : List Step). torn_after (λ was. was ≡ start) start l image) (sym ends)
    (torn_together (λ was. was ≡ start) start before (Sync ∷ []) image
    (is ∙ ap (bytes_after start) ends ∙ bytes_after-append start before (Sync ∷ [])))

pub synced_stable : (start : List ℕ) (xs : List Step) → EndsSynced xs
    → stable_after start start xs ≡ bytes_after start xs
synced_stable start xs (inl none) = ap (stable_after start start) none ∙ sym (ap (bytes_after start) none)
synced_stable start xs (inr (before, ends)) =
    ap (stable_after start start) ends ∙ stable_after-append start start before (Sync ∷ [])
    ∙ sym (ap (bytes_after start) ends ∙ bytes_after-append start before (Sync ∷ []))

pub not_synced_stable : (stable bytes : List ℕ) (xs : List Step) → AllByRecursion (λ step. step ≢ Sync) xs
    → stable_after stable bytes xs ≡ stable
not_synced_stable stable bytes [] none = refl
not_synced_stable stable bytes (Write at from ∷ xs) none =
    not_synced_stable stable (overwritten bytes at from.items) xs none.1
not_synced_stable stable bytes (Cut len ∷ xs) none = not_synced_stable stable (take len bytes) xs none.1
not_synced_stable stable bytes (Sync ∷ xs) none = absurd (none.0 refl)
not_synced_stable stable bytes (Pass ∷ xs) none = not_synced_stable stable bytes xs none.1

-- an image of the steps after the last sync, which began with what was stable there
module _ (start : List ℕ) (steps : List Step) (end : ℕ) (synced : EndsSynced (take end steps)) (stable : List ℕ)
    (is_stable : stable ≡ bytes_after start (take end steps)) where
  parts : take end steps ++ drop end steps ≡ steps
  parts = take-append-drop end steps

  pub image_left : (image : List ℕ) → torn_after (λ was. was ≡ stable) stable (drop end steps) image
      → IsImage start steps image
  image_left image left =
      let P : List ℕ → Type 0 = λ (l : List ℕ). torn_after (λ was. was ≡ l) l (drop end steps) image in
      let over : torn_after (torn_after (λ was. was ≡ start) start (take end steps))
      (bytes_after start (take end steps)) (drop end steps) image =
      torn_by_more (λ was. was ≡ bytes_after start (take end steps))
      (torn_after (λ was. was ≡ start) start (take end steps)) (bytes_after start (take end steps)) (drop end steps)
      (synced_left start (take end steps) synced) image (subst P is_stable left) in
      let Q : List Step → Type 0 = λ (l : List Step). torn_after (λ was. was ≡ start) start l image in
      inl (subst Q parts (torn_together (λ was. was ≡ start) start (take end steps) (drop end steps) image over))

  pub image_stable : All (λ step. step ≢ Sync) (drop end steps) → stable_after start start steps ≡ stable
  image_stable none =
      ap (stable_after start start) (sym parts) ∙ stable_after-append start start (take end steps) (drop end steps)
      ∙ not_synced_stable (stable_after start start (take end steps)) (bytes_after start (take end steps))
      (drop end steps) (recursion_from_All (λ step. step ≢ Sync) (drop end steps) none)
      ∙ synced_stable start (take end steps) synced ∙ sym is_stable
