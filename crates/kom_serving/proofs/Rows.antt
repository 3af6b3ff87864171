-- Rows of workers, and what they have at the same places.
use Rattle.std.proofs.Common.{◌≡◌, ℕ, zero, suc, ◌+◌, ◌<◌, List, [], ◌∷◌, ◌++◌, length, map, take, drop, Option, Some}
use Rattle.std.proofs.Common.{None, refl, sym, ap, subst, ◌∙◌, arith, append_assoc}
use Rattle.std.specs.Prelude.{slice_index_or, slice_get, IsSome}
use Rattle.std.specs.Option.{option_to_list}
use Rattle.std.specs.List.{AllByRecursion}
use Rattle.std.proofs.Math.Seq.{take-append_seam}
use Rattle.std.proofs.lemmas.List.{map-append, length_push}
use Rattle.kom_state_lock.specs.Passes.{HallModel, PassModel, new_pass, AreNewPasses, IsReady, AreReady}
use Rattle.kom_state_lock.specs.Passes.{AreReadyButLast, IsReadyLast}
use Rattle.kom_state_lock.proofs.Ready.{ready_again as all_ready}
use Rattle.kom_types.specs.declared.acts.Record.{Record}
use Rattle.kom_links.specs.Doors.{GateView, IsNewGate}
use Rattle.kom_links.specs.Outside.{LinkView}
use Rattle.kom_model.specs.State.{State}
use Rattle.kom_serving.specs.Runs.{IsFirstReading}
use Rattle.kom_serving.specs.Serving.{KeepsFirst}
use Rattle.kom_serving.specs.Workers.{WorkerView, AreIdle, HasServed, HaveServed, gates_of, readings_of, passes_of}
use Rattle.kom_serving.specs.Workers.{KeepFirst}

-- P holds of each element and its place, where the first has this number
abbrev pub AllFrom : {X : Type 0} → (ℕ → X → Type 0) → ℕ → List X → Type 0
AllFrom P number [] = Unit {0}
AllFrom P number (x ∷ xs) = P number x × AllFrom P (number + 1) xs

pub all_from : {X : Type 0} (P : ℕ → X → Type 0) (number : ℕ) (xs : List X) →
    ((k : ℕ) (d : X) → k < length xs → P (number + k) (slice_index_or xs k d)) → AllFrom P number xs
all_from P number [] each = tt
all_from {X} P number (x ∷ xs) each =
    let none : number + 0 ≡ number = omega arith in (
      subst (λ (n : ℕ). P n x) none (each 0 x (omega arith)),
      all_from P (number + 1) xs (λ k d low.
          let next : number + suc k ≡ (number + 1) + k = omega arith in
          subst (λ (n : ℕ). P n (slice_index_or xs k d)) next (each (suc k) d (omega arith))),
    )

-- the same from number 0 on
pub all_from_none : {X : Type 0} (P : ℕ → X → Type 0) (xs : List X) →
    ((k : ℕ) (d : X) → k < length xs → P k (slice_index_or xs k d)) → AllFrom P 0 xs
all_from_none P xs each =
    all_from P 0 xs (λ k d low.
    let same : k ≡ 0 + k = omega arith in subst (λ (n : ℕ). P n (slice_index_or xs k d)) same (each k d low))

pub from_map : {X : Type 0} (P Q : ℕ → X → Type 0) (number : ℕ) (xs : List X) →
    ((k : ℕ) (x : X) → P k x → Q k x) → AllFrom P number xs → AllFrom Q number xs
from_map P Q number [] turn all = tt
from_map P Q number (x ∷ xs) turn all = (turn number x all.0, from_map P Q (number + 1) xs turn all.1)

pub at_before : {X : Type 0} (xs : List X) (last : X) (k : ℕ) (d : X) → k < length xs →
    slice_index_or (xs ++ last ∷ []) k d ≡ slice_index_or xs k d
at_before [] last k d low = absurd (omega arith)
at_before (x ∷ xs) last zero d low = refl
at_before (x ∷ xs) last (suc k) d low = at_before xs last k d (omega arith)

pub at_last : {X : Type 0} (xs : List X) (last : X) (k : ℕ) (d : X) → k ≡ length xs →
    slice_index_or (xs ++ last ∷ []) k d ≡ last
at_last [] last zero d e = refl
at_last [] last (suc k) d e = absurd (omega arith)
at_last (x ∷ xs) last zero d e = absurd (omega arith)
at_last (x ∷ xs) last (suc k) d e = at_last xs last k d (omega arith)

module _ {B E L : Type 0} where
  pub long : (passes : List (PassModel B E)) (workers : List (WorkerView B E L)) →
      map (λ pass. Some pass) passes ≡ passes_of workers → length passes ≡ length workers
  long [] [] same = refl
  long [] (worker ∷ workers) same = cc
  long (pass ∷ passes) [] same = cc
  long (pass ∷ passes) (worker ∷ workers) same =
      let rest : map (λ pass. Some pass) passes ≡ passes_of workers = cc in ap suc (long passes workers rest)

  pub pass_at : (passes : List (PassModel B E)) (workers : List (WorkerView B E L)) (k : ℕ) (d : PassModel B E)
      (d' : WorkerView B E L) → map (λ pass. Some pass) passes ≡ passes_of workers → k < length workers →
      Some (slice_index_or passes k d) ≡ (slice_index_or workers k d').pass
  pass_at [] [] k d d' same low = absurd (omega arith)
  pass_at [] (worker ∷ workers) k d d' same low = cc
  pass_at (pass ∷ passes) [] k d d' same low = cc
  pass_at (pass ∷ passes) (worker ∷ workers) zero d d' same low =
      let here : Some pass ≡ worker.pass = cc in here
  pass_at (pass ∷ passes) (worker ∷ workers) (suc k) d d' same low =
      let rest : map (λ pass. Some pass) passes ≡ passes_of workers = cc in
      pass_at passes workers k d d' rest (omega arith)

-- an element goes from the beginning of one row to the end of another
pub moved : {X Y Z : Type 0} (f : Y → Z) (h : X → Z) (done done' : List Y) (one : Y) (left left' : List X) (first : X)
    (all : List Z) → done' ≡ done ++ one ∷ [] → left' ≡ take 0 left ++ drop 1 left →
    first ≡ slice_index_or left 0 first → 0 < length left → f one ≡ h first →
    map f done ++ map h left ≡ all → map f done' ++ map h left' ≡ all
moved f h done done' one [] left' first all pushed taken is some same whole = absurd (omega arith)
moved {X} {Y} {Z} f h done done' one (x ∷ left) left' first all pushed taken is some same whole =
    let now : left' ≡ left = taken in
    let is' : first ≡ x = is in
    ap (λ (row : List Y). map f row ++ map h left') pushed
    ∙ ap (λ (rest : List X). map f (done ++ one ∷ []) ++ map h rest) now
    ∙ ap (λ (row : List Z). row ++ map h left) (map-append f done (one ∷ []))
    ∙ append_assoc (map f done) (f one ∷ []) (map h left)
    ∙ ap (λ (z : Z). map f done ++ z ∷ map h left) (same ∙ ap h is')
    ∙ whole

-- what holds of all holds of the rest, and of the first
pub all_rest : {X : Type 0} (P : X → Type 0) (left left' : List X) (first : X) →
    left' ≡ take 0 left ++ drop 1 left → first ≡ slice_index_or left 0 first → 0 < length left →
    AllByRecursion P left → P first × AllByRecursion P left'
all_rest P [] left' first taken is some all = absurd (omega arith)
all_rest {X} P (x ∷ left) left' first taken is some all =
    let now : left' ≡ left = taken in
    let is' : first ≡ x = is in
    (subst P (sym is') all.0, subst (AllByRecursion P) (sym now) all.1)

-- the first reading is of the first clock
first_of_row : (moment : ℕ) (gave : Option (List ℕ)) (clocks clocks' : List (Option (List ℕ))) →
    IsFirstReading moment (gave ∷ clocks) → IsFirstReading moment (gave ∷ clocks')
first_of_row moment None clocks clocks' first = tt
first_of_row moment (Some []) clocks clocks' first = absurd first
first_of_row moment (Some (reading ∷ readings)) clocks clocks' first = first

pub keep_first : {B E L : Type 0} (workers workers' : List (WorkerView B E L)) → length workers ≡ length workers' →
    ((d : WorkerView B E L) → KeepsFirst (slice_index_or workers 0 d).gave (slice_index_or workers' 0 d).gave) →
    KeepFirst (readings_of workers) (readings_of workers')
keep_first [] [] same keeps moment first = first
keep_first [] (worker ∷ workers') same keeps moment first = cc
keep_first (worker ∷ workers) [] same keeps moment first = cc
keep_first (worker ∷ workers) (worker' ∷ workers') same keeps moment first =
    first_of_row moment worker'.gave [] (readings_of workers')
    (keeps worker moment (first_of_row moment worker.gave (readings_of workers) [] first))

-- the passes of workers that have served, without the last pass
pub ready_again : {B E L : Type 0} (made : E → Record) (view : L → LinkView) (start : State) (hall : HallModel B)
    (workers : List (WorkerView B E L)) (passes : List (PassModel B E)) (some : WorkerView B E L) →
    HaveServed made view start hall workers → map (λ pass. Some pass) passes ≡ passes_of workers →
    AreReadyButLast hall passes
ready_again {B} {E} made view start hall workers passes some have same = record {
  long = omega (arith, long passes workers same, have.long);
  each = λ k d low.
      let low' : k < length workers = omega (arith, low, long passes workers same) in
      let has = have.each k some low' in
      let at : Some (slice_index_or passes k d) ≡ Some has.pass = pass_at passes workers k d some same low' ∙ has.has in
      let is : slice_index_or passes k d ≡ has.pass = cc in
      subst (λ (pass : PassModel B E). IsReady hall k pass) (sym is) has.ready;
}

-- ---- workers before they begin

got : {X : Type 0} (xs : List X) (k : ℕ) (x d : X) → slice_get xs k ≡ Some x → slice_index_or xs k d ≡ x
got [] k x d is = cc
got (y ∷ xs) zero x d is = cc
got (y ∷ xs) (suc k) x d is = got xs k x d is

pub all_mapped : {X Y : Type 0} (f : X → Y) (P : Y → Type 0) (xs : List X) → AllByRecursion (λ x. P (f x)) xs →
    AllByRecursion P (map f xs)
all_mapped f P [] all = tt
all_mapped f P (x ∷ xs) all = (all.0, all_mapped f P xs all.1)

gate_at : {B E L : Type 0} (P : GateView L → Type 0) (workers : List (WorkerView B E L)) (k : ℕ)
    (d : WorkerView B E L) → AllByRecursion P (gates_of workers) → k < length workers →
    P (slice_index_or workers k d).gate
gate_at P [] k d all low = absurd (omega arith)
gate_at P (worker ∷ workers) zero d all low = all.0
gate_at P (worker ∷ workers) (suc k) d all low = gate_at P workers k d all.1 (omega arith)

module _ {B E L : Type 0} (hall : HallModel B) (workers : List (WorkerView B E L))
    (all passes : List (PassModel B E)) (own : PassModel B E) (new : AreNewPasses hall.table hall.passes all)
    (is : all ≡ passes ++ own ∷ []) (same : passes_of workers ≡ map (λ pass. Some pass) passes) where
  place : (k : ℕ) → k < length all → slice_index_or (passes ++ own ∷ []) k own ≡ new_pass hall.table k
  place k low =
      subst (λ (row : List (PassModel B E)). slice_index_or row k own ≡ new_pass hall.table k) is
      (got all k (new_pass hall.table k) own (new.1 k (omega (arith, low, new.0))))

  one_more : length all ≡ length passes + 1
  one_more = ap length is ∙ length_push passes own

  pub own_new : own ≡ new_pass hall.table (length workers)
  own_new =
      let here : own ≡ new_pass hall.table (length passes) =
      sym (at_last passes own (length passes) own refl) ∙ place (length passes) (omega (arith, one_more)) in
      here ∙ ap (λ (n : ℕ). new_pass hall.table n) (long passes workers (sym same))

  pub as_many : length workers + 1 ≡ hall.passes
  as_many = omega (arith, one_more, new.0, long passes workers (sym same))

  pub idle_row : (gates : List (GateView L)) → gates_of workers ≡ gates → AllByRecursion IsNewGate gates →
      AreIdle hall workers
  idle_row gates have fresh = record {
    long = as_many;
    each = λ k d low.
        let low' : k < length passes = omega (arith, low, long passes workers (sym same)) in
        let pass : slice_index_or passes k own ≡ new_pass hall.table k =
        sym (at_before passes own k own low') ∙ place k (omega (arith, low', one_more)) in
        record {
          pass = sym (pass_at passes workers k own d (sym same) low) ∙ ap (λ (pass : PassModel B E). Some pass) pass;
          gate = gate_at IsNewGate workers k d (subst (AllByRecursion IsNewGate) (sym have) fresh) low;
        };
  }

-- ---- workers that have served

pub all_places : {X : Type 0} (P : ℕ → X → Type 0) (Q : X → Type 0) (number : ℕ) (xs : List X) →
    ((k : ℕ) (x : X) → P k x → Q x) → AllFrom P number xs → AllByRecursion Q xs
all_places P Q number [] turn all = tt
all_places P Q number (x ∷ xs) turn all = (turn number x all.0, all_places P Q (number + 1) xs turn all.1)

pub have_passes : {B E L : Type 0} (made : E → Record) (view : L → LinkView) (start : State) (hall : HallModel B)
    (workers : List (WorkerView B E L)) → HaveServed made view start hall workers →
    AllByRecursion (λ worker. IsSome worker.pass) workers
have_passes made view start hall workers have =
    all_places (HasServed made view start hall) (λ worker. IsSome worker.pass) 0 workers
    (λ k worker has. rw has.has refl)
    (all_from_none (HasServed made view start hall) workers have.each)

one_of : {X : Type 0} (xs : List X) → 0 < length xs → X
one_of [] some = absurd (omega arith)
one_of (x ∷ xs) some = x

-- the row of passes is whole again when the last pass is back
pub row_again : {B E L : Type 0} (made : E → Record) (view : L → LinkView) (start : State) (hall : HallModel B)
    (workers : List (WorkerView B E L)) (passes pushed : List (PassModel B E)) (own : PassModel B E) →
    0 < length workers → HaveServed made view start hall workers →
    map (λ pass. Some pass) passes ≡ passes_of workers → pushed ≡ passes ++ own ∷ [] →
    own ≡ new_pass hall.table (length workers) → AreReady hall pushed
row_again {B} {E} made view start hall workers passes pushed own some have same items is =
    subst (AreReady hall) (sym items)
    (all_ready hall passes own
    (ready_again made view start hall workers passes (one_of workers some) have same)
    (subst (λ (pass : PassModel B E). IsReadyLast hall pass) (sym is)
    (record { table = refl; last = have.long; free = tt })))

pub all_unmapped : {X Y : Type 0} (f : X → Y) (P : Y → Type 0) (xs : List X) → AllByRecursion P (map f xs) →
    AllByRecursion (λ x. P (f x)) xs
all_unmapped f P [] all = tt
all_unmapped f P (x ∷ xs) all = (all.0, all_unmapped f P xs all.1)

-- a row that was lent as a slice
pub lent : {X : Type 0} (n : ℕ) (row rest : List X) → n ≡ length row → take n (row ++ rest) ≡ row
lent {X} n row rest long = ap (λ (m : ℕ). take m (row ++ rest)) long ∙ take-append_seam row rest

pub all_dealt : {B E : Type 0} (all left : List (PassModel B E)) (popped : Option (PassModel B E))
    (own : PassModel B E) → all ≡ left ++ option_to_list popped → popped ≡ Some own → all ≡ left ++ own ∷ []
all_dealt {B} {E} all left popped own items is =
    items ∙ ap (λ (popped : Option (PassModel B E)). left ++ option_to_list popped) is

-- the last pass, the passes that came back, and the whole row
pub whole : {B E L : Type 0} (made : E → Record) (view : L → LinkView) (start : State) (hall : HallModel B)
    (row after rest : List (WorkerView B E L)) (n : ℕ) (all left back pushed : List (PassModel B E))
    (popped : Option (PassModel B E)) (own : PassModel B E) → AreNewPasses hall.table hall.passes all →
    all ≡ left ++ option_to_list popped → popped ≡ Some own → passes_of row ≡ map (λ pass. Some pass) left →
    HaveServed made view start hall after → n ≡ length after → 0 < length after →
    map (λ pass. Some pass) back ≡ passes_of (take n (after ++ rest)) → pushed ≡ back ++ own ∷ [] →
    (own ≡ new_pass hall.table (length after)) × (map (λ pass. Some pass) back ≡ passes_of after)
    × AreReady hall pushed
whole {B} {E} {L} made view start hall row after rest n all left back pushed popped own new items is gathered have long
    some came pushed_is =
    let dealt : all ≡ left ++ own ∷ [] = all_dealt all left popped own items is in
    let number : own ≡ new_pass hall.table (length row) = own_new hall row all left own new dealt gathered in
    let many : length row + 1 ≡ hall.passes = as_many hall row all left own new dealt gathered in
    let same : length row ≡ length after = omega (arith, many, have.long) in
    let number' : own ≡ new_pass hall.table (length after) =
    number ∙ ap (λ (m : ℕ). new_pass hall.table m) same in
    let back' : map (λ pass. Some pass) back ≡ passes_of after =
    came ∙ ap (λ (row : List (WorkerView B E L)). passes_of row) (lent n after rest long) in
    (number', back', row_again made view start hall after back pushed own some have back' pushed_is number')
