-- Why a store is not opened, and what that comes to.
use Rattle.std.proofs.Common.{◌≡◌, ◌⊎◌, ℕ, Bool, true, false, ◌||◌, List, Option, Some, None, Result, Ok, Err, inl, inr}
use Rattle.std.proofs.Common.{refl, sym, ap, subst, ◌∙◌, arith}
use Rattle.std.proofs.lemmas.Bool.{false≢true, true≢false}
use Rattle.std.specs.Prelude.{IsTrue, OnOk, OnErr, is_err}
use Rattle.kom_commands.specs.declared.cases.Cases.{Cases}
use Rattle.kom_disk.specs.Faults.{Rose}
use Rattle.kom_links.specs.Doors.{IsFound}
use Rattle.kom_journal.specs.declared.errors.OpenFault.{OpenFault}
use Rattle.kom_journal.specs.declared.errors.OpenFault.TheVariants as fault
use Rattle.kom_journal.specs.Images.{Image, as_read, IsCause}
use Rattle.store_check.specs.Stores.{IsNoStore, IfFound, IsWrong, is_of_content, is_memory}

-- a file whose content is why it is not opened is no store
pub of_content : (image : Image) (why : OpenFault) → is_of_content why ≡ true → IsCause image why → IsNoStore image
of_content image fault.Fault is cause = absurd (false≢true is)
of_content image (fault.Foreign place byte) is cause = inl (place, byte, cause)
of_content image (fault.Short len) is cause = inr (inl (len, cause))
of_content image (fault.Damaged place) is cause = inr (inr (place, cause))
of_content image (fault.Used len) is cause = absurd cause
of_content image fault.Memory is cause = absurd (false≢true is)

first_wrong : (a b c d e f : Bool) → a ≡ true → (a || b || c || d || e || f) ≡ true
first_wrong true b c d e f is = refl
first_wrong false b c d e f is = absurd (false≢true is)

second_wrong : (a b c d e f : Bool) → b ≡ true → (a || b || c || d || e || f) ≡ true
second_wrong true b c d e f is = refl
second_wrong false true c d e f is = refl
second_wrong false false c d e f is = absurd (false≢true is)

fourth_wrong : (a b c d e f : Bool) → d ≡ true → (a || b || c || d || e || f) ≡ true
fourth_wrong true b c d e f is = refl
fourth_wrong false true c d e f is = refl
fourth_wrong false false true d e f is = refl
fourth_wrong false false false true e f is = refl
fourth_wrong false false false false e f is = absurd (false≢true is)

pub failed_wrong : (cases : Cases) → IsTrue cases.store_failed → IsWrong cases
failed_wrong cases is =
    first_wrong cases.store_failed cases.is_unfit cases.gate_failed cases.no_memory cases.is_refused
    cases.is_given_up is

unfit_wrong : (cases : Cases) → IsTrue cases.is_unfit → IsWrong cases
unfit_wrong cases is =
    second_wrong cases.store_failed cases.is_unfit cases.gate_failed cases.no_memory cases.is_refused
    cases.is_given_up is

pub memory_wrong : (cases : Cases) → IsTrue cases.no_memory → IsWrong cases
memory_wrong cases is =
    fourth_wrong cases.store_failed cases.is_unfit cases.gate_failed cases.no_memory cases.is_refused
    cases.is_given_up is

-- a store that is not opened, or not made, is a case of some kind
pub wrong_of : (why : OpenFault) (cases : Cases) → (why ≡ fault.Fault → IsTrue cases.store_failed) →
    cases.is_unfit ≡ is_of_content why → cases.no_memory ≡ is_memory why → IsWrong cases
wrong_of fault.Fault cases failed unfit memory = failed_wrong cases (failed refl)
wrong_of (fault.Foreign place byte) cases failed unfit memory = unfit_wrong cases unfit
wrong_of (fault.Short len) cases failed unfit memory = unfit_wrong cases unfit
wrong_of (fault.Damaged place) cases failed unfit memory = unfit_wrong cases unfit
wrong_of (fault.Used len) cases failed unfit memory = unfit_wrong cases unfit
wrong_of fault.Memory cases failed unfit memory = memory_wrong cases memory

-- faults that rose from none are some
some_rose : (before after : ℕ) → before ≡ 0 → Rose before after → after ≡ 0 → ⊥
some_rose before after none (inl more) zero = omega arith
some_rose before after none (inr most) zero = omega arith

-- the same of a disk that had not failed before
pub unopened_wrong : (why : OpenFault) (cases : Cases) (before after counted : ℕ) → before ≡ 0 → counted ≡ after →
    (why ≡ fault.Fault → Rose before after) → ((counted ≡ 0 → ⊥) → IsTrue cases.store_failed) →
    cases.is_unfit ≡ is_of_content why → cases.no_memory ≡ is_memory why → IsWrong cases
unopened_wrong why cases before after counted none is rose failed unfit memory =
    wrong_of why cases (λ stopped. failed (λ zero. some_rose before after none (rose stopped) (sym is ∙ zero))) unfit
    memory

-- memory ran out, or what comes of the value holds
pub wrong_or : {X E : Type 0} (told : Result X E) (cases : Cases) (P Q : Type 0) → cases.no_memory ≡ is_err told →
    OnOk told P → (P → Q) → IsWrong cases ⊎ Q
wrong_or (Ok value) cases P Q memory put so = inr (so put)
wrong_or (Err fault) cases P Q memory put so = inl (memory_wrong cases memory)

-- what a refusal leaves, where memory ran out and nothing else was wrong
pub untold_so : {X E : Type 0} (told : Result X E) (failed : Bool) (P : Type 0) → failed ≡ is_err told →
    OnErr told P → (failed || false || false) ≡ true → P
untold_so (Ok value) true P is left wrong = absurd (true≢false is)
untold_so (Ok value) false P is left wrong = absurd (false≢true wrong)
untold_so (Err fault) failed P is left wrong = left

-- the same bytes read as the same image
same_read : {D E : Type 0} (bytes : D → List ℕ) (found : E → List ℕ) (disk : D) (path : E) → bytes disk ≡ found path →
    as_read bytes disk ≡ as_read found path
unfolding as_read
same_read bytes found disk path is =
    let image : List ℕ → Image = λ file. record { file = file } in
    ap image is

-- a fact of what a disk that was opened reads is one of the path
pub found_so : {D : Type 0} (tells : Bool) (files : Option (List ℕ → List ℕ)) (path : List ℕ) (bytes : D → List ℕ)
    (disk : D) (faults : ℕ) (P : Image → Type 0) → IsFound tells files path (bytes disk) faults →
    (IsTrue tells → P (as_read bytes disk)) → IfFound tells files path P
found_so tells None path bytes disk faults P found holds told = tt
found_so tells (Some files) path bytes disk faults P found holds told =
    subst P (same_read bytes files disk path (found.found told)) (holds told)
