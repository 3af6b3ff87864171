-- Prefixes of lists that pass a test, and what is after them.
use Rattle.std.proofs.Common.{◌≡◌, ℕ, suc, ◌+◌, ◌≤◌, Bool, true, false, List, [], ◌∷◌, ◌++◌, length, refl, ap}
use Rattle.std.proofs.Common.{inl, inr, arith}
use Rattle.std.specs.List.{take_while, prefix_len}
use Rattle.std.proofs.lemmas.Bool.{cases_Bool}
use Rattle.kom_types.specs.Grammar.{drop_while}

pub take_while-yes : (test : ℕ → Bool) (byte : ℕ) (bytes : List ℕ) → test byte ≡ true
    → take_while test (byte ∷ bytes) ≡ byte ∷ take_while test bytes
take_while-yes test byte bytes passes =
    let one_more : 1 + prefix_len test bytes ≡ suc (prefix_len test bytes) = omega arith in
    rw (passes, one_more) refl

pub take_while-no : (test : ℕ → Bool) (byte : ℕ) (bytes : List ℕ) → test byte ≡ false
    → take_while test (byte ∷ bytes) ≡ []
take_while-no test byte bytes fails = rw fails refl

pub drop_while-yes : (test : ℕ → Bool) (byte : ℕ) (bytes : List ℕ) → test byte ≡ true
    → drop_while test (byte ∷ bytes) ≡ drop_while test bytes
drop_while-yes test byte bytes passes = rw (passes, drop_while) refl

pub drop_while-no : (test : ℕ → Bool) (byte : ℕ) (bytes : List ℕ) → test byte ≡ false
    → drop_while test (byte ∷ bytes) ≡ byte ∷ bytes
drop_while-no test byte bytes fails = rw (fails, drop_while) refl

-- the list is empty, or its first byte fails the test
abbrev pub HeadFails : (ℕ → Bool) → List ℕ → Type 0
HeadFails test [] = Unit {0}
HeadFails test (byte ∷ bytes) = test byte ≡ false

pub head_fails : (test : ℕ → Bool) (bytes : List ℕ) → HeadFails test (drop_while test bytes)
head_fails test [] = tt
head_fails test (byte ∷ bytes) = elim (cases_Bool (test byte)) [
  | inl found ↦ rw (drop_while-yes test byte bytes found) (head_fails test bytes)
  | inr none ↦ rw (drop_while-no test byte bytes none) none
]

pub length-drop_while : (test : ℕ → Bool) (bytes : List ℕ) → length (drop_while test bytes) ≤ length bytes
length-drop_while test [] = omega arith
length-drop_while test (byte ∷ bytes) = elim (cases_Bool (test byte)) [
  | inl found ↦ rw (drop_while-yes test byte bytes found) (omega (arith, length-drop_while test bytes))
  | inr none ↦ rw (drop_while-no test byte bytes none) (omega arith)
]

-- a list is the prefix that passes, and what is after it
pub parted : (test : ℕ → Bool) (bytes : List ℕ) → take_while test bytes ++ drop_while test bytes ≡ bytes
parted test [] = refl
parted test (byte ∷ bytes) = elim (cases_Bool (test byte)) [
  | inl found ↦ rw (take_while-yes test byte bytes found, drop_while-yes test byte bytes found)
      (ap (λ (t : List ℕ). byte ∷ t) (parted test bytes))
  | inr none ↦ rw (take_while-no test byte bytes none, drop_while-no test byte bytes none) refl
]
