-- What moving a number into a rising list, or out of it, makes of the list.
use Rattle.std.proofs.Common.{◌≡◌, ℕ, ◌+◌, ◌<◌, ◌≤◌, Bool, true, false, not, List, [], ◌∷◌}
use Rattle.std.proofs.Common.{length, refl, ap, suc, inl, inr, arith}
use Rattle.std.specs.Prelude.{nat_eq, nat_lt, insert, IsTrue}
use Rattle.std.specs.List.{prefix_len}
use Rattle.std.specs.Set.{remove_key, is_member}
use Rattle.std.proofs.lemmas.Bool.{cases_Bool, ne_eqb, le-ltb, ltb-false}
use Rattle.std.proofs.lemmas.Map.Made.{length-remove_key}
use Rattle.sessions.specs.Accepting.{place_among, insert_number, after_move}

-- how many of a list come before its first greater number
abbrev before : ℕ → List ℕ → ℕ
before number list = prefix_len (λ other. not (nat_lt number other)) list

before-within : (number : ℕ) (list : List ℕ) → before number list ≤ length list
before-within number [] = omega arith
before-within number (other ∷ others) =
    let rest : before number others ≤ length others = before-within number others in
    elim (cases_Bool (nat_lt number other)) [
      | inl below ↦ rw below (omega arith)
      | inr above ↦ rw above (omega arith)
    ]

-- where a number has its place
insert-before : (number : ℕ) (list : List ℕ) → insert list (before number list) number ≡ insert_number number list
insert-before number [] = refl
insert-before number (other ∷ others) =
    elim (cases_Bool (nat_lt number other)) [
      | inl below ↦ rw below refl
      | inr above ↦
          let counted : 1 + before number others ≡ suc (before number others) = omega arith in
          rw (above, counted) (ap (λ rest. other ∷ rest) (insert-before number others))
    ]

place_among-before : (number : ℕ) (list : List ℕ) → place_among number list ≡ before number list
place_among-before number list =
    let within : before number list ≤ length list = before-within number list in
    elim (cases_Bool (nat_lt (before number list) (length list))) [
      | inl inside ↦ rw inside refl
      | inr past ↦
          let all : length list ≤ before number list = ltb-false _ _ past in
          rw past (omega arith)
    ]

pub insert_placed : (number : ℕ) (list : List ℕ) →
    insert list (place_among number list) number ≡ insert_number number list
insert_placed number list = rw (place_among-before number list) (insert-before number list)

pub place_among-within : (number : ℕ) (list : List ℕ) → place_among number list ≤ length list
place_among-within number list = rw (place_among-before number list) (before-within number list)

-- a number that is taken out leaves room
pub room_left : (number : ℕ) (list : List ℕ) → IsTrue (is_member nat_eq list number) →
    length (remove_key (nat_eq number) list) + 1 ≡ length list
room_left number list there = length-remove_key (nat_eq number) list there

-- a smaller number before the others stays before them
pub moved-after : (number first : ℕ) (was is : Bool) (list : List ℕ) → first < number →
    after_move number was is (first ∷ list) ≡ first ∷ after_move number was is list
moved-after number first true true list below = refl
moved-after number first true false list below =
    let apart : nat_eq number first ≡ false = ne_eqb _ _ (λ e. omega arith) in rw apart refl
moved-after number first false true list below =
    let past : nat_lt number first ≡ false = le-ltb _ _ (omega arith) in rw past refl
moved-after number first false false list below = refl
