-- Lists of pairs of rising locals.
--     gap_goes, gap_left       the pairs after a gap move down over it
--     get_taken                an element within the first n
--     take_get                 one more of the first k
--     shown_length, shown_at   what a block shows of its places
--     AllFrom-*, AllBelow-*    what holds of every local
--     rising_below, rising_at, rising_from     one local tells of all before it, or of all after it
use Rattle.std.proofs.Common.{◌≡◌, ℕ, zero, suc, ◌<◌, ◌≤◌, List, [], ◌∷◌, ◌++◌, length, take, drop, get_or, set}
use Rattle.std.proofs.Common.{slice_get, Some, refl, sym, ap, subst, ◌∙◌, arith}
use Rattle.std.specs.List.{remove}
use Rattle.std.proofs.lemmas.List.{drop-set-lt, length-take-le}
use Rattle.std.proofs.lemmas.List.Edits.{remove-append_left}
use Rattle.std.proofs.Math.Seq.{take-suc, take-suc-set}
use Rattle.map_chain.specs.Pairs.{Pair, AllBelow, AllFrom, IsRising, IsBlock, highest}

module _ {X : Type 0} where
  get_or-drop_zero : (n : ℕ) (l : List X) (z : X) → get_or (drop n l) 0 z ≡ get_or l n z
  get_or-drop_zero zero l z = refl
  get_or-drop_zero (suc n) [] z = refl
  get_or-drop_zero (suc n) (x ∷ xs) z = get_or-drop_zero n xs z

  drop-one : (n : ℕ) (l : List X) → drop (suc n) l ≡ drop 1 (drop n l)
  drop-one zero l = refl
  drop-one (suc n) [] = refl
  drop-one (suc n) (x ∷ xs) = drop-one n xs

  pub gap_goes : (d ps : List X) (k j : ℕ) (z : X) → k ≤ j → suc j < length d → length ps ≡ length d
      → take j ps ≡ remove (take (suc j) d) k → drop (suc j) ps ≡ drop (suc j) d
      → take (suc j) (set ps j (get_or ps (suc j) z)) ≡ remove (take (suc (suc j)) d) k
  gap_goes d ps k j z le m same before after =
      let l = length-take-le (suc j) d (omega arith) in
      let x : get_or ps (suc j) z ≡ get_or d (suc j) z = sym (get_or-drop_zero (suc j) ps z)
      ∙ ap (λ (l : List X). get_or l 0 z) after ∙ get_or-drop_zero (suc j) d z in
      take-suc-set ps j (get_or ps (suc j) z) (omega arith) ∙ (λ i. before i ++ x i ∷ [])
      ∙ sym (ap (λ (l : List X). remove l k) (take-suc d (suc j) z m)
      ∙ remove-append_left (take (suc j) d) (get_or d (suc j) z ∷ []) k (omega arith))

  pub gap_left : (d ps : List X) (j : ℕ) (x : X) → drop (suc j) ps ≡ drop (suc j) d
      → drop (suc (suc j)) (set ps j x) ≡ drop (suc (suc j)) d
  gap_left d ps j x after = drop-set-lt (suc (suc j)) ps j x (omega arith) ∙ drop-one (suc j) ps ∙ ap (drop 1) after
      ∙ sym (drop-one (suc j) d)

  pub get_taken : (xs : List X) (n i : ℕ) (d : X) → i < n → i < length xs
      → slice_get (take n xs) i ≡ Some (get_or xs i d)
  get_taken [] n i d h m = absurd (omega arith)
  get_taken (x ∷ xs) zero i d h m = absurd (omega arith)
  get_taken (x ∷ xs) (suc n) zero d h m = refl
  get_taken (x ∷ xs) (suc n) (suc i) d h m = get_taken xs n i d (omega arith) (omega arith)

pub take_get : {X : Type 0} (xs : List X) (k : ℕ) (q : X) → slice_get xs k ≡ Some q
    → take (suc k) xs ≡ take k xs ++ q ∷ []
take_get [] k q e = cc
take_get (x ∷ xs) zero q e = let at : x ≡ q = cc in ap (λ y. y ∷ []) at
take_get (x ∷ xs) (suc k) q e = ap (λ l. x ∷ l) (take_get xs k q e)

pub AllFrom-weaken : (m n : ℕ) (ps : List Pair) → m ≤ n → AllFrom n ps → AllFrom m ps
AllFrom-weaken m n [] le a = tt
AllFrom-weaken m n (p ∷ ps) le a = let first : n ≤ p.0 = a.0 in (omega arith, AllFrom-weaken m n ps le a.1)

pub AllFrom-at : (n : ℕ) (ps : List Pair) (i : ℕ) (q : Pair) → AllFrom n ps → slice_get ps i ≡ Some q → n ≤ q.0
AllFrom-at n [] i q a e = cc
AllFrom-at n (p ∷ ps) zero q a e = let at : p ≡ q = cc in subst (λ (r : Pair). n ≤ r.0) at a.0
AllFrom-at n (p ∷ ps) (suc i) q a e = AllFrom-at n ps i q a.1 e

-- a local below n, and so all before it
pub rising_below : (n : ℕ) (ps : List Pair) (i : ℕ) (q : Pair) → IsRising ps → slice_get ps i ≡ Some q → q.0 < n
    → AllBelow n (take (suc i) ps)
rising_below n [] i q r e h = cc
rising_below n (p ∷ ps) zero q r e h = let at : p ≡ q = cc in (subst (λ (r : Pair). r.0 < n) (sym at) h, tt)
rising_below n (p ∷ ps) (suc i) q r e h =
    let first : suc p.0 ≤ q.0 = AllFrom-at (suc p.0) ps i q r.0 e in (omega arith, rising_below n ps i q r.1 e h)

-- a local, and so all before it are below
pub rising_at : (n : ℕ) (ps : List Pair) (i : ℕ) (q : Pair) → IsRising ps → slice_get ps i ≡ Some q → q.0 ≤ n
    → AllBelow n (take i ps)
rising_at n [] i q r e h = cc
rising_at n (p ∷ ps) zero q r e h = tt
rising_at n (p ∷ ps) (suc i) q r e h =
    let first : suc p.0 ≤ q.0 = AllFrom-at (suc p.0) ps i q r.0 e in (omega arith, rising_at n ps i q r.1 e h)

-- a local of n or above, and so all after it
pub rising_from : (n : ℕ) (ps : List Pair) (i : ℕ) (q : Pair) → IsRising ps → slice_get ps i ≡ Some q → n ≤ q.0
    → AllFrom n (drop i ps)
rising_from n [] i q r e h = cc
rising_from n (p ∷ ps) zero q r e h =
    let at : p ≡ q = cc in
    let low : n ≤ p.0 = subst (λ (r : Pair). n ≤ r.0) (sym at) h in
    (low, AllFrom-weaken n (suc p.0) ps (omega arith) r.0)
rising_from n (p ∷ ps) (suc i) q r e h = rising_from n ps i q r.1 e h

pub highest-push : (ps : List Pair) (q : Pair) → highest (ps ++ q ∷ []) ≡ q.0
highest-push [] q = refl
highest-push (p ∷ []) q = refl
highest-push (p ∷ r ∷ ps) q = highest-push (r ∷ ps) q

-- the last of the first n pairs
pub highest-take : (ps : List Pair) (n : ℕ) (d : Pair) → n < length ps → highest (take (suc n) ps) ≡ (get_or ps n d).0
highest-take ps n d h = ap highest (take-suc ps n d h) ∙ highest-push (take n ps) (get_or ps n d)

-- a block shows as many pairs as it has
pub shown_length : (len high : ℕ) (pairs now : List Pair) → IsBlock len high pairs → take len pairs ≡ now
    → length now ≡ len
shown_length len high pairs now v is =
    let full = v.full in let within = v.within in
    sym (ap (λ (ps : List Pair). length ps) is) ∙ length-take-le len pairs (omega arith)

-- and each from its place
pub shown_at : (len high : ℕ) (pairs now : List Pair) → IsBlock len high pairs → take len pairs ≡ now
    → (m : ℕ) → m < len → slice_get now m ≡ Some (get_or pairs m (0, 0))
shown_at len high pairs now v is m h =
    let full = v.full in let within = v.within in
    subst (λ (ps : List Pair). slice_get ps m ≡ Some (get_or pairs m (0, 0))) is
    (get_taken pairs len m (0, 0) h (omega arith))
