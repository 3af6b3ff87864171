-- How the bytes of a file of batches part into batches and an end, in one way.
use Rattle.std.proofs.Common.{◌≡◌, ◌<◌, ◌+◌, ◌^◌, inl, inr, ℕ, List, [], ◌∷◌, ◌++◌, length, take, drop, refl, sym, ◌∙◌}
use Rattle.std.proofs.Common.{ap, subst, arith, append_assoc, length-append}
use Rattle.std.specs.Int.{w64, to_le_bytes, from_le_bytes}
use Rattle.std.proofs.lemmas.Nat.{from_le_bytes-to_le_bytes_8}
use Rattle.std.proofs.lemmas.List.{take_at, drop_at, append_cancel_left}
use Rattle.batch_log.specs.Batches.{with_length, batch, batches, AreShort, IsEnd, HasBatches, IsBroken, IsBrokenAt}

-- the bytes after those of a list, and those of the list
same_parts : (xs ys x y : List ℕ) → length xs ≡ length ys → xs ++ x ≡ ys ++ y → (xs ≡ ys) × (x ≡ y)
same_parts xs ys x y long same = (
  sym (take_at xs x (length ys) long) ∙ ap (take (length ys)) same ∙ take_at ys y (length ys) refl,
  sym (drop_at xs x (length ys) long) ∙ ap (drop (length ys)) same ∙ drop_at ys y (length ys) refl,
)

length-to_le_bytes : (n : ℕ) → length (to_le_bytes w64 n) ≡ 8
length-to_le_bytes n = refl

pub length-sized : (body : List ℕ) → length (with_length body) ≡ 8 + length body
unfolding with_length
length-sized body =
    length-append (to_le_bytes w64 (length body)) body

-- the length is read from its eight bytes
pub length_of : (body rest : List ℕ) → length body < 2 ^ 64
    → from_le_bytes w64 (take 8 (with_length body ++ rest)) ≡ length body
unfolding with_length
length_of body rest short =
    ap (from_le_bytes w64)
    (ap (take 8) (append_assoc (to_le_bytes w64 (length body)) body rest)
    ∙ take_at (to_le_bytes w64 (length body)) (body ++ rest) 8 (length-to_le_bytes (length body)))
    ∙ from_le_bytes-to_le_bytes_8 (length body) short

-- the body is what follows it
pub rest_of : (body rest : List ℕ) → drop 8 (with_length body ++ rest) ≡ body ++ rest
unfolding with_length
rest_of body rest =
    ap (drop 8) (append_assoc (to_le_bytes w64 (length body)) body rest)
    ∙ drop_at (to_le_bytes w64 (length body)) (body ++ rest) 8 (length-to_le_bytes (length body))

pub same_sized : (a b x y : List ℕ) → length a < 2 ^ 64 → length b < 2 ^ 64 → with_length a ++ x ≡ with_length b ++ y
    → (a ≡ b) × (x ≡ y)
same_sized a b x y short_a short_b same =
    same_parts a b x y
    (sym (length_of a x short_a) ∙ ap (λ (l : List ℕ). from_le_bytes w64 (take 8 l)) same ∙ length_of b y short_b)
    (sym (rest_of a x) ∙ ap (drop 8) same ∙ rest_of b y)

tail_of : List ℕ → List ℕ
tail_of [] = []
tail_of (x ∷ xs) = xs

tail_is : (x : ℕ) (xs : List ℕ) → tail_of (x ∷ xs) ≡ xs
unfolding tail_of
tail_is x xs = refl

-- what stands after the gate of a first batch
pub after_gate : (body : List ℕ) (bodies : List (List ℕ)) (end : List ℕ)
    → batches (body ∷ bodies) ++ end ≡ 1 ∷ (with_length body ++ (batches bodies ++ end))
after_gate body bodies end = append_assoc (batch body) (batches bodies) end

pub same_tails : (a b : List ℕ) (ones twos : List (List ℕ)) (x y : List ℕ)
    → batches (a ∷ ones) ++ x ≡ batches (b ∷ twos) ++ y
    → with_length a ++ (batches ones ++ x) ≡ with_length b ++ (batches twos ++ y)
same_tails a b ones twos x y same =
    sym (tail_is 1 _) ∙ ap tail_of (sym (after_gate a ones x) ∙ same ∙ after_gate b twos y) ∙ tail_is 1 _

-- no end begins with a batch, or with an open gate
pub no_end : (rest end : List ℕ) → end ≡ 1 ∷ rest → IsEnd end → ⊥
no_end rest end same ended = let opens : IsEnd (1 ∷ rest) = subst IsEnd same ended in opens refl

pub same_batches : (ones twos : List (List ℕ)) (x y : List ℕ) → AreShort ones → AreShort twos → IsEnd x → IsEnd y
    → batches ones ++ x ≡ batches twos ++ y → (ones ≡ twos) × (x ≡ y)
same_batches [] [] x y short_a short_b ends_x ends_y same = (refl, same)
same_batches [] (b ∷ twos) x y short_a short_b ends_x ends_y same =
    absurd (no_end _ x (same ∙ after_gate b twos y) ends_x)
same_batches (a ∷ ones) [] x y short_a short_b ends_x ends_y same =
    absurd (no_end _ y (sym same ∙ after_gate a ones x) ends_y)
same_batches (a ∷ ones) (b ∷ twos) x y short_a short_b ends_x ends_y same =
    let first =
    same_sized a b (batches ones ++ x) (batches twos ++ y) short_a.0 short_b.0 (same_tails a b ones twos x y same) in
    let later = same_batches ones twos x y short_a.1 short_b.1 ends_x ends_y first.1 in
    (ap (λ (l : List ℕ). l ∷ ones) first.0 ∙ ap (λ (l : List (List ℕ)). b ∷ l) later.0, later.1)

some_end : (end : List ℕ) → IsEnd end → 0 < length end
some_end [] ended = absurd ended
some_end (gate ∷ rest) ended = omega arith

-- a whole batch with something after it is not broken
pub not_broken : (body after : List ℕ) → length body < 2 ^ 64 → 0 < length after →
    IsBroken (with_length body ++ after) → ⊥
not_broken body after short some broken =
    let long : length (with_length body ++ after) ≡ 8 + length body + length after =
    omega (arith, length-append (with_length body) after, length-sized body) in
    elim broken [
      | inl few ↦ omega (arith, few)
      | inr ends ↦ omega (arith, ends, length_of body after short)
    ]

-- a first batch before an open gate that is broken
broken_tail : (a : List ℕ) (ones : List (List ℕ)) (x rest : List ℕ) → length a < 2 ^ 64 → 0 < length x
    → IsBroken rest → batches (a ∷ ones) ++ x ≡ 1 ∷ rest → ⊥
broken_tail a ones x rest short some broken same =
    let tails : rest ≡ with_length a ++ (batches ones ++ x) =
    sym (tail_is 1 rest) ∙ ap tail_of (sym same ∙ after_gate a ones x) ∙ tail_is 1 _ in
    not_broken a (batches ones ++ x) short (omega (arith, length-append (batches ones) x)) (subst IsBroken tails broken)

no_breaks : (ones twos : List (List ℕ)) (x rest : List ℕ) → AreShort ones → AreShort twos → IsEnd x → IsBroken rest
    → batches ones ++ x ≡ batches twos ++ 1 ∷ rest → ⊥
no_breaks [] [] x rest short_a short_b ended broken same = no_end _ x same ended
no_breaks [] (b ∷ twos) x rest short_a short_b ended broken same =
    no_end _ x (same ∙ after_gate b twos (1 ∷ rest)) ended
no_breaks (a ∷ ones) [] x rest short_a short_b ended broken same =
    broken_tail a ones x rest short_a.0 (some_end x ended) broken same
no_breaks (a ∷ ones) (b ∷ twos) x rest short_a short_b ended broken same =
    let first =
    same_sized a b (batches ones ++ x) (batches twos ++ 1 ∷ rest) short_a.0 short_b.0
    (same_tails a b ones twos x (1 ∷ rest) same) in
    no_breaks ones twos x rest short_a.1 short_b.1 ended broken first.1

same_breaks : (ones twos : List (List ℕ)) (x y : List ℕ) → AreShort ones → AreShort twos → IsBroken x → IsBroken y
    → batches ones ++ 1 ∷ x ≡ batches twos ++ 1 ∷ y → ones ≡ twos
same_breaks [] [] x y short_a short_b broken_x broken_y same = refl
same_breaks [] (b ∷ twos) x y short_a short_b broken_x broken_y same =
    absurd (broken_tail b twos (1 ∷ y) x short_b.0 (omega arith) broken_x (sym same))
same_breaks (a ∷ ones) [] x y short_a short_b broken_x broken_y same =
    absurd (broken_tail a ones (1 ∷ x) y short_a.0 (omega arith) broken_y same)
same_breaks (a ∷ ones) (b ∷ twos) x y short_a short_b broken_x broken_y same =
    let first =
    same_sized a b (batches ones ++ 1 ∷ x) (batches twos ++ 1 ∷ y) short_a.0 short_b.0
    (same_tails a b ones twos (1 ∷ x) (1 ∷ y) same) in
    let later = same_breaks ones twos x y short_a.1 short_b.1 broken_x broken_y first.1 in
    ap (λ (l : List ℕ). l ∷ ones) first.0 ∙ ap (λ (l : List (List ℕ)). b ∷ l) later

-- after the same start the rest is the same
pub same_rest : (start : List ℕ) (ones twos : List (List ℕ)) (x y file : List ℕ) → file ≡ start ++ batches ones ++ x
    → file ≡ start ++ batches twos ++ y → batches ones ++ x ≡ batches twos ++ y
same_rest start ones twos x y file one two =
    append_cancel_left start (batches ones ++ x) (batches twos ++ y)
    (sym (append_assoc start (batches ones) x) ∙ sym one ∙ two ∙ append_assoc start (batches twos) y)

pub unique_bodies : (start file : List ℕ) (bodies others : List (List ℕ)) → HasBatches start bodies file
    → HasBatches start others file → bodies ≡ others
unique_bodies start file bodies others one two =
    (same_batches bodies others one.end two.end one.short two.short one.ended two.ended
    (same_rest start bodies others one.end two.end file one.whole two.whole)).0

pub has_no_break : (start file : List ℕ) (bodies : List (List ℕ)) (place : ℕ) → HasBatches start bodies file
    → IsBrokenAt start place file → ⊥
has_no_break start file bodies place has broken =
    no_breaks bodies broken.bodies has.end broken.rest has.short broken.short has.ended broken.broken
    (same_rest start bodies broken.bodies has.end (1 ∷ broken.rest) file has.whole broken.whole)

pub breaks_once : (start file : List ℕ) (place other : ℕ) → IsBrokenAt start place file
    → IsBrokenAt start other file → place ≡ other
breaks_once start file place other one two =
    one.at
    ∙ ap (λ (l : List (List ℕ)). length (start ++ batches l))
    (same_breaks one.bodies two.bodies one.rest two.rest one.short two.short one.broken two.broken
    (same_rest start one.bodies two.bodies (1 ∷ one.rest) (1 ∷ two.rest) file one.whole two.whole))
    ∙ sym two.at
