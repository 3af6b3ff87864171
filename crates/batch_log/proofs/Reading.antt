-- How batches are read from bytes, one after the other.
use Rattle.std.proofs.Common.{◌≡◌, ◌<◌, ◌≤◌, ◌+◌, ◌^◌, ◌⊎◌, inl, inr, ℕ, List, [], ◌∷◌, ◌++◌, length, take, drop}
use Rattle.std.proofs.Common.{get_or, zero, suc, refl, sym, ◌∙◌, ap, subst, arith, append_assoc, length-append}
use Rattle.std.proofs.Common.{take-append-drop}
use Rattle.std.specs.Int.{w64, to_le_bytes, from_le_bytes}
use Rattle.std.proofs.lemmas.Nat.{le_bytes_8}
use Rattle.std.proofs.lemmas.Bool.{cases_eq, cases_lt}
use Rattle.std.proofs.lemmas.List.{length-take, length-take-le, length-drop, get_or-take, get_or-drop, get_or_past}
use Rattle.std.proofs.lemmas.List.{drop_more, drop-drop}
use Rattle.batch_log.specs.Batches.{with_length, batch, batches, AreBytes, HasBatches, IsBroken, IsBrokenAt}

-- a length that eight bytes spell can be written
pub length_fits : (bytes : List ℕ) → AreBytes bytes → from_le_bytes w64 bytes < 2 ^ 64
length_fits bytes are =
    omega (arith, are 0, are 1, are 2, are 3, are 4, are 5, are 6, are 7)

first_bytes : (n : ℕ) (bytes : List ℕ) → AreBytes bytes → AreBytes (take n bytes)
first_bytes n bytes are i =
    elim (cases_lt i n) [
      | inl within ↦ subst (λ (m : ℕ). m < 256) (sym (get_or-take n bytes i 0 within)) (are i)
      | inr past ↦ omega (arith, get_or_past (take n bytes) i 0 (omega (arith, past, length-take n bytes)))
    ]

-- The body that these bytes have after its length, where they are that long.
pub sized_is : (rest : List ℕ) (n : ℕ) → ((i : ℕ) → get_or (take 8 rest) i 0 < 256)
    → n ≡ from_le_bytes w64 (take 8 rest) → 8 + n ≤ length rest
    → rest ≡ with_length (take n (drop 8 rest)) ++ drop (8 + n) rest
unfolding with_length
sized_is rest n are is long =
    let body = take n (drop 8 rest) in
    let counts : length body ≡ n = length-take-le n (drop 8 rest) (omega (arith, length-drop 8 rest)) in
    let size : to_le_bytes w64 (length body) ≡ take 8 rest =
    le_bytes_8 (take 8 rest) (length body) (length-take-le 8 rest (omega (arith, long))) are (counts ∙ is) in
    sym (take-append-drop 8 rest)
    ∙ ap (λ (l : List ℕ). take 8 rest ++ l) (sym (take-append-drop n (drop 8 rest)))
    ∙ sym (append_assoc (take 8 rest) body (drop n (drop 8 rest)))
    ∙ ap (λ (l : List ℕ). l ++ body ++ drop n (drop 8 rest)) (sym size)
    ∙ ap (λ (l : List ℕ). to_le_bytes w64 (length body) ++ body ++ l) (drop-drop n 8 rest)

-- one batch before others
pub first_more : (body file : List ℕ) (bodies : List (List ℕ)) → length body < 2 ^ 64 → HasBatches [] bodies file
    → HasBatches [] (body ∷ bodies) (batch body ++ file)
first_more body file bodies short has = record {
  end = has.end;
  whole = ap (λ (l : List ℕ). batch body ++ l) has.whole ∙ sym (append_assoc (batch body) (batches bodies) has.end);
  ended = has.ended;
  short = (short, has.short);
}

pub first_more_broken : (body file : List ℕ) (place : ℕ) → length body < 2 ^ 64 → IsBrokenAt [] place file
    → IsBrokenAt [] (length (batch body) + place) (batch body ++ file)
first_more_broken body file place short is = record {
  bodies = body ∷ is.bodies;
  rest = is.rest;
  whole = ap (λ (l : List ℕ). batch body ++ l) is.whole
      ∙ sym (append_assoc (batch body) (batches is.bodies) (1 ∷ is.rest));
  at = ap (λ (n : ℕ). length (batch body) + n) is.at ∙ sym (length-append (batch body) (batches is.bodies));
  broken = is.broken;
  short = (short, is.short);
}

-- after a start
pub after_start : (start file : List ℕ) (bodies : List (List ℕ)) → HasBatches [] bodies file
    → HasBatches start bodies (start ++ file)
after_start start file bodies has = record {
  end = has.end;
  whole = ap (λ (l : List ℕ). start ++ l) has.whole ∙ sym (append_assoc start (batches bodies) has.end);
  ended = has.ended;
  short = has.short;
}

pub after_start_broken : (start file : List ℕ) (place : ℕ) → IsBrokenAt [] place file
    → IsBrokenAt start (length start + place) (start ++ file)
after_start_broken start file place is = record {
  bodies = is.bodies;
  rest = is.rest;
  whole = ap (λ (l : List ℕ). start ++ l) is.whole
      ∙ sym (append_assoc start (batches is.bodies) (1 ∷ is.rest));
  at = ap (λ (n : ℕ). length start + n) is.at ∙ sym (length-append start (batches is.bodies));
  broken = is.broken;
  short = is.short;
}

abbrev Parts : List ℕ → Type 0
Parts file = ((bodies : List (List ℕ)) × HasBatches [] bodies file) ⊎ ((place : ℕ) × IsBrokenAt [] place file)

one_more : (body file : List ℕ) → length body < 2 ^ 64 → Parts file → Parts (batch body ++ file)
one_more body file short (inl (bodies, has)) = inl (body ∷ bodies, first_more body file bodies short has)
one_more body file short (inr (place, is)) =
    inr (length (batch body) + place, first_more_broken body file place short is)

-- The bytes after a gate are parted, once all that are fewer are.
module _ (rest : List ℕ) (are : AreBytes rest)
    (again : (gate : ℕ) (after : List ℕ) → length after < length rest → AreBytes after → Parts (gate ∷ after)) where
  unbroken : from_le_bytes w64 (take 8 rest) + 8 < length rest → Parts (1 ∷ rest)
  unbroken long =
      let n = from_le_bytes w64 (take 8 rest) in
      let body = take n (drop 8 rest) in
      let counts : length body ≡ n = length-take-le n (drop 8 rest) (omega (arith, length-drop 8 rest, long)) in
      let after = drop (8 + n + 1) rest in
      let short : length body < 2 ^ 64 = omega (arith, counts, length_fits (take 8 rest) (first_bytes 8 rest are)) in
      let next = get_or rest (8 + n) 0 in
      let more : drop (8 + n) rest ≡ next ∷ after = drop_more rest (8 + n) 0 (omega (arith, long)) in
      let is : 1 ∷ rest ≡ batch body ++ next ∷ after =
      ap (λ (l : List ℕ). 1 ∷ l)
      (sized_is rest n (first_bytes 8 rest are) refl (omega (arith, long))
      ∙ ap (λ (l : List ℕ). with_length body ++ l) more) in
      subst Parts (sym is)
      (one_more body (next ∷ after) short
      (again next after (omega (arith, long, length-drop (8 + n + 1) rest))
      (λ i. subst (λ (m : ℕ). m < 256) (sym (get_or-drop (8 + n + 1) rest i 0)) (are (8 + n + 1 + i)))))

  broken : IsBroken rest → Parts (1 ∷ rest)
  broken is = inr (0, record { bodies = []; rest = rest; whole = refl; at = refl; broken = is; short = tt })

  opened : Parts (1 ∷ rest)
  opened =
      elim (cases_lt (length rest) 8) [
        | inl few ↦ broken (inl few)
        | inr long ↦ elim (cases_lt (from_le_bytes w64 (take 8 rest) + 8) (length rest)) [
          | inl is ↦ unbroken is
          | inr ends ↦ broken (inr (omega (arith, ends)))
        ]
      ]

  parted : (gate : ℕ) → Parts (gate ∷ rest)
  parted gate =
      elim (cases_eq gate 1) [
        | inl opens ↦ subst (λ (g : ℕ). Parts (g ∷ rest)) (sym opens) opened
        | inr shut ↦ inl ([], record { end = gate ∷ rest; whole = refl; ended = shut; short = tt })
      ]

parts : (fuel gate : ℕ) (rest : List ℕ) → length rest < fuel → AreBytes rest → Parts (gate ∷ rest)
parts zero gate rest few are = absurd (omega (arith, few))
parts (suc fuel) gate rest few are =
    parted rest are (λ next after fewer bytes. parts fuel next after (omega (arith, few, fewer)) bytes) gate

pub either : (start : List ℕ) (gate : ℕ) (rest : List ℕ) → AreBytes rest
    → ((bodies : List (List ℕ)) × HasBatches start bodies (start ++ gate ∷ rest))
    ⊎ ((place : ℕ) × IsBrokenAt start place (start ++ gate ∷ rest))
either start gate rest are =
    elim (parts (suc (length rest)) gate rest (omega arith) are) [
      | inl has ↦ inl (has.0, after_start start (gate ∷ rest) has.0 has.1)
      | inr is ↦ inr (length start + is.0, after_start_broken start (gate ∷ rest) is.0 is.1)
    ]
