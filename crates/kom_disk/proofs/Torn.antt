-- What torn writes and cuts may leave.
use Rattle.std.proofs.Common.{◌≡◌, ◌≤◌, ◌+◌, ◌-◌, ℕ, List, ◌++◌, length, take, drop, max, zero, suc, [], ◌∷◌, refl, sym}
use Rattle.std.proofs.Common.{◌∙◌, ap, arith, append_assoc, length-append}
use Rattle.std.proofs.lemmas.List.{take_all, take_at, drop_at, length-take, length-take-le, length-drop, drop-drop}
use Rattle.kom_disk.specs.Disk.{overwritten, IsTorn, IsShortened, ComesBy}

-- nothing of a cut is there
pub cut_away : (n : ℕ) (bytes : List ℕ) → IsShortened n bytes bytes
cut_away n bytes = record { prefix = take_all (length bytes) bytes (omega arith); no_shorter = omega arith }

pub length-overwritten : (bytes : List ℕ) (at : ℕ) (from : List ℕ) → at ≤ length bytes
    → length (overwritten bytes at from) ≡ max (length bytes) (at + length from)
length-overwritten bytes at from within =
    omega (
      arith,
      length-append (take at bytes ++ from) (drop (at + length from) bytes),
      length-append
          (take at bytes) from,
      length-take-le at bytes within,
      length-drop (at + length from) bytes,
    )

-- a part of a write is left of all of it
pub torn_wider : (at m n : ℕ) (old new : List ℕ) → m ≤ n → IsTorn at m old new → IsTorn at n old new
torn_wider at m n old new within torn = record {
  prefix = torn.prefix;
  suffix = rest new ∙ ap (drop (n - m)) torn.suffix ∙ sym (rest old);
  no_shorter = torn.no_shorter;
  no_longer = omega (arith, torn.no_longer, within);
}
  where
    rest : (l : List ℕ) → drop (at + n) l ≡ drop (n - m) (drop (at + m) l)
    rest l =
        let same : at + n ≡ at + m + (n - m) = omega (arith, within) in
        ap (λ (k : ℕ). drop k l) same ∙ sym (drop-drop (n - m) (at + m) l)

pub comes_wider : (at m n : ℕ) (old new : List ℕ → Type 0) → m ≤ n → ComesBy (IsTorn at m) old new
    → ComesBy (IsTorn at n) old new
comes_wider at m n old new within comes image left =
    let from = comes image left in
    (from.0, from.1, torn_wider at m n from.0 image within from.2)

-- all of a write is there
pub torn_whole : (at : ℕ) (from bytes : List ℕ) → at ≤ length bytes
    → IsTorn at (length from) bytes (overwritten bytes at from)
torn_whole at from bytes within = record {
  prefix =
      ap (take at) (append_assoc (take at bytes) from (drop (at + length from) bytes))
      ∙ take_at (take at bytes) (from ++ drop (at + length from) bytes) at prefix_length;
  suffix = drop_at (take at bytes ++ from) (drop (at + length from) bytes) (at + length from) range_length;
  no_shorter = omega (arith, length-overwritten bytes at from within);
  no_longer = omega (arith, length-overwritten bytes at from within);
}
  where
    prefix_length : length (take at bytes) ≡ at
    prefix_length = length-take-le at bytes within

    range_length : length (take at bytes ++ from) ≡ at + length from
    range_length = omega (arith, length-append (take at bytes) from, prefix_length)

cut_prefix : (n : ℕ) (bytes : List ℕ) → take (length (take n bytes)) bytes ≡ take n bytes
cut_prefix zero bytes = refl
cut_prefix (suc n) [] = refl
cut_prefix (suc n) (b ∷ bytes) = ap (λ (l : List ℕ). b ∷ l) (cut_prefix n bytes)

-- all of a cut is there
pub cut_whole : (n : ℕ) (bytes : List ℕ) → IsShortened n bytes (take n bytes)
cut_whole n bytes = record { prefix = cut_prefix n bytes; no_shorter = omega (arith, length-take n bytes) }
