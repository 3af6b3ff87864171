-- The chunk of a body, and the file after it is appended.
use Rattle.std.proofs.Common.{◌≡◌, ◌<◌, ◌≤◌, ◌+◌, ◌-◌, ℕ, List, [], ◌∷◌, ◌++◌, length, take, drop, refl, sym, ◌∙◌, ap}
use Rattle.std.proofs.Common.{arith, append_assoc, length-append}
use Rattle.std.proofs.lemmas.List.{take_at, append-nil, length-take-le}
use Rattle.batch_log.specs.Batches.{with_length, batch, batches}
use Rattle.batch_log.specs.Gates.{IsAtRest, IsStable, chunk_of}
use Rattle.batch_log.specs.Log.{flush_of}
use Rattle.batch_log.proofs.Parts.{length-sized, rest_of}

-- without the gate after it, and its length, it is the body
pub unsealed : (items body : List ℕ) (n : ℕ) → items ≡ chunk_of body → n ≡ length items
    → drop 8 (take (n - 1) items) ≡ body
unsealed items body n is counts =
    let long : length (with_length body) ≡ n - 1 =
    omega (arith, counts, ap length is, length-append (with_length body) (0 ∷ [])) in
    ap (λ (l : List ℕ). drop 8 (take (n - 1) l)) is ∙ ap (drop 8) (take_at (with_length body) (0 ∷ []) (n - 1) long)
    ∙ ap (drop 8) (sym (append-nil (with_length body))) ∙ rest_of body [] ∙ append-nil body

-- what a flush of some body appends
pub length-flushed : (body : List ℕ) → 0 < length body → length (batches (flush_of body)) ≡ 9 + length body
length-flushed [] some = absurd (omega (arith, some))
length-flushed (byte ∷ bytes) some =
    ap length (append-nil (batch (byte ∷ bytes))) ∙ omega (arith, length-sized (byte ∷ bytes))

pub one_flushed : (body : List ℕ) → 0 < length body → length (flush_of body) ≡ 1
one_flushed [] some = absurd (omega (arith, some))
one_flushed (byte ∷ bytes) some = refl

-- after it the file is at rest
pub rests_after : (place : ℕ) (bytes body new : List ℕ) (images : List ℕ → Type 0) → place ≤ length bytes
    → IsStable (take place bytes ++ 1 ∷ chunk_of body) new images → IsAtRest (place + (9 + length body)) new images
rests_after place bytes body new images within stable =
    let before = take place bytes in
    let parted : new ≡ before ++ batch body ++ 0 ∷ [] =
    stable.is ∙ sym (append_assoc before (batch body) (0 ∷ [])) in
    let long : length (before ++ batch body) ≡ place + (9 + length body) =
    omega (arith, length-append before (batch body), length-sized body, length-take-le place bytes within) in
    record {
      closed = parted
          ∙ ap (λ (l : List ℕ). l ++ 0 ∷ [])
          (sym (ap (take (place + (9 + length body))) parted
          ∙ take_at (before ++ batch body) (0 ∷ []) (place + (9 + length body)) long));
      stable = stable.stable;
    }
