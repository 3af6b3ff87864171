-- What a file stands for, read up to the gate after its last batch, by what stands there.
use Rattle.std.proofs.Common.{◌≡◌, ◌≢◌, ◌<◌, ◌≤◌, ◌+◌, ◌^◌, ◌⊎◌, inl, inr, ℕ, List, [], ◌∷◌, ◌++◌, length, take, drop}
use Rattle.std.proofs.Common.{sym, ◌∙◌, ap, subst, arith, append_assoc, length-append, take-append-drop, Some}
use Rattle.std.proofs.lemmas.Bool.{cases_eq}
use Rattle.std.proofs.lemmas.List.{take_at, drop_at, drop-drop, append-nil, length-take-le}
use Rattle.std.proofs.lemmas.Grind.{flat_map-append}
use Rattle.batch_log.specs.Batches.{with_length, batch, batches, AreShort, IsEnd, HasBatches, IsBroken, IsBrokenAt}
use Rattle.batch_log.specs.Gates.{IsShut, IsGated, IsShutOrWhole, chunk_of}
use Rattle.batch_log.specs.Log.{flush_of}
use Rattle.batch_log.specs.Repair.{IsWholeAfter, Mends}
use Rattle.batch_log.specs.Walk.{IsReadTo, HasFirst, IsWalked}
use Rattle.batch_log.proofs.Parts.{length-sized}

-- one batch after others
pub batches_more : (bodies : List (List ℕ)) (body : List ℕ)
    → batches (bodies ++ body ∷ []) ≡ batches bodies ++ batch body
batches_more bodies body =
    flat_map-append batch bodies (body ∷ []) ∙ ap (λ (l : List ℕ). batches bodies ++ l) (append-nil (batch body))

pub short_more : (bodies : List (List ℕ)) (body : List ℕ) → AreShort bodies → length body < 2 ^ 64
    → AreShort (bodies ++ body ∷ [])
short_more [] body short last = (last, tt)
short_more (first ∷ bodies) body short last = (short.0, short_more bodies body short.1 last)

-- nothing is read yet
pub begins_read : (place : ℕ) (file : List ℕ) → place ≤ length file → IsReadTo (take place file) [] place file
begins_read place file within = record {
  whole = sym (take-append-drop place file)
      ∙ ap (λ (l : List ℕ). l ++ drop place file) (sym (append-nil (take place file)));
  at = sym (length-take-le place file within) ∙ ap length (sym (append-nil (take place file)));
  short = tt;
}

module _ (start : List ℕ) (bodies : List (List ℕ)) (place : ℕ) (file : List ℕ)
    (read : IsReadTo start bodies place file) where
  pub before_is : take place file ≡ start ++ batches bodies
  before_is =
      ap (take place) read.whole ∙ take_at (start ++ batches bodies) (drop place file) place (sym read.at)

  -- a closed gate there ends the same batches
  pub shut_has : (at : ℕ) (image : List ℕ) → IsShut (take place file) at image → HasBatches start bodies image
  shut_has at image shut = record {
    end = 0 ∷ shut.0;
    whole = shut.1 ∙ ap (λ (l : List ℕ). l ++ 0 ∷ shut.0) before_is;
    ended = λ (is : 0 ≡ 1). omega (arith, is);
    short = read.short;
  }

  -- some gate there, before a whole batch and an end, ends them or opens one more
  pub gated_has : (body end : List ℕ) → length body < 2 ^ 64 → IsEnd end → (at : ℕ) (image : List ℕ)
      → IsGated (take place file) (with_length body ++ end) at image
      → HasBatches start bodies image ⊎ HasBatches start (bodies ++ body ∷ []) image
  gated_has body end fits ended at image (gate, is) =
      elim (cases_eq gate 1) [
        | inr shut ↦ inl (record {
          end = gate ∷ (with_length body ++ end);
          whole = is ∙ ap (λ (l : List ℕ). l ++ gate ∷ (with_length body ++ end)) before_is;
          ended = shut;
          short = read.short;
        })
        | inl opens ↦ inr (record {
          end = end;
          whole = is ∙ ap (λ (l : List ℕ). l ++ gate ∷ (with_length body ++ end)) before_is
              ∙ ap (λ (g : ℕ). start ++ batches bodies ++ g ∷ (with_length body ++ end)) opens
              ∙ sym (append_assoc (start ++ batches bodies) (batch body) end)
              ∙ ap (λ (l : List ℕ). l ++ end)
              (append_assoc start (batches bodies) (batch body)
              ∙ ap (λ (l : List ℕ). start ++ l) (sym (batches_more bodies body)));
          ended = ended;
          short = short_more bodies body read.short fits;
        })
      ]

  -- a batch there is one more
  pub reads_more : (size : ℕ) (first : HasFirst size (drop place file))
      → IsReadTo start (bodies ++ first.body ∷ []) (place + (9 + size)) file
  reads_more size first =
      let long : length (batch first.body) ≡ 9 + size = omega (arith, length-sized first.body, first.counts) in
      let rest : drop (place + (9 + size)) file ≡ first.gate ∷ first.after =
      sym (drop-drop (9 + size) place file) ∙ ap (drop (9 + size)) first.whole
      ∙ drop_at (batch first.body) (first.gate ∷ first.after) (9 + size) long in
      let more : start ++ batches (bodies ++ first.body ∷ []) ≡ start ++ batches bodies ++ batch first.body =
      ap (λ (l : List ℕ). start ++ l) (batches_more bodies first.body)
      ∙ sym (append_assoc start (batches bodies) (batch first.body)) in
      record {
        whole = read.whole ∙ ap (λ (l : List ℕ). start ++ batches bodies ++ l) first.whole
            ∙ sym (append_assoc (start ++ batches bodies) (batch first.body) (first.gate ∷ first.after))
            ∙ ap (λ (l : List ℕ). l ++ first.gate ∷ first.after) (sym more)
            ∙ ap (λ (l : List ℕ). start ++ batches (bodies ++ first.body ∷ []) ++ l) (sym rest);
        at = omega (
          arith,
          ap length more,
          length-append (start ++ batches bodies) (batch first.body),
          long,
          read.at,
        );
        short = short_more bodies first.body read.short (omega (arith, first.counts, first.short));
      }

  -- a gate there that is not open ends them
  pub reads_end : (gate : ℕ) (more : List ℕ) → gate ≢ 1 → drop place file ≡ gate ∷ more
      → HasBatches start bodies file
  reads_end gate more shut is = record {
    end = gate ∷ more;
    whole = read.whole ∙ ap (λ (l : List ℕ). start ++ batches bodies ++ l) is;
    ended = shut;
    short = read.short;
  }

  pub reads_broken : (more : List ℕ) → drop place file ≡ 1 ∷ more → IsBroken more → IsBrokenAt start place file
  reads_broken more is broken = record {
    bodies = bodies;
    rest = more;
    whole = read.whole ∙ ap (λ (l : List ℕ). start ++ batches bodies ++ l) is;
    at = read.at;
    broken = broken;
    short = read.short;
  }

  -- what is left of a flush ends the same batches, or has the flushed one too
  pub flush_has : (body : List ℕ) → length body < 2 ^ 64 → (at : ℕ) (image : List ℕ)
      → IsShutOrWhole (take place file) (chunk_of body) at image
      → HasBatches start bodies image ⊎ HasBatches start (bodies ++ body ∷ []) image
  flush_has body fits at image (inl shut) = inl (shut_has at image shut)
  flush_has body fits at image (inr gated) =
      gated_has body (0 ∷ []) fits (λ (is : 0 ≡ 1). omega (arith, is)) at image gated

  -- and of a repair, or has the one that stood after a torn gate
  pub repair_has : (gate : ℕ) (rest body : List ℕ) → (gate ≢ 0 → IsWholeAfter body rest) → (at : ℕ) (image : List ℕ)
      → Mends (take place file) gate rest at image
      → HasBatches start bodies image ⊎ HasBatches start (bodies ++ body ∷ []) image
  repair_has gate rest body whole at image (inl shut) = inl (shut_has at image shut)
  repair_has gate rest body whole at image (inr (torn, gated)) =
      let w = whole torn in
      gated_has body w.end w.short w.ended at image
      (subst (λ (l : List ℕ). IsGated (take place file) l at image) w.whole gated)

  -- after a flush its batch is read too, and ends the file
  flush_is : (body : List ℕ)
      → start ++ batches (bodies ++ flush_of body) ≡ take place file ++ batches (flush_of body)
  flush_is body =
      ap (λ (l : List ℕ). start ++ l) (flat_map-append batch bodies (flush_of body))
      ∙ sym (append_assoc start (batches bodies) (batches (flush_of body)))
      ∙ ap (λ (l : List ℕ). l ++ batches (flush_of body)) (sym before_is)

  flushed_short : (body : List ℕ) → length body < 2 ^ 64 → AreShort (bodies ++ flush_of body)
  flushed_short [] fits = subst AreShort (sym (append-nil bodies)) read.short
  flushed_short (byte ∷ bytes) fits = short_more bodies (byte ∷ bytes) read.short fits

  pub flush_reads : (body new : List ℕ) → length body < 2 ^ 64
      → new ≡ take place file ++ batches (flush_of body) ++ 0 ∷ []
      → IsReadTo start (bodies ++ flush_of body) (place + length (batches (flush_of body))) new
  flush_reads body new fits is =
      let more = flush_is body in
      let long : length (take place file ++ batches (flush_of body)) ≡ place + length (batches (flush_of body)) =
      omega (arith, length-append (take place file) (batches (flush_of body)), ap length before_is, read.at) in
      let after : drop (place + length (batches (flush_of body))) new ≡ 0 ∷ [] =
      ap (drop (place + length (batches (flush_of body)))) is
      ∙ drop_at (take place file ++ batches (flush_of body)) (0 ∷ []) (place + length (batches (flush_of body))) long in
      record {
        whole = is ∙ ap (λ (l : List ℕ). l ++ 0 ∷ []) (sym more)
            ∙ ap (λ (l : List ℕ). start ++ batches (bodies ++ flush_of body) ++ l) (sym after);
        at = sym long ∙ ap length (sym more);
        short = flushed_short body fits;
      }

  pub flush_ends : (body new : List ℕ) → length body < 2 ^ 64
      → new ≡ take place file ++ batches (flush_of body) ++ 0 ∷ [] → HasBatches start (bodies ++ flush_of body) new
  flush_ends body new fits is = record {
    end = 0 ∷ [];
    whole = is ∙ ap (λ (l : List ℕ). l ++ 0 ∷ []) (sym (flush_is body));
    ended = λ (opens : 0 ≡ 1). omega (arith, opens);
    short = flushed_short body fits;
  }

pub walks_over_all : (start file : List ℕ) (place count gate : ℕ) → IsWalked start file place count (Some gate)
    → (bodies : List (List ℕ)) × HasBatches start bodies file × (length bodies ≡ count)
walks_over_all start file place count gate (bodies, read, counts, shut, (more, is)) =
    (bodies, reads_end start bodies place file read gate more shut is, counts)
