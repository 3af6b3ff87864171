-- What a flush leaves of a store that is at rest.
use Rattle.std.proofs.Common.{◌≡◌, ◌<◌, ◌+◌, ◌^◌, ◌⊎◌, inl, inr, ℕ, true, List, [], ◌∷◌, ◌++◌, length, take}
use Rattle.std.proofs.Common.{append_assoc, ap, sym, subst, ◌∙◌, refl, arith, map}
use Rattle.std.proofs.lemmas.List.{append-nil}
use Rattle.std.specs.List.{AllByRecursion}
use Rattle.kom_types.specs.declared.effects.Effect.{Effect}
use Rattle.kom_model.specs.Db.{Db}
use Rattle.kom_model.specs.Effects.{apply_all, all_fit}
use Rattle.batch_log.specs.Batches.{with_length, batches, HasBatches}
use Rattle.batch_log.specs.Gates.{IsAtRest, IsShutOrWhole, chunk_of}
use Rattle.batch_log.specs.Log.{flush_of}
use Rattle.batch_log.proofs.Ends.{before_is, flush_reads}
use Rattle.batch_log.proofs.Parts.{unique_bodies}
use Rattle.effect_codec.specs.Coding.{IsInRange}
use Rattle.kom_journal.specs.Files.{IsStoreFrom, body_of}
use Rattle.kom_journal.specs.Journals.{IsStored}
use Rattle.kom_journal.specs.Opened.{Makes, store_of}
use Rattle.kom_journal.proofs.Sound.{SoundFor, as_first, shut_sound, gated_sound, makes_more, opened_more}
use Rattle.kom_journal.proofs.Unique.{same_effects}

module _ (start : List ℕ) (from : Db) where
  -- batches that make these rows stand before the closed gate that ends the file
  pub record StandsBefore (db : Db) (place : ℕ) (file : List ℕ) : Type 0 where
    pub batches : List (List Effect)
    pub makes : Makes from batches db
    pub before : take place file ≡ store_of start batches

  pub stands_before : (db : Db) (place : ℕ) (file : List ℕ) (images : List ℕ → Type 0)
      → IsStored start place file images → IsStoreFrom start from db file → StandsBefore db place file
  stands_before db place file images stored stands =
      let bodies = stored.bodies in
      let before = before_is start bodies place file stored.read in
      let has : HasBatches start bodies file = record {
        end = 0 ∷ [];
        whole = stored.at_rest.closed ∙ ap (λ (l : List ℕ). l ++ 0 ∷ []) before;
        ended = λ (opens : 0 ≡ 1). omega (arith, opens);
        short = stored.read.short;
      } in
      let same : bodies ≡ map body_of stands.batches =
      unique_bodies start file bodies (map body_of stands.batches) has stands.file in
      record {
        batches = stands.batches;
        makes = record {
          coded = stands.coded;
          short = stands.file.short;
          fit = stands.fit;
          rows = stands.rows;
        };
        before = before ∙ ap (λ (l : List (List ℕ)). start ++ batches l) same;
      }

  module _ (db : Db) (place : ℕ) (file : List ℕ) (stands : StandsBefore db place file) (effects : List Effect)
      (body : List ℕ) (is_body : body ≡ body_of effects) (coded : AllByRecursion IsInRange effects)
      (fit : all_fit effects db ≡ true) (short : length body < 2 ^ 64) where
    few : length (body_of effects) < 2 ^ 64
    few = subst (λ (l : List ℕ). length l < 2 ^ 64) is_body short

    -- at each moment of it
    pub flush_leaves : (at : ℕ) (image : List ℕ) → IsShutOrWhole (take place file) (chunk_of body) at image
        → SoundFor start from db (apply_all effects db) image
    flush_leaves at image (inl (more, is)) =
        as_first start from db (apply_all effects db) image
        (shut_sound start from stands.batches db stands.makes image more
        (is ∙ ap (λ (l : List ℕ). l ++ 0 ∷ more) stands.before))
    flush_leaves at image (inr (gate, is)) =
        gated_sound start from stands.batches db stands.makes image gate effects [] coded fit few
        (is ∙ ap (λ (l : List ℕ). l ++ gate ∷ chunk_of body) stands.before
        ∙ ap (λ (b : List ℕ). store_of start stands.batches ++ gate ∷ chunk_of b) is_body)

    no_effects : body ≡ [] → effects ≡ []
    no_effects none = same_effects effects [] coded tt (sym is_body ∙ none)

    -- and after it
    flushed_none : (new : List ℕ) → body ≡ [] → new ≡ take place file ++ 0 ∷ []
        → SoundFor start from (apply_all effects db) (apply_all effects db) new
    flushed_none new none is =
        let same : apply_all effects db ≡ db = ap (λ (l : List Effect). apply_all l db) (no_effects none) in
        subst (λ (d : Db). SoundFor start from d d new) (sym same)
        (shut_sound start from stands.batches db stands.makes new []
        (is ∙ ap (λ (l : List ℕ). l ++ 0 ∷ []) stands.before))

    flushed_some : (new : List ℕ) → new ≡ take place file ++ 1 ∷ (with_length body ++ 0 ∷ [])
        → SoundFor start from (apply_all effects db) (apply_all effects db) new
    flushed_some new is =
        let whole = is ∙ ap (λ (l : List ℕ). l ++ 1 ∷ (with_length body ++ 0 ∷ [])) stands.before
        ∙ ap (λ (b : List ℕ). store_of start stands.batches ++ 1 ∷ (with_length b ++ 0 ∷ [])) is_body
        ∙ opened_more start from stands.batches effects (0 ∷ []) in
        shut_sound start from (stands.batches ++ effects ∷ []) (apply_all effects db)
        (makes_more start from stands.batches db stands.makes effects coded fit few) new [] whole

  -- the batches that a flush adds, none of an empty body
  added : (place : ℕ) (file new body : List ℕ) → new ≡ take place file ++ batches (flush_of body) ++ 0 ∷ []
      → ((body ≡ []) × (new ≡ take place file ++ 0 ∷ []))
      ⊎ (new ≡ take place file ++ 1 ∷ (with_length body ++ 0 ∷ []))
  added place file new [] is = inl (refl, is ∙ ap (λ (l : List ℕ). l ++ 0 ∷ []) (append-nil (take place file)))
  added place file new (byte ∷ bytes) is =
      inr (is ∙ append_assoc (take place file) (batches (flush_of (byte ∷ bytes))) (0 ∷ [])
      ∙ ap (λ (l : List ℕ). take place file ++ (l ++ 0 ∷ [])) (append-nil (1 ∷ with_length (byte ∷ bytes))))

  pub flush_leaves_all : (db : Db) (place : ℕ) (file : List ℕ) → StandsBefore db place file → (effects : List Effect)
      (body : List ℕ) → body ≡ body_of effects → AllByRecursion IsInRange effects → all_fit effects db ≡ true
      → length body < 2 ^ 64 → (new : List ℕ) → new ≡ take place file ++ batches (flush_of body) ++ 0 ∷ []
      → SoundFor start from (apply_all effects db) (apply_all effects db) new
  flush_leaves_all db place file stands effects body is_body coded fit short new is =
      elim (added place file new body is) [
        | inl none ↦ flushed_none db place file stands effects body is_body coded fit short new none.0 none.1
        | inr some ↦ flushed_some db place file stands effects body is_body coded fit short new some
      ]

  -- a store at rest goes on after it
  pub stored_after : (place : ℕ) (file : List ℕ) (images : List ℕ → Type 0) → IsStored start place file images
      → (body new : List ℕ) (images_new : List ℕ → Type 0) → length body < 2 ^ 64
      → new ≡ take place file ++ batches (flush_of body) ++ 0 ∷ []
      → IsAtRest (place + length (batches (flush_of body))) new images_new
      → IsStored start (place + length (batches (flush_of body))) new images_new
  stored_after place file images stored body new images_new short is rests = record {
    at_rest = rests;
    bodies = stored.bodies ++ flush_of body;
    read = flush_reads start stored.bodies place file stored.read body new short is;
  }
