-- Images that are sound: a store with a closed gate, and one that a flush was to make longer.
use Rattle.std.proofs.Common.{◌≡◌, ◌≢◌, ◌<◌, ◌^◌, ◌⊎◌, inl, inr, ℕ, Bool, true, false, ◌&&◌, List, [], ◌∷◌, ◌++◌}
use Rattle.std.proofs.Common.{length, append_assoc, ap, sym, subst, ◌∙◌, refl, arith, map}
use Rattle.std.proofs.lemmas.Bool.{cases_eq}
use Rattle.std.proofs.lemmas.Grind.{flat_map-append}
use Rattle.std.proofs.lemmas.List.{append-nil, append_cancel_left, map-append}
use Rattle.std.specs.List.{AllByRecursion}
use Rattle.kom_types.specs.declared.effects.Effect.{Effect}
use Rattle.kom_model.specs.Db.{Db}
use Rattle.kom_model.specs.Effects.{fits, apply, apply_all, all_fit}
use Rattle.batch_log.specs.Batches.{with_length, batch, batches, AreShort, IsEnd}
use Rattle.batch_log.proofs.Ends.{batches_more, short_more}
use Rattle.effect_codec.specs.Coding.{IsInRange}
use Rattle.kom_journal.specs.Files.{IsStoreFrom, IsSoundFile, body_of, all_of}
use Rattle.kom_journal.specs.Opened.{Makes, store_of}
use Rattle.kom_journal.proofs.Spelled.{all_more}

pub and_parts : (a b : Bool) → a && b ≡ true → (a ≡ true) × (b ≡ true)
and_parts true b both = (refl, both)
and_parts false b both = cc

pub and_both : (a b : Bool) → a ≡ true → b ≡ true → a && b ≡ true
and_both a b first second = cc

pub apply_all-append : (ones others : List Effect) (db : Db)
    → apply_all (ones ++ others) db ≡ apply_all others (apply_all ones db)
apply_all-append [] others db = refl
apply_all-append (one ∷ ones) others db = apply_all-append ones others (apply one db)

pub all_fit-append : (ones others : List Effect) (db : Db) → all_fit ones db ≡ true
    → all_fit others (apply_all ones db) ≡ true → all_fit (ones ++ others) db ≡ true
all_fit-append [] others db first second = second
all_fit-append (one ∷ ones) others db first second =
    let both = and_parts (fits one db) (all_fit ones (apply one db)) first in
    and_both _ _ both.0 (all_fit-append ones others (apply one db) both.1 second)

all_of-more : (lists : List (List Effect)) (effects : List Effect)
    → all_of (lists ++ effects ∷ []) ≡ all_of lists ++ effects
all_of-more lists effects =
    flat_map-append (λ (l : List Effect). l) lists (effects ∷ [])
    ∙ ap (λ (l : List Effect). all_of lists ++ l) (append-nil effects)

pub bodies_more : (lists : List (List Effect)) (effects : List Effect)
    → map body_of (lists ++ effects ∷ []) ≡ map body_of lists ++ body_of effects ∷ []
bodies_more lists effects = map-append body_of lists (effects ∷ [])

pub makes_none : (from : Db) → Makes from [] from
makes_none from = record { coded = tt; short = tt; fit = refl; rows = refl }

-- over a start and first rows
module _ (start : List ℕ) (from : Db) where
  -- an image is sound, and stands for the one or the other rows
  pub record SoundFor (db other : Db) (image : List ℕ) : Type 0 where
    pub sound : IsSoundFile start from image
    pub is : (sound.db ≡ db) ⊎ (sound.db ≡ other)

  pub as_first : (db other : Db) (image : List ℕ) → SoundFor db db image → SoundFor db other image
  as_first db other image found = record {
    sound = found.sound;
    is = elim found.is [ inl one ↦ inl one | inr same ↦ inl same ];
  }

  pub as_second : (db other : Db) (image : List ℕ) → SoundFor other other image → SoundFor db other image
  as_second db other image found = record {
    sound = found.sound;
    is = elim found.is [ inl one ↦ inr one | inr same ↦ inr same ];
  }

  module _ (lists : List (List Effect)) (db : Db) (makes : Makes from lists db) where
    pub makes_more : (effects : List Effect) → AllByRecursion IsInRange effects → all_fit effects db ≡ true
        → length (body_of effects) < 2 ^ 64 → Makes from (lists ++ effects ∷ []) (apply_all effects db)
    makes_more effects coded fit short = record {
      coded = all_more (AllByRecursion IsInRange) lists (effects ∷ []) makes.coded (coded, tt);
      short = subst AreShort (sym (bodies_more lists effects))
          (short_more (map body_of lists) (body_of effects) makes.short short);
      fit = ap (λ (l : List Effect). all_fit l from) (all_of-more lists effects)
          ∙ all_fit-append (all_of lists) effects from makes.fit
          (subst (λ (d : Db). all_fit effects d ≡ true) makes.rows fit);
      rows = ap (apply_all effects) makes.rows ∙ sym (apply_all-append (all_of lists) effects from)
          ∙ ap (λ (l : List Effect). apply_all l from) (sym (all_of-more lists effects));
    }

    -- a store of these batches, and an end, stands for these rows
    pub stands_with : (image end : List ℕ) → image ≡ store_of start lists ++ end → IsEnd end
        → IsStoreFrom start from db image
    stands_with image end is ended = record {
      batches = lists;
      file = record { end = end; whole = is; ended = ended; short = makes.short };
      coded = makes.coded;
      fit = makes.fit;
      rows = makes.rows;
    }

    same_gate : (image end : List ℕ) (gate : ℕ) (rest : List ℕ) → image ≡ store_of start lists ++ end
        → image ≡ store_of start lists ++ gate ∷ rest → end ≡ gate ∷ rest
    same_gate image end gate rest one two = append_cancel_left (store_of start lists) end (gate ∷ rest) (sym one ∙ two)

    -- with a closed gate it is sound
    pub shut_sound : (image more : List ℕ) → image ≡ store_of start lists ++ 0 ∷ more → SoundFor db db image
    unfolding stands_with
    shut_sound image more is = record {
      sound = record {
        db = db;
        stands = stands_with image (0 ∷ more) is (λ (opens : 0 ≡ 1). omega (arith, opens));
        ended = λ gate rest also.
            let same : 0 ∷ more ≡ gate ∷ rest = same_gate image (0 ∷ more) gate rest is also in
            let closed : gate ≡ 0 = cc in
            inl closed;
      };
      is = inl refl;
    }

    -- with some other gate before one more whole batch
    pub torn_sound : (image : List ℕ) (gate : ℕ) (effects : List Effect) (more : List ℕ) → gate ≢ 1
        → AllByRecursion IsInRange effects → all_fit effects db ≡ true → length (body_of effects) < 2 ^ 64
        → image ≡ store_of start lists ++ gate ∷ (with_length (body_of effects) ++ 0 ∷ more) → SoundFor db db image
    unfolding stands_with
    torn_sound image gate effects more shut coded fit short is = record {
      sound = record {
        db = db;
        stands = stands_with image (gate ∷ (with_length (body_of effects) ++ 0 ∷ more)) is shut;
        ended = λ other rest also.
            let same : gate ∷ (with_length (body_of effects) ++ 0 ∷ more) ≡ other ∷ rest =
            same_gate image (gate ∷ (with_length (body_of effects) ++ 0 ∷ more)) other rest is also in
            let tails : rest ≡ with_length (body_of effects) ++ 0 ∷ more = cc in
            inr (record {
              effects = effects;
              more = more;
              whole = ap (λ (l : List ℕ). 1 ∷ l) tails;
              coded = coded;
              short = short;
              fit = fit;
            });
      };
      is = inl refl;
    }

  store_more : (lists : List (List Effect)) (effects : List Effect)
      → store_of start (lists ++ effects ∷ []) ≡ store_of start lists ++ batch (body_of effects)
  store_more lists effects =
      ap (λ (l : List (List ℕ)). start ++ batches l) (bodies_more lists effects)
      ∙ ap (λ (l : List ℕ). start ++ l) (batches_more (map body_of lists) (body_of effects))
      ∙ sym (append_assoc start (batches (map body_of lists)) (batch (body_of effects)))

  -- after an open gate stands one batch more
  pub opened_more : (lists : List (List Effect)) (effects : List Effect) (more : List ℕ)
      → store_of start lists ++ 1 ∷ (with_length (body_of effects) ++ more)
      ≡ store_of start (lists ++ effects ∷ []) ++ more
  opened_more lists effects more =
      sym (append_assoc (store_of start lists) (batch (body_of effects)) more)
      ∙ ap (λ (l : List ℕ). l ++ more) (sym (store_more lists effects))

  -- a gate before one more whole batch and a closed gate: open it has the batch too
  pub gated_sound : (lists : List (List Effect)) (db : Db) (makes : Makes from lists db) (image : List ℕ) (gate : ℕ)
      (effects : List Effect) (more : List ℕ) → AllByRecursion IsInRange effects → all_fit effects db ≡ true
      → length (body_of effects) < 2 ^ 64
      → image ≡ store_of start lists ++ gate ∷ (with_length (body_of effects) ++ 0 ∷ more)
      → SoundFor db (apply_all effects db) image
  gated_sound lists db makes image gate effects more coded fit short is =
      elim (cases_eq gate 1) [
        | inr shut ↦ as_first db (apply_all effects db) image
            (torn_sound lists db makes image gate effects more shut coded fit short is)
        | inl opens ↦
            let whole : image ≡ store_of start (lists ++ effects ∷ []) ++ 0 ∷ more =
            is ∙ ap (λ (g : ℕ). store_of start lists ++ g ∷ (with_length (body_of effects) ++ 0 ∷ more)) opens
            ∙ opened_more lists effects (0 ∷ more) in
            as_second db (apply_all effects db) image
            (shut_sound (lists ++ effects ∷ []) (apply_all effects db)
            (makes_more lists db makes effects coded fit short) image more whole)
      ]

  pub either_of : (db other : Db) (image : List ℕ) → SoundFor db other image
      → IsStoreFrom start from db image ⊎ IsStoreFrom start from other image
  either_of db other image found =
      elim found.is [
        | inl is ↦ inl (subst (λ (d : Db). IsStoreFrom start from d image) is found.sound.stands)
        | inr is ↦ inr (subst (λ (d : Db). IsStoreFrom start from d image) is found.sound.stands)
      ]

  pub one_of : (db : Db) (image : List ℕ) → SoundFor db db image → IsStoreFrom start from db image
  one_of db image found = elim (either_of db db image found) [ inl one ↦ one | inr other ↦ other ]
