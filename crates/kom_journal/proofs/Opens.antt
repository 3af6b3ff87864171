-- What is known of a store while it is opened.
use Rattle.std.proofs.Common.{◌≡◌, ◌≢◌, ◌<◌, ◌+◌, ◌^◌, ◌⊎◌, inl, inr, ℕ, true, List, [], ◌∷◌, ◌++◌, length, take}
use Rattle.std.proofs.Common.{drop, ap, sym, subst, ◌∙◌, refl, arith, map}
use Rattle.std.proofs.lemmas.List.{append-nil, length_push, take_at, drop_at}
use Rattle.kom_types.specs.declared.effects.Effect.{Effect}
use Rattle.kom_model.specs.Db.{Db, empty_db}
use Rattle.kom_model.specs.Effects.{apply_all, all_fit}
use Rattle.batch_log.specs.Batches.{with_length, batches, IsBroken, HasBatches}
use Rattle.batch_log.proofs.Parts.{unique_bodies}
use Rattle.batch_log.specs.Gates.{IsStable}
use Rattle.batch_log.specs.Repair.{Mends}
use Rattle.batch_log.specs.Walk.{IsReadTo}
use Rattle.batch_log.proofs.Ends.{begins_read, before_is, reads_more, reads_end}
use Rattle.kom_journal.specs.Batch.{MakesBatch, IsNoNext}
use Rattle.kom_journal.specs.declared.errors.OpenFault.{OpenFault}
use Rattle.kom_journal.specs.declared.errors.OpenFault.TheVariants as fault
use Rattle.kom_journal.specs.Files.{IsStoreFrom, IsSoundFile, HasOneMore, header, body_of}
use Rattle.kom_journal.specs.Journals.{IsStored}
use Rattle.kom_journal.specs.Opened.{Makes, store_of, IsMadeTo, IsMadeOf, IsLeftOfFile}
use Rattle.kom_journal.specs.Opening.{HasUnfit, IsDamagedAt, IsCauseInFile}
use Rattle.kom_journal.proofs.Sound.{SoundFor, makes_none, makes_more, bodies_more, stands_with, shut_sound}
use Rattle.kom_journal.proofs.Sound.{gated_sound, either_of, one_of}
use Rattle.kom_journal.proofs.Unique.{same_lists, stands_for_one}

tail_of : List ℕ → List ℕ
tail_of [] = []
tail_of (byte ∷ bytes) = bytes

tails : {a b : List ℕ} → 1 ∷ a ≡ 1 ∷ b → a ≡ b
unfolding tail_of
tails same = ap tail_of same

module _ (start : List ℕ) (from : Db) where
  -- nothing is made yet
  pub made_none : (at : ℕ) (file : List ℕ) → take at file ≡ start → at < length file
      → IsMadeTo start from at 0 from file
  made_none at file begins long = record {
    lists = [];
    makes = makes_none from;
    read = subst (λ (l : List ℕ). IsReadTo l [] at file) begins (begins_read at file (omega (arith, long)));
    counts = refl;
  }

  -- a batch more
  pub made_more : (at count size : ℕ) (db new : Db) (file : List ℕ) → IsMadeTo start from at count db file
      → MakesBatch size (drop at file) db new → IsMadeTo start from (at + (9 + size)) (count + 1) new file
  made_more at count size db new file made next =
      let lists = made.lists in
      let effects = next.made.effects in
      let body : next.first.body ≡ body_of effects =
      next.made.begins.whole ∙ append-nil (body_of effects) in
      let short : length (body_of effects) < 2 ^ 64 =
      omega (arith, ap length body, next.first.counts, next.first.short) in
      let more : Makes from (lists ++ effects ∷ []) (apply_all effects db) =
      makes_more start from lists db made.makes effects next.made.begins.coded next.made.begins.fit short in
      let read : IsReadTo start (map body_of lists ++ next.first.body ∷ []) (at + (9 + size)) file =
      reads_more start (map body_of lists) at file made.read size next.first in
      let bodies : map body_of lists ++ next.first.body ∷ [] ≡ map body_of (lists ++ effects ∷ []) =
      ap (λ (b : List ℕ). map body_of lists ++ b ∷ []) body ∙ sym (bodies_more lists effects) in
      record {
        lists = lists ++ effects ∷ [];
        makes = subst (Makes from (lists ++ effects ∷ [])) (sym next.made.rows) more;
        read = subst (λ (l : List (List ℕ)). IsReadTo start l (at + (9 + size)) file) bodies read;
        counts = length_push lists effects ∙ ap (λ (n : ℕ). n + 1) made.counts;
      }

  -- an open gate there that stands before no batch that fits
  pub made_damaged : (at count : ℕ) (db : Db) (file more : List ℕ) → IsMadeTo start from at count db file
      → drop at file ≡ 1 ∷ more → IsBroken more ⊎ HasUnfit db more → IsDamagedAt start from at file
  made_damaged at count db file more made is damaged = record {
    batches = made.lists;
    rest = more;
    whole = made.read.whole ∙ ap (λ (l : List ℕ). start ++ batches (map body_of made.lists) ++ l) is;
    at = made.read.at;
    short = made.makes.short;
    coded = made.makes.coded;
    fit = made.makes.fit;
    damaged = subst (λ (d : Db). IsBroken more ⊎ HasUnfit d more) made.makes.rows damaged;
  }

  -- the rows that a file stands for
  module _ (place gate count : ℕ) (db : Db) (file : List ℕ) (of : IsMadeOf start from place gate count db file) where
    before : take place file ≡ store_of start of.made.lists
    before = before_is start (map body_of of.made.lists) place file of.made.read

    pub opened_stands : IsStoreFrom start from db file
    opened_stands =
        stands_with start from of.made.lists db of.made.makes file (gate ∷ of.more)
        (of.made.read.whole ∙ ap (λ (l : List ℕ). store_of start of.made.lists ++ l) of.ends) of.shut

    -- after the repair
    pub repaired_sound : (new : List ℕ) → new ≡ take place file ++ 0 ∷ [] → SoundFor start from db db new
    repaired_sound new is =
        shut_sound start from of.made.lists db of.made.makes new [] (is ∙ ap (λ (l : List ℕ). l ++ 0 ∷ []) before)

    pub repaired_stored : (new : List ℕ) (images : List ℕ → Type 0)
        → IsStable (take place file ++ 0 ∷ []) new images → IsStored start place new images
    repaired_stored new images stable =
        let long : length (take place file) ≡ place = ap length before ∙ sym of.made.read.at in
        let begins : take place new ≡ take place file =
        ap (take place) stable.is ∙ take_at (take place file) (0 ∷ []) place long in
        let ends : drop place new ≡ 0 ∷ [] =
        ap (drop place) stable.is ∙ drop_at (take place file) (0 ∷ []) place long in
        record {
          at_rest = record {
            closed = stable.is ∙ ap (λ (l : List ℕ). l ++ 0 ∷ []) (sym begins);
            stable = stable.stable;
          };
          bodies = map body_of of.made.lists;
          read = record {
            whole = stable.is ∙ ap (λ (l : List ℕ). l ++ 0 ∷ []) before
                ∙ ap (λ (l : List ℕ). store_of start of.made.lists ++ l) (sym ends);
            at = of.made.read.at;
            short = of.made.makes.short;
          };
        }

    -- a gate that is not closed, where the file is sound, stands before one more whole batch that fits
    pub further : (sound : IsSoundFile start from file) → gate ≢ 0 → HasOneMore sound.db of.more
    further sound torn =
        let has : HasBatches start (map body_of of.made.lists) file =
        reads_end start (map body_of of.made.lists) place file of.made.read gate of.more of.shut of.ends in
        let same : sound.stands.batches ≡ of.made.lists =
        same_lists sound.stands.batches of.made.lists sound.stands.coded of.made.makes.coded
        (unique_bodies start file (map body_of sound.stands.batches) (map body_of of.made.lists) sound.stands.file
        has) in
        let is : file ≡ store_of start sound.stands.batches ++ gate ∷ of.more =
        of.made.read.whole ∙ ap (λ (l : List ℕ). store_of start of.made.lists ++ l) of.ends
        ∙ ap (λ (l : List (List Effect)). store_of start l ++ gate ∷ of.more) (sym same) in
        elim (sound.ended gate of.more is) [ inl closed ↦ absurd (torn closed) | inr more ↦ more ]

    -- what a stop inside the repair leaves
    pub mends_leave : IsSoundFile start from file → (at : ℕ) (image : List ℕ)
        → Mends (take place file) gate of.more at image
        → IsSoundFile start from image × IsLeftOfFile start from file db image
    mends_leave sound at image (inl (more, is)) =
        let found : SoundFor start from db db image =
        shut_sound start from of.made.lists db of.made.makes image more
        (is ∙ ap (λ (l : List ℕ). l ++ 0 ∷ more) before) in
        (found.sound, inl (one_of start from db image found))
    mends_leave sound at image (inr (torn, (other, is))) =
        let one = further sound torn in
        let rows : sound.db ≡ db = stands_for_one start from file sound.db db sound.stands opened_stands in
        let fit : all_fit one.effects db ≡ true = subst (λ (d : Db). all_fit one.effects d ≡ true) rows one.fit in
        let rest : of.more ≡ with_length (body_of one.effects) ++ 0 ∷ one.more = tails one.whole in
        let found : SoundFor start from db (apply_all one.effects db) image =
        gated_sound start from of.made.lists db of.made.makes image other one.effects one.more one.coded fit one.short
        (is ∙ ap (λ (l : List ℕ). l ++ other ∷ of.more) before
        ∙ ap (λ (l : List ℕ). store_of start of.made.lists ++ other ∷ l) rest) in (
          found.sound,
          elim (either_of start from db (apply_all one.effects db) image found) [
            | inl stands ↦ inl stands
            | inr stands ↦ inr (
              one.effects,
              record {
                lists = of.made.lists;
                makes = of.made.makes;
                gate = gate;
                more = one.more;
                torn = torn;
                whole = of.made.read.whole ∙ ap (λ (l : List ℕ). store_of start of.made.lists ++ l) of.ends
                    ∙ ap (λ (l : List ℕ). store_of start of.made.lists ++ gate ∷ l) rest;
                fit = fit;
              },
              stands,
            )
          ],
        )

-- why no batch is made there
pub cause_there : (at count : ℕ) (db : Db) (file rest : List ℕ) (why : OpenFault)
    → IsMadeTo header empty_db at count db file → drop at file ≡ rest → IsNoNext at rest db why → IsCauseInFile file why
cause_there at count db file rest fault.Fault made is none = tt
cause_there at count db file rest (fault.Foreign place byte) made is none = absurd none
cause_there at count db file rest (fault.Short len) made is none = absurd none
cause_there at count db file rest (fault.Damaged place) made is none =
    subst (λ (p : ℕ). IsDamagedAt header empty_db p file) (sym none.0)
    (made_damaged header empty_db at count db file none.1.0 made (is ∙ none.1.1) none.1.2)
cause_there at count db file rest (fault.Used len) made is none = absurd none
cause_there at count db file rest fault.Memory made is none = tt
