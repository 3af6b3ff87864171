-- What a file and its block have of the parts.
use Rattle.std.proofs.Common.{◌≡◌, ◌++◌, ◌∷◌, [], ℕ, Bool, List, Result, Ok, Err, OnOk, sym, ◌∙◌, ap, subst}
use Rattle.std.proofs.Common.{append_assoc}
use Rattle.std.proofs.lemmas.List.{append-nil}
use Rattle.std.specs.List.{AllByRecursion}
use Rattle.std.proofs.lemmas.Grind.{flat_map-append}
use Rattle.kom_types.specs.Parts.{Part}
use Rattle.effect_codec.specs.Parts.{coded_part, IsPartInRange}
use Rattle.store_files.specs.Writing.{SnapshotView, HasSnapshot}
use Rattle.store_snapshots.specs.Coders.{HasParts}
use Rattle.store_snapshots.specs.Snapshots.{coded_parts}

pub one_more : (parts : List Part) (part : Part)
    → coded_parts (parts ++ part ∷ []) ≡ coded_parts parts ++ coded_part part
one_more parts part =
    flat_map-append coded_part parts (part ∷ [])
    ∙ ap (λ (l : List ℕ). coded_parts parts ++ l) (append-nil (coded_part part))

all_more : (parts : List Part) (part : Part) → AllByRecursion IsPartInRange parts → IsPartInRange part
    → AllByRecursion IsPartInRange (parts ++ part ∷ [])
all_more [] part all one = (one, tt)
all_more (first ∷ parts) part all one = (all.0, all_more parts part all.1 one)

module _ {D : Type 0} (tells : Bool) (bytes : D → List ℕ) (size : D → ℕ) where
  -- a block was written
  pub written_block : (parts : List Part) (old new : SnapshotView D) (block after : List ℕ) → after ≡ []
      → (was : HasParts tells bytes size parts old block)
      → HasSnapshot tells bytes size (was.written ++ block) new → HasParts tells bytes size parts new after
  written_block parts old new block after none was has = record {
    written = was.written ++ block;
    has = has;
    whole = was.whole ∙ sym (append-nil (was.written ++ block))
        ∙ ap (λ (l : List ℕ). was.written ++ block ++ l) (sym none);
    coded = was.coded;
  }

  -- a part was added to it
  pub added_part : (parts : List Part) (part : Part) (file : SnapshotView D) (block after : List ℕ)
      → after ≡ block ++ coded_part part → IsPartInRange part → HasParts tells bytes size parts file block
      → HasParts tells bytes size (parts ++ part ∷ []) file after
  added_part parts part file block after is range was = record {
    written = was.written;
    has = was.has;
    whole = one_more parts part ∙ ap (λ (l : List ℕ). l ++ coded_part part) was.whole
        ∙ append_assoc was.written block (coded_part part)
        ∙ ap (λ (l : List ℕ). was.written ++ l) (sym is);
    coded = all_more parts part was.coded range;
  }

  pub added_ok : {T E : Type 0} (result : Result T E) (parts : List Part) (part : Part) (file : SnapshotView D)
      (block after : List ℕ) → OnOk result (after ≡ block ++ coded_part part)
      → OnOk result (IsPartInRange part) → HasParts tells bytes size parts file block
      → OnOk result (HasParts tells bytes size (parts ++ part ∷ []) file after)
  added_ok (Ok value) parts part file block after is range was =
      added_part parts part file block after is range was
  added_ok (Err why) parts part file block after is range was = tt

  -- with nothing that waits, the file has all of them
  pub all_written : {T E : Type 0} (result : Result T E) (parts : List Part) (file : SnapshotView D) (block : List ℕ)
      → OnOk result (HasParts tells bytes size parts file block) → OnOk result (block ≡ [])
      → OnOk result (HasSnapshot tells bytes size (coded_parts parts) file)
  all_written (Ok value) parts file block has none =
      subst (λ (l : List ℕ). HasSnapshot tells bytes size l file)
      (sym (has.whole ∙ ap (λ (l : List ℕ). has.written ++ l) none ∙ append-nil has.written)) has.has
  all_written (Err why) parts file block has none = tt

  -- before the first part
  pub no_parts : (file : SnapshotView D) (block : List ℕ) → HasSnapshot tells bytes size [] file → block ≡ []
      → HasParts tells bytes size [] file block
  no_parts file block has none = record { written = []; has = has; whole = sym none; coded = tt }
