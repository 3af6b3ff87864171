-- An image stands for one state of the rows: its bodies are unique, and a body has one list of effects.
use Rattle.std.proofs.Common.{◌≡◌, ℕ, List, [], ◌∷◌, ap, sym, ◌∙◌, refl, map}
use Rattle.std.specs.List.{AllByRecursion}
use Rattle.kom_types.specs.declared.effects.Effect.{Effect}
use Rattle.kom_model.specs.Db.{Db}
use Rattle.kom_model.specs.Effects.{apply_all}
use Rattle.batch_log.proofs.Parts.{unique_bodies}
use Rattle.effect_codec.specs.Coding.{IsInRange}
use Rattle.effect_codec.proofs.Effects.{begins_no_other}
use Rattle.kom_journal.specs.Files.{IsStoreFrom, body_of, all_of}
use Rattle.kom_journal.proofs.Spelled.{never_empty}

-- a body has one list of effects
pub same_effects : (ones others : List Effect) → AllByRecursion IsInRange ones → AllByRecursion IsInRange others
    → body_of ones ≡ body_of others → ones ≡ others
same_effects [] [] in_one in_other same = refl
same_effects [] (other ∷ others) in_one in_other same =
    absurd (never_empty other (body_of others) in_other.0 same)
same_effects (one ∷ ones) [] in_one in_other same =
    absurd (never_empty one (body_of ones) in_one.0 (sym same))
same_effects (one ∷ ones) (other ∷ others) in_one in_other same =
    let firsts = begins_no_other one other (body_of ones) (body_of others) in_one.0 in_other.0 same in
    let first : one ≡ other = firsts.0 in
    let rest : ones ≡ others = same_effects ones others in_one.1 in_other.1 firsts.1 in
    cc

-- bodies have one list of lists of effects
pub same_lists : (ones others : List (List Effect)) → AllByRecursion (AllByRecursion IsInRange) ones
    → AllByRecursion (AllByRecursion IsInRange) others → map body_of ones ≡ map body_of others → ones ≡ others
same_lists [] [] in_one in_other same = refl
same_lists [] (other ∷ others) in_one in_other same = cc
same_lists (one ∷ ones) [] in_one in_other same = cc
same_lists (one ∷ ones) (other ∷ others) in_one in_other same =
    let head : body_of one ≡ body_of other = cc in
    let tail : map body_of ones ≡ map body_of others = cc in
    let first : one ≡ other = same_effects one other in_one.0 in_other.0 head in
    let rest : ones ≡ others = same_lists ones others in_one.1 in_other.1 tail in
    cc

module _ (start : List ℕ) (from : Db) where
  -- two readings of an image find the same effects
  pub same_stands : (image : List ℕ) (db other : Db) (one : IsStoreFrom start from db image)
      (two : IsStoreFrom start from other image) → one.batches ≡ two.batches
  same_stands image db other one two =
      same_lists one.batches two.batches one.coded two.coded
      (unique_bodies start image (map body_of one.batches) (map body_of two.batches) one.file two.file)

  -- an image stands for one state of the rows
  pub stands_for_one : (image : List ℕ) (db other : Db) → IsStoreFrom start from db image
      → IsStoreFrom start from other image → db ≡ other
  stands_for_one image db other one two =
      one.rows
      ∙ ap (λ (lists : List (List Effect)). apply_all (all_of lists) from) (same_stands image db other one two)
      ∙ sym two.rows
