-- A file that stands for rows is not damaged, and one that is damaged is so at one place.
use Rattle.std.proofs.Common.{◌≡◌, ◌<◌, ◌^◌, ◌⊎◌, inl, inr, ℕ, Bool, true, ◌&&◌, List, [], ◌∷◌, ◌++◌, length}
use Rattle.std.proofs.Common.{append_assoc, length-append, ap, sym, subst, ◌∙◌, refl, arith, map}
use Rattle.std.proofs.lemmas.Grind.{flat_map-append}
use Rattle.std.specs.List.{AllByRecursion}
use Rattle.kom_types.specs.declared.effects.Effect.{Effect}
use Rattle.kom_model.specs.Db.{Db}
use Rattle.kom_model.specs.Effects.{fits, apply, apply_all, all_fit}
use Rattle.batch_log.specs.Batches.{with_length, batch, batches, AreShort, IsEnd, IsBroken}
use Rattle.batch_log.proofs.Ends.{batches_more, short_more}
use Rattle.batch_log.proofs.Parts.{no_end, after_gate, same_sized, same_tails, same_rest, not_broken, has_no_break}
use Rattle.effect_codec.specs.Coding.{coded_effect, IsInRange}
use Rattle.effect_codec.proofs.Effects.{begins_no_other}
use Rattle.kom_journal.specs.Files.{IsStoreFrom, body_of, all_of}
use Rattle.kom_journal.specs.Opening.{IsUnfit, HasUnfit, IsDamagedAt}
use Rattle.kom_journal.proofs.Sound.{and_parts, apply_all-append}
use Rattle.kom_journal.proofs.Spelled.{never_empty}
use Rattle.kom_journal.proofs.Unique.{same_effects, same_lists}

-- the batches of a file begin with those before any of its gates
prefix_of : (ones twos : List (List ℕ)) (x y : List ℕ) → AreShort ones → AreShort twos → IsEnd x
    → batches ones ++ x ≡ batches twos ++ y → (more : List (List ℕ)) × (ones ≡ twos ++ more)
prefix_of [] [] x y short_a short_b ended same = ([], refl)
prefix_of (a ∷ ones) [] x y short_a short_b ended same = (a ∷ ones, refl)
prefix_of [] (b ∷ twos) x y short_a short_b ended same =
    absurd (no_end _ x (same ∙ after_gate b twos y) ended)
prefix_of (a ∷ ones) (b ∷ twos) x y short_a short_b ended same =
    let first =
    same_sized a b (batches ones ++ x) (batches twos ++ y) short_a.0 short_b.0 (same_tails a b ones twos x y same) in
    let (more, is) = prefix_of ones twos x y short_a.1 short_b.1 ended first.1 in
    (more, ap (λ (l : List ℕ). l ∷ ones) first.0 ∙ ap (λ (l : List (List ℕ)). b ∷ l) is)

-- and the effects of a body with those before any place in it
effects_prefix : (ones others : List Effect) (rest : List ℕ) → AllByRecursion IsInRange ones
    → AllByRecursion IsInRange others → body_of ones ≡ body_of others ++ rest
    → (more : List Effect) × (ones ≡ others ++ more) × (body_of more ≡ rest)
effects_prefix ones [] rest in_one in_other same = (ones, refl, same)
effects_prefix [] (other ∷ others) rest in_one in_other same =
    absurd (never_empty other (body_of others ++ rest) in_other.0
    (same ∙ append_assoc (coded_effect other) (body_of others) rest))
effects_prefix (one ∷ ones) (other ∷ others) rest in_one in_other same =
    let firsts = begins_no_other one other (body_of ones) (body_of others ++ rest) in_one.0 in_other.0
    (same ∙ append_assoc (coded_effect other) (body_of others) rest) in
    let (more, is, after) = effects_prefix ones others rest in_one.1 in_other.1 firsts.1 in
    (more, ap (λ (e : Effect). e ∷ ones) firsts.0 ∙ ap (λ (l : List Effect). other ∷ l) is, after)

later_fit : (ones others : List Effect) (db : Db) → all_fit (ones ++ others) db ≡ true
    → all_fit others (apply_all ones db) ≡ true
later_fit [] others db fit = fit
later_fit (one ∷ ones) others db fit =
    later_fit ones others (apply one db) (and_parts (fits one db) (all_fit (ones ++ others) (apply one db)) fit).1

earlier_fit : (ones others : List Effect) (db : Db) → all_fit (ones ++ others) db ≡ true → all_fit ones db ≡ true
earlier_fit [] others db fit = refl
earlier_fit (one ∷ ones) others db fit =
    let both = and_parts (fits one db) (all_fit (ones ++ others) (apply one db)) fit in
    let here : fits one db ≡ true = both.0 in
    let after : all_fit ones (apply one db) ≡ true = earlier_fit ones others (apply one db) both.1 in
    ap (λ (b : Bool). b && all_fit ones (apply one db)) here ∙ after

later_all : {X : Type 0} → (P : X → Type 0) (xs ys : List X) → AllByRecursion P (xs ++ ys) → AllByRecursion P ys
later_all P [] ys all = all
later_all P (x ∷ xs) ys all = later_all P xs ys all.1

earlier_all : {X : Type 0} → (P : X → Type 0) (xs ys : List X) → AllByRecursion P (xs ++ ys) → AllByRecursion P xs
earlier_all P [] ys all = tt
earlier_all P (x ∷ xs) ys all = (all.0, earlier_all P xs ys all.1)

-- a body of effects that all fit is not unfit
not_unfit_after : (db : Db) (rest : List ℕ) (more : List Effect) → (rest ≡ [] → ⊥) → AllByRecursion IsInRange more
    → body_of more ≡ rest → all_fit more db ≡ true
    → ((effect : Effect) (after : List ℕ) → IsInRange effect → rest ≡ coded_effect effect ++ after
    → fits effect db ≡ true → ⊥) → ⊥
not_unfit_after db rest [] some coded is fit unfit = some (sym is)
not_unfit_after db rest (one ∷ more) some coded is fit unfit =
    unfit one (body_of more) coded.0 (sym is) (and_parts (fits one db) (all_fit more (apply one db)) fit).0

pub not_unfit : (db : Db) (body : List ℕ) (effects : List Effect) → IsUnfit db body
    → AllByRecursion IsInRange effects → body ≡ body_of effects → all_fit effects db ≡ true → ⊥
not_unfit db body effects unfit coded is fit =
    let (more, split, after) = effects_prefix effects unfit.effects unfit.rest coded unfit.begins.coded
    (sym is ∙ unfit.begins.whole) in
    let fit_all : all_fit (unfit.effects ++ more) db ≡ true =
    ap (λ (l : List Effect). all_fit l db) (sym split) ∙ fit in
    let coded_all : AllByRecursion IsInRange (unfit.effects ++ more) =
    subst (AllByRecursion IsInRange) split coded in
    not_unfit_after (apply_all unfit.effects db) unfit.rest more unfit.more
    (later_all IsInRange unfit.effects more coded_all) after (later_fit unfit.effects more db fit_all) unfit.unfit

-- lists whose bodies begin with these
record Splits (lists : List (List Effect)) (bodies : List (List ℕ)) (body : List ℕ) : Type 0 where
  pub before : List (List Effect)
  pub here : List Effect
  pub after : List (List Effect)
  pub is : lists ≡ before ++ here ∷ after
  pub bodies_before : map body_of before ≡ bodies
  pub body_here : body_of here ≡ body

splits : (lists : List (List Effect)) (bodies : List (List ℕ)) (body : List ℕ) (more : List (List ℕ))
    → map body_of lists ≡ (bodies ++ body ∷ []) ++ more → Splits lists bodies body
splits [] [] body more same = cc
splits [] (first ∷ bodies) body more same = cc
splits (one ∷ lists) [] body more same =
    let here : body_of one ≡ body = cc in
    record { before = []; here = one; after = lists; is = refl; bodies_before = refl; body_here = here }
splits (one ∷ lists) (first ∷ bodies) body more same =
    let here : body_of one ≡ first = cc in
    let rest : map body_of lists ≡ (bodies ++ body ∷ []) ++ more = cc in
    let later = splits lists bodies body more rest in
    record {
      before = one ∷ later.before;
      here = later.here;
      after = later.after;
      is = ap (λ (l : List (List Effect)). one ∷ l) later.is;
      bodies_before = ap (λ (l : List (List ℕ)). body_of one ∷ l) later.bodies_before
          ∙ ap (λ (b : List ℕ). b ∷ bodies) here;
      body_here = later.body_here;
    }

all_of-both : (ones others : List (List Effect)) → all_of (ones ++ others) ≡ all_of ones ++ all_of others
all_of-both ones others = flat_map-append (λ (l : List Effect). l) ones others

tail_of : List ℕ → List ℕ
tail_of [] = []
tail_of (byte ∷ bytes) = bytes

tails : {a b : List ℕ} → 1 ∷ a ≡ 1 ∷ b → a ≡ b
unfolding tail_of
tails same = ap tail_of same

-- before bytes that are no batch that fits stands no further one that does
no_first : (one : List Effect) (more : List (List Effect)) (db : Db) (x y : List ℕ) → length (body_of one) < 2 ^ 64
    → AllByRecursion IsInRange one → all_fit (one ++ all_of more) db ≡ true → IsBroken x ⊎ HasUnfit db x
    → 1 ∷ x ≡ batches (map body_of (one ∷ more)) ++ 1 ∷ y → ⊥
no_first one more db x y short coded fit damaged same =
    let after = batches (map body_of more) ++ 1 ∷ y in
    let is : x ≡ with_length (body_of one) ++ after =
    tails (same ∙ after_gate (body_of one) (map body_of more) (1 ∷ y)) in
    let some : 0 < length after = omega (arith, length-append (batches (map body_of more)) (1 ∷ y)) in
    elim damaged [
      | inl broken ↦ not_broken (body_of one) after short some (subst IsBroken is broken)
      | inr unfit ↦
          let first = same_sized unfit.body (body_of one) unfit.after after unfit.short short (sym unfit.whole ∙ is) in
          not_unfit db unfit.body one unfit.unfit coded first.0 (earlier_fit one (all_of more) db fit)
    ]

-- the batches before two such places are the same
same_before : (ones twos : List (List Effect)) (db : Db) (x y : List ℕ) → AreShort (map body_of ones)
    → AreShort (map body_of twos) → AllByRecursion (AllByRecursion IsInRange) ones
    → AllByRecursion (AllByRecursion IsInRange) twos → all_fit (all_of ones) db ≡ true
    → all_fit (all_of twos) db ≡ true → IsBroken x ⊎ HasUnfit (apply_all (all_of ones) db) x
    → IsBroken y ⊎ HasUnfit (apply_all (all_of twos) db) y
    → batches (map body_of ones) ++ 1 ∷ x ≡ batches (map body_of twos) ++ 1 ∷ y → ones ≡ twos
same_before [] [] db x y short_a short_b in_a in_b fit_a fit_b at_x at_y same = refl
same_before [] (b ∷ twos) db x y short_a short_b in_a in_b fit_a fit_b at_x at_y same =
    absurd (no_first b twos db x y short_b.0 in_b.0 fit_b at_x same)
same_before (a ∷ ones) [] db x y short_a short_b in_a in_b fit_a fit_b at_x at_y same =
    absurd (no_first a ones db y x short_a.0 in_a.0 fit_a at_y (sym same))
same_before (a ∷ ones) (b ∷ twos) db x y short_a short_b in_a in_b fit_a fit_b at_x at_y same =
    let first =
    same_sized (body_of a) (body_of b) (batches (map body_of ones) ++ 1 ∷ x) (batches (map body_of twos) ++ 1 ∷ y)
    short_a.0 short_b.0 (same_tails (body_of a) (body_of b) (map body_of ones) (map body_of twos) (1 ∷ x) (1 ∷ y) same)
    in
    let is : a ≡ b = same_effects a b in_a.0 in_b.0 first.0 in
    let rows : apply_all b db ≡ apply_all a db = ap (λ (e : List Effect). apply_all e db) (sym is) in
    let fit_later : all_fit (all_of twos) (apply_all a db) ≡ true =
    subst (λ (d : Db). all_fit (all_of twos) d ≡ true) rows (later_fit b (all_of twos) db fit_b) in
    let at_x_later : IsBroken x ⊎ HasUnfit (apply_all (all_of ones) (apply_all a db)) x =
    subst (λ (d : Db). IsBroken x ⊎ HasUnfit d x) (apply_all-append a (all_of ones) db) at_x in
    let at_y_later : IsBroken y ⊎ HasUnfit (apply_all (all_of twos) (apply_all a db)) y =
    subst (λ (d : Db). IsBroken y ⊎ HasUnfit d y)
    (apply_all-append b (all_of twos) db ∙ ap (apply_all (all_of twos)) rows) at_y in
    let later =
    same_before ones twos (apply_all a db) x y short_a.1 short_b.1 in_a.1 in_b.1 (later_fit a (all_of ones) db fit_a)
    fit_later at_x_later at_y_later first.1 in
    ap (λ (e : List Effect). e ∷ ones) is ∙ ap (λ (l : List (List Effect)). b ∷ l) later

module _ (start : List ℕ) (from : Db) where
  -- the unfit batch would be one of those that all fit
  unfit_stands : (db : Db) (file : List ℕ) (place : ℕ) (stands : IsStoreFrom start from db file)
      (damaged : IsDamagedAt start from place file) → HasUnfit (apply_all (all_of damaged.batches) from) damaged.rest → ⊥
  unfit_stands db file place stands damaged unfit =
      let lists = damaged.batches in
      let bodies = map body_of lists in
      let body = unfit.body in
      let whole : file ≡ start ++ batches (bodies ++ body ∷ []) ++ unfit.after =
      damaged.whole
      ∙ ap (λ (l : List ℕ). start ++ batches bodies ++ 1 ∷ l) unfit.whole
      ∙ sym (append_assoc (start ++ batches bodies) (batch body) unfit.after)
      ∙ ap (λ (l : List ℕ). l ++ unfit.after)
      (append_assoc start (batches bodies) (batch body)
      ∙ ap (λ (l : List ℕ). start ++ l) (sym (batches_more bodies body))) in
      let rest = same_rest start (map body_of stands.batches) (bodies ++ body ∷ []) stands.file.end unfit.after file
      stands.file.whole whole in
      let (more, prefix) = prefix_of (map body_of stands.batches) (bodies ++ body ∷ []) stands.file.end unfit.after
      stands.file.short (short_more bodies body damaged.short unfit.short) stands.file.ended rest in
      let split = splits stands.batches bodies body more prefix in
      let coded_all = subst (AllByRecursion (AllByRecursion IsInRange)) split.is stands.coded in
      let coded_before = earlier_all (AllByRecursion IsInRange) split.before (split.here ∷ split.after) coded_all in
      let coded_here = (later_all (AllByRecursion IsInRange) split.before (split.here ∷ split.after) coded_all).0 in
      let same : split.before ≡ lists =
      same_lists split.before lists coded_before damaged.coded split.bodies_before in
      let fit_all : all_fit (all_of split.before ++ all_of (split.here ∷ split.after)) from ≡ true =
      ap (λ (l : List Effect). all_fit l from)
      (sym (ap all_of split.is ∙ all_of-both split.before (split.here ∷ split.after))) ∙ stands.fit in
      let fit_here : all_fit split.here (apply_all (all_of split.before) from) ≡ true =
      earlier_fit split.here (all_of split.after) (apply_all (all_of split.before) from)
      (later_fit (all_of split.before) (all_of (split.here ∷ split.after)) from fit_all) in
      not_unfit (apply_all (all_of lists) from) body split.here unfit.unfit coded_here (sym split.body_here)
      (subst (λ (l : List (List Effect)). all_fit split.here (apply_all (all_of l) from) ≡ true) same fit_here)

  -- a file that stands for rows is not damaged
  pub stands_whole : (db : Db) (file : List ℕ) (place : ℕ) → IsStoreFrom start from db file
      → IsDamagedAt start from place file → ⊥
  stands_whole db file place stands damaged =
      elim damaged.damaged [
        | inl broken ↦ has_no_break start file (map body_of stands.batches) place stands.file (record {
          bodies = map body_of damaged.batches;
          rest = damaged.rest;
          whole = damaged.whole;
          at = damaged.at;
          broken = broken;
          short = damaged.short;
        })
        | inr unfit ↦ unfit_stands db file place stands damaged unfit
      ]

  -- a file is damaged at one place
  pub damaged_once : (file : List ℕ) (place other : ℕ) → IsDamagedAt start from place file
      → IsDamagedAt start from other file → place ≡ other
  damaged_once file place other one two =
      one.at
      ∙ ap (λ (l : List (List Effect)). length (start ++ batches (map body_of l)))
      (same_before one.batches two.batches from one.rest two.rest one.short two.short one.coded two.coded one.fit
      two.fit one.damaged two.damaged
      (same_rest start (map body_of one.batches) (map body_of two.batches) (1 ∷ one.rest) (1 ∷ two.rest) file
      one.whole two.whole))
      ∙ sym two.at
