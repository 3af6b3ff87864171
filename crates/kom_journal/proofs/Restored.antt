-- What the parts of a snapshot make of the rows, one after the other.
use Rattle.std.proofs.Common.{◌≡◌, ◌<◌, ◌==◌, ℕ, Bool, true, false, ◌&&◌, List, [], ◌∷◌, ◌++◌, length, drop}
use Rattle.std.proofs.Common.{Result, Ok, Err, IfOk, Option, Some, None, append_assoc, ap, sym, subst, ◌∙◌, refl}
use Rattle.std.proofs.Common.{arith, cond, inl, inr}
use Rattle.std.proofs.lemmas.Bool.{cases_Bool, eqb-true}
use Rattle.std.proofs.lemmas.List.{append-nil, drop_at}
use Rattle.std.specs.List.{AllByRecursion}
use Rattle.kom_types.specs.declared.effects.Effect.{Effect}
use Rattle.kom_types.specs.declared.raised.Raised.{Raised}
use Rattle.kom_model.specs.Db.{Db, empty_db}
use Rattle.kom_model.specs.Effects.{fits, apply, apply_all, all_fit}
use Rattle.kom_model.specs.Raising.{may_raise, raised_in}
use Rattle.kom_snapshot.specs.Snapshot.{raise_all, all_may_raise}
use Rattle.effect_codec.specs.Coding.{coded_effect, effect_at, IsInRange}
use Rattle.effect_codec.specs.Fields.{Whole, Short, Wrong}
use Rattle.effect_codec.specs.Parts.{coded_raised, raised_at, IsRaisedInRange}
use Rattle.effect_codec.proofs.Counters.{raised_again, raised_wrong, raised_apart}
use Rattle.effect_codec.proofs.Effects.{effect_again, begins_no_other}
use Rattle.kom_journal.specs.Files.{body_of}
use Rattle.kom_journal.specs.Opening.{BeginsUnfit}
use Rattle.kom_journal.specs.Reading.{MakesOne, MakesNext, ComesNext}
use Rattle.kom_journal.specs.Snapshots.{coded_counters, IsSnapshotOf, IsNoSnapshot, Restores, MakesSnapshot, IsNoRest}
use Rattle.kom_journal.specs.declared.restoring.SnapshotMaker.{SnapshotMaker}
use Rattle.kom_journal.proofs.Reading.{short_unfit}
use Rattle.kom_journal.proofs.Sound.{and_both, and_parts}
use Rattle.kom_journal.proofs.Spelled.{never_empty}

-- no effects stand before what begins with a counter
none_before : (effects : List Effect) (raised : List Raised) (given : Raised) (rest : List ℕ)
    → AllByRecursion IsInRange effects → body_of effects ++ coded_counters raised ≡ coded_raised given ++ rest
    → effects ≡ []
none_before [] raised given rest coded same = refl
none_before (one ∷ more) raised given rest coded same =
    absurd (raised_apart one given (body_of more ++ coded_counters raised) rest coded.0
    (sym (append_assoc (coded_effect one) (body_of more) (coded_counters raised)) ∙ same))

-- the counter that counters begin with
record FirstIs (given : Raised) (raised : List Raised) (rest : List ℕ) : Type 0 where
  pub others : List Raised
  pub is : raised ≡ given ∷ others
  pub after : coded_counters others ≡ rest

first_is : (raised : List Raised) (given : Raised) (rest : List ℕ) → AllByRecursion IsRaisedInRange raised
    → IsRaisedInRange given → coded_counters raised ≡ coded_raised given ++ rest → FirstIs given raised rest
first_is [] given rest coded range same = absurd (cc same)
first_is (one ∷ others) given rest coded range same =
    let read : Whole one (coded_counters others) ≡ Whole given rest =
    sym (raised_again one (coded_counters others) coded.0) ∙ ap raised_at same ∙ raised_again given rest range in
    let is : one ≡ given = cc in
    let after : coded_counters others ≡ rest = cc in
    record { others = others; is = ap (λ (g : Raised). g ∷ others) is; after = after }

-- counters alone
record Counts (db : Db) (bytes : List ℕ) (last : Db) : Type 0 where
  pub raised : List Raised
  pub whole : bytes ≡ coded_counters raised
  pub coded : AllByRecursion IsRaisedInRange raised
  pub may : all_may_raise raised db ≡ true
  pub rows : last ≡ raise_all raised db

restored : (counting : Bool) (db : Db) (bytes : List ℕ) (last : Db) → Counts db bytes last
    → Restores counting db bytes last
restored counting db bytes last counts = record {
  effects = [];
  raised = counts.raised;
  whole = counts.whole;
  none = λ is. refl;
  coded = tt;
  raised_coded = counts.coded;
  fit = refl;
  may = counts.may;
  rows = counts.rows;
}

counts_of : (counting : Bool) (db : Db) (bytes : List ℕ) (last : Db) (left : Restores counting db bytes last)
    → left.effects ≡ [] → Counts db bytes last
counts_of counting db bytes last left none = record {
  raised = left.raised;
  whole = left.whole ∙ ap (λ (l : List Effect). body_of l ++ coded_counters left.raised) none;
  coded = left.raised_coded;
  may = subst (λ (l : List Effect). all_may_raise left.raised (apply_all l db) ≡ true) none left.may;
  rows = left.rows ∙ ap (λ (l : List Effect). raise_all left.raised (apply_all l db)) none;
}

-- a counter comes next
module _ (counting : Bool) (db : Db) (given : Raised) (bytes rest : List ℕ) (is : bytes ≡ coded_raised given ++ rest)
    (range : IsRaisedInRange given) where
  record CountsOn (last : Db) : Type 0 where
    pub may : may_raise given db ≡ true
    pub counts : Counts (raised_in given db) rest last

  counts_on : (last : Db) → Restores counting db bytes last → CountsOn last
  counts_on last left =
      let none : left.effects ≡ [] =
      none_before left.effects left.raised given rest left.coded (sym left.whole ∙ is) in
      let counts = counts_of counting db bytes last left none in
      let first = first_is counts.raised given rest counts.coded range (sym counts.whole ∙ is) in
      let may : all_may_raise (given ∷ first.others) db ≡ true =
      subst (λ (l : List Raised). all_may_raise l db ≡ true) first.is counts.may in
      let both = and_parts (may_raise given db) (all_may_raise first.others (raised_in given db)) may in
      let coded : AllByRecursion IsRaisedInRange (given ∷ first.others) =
      subst (AllByRecursion IsRaisedInRange) first.is counts.coded in
      record {
        may = both.0;
        counts = record {
          raised = first.others;
          whole = sym first.after;
          coded = coded.1;
          may = both.1;
          rows = counts.rows ∙ ap (λ (l : List Raised). raise_all l db) first.is;
        };
      }

  counter_leads : may_raise given db ≡ true → MakesSnapshot counting db true (raised_in given db) bytes rest
  counter_leads may last = (
    λ left.
        let counts = counts_of true (raised_in given db) rest last left (left.none refl) in
        restored counting db bytes last (record {
          raised = given ∷ counts.raised;
          whole = is ∙ ap (λ (l : List ℕ). coded_raised given ++ l) counts.whole;
          coded = (range, counts.coded);
          may = and_both (may_raise given db) (all_may_raise counts.raised (raised_in given db)) may counts.may;
          rows = counts.rows;
        }),
    λ whole. restored true (raised_in given db) rest last (counts_on last whole).counts,
  )

  counter_refused : may_raise given db ≡ false → IsNoRest counting db bytes
  counter_refused may last left =
      let wrong : true ≡ false = sym (counts_on last left).may ∙ may in
      cc wrong

-- a counter that was raised, whatever follows
pub counter_comes : (counting : Bool) (old new : Db) (given : Raised) (bytes rest more : List ℕ)
    → bytes ≡ coded_raised given ++ rest → IsRaisedInRange given → may_raise given old ≡ true
    → new ≡ raised_in given old → MakesSnapshot counting old true new (bytes ++ more) (rest ++ more)
counter_comes counting old new given bytes rest more is range may rows =
    subst (λ (d : Db). MakesSnapshot counting old true d (bytes ++ more) (rest ++ more)) (sym rows)
    (counter_leads counting old given (bytes ++ more) (rest ++ more)
    (ap (λ (l : List ℕ). l ++ more) is ∙ append_assoc (coded_raised given) rest more) range may)

pub counter_unfit : (counting : Bool) (db : Db) (given : Raised) (bytes rest more : List ℕ)
    → bytes ≡ coded_raised given ++ rest → IsRaisedInRange given → may_raise given db ≡ false
    → IsNoRest counting db (bytes ++ more)
counter_unfit counting db given bytes rest more is range may =
    counter_refused counting db given (bytes ++ more) (rest ++ more)
    (ap (λ (l : List ℕ). l ++ more) is ∙ append_assoc (coded_raised given) rest more) range may

-- what begins as a counter does begins with no effect
short_apart : (bytes : List ℕ) → raised_at bytes ≡ Short → (one : Effect) (rest : List ℕ) → IsInRange one
    → bytes ≡ coded_effect one ++ rest → ⊥
short_apart [] short one rest range is = never_empty one rest range is
short_apart (kind ∷ bytes) short one rest range is = elim (cases_Bool (kind == 25)) [
  | inl same ↦
      let whole : effect_at (25 ∷ bytes) ≡ Whole one rest =
      ap (λ (n : ℕ). effect_at (n ∷ bytes)) (sym (eqb-true kind 25 same)) ∙ ap effect_at is
      ∙ effect_again one rest range in
      let wrong : Wrong ≡ Whole one rest = whole in
      cc wrong
  | inr other ↦ let wrong : Wrong ≡ Short = rw other at short in cc wrong
]

-- the bytes of what is left, by the first part of it
module _ (db : Db) (bytes : List ℕ) (nothing : bytes ≡ [] → ⊥)
    (counter : (one : Raised) (rest : List ℕ) → IsRaisedInRange one → bytes ≡ coded_raised one ++ rest → ⊥) where
  by_counter : (raised : List Raised) → AllByRecursion IsRaisedInRange raised → bytes ≡ coded_counters raised → ⊥
  by_counter [] coded is = nothing is
  by_counter (one ∷ others) coded is = counter one (coded_counters others) coded.0 is

  by_first :
      ((one : Effect) (rest : List ℕ) → IsInRange one → fits one db ≡ true → bytes ≡ coded_effect one ++ rest → ⊥)
      → (effects : List Effect) (raised : List Raised) → AllByRecursion IsInRange effects
      → AllByRecursion IsRaisedInRange raised → all_fit effects db ≡ true
      → bytes ≡ body_of effects ++ coded_counters raised → ⊥
  by_first effect [] raised coded raised_coded fit is = by_counter raised raised_coded is
  by_first effect (one ∷ more) raised coded raised_coded fit is =
      effect one (body_of more ++ coded_counters raised) coded.0
      (and_parts (fits one db) (all_fit more (apply one db)) fit).0
      (is ∙ append_assoc (coded_effect one) (body_of more) (coded_counters raised))

no_bytes : (bytes : List ℕ) → 0 < length bytes → bytes ≡ [] → ⊥
no_bytes bytes some none = omega (arith, some, ap length none)

wrong_some : (bytes more : List ℕ) → raised_at bytes ≡ Wrong → bytes ++ more ≡ [] → ⊥
wrong_some [] more wrong none = let same : Short ≡ Wrong = wrong in cc same
wrong_some (byte ∷ bytes) more wrong none = cc none

-- some of a counter
pub counter_lacks : (counting : Bool) (db : Db) (bytes : List ℕ) → raised_at bytes ≡ Short → 0 < length bytes
    → IsNoRest counting db bytes
counter_lacks counting db bytes short some last left =
    by_first db bytes (no_bytes bytes some)
    (λ one rest range is.
    let read : Short ≡ Whole one rest = sym short ∙ ap raised_at is ∙ raised_again one rest range in
    cc read)
    (λ one rest range fit is. short_apart bytes short one rest range is) left.effects left.raised left.coded
    left.raised_coded left.fit left.whole

-- no counter, after counters
pub counting_unfit : (db : Db) (bytes : List ℕ) → raised_at bytes ≡ Wrong → (more : List ℕ)
    → IsNoRest true db (bytes ++ more)
counting_unfit db bytes wrong more last left =
    let counts = counts_of true db (bytes ++ more) last left (left.none refl) in
    by_counter db (bytes ++ more) (wrong_some bytes more wrong)
    (λ one rest range is. raised_wrong one bytes more rest range wrong is) counts.raised counts.coded counts.whole

-- no effect that fits, and no counter
pub effect_unfit : (db : Db) (bytes : List ℕ) → raised_at bytes ≡ Wrong
    → ((more : List ℕ) → BeginsUnfit db (bytes ++ more)) → (more : List ℕ) → IsNoRest false db (bytes ++ more)
effect_unfit db bytes wrong unfit more last left =
    by_first db (bytes ++ more) (wrong_some bytes more wrong)
    (λ one rest range is. raised_wrong one bytes more rest range wrong is)
    (λ one rest range fit is. unfit more one rest range is fit) left.effects left.raised left.coded left.raised_coded
    left.fit left.whole

effect_lacks : (db : Db) (bytes : List ℕ) → raised_at bytes ≡ Wrong → effect_at bytes ≡ Short → IsNoRest false db bytes
effect_lacks db bytes wrong short last left =
    by_first db bytes (λ none. wrong_some bytes [] wrong (append-nil bytes ∙ none))
    (λ one rest range is. raised_wrong one bytes [] rest range wrong (append-nil bytes ∙ is))
    (λ one rest range fit is. short_unfit db bytes short one rest range is fit) left.effects left.raised left.coded
    left.raised_coded left.fit left.whole

-- an effect comes next
record EffectIs (one : Effect) (effects : List Effect) (raised : List Raised) (rest : List ℕ) : Type 0 where
  pub others : List Effect
  pub is : effects ≡ one ∷ others
  pub after : body_of others ++ coded_counters raised ≡ rest

no_counter : (raised : List Raised) (one : Effect) (rest : List ℕ) → IsInRange one
    → coded_counters raised ≡ coded_effect one ++ rest → ⊥
no_counter [] one rest range same = never_empty one rest range same
no_counter (first ∷ others) one rest range same = raised_apart one first rest (coded_counters others) range (sym same)

effect_is : (effects : List Effect) (raised : List Raised) (one : Effect) (rest : List ℕ)
    → AllByRecursion IsInRange effects → IsInRange one
    → body_of effects ++ coded_counters raised ≡ coded_effect one ++ rest → EffectIs one effects raised rest
effect_is [] raised one rest coded range same = absurd (no_counter raised one rest range same)
effect_is (first ∷ others) raised one rest coded range same =
    let both = begins_no_other first one (body_of others ++ coded_counters raised) rest coded.0 range
    (sym (append_assoc (coded_effect first) (body_of others) (coded_counters raised)) ∙ same) in
    record { others = others; is = ap (λ (e : Effect). e ∷ others) both.0; after = both.1 }

no_true : {P : Type 0} → false ≡ true → P
no_true is = absurd (cc is)

effect_leads : (db : Db) (one : Effect) (bytes rest : List ℕ) → bytes ≡ coded_effect one ++ rest → IsInRange one
    → fits one db ≡ true → MakesSnapshot false db false (apply one db) bytes rest
effect_leads db one bytes rest is range fit last = (
  λ left. record {
    effects = one ∷ left.effects;
    raised = left.raised;
    whole = is ∙ ap (λ (l : List ℕ). coded_effect one ++ l) left.whole
        ∙ sym (append_assoc (coded_effect one) (body_of left.effects) (coded_counters left.raised));
    none = no_true;
    coded = (range, left.coded);
    raised_coded = left.raised_coded;
    fit = and_both (fits one db) (all_fit left.effects (apply one db)) fit left.fit;
    may = left.may;
    rows = left.rows;
  },
  λ whole.
      let first = effect_is whole.effects whole.raised one rest whole.coded range (sym whole.whole ∙ is) in
      let coded : AllByRecursion IsInRange (one ∷ first.others) =
      subst (AllByRecursion IsInRange) first.is whole.coded in
      let fits_all : all_fit (one ∷ first.others) db ≡ true =
      subst (λ (l : List Effect). all_fit l db ≡ true) first.is whole.fit in
      record {
        effects = first.others;
        raised = whole.raised;
        whole = sym first.after;
        none = no_true;
        coded = coded.1;
        raised_coded = whole.raised_coded;
        fit = (and_parts (fits one db) (all_fit first.others (apply one db)) fits_all).1;
        may = subst (λ (l : List Effect). all_may_raise whole.raised (apply_all l db) ≡ true) first.is whole.may;
        rows = whole.rows ∙ ap (λ (l : List Effect). raise_all whole.raised (apply_all l db)) first.is;
      },
)

-- an effect that was made, or was to come
pub effect_made : (bytes : List ℕ) (old new : Db) (len : ℕ) → MakesOne bytes old new len → (more : List ℕ)
    → MakesSnapshot false old false new (bytes ++ more) (drop len bytes ++ more)
effect_made bytes old new len next more =
    subst (λ (d : Db). MakesSnapshot false old false d (bytes ++ more) (drop len bytes ++ more)) (sym next.rows)
    (effect_leads old next.effect (bytes ++ more) (drop len bytes ++ more)
    (ap (λ (l : List ℕ). l ++ more) next.whole ∙ append_assoc (coded_effect next.effect) (drop len bytes) more)
    next.coded next.fit)

-- a whole snapshot
stands_if : (sound : Bool) (made db : Db) → cond sound (Some made) None ≡ Some db → (sound ≡ true) × (db ≡ made)
stands_if true made db is = let same : db ≡ made = cc in (refl, same)
stands_if false made db is = absurd (cc is)

stands_true : (sound : Bool) (made db : Db) → sound ≡ true → db ≡ made → cond sound (Some made) None ≡ Some db
stands_true true made db sound is = ap Some (sym is)
stands_true false made db sound is = no_true sound

pub of_snapshot : (db : Db) (bytes : List ℕ) → IsSnapshotOf db bytes → Restores false empty_db bytes db
of_snapshot db bytes is =
    let effects = is.snapshot.effects in
    let raised = is.snapshot.raised in
    let made = apply_all effects empty_db in
    let sound = stands_if (all_fit effects empty_db && all_may_raise raised made) (raise_all raised made) db
    is.stands in
    let both = and_parts (all_fit effects empty_db) (all_may_raise raised made) sound.0 in
    record {
      effects = effects;
      raised = raised;
      whole = is.whole;
      none = no_true;
      coded = is.coded;
      raised_coded = is.raised_coded;
      fit = both.0;
      may = both.1;
      rows = sound.1;
    }

pub as_snapshot : (db : Db) (bytes : List ℕ) → Restores false empty_db bytes db → IsSnapshotOf db bytes
as_snapshot db bytes left =
    let made = apply_all left.effects empty_db in
    record {
      snapshot = record { effects = left.effects; raised = left.raised };
      whole = left.whole;
      coded = left.coded;
      raised_coded = left.raised_coded;
      stands = stands_true (all_fit left.effects empty_db && all_may_raise left.raised made)
          (raise_all left.raised made) db
          (and_both (all_fit left.effects empty_db) (all_may_raise left.raised made) left.fit left.may) left.rows;
    }

pub no_snapshot : (bytes : List ℕ) → IsNoRest false empty_db bytes → IsNoSnapshot bytes
no_snapshot bytes none db is = none db (of_snapshot db bytes is)

-- nothing is left
left_none : (counting : Bool) (db : Db) → Restores counting db [] db
left_none counting db =
    restored counting db [] db (record { raised = []; whole = refl; coded = tt; may = refl; rows = refl })

pub all_made : (was counting : Bool) (old new : Db) (bytes : List ℕ) → was ≡ false → old ≡ empty_db
    → MakesSnapshot was old counting new bytes [] → IsSnapshotOf new bytes
all_made was counting old new bytes started empty made =
    as_snapshot new bytes
    (subst (λ (b : Bool). Restores b empty_db bytes new) started
    (subst (λ (d : Db). Restores was d bytes new) empty ((made new).0 (left_none counting new))))

pub none_made : (was : Bool) (old : Db) (bytes : List ℕ) → was ≡ false → old ≡ empty_db → IsNoRest was old bytes
    → IsNoSnapshot bytes
none_made was old bytes started empty none =
    no_snapshot bytes
    (subst (λ (b : Bool). IsNoRest b empty_db bytes) started (subst (λ (d : Db). IsNoRest was d bytes) empty none))

-- bytes are a snapshot in one way
same_counters : (ones others : List Raised) → AllByRecursion IsRaisedInRange ones
    → AllByRecursion IsRaisedInRange others → coded_counters ones ≡ coded_counters others → ones ≡ others
same_counters [] [] in_one in_other same = refl
same_counters [] (other ∷ others) in_one in_other same = absurd (cc same)
same_counters (one ∷ ones) others in_one in_other same =
    let first = first_is others one (coded_counters ones) in_other in_one.0 (sym same) in
    let in_rest : AllByRecursion IsRaisedInRange (one ∷ first.others) =
    subst (AllByRecursion IsRaisedInRange) first.is in_other in
    ap (λ (l : List Raised). one ∷ l) (same_counters ones first.others in_one.1 in_rest.1 (sym first.after))
    ∙ sym first.is

record SameParts (ones others : List Effect) (first second : List Raised) : Type 0 where
  pub effects : ones ≡ others
  pub raised : first ≡ second

same_parts : (ones others : List Effect) (first second : List Raised) → AllByRecursion IsInRange ones
    → AllByRecursion IsInRange others → AllByRecursion IsRaisedInRange first → AllByRecursion IsRaisedInRange second
    → body_of ones ++ coded_counters first ≡ body_of others ++ coded_counters second
    → SameParts ones others first second
same_parts [] [] first second in_one in_other in_first in_second same =
    record { effects = refl; raised = same_counters first second in_first in_second same }
same_parts [] (other ∷ others) first second in_one in_other in_first in_second same =
    absurd (no_counter first other (body_of others ++ coded_counters second) in_other.0
    (same ∙ append_assoc (coded_effect other) (body_of others) (coded_counters second)))
same_parts (one ∷ ones) others first second in_one in_other in_first in_second same =
    let next = effect_is others second one (body_of ones ++ coded_counters first) in_other in_one.0
    (sym same ∙ append_assoc (coded_effect one) (body_of ones) (coded_counters first)) in
    let in_rest : AllByRecursion IsInRange (one ∷ next.others) = subst (AllByRecursion IsInRange) next.is in_other in
    let later = same_parts ones next.others first second in_one.1 in_rest.1 in_first in_second (sym next.after) in
    record {
      effects = ap (λ (l : List Effect). one ∷ l) later.effects ∙ sym next.is;
      raised = later.raised;
    }

pub snapshot_of_one : (bytes : List ℕ) (db other : Db) → IsSnapshotOf db bytes → IsSnapshotOf other bytes → db ≡ other
snapshot_of_one bytes db other one two =
    let first = of_snapshot db bytes one in
    let second = of_snapshot other bytes two in
    let same = same_parts first.effects second.effects first.raised second.raised first.coded second.coded
    first.raised_coded second.raised_coded (sym first.whole ∙ second.whole) in
    first.rows
    ∙ ap (λ (l : List Raised). raise_all l (apply_all first.effects empty_db)) same.raised
    ∙ ap (λ (l : List Effect). raise_all second.raised (apply_all l empty_db)) same.effects
    ∙ sym second.rows

-- what a maker that stands before any counter makes of the next effect
abbrev pub MakerMakes : SnapshotMaker → SnapshotMaker → List ℕ → List ℕ → Type 0
MakerMakes old new bytes rest = MakesSnapshot old.counting old.rows.db new.counting new.rows.db bytes rest

abbrev pub MakerRefuses : SnapshotMaker → List ℕ → Type 0
MakerRefuses maker bytes = IsNoRest maker.counting maker.rows.db bytes

before_counters : (was is : Bool) (old new : Db) (bytes rest : List ℕ) → was ≡ false → is ≡ false
    → MakesSnapshot false old false new bytes rest → MakesSnapshot was old is new bytes rest
before_counters was is old new bytes rest first then makes =
    subst (λ (b : Bool). MakesSnapshot b old is new bytes rest) (sym first)
    (subst (λ (b : Bool). MakesSnapshot false old b new bytes rest) (sym then) makes)

effect_comes : (bytes : List ℕ) (old new : SnapshotMaker) (found : Option ℕ) → old.counting ≡ false
    → new.counting ≡ false → raised_at bytes ≡ Wrong → MakesNext bytes old.rows.db new.rows.db found
    → ComesNext MakerMakes MakerRefuses bytes old new found
effect_comes bytes old new None first then wrong next = (
  λ more. before_counters old.counting new.counting old.rows.db new.rows.db (bytes ++ more) (bytes ++ more) first then
      (subst (λ (d : Db). MakesSnapshot false old.rows.db false d (bytes ++ more) (bytes ++ more)) (sym next.1)
      (λ last. (λ left. left, λ left. left))),
  λ some. subst (λ (b : Bool). IsNoRest b new.rows.db bytes) (sym then) (effect_lacks new.rows.db bytes wrong next.0),
)
effect_comes bytes old new (Some len) first then wrong next = (
  next.some,
  (
    next.within,
    λ more. before_counters old.counting new.counting old.rows.db new.rows.db (bytes ++ more)
        (drop len bytes ++ more) first then (effect_made bytes old.rows.db new.rows.db len next more),
  ),
)

pub effect_found : {E : Type 0} (result : Result (Option ℕ) E) (bytes : List ℕ) (old new : SnapshotMaker)
    → old.counting ≡ false → new.counting ≡ false → raised_at bytes ≡ Wrong
    → IfOk result (MakesNext bytes old.rows.db new.rows.db)
    → IfOk result (ComesNext MakerMakes MakerRefuses bytes old new)
effect_found (Ok found) bytes old new first then wrong next = effect_comes bytes old new found first then wrong next
effect_found (Err why) bytes old new first then wrong next = tt

-- bytes in memory, of which so many were made
module _ (was counting : Bool) (old new : Db) (bytes : List ℕ) (used : ℕ) (started : was ≡ false)
    (empty : old ≡ empty_db)
    (made : (more : List ℕ) → MakesSnapshot was old counting new (bytes ++ more) (drop used bytes ++ more)) where
  made_to : MakesSnapshot was old counting new bytes (drop used bytes)
  made_to =
      subst (λ (l : List ℕ). MakesSnapshot was old counting new l (drop used bytes)) (append-nil bytes)
      (subst (λ (l : List ℕ). MakesSnapshot was old counting new (bytes ++ []) l) (append-nil (drop used bytes))
      (made []))

  pub some_left : IsNoRest counting new (drop used bytes) → IsNoSnapshot bytes
  some_left none =
      none_made was old bytes started empty (λ last whole. none last ((made_to last).1 whole))

  pub none_left : length bytes ≡ used → IsSnapshotOf new bytes
  none_left all =
      let nothing : drop used bytes ≡ [] = ap (drop used) (sym (append-nil bytes)) ∙ drop_at bytes [] used all in
      all_made was counting old new bytes started empty
      (subst (λ (l : List ℕ). MakesSnapshot was old counting new bytes l) nothing made_to)
