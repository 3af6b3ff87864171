-- What the reading of bytes comes to, over one effect, a block, and a body.
use Rattle.std.proofs.Common.{◌≡◌, ◌<◌, ◌≤◌, ◌+◌, ◌-◌, ℕ, true, false, List, [], ◌∷◌, ◌++◌, length, take, drop}
use Rattle.std.proofs.Common.{append_assoc, ap, sym, subst, ◌∙◌, refl, arith, length-append, length-drop}
use Rattle.std.proofs.Common.{◌&&◌, is_some, Option, Some, None, Result, Ok, Err, IfOk}
use Rattle.std.proofs.Math.Seq.{take-add}
use Rattle.std.proofs.lemmas.List.{append-nil, drop-drop, drop-take, take_at, take_all, take-take}
use Rattle.std.proofs.lemmas.List.{take-append-le, length-take-le}
use Rattle.batch_log.specs.Walk.{HasFirst}
use Rattle.batch_log.proofs.Parts.{rest_of}
use Rattle.kom_types.specs.declared.effects.Effect.{Effect}
use Rattle.read_ranges.specs.Changed.{rise_after}
use Rattle.kom_model.specs.Db.{Db, membership_of}
use Rattle.kom_state.specs.Room.{Stored}
use Rattle.kom_model.specs.Effects.{fits, apply_all}
use Rattle.effect_codec.specs.Coding.{coded_effect, effect_at, IsInRange}
use Rattle.effect_codec.specs.Fields.{Whole, Short, Wrong}
use Rattle.effect_codec.specs.Faulty.{has_faulty_range, BeginsFaulty}
use Rattle.effect_codec.proofs.Effects.{effect_again, begins_no_other}
use Rattle.effect_codec.proofs.Stays.{stays_wrong}
use Rattle.kom_journal.specs.Files.{body_of}
use Rattle.kom_journal.specs.Opening.{BeginsWith, BeginsUnfit, IsUnfit}
use Rattle.kom_journal.specs.Reading.{MakesNext, ComesNext, MakesPart, MakesRows, part}
use Rattle.kom_journal.proofs.Spelled.{all_more, body_both, never_empty}
use Rattle.kom_journal.proofs.Sound.{apply_all-append, all_fit-append, and_both, and_parts}

-- effects after effects
pub begins_none : (db : Db) (bytes : List ℕ) → BeginsWith [] db bytes bytes
begins_none db bytes = record { whole = refl; coded = tt; fit = refl }

pub begins_on : (ones others : List Effect) (db : Db) (a b c : List ℕ) → BeginsWith ones db a b
    → BeginsWith others (apply_all ones db) b c → BeginsWith (ones ++ others) db a c
begins_on ones others db a b c first second = record {
  whole = first.whole ∙ ap (λ (l : List ℕ). body_of ones ++ l) second.whole
      ∙ sym (append_assoc (body_of ones) (body_of others) c)
      ∙ ap (λ (l : List ℕ). l ++ c) (sym (body_both ones others));
  coded = all_more IsInRange ones others first.coded second.coded;
  fit = all_fit-append ones others db first.fit second.fit;
}

begins_one : (one : Effect) (db : Db) (bytes rest : List ℕ) → bytes ≡ coded_effect one ++ rest → IsInRange one
    → fits one db ≡ true → BeginsWith (one ∷ []) db bytes rest
begins_one one db bytes rest is coded fit = record {
  whole = is ∙ ap (λ (l : List ℕ). l ++ rest) (sym (append-nil (coded_effect one)));
  coded = (coded, tt);
  fit = and_both (fits one db) true fit refl;
}

pub begins_longer : (effects : List Effect) (db : Db) (a b more : List ℕ) → BeginsWith effects db a b
    → BeginsWith effects db (a ++ more) (b ++ more)
begins_longer effects db a b more begins = record {
  whole = ap (λ (l : List ℕ). l ++ more) begins.whole ∙ append_assoc (body_of effects) b more;
  coded = begins.coded;
  fit = begins.fit;
}

-- bytes with which no effect that fits begins
pub short_unfit : (db : Db) (bytes : List ℕ) → effect_at bytes ≡ Short → BeginsUnfit db bytes
short_unfit db bytes short other rest in_range is fit =
    let read : effect_at bytes ≡ Whole other rest = ap effect_at is ∙ effect_again other rest in_range in
    let same : Short ≡ Whole other rest = sym short ∙ read in
    cc

pub wrong_unfit : (db : Db) (bytes more : List ℕ) → effect_at bytes ≡ Wrong → BeginsUnfit db (bytes ++ more)
wrong_unfit db bytes more wrong other rest in_range is fit = stays_wrong other bytes more rest in_range wrong is

pub found_unfit : (db : Db) (one : Effect) (bytes after more : List ℕ) → bytes ≡ coded_effect one ++ after
    → IsInRange one → fits one db ≡ false → BeginsUnfit db (bytes ++ more)
found_unfit db one bytes after more is coded unfit other rest in_range also fit =
    let whole : coded_effect one ++ (after ++ more) ≡ coded_effect other ++ rest =
    sym (append_assoc (coded_effect one) after more) ∙ ap (λ (l : List ℕ). l ++ more) (sym is) ∙ also in
    let same : one ≡ other = (begins_no_other one other (after ++ more) rest coded in_range whole).0 in
    let wrong : true ≡ false = sym fit ∙ ap (λ (e : Effect). fits e db) (sym same) ∙ unfit in
    cc

-- a set of ranges of which one is faulty, before all of them are there
pub faulty_unfit : (db : Db) (bytes more : List ℕ) → BeginsFaulty bytes → BeginsUnfit db (bytes ++ more)
unfolding fits
faulty_unfit db bytes more faulty other rest in_range is fit =
    let set = faulty other more rest in_range is in
    let set_fits : is_some (membership_of db set.person set.conference) && rise_after 0 set.ranges ≡ true =
    ap (λ (e : Effect). fits e db) (sym set.is) ∙ fit in
    let rise : rise_after 0 set.ranges ≡ true =
    (and_parts (is_some (membership_of db set.person set.conference)) (rise_after 0 set.ranges) set_fits).1 in
    let wrong : true ≡ false = sym rise ∙ set.faulty in
    cc wrong

pub faulty_some : (bytes : List ℕ) → has_faulty_range bytes ≡ true → 0 < length bytes
faulty_some [] is = absurd (cc is)
faulty_some (byte ∷ bytes) is = omega arith

no_bytes : (bytes : List ℕ) → (bytes ≡ [] → ⊥) → 0 < length bytes
no_bytes [] never = absurd (never refl)
no_bytes (byte ∷ bytes) never = omega arith

pub wrong_some : (bytes : List ℕ) → effect_at bytes ≡ Wrong → 0 < length bytes
wrong_some bytes wrong =
    no_bytes bytes (λ none.
    let same : Short ≡ Wrong = sym (ap effect_at none) ∙ wrong in
    cc)

pub coded_some : (one : Effect) (bytes after : List ℕ) → bytes ≡ coded_effect one ++ after → IsInRange one
    → 0 < length bytes
coded_some one bytes after is coded = no_bytes bytes (λ none. never_empty one after coded (sym none ∙ is))

-- parts of a file
pub part_drop : (at used end : ℕ) (bytes : List ℕ) → at + used ≤ end
    → drop used (part at end bytes) ≡ part (at + used) end bytes
part_drop at used end bytes within =
    let left : end - at ≡ used + (end - (at + used)) = omega (arith, within) in
    ap (λ (n : ℕ). drop used (take n (drop at bytes))) left
    ∙ drop-take used (end - (at + used)) (drop at bytes)
    ∙ ap (take (end - (at + used))) (drop-drop used at bytes)

pub part_block : (at held end : ℕ) (bytes : List ℕ) → at + held ≤ end
    → part at end bytes ≡ take held (drop at bytes) ++ part (at + held) end bytes
part_block at held end bytes within =
    let left : end - at ≡ held + (end - (at + held)) = omega (arith, within) in
    ap (λ (n : ℕ). take n (drop at bytes)) left
    ∙ take-add held (end - (at + held)) (drop at bytes)
    ∙ ap (λ (l : List ℕ). take held (drop at bytes) ++ take (end - (at + held)) l) (drop-drop held at bytes)

pub part_none : (end : ℕ) (bytes : List ℕ) → part end end bytes ≡ []
part_none end bytes =
    let none : end - end ≡ 0 = omega arith in ap (λ (n : ℕ). take n (drop end bytes)) none

-- a part after a part
parts_made : (a b c : List ℕ) (old mid new : Db) → MakesPart a b old mid → MakesPart b c mid new
    → MakesPart a c old new
parts_made a b c old mid new first second =
    let next = subst (λ (d : Db). BeginsWith second.effects d b c) first.rows second.begins in
    record {
      effects = first.effects ++ second.effects;
      begins = begins_on first.effects second.effects old a b c first.begins next;
      rows = second.rows ∙ ap (apply_all second.effects) first.rows
          ∙ sym (apply_all-append first.effects second.effects old);
    }

part_unfit : (a b : List ℕ) (old mid : Db) → MakesPart a b old mid → IsUnfit mid b → IsUnfit old a
part_unfit a b old mid first unfit =
    let next = subst (λ (d : Db). BeginsWith unfit.effects d b unfit.rest) first.rows unfit.begins in
    record {
      effects = first.effects ++ unfit.effects;
      rest = unfit.rest;
      begins = begins_on first.effects unfit.effects old a b unfit.rest first.begins next;
      more = unfit.more;
      unfit = subst (λ (d : Db). BeginsUnfit d unfit.rest)
          (ap (apply_all unfit.effects) first.rows ∙ sym (apply_all-append first.effects unfit.effects old))
          unfit.unfit;
    }

-- more bytes, and none is there
unfit_rest : (db : Db) (bytes : List ℕ) → 0 < length bytes → BeginsUnfit db bytes → IsUnfit db bytes
unfit_rest db bytes some unfit = record {
  effects = [];
  rest = bytes;
  begins = begins_none db bytes;
  more = λ none. omega (arith, some, ap length none);
  unfit = unfit;
}

-- the next effect of a body
abbrev pub RowsMake : Stored → Stored → List ℕ → List ℕ → Type 0
RowsMake old new bytes rest = MakesRows old.db new.db bytes rest

abbrev pub RowsRefuse : Stored → List ℕ → Type 0
RowsRefuse rows bytes = IsUnfit rows.db bytes

makes_rows : (old new : Db) (bytes rest : List ℕ) → MakesPart bytes rest old new → MakesRows old new bytes rest
makes_rows old new bytes rest made =
    (λ last more. parts_made bytes rest [] old new last made more, λ unfit. part_unfit bytes rest old new made unfit)

pub effect_comes : (bytes : List ℕ) (old new : Stored) (found : Option ℕ) → MakesNext bytes old.db new.db found
    → ComesNext RowsMake RowsRefuse bytes old new found
effect_comes bytes old new None next = (
  λ more. makes_rows old.db new.db (bytes ++ more) (bytes ++ more)
      (record { effects = []; begins = begins_none old.db (bytes ++ more); rows = next.1 }),
  λ some. unfit_rest new.db bytes some (short_unfit new.db bytes next.0),
)
effect_comes bytes old new (Some len) next = (
  next.some,
  (
    next.within,
    λ more. makes_rows old.db new.db (bytes ++ more) (drop len bytes ++ more) (record {
      effects = next.effect ∷ [];
      begins = begins_longer (next.effect ∷ []) old.db bytes (drop len bytes) more
          (begins_one next.effect old.db bytes (drop len bytes) next.whole next.coded next.fit);
      rows = next.rows;
    }),
  ),
)

-- a body that was made
pub rows_made : (body : List ℕ) (old new : Db) → MakesRows old new body [] → MakesPart body [] old new
rows_made body old new made =
    made.0 new (record { effects = []; begins = begins_none new []; rows = refl })

pub found_comes : {E : Type 0} (result : Result (Option ℕ) E) (bytes : List ℕ) (old new : Stored)
    → IfOk result (MakesNext bytes old.db new.db) → IfOk result (ComesNext RowsMake RowsRefuse bytes old new)
found_comes (Ok found) bytes old new next = effect_comes bytes old new found next
found_comes (Err why) bytes old new next = tt

pub effect_refused : (bytes : List ℕ) (db : Db) → 0 < length bytes
    → ((more : List ℕ) → BeginsUnfit db (bytes ++ more)) → (more : List ℕ) → IsUnfit db (bytes ++ more)
effect_refused bytes db some unfit more =
    unfit_rest db (bytes ++ more) (omega (arith, some, length-append bytes more)) (unfit more)

-- what was read into a buffer
pub block_of : (n at : ℕ) (bytes into left : List ℕ) → into ≡ take n (drop at bytes) ++ left
    → length (take n (drop at bytes)) ≡ n → take n into ≡ take n (drop at bytes)
block_of n at bytes into left is long =
    ap (take n) is ∙ take_at (take n (drop at bytes)) left n long

-- a block of a buffer that was read into
pub block_read : (given into items into_old bytes : List ℕ) (len held at : ℕ)
    → given ≡ take len (into ++ drop (length into) items) → length into ≡ len → held ≤ len
    → into ≡ take held (drop at bytes) ++ drop held into_old → held ≤ length (drop at bytes)
    → take held given ≡ take held (drop at bytes)
block_read given into items into_old bytes len held at is same fits read there =
    ap (take held) is ∙ take-take held len (into ++ drop (length into) items) fits
    ∙ take-append-le held into (drop (length into) items) (omega (arith, same, fits))
    ∙ block_of held at bytes into (drop held into_old) read (length-take-le held (drop at bytes) there)

-- all that is left after a place
pub rest_whole : (used : ℕ) (bytes : List ℕ) → take (length bytes - used) (drop used bytes) ≡ drop used bytes
rest_whole used bytes =
    take_all (length bytes - used) (drop used bytes) (omega (arith, length-drop used bytes))

-- the body of a batch that stands at a place
pub first_body : (at size : ℕ) (file : List ℕ) (first : HasFirst size (drop at file))
    → part (at + 9) (at + (9 + size)) file ≡ first.body
first_body at size file first =
    let long : (at + (9 + size)) - (at + 9) ≡ size = omega arith in
    let rest : drop (at + 9) file ≡ first.body ++ first.gate ∷ first.after =
    sym (drop-drop 9 at file) ∙ ap (drop 9) first.whole ∙ rest_of first.body (first.gate ∷ first.after) in
    ap (λ (n : ℕ). take n (drop (at + 9) file)) long ∙ ap (take size) rest
    ∙ take_at first.body (first.gate ∷ first.after) size first.counts
