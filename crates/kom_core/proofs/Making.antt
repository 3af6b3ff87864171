-- What the parts of a step come to.
use Rattle.std.proofs.Common.{◌≡◌, ℕ, ◌+◌, ◌≤◌, Bool, true, false, Result, Ok, Err, refl, sym, ap, ◌∙◌, subst, arith}
use Rattle.kom_types.specs.declared.acts.Act.{Act}
use Rattle.kom_types.specs.declared.acts.Act.TheVariants as act
use Rattle.kom_types.specs.declared.acts.Entry.{Entry}
use Rattle.kom_types.specs.declared.acts.Record.{Record}
use Rattle.kom_types.specs.declared.answers.NotMade.{NotMade}
use Rattle.std.specs.Prelude.{None}
use Rattle.kom_model.specs.State.{State, IsSound}
use Rattle.kom_model.specs.Refusal.{refusal_of}
use Rattle.kom_model.specs.After.{MayBeShort, HasUser, after_sending, after}
use Rattle.kom_model.proofs.Soundness.{IsSound-after}
use Rattle.kom_laws.proofs.Refusing.{refused-keeps}
use Rattle.kom_core.specs.Acts.{CoreComes}
use Rattle.kom_core.specs.Steps.{ChangesBy, Steps, IsShort, IsRecord, made_of, count_entry}

-- the act of an entry, whatever its pass and moment
pub Changes-by : (old new : State) (entry : Entry) (what : Act) → entry.act ≡ what → ChangesBy old what new →
    new ≡ after_sending old (made_of old entry false)
Changes-by old new entry what same by =
    subst (λ (one : Act). new ≡ after_sending old (made_of old (record entry { act = one }) false)) (sym same)
    (by entry.pass entry.moment)

may_be_short : (state : State) (moment : ℕ) (what : Act) (short : Bool) → IsShort state moment what short →
    MayBeShort state moment what short
may_be_short state moment what false is = tt
may_be_short state moment (act.Call session reference call) true is = is
may_be_short state moment act.Flush true is = tt
may_be_short state moment (act.Connect user host) true is = is
may_be_short state moment (act.Broken session) true is = is
may_be_short state moment (act.Drain session) true is = is
may_be_short state moment (act.Close session) true is = is

flush_is_whole : (state : State) (moment : ℕ) (short : Bool) → IsShort state moment act.Flush short → short ≡ false
flush_is_whole state moment false is = refl
flush_is_whole state moment true is = absurd is

-- the record of an act that is made is this one
record-is : (old : State) (entry : Entry) (made : Record) → IsRecord old entry made →
    made ≡ made_of old entry made.short
record-is old entry made is =
    ap (λ (one : Entry). record { entry = one; session = made.session; short = made.short }) is.entry_made
    ∙ ap (λ (session : ℕ). record { entry = entry; session = session; short = made.short }) is.session

made-comes : (old new : State) (entry : Entry) (short : Bool) → refusal_of old entry.act ≡ None → HasUser entry.act →
    IsShort old entry.moment entry.act short → new ≡ after old (made_of old entry short) →
    CoreComes old entry new (Ok (made_of old entry short))
made-comes old new entry short possible user may is = (
  record {
    entry_made = refl;
    follows = record {
      possible = possible;
      user = user;
      session = refl;
      short = may_be_short old entry.moment entry.act short may;
    };
    state = is;
  },
  λ flush. flush_is_whole old entry.moment short
      (subst (λ (what : Act). IsShort old entry.moment what short) flush may),
  λ code status told. ap (λ (state : State). state.db) is
      ∙ refused-keeps old (made_of old entry short) code status told,
)

-- what a step comes to
pub step-comes : (old new : State) (entry : Entry) (came : Result Record NotMade) → HasUser entry.act →
    Steps old entry new came → CoreComes old entry new came
step-comes old new entry (Ok made) user step =
    subst (λ (one : Record). CoreComes old entry new (Ok one)) (sym (record-is old entry made step.1))
    (made-comes old new entry made.short step.0 user step.1.short step.2)
step-comes old new entry (Err why) user step = step

-- it keeps a server sound
pub step-sound : (old new : State) (entry : Entry) (came : Result Record NotMade) → HasUser entry.act → IsSound old →
    Steps old entry new came → IsSound new
step-sound old new entry (Ok made) user sound step =
    subst IsSound (sym step.2) (IsSound-after old (made_of old entry made.short) user sound)
step-sound old new entry (Err why) user sound step = subst IsSound (sym step.1) sound

-- and makes one entry at most
pub step-counted : (old new : State) (entry : Entry) (came : Result Record NotMade) → Steps old entry new came →
    new.entries ≤ old.entries + 1
step-counted old new entry (Ok made) step =
    let one : new.entries ≡ old.entries + 1 = ap (λ (state : State). state.entries) step.2 in omega (arith, one)
step-counted old new entry (Err why) step =
    let same : new.entries ≡ old.entries = ap (λ (state : State). state.entries) step.1 in omega (arith, same)

-- ---- a flush that the store refused

-- the record of its entry
abbrev pub refused_of : Entry → Record
refused_of entry = record { entry = entry; session = 0; short = true }

pub refused-after : (old : State) (entry : Entry) → entry.act ≡ act.Flush →
    count_entry entry.moment (record old { store_refused = true }) ≡ after old (refused_of entry)
refused-after old entry is =
    subst (λ (what : Act). count_entry entry.moment (record old { store_refused = true })
    ≡ after old (refused_of (record entry { act = what }))) (sym is) refl

pub refused-sound : (old new : State) (entry : Entry) (made : Record) → entry.act ≡ act.Flush →
    made ≡ refused_of entry → IsSound old → new ≡ after old made → IsSound new
refused-sound old new entry made is same sound next =
    let user : HasUser made.entry.act =
    subst (λ (one : Record). HasUser one.entry.act) (sym same) (subst HasUser (sym is) tt) in
    subst IsSound (sym next) (IsSound-after old made user sound)
