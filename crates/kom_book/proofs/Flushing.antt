-- What a flush of a stored book comes to.
use Rattle.std.proofs.Common.{◌≡◌, ◌≢◌, ◌<◌, ◌≤◌, ◌^◌, ◌⊎◌, inl, inr, ℕ, Bool, true, false, List, [], Option, Some}
use Rattle.std.proofs.Common.{None, Result, Ok, Err, refl, sym, ap, ◌∙◌, subst}
use Rattle.std.specs.Prelude.{◌↔◌, IsTrue, is_some}
use Rattle.kom_types.specs.declared.acts.Act.{Act}
use Rattle.kom_types.specs.declared.acts.Act.TheVariants as act
use Rattle.kom_types.specs.declared.acts.Entry.{Entry}
use Rattle.kom_types.specs.declared.acts.Record.{Record}
use Rattle.kom_types.specs.declared.answers.NotMade.{NotMade}
use Rattle.kom_types.specs.declared.answers.NotMade.TheVariants.{Gone, Full, Memory}
use Rattle.kom_types.specs.declared.answers.Why.TheVariants.{Stopped}
use Rattle.kom_types.specs.declared.items.Item.{Item}
use Rattle.kom_model.specs.Db.{Db}
use Rattle.kom_model.specs.Effects.{apply_all, all_fit}
use Rattle.kom_model.specs.State.{State}
use Rattle.kom_model.specs.After.{after, session_in, HasUser, MayBeShort}
use Rattle.kom_model.specs.Making.{IsMadeBy, IsConnect, IsNotMade}
use Rattle.kom_model.specs.Out.{taken_by}
use Rattle.kom_model.specs.Refusal.{refusal_of}
use Rattle.kom_core.specs.Acts.{Held, CoreComes}
use Rattle.kom_disk.specs.Faults.{Rose}
use Rattle.batch_log.specs.declared.errors.FlushFault.{FlushFault}
use Rattle.batch_log.specs.declared.errors.FlushFault.TheVariants as fault
use Rattle.kom_journal.specs.Images.{Image, AreFor}
use Rattle.kom_journal.specs.Journals.{JournalView, size_with}
use Rattle.kom_book.specs.Stores.{IsFlush, IsFlushCause}
use Rattle.kom_book.specs.Making.{BookComes, StopsCome, book_of}
use Rattle.kom_book.specs.Records.{is_refused, marked_refused}
use Rattle.kom_book.proofs.StoreSteps.{taken_follows, refused_follows, taken_stops, refused_stops, SaysNow, Flushes}

-- ---- tests

pub is_one : (test : Bool) (what : Act) → (IsTrue test ↔ (what ≡ act.Flush)) → test ≡ true → what ≡ act.Flush
is_one test what means is = means.0 is

pub none_of : {X : Type 0} (option : Option X) → is_some option ≡ false → option ≡ None
none_of None is = refl
none_of (Some x) is = absurd (let wrong : true ≡ false = is in cc)

-- ---- flushes that are possible, or not

pub flush_refused : (state : State) (entry : Entry) → entry.act ≡ act.Flush → state.store_refused ≡ true →
    refusal_of state entry.act ≡ Some (Gone Stopped)
flush_refused state entry is marked = ap (λ what. refusal_of state what) is ∙ rw marked refl

pub flush_possible : (state : State) → state.store_refused ≡ false → refusal_of state act.Flush ≡ None
flush_possible state unmarked = rw unmarked refl

pub flush_takes : (state : State) (entry : Entry) (given : List Item) → entry.act ≡ act.Flush → given ≡ [] →
    given ≡ taken_by state entry.act
flush_takes state entry given is none = none ∙ sym (ap (λ what. taken_by state what) is)

pub flush_not_made : (state : State) (entry : Entry) (why : NotMade) → entry.act ≡ act.Flush →
    state.store_refused ≡ false → IsNotMade state entry.act why → ⊥
flush_not_made state entry Memory is unmarked not = let connects : IsConnect act.Flush = subst IsConnect is not.1 in
    connects
flush_not_made state entry (Gone told) is unmarked not =
    let wrong : Some (Gone told) ≡ None = sym not ∙ ap (λ what. refusal_of state what) is
    ∙ flush_possible state unmarked in cc
flush_not_made state entry (Full number) is unmarked not =
    let wrong : Some (Full number) ≡ None = sym not ∙ ap (λ what. refusal_of state what) is
    ∙ flush_possible state unmarked in cc

-- the record of a flush that the store refused
abbrev pub refused_flush : Entry → Record
refused_flush entry = record { entry = entry; session = 0; short = true }

pub refused_made : (old new : State) (entry : Entry) (made : Record) → entry.act ≡ act.Flush →
    made ≡ refused_flush entry → old.store_refused ≡ false → new ≡ after old made → IsMadeBy old new entry made
refused_made old new entry made is same unmarked next =
    subst (λ (one : Record). IsMadeBy old new entry one) (sym same) (record {
      entry_made = refl;
      follows = record {
        possible = ap (λ what. refusal_of old what) is ∙ flush_possible old unmarked;
        user = subst HasUser (sym is) tt;
        session = sym (ap (λ what. session_in old what) is);
        short = subst (λ what. MayBeShort old entry.moment what true) (sym is) tt;
      };
      state = next ∙ ap (λ (one : Record). after old one) same;
    })

refused_is : (entry : Entry) (made : Record) → entry.act ≡ act.Flush → made ≡ refused_flush entry →
    is_refused made ≡ true
refused_is entry made is same =
    ap is_refused same ∙ ap (λ (what : Act). is_refused (refused_flush (record entry { act = what }))) is

module _ {D : Type 0} where
  pub stays_calm : (one other : JournalView D) (result : Result Unit FlushFault) → one.refused ≡ false →
      ((other.refused ≡ true) ↔ ((one.refused ≡ true) ⊎ (result ≡ Err fault.Fault))) → result ≡ Ok tt →
      other.refused ≡ one.refused
  stays_calm one other result calm refused ok =
      elim other.refused as (λ b. other.refused ≡ b → b ≡ one.refused) [
        | true ↦ λ is. absurd (elim (refused.0 is) [
          | inl was ↦ let wrong : true ≡ false = sym was ∙ calm in cc
          | inr failed ↦
              let wrong : ◌≡◌ {A = Result Unit FlushFault} (Ok tt) (Err fault.Fault) = sym ok ∙ failed in cc
        ])
        | false ↦ λ is. sym calm
      ] refl

  -- why a flush is refused
  pub flush_cause : (faults : D → ℕ) (one other : JournalView D) (why : FlushFault) (result : Result Unit FlushFault) →
      result ≡ Err why → one.refused ≡ false →
      (result ≡ Err fault.Fault → (one.refused ≡ true) ⊎ Rose (faults one.disk) (faults other.disk)) →
      ((n : ℕ) → (result ≡ Err (fault.Full n)) ↔ ((one.refused ≡ false) × (one.pending ≢ []) × (2 ^ 40 < n)
      × (n ≡ size_with one))) →
      ((n : ℕ) → result ≡ Err (fault.Full n) → other ≡ one) → IsFlushCause faults one other why
  flush_cause faults one other fault.Fault result is calm cause full left = elim (cause is) [
    | inl was ↦ absurd (let wrong : true ≡ false = sym was ∙ calm in cc)
    | inr rose ↦ rose
  ]
  flush_cause faults one other (fault.Full n) result is calm cause full left =
      let same : other ≡ one = left n is in
      let said = (full n).0 is in (
        said.2,
        said.3,
        (
          record {
            disk = ap (λ store. store.disk) same;
            refused = ap (λ store. store.refused) same;
            batches = ap (λ store. store.batches) same;
            place = ap (λ store. store.place) same;
          },
          ap (λ store. store.pending) same,
        ),
      )

  -- a flush that the store took
  pub taken_comes : (faults : D → ℕ) (came : Result Record NotMade) (old new : Held) (one other : JournalView D)
      (refused : Option FlushFault) (entry : Entry) → entry.act ≡ act.Flush → old.state.store_refused ≡ false →
      CoreComes old.state entry new.state came → other.pending ≡ [] →
      (one.pending ≡ [] → other.disk ≡ one.disk) → other.batches ≡ one.batches →
      faults other.disk ≡ faults one.disk → other.refused ≡ one.refused →
      (one.pending ≡ []) ⊎ (size_with one ≤ 2 ^ 40) →
      BookComes faults (book_of old one refused) entry (book_of new other refused) came
  taken_comes faults (Ok made) old new one other refused entry is unmarked comes emptied nothing batches calm
      unfailed limited =
      let flush : IsFlush made = ap (λ e. e.act) comes.0.entry_made ∙ is in (
        comes.0,
        record {
          unrefused = λ long. refl;
          store = taken_follows faults old.state one other made refused flush (comes.1 flush) emptied nothing batches
              calm unfailed limited;
        },
      )
  taken_comes faults (Err why) old new one other refused entry is unmarked comes emptied nothing batches
      calm unfailed limited = absurd (flush_not_made old.state entry why is unmarked comes.0)

  pub taken_leaves : (moment : D → ℕ) (images_at : D → ℕ → Image → Type 0) (images : D → Image → Type 0)
      (came : Result Record NotMade) (old new : Held) (one other : JournalView D) (refused : Option FlushFault)
      (entry : Entry) → entry.act ≡ act.Flush → old.state.store_refused ≡ false →
      CoreComes old.state entry new.state came → SaysNow moment images_at images →
      Flushes moment images_at images one other → other.pending ≡ [] →
      ((db : Db) → AreFor (images one.disk) db → all_fit one.pending db ≡ true →
      AreFor (images other.disk) (apply_all one.pending db)) →
      StopsCome moment images_at (book_of old one refused) (book_of new other refused) came
  taken_leaves moment images_at images (Ok made) old new one other refused entry is unmarked comes says flushes
      emptied rows =
      let flush : IsFlush made = ap (λ e. e.act) comes.0.entry_made ∙ is in
      taken_stops moment images_at images old.state new.state one other made says flushes flush (comes.1 flush)
      (flush_possible old.state unmarked) comes.0.state emptied rows
  taken_leaves moment images_at images (Err why) old new one other refused entry is unmarked comes says flushes
      emptied rows = tt

  -- and one that it refused
  pub refused_comes : (faults : D → ℕ) (old new : Held) (one other : JournalView D) (before : Option FlushFault)
      (why : FlushFault) (entry : Entry) (made : Record) → entry.act ≡ act.Flush →
      made ≡ refused_flush entry → old.state.store_refused ≡ false →
      new.state ≡ after old.state made → other.pending ≡ one.pending →
      (one.pending ≡ [] → other.disk ≡ one.disk) → other.batches ≡ one.batches →
      IsFlushCause faults one other why →
      BookComes faults (book_of old one before) entry (book_of new other (Some why)) (Ok made)
  refused_comes faults old new one other before why entry made is same unmarked next pending nothing batches cause =
      let short : made.short ≡ true = ap (λ one. one.short) same in
      let flush : IsFlush made = ap (λ one. one.entry.act) same ∙ is in (
        refused_made old.state new.state entry made is same unmarked next,
        record {
          unrefused = λ long. absurd (let wrong : true ≡ false = sym short ∙ long flush in cc);
          store = refused_follows faults old.state one other made why flush short pending nothing batches cause;
        },
      )

  pub refused_leaves : (moment : D → ℕ) (images_at : D → ℕ → Image → Type 0) (images : D → Image → Type 0)
      (old new : Held) (one other : JournalView D) (before now : Option FlushFault) (entry : Entry) (made : Record) →
      entry.act ≡ act.Flush → made ≡ refused_flush entry → old.state.store_refused ≡ false →
      new.state ≡ after old.state made → SaysNow moment images_at images →
      Flushes moment images_at images one other → other.pending ≡ one.pending →
      StopsCome moment images_at (book_of old one before) (book_of new other now) (Ok made)
  refused_leaves moment images_at images old new one other before now entry made is same unmarked next says flushes
      pending =
      let short : made.short ≡ true = ap (λ one. one.short) same in
      let flush : IsFlush made = ap (λ one. one.entry.act) same ∙ is in
      let marked : new.state.store_refused ≡ true = ap (λ (s : State). s.store_refused) next
      ∙ marked_refused old.state made (refused_is entry made is same) in
      refused_stops moment images_at images old.state new.state one other made says flushes flush short
      (flush_possible old.state unmarked) next marked pending
