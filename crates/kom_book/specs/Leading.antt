-- A history leads from a book to the next.
use Rattle.std.proofs.Common.{◌≡◌, ◌<◌, ◌≤◌, ◌^◌, ◌⊎◌, inl, inr, ℕ, true, false, List, [], ◌∷◌}
use Rattle.std.proofs.Common.{◌++◌, cond, Option, Some, None, refl, sym, ap, ◌∙◌, subst}
use Rattle.std.specs.Prelude.{map}
use Rattle.std.specs.List.{AllByRecursion}
use Rattle.std.proofs.lemmas.List.{append-nil, map-append}
use Rattle.kom_types.specs.declared.acts.Record.{Record}
use Rattle.kom_types.specs.declared.effects.Effect.{Effect}
use Rattle.kom_model.specs.State.{State}
use Rattle.kom_model.specs.After.{MayFollow, after}
use Rattle.kom_model.specs.Kept.{kept_of}
use Rattle.kom_model.specs.Refusal.{refusal_of}
use Rattle.kom_model.specs.Legal.{IsLegal, IsByOwner, AreByOwners, state_after}
use Rattle.hall_desk.proofs.Histories.{legal-append, owners-append, state_after-append}
use Rattle.kom_disk.specs.Faults.{Rose}
use Rattle.batch_log.specs.declared.errors.FlushFault.{FlushFault}
use Rattle.batch_log.specs.declared.errors.FlushFault.TheVariants as fault
use Rattle.kom_journal.specs.Journals.{JournalView, StaysAs, size_with}
use Rattle.kom_book.specs.Stores.{IsNotRefused, IfBoth, StoreStays, StoreFollows}
use Rattle.kom_book.specs.Stores.{IsFlushCause}
use Rattle.kom_book.specs.Stores.{pending_after}
use Rattle.kom_book.specs.Stops.{record_of, records_of, pending_along, StoreLeads}
use Rattle.kom_book.specs.Books.{BookView, Follows, Stays, Leads, IsPlain, state_in}
use Rattle.kom_book.specs.Records.{refused_or_not, marked_same, flush_unmarked, only_closes}
use Rattle.kom_book.specs.Records.{marked_refused, not_taken}
use Rattle.kom_journal.specs.Staying.{itself}
use Rattle.kom_book.specs.Along.{pending_more}
use Rattle.kom_book.specs.declared.ticked.Ticked.{Ticked}

pub all_then : {X : Type 0} (P : X → Type 0) (xs : List X) (x : X) → AllByRecursion P xs → P x →
    AllByRecursion P (xs ++ x ∷ [])
all_then P [] x all one = (one, tt)
all_then P (y ∷ xs) x all one = (all.0, all_then P xs x all.1 one)

-- the records of a history lead on by one more
led_on : (start old new : State) (records : List Record) (made : Record) → IsLegal start records →
    AreByOwners start records → old ≡ state_after start records → MayFollow old made →
    IsByOwner old made.entry → new ≡ after old made →
    IsLegal start (records ++ made ∷ []) × AreByOwners start (records ++ made ∷ [])
    × (new ≡ state_after start (records ++ made ∷ []))
led_on start old new records made legal owned led follows own next =
    let may : MayFollow (state_after start records) made =
    subst (λ (state : State). MayFollow state made) led follows in
    let owner : IsByOwner (state_after start records) made.entry =
    subst (λ (state : State). IsByOwner state made.entry) led own in (
      legal-append start records (made ∷ []) legal (may, tt),
      owners-append start records (made ∷ []) owned (owner, tt),
      next ∙ ap (λ (state : State). after state made) led
          ∙ sym (state_after-append start records (made ∷ [])),
    )

-- ---- both stores, or neither

pub both_then : {X : Type 0} (N M L : Type 0) (P Q R : X → X → Type 0) (one two three : Option X) →
    (N → M → L) → ((a b c : X) → P a b → Q b c → R a c) →
    IfBoth N P one two → IfBoth M Q two three → IfBoth L R one three
both_then N M L P Q R None None None none some first second = none first second
both_then N M L P Q R None None (Some c) none some first second = absurd second
both_then N M L P Q R None (Some b) three none some first second = absurd first
both_then N M L P Q R (Some a) None three none some first second = absurd first
both_then N M L P Q R (Some a) (Some b) None none some first second = absurd second
both_then N M L P Q R (Some a) (Some b) (Some c) none some first second = some a b c first second

pub both_same : {X : Type 0} (N : Type 0) (P : X → X → Type 0) (one : Option X) → N →
    ((a : X) → P a a) →
    IfBoth N P one one
both_same N P None none some = none
both_same N P (Some a) none some = some a

-- ---- one store

module _ {D : Type 0} where
  -- how long it gets stays with the place and what waits
  pub size_same : (old new : JournalView D) → new.place ≡ old.place → new.pending ≡ old.pending →
      size_with new ≡ size_with old
  size_same old new place pending = rw (place, pending) refl

  rose_same : (faults : D → ℕ) (first old new : JournalView D) → faults new.disk ≡ faults old.disk →
      Rose (faults first.disk) (faults old.disk) → Rose (faults first.disk) (faults new.disk)
  rose_same faults first old new same rose =
      subst (λ (n : ℕ). Rose (faults first.disk) n) (sym same) rose

  -- that none has failed and it would get too long stays too
  full_same : (old new : JournalView D) → StaysAs old new → new.pending ≡ old.pending →
      (old.refused ≡ false) × (2 ^ 40 < size_with old) →
      (new.refused ≡ false) × (2 ^ 40 < size_with new)
  full_same old new stays waits full = (
    stays.refused ∙ full.0,
    subst (λ (n : ℕ). 2 ^ 40 < n) (sym (size_same old new stays.place waits)) full.1,
  )

  -- one of a plain opening
  store_empty : (faults : D → ℕ) (start : State) (store : JournalView D) → start.stable ≡ 0 →
      start.store_refused ≡ false → store.pending ≡ [] → store.refused ≡ false →
      StoreLeads faults start [] store start store
  store_empty faults start store nothing unmarked waits whole = record {
    pending = waits ∙ rw nothing refl;
    batches = refl;
    unrefused = λ is. refl;
    unfailed = λ is. whole;
    refused = λ is. absurd (let wrong : true ≡ false = sym is ∙ unmarked in cc);
  }

  store_stays : (faults : D → ℕ) (start : State) (history : List (Ticked D))
      (first old new : JournalView D)
      (state later : State) → later ≡ state → StoreLeads faults start history first state old →
      StoreStays old new → StoreLeads faults start history first later new
  store_stays faults start history first old new state later same leads stays = record {
    pending = stays.1 ∙ leads.pending;
    batches = stays.0.batches ∙ leads.batches;
    unrefused = λ is. ap faults stays.0.disk
        ∙ leads.unrefused (sym (ap (λ s. s.store_refused) same) ∙ is);
    unfailed = λ is. stays.0.refused ∙ leads.unfailed (sym (ap (λ s. s.store_refused) same) ∙ is);
    refused = λ is. elim (leads.refused (sym (ap (λ s. s.store_refused) same) ∙ is)) [
      | inl rose ↦ inl (rose_same faults first old new (ap faults stays.0.disk) rose)
      | inr full ↦ inr (full_same old new stays.0 stays.1 full)
    ];
  }

  -- why the flush of a record was refused, since the opening
  store_cause : (faults : D → ℕ) (first old new : JournalView D) (why : FlushFault) →
      faults old.disk ≡ faults first.disk → old.refused ≡ false → IsFlushCause faults old new why →
      Rose (faults first.disk) (faults new.disk)
      ⊎ ((new.refused ≡ false) × (2 ^ 40 < size_with new))
  store_cause faults first old new fault.Fault calm whole cause =
      inl (subst (λ (n : ℕ). Rose n (faults new.disk)) calm cause)
  store_cause faults first old new (fault.Full n) calm whole cause =
      inr (full_same old new cause.2.0 cause.2.1
      (whole, subst (λ (m : ℕ). 2 ^ 40 < m) cause.1 cause.0))

  store_follows : (faults : D → ℕ) (start : State) (history : List (Ticked D))
      (first old new : JournalView D)
      (state : State) (entry : Ticked D) (why : Option FlushFault) → start.entries ≡ 0 →
      start.stable ≡ 0 →
      state ≡ state_after start (records_of history) → MayFollow state entry.made →
      StoreLeads faults start history first state old →
      StoreFollows faults state old entry.made why new →
      StoreLeads faults start (history ++ entry ∷ []) first (after state entry.made) new
  store_follows faults start history first old new state entry why none nothing led may leads
      follows =
      let made : Record = entry.made in
      let records : List Record = records_of history in
      record {
        pending =
            follows.pending
            ∙ ap (λ (list : List Effect). pending_after state list made) leads.pending
            ∙ ap (λ (s : State). pending_after s (pending_along start records) made) led
            ∙ pending_more start records made none nothing
            ∙ ap (λ (all : List Record). pending_along start all)
            (sym (map-append record_of history (entry ∷ [])));
        batches = follows.batches ∙ leads.batches;
        unrefused = λ is. elim (refused_or_not made) [
          | inl refused ↦ absurd (let marked : (after state made).store_refused ≡ true =
              marked_refused state made refused.0 in cc)
          | inr other ↦ follows.unrefused other.1
              ∙ leads.unrefused (sym (marked_same state made other.1) ∙ is)
        ];
        unfailed = λ is. elim (refused_or_not made) [
          | inl refused ↦ absurd (let marked : (after state made).store_refused ≡ true =
              marked_refused state made refused.0 in cc)
          | inr other ↦ follows.unfailed other.1
              ∙ leads.unfailed (sym (marked_same state made other.1) ∙ is)
        ];
        refused = λ is. elim (refused_or_not made) [
          | inl refused ↦
              let cause = follows.refused refused.1 refused.2 in
              let unmarked : state.store_refused ≡ false =
              flush_unmarked state (subst (λ what. refusal_of state what ≡ None) refused.1
              may.possible) in
              store_cause faults first old new cause.0 (leads.unrefused unmarked)
              (leads.unfailed unmarked) cause.2
          | inr other ↦
              let marked : state.store_refused ≡ true = sym (marked_same state made other.1) ∙ is in
              let closes = only_closes state made marked may.possible in
              let stays : StaysAs old new = follows.unflushed closes.unflushed in
              let waits : new.pending ≡ old.pending = follows.pending
              ∙ ap (λ b. cond b [] (old.pending ++ kept_of state made))
              (not_taken made closes.unflushed)
              ∙ ap (λ (more : List Effect). old.pending ++ more) closes.none
              ∙ append-nil old.pending in
              elim (leads.refused marked) [
                | inl rose ↦ inl (rose_same faults first old new (ap faults stays.disk) rose)
                | inr full ↦ inr (full_same old new stays waits full)
              ]
        ];
      }

-- ---- a book

module _ {D : Type 0} where
  pub itself_stays : (book : BookView D) → Stays book book
  itself_stays book = record {
    state = refl;
    refused = refl;
    store = both_same (Unit {0}) StoreStays book.journal tt (λ store. (itself store, refl));
  }

  pub empty_leads : (faults : D → ℕ) (opening : BookView D) → Leads faults opening [] opening
  empty_leads faults opening = record {
    led = record { legal = tt; owned = tt; state = refl };
    store = plain_store opening.journal refl;
  }
    where
      plain_store : (journal : Option (JournalView D)) → opening.journal ≡ journal →
          IfBoth (AllByRecursion (λ (entry : Ticked D). IsNotRefused entry.made) [])
          (λ one other. IsPlain opening
          → StoreLeads faults (state_in opening) [] one (state_in opening) other) journal journal
      plain_store None is = tt
      plain_store (Some store) is = λ plain.
          let waits : store.pending ≡ [] = (rw is at plain.waits) in
          let whole : store.refused ≡ false = (rw is at plain.whole) in
          store_empty faults (state_in opening) store (ap (λ s. s.stable) plain.opening.1)
          (ap (λ s. s.store_refused) plain.opening.1) waits whole

  pub staying_leads : (faults : D → ℕ) (opening : BookView D) (history : List (Ticked D))
      (old new : BookView D) →
      Leads faults opening history old → Stays old new → Leads faults opening history new
  staying_leads faults opening history old new leads stays = record {
    led = record {
      legal = leads.led.legal;
      owned = leads.led.owned;
      state = stays.state ∙ leads.led.state;
    };
    store = both_then _ _ _ _ _ _ opening.journal old.journal new.journal (λ none same. none)
        (λ first one other since same plain. store_stays faults (state_in opening) history first one
        other
        (state_in old) (state_in new) stays.state (since plain) same) leads.store stays.store;
  }

  pub following_leads : (faults : D → ℕ) (opening : BookView D) (history : List (Ticked D))
      (old : BookView D)
      (entry : Ticked D) (new : BookView D) → Leads faults opening history old →
      Follows faults old entry new →
      Leads faults opening (history ++ entry ∷ []) new
  following_leads faults opening history old entry new leads follows =
      let start : State = state_in opening in
      let on : IsLegal start (map record_of history ++ entry.made ∷ [])
      × AreByOwners start (map record_of history ++ entry.made ∷ [])
      × (state_in new ≡ state_after start (map record_of history ++ entry.made ∷ [])) =
      led_on start (state_in old) (state_in new) (map record_of history) entry.made
      leads.led.legal leads.led.owned leads.led.state follows.follows follows.owned
      follows.state in
      let records : map record_of history ++ entry.made ∷ [] ≡ map record_of
      (history ++ entry ∷ []) =
      sym (map-append record_of history (entry ∷ [])) in
      record {
        led = record {
          legal = subst (λ (records : List Record). IsLegal start records) records on.0;
          owned = subst (λ (records : List Record). AreByOwners start records) records on.1;
          state = on.2 ∙ ap (λ (records : List Record). state_after start records) records;
        };
        store = both_then _ _ _ _ _ _ opening.journal old.journal new.journal
            (λ before now. all_then (λ (entry : Ticked D). IsNotRefused entry.made) history entry
            before now)
            (λ first one other since on plain.
            subst (λ (state : State). StoreLeads faults start (history ++ entry ∷ []) first state
            other)
            (sym follows.state)
            (store_follows faults start history first one other (state_in old) entry new.refused
            (ap (λ s. s.entries) plain.opening.1) (ap (λ s. s.stable) plain.opening.1)
            leads.led.state follows.follows (since plain) on)) leads.store follows.store;
      }
