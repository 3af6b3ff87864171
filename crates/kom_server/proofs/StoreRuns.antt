-- What serving on a server that a store keeps, or none keeps, comes to.
use Rattle.std.proofs.Common.{◌≡◌, ◌≢◌, ◌⊎◌, ◌↔◌, inl, inr, ℕ, Bool, true, false, ◌&&◌, ◌||◌, List, [], ◌∷◌}
use Rattle.std.proofs.Common.{map, Option, Some, None, refl, sym, ap, subst, arith, ◌∙◌}
use Rattle.std.proofs.lemmas.Bool.{false≢true}
use Rattle.std.specs.Option.{IfSome}
use Rattle.std.specs.List.{list_any, AllByRecursion}
use Rattle.std.specs.Prelude.{IsTrue, IsSome, IsSomeAnd, is_some, option_map}
use Rattle.kom_types.specs.declared.acts.Act.{Act}
use Rattle.kom_types.specs.declared.acts.Act.TheVariants as act
use Rattle.kom_commands.specs.declared.cases.Cases.{Cases}
use Rattle.kom_commands.specs.declared.numbers.AtPort.{AtPort}
use Rattle.kom_commands.specs.Words.{serves, names_store}
use Rattle.kom_links.specs.declared.world_counts.WorldCounts.{WorldCounts}
use Rattle.kom_links.specs.WorldCounts.{with_disk}
use Rattle.kom_model.specs.Db.{Db}
use Rattle.kom_model.specs.Legal.{state_after}
use Rattle.kom_model.specs.State.{State, opening_state}
use Rattle.hall_desk.specs.Acts.{IsOpening}
use Rattle.kom_journal.specs.Images.{as_read}
use Rattle.kom_journal.specs.Journals.{JournalView}
use Rattle.kom_book.specs.Books.{BookView, Leads, disk_in, state_in}
use Rattle.kom_book.specs.Stores.{IfBoth, IsNotRefused}
use Rattle.kom_book.specs.declared.ticked.Ticked.{Ticked}
use Rattle.store_check.specs.Stores.{IsNoStore, IfFound, IsWrong}
use Rattle.store_check.proofs.Causes.{memory_wrong}
use Rattle.kom_book.specs.Stops.{records_of}
use Rattle.kom_serving.specs.Runs.{Service}
use Rattle.kom_server.specs.Statuses.{Asks, AsksPlace, HasRefused, StoreFails, serve_over}
use Rattle.kom_server.specs.Stops.{seen_of}
use Rattle.kom_server.proofs.Refusing.{is_flush, was_refused, refused_has, has_refused, refused_since}

-- a fact of what is there leads to another
pub some_then : {T : Type 0} (P Q : T → Type 0) (end : Option T) → IfSome end P → ((x : T) → P x → Q x) →
    IfSome end Q
some_then P Q None holds leads = tt
some_then P Q (Some x) holds leads = leads x holds

pub both_some : {T : Type 0} (P Q : T → Type 0) (end : Option T) → IfSome end P → IfSome end Q →
    IfSome end (λ x. P x × Q x)
both_some P Q None one other = tt
both_some P Q (Some x) one other = (one, other)

-- a server before its first entry is that over its rows
pub opened_from : (state : State) → IsOpening state → state ≡ opening_state state.db
opened_from state (db, is, sound) = rw is refl

-- what is there has a fact that it has where it is told
pub there_so : {D : Type 0} (told : Type 0) (P : D → Type 0) (disk : Option D) → is_some disk ≡ true →
    (told → IfSome disk P) → IsSomeAnd disk (λ d. told → P d)
there_so told P None there holds = absurd (false≢true there)
there_so told P (Some d) there holds = holds

-- what is found to be a store is not told to be none
pub not_held : (tells : Bool) (files : Option (List ℕ → List ℕ)) (path : List ℕ) →
    IfFound tells files path (λ image. IsNoStore image → ⊥) → IsTrue tells →
    IsSomeAnd files (λ found. IsNoStore (as_read found path)) → ⊥
not_held tells None path so told holds = absurd holds
not_held tells (Some found) path so told holds = so told holds

-- what is there has a fact, where it is told
pub told_so : {D : Type 0} (told : Type 0) (P : D → Type 0) (disk : Option D) → (told → IfSome disk P) →
    IfSome disk (λ d. told → P d)
told_so told P None holds = tt
told_so told P (Some d) holds = holds

pub wrong_by_gate : (a u g m r b : Bool) → g ≡ true → (a || u || g || m || r || b) ≡ true
wrong_by_gate true u g m r b failed = refl
wrong_by_gate false true g m r b failed = refl
wrong_by_gate false false true m r b failed = refl
wrong_by_gate false false false m r b failed = absurd (false≢true failed)

-- where nothing failed, or something went wrong
pub wrong_or_so : {T : Type 0} (P : T → Type 0) (end : Option T) (failed : Bool) (cases : Cases) →
    (failed ≡ true → cases.gate_failed ≡ true) → (failed ≡ false → IfSome end P) →
    IfSome end (λ x. IsWrong cases ⊎ P x)
wrong_or_so P None failed cases wrong so = tt
wrong_or_so P (Some x) true cases wrong so =
    inl (wrong_by_gate cases.store_failed cases.is_unfit cases.gate_failed cases.no_memory cases.is_refused
    cases.is_given_up (wrong refl))
wrong_or_so P (Some x) false cases wrong so = inr (so refl)

pub not_true : (b : Bool) → (b ≡ true → ⊥) → b ≡ false
not_true true wrong = absurd (wrong refl)
not_true false wrong = refl

-- what a store that was opened was asked for
pub asks_on : (port : Option AtPort) (serves has : Bool) (old between new : WorldCounts) → has ≡ true →
    between ≡ with_disk true old → AsksPlace port serves between new → Asks (serve_over port) has serves old new
asks_on port serves has old between new there counts asks =
    asks_over port serves has old new
    (subst (λ (has : Bool). AsksPlace port serves (with_disk has old) new) (sym there)
    (subst (λ (from : WorldCounts). AsksPlace port serves from new) counts asks))
  where
    asks_over : (port : Option AtPort) (serves has : Bool) (old new : WorldCounts) →
        AsksPlace port serves (with_disk has old) new → Asks (serve_over port) has serves old new
    asks_over None serves has old new asks = asks
    asks_over (Some at) serves has old new asks = asks

-- out of memory, or it was served
pub wrong_or_served : {T : Type 0} (end : Option T) (cases : Cases) → (is_some end ≡ false → cases.no_memory ≡ true) →
    IsWrong cases ⊎ IsSome end
wrong_or_served None cases wrong = inl (memory_wrong cases (wrong refl))
wrong_or_served (Some x) cases wrong = inr refl

-- what is asked for where nothing is served
pub asks_none : (port : Option AtPort) (has : Bool) (old new : WorldCounts) → new ≡ with_disk has old →
    Asks (serve_over port) has false old new
asks_none None has old new same = inl same
asks_none (Some at) has old new same = inl (0, omega arith, same)

-- what serves a store, and names it
pub over_serves : (port : Option AtPort) → (serves (serve_over port) ≡ true) × (names_store (serve_over port) ≡ true)
over_serves None = (refl, refl)
over_serves (Some at) = (refl, refl)

-- both are there or neither is
pub both_there : {X : Type 0} (none : Type 0) (P : X → X → Type 0) (one other : Option X) →
    IfBoth none P one other → is_some other ≡ is_some one
both_there none P None None both = refl
both_there none P None (Some new) both = absurd both
both_there none P (Some old) None both = absurd both
both_there none P (Some old) (Some new) both = refl

pub disk_there : {D : Type 0} (book : BookView D) → is_some (disk_in book) ≡ is_some book.journal
disk_there book = there book.journal
  where
    there : {D : Type 0} (journal : Option (JournalView D)) →
        is_some (option_map (λ (store : JournalView D). store.disk) journal) ≡ is_some journal
    there None = refl
    there (Some store) = refl

-- a store that is there has failed where its disk has, or refused a flush
pub store_there : {D L : Type 0} (faults : D → ℕ) (unopened failed : Type 0) (disk : Option D)
    (end : Option (Service (Ticked D) L)) → is_some disk ≡ true →
    (failed ↔ (IsSomeAnd disk (λ disk. faults disk ≢ 0)
    ⊎ IsSomeAnd end (λ service. HasRefused (records_of service.seen)))) →
    (failed ↔ StoreFails faults unopened disk end)
store_there faults unopened failed None end there so = absurd (false≢true there)
store_there faults unopened failed (Some disk) end there so = so

-- the mark of a store at the end of what was served says that the history has a refused flush
pub refused_end : {D L : Type 0} (end : Option (Service (Ticked D) L)) (marked : Bool) →
    IfSome end (λ service. marked ≡ list_any was_refused (records_of service.seen)) →
    ((IsSome end × (marked ≡ true)) ↔ IsSomeAnd end (λ service. HasRefused (records_of service.seen)))
refused_end None marked same = (λ both. absurd (false≢true both.0), λ has. absurd has)
refused_end (Some service) marked same = (
  λ both. refused_has (records_of service.seen) (sym same ∙ both.1),
  λ has. (refl, same ∙ has_refused (records_of service.seen) has),
)

-- a store that was not opened is none over which something was begun
pub unbegun : {D X : Type 0} (disk : D) (left : Option D) (end : Option X) (old new : WorldCounts) → end ≡ None →
    left ≡ Some disk → new ≡ with_disk true old → IsSome end ⊎ (IsSome left × (new.clocks ≢ old.clocks)) → ⊥
unbegun {X = X} disk left end old new none there same (inl begun) =
    false≢true (sym (ap (λ (end : Option X). is_some end) none) ∙ begun)
unbegun disk left end old new none there same (inr more) = more.1 (ap (λ (counts : WorldCounts). counts.clocks) same)

-- the entries of what was begun lead to the server that is left, and none do where nothing was
pub seen_leads : {E L B : Type 0} (led : List E → B → Type 0) (server : B) (end : Option (Service E L)) →
    IfSome end (λ service. led service.seen server) → (is_some end ≡ false → led [] server) →
    led (seen_of end) server
seen_leads led server None leads unserved = unserved refl
seen_leads led server (Some service) leads unserved = leads

module _ {D : Type 0} (faults : D → ℕ) where
  -- where a history that led from a server before its first entry marks the store
  pub marked_by : (opening_book book : BookView D) (history : List (Ticked D)) (db : Db) →
      state_in opening_book ≡ opening_state db → Leads faults opening_book history book →
      (state_in book).store_refused ≡ list_any was_refused (map (λ entry. entry.made) history)
  marked_by opening_book book history db opens leads =
      ap (λ (state : State). state.store_refused) leads.led.state
      ∙ ap (λ (state : State). (state_after state (map (λ (entry : Ticked D). entry.made) history)).store_refused) opens
      ∙ refused_since db (map (λ entry. entry.made) history)

  one_taken : (what : Act) (short : Bool) → (what ≡ act.Flush → short ≡ false) → (is_flush what && short) ≡ false
  one_taken (act.Connect user host) short taken = refl
  one_taken (act.Call session reference call) short taken = refl
  one_taken (act.Broken session) short taken = refl
  one_taken (act.Drain session) short taken = refl
  one_taken act.Flush short taken = taken refl
  one_taken (act.Close session) short taken = refl

  all_taken : (history : List (Ticked D)) → AllByRecursion (λ entry. IsNotRefused entry.made) history →
      list_any was_refused (map (λ entry. entry.made) history) ≡ false
  all_taken [] taken = refl
  all_taken (entry ∷ history) taken =
      rw (one_taken entry.made.entry.act entry.made.short taken.0) (all_taken history taken.1)

  none_both : (P : JournalView D → JournalView D → Type 0) (history : List (Ticked D))
      (one other : Option (JournalView D)) → one ≡ None →
      IfBoth (AllByRecursion (λ entry. IsNotRefused entry.made) history) P one other →
      (other ≡ None) × AllByRecursion (λ entry. IsNotRefused entry.made) history
  none_both P history None None none both = (refl, both)
  none_both P history None (Some new) none both = absurd both
  none_both P history (Some old) other none both = cc

  -- without a store none is refused
  pub never_refused : (opening_book book : BookView D) (history : List (Ticked D)) →
      opening_book.journal ≡ None → Leads faults opening_book history book →
      list_any was_refused (map (λ entry. entry.made) history) ≡ false
  never_refused opening_book book history none leads =
      all_taken history (none_both _ history opening_book.journal book.journal none leads.store).1

  -- nor is one there after it
  pub unstored : (opening_book book : BookView D) (history : List (Ticked D)) → opening_book.journal ≡ None →
      Leads faults opening_book history book → book.journal ≡ None
  unstored opening_book book history none leads =
      (none_both _ history opening_book.journal book.journal none leads.store).0

-- a book without a store has no disk that failed
pub no_disk_failed : {D : Type 0} (faults : D → ℕ) (disk : Option D) (book : BookView D) → disk ≡ disk_in book →
    book.journal ≡ None → IsSomeAnd disk (λ d. faults d ≢ 0) → ⊥
no_disk_failed faults None book is none has = has
no_disk_failed faults (Some disk) book is none has =
    let there : Some disk ≡ None = is ∙ ap (λ journal. option_map (λ store. store.disk) journal) none in cc
