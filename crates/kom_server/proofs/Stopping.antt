-- What a stop leaves of a store over which a run has served.
use Rattle.std.proofs.Common.{◌≡◌, ◌≢◌, ◌<◌, ◌+◌, ◌^◌, inl, inr, ℕ, true, List, length, Option, Some, None, sym}
use Rattle.std.proofs.Common.{subst, ◌∙◌, arith}
use Rattle.std.specs.Option.{IfSome}
use Rattle.std.specs.Prelude.{option_map, IsTrue}
use Rattle.kom_types.specs.declared.effects.Effect.{Effect}
use Rattle.kom_model.specs.State.{State}
use Rattle.kom_disk.specs.Faults.{Rose}
use Rattle.kom_journal.specs.Files.{body_of}
use Rattle.kom_disk.specs.declared.disk.Disk.{Ghosts}
use Rattle.kom_journal.specs.Images.{AreFor, images_at, moment}
use Rattle.kom_journal.specs.Journals.{JournalView, EndsAtGate, size_with}
use Rattle.kom_book.specs.Books.{BookView, IsPlain, StandsNow, LeadsOn, StopsLead, state_in, disk_in}
use Rattle.kom_book.specs.Stores.{IfBoth, IsLeftNow}
use Rattle.kom_book.specs.Stops.{StoreLeads, StopLeads, records_of, pending_along}
use Rattle.kom_book.specs.declared.ticked.Ticked.{Ticked}
use Rattle.kom_server.specs.Statuses.{HasRefused}
use Rattle.kom_server.specs.Stops.{IsKeptAlong, HasServed, IsRefusalCause}
use Rattle.kom_server.proofs.Refusing.{has_refused}
use Rattle.kom_server.proofs.StoreRuns.{some_then, both_some, told_so, marked_by}

-- a count that rose is not 0
risen : (before now : ℕ) → Rose before now → now ≢ 0
risen before now (inl more) none = omega (arith, more, none)
risen before now (inr most) none = omega (arith, most, none)

-- a store that would get too long, by the number of its bytes
too_long : {D : Type 0} (store : JournalView D) (along : List Effect) → store.pending ≡ along →
    2 ^ 40 < size_with store → 2 ^ 40 < (store.place + 1) + 9 + length (body_of along)
too_long store along same full =
    subst (λ (list : List Effect). 2 ^ 40 < (store.place + 1) + 9 + length (body_of list)) same (omega (arith, full))

module _ {D : Type 0} (d : Ghosts D) where
  -- why a store refused a flush
  cause_store : (start state : State) (history : List (Ticked D)) (old new : JournalView D) →
      StoreLeads d.faults start history old state new → (IsTrue d.tells → EndsAtGate d.size new) →
      state.store_refused ≡ true → IsRefusalCause d start (records_of history) new.disk
  cause_store start state history old new leads ends marked = elim (leads.refused marked) [
    | inl rose ↦ inl (risen (d.faults old.disk) (d.faults new.disk) rose)
    | inr full ↦ inr (
      new.place + 1,
      (λ told. sym (ends told full.0)),
      too_long new (pending_along start (records_of history)) leads.pending full.1,
    )
  ]

  cause_both : (P R none : Type 0) → P → (start state : State) (history : List (Ticked D))
      (one other : Option (JournalView D)) →
      IfBoth none (λ old new. P → StoreLeads d.faults start history old state new) one other →
      (IsTrue d.tells → IfSome other (EndsAtGate d.size)) → (R → state.store_refused ≡ true) →
      IfSome (option_map (λ (store : JournalView D). store.disk) other)
      (λ disk. R → IsRefusalCause d start (records_of history) disk)
  cause_both P R none p start state history None None leads ends marked = tt
  cause_both P R none p start state history None (Some new) leads ends marked = absurd leads
  cause_both P R none p start state history (Some old) None leads ends marked = absurd leads
  cause_both P R none p start state history (Some old) (Some new) leads ends marked =
      λ refused. cause_store start state history old new (leads p) ends (marked refused)

  kept_store : (start state : State) (history : List (Ticked D)) (old new : JournalView D) →
      AreFor (IsLeftNow (moment d.moment) (images_at d.images_at) old.disk) start.db →
      StopLeads (moment d.moment) (images_at d.images_at) start history old state new →
      IsKeptAlong d start history new.disk
  kept_store start state history old new stands leads = record {
    opened = moment d.moment old.disk;
    begins = λ image left. stands image ((leads.any_moment.kept (moment d.moment old.disk) image (omega arith)).0 left);
    within = leads.any_moment.forward;
    since = leads.since;
    ticked = leads.ticked;
    rise = leads.rise;
    any_moment = λ at image from to left. leads.any_moment.each at image from to left;
  }

  kept_both : (P Q : Type 0) → P → Q → (start state : State) (history : List (Ticked D))
      (one other : Option (JournalView D)) →
      IfSome one (λ store. AreFor (IsLeftNow (moment d.moment) (images_at d.images_at) store.disk) start.db) →
      IfBoth (Unit {0}) (λ old new. P → Q → StopLeads (moment d.moment) (images_at d.images_at) start history old state
      new) one other →
      IfSome (option_map (λ (store : JournalView D). store.disk) other) (λ disk. IsKeptAlong d start history disk)
  kept_both P Q p q start state history None None stands leads = tt
  kept_both P Q p q start state history None (Some new) stands leads = absurd leads
  kept_both P Q p q start state history (Some old) None stands leads = absurd leads
  kept_both P Q p q start state history (Some old) (Some new) stands leads =
      kept_store start state history old new stands (leads p q)

  kept_disk : (opening book : BookView D) (history : List (Ticked D)) → IsPlain opening →
      StandsNow (moment d.moment) (images_at d.images_at) opening →
      StopsLead (moment d.moment) (images_at d.images_at) opening history book →
      IfSome (disk_in book) (λ disk. IsKeptAlong d (state_in opening) history disk)
  kept_disk opening book history plain stands leads =
      kept_both (IsPlain opening) (StandsNow (moment d.moment) (images_at d.images_at) opening) plain stands
      (state_in opening) (state_in book) history opening.journal book.journal stands leads

  -- what a run leaves of the disk of a store
  pub served_disk : (opening book : BookView D) (history : List (Ticked D)) → IsPlain opening →
      (IsTrue d.tells → StandsNow (moment d.moment) (images_at d.images_at) opening) →
      LeadsOn (moment d.moment) (images_at d.images_at) d.tells d.faults opening history book →
      (IsTrue d.tells → IfSome book.journal (EndsAtGate d.size)) →
      IfSome (disk_in book) (HasServed d (state_in opening) history)
  served_disk opening book history plain stands leads ends =
      some_then _ _ (disk_in book)
      (both_some _ _ (disk_in book)
      (told_so (IsTrue d.tells) _ (disk_in book)
      (λ told. kept_disk opening book history plain (stands told) (leads.1 told)))
      (cause_both (IsPlain opening) (HasRefused (records_of history)) _ plain (state_in opening)
      (state_in book) history opening.journal book.journal leads.0.store ends
      (λ has. marked_by d.faults opening book history plain.opening.0 plain.opening.1 leads.0
      ∙ has_refused (records_of history) has)))
      (λ disk facts. record { kept = facts.0; refused = facts.1 })
