-- What a stop leaves along a history that leads from a book to the next.
use Rattle.std.proofs.Common.{◌≡◌, ◌<◌, ◌≤◌, ◌⊎◌, inl, inr, ⊎_elim, ℕ, ◌+◌, List, [], ◌∷◌}
use Rattle.std.proofs.Common.{◌++◌, length, Option, Some, None, refl, sym, ap, ◌∙◌, subst, arith}
use Rattle.std.proofs.Common.{length-append}
use Rattle.std.specs.Prelude.{map, ◌↔◌}
use Rattle.std.specs.List.{AllByRecursion}
use Rattle.std.proofs.Math.Nat.{le_trans, le_refl}
use Rattle.std.proofs.lemmas.Bool.{cases_lt}
use Rattle.std.proofs.lemmas.List.{length-map, map-append}
use Rattle.kom_types.specs.declared.acts.Record.{Record}
use Rattle.kom_model.specs.Db.{Db}
use Rattle.kom_model.specs.State.{State}
use Rattle.kom_model.specs.After.{after}
use Rattle.kom_model.specs.Legal.{state_after}
use Rattle.hall_desk.proofs.Histories.{state_after-append}
use Rattle.kom_disk.specs.Moments.{LeavesOnly}
use Rattle.kom_journal.specs.Images.{Image, StandsFor, AreFor, IsKept}
use Rattle.kom_journal.specs.Journals.{JournalView}
use Rattle.kom_book.specs.Stores.{IfBoth, StoreStays, IsLeftNow, IsBase, StopFollows}
use Rattle.kom_book.specs.Stores.{base_after}
use Rattle.kom_book.specs.Stops.{record_of, records_of, rows_after, tick_of, stable_by, IsLeftBy}
use Rattle.kom_book.specs.Stops.{StopLeads, TicksNeverFall}
use Rattle.kom_book.specs.Books.{BookView, Follows, Stays, Leads, IsPlain, StandsNow, StopsFollow}
use Rattle.kom_book.specs.Books.{StopsLead, state_in}
use Rattle.kom_book.specs.Along.{base_more, rows_more, rows_before, rows_all, stable_of}
use Rattle.kom_book.specs.Ticks.{ticked_later, stable_all, stable_before}
use Rattle.kom_book.specs.Leading.{all_then, both_then}
use Rattle.kom_book.specs.declared.ticked.Ticked.{Ticked}

module _ {D : Type 0} (moment : D → ℕ) (images_at : D → ℕ → Image → Type 0) where
  -- ---- one store

  -- a moment that is neither before nor after now is now
  left_now : (disk : D) (at : ℕ) (image : Image) → moment disk ≤ at → at ≤ moment disk →
      images_at disk at image →
      IsLeftNow moment images_at disk image
  left_now disk at image from to left =
      let is : at ≡ moment disk = omega (arith, from, to) in
      subst (λ (n : ℕ). images_at disk n image) is left

  -- nothing passes
  pub nothing_passes : (disk : D) (P : ℕ → Image → Type 0) →
      ((at : ℕ) (image : Image) → IsLeftNow moment images_at disk image → P at image) →
      LeavesOnly moment images_at disk disk P
  nothing_passes disk P holds = record {
    forward = le_refl (moment disk);
    each = λ at image from to left. holds at image (left_now disk at image from to left);
    kept = λ at image early. (λ left. left, λ left. left);
  }

  stop_empty : (start : State) (store : JournalView D) → start.stable ≡ 0 → store.pending ≡ [] →
      AreFor (IsLeftNow moment images_at store.disk) start.db →
      StopLeads moment images_at start [] store start store
  stop_empty start store nothing waits stands = record {
    base = record {
      fit = rw waits refl;
      rows = rw (waits, nothing) refl;
      left = λ image left. inl (rw nothing (stands image left));
    };
    since = tt;
    ticked = tt;
    rise = tt;
    any_moment = nothing_passes store.disk (IsLeftBy moment start []) (λ at image left. record {
      count = 0;
      within = le_refl 0;
      stable = rw nothing (le_refl 0);
      stands = stands image left;
    });
    kept = λ kept. kept;
  }

  base_stays : (old new : JournalView D) (state later : State) (base : Db) → later ≡ state →
      StoreStays old new →
      IsBase moment images_at state old base → IsBase moment images_at later new base
  base_stays old new state later base same stays is = record {
    fit = rw (stays.1) is.fit;
    rows = rw (stays.1, same) is.rows;
    left = rw (stays.0.disk, same) is.left;
  }

  stop_stays : (start : State) (history : List (Ticked D)) (first old new : JournalView D)
      (state later : State) →
      later ≡ state → StopLeads moment images_at start history first state old →
      StoreStays old new →
      StopLeads moment images_at start history first later new
  stop_stays start history first old new state later same leads stays = record {
    base = subst (λ (s : State). IsBase moment images_at later new
        (rows_after start (records_of history) s.stable))
        (sym same) (base_stays old new state later _ same stays leads.base);
    since = leads.since;
    ticked = subst (λ (disk : D). AllByRecursion (λ entry. tick_of moment entry ≤ moment disk)
        history)
        (sym stays.0.disk) leads.ticked;
    rise = leads.rise;
    any_moment = subst (λ (disk : D). LeavesOnly moment images_at first.disk disk
        (IsLeftBy moment start history))
        (sym stays.0.disk) leads.any_moment;
    kept = subst (λ (disk : D). IsKept (IsLeftNow moment images_at first.disk)
        → IsKept (IsLeftNow moment images_at disk)) (sym stays.0.disk) leads.kept;
  }

  -- one more act, which ends no earlier than all those before it
  ticks_then : (history : List (Ticked D)) (entry : Ticked D) → TicksNeverFall moment history →
      AllByRecursion (λ one. tick_of moment one ≤ tick_of moment entry) history →
      TicksNeverFall moment (history ++ entry ∷ [])
  ticks_then [] entry rise all = (tt, tt)
  ticks_then (first ∷ later) entry rise all = (
    all_then (λ (one : Ticked D). tick_of moment first ≤ tick_of moment one) later entry rise.0
        all.0,
    ticks_then later entry rise.1 all.1,
  )

  stop_follows : (start : State) (history : List (Ticked D)) (first old new : JournalView D)
      (state : State)
      (entry : Ticked D) → start.entries ≡ 0 → start.stable ≡ 0 →
      state ≡ state_after start (records_of history) →
      tick_of moment entry ≡ moment new.disk →
      StopLeads moment images_at start history first state old →
      StopFollows moment images_at state old entry.made (after state entry.made) new →
      StopLeads moment images_at start (history ++ entry ∷ []) first (after state entry.made) new
  stop_follows start history first old new state entry none nothing led ticks leads follows =
      let made : Record = entry.made in
      let records : List Record = records_of history in
      let longer : List (Ticked D) = history ++ entry ∷ [] in
      let later : State = after state made in
      let base : Db = rows_after start records state.stable in
      let all : records ++ made ∷ [] ≡ records_of longer =
      sym (map-append record_of history (entry ∷ [])) in
      let whole : later ≡ state_after start (records_of longer) =
      ap (λ (s : State). after s made) led ∙ sym (state_after-append start records (made ∷ []))
      ∙ ap (λ (list : List Record). state_after start list) all in
      let long : length records ≡ length history = length-map history record_of in
      let longer_by : length longer ≡ length history + 1 = length-append history (entry ∷ []) in
      let few : state.stable ≤ length records =
      subst (λ (s : State). s.stable ≤ length records) (sym led)
      (stable_of start records none nothing) in
      let few_now : later.stable ≤ length (records_of longer) =
      subst (λ (s : State). s.stable ≤ length (records_of longer)) (sym whole)
      (stable_of start (records_of longer) none nothing) in
      let long_now : length (records_of longer) ≡ length longer = length-map longer record_of in
      let new_base : base_after state base made
      ≡ rows_after start (records_of longer) later.stable =
      subst (λ (s : State). base_after s (rows_after start records s.stable) made
      ≡ rows_after start (records_of longer) (after s made).stable) (sym led)
      (subst (λ (list : List Record). base_after (state_after start records)
      (rows_after start records (state_after start records).stable) made
      ≡ rows_after start list (after (state_after start records) made).stable) all
      (base_more start records made none nothing)) in
      let step = follows.any_moment base leads.base in
      let now : IsBase moment images_at later new
      (rows_after start (records_of longer) later.stable) =
      subst (IsBase moment images_at later new) new_base (follows.base base leads.base) in
      let ticked : AllByRecursion (λ one. tick_of moment one ≤ moment new.disk) longer =
      all_then (λ (one : Ticked D). tick_of moment one ≤ moment new.disk) history entry
      (ticked_later moment history (moment old.disk) (moment new.disk) step.forward leads.ticked)
      (omega (arith, ticks)) in
      -- the rows after so many of the old records
      let as_before : (count : ℕ) → count ≤ length records → (image : Image) →
      StandsFor (rows_after start records count) image →
      StandsFor (rows_after start (records_of longer) count) image = λ count within image stands.
      subst (λ (db : Db). StandsFor db image) (sym (rows_more start records made count within)
      ∙ ap (λ (list : List Record). rows_after start list count) all) stands in
      -- those after all of them
      let as_all : (image : Image) → StandsFor state.db image →
      StandsFor (rows_after start (records_of longer) (length records)) image = λ image stands.
      subst (λ (db : Db). StandsFor db image) (ap (λ (s : State). s.db) led
      ∙ sym (rows_before start records made)
      ∙ ap (λ (list : List Record). rows_after start list (length records)) all) stands in
      let ended : (at : ℕ) (image : Image) → moment new.disk ≤ at →
      IsLeftNow moment images_at new.disk image →
      IsLeftBy moment start longer at image = λ at image late left.
      let stable : stable_by moment start longer at ≡ later.stable =
      stable_all moment start longer at
      (ticked_later moment longer (moment new.disk) at late ticked)
      ∙ sym (ap (λ (s : State). s.stable) whole) in
      elim (now.left image left) [
        | inl stands ↦ record {
          count = later.stable;
          within = omega (arith, few_now, long_now);
          stable = omega (arith, stable);
          stands = stands;
        }
        | inr other ↦ record {
          count = length (records_of longer);
          within = omega (arith, long_now);
          stable = omega (arith, stable, few_now);
          stands = subst (λ (db : Db). StandsFor db image)
              (ap (λ (s : State). s.db) whole ∙ sym (rows_all start (records_of longer))) other.1;
        }
      ] in
      let inside : (at : ℕ) (image : Image) → moment old.disk ≤ at → at < moment new.disk →
      images_at new.disk at image → IsLeftBy moment start longer at image = λ at image from to left.
      let stable : stable_by moment start longer at ≡ state.stable =
      stable_before moment start history entry at (omega (arith, ticks, to))
      ∙ stable_all moment start history at
      (ticked_later moment history (moment old.disk) at from leads.ticked)
      ∙ sym (ap (λ (s : State). s.stable) led) in
      elim (step.each at image from (omega (arith, to)) left) [
        | inl stands ↦ record {
          count = state.stable;
          within = omega (arith, few, long, longer_by);
          stable = omega (arith, stable);
          stands = as_before state.stable few image stands;
        }
        | inr other ↦ record {
          count = length records;
          within = omega (arith, long, longer_by);
          stable = omega (arith, stable, few);
          stands = as_all image other.1;
        }
      ] in
      let before : (at : ℕ) (image : Image) → moment first.disk ≤ at → at ≤ moment old.disk →
      at < moment new.disk → images_at new.disk at image →
      IsLeftBy moment start longer at image = λ at image from to early left.
      let was = leads.any_moment.each at image from to ((step.kept at image to).0 left) in
      let stable : stable_by moment start longer at ≡ stable_by moment start history at =
      stable_before moment start history entry at (omega (arith, ticks, early)) in
      record {
        count = was.count;
        within = omega (arith, was.within, longer_by);
        stable = omega (arith, was.stable, stable);
        stands = as_before was.count (omega (arith, was.within, long)) image was.stands;
      } in
      record {
        base = now;
        since = all_then (λ (one : Ticked D). moment first.disk ≤ tick_of moment one) history entry
            leads.since
            (omega (arith, ticks, leads.any_moment.forward, step.forward));
        ticked = ticked;
        rise = ticks_then history entry leads.rise
            (ticked_later moment history (moment old.disk) (tick_of moment entry)
            (omega (arith, ticks, step.forward)) leads.ticked);
        any_moment = record {
          forward = le_trans leads.any_moment.forward step.forward;
          each = λ at image from to left. elim (cases_lt at (moment new.disk)) [
            | inl early ↦ elim (cases_lt (moment old.disk) at) [
              | inl late ↦ inside at image (omega (arith, late)) early left
              | inr past ↦ before at image from past early left
            ]
            | inr late ↦ ended at image late (left_now new.disk at image late to left)
          ];
          kept = λ at image early.
              let past : at ≤ moment old.disk = le_trans early leads.any_moment.forward in (
                λ left. (leads.any_moment.kept at image early).0 ((step.kept at image past).0 left),
                λ left. (step.kept at image past).1 ((leads.any_moment.kept at image early).1 left),
              );
        };
        kept = λ kept. follows.kept base leads.base (leads.kept kept);
      }

  -- ---- a book

  pub empty_stops : (opening : BookView D) → StopsLead moment images_at opening [] opening
  empty_stops opening = plain_store opening.journal refl
    where
      plain_store : (journal : Option (JournalView D)) → opening.journal ≡ journal →
          IfBoth (Unit {0}) (λ one other. IsPlain opening → StandsNow moment images_at opening
          → StopLeads moment images_at (state_in opening) [] one (state_in opening) other) journal
          journal
      plain_store None is = tt
      plain_store (Some store) is = λ plain stands.
          stop_empty (state_in opening) store (ap (λ s. s.stable) plain.opening.1)
          (rw is at plain.waits) (rw is at stands)

  pub staying_stops : (opening : BookView D) (history : List (Ticked D)) (old new : BookView D) →
      StopsLead moment images_at opening history old → Stays old new →
      StopsLead moment images_at opening history new
  staying_stops opening history old new leads stays =
      both_then _ _ _ _ _ _ opening.journal old.journal new.journal (λ none same. none)
      (λ first one other since same plain stands. stop_stays (state_in opening) history first one
      other
      (state_in old) (state_in new) stays.state (since plain stands) same) leads stays.store

  pub following_stops : (faults : D → ℕ) (opening : BookView D) (history : List (Ticked D))
      (old : BookView D)
      (entry : Ticked D) (new : BookView D) → Leads faults opening history old →
      Follows faults old entry new →
      StopsLead moment images_at opening history old → StopsFollow moment images_at old entry new →
      StopsLead moment images_at opening (history ++ entry ∷ []) new
  following_stops faults opening history old entry new led follows leads on =
      go opening.journal old.journal new.journal follows.ticked leads on
    where
      go : (one two three : Option (JournalView D)) → entry.store.value ≡ three →
          IfBoth (Unit {0}) (λ first store. IsPlain opening → StandsNow moment images_at opening
          → StopLeads moment images_at (state_in opening) history first (state_in old) store) one
          two →
          IfBoth (Unit {0}) (λ store other.
          StopFollows moment images_at (state_in old) store entry.made (state_in new) other) two
          three →
          IfBoth (Unit {0}) (λ first other. IsPlain opening → StandsNow moment images_at opening
          → StopLeads moment images_at (state_in opening) (history ++ entry ∷ []) first
          (state_in new) other)
          one three
      go None None None ticks leads on = tt
      go None None (Some new_store) ticks leads on = absurd on
      go None (Some old_store) three ticks leads on = absurd leads
      go (Some first) None three ticks leads on = absurd leads
      go (Some first) (Some old_store) None ticks leads on = absurd on
      go (Some first) (Some old_store) (Some new_store) ticks leads on = λ plain stands.
          subst (λ (state : State).
          StopLeads moment images_at (state_in opening) (history ++ entry ∷ []) first state
          new_store)
          (sym follows.state)
          (stop_follows (state_in opening) history first old_store new_store (state_in old) entry
          (ap (λ s. s.entries) plain.opening.1) (ap (λ s. s.stable) plain.opening.1) led.led.state
          (rw ticks refl) (leads plain stands)
          (subst (λ (state : State). StopFollows moment images_at (state_in old) old_store
          entry.made state new_store)
          follows.state on))
