-- What the turns of a seat leave of the desk.
use Rattle.std.proofs.Common.{◌≡◌, ◌≢◌, ℕ, ◌||◌, ◌⊎◌, Bool, true, false, inl, inr, List, [], ◌∷◌, ◌++◌}
use Rattle.std.proofs.Common.{Result, Ok, Err, refl, sym, ◌∙◌, ap, eq-eqb, append-nil}
use Rattle.std.specs.Prelude.{OnOk, OnErr, ⊤}
use Rattle.kom_types.specs.declared.acts.Act.{Act}
use Rattle.kom_types.specs.declared.acts.Act.TheVariants as act
use Rattle.kom_types.specs.declared.acts.Record.{Record}
use Rattle.kom_types.specs.declared.answers.Why.TheVariants as why
use Rattle.kom_types.specs.declared.items.Item.{Item}
use Rattle.kom_types.specs.declared.answers.NotMade.{NotMade}
use Rattle.kom_types.specs.declared.answers.NotMade.TheVariants as fault
use Rattle.kom_links.specs.declared.deeds.Deed.{Deed}
use Rattle.kom_links.specs.Answers.{deed_of, is_nothing, said_stopped}
use Rattle.kom_links.specs.declared.deeds.Deed.TheVariants as deed
use Rattle.kom_links.specs.Records.{has_session, IsOpen}
use Rattle.kom_links.specs.DeskCalls.{DeskView, ChangesAt, StaysForAll, record_of, IsTold}
use Rattle.kom_links.specs.DeskCalls.{Connects, Acts, Calls, Drains, Flushes, Closes, AsksStopped, AddsNoneOrShort}
use Rattle.kom_hub.specs.declared.place.Place.{Place}
use Rattle.kom_hub.specs.Seats.{is_flush, seat_records, IsFlush, Hears, Leaves}
use Rattle.kom_hub.proofs.Shown.{shown_own}
use Rattle.kom_hub.proofs.Hearing.{Told, hears_told, hears_connected, said_is}
use Rattle.kom_hub.proofs.Seated.{present_more, absent_more, connect_more, flush_more, grows}

left_false : (x y : Bool) → (x || y) ≡ false → x ≡ false
left_false true y e = e
left_false false y e = refl

pub lock_before : (old new extra : Bool) → new ≡ (old || extra) → new ≡ false → old ≡ false
lock_before old new extra e free = left_false old extra (sym e ∙ free)

has_more : (session : ℕ) (before after : DeskView) (more : List Record) → after.mine ≡ before.mine ++ more
    → has_session session before.mine ≡ true → has_session session after.mine ≡ true
has_more session before after more grown some =
    ap (has_session session) grown ∙ present_more session before.mine more some

-- who had records before, with these more
has_still : (old new : Place) (before after : DeskView) (more : List Record) → new.session ≡ old.session
    → after.mine ≡ before.mine ++ more → (old.session ≢ 0 → has_session old.session before.mine ≡ true)
    → new.session ≢ 0 → has_session new.session after.mine ≡ true
has_still old new before after more same grown had some =
    ap (λ k. has_session k after.mine) same
    ∙ has_more old.session before after more grown (had (λ zero. some (same ∙ zero)))

-- the same is shown
shows_same : (old new : Place) (before after : DeskView) → new.session ≡ old.session → after.mine ≡ before.mine
    → seat_records new.session after.mine ≡ seat_records old.session before.mine ++ []
shows_same old new before after same mine =
    ap (λ k. seat_records k after.mine) same ∙ ap (seat_records old.session) mine
    ∙ sym (append-nil (seat_records old.session before.mine))

-- nothing was added
still : (old new : Place) (before after : DeskView) → new.session ≡ old.session → after.mine ≡ before.mine
    → StaysForAll before.gave_to after.gave_to → after.pass ≡ before.pass
    → (after.lock_full ≡ false → before.lock_full ≡ false) → Hears old before new after → Leaves old before new after
still old new before after same mine given pass lock hears = record {
  more = [];
  mine = mine ∙ sym (append-nil before.mine);
  shows = shows_same old new before after same mine;
  own = tt;
  stays = λ some. same;
  fresh = λ none some. absurd (some (same ∙ none));
  has = has_still old new before after [] same (mine ∙ sym (append-nil before.mine));
  given = λ number some other. given number;
  pass = pass;
  lock = lock;
  hears = hears;
}

pub leaves_connected : (old new : Place) (before : DeskView) (moment : ℕ) (user host : List ℕ) (session : ℕ)
    (after : DeskView) → old.session ≡ 0 → new.session ≡ session → old.is_spent ≡ false
    → new.is_spent ≡ old.is_spent → new.answers.items ≡ old.answers.items ++ (deed.Connect, Ok tt) ∷ []
    → Connects before moment user host (Ok session) after → Leaves old before new after
leaves_connected old new before moment user host session after none is fresh spent items c = record {
  more = record_of before.pass moment (act.Connect user host) session false ∷ [];
  mine = c.added;
  shows = ap (λ k. seat_records k after.mine) is ∙ ap (seat_records session) c.added
      ∙ connect_more session before.mine (record_of before.pass moment (act.Connect user host) session false)
      c.new_number.0 c.new_number.1 refl
      ∙ ap (λ k. seat_records k before.mine ++ record_of before.pass moment (act.Connect user host) session false ∷ [])
      (sym none);
  own = (inl (λ zero. c.new_number.0 (sym is ∙ zero), sym is, refl), tt);
  stays = λ some. absurd (some none);
  fresh = λ zero some. ap (λ k. has_session k before.mine) is ∙ c.new_number.1;
  has = λ before' some. ap (λ k. has_session k after.mine) is ∙ ap (has_session session) c.added
      ∙ absent_more session before.mine (record_of before.pass moment (act.Connect user host) session false ∷ [])
      c.new_number.1 ∙ ap (λ b. b || false) (eq-eqb session session refl);
  given = λ number some other. c.given.1 number (λ e. other (e ∙ sym is));
  pass = c.pass;
  lock = lock_before before.lock_full after.lock_full _ c.lock_full;
  hears = hears_connected old new before after fresh spent items c.tells;
}

pub leaves_refused : (old new : Place) (before : DeskView) (moment : ℕ) (user host : List ℕ) (reason : NotMade)
    (after : DeskView) → Told old new (deed.Connect, Err reason) → Connects before moment user host (Err reason) after
    → Leaves old before new after
leaves_refused old new before moment user host reason after told c =
    still old new before after told.session c.none_added c.none_given c.pass
    (lock_before before.lock_full after.lock_full _ c.lock_full)
    (hears_told old new before after (deed.Connect, Err reason) told c.tells)

-- nothing was asked of the desk
pub leaves_alone : (old new : Place) (view : DeskView) → new.session ≡ old.session → Hears old view new view
    → Leaves old view new view
leaves_alone old new view same hears = still old new view view same refl (λ number. refl) refl (λ free. free) hears

pub leaves_asked : (old new : Place) (before : DeskView) (answer : Result Bool NotMade) (after : DeskView)
    → Told old new (deed.Ask, said_stopped answer) → AsksStopped before answer after → Leaves old before new after
leaves_asked old new before answer after told a =
    still old new before after told.session a.mine a.given a.pass
    (lock_before before.lock_full after.lock_full _ a.lock_full)
    (hears_told old new before after (deed.Ask, said_stopped answer) told a.answers)

-- an act of the session adds its record, or none
pub data Adds (session : ℕ) (before after : DeskView) : Type 0 where
  Nothing : after.mine ≡ before.mine → Adds session before after
  One : (made : Record) → made.session ≡ session → is_flush made.entry.act ≡ false
      → after.mine ≡ before.mine ++ made ∷ [] → Adds session before after

leaves_acted : (old new : Place) (before : DeskView) (number : ℕ) (what : Deed) (answer : Result ⊤ NotMade)
    (after : DeskView) → Told old new (what, answer) → IsOpen number (seat_records old.session before.mine)
    → Adds number before after
    → ((other : ℕ) → other ≢ number → after.gave_to other ≡ before.gave_to other)
    → IsTold before what answer after → Leaves old before new after
leaves_acted old new before number what answer after heard opened adds given told =
    let own : (number ≡ old.session) × (old.session ≢ 0) = shown_own old.session number before.mine opened in
    go own.0 own.1 adds
  where
    same : new.session ≡ old.session
    same = heard.session

    hears : Hears old before new after
    hears = hears_told old new before after (what, answer) heard (told.tells ∙ said_is before.answers what answer)

    go : number ≡ old.session → old.session ≢ 0 → Adds number before after → Leaves old before new after
    go is some (Nothing e) = record {
      more = [];
      mine = e ∙ sym (append-nil before.mine);
      shows = shows_same old new before after same e;
      own = tt;
      stays = λ some. same;
      fresh = λ none some'. absurd (some none);
      has = has_still old new before after [] same (e ∙ sym (append-nil before.mine));
      given = λ other some' differs. given other (λ e. differs (e ∙ is ∙ sym same));
      pass = told.pass;
      lock = lock_before before.lock_full after.lock_full _ told.lock_full;
      hears = hears;
    }
    go is some (One made own kind added) = record {
      more = made ∷ [];
      mine = added;
      shows = ap (λ k. seat_records k after.mine) same ∙ grows old.session before number opened made own after added;
      own = (inl (λ zero. some (sym same ∙ zero), own ∙ is ∙ sym same, kind), tt);
      stays = λ some. same;
      fresh = λ none some'. absurd (some none);
      has = has_still old new before after (made ∷ []) same added;
      given = λ other some' differs. given other (λ e. differs (e ∙ is ∙ sym same));
      pass = told.pass;
      lock = lock_before before.lock_full after.lock_full _ told.lock_full;
      hears = hears;
    }

-- ---- what is of no session

flush_leaves : (old new : Place) (before after : DeskView) (made : Record) → old.session ≢ 0
    → new.session ≡ old.session → after.mine ≡ before.mine ++ made ∷ [] → IsFlush made
    → StaysForAll before.gave_to after.gave_to → after.pass ≡ before.pass
    → (after.lock_full ≡ false → before.lock_full ≡ false) → Hears old before new after → Leaves old before new after
flush_leaves old new before after made some same mine flush given pass lock hears = record {
  more = made ∷ [];
  mine = mine;
  shows = ap (λ k. seat_records k after.mine) same ∙ ap (seat_records old.session) mine
      ∙ flush_more old.session before.mine made some flush.0 flush.1;
  own = (inr flush, tt);
  stays = λ some. same;
  fresh = λ none some'. absurd (some none);
  has = has_still old new before after (made ∷ []) same mine;
  given = λ number some other. given number;
  pass = pass;
  lock = lock;
  hears = hears;
}

-- the records after a flush that was refused: the same, or one short flush more
pub short_or : (before : DeskView) (moment : ℕ) (reason : NotMade) (after : DeskView)
    → AddsNoneOrShort before moment reason after
    → (after.mine ≡ before.mine) ⊎ (after.mine ≡ before.mine ++ record_of before.pass moment act.Flush 0 true ∷ [])
short_or before moment (fault.Gone why.Stopped) after adds = adds
short_or before moment (fault.Gone why.Absent) after same = inl same
short_or before moment (fault.Gone why.Dropped) after same = inl same
short_or before moment (fault.Gone why.Overrun) after same = inl same
short_or before moment (fault.Full number) after same = inl same
short_or before moment fault.Memory after same = inl same

pub leaves_flushed : (old new : Place) (before : DeskView) (moment : ℕ) (answer : Result ⊤ NotMade)
    (after : DeskView) → old.session ≢ 0 → Told old new (deed.Flush, answer) → Flushes before moment answer after
    → Leaves old before new after
leaves_flushed old new before moment (Ok done) after some told f =
    flush_leaves old new before after (record_of before.pass moment act.Flush 0 false) some told.session f.added
    (refl, refl) f.given f.pass (lock_before before.lock_full after.lock_full _ f.lock_full)
    (hears_told old new before after (deed.Flush, Ok done) told f.tells)
leaves_flushed old new before moment (Err reason) after some told f =
    elim (short_or before moment reason after f.none_added) [
      | inl none ↦ still old new before after told.session none f.given f.pass
          (lock_before before.lock_full after.lock_full _ f.lock_full)
          (hears_told old new before after (deed.Flush, Err reason) told f.tells)
      | inr short ↦ flush_leaves old new before after (record_of before.pass moment act.Flush 0 true) some told.session
          short (refl, refl) f.given f.pass (lock_before before.lock_full after.lock_full _ f.lock_full)
          (hears_told old new before after (deed.Flush, Err reason) told f.tells)
    ]

-- ---- the acts of a session, by what each says

ok_adds : (number : ℕ) (before after : DeskView) (answer : Result ⊤ NotMade) (made : Record)
    → made.session ≡ number → is_flush made.entry.act ≡ false → OnOk answer (after.mine ≡ before.mine ++ made ∷ [])
    → OnErr answer (after.mine ≡ before.mine)
    → Adds number before after
ok_adds number before after (Ok done) made own kind one none = One made own kind one
ok_adds number before after (Err reason) made own kind one none = Nothing none

pub leaves_act : (old new : Place) (before : DeskView) (moment : ℕ) (what : Act) (number : ℕ)
    (answer : Result ⊤ NotMade) (after : DeskView) → Told old new (deed_of what, answer)
    → IsOpen number (seat_records old.session before.mine) → is_flush what ≡ false
    → Acts before moment what number answer after → Leaves old before new after
leaves_act old new before moment what number answer after same opened kind a =
    leaves_acted old new before number (deed_of what) answer after same opened
    (ok_adds number before after answer
    (record_of before.pass moment what number false) refl kind a.added a.rest.none_added)
    (λ other differs. a.given other) a.rest

pub leaves_closed : (old new : Place) (before : DeskView) (moment : ℕ) (number : ℕ) (answer : Result ⊤ NotMade)
    (after : DeskView) → Told old new (deed.Close number, answer) → IsOpen number (seat_records old.session before.mine)
    → Closes before moment number answer after → Leaves old before new after
leaves_closed old new before moment number answer after same opened a =
    leaves_acted old new before number (deed.Close number) answer after same opened
    (ok_adds number before after answer (record_of before.pass moment (act.Close number) number false) refl refl a.added
    a.rest.none_added)
    (λ other differs. a.given other) a.rest

called_adds : (number : ℕ) (before after : DeskView) (moment : ℕ) (what : Act) (answer : Result ⊤ NotMade)
    → is_flush what ≡ false
    → OnOk answer ((short : Bool) × (after.mine ≡ before.mine ++ record_of before.pass moment what number short ∷ []))
    → OnErr answer (after.mine ≡ before.mine) → Adds number before after
called_adds number before after moment what (Ok done) kind one none =
    One (record_of before.pass moment what number one.0) refl kind one.1
called_adds number before after moment what (Err reason) kind one none = Nothing none

pub leaves_called : (old new : Place) (before : DeskView) (moment : ℕ) (what : Act) (number : ℕ)
    (answer : Result ⊤ NotMade) (after : DeskView) → Told old new (deed_of what, answer)
    → IsOpen number (seat_records old.session before.mine) → is_flush what ≡ false
    → Calls before moment what number answer after → Leaves old before new after
leaves_called old new before moment what number answer after same opened kind a =
    leaves_acted old new before number (deed_of what) answer after same opened
    (called_adds number before after moment what answer kind a.added a.rest.none_added)
    (λ other differs. a.given other) a.rest

drained_given : (number : ℕ) (before after : DeskView) (items : List Item) (answer : Result ⊤ NotMade)
    → OnOk answer (ChangesAt number (before.gave_to number ++ items ∷ []) before.gave_to after.gave_to)
    → OnErr answer (StaysForAll before.gave_to after.gave_to × (items ≡ []))
    → (other : ℕ) → other ≢ number → after.gave_to other ≡ before.gave_to other
drained_given number before after items (Ok done) one none other differs = one.1 other differs
drained_given number before after items (Err reason) one none other differs = none.0 other

pub leaves_drained : (old new : Place) (before : DeskView) (moment : ℕ) (number : ℕ) (items : List Item)
    (answer : Result ⊤ NotMade) (after : DeskView) → Told old new (deed.Drain number (is_nothing items), answer)
    → IsOpen number (seat_records old.session before.mine) → Drains before moment number items answer after
    → Leaves old before new after
leaves_drained old new before moment number items answer after same opened a =
    leaves_acted old new before number (deed.Drain number (is_nothing items)) answer after same opened
    (ok_adds number before after answer (record_of before.pass moment (act.Drain number) number false) refl refl a.added
    a.rest.none_added)
    (drained_given number before after items answer a.given a.none_given) a.rest
