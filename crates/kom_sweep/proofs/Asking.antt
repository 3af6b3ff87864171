-- One call of a session, with its flush and its drain.
use Rattle.std.proofs.Common.{◌≡◌, ℕ, ◌⊎◌, true, false, inl, inr, List, [], ◌∷◌, ◌++◌, Option, None}
use Rattle.std.proofs.Common.{refl, sym, ◌∙◌, ap, subst}
use Rattle.std.proofs.Common.{append-nil, Result, Ok, Err}
use Rattle.std.specs.Prelude.{IfOk, IfErr}
use Rattle.kom_types.specs.declared.acts.Act.{Act}
use Rattle.kom_types.specs.declared.acts.Act.TheVariants as act
use Rattle.kom_types.specs.declared.acts.Record.{Record}
use Rattle.kom_types.specs.declared.answers.Why.TheVariants as why
use Rattle.kom_types.specs.declared.calls.Call.{Call}
use Rattle.kom_types.specs.declared.items.Item.{Item}
use Rattle.kom_types.specs.declared.replies.Reply.{Reply}
use Rattle.kom_links.specs.declared.deeds.Deed.{Deed}
use Rattle.kom_links.specs.declared.deeds.Deed.TheVariants as deed
use Rattle.kom_types.specs.declared.answers.NotMade.{NotMade}
use Rattle.kom_types.specs.declared.answers.NotMade.TheVariants as fault
use Rattle.kom_links.specs.Answers.{is_nothing}
use Rattle.kom_links.specs.DeskCalls.{record_of, Calls, Drains, Flushes, AddsNoneOrShort, StaysForAll}
use Rattle.kom_links.specs.DeskCalls.{ChangesAt}
use Rattle.kom_links.specs.Doors.{Gains}
use Rattle.kom_sweep.specs.declared.ends.Cut.{Cut}
use Rattle.kom_sweep.specs.declared.ends.Cut.TheVariants as cut
use Rattle.kom_sweep.specs.Told.{Told, tell, IsAbout, NoCall, Called, Flushed, reply_in}
use Rattle.kom_sweep.specs.Told.{next_reference}
use Rattle.kom_sweep.specs.Replies.{is_short}
use Rattle.kom_sweep.specs.Acting.{Seen, HasActed, Goes, Stops, IsOwn, faults_of}
use Rattle.kom_sweep.proofs.Times.{timed_none, timed_one}
use Rattle.kom_sweep.proofs.Going.{acted_on}

-- a desk on which nothing was given stays so
pub stays : (session : ℕ) (old new : ℕ → List (List Item)) → StaysForAll old new →
    ChangesAt session (old session ++ []) old new
stays session old new same = (same session ∙ sym (append-nil (old session)), λ number other. same number)

-- an act that was made
pub one_act : (session moment : ℕ) (x y : Seen) (made : Record) (lists : List (List Item)) (what : Deed) →
    y.desk.mine ≡ x.desk.mine ++ made ∷ [] → IsOwn x.desk.pass session made →
    ChangesAt session (x.desk.gave_to session ++ lists) x.desk.gave_to y.desk.gave_to →
    y.desk.answers ≡ x.desk.answers ++ (what, Ok tt) ∷ [] → Gains x.gave moment y.gave → made.entry.moment ≡ moment →
    y.desk.pass ≡ x.desk.pass → HasActed session (made.entry.act ∷ []) lists [] x y
one_act session moment x y made lists what mine own given tells gains at pass = record {
  added = made ∷ [];
  answers = (what, Ok tt) ∷ [];
  mine = mine;
  acts = refl;
  own = (own, tt);
  given = given;
  tells = tells;
  faults = refl;
  timed = timed_one x.gave y.gave moment made gains at;
  pass = pass;
}

-- one that was refused, and so is not there
pub no_act : (session moment : ℕ) (x y : Seen) (what : Deed) (reason : NotMade) → y.desk.mine ≡ x.desk.mine →
    StaysForAll x.desk.gave_to y.desk.gave_to → y.desk.answers ≡ x.desk.answers ++ (what, Err reason) ∷ [] →
    Gains x.gave moment y.gave → y.desk.pass ≡ x.desk.pass → HasActed session [] [] (reason ∷ []) x y
no_act session moment x y what reason mine given tells gains pass = record {
  added = [];
  answers = (what, Err reason) ∷ [];
  mine = mine ∙ sym (append-nil x.desk.mine);
  acts = refl;
  own = tt;
  given = stays session x.desk.gave_to y.desk.gave_to given;
  tells = tells;
  faults = refl;
  timed = timed_none x.gave y.gave moment gains;
  pass = pass;
}

-- ---- the three acts

pub called : {X : Type 0} (session reference : ℕ) (call : Call) (moment : ℕ) (x y : Seen) (value : X) →
    Gains x.gave moment y.gave → Calls x.desk moment (act.Call session reference call) session (Ok value) y.desk →
    HasActed session (act.Call session reference call ∷ []) [] [] x y
called session reference call moment x y value gains calls =
    one_act session moment x y
    (record_of x.desk.pass moment (act.Call session reference call) session calls.added.0) [] (deed.Call session)
    calls.added.1 (record { by_pass = refl; of_session = inl refl })
    (stays session x.desk.gave_to y.desk.gave_to calls.given) calls.rest.tells gains refl calls.rest.pass

pub not_called : {X : Type 0} (session reference : ℕ) (call : Call) (moment : ℕ) (x y : Seen) (reason : NotMade) →
    Gains x.gave moment y.gave → Calls {X = X} x.desk moment (act.Call session reference call) session (Err reason)
    y.desk → HasActed session [] [] (reason ∷ []) x y
not_called session reference call moment x y reason gains calls =
    no_act session moment x y (deed.Call session) reason calls.rest.none_added calls.given calls.rest.tells gains
    calls.rest.pass

pub flushed : {X : Type 0} (session moment : ℕ) (x y : Seen) (value : X) → Gains x.gave moment y.gave →
    Flushes x.desk moment (Ok value) y.desk → HasActed session (act.Flush ∷ []) [] [] x y
flushed session moment x y value gains flushes =
    one_act session moment x y (record_of x.desk.pass moment act.Flush 0 false) [] deed.Flush flushes.added
    (record { by_pass = refl; of_session = inr refl })
    (stays session x.desk.gave_to y.desk.gave_to flushes.given) flushes.tells gains refl flushes.pass

-- a flush that is refused may be there
short_act : (session moment : ℕ) (x y : Seen) (reason : NotMade) →
    y.desk.mine ≡ x.desk.mine ++ record_of x.desk.pass moment act.Flush 0 true ∷ [] →
    StaysForAll x.desk.gave_to y.desk.gave_to → y.desk.answers ≡ x.desk.answers ++ (deed.Flush, Err reason) ∷ [] →
    Gains x.gave moment y.gave → y.desk.pass ≡ x.desk.pass → HasActed session (act.Flush ∷ []) [] (reason ∷ []) x y
short_act session moment x y reason mine given tells gains pass = record {
  added = record_of x.desk.pass moment act.Flush 0 true ∷ [];
  answers = (deed.Flush, Err reason) ∷ [];
  mine = mine;
  acts = refl;
  own = (record { by_pass = refl; of_session = inr refl }, tt);
  given = stays session x.desk.gave_to y.desk.gave_to given;
  tells = tells;
  faults = refl;
  timed = timed_one x.gave y.gave moment (record_of x.desk.pass moment act.Flush 0 true) gains refl;
  pass = pass;
}

pub not_flushed : {X : Type 0} (session moment : ℕ) (x y : Seen) (reason : NotMade) → Gains x.gave moment y.gave →
    Flushes {X = X} x.desk moment (Err reason) y.desk →
    HasActed session [] [] (reason ∷ []) x y ⊎ HasActed session (act.Flush ∷ []) [] (reason ∷ []) x y
not_flushed session moment x y reason gains flushes = by reason flushes.none_added flushes.tells
  where
    none : (reason : NotMade) → y.desk.mine ≡ x.desk.mine →
        y.desk.answers ≡ x.desk.answers ++ (deed.Flush, Err reason) ∷ [] →
        HasActed session [] [] (reason ∷ []) x y ⊎ HasActed session (act.Flush ∷ []) [] (reason ∷ []) x y
    none reason mine tells =
        inl (no_act session moment x y deed.Flush reason mine flushes.given tells gains flushes.pass)

    by : (reason : NotMade) → AddsNoneOrShort x.desk moment reason y.desk →
        y.desk.answers ≡ x.desk.answers ++ (deed.Flush, Err reason) ∷ [] →
        HasActed session [] [] (reason ∷ []) x y ⊎ HasActed session (act.Flush ∷ []) [] (reason ∷ []) x y
    by (fault.Gone why.Stopped) (inl mine) tells = none (fault.Gone why.Stopped) mine tells
    by (fault.Gone why.Stopped) (inr mine) tells =
        inr (short_act session moment x y (fault.Gone why.Stopped) mine flushes.given tells gains flushes.pass)
    by (fault.Gone why.Absent) mine tells = none (fault.Gone why.Absent) mine tells
    by (fault.Gone why.Dropped) mine tells = none (fault.Gone why.Dropped) mine tells
    by (fault.Gone why.Overrun) mine tells = none (fault.Gone why.Overrun) mine tells
    by (fault.Full number) mine tells = none (fault.Full number) mine tells
    by fault.Memory mine tells = none fault.Memory mine tells

pub drained : {X : Type 0} (session moment : ℕ) (x y : Seen) (items : List Item) (value : X) →
    Gains x.gave moment y.gave → Drains x.desk moment session items (Ok value) y.desk →
    HasActed session (act.Drain session ∷ []) (items ∷ []) [] x y
drained session moment x y items value gains drains =
    one_act session moment x y (record_of x.desk.pass moment (act.Drain session) session false) (items ∷ [])
    (deed.Drain session (is_nothing items)) drains.added (record { by_pass = refl; of_session = inl refl })
    drains.given drains.rest.tells gains refl drains.rest.pass

pub not_drained : {X : Type 0} (session moment : ℕ) (x y : Seen) (items : List Item) (reason : NotMade) →
    Gains x.gave moment y.gave → Drains {X = X} x.desk moment session items (Err reason) y.desk →
    HasActed session [] [] (reason ∷ []) x y
not_drained session moment x y items reason gains drains =
    no_act session moment x y (deed.Drain session (is_nothing items)) reason drains.rest.none_added
    drains.none_given.0 drains.rest.tells gains drains.rest.pass

-- ---- all of it

-- the call was refused
pub stops_uncalled : (session : ℕ) (x y : Seen) (reason : NotMade) → HasActed session [] [] (reason ∷ []) x y →
    Stops session x y [] (reason ∷ [])
stops_uncalled session x y reason refused = record {
  exchanges = [];
  last = NoCall;
  next = x.next;
  acted = refused;
  told = refl;
  numbered = refl;
  last_numbered = tt;
  left = tt;
}

-- the flush was
pub stops_unflushed : (session : ℕ) (call : Call) (x m y : Seen) (reason : NotMade) →
    HasActed session (act.Call session x.next call ∷ []) [] [] x m →
    HasActed session [] [] (reason ∷ []) m y ⊎ HasActed session (act.Flush ∷ []) [] (reason ∷ []) m y →
    Stops session x y (tell call None ∷ []) (reason ∷ [])
stops_unflushed session call x m y reason made (inl refused) = record {
  exchanges = [];
  last = Called x.next call;
  next = x.next;
  acted = acted_on x m y made refused;
  told = refl;
  numbered = refl;
  last_numbered = refl;
  left = tt;
}
stops_unflushed session call x m y reason made (inr refused) = record {
  exchanges = [];
  last = Flushed x.next call;
  next = x.next;
  acted = acted_on x m y made refused;
  told = refl;
  numbered = refl;
  last_numbered = refl;
  left = tt;
}

-- the drain was
pub stops_undrained : (session : ℕ) (call : Call) (x m n y : Seen) (reason : NotMade) →
    HasActed session (act.Call session x.next call ∷ []) [] [] x m → HasActed session (act.Flush ∷ []) [] [] m n →
    HasActed session [] [] (reason ∷ []) n y → Stops session x y (tell call None ∷ []) (reason ∷ [])
stops_undrained session call x m n y reason made flushed refused = record {
  exchanges = [];
  last = Flushed x.next call;
  next = x.next;
  acted = acted_on x n y (acted_on x m n made flushed) refused;
  told = refl;
  numbered = refl;
  last_numbered = refl;
  left = tt;
}

exchange : (session : ℕ) (call : Call) (x m n y : Seen) (items : List Item) →
    HasActed session (act.Call session x.next call ∷ []) [] [] x m → HasActed session (act.Flush ∷ []) [] [] m n →
    HasActed session (act.Drain session ∷ []) (items ∷ []) [] n y →
    HasActed session (act.Call session x.next call ∷ act.Flush ∷ act.Drain session ∷ []) (items ∷ []) [] x y
exchange session call x m n y items made flushed drained = acted_on x n y (acted_on x m n made flushed) drained

pub asked : (session : ℕ) (call : Call) (x m n y : Seen) (items : List Item) (reply : Option Reply) →
    HasActed session (act.Call session x.next call ∷ []) [] [] x m → HasActed session (act.Flush ∷ []) [] [] m n →
    HasActed session (act.Drain session ∷ []) (items ∷ []) [] n y → y.next ≡ next_reference x.next →
    reply ≡ reply_in x.next items → is_short reply ≡ false → Goes session x y (tell call reply ∷ [])
asked session call x m n y items reply made flushed drained next is long = record {
  exchanges = record { reference = x.next; call = call; items = items } ∷ [];
  acted = exchange session call x m n y items made flushed drained;
  told = ap (λ reply. tell call reply ∷ []) (sym is);
  numbered = (refl, next);
  sound = (long, tt);
}

-- memory ran out for the call
pub stops_short : (session : ℕ) (call : Call) (x m n y : Seen) (items : List Item) (reply : Option Reply) →
    HasActed session (act.Call session x.next call ∷ []) [] [] x m → HasActed session (act.Flush ∷ []) [] [] m n →
    HasActed session (act.Drain session ∷ []) (items ∷ []) [] n y → y.next ≡ next_reference x.next →
    reply ≡ reply_in x.next items → Stops session x y (tell call reply ∷ []) []
stops_short session call x m n y items reply made flushed drained next is = record {
  exchanges = record { reference = x.next; call = call; items = items } ∷ [];
  last = NoCall;
  next = y.next;
  acted = exchange session call x m n y items made flushed drained;
  told = ap (λ reply. tell call reply ∷ []) (sym is);
  numbered = (refl, next);
  last_numbered = tt;
  left = refl;
}

-- ---- what it returns

pub asked_ok : (session : ℕ) (call : Call) (x m n y : Seen) (items : List Item) (reply : Option Reply)
    (result : Result (Option Reply) Cut) → HasActed session (act.Call session x.next call ∷ []) [] [] x m →
    HasActed session (act.Flush ∷ []) [] [] m n → HasActed session (act.Drain session ∷ []) (items ∷ []) [] n y →
    y.next ≡ next_reference x.next → reply ≡ reply_in x.next items →
    IfOk result (λ given. (given ≡ reply) × (is_short given ≡ false)) →
    IfOk result (λ given. Goes session x y (tell call given ∷ []))
asked_ok session call x m n y items reply (Ok given) made flushed drained next is long =
    asked session call x m n y items given made flushed drained next (long.0 ∙ is) long.1
asked_ok session call x m n y items reply (Err why) made flushed drained next is long = tt

pub asked_err : (session : ℕ) (call : Call) (x m n y : Seen) (items : List Item) (reply : Option Reply)
    (result : Result (Option Reply) Cut) → HasActed session (act.Call session x.next call ∷ []) [] [] x m →
    HasActed session (act.Flush ∷ []) [] [] m n → HasActed session (act.Drain session ∷ []) (items ∷ []) [] n y →
    y.next ≡ next_reference x.next → reply ≡ reply_in x.next items → IfErr result (λ why. why ≡ cut.Memory) →
    IfErr result (λ why. (calls : List Told) × IsAbout call calls × Stops session x y calls (faults_of why))
asked_err session call x m n y items reply (Ok given) made flushed drained next is memory = tt
asked_err session call x m n y items reply (Err why) made flushed drained next is memory = (
  tell call reply ∷ [],
  inr (reply, refl),
  subst (λ why. Stops session x y (tell call reply ∷ []) (faults_of why)) (sym memory)
      (stops_short session call x m n y items reply made flushed drained next is),
)
