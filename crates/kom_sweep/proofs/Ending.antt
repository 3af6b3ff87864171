-- What the calls of a session come to.
use Rattle.std.proofs.Common.{◌≡◌, ℕ, ◌-◌, ◌≤◌, ◌^◌, ◌||◌, nat_le, arith, Bool, true, false}
use Rattle.std.proofs.Common.{inl, inr, List, [], ◌∷◌, ◌++◌, map, Option, Some, refl}
use Rattle.std.proofs.Common.{sym, ap, subst, ◌∙◌, append_assoc, append-nil, Result, Ok, Err}
use Rattle.std.specs.Prelude.{IfOk, IfErr}
use Rattle.std.specs.List.{AllByRecursion}
use Rattle.std.proofs.lemmas.Bool.Decides.{nat_tests}
use Rattle.kom_types.specs.declared.acts.Act.{Act}
use Rattle.kom_types.specs.declared.acts.Act.TheVariants as act
use Rattle.kom_types.specs.declared.acts.Record.{Record}
use Rattle.kom_types.specs.declared.calls.Call.TheVariants as call
use Rattle.kom_types.specs.declared.items.Item.{Item}
use Rattle.kom_types.specs.declared.replies.Reply.{Reply}
use Rattle.kom_types.specs.declared.replies.Reply.TheVariants as reply
use Rattle.kom_links.specs.declared.deeds.Deed.TheVariants as deed
use Rattle.kom_types.specs.declared.answers.NotMade.{NotMade}
use Rattle.kom_types.specs.declared.answers.NotMade.TheVariants as fault
use Rattle.kom_links.specs.Answers.{Answer, first_of}
use Rattle.kom_links.specs.DeskCalls.{DeskView, record_of, Connects, Closes}
use Rattle.kom_links.specs.Doors.{Gains}
use Rattle.kom_sweep.specs.declared.ends.Cut.{Cut}
use Rattle.kom_sweep.specs.declared.ends.Cut.TheVariants as cut
use Rattle.kom_sweep.specs.declared.ends.SweepEnd.{SweepEnd}
use Rattle.kom_sweep.specs.declared.ends.SweepEnd.TheVariants as end
use Rattle.kom_sweep.specs.Told.{Told, tell, Exchange, Last}
use Rattle.kom_sweep.specs.Acting.{Seen, sight, HasActed, Goes, Stops, Breaks, IsOwn, MayLeave, faults_of, faults_in}
use Rattle.kom_sweep.specs.Ends.{end_at, end_with}
use Rattle.kom_sweep.specs.Sweeps.{user, host, IsRefusal}
use Rattle.kom_sweep.specs.Sweeps.{HasAsked, IsBrokenOff, IsNotConnected, AtEnd}
use Rattle.kom_sweep.specs.Sweeps.{IsClosing, IsSession, Works}
use Rattle.kom_sweep.proofs.Times.{timed_on, timed_one, timed_none}
use Rattle.kom_sweep.proofs.Going.{acted_on, stops_at}
use Rattle.kom_sweep.proofs.Asking.{one_act, no_act, stays}

-- ---- the close

abbrev closed_acts : {X : Type 0} → ℕ → Result X NotMade → List Act
closed_acts session (Ok value) = act.Close session ∷ []
closed_acts session (Err reason) = []

abbrev pub closed_faults : {X : Type 0} → Result X NotMade → List NotMade
closed_faults (Ok value) = []
closed_faults (Err reason) = reason ∷ []

closing : {X : Type 0} (session moment : ℕ) (x y : Seen) (closed : Result X NotMade) → Gains x.gave moment y.gave →
    Closes x.desk moment session closed y.desk →
    HasActed session (closed_acts session closed) [] (closed_faults closed) x y
closing session moment x y (Ok value) gains closes =
    one_act session moment x y (record_of x.desk.pass moment (act.Close session) session false) [] (deed.Close session)
    closes.added (record { by_pass = refl; of_session = inl refl })
    (stays session x.desk.gave_to y.desk.gave_to closes.given) closes.rest.tells gains refl closes.rest.pass
closing session moment x y (Err reason) gains closes =
    no_act session moment x y (deed.Close session) reason closes.rest.none_added closes.given closes.rest.tells gains
    closes.rest.pass

or_true : (b c : Bool) → c ≡ true → (b || c) ≡ true
or_true true c e = refl
or_true false c e = e

full_number : (number : ℕ) → 2 ^ 62 ≤ number → nat_le (2 ^ 62) number ≡ true
full_number number more = grind (arith, nat_tests)

-- a close is refused only where no turn of the lock is left
is_closing : {X : Type 0} (session moment : ℕ) (x y : DeskView) (closed : Result X NotMade) →
    Closes x moment session closed y → IsClosing session y (closed_acts session closed)
is_closing session moment x y (Ok value) closes = inl refl
is_closing session moment x y (Err (fault.Gone why)) closes = absurd closes.why
is_closing session moment x y (Err (fault.Full number)) closes =
    inr (refl, closes.rest.lock_full ∙ or_true x.lock_full (nat_le (2 ^ 62) number) (full_number number closes.why))
is_closing session moment x y (Err fault.Memory) closes = absurd closes.why

-- ---- the whole session

may_leave : (faults more : List NotMade) (last : Last) → MayLeave faults last → MayLeave (faults ++ more) last
may_leave (one ∷ faults) more last left = tt
may_leave [] [] last left = left
may_leave [] (one ∷ more) last left = tt

pub session_of : {X : Type 0} {calls : List Told} {faults : List NotMade} (moment session person : ℕ)
    (password : List ℕ)
    (old : Seen) (v1 v2 v3 : DeskView) (g1 g2 g3 : Option (List ℕ)) (next later : ℕ) (closed : Result X NotMade)
    (ending : SweepEnd) → Gains old.gave moment g1 → Connects old.desk moment user host (Ok session) v1 →
    Stops session (sight v1 g1 1) (sight v2 g2 next) calls faults → Gains g2 later g3 →
    Closes v2 later session closed v3 →
    AtEnd moment person password calls (first_of (faults ++ closed_faults closed)) ending →
    IsSession moment session person password old v3 g3 ending
session_of {X} {calls} {faults} moment session person password old v1 v2 v3 g1 g2 g3 next later closed ending gains
    connects stops gains_later closes ends =
    let x : Seen = sight v1 g1 1 in
    let y : Seen = sight v2 g2 next in
    let z : Seen = sight v3 g3 next in
    let all = acted_on x y z stops.acted (closing session later y z closed gains_later closes) in
    let first : Record = record_of old.desk.pass moment (act.Connect user host) session false in
    record {
      is_session = connects.new_number.0;
      is_new = connects.new_number.1;
      exchanges = stops.exchanges;
      last = stops.last;
      next = stops.next;
      closing = closed_acts session closed;
      added = first ∷ all.added;
      answers = (deed.Connect, Ok tt) ∷ all.answers;
      mine = all.mine ∙ ap (λ (mine : List Record). mine ++ all.added) connects.added
          ∙ append_assoc old.desk.mine (first ∷ []) all.added;
      acts = ap (λ (acts : List Act). act.Connect user host ∷ acts) all.acts;
      begins = (map (λ made. made.entry.moment) all.added, refl);
      own = (
        record { by_pass = refl; of_session = inl refl },
        subst (λ (pass : ℕ). AllByRecursion (IsOwn pass session) all.added) connects.pass all.own,
      );
      given = (
        all.given.0
            ∙ ap (λ (lists : List (List Item)). lists ++ (map (λ (one : Exchange). one.items) stops.exchanges ++ []))
            connects.given.0
            ∙ append-nil (map (λ (one : Exchange). one.items) stops.exchanges),
        λ number other. all.given.1 number other ∙ connects.given.1 number other,
      );
      tells = all.tells ∙ ap (λ (answers : List Answer). answers ++ all.answers) connects.tells
          ∙ append_assoc old.desk.answers ((deed.Connect, Ok tt) ∷ []) all.answers;
      timed = timed_on old.gave g1 g3 (first ∷ []) all.added (timed_one old.gave g1 moment first gains refl) all.timed;
      pass = all.pass ∙ connects.pass;
      numbered = stops.numbered;
      last_numbered = stops.last_numbered;
      left = subst (λ (faults : List NotMade). MayLeave faults stops.last) (sym all.faults)
          (may_leave faults (closed_faults closed) stops.last stops.left);
      closed = is_closing session later v2 v3 closed closes;
      ends = subst (λ (calls : List Told). AtEnd moment person password calls (first_of (faults_in all.answers)) ending)
          (sym stops.told)
          (subst (λ (faults : List NotMade). AtEnd moment person password calls (first_of faults) ending)
          (sym all.faults) ends);
    }

-- ---- the ends

at_fault : (moment person : ℕ) (password : List ℕ) (calls : List Told) (reason : NotMade) →
    IsBrokenOff moment person password calls → AtEnd moment person password calls (Some reason) (end_at reason)
at_fault moment person password calls (fault.Gone why) broken = (refl, broken)
at_fault moment person password calls (fault.Full number) broken = (refl, broken)
at_fault moment person password calls fault.Memory broken = (inr refl, broken)

refusal_none : (person : ℕ) (password : List ℕ) (calls : List Told) (code status : ℕ) →
    IsRefusal person password calls code status → HasAsked person password calls
refusal_none person password calls code status (other, inl is) = inr (Some (reply.Refused code status), [], is, refl)
refusal_none person password calls code status (other, inr (entry, is, login, stable)) = inr (
  entry.login,
  tell (call.Enable 255) entry.rights ∷ tell call.SyncKom entry.stable ∷ [],
  is,
  refl,
)

-- what was done to the end can be broken off there
works_broken : (moment person : ℕ) (password : List ℕ) (calls : List Told) (ending : SweepEnd) →
    Works moment person password calls ending → IsBrokenOff moment person password calls
works_broken moment person password calls (end.Done swept kept) works = inr (record {
  found = works.found;
  is_found = works.is_found;
  gone = works.gone;
  rest = [];
  after = tell call.Logout works.logout ∷ [];
  are = works.are;
  are_due = append-nil (map (λ (one : ℕ × Option Reply). one.0) works.gone) ∙ works.are_due;
  logout = inr (works.logout, refl);
})
works_broken moment person password calls (end.Refused code status) works =
    inl (refusal_none person password calls code status works)
works_broken moment person password calls (end.Gone why) works = absurd works
works_broken moment person password calls (end.Full number) works = absurd works
works_broken moment person password calls end.Memory works = absurd works

pub ends_ok : {X : Type 0} (moment person : ℕ) (password : List ℕ) (calls : List Told) (ending : SweepEnd)
    (closed : Result X NotMade) → Works moment person password calls ending →
    AtEnd moment person password calls (first_of (closed_faults closed)) (end_with (Ok ending) closed)
ends_ok moment person password calls (end.Done swept kept) (Ok value) works = (refl, works)
ends_ok moment person password calls (end.Refused code status) (Ok value) works = (refl, works)
ends_ok moment person password calls (end.Gone why) (Ok value) works = absurd works
ends_ok moment person password calls (end.Full number) (Ok value) works = absurd works
ends_ok moment person password calls end.Memory (Ok value) works = absurd works
ends_ok moment person password calls ending (Err reason) works =
    at_fault moment person password calls reason (works_broken moment person password calls ending works)

pub ends_err : {X : Type 0} (moment person : ℕ) (password : List ℕ) (calls : List Told) (why : Cut)
    (closed : Result X NotMade) → IsBrokenOff moment person password calls →
    AtEnd moment person password calls (first_of (faults_of why ++ closed_faults closed)) (end_with (Err why) closed)
ends_err moment person password calls (cut.Desk reason) closed broken =
    at_fault moment person password calls reason broken
ends_err moment person password calls cut.Memory (Ok value) broken = (inl refl, broken)
ends_err moment person password calls cut.Memory (Err reason) broken =
    at_fault moment person password calls reason broken

-- ---- the sweep

pub not_connected : (moment : ℕ) (old : Seen) (desk : DeskView) (gave : Option (List ℕ)) (reason : NotMade)
    (ending : SweepEnd) → Gains old.gave moment gave →
    Connects old.desk moment user host (Err reason) desk → ending ≡ end_at reason → IsNotConnected old desk gave ending
not_connected moment old desk gave reason ending gains connects is = record {
  why = reason;
  mine = connects.none_added;
  given = connects.none_given;
  tells = connects.tells;
  timed = timed_none old.gave gave moment gains;
  pass = connects.pass;
  ends = is;
}

pub swept : {X : Type 0} (moment session person : ℕ) (password : List ℕ) (old : Seen) (v1 v2 v3 : DeskView)
    (g1 g2 g3 : Option (List ℕ)) (later : ℕ) (outcome : Result SweepEnd Cut) (closed : Result X NotMade)
    (ending : SweepEnd) → Gains old.gave moment g1 → Connects old.desk moment user host (Ok session) v1 →
    IfOk outcome (λ ending. (calls : List Told) × (next : ℕ) × Goes session (sight v1 g1 1) (sight v2 g2 next) calls
    × Works moment person password calls ending) →
    IfErr outcome (λ why. (calls : List Told) × (next : ℕ) × IsBrokenOff moment person password calls
    × Breaks session (sight v1 g1 1) (sight v2 g2 next) calls why) →
    Gains g2 later g3 → Closes v2 later session closed v3 → ending ≡ end_with outcome closed →
    IsSession moment session person password old v3 g3 ending
swept moment session person password old v1 v2 v3 g1 g2 g3 later (Ok came) closed ending gains connects
    (calls, next, goes, works) err gains_later closes is =
    session_of moment session person password old v1 v2 v3 g1 g2 g3 next later closed ending gains connects
    (stops_at (sight v1 g1 1) (sight v2 g2 next) goes) gains_later closes
    (subst (AtEnd moment person password calls (first_of (closed_faults closed))) (sym is)
    (ends_ok moment person password calls came closed works))
swept moment session person password old v1 v2 v3 g1 g2 g3 later (Err why) closed ending gains connects ok
    (calls, next, broken, breaks) gains_later closes is =
    session_of moment session person password old v1 v2 v3 g1 g2 g3 next later closed ending gains connects breaks
    gains_later closes
    (subst (AtEnd moment person password calls (first_of (faults_of why ++ closed_faults closed))) (sym is)
    (ends_err moment person password calls why closed broken))
