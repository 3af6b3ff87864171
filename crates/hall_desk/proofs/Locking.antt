-- What the turns of the lock tell a pass, in records.
use Rattle.std.proofs.Common.{◌≡◌, ℕ, ◌+◌, ◌^◌, ◌<◌, ◌≤◌, inl, inr, Bool, true, false, ◌||◌, eqb, List, [], ◌∷◌, ◌++◌}
use Rattle.std.proofs.Common.{length, map, Option, Some, None, refl, sym, ap, subst, ◌∙◌, arith}
use Rattle.std.specs.Prelude.{Ok, Err}
use Rattle.std.proofs.lemmas.Bool.{cases_Bool}
use Rattle.std.proofs.lemmas.List.{map-append, length-map}
use Rattle.kom_types.specs.declared.acts.Act.{Act}
use Rattle.kom_types.specs.declared.acts.Act.TheVariants as act
use Rattle.kom_types.specs.declared.acts.Entry.{Entry}
use Rattle.kom_types.specs.declared.acts.Record.{Record}
use Rattle.kom_types.specs.declared.answers.NotMade.{NotMade}
use Rattle.kom_types.specs.declared.answers.NotMade.TheVariants.{Gone, Full, Memory}
use Rattle.kom_types.specs.declared.items.Item.{Item}
use Rattle.kom_model.specs.State.{State, session_of}
use Rattle.kom_model.specs.Refusal.{refusal_of}
use Rattle.kom_model.specs.After.{MayFollow}
use Rattle.kom_model.specs.Legal.{IsLegal, IsByOwner, AreByOwners, state_after}
use Rattle.kom_model.specs.Out.{taken_by, given_from}
use Rattle.kom_state_lock.specs.declared.views.Turn.TheVariants.{Resting}
use Rattle.kom_state_lock.specs.Views.{entries_of}
use Rattle.kom_state_lock.specs.Passes.{HallModel, PassModel, TakesTurn, logged_pass, resting_pass}
use Rattle.kom_model.specs.Making.{IsMadeBy, IsNotMade}
use Rattle.hall_desk.specs.Acts.{IsLed}
use Rattle.hall_desk.specs.Passes.{PassView, pass_view, of_pass, Knows}
use Rattle.hall_desk.specs.Turns.{IsOfOpen, Sees, Logs, LogsNone, record_in, WasMade, WasRefused}
use Rattle.hall_desk.specs.Turns.{Ends, AnswersStopped, Looks}
use Rattle.hall_desk.proofs.Starting.{IsStart}
use Rattle.hall_desk.proofs.Stepping.{by_owner}
use Rattle.hall_desk.proofs.Histories.{legal-append, owners-append, entries-state_after, of_pass-append, of_own}
use Rattle.hall_desk.proofs.Histories.{open_has}

-- ---- in records alone

-- an act of a session that the pass has open is made by its owner
owner_of : (start : State) → IsStart start → (pass moment : ℕ) (what : Act) (history : List Record) →
    IsLegal start history → AreByOwners start history → IsOfOpen (of_pass pass history) what →
    IsByOwner (state_after start history) (record { pass = pass; moment = moment; act = what })
owner_of start begins pass moment (act.Connect user host) history legal owned open' = tt
owner_of start begins pass moment (act.Call session reference call) history legal owned open' =
    by_owner session pass (session_of session (state_after start history))
    (open_has start begins.drawn session pass history legal owned open')
owner_of start begins pass moment (act.Broken session) history legal owned open' =
    by_owner session pass (session_of session (state_after start history))
    (open_has start begins.drawn session pass history legal owned open')
owner_of start begins pass moment (act.Drain session) history legal owned open' =
    by_owner session pass (session_of session (state_after start history))
    (open_has start begins.drawn session pass history legal owned open')
owner_of start begins pass moment act.Flush history legal owned open' = tt
owner_of start begins pass moment (act.Close session) history legal owned open' =
    by_owner session pass (session_of session (state_after start history))
    (open_has start begins.drawn session pass history legal owned open')

pub by_its_owner : (start : State) → IsStart start → (entry : Entry) (mine history : List Record) (number : ℕ) →
    IsLegal start history → AreByOwners start history → mine ≡ of_pass number history → entry.pass ≡ number →
    IsOfOpen mine entry.act → IsByOwner (state_after start history) entry
by_its_owner start begins entry mine history number legal owned own by open' =
    owner_of start begins entry.pass entry.moment entry.act history legal owned
    (subst (λ (n : ℕ). IsOfOpen (of_pass n history) entry.act) (sym by)
    (subst (λ (mine : List Record). IsOfOpen mine entry.act) own open'))

-- what a pass knows after a turn
pub knows_made : (start : State) (old new : PassView) (history : List Record) (made : Record) →
    Sees start old new history → Logs start old new history made → made.entry.pass ≡ old.number →
    IsByOwner (state_after start history) made.entry → Knows start new
knows_made start old new history made sees logs own owner = record {
  legal = subst (λ (seen : List Record). IsLegal start seen) (sym logs.seen)
      (legal-append start history (made ∷ []) sees.legal (logs.follows, tt));
  owned = subst (λ (seen : List Record). AreByOwners start seen) (sym logs.seen)
      (owners-append start history (made ∷ []) sees.owned (owner, tt));
  mine = logs.mine ∙ ap (λ (mine : List Record). mine ++ made ∷ []) sees.own
      ∙ ap (λ (last : List Record). of_pass old.number history ++ last) (sym (of_own old.number made own))
      ∙ sym (of_pass-append old.number history (made ∷ []))
      ∙ ap (of_pass old.number) (sym logs.seen)
      ∙ ap (λ (number : ℕ). of_pass number new.seen) (sym sees.number);
  refused = λ waits. let wrong : false ≡ true = sym sees.rests ∙ waits in cc;
}

pub knows_none : (start : State) (old new : PassView) (history : List Record) → Sees start old new history →
    LogsNone old new history → Knows start new
knows_none start old new history sees logs = record {
  legal = subst (λ (seen : List Record). IsLegal start seen) (sym logs.seen) sees.legal;
  owned = subst (λ (seen : List Record). AreByOwners start seen) (sym logs.seen) sees.owned;
  mine = logs.mine ∙ sees.own ∙ ap (of_pass old.number) (sym logs.seen)
      ∙ ap (λ (number : ℕ). of_pass number new.seen) (sym sees.number);
  refused = λ waits. let wrong : false ≡ true = sym sees.rests ∙ waits in cc;
}

not_waiting : (start : State) (pass : PassView) → Knows start pass → pass.drawn < 2 ^ 62 → pass.waits ≡ false
not_waiting start pass knows few = elim (cases_Bool pass.waits) [
  | inl waits ↦ absurd (omega (arith, knows.refused waits))
  | inr rests ↦ rests
]

-- ---- from the lock

module _ {B E : Type 0} (made : E → Record) (server : B → State) (pass_of : E → ℕ) (led : B → List E → B → Type 0)
    (names : (entry : E) → pass_of entry ≡ (made entry).entry.pass)
    (leads : (opening : B) (history : List E) (value : B) → led opening history value
    → IsLed made server opening history value) where
  mine_of : (number : ℕ) (history : List E) →
      map made (entries_of pass_of number history) ≡ of_pass number (map made history)
  mine_of number [] = refl
  mine_of number (entry ∷ history) =
      let rest : map made (entries_of pass_of number history) ≡ of_pass number (map made history) =
      mine_of number history in
      elim (cases_Bool (eqb (pass_of entry) number)) [
        | inl here ↦
            let here' : eqb (made entry).entry.pass number ≡ true = ap (λ k. eqb k number) (sym (names entry)) ∙ here in
            rw (here, here') (ap (λ (last : List Record). made entry ∷ last) rest)
        | inr there ↦
            let there' : eqb (made entry).entry.pass number ≡ false =
            ap (λ k. eqb k number) (sym (names entry)) ∙ there in
            rw (there, there') rest
      ]

  -- the turn that begins
  abbrev Taken : HallModel B → PassModel B E → B → PassModel B E → Type 0
  Taken hall old value taken = TakesTurn pass_of led hall old value taken

  -- there is room for one entry more
  pub room_in : (hall : HallModel B) (old : PassModel B E) (value : B) (taken : PassModel B E) →
      IsStart (server hall.opening) → Taken hall old value taken → (server value).entries < 2 ^ 62
  room_in hall old value taken begins takes =
      let start : State = server hall.opening in
      let is : (server value).entries ≡ (state_after start (map made takes.1)).entries =
      ap (λ (state : State). state.entries) (leads hall.opening takes.1 value takes.5).state in
      let count : (state_after start (map made takes.1)).entries ≡ start.entries + length (map made takes.1) =
      entries-state_after start (map made takes.1) in
      let long : length (map made takes.1) ≡ length takes.1 = length-map takes.1 made in
      let none : start.entries ≡ 0 = begins.entries in
      let few : length takes.1 < 2 ^ 62 = takes.7 in
      omega arith

  -- the pass that takes a turn makes an act of a session that it has open by right
  pub owner_in : (hall : HallModel B) (old : PassModel B E) (value : B) (taken : PassModel B E) (entry : Entry) →
      IsStart (server hall.opening) → Taken hall old value taken → entry.pass ≡ old.number →
      IsOfOpen (map made old.mine) entry.act → IsByOwner (server value) entry
  owner_in hall old value taken entry begins takes by open' =
      let start : State = server hall.opening in
      let is = leads hall.opening takes.1 value takes.5 in
      subst (λ (state : State). IsByOwner state entry) (sym is.state)
      (by_its_owner start begins entry (map made old.mine) (map made takes.1) old.number is.legal is.owned
      (ap (map made) takes.8 ∙ mine_of old.number takes.1) by open')

  -- what the pass sees in it, once it holds no turn any more
  sees_in : (hall : HallModel B) (old : PassModel B E) (value : B) (taken : PassModel B E) (new : PassView) →
      (takes : Taken hall old value taken) → Knows (server hall.opening) (pass_view made old) →
      new.number ≡ old.number → new.drawn ≡ takes.0 + 1 → new.waits ≡ false →
      Sees (server hall.opening) (pass_view made old) new (map made takes.1)
  sees_in hall old value taken new takes knows number drawn rests =
      let is = leads hall.opening takes.1 value takes.5 in
      let below : old.drawn ≤ takes.0 = takes.3 in
      let few : takes.0 < 2 ^ 62 = takes.4 in
      record {
        goes_on = (map made takes.6.0, sym (ap (map made) takes.6.1) ∙ map-append made old.seen takes.6.0);
        legal = is.legal;
        owned = is.owned;
        own = ap (map made) takes.8 ∙ mine_of old.number takes.1;
        number = number;
        drawn = omega arith;
        rested = not_waiting (server hall.opening) (pass_view made old) knows (omega arith);
        rests = rests;
      }

  -- The lock's steps in a turn whose entry was logged.
  pub record MadeTurn (hall : HallModel B) (old : PassModel B E) (value left : B) (logged : E) (new : PassModel B E)
      : Type 0 where
    pub taken : PassModel B E
    pub after_log : PassModel B E
    pub takes : TakesTurn pass_of led hall old value taken
    pub logs : after_log ≡ logged_pass logged left taken
    pub puts : new ≡ resting_pass after_log

  -- and in one in which nothing was
  pub record LookedTurn (hall : HallModel B) (old : PassModel B E) (value : B) (new : PassModel B E) : Type 0 where
    pub taken : PassModel B E
    pub takes : TakesTurn pass_of led hall old value taken
    pub puts : new ≡ resting_pass taken

  abbrev logged_end : PassModel B E → ℕ → List E → E → PassModel B E
  logged_end old ticket history logged = record old {
    drawn = ticket + 1;
    seen = history ++ logged ∷ [];
    mine = old.mine ++ logged ∷ [];
    turn = Resting;
  }

  abbrev looked_end : PassModel B E → ℕ → List E → PassModel B E
  looked_end old ticket history = record old { drawn = ticket + 1; seen = history; turn = Resting }

  made_end : (hall : HallModel B) (old : PassModel B E) (value left : B) (logged : E) (new : PassModel B E) →
      (turn : MadeTurn hall old value left logged new) → new ≡ logged_end old turn.takes.0 turn.takes.1 logged
  made_end hall old value left logged new turn =
      turn.puts ∙ ap (λ (pass : PassModel B E). resting_pass pass) turn.logs
      ∙ ap (λ (pass : PassModel B E). resting_pass (logged_pass logged left pass)) turn.takes.2

  looked_at_end : (hall : HallModel B) (old : PassModel B E) (value : B) (new : PassModel B E) →
      (turn : LookedTurn hall old value new) → new ≡ looked_end old turn.takes.0 turn.takes.1
  looked_at_end hall old value new turn =
      turn.puts ∙ ap (λ (pass : PassModel B E). resting_pass pass) turn.takes.2

  -- an act that was made
  pub made_ends : (hall : HallModel B) (old : PassModel B E) (value left : B) (logged : E) (new : PassModel B E)
      (entry : Entry) → Knows (server hall.opening) (pass_view made old) →
      (turn : MadeTurn hall old value left logged new) →
      IsMadeBy (server value) (server left) entry (made logged) →
      (history : List Record) × (history ≡ map made turn.takes.1)
      × Sees (server hall.opening) (pass_view made old) (pass_view made new) history
      × Logs (server hall.opening) (pass_view made old) (pass_view made new) history (made logged)
      × (server value ≡ state_after (server hall.opening) history)
  made_ends hall old value left logged new entry knows turn by =
      let start : State = server hall.opening in
      let history : List Record = map made turn.takes.1 in
      let state : server value ≡ state_after start history = (leads hall.opening turn.takes.1 value
      turn.takes.5).state in
      let end : PassModel B E = logged_end old turn.takes.0 turn.takes.1 logged in
      let is : new ≡ end = made_end hall old value left logged new turn in
      let sees : Sees start (pass_view made old) (pass_view made end) history =
      sees_in hall old value turn.taken (pass_view made end) turn.takes knows refl refl refl in
      let logs : Logs start (pass_view made old) (pass_view made end) history (made logged) = record {
        follows = subst (λ (state : State). MayFollow state (made logged)) state by.follows;
        seen = map-append made turn.takes.1 (logged ∷ []);
        mine = map-append made old.mine (logged ∷ []);
      } in (
        history,
        refl,
        subst (λ (new : PassModel B E). Sees start (pass_view made old) (pass_view made new) history) (sym is) sees,
        subst (λ (new : PassModel B E). Logs start (pass_view made old) (pass_view made new) history (made logged))
            (sym is) logs,
        state,
      )

  -- nothing was made
  pub looked_ends : (hall : HallModel B) (old : PassModel B E) (value : B) (new : PassModel B E) →
      Knows (server hall.opening) (pass_view made old) → (turn : LookedTurn hall old value new) →
      (history : List Record)
      × Sees (server hall.opening) (pass_view made old) (pass_view made new) history
      × LogsNone (pass_view made old) (pass_view made new) history
      × (server value ≡ state_after (server hall.opening) history)
  looked_ends hall old value new knows turn =
      let start : State = server hall.opening in
      let history : List Record = map made turn.takes.1 in
      let end : PassModel B E = looked_end old turn.takes.0 turn.takes.1 in
      let is : new ≡ end = looked_at_end hall old value new turn in
      let sees : Sees start (pass_view made old) (pass_view made end) history =
      sees_in hall old value turn.taken (pass_view made end) turn.takes knows refl refl refl in
      let logs : LogsNone (pass_view made old) (pass_view made end) history = record { seen = refl; mine = refl } in (
        history,
        subst (λ (new : PassModel B E). Sees start (pass_view made old) (pass_view made new) history) (sym is) sees,
        subst (λ (new : PassModel B E). LogsNone (pass_view made old) (pass_view made new) history) (sym is) logs,
        (leads hall.opening turn.takes.1 value turn.takes.5).state,
      )

  -- ---- what a turn leaves, all told

  left_by : (one : Record) (entry : Entry) (made : Record) → one.entry ≡ entry → made.session ≡ one.session →
      made.short ≡ one.short → one ≡ record_in entry made
  left_by one entry made is named short =
      ap (λ (entry : Entry). record { entry = entry; session = one.session; short = one.short }) is
      ∙ ap (λ (session : ℕ). record { entry = entry; session = session; short = one.short }) (sym named)
      ∙ ap (λ (short : Bool). record { entry = entry; session = made.session; short = short }) (sym short)

  -- an act was made; `found` is the value that was lent
  pub turn_made : (hall : HallModel B) (old : PassModel B E) (value left found : B) (logged : E)
      (new : PassModel B E) (entry : Entry) (items : List Item) (one : Record) →
      Knows (server hall.opening) (pass_view made old) → MadeTurn hall old value left logged new → found ≡ value →
      IsMadeBy (server found) (server left) entry (made logged) → one.session ≡ (made logged).session →
      one.short ≡ (made logged).short → items ≡ taken_by (server found) entry.act → entry.pass ≡ old.number →
      IsByOwner (server found) entry →
      Knows (server hall.opening) (pass_view made new)
      × WasMade (server hall.opening) (pass_view made old) (pass_view made new) entry items one
  turn_made hall old value left found logged new entry items one knows turn same by named short taken own owner =
      let start : State = server hall.opening in
      let by' : IsMadeBy (server value) (server left) entry (made logged) =
      subst (λ (value : B). IsMadeBy (server value) (server left) entry (made logged)) same by in
      let ends = made_ends hall old value left logged new entry knows turn by' in
      let history : List Record = ends.0 in
      let record_is : made logged ≡ record_in entry one = left_by (made logged) entry one by.entry_made named short in
      let state : server found ≡ state_after start history = ap server same ∙ ends.4 in
      let owner' : IsByOwner (state_after start history) (made logged).entry =
      subst (λ (entry : Entry). IsByOwner (state_after start history) entry) (sym by.entry_made)
      (subst (λ (state : State). IsByOwner state entry) state owner) in (
        knows_made start (pass_view made old) (pass_view made new) history (made logged) ends.2 ends.3
            (ap (λ (entry : Entry). entry.pass) by.entry_made ∙ own) owner',
        (
          history,
          ends.2,
          subst (λ (made' : Record). Logs start (pass_view made old) (pass_view made new) history made') record_is
              ends.3,
          taken ∙ ap (λ (state : State). taken_by state entry.act) state,
        ),
      )

  -- it was not
  pub turn_refused : (hall : HallModel B) (old : PassModel B E) (value found : B) (new : PassModel B E) (what : Act)
      (refusal : Option NotMade) → Knows (server hall.opening) (pass_view made old) → LookedTurn hall old value new →
      found ≡ value → refusal_of (server found) what ≡ refusal →
      Knows (server hall.opening) (pass_view made new)
      × WasRefused (server hall.opening) (pass_view made old) (pass_view made new) what refusal
  turn_refused hall old value found new what refusal knows turn same is =
      let start : State = server hall.opening in
      let ends = looked_ends hall old value new knows turn in
      let state : server found ≡ state_after start ends.0 = ap server same ∙ ends.3 in (
        knows_none start (pass_view made old) (pass_view made new) ends.0 ends.1 ends.2,
        (
          ends.0,
          ends.1,
          ends.2,
          subst (λ (state : State). refusal_of state what ≡ refusal) state is,
        ),
      )

  -- it was asked whether the server is stopped
  pub turn_asked : (hall : HallModel B) (old : PassModel B E) (value found : B) (new : PassModel B E)
      (stopped : Bool) → Knows (server hall.opening) (pass_view made old) → LookedTurn hall old value new →
      found ≡ value → stopped ≡ ((server found).stopped || (server found).store_refused) →
      Knows (server hall.opening) (pass_view made new)
      × AnswersStopped (server hall.opening) (pass_view made old) (pass_view made new) (Ok stopped)
  turn_asked hall old value found new stopped knows turn same is =
      let start : State = server hall.opening in
      let ends = looked_ends hall old value new knows turn in
      let state : server found ≡ state_after start ends.0 = ap server same ∙ ends.3 in (
        knows_none start (pass_view made old) (pass_view made new) ends.0 ends.1 ends.2,
        (
          ends.0,
          ends.1,
          ends.2,
          is ∙ ap (λ (state : State). state.stopped || state.store_refused) state,
        ),
      )

  -- it was asked for anything else
  pub turn_looked : (hall : HallModel B) (old : PassModel B E) (value : B) (new : PassModel B E) →
      Knows (server hall.opening) (pass_view made old) → LookedTurn hall old value new →
      Knows (server hall.opening) (pass_view made new)
      × Looks (server hall.opening) (pass_view made old) (pass_view made new)
  turn_looked hall old value new knows turn =
      let ends = looked_ends hall old value new knows turn in (
        knows_none (server hall.opening) (pass_view made old) (pass_view made new) ends.0 ends.1 ends.2,
        inl (ends.0, ends.1, ends.2),
      )

-- ---- why it was not

-- an act that was not made takes nothing
pub taken-none : (state : State) (what : Act) (one : NotMade) → IsNotMade state what one → taken_by state what ≡ []
taken-none state (act.Connect user host) one is = refl
taken-none state (act.Call session reference call) one is = refl
taken-none state (act.Broken session) one is = refl
taken-none state (act.Drain session) (Gone told) is =
    ap (λ (found : Option NotMade). elim found [ None ↦ given_from session state | Some refusal ↦ [] ]) is
taken-none state (act.Drain session) (Full number) is =
    ap (λ (found : Option NotMade). elim found [ None ↦ given_from session state | Some refusal ↦ [] ]) is
taken-none state (act.Drain session) Memory is = absurd is.1
taken-none state act.Flush one is = refl
taken-none state (act.Close session) one is = refl

pub ends_not_made : (state start : State) (old new : PassView) (entry : Entry) (items : List Item) (one : NotMade) →
    IsNotMade state entry.act one → WasRefused start old new entry.act (refusal_of state entry.act) →
    Ends start old new entry items (Err one)
ends_not_made state start old new entry items (Gone told) is was =
    subst (λ (refusal : Option NotMade). WasRefused start old new entry.act refusal) is was
ends_not_made state start old new entry items (Full number) is was =
    inr (subst (λ (refusal : Option NotMade). WasRefused start old new entry.act refusal) is was)
ends_not_made state start old new entry items Memory is was =
    (subst (λ (refusal : Option NotMade). WasRefused start old new entry.act refusal) is.0 was, is.1)
