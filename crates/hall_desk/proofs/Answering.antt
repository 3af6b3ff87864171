-- What the calls of a desk are answered, by how their turns ended.
use Rattle.std.proofs.Common.{◌≡◌, ℕ, inl, inr, Bool, true, false, ◌||◌, List, [], ◌∷◌, ◌++◌, Option, refl, sym, ap}
use Rattle.std.proofs.Common.{subst, ◌∙◌}
use Rattle.std.proofs.Common.{if◌then◌else◌}
use Rattle.std.specs.Prelude.{Result, Ok, Err, ⊤}
use Rattle.kom_types.specs.declared.acts.Act.{Act}
use Rattle.kom_types.specs.declared.acts.Act.TheVariants as act
use Rattle.kom_types.specs.declared.acts.Entry.{Entry}
use Rattle.kom_types.specs.declared.acts.Record.{Record}
use Rattle.kom_types.specs.declared.answers.NotMade.{NotMade}
use Rattle.kom_types.specs.declared.answers.Why.TheVariants as why
use Rattle.kom_types.specs.declared.items.Item.{Item}
use Rattle.kom_links.specs.declared.deeds.Deed.TheVariants as deed
use Rattle.kom_types.specs.declared.answers.NotMade.TheVariants as fault
use Rattle.kom_links.specs.Answers.{without_value}
use Rattle.kom_model.specs.State.{State}
use Rattle.kom_model.specs.Refusal.{refusal_of}
use Rattle.kom_model.specs.Legal.{state_after}
use Rattle.hall_desk.specs.Passes.{PassView}
use Rattle.hall_desk.specs.Desks.{Kept}
use Rattle.hall_desk.specs.Turns.{WasMade, WasRefused, HasNoTurn, Ends, entry_of, HadTurn, IsActed}
use Rattle.kom_model.specs.Making.{IsConnect}
use Rattle.hall_desk.specs.Turns.{said_flush, AnswersStopped}
use Rattle.hall_desk.specs.Rows.{WasPossible, IsLastTicket, IsAnswer, IsStopped}

possible_made : (start : State) (old new : PassView) (entry : Entry) (items : List Item) (made : Record)
    (short : Bool) → WasMade start old new entry items made → (entry.act ≡ act.Flush → made.short ≡ short) →
    WasPossible start new entry.act short
possible_made start old new entry items made short (history, sees, logs, taken) whole = (
  history,
  record { entry = entry; session = made.session; short = made.short },
  logs.seen,
  refl,
  logs.follows.possible,
  whole,
)

refused_now : (start : State) (old new : PassView) (what : Act) (refusal : Option NotMade) →
    WasRefused start old new what refusal → refusal_of (state_after start new.seen) what ≡ refusal
refused_now start old new what refusal (history, sees, logs, is) =
    ap (λ (seen : List Record). refusal_of (state_after start seen) what) logs.seen ∙ is

last_ticket : (old new : PassView) (ticket : ℕ) → HasNoTurn old new ticket → IsLastTicket new ticket
last_ticket old new ticket none = (none.large, none.below, none.waits)

connect_is : (what : Act) → IsConnect what → (user host : List ℕ) × (what ≡ act.Connect user host)
connect_is (act.Connect user host) is = (user, host, refl)
connect_is (act.Call session reference call) is = absurd is
connect_is (act.Broken session) is = absurd is
connect_is (act.Drain session) is = absurd is
connect_is act.Flush is = absurd is
connect_is (act.Close session) is = absurd is

refused_is : (X : Type 0) (start : State) (old new : PassView) (what : Act) (entry : Entry) (items : List Item)
    (one : NotMade) → entry.act ≡ what → Ends start old new entry items (Err one) →
    IsAnswer {X = X} start new entry.act (Err one)
refused_is X start old new what entry items fault.Memory is ends = connect_is entry.act ends.1
refused_is X start old new what entry items (fault.Gone told) is ends = inl (refused_now start old new entry.act _ ends)
refused_is X start old new what entry items (fault.Full number) is (inl none) = inl (last_ticket old new number none)
refused_is X start old new what entry items (fault.Full number) is (inr was) =
    inr (refused_now start old new entry.act _ was)

-- any act but a flush
answers_turn : (start : State) (old new : PassView) (pass moment : ℕ) (what : Act) (items : List Item)
    (made : Result Record NotMade) →
    Ends start old new (record { pass = pass; moment = moment; act = what }) items made → (what ≡ act.Flush → ⊥) →
    IsAnswer {X = ⊤} start new what (without_value made)
answers_turn start old new pass moment what items (Ok made) ends other =
    possible_made start old new _ items made false ends (λ flush. absurd (other flush))
answers_turn start old new pass moment what items (Err one) ends other =
    refused_is ⊤ start old new what (record { pass = pass; moment = moment; act = what }) items one refl ends

pub answers_told : (old new : Kept) (moment : ℕ) (what : Act) (items : List Item) (made : Result Record NotMade)
    (answer : Result ⊤ NotMade) → HadTurn old moment what items made new → (what ≡ act.Flush → ⊥) →
    answer ≡ without_value made → IsAnswer old.start new.pass what answer
answers_told old new moment what items made answer turn other is =
    subst (λ (answer : Result ⊤ NotMade). IsAnswer old.start new.pass what answer) (sym is)
    (answers_turn old.start old.pass new.pass old.pass.number moment what items made turn.ends other)

-- a Connect
pub answers_connected : (old new : Kept) (moment : ℕ) (what : Act) (user host : List ℕ) (made : Record) →
    what ≡ act.Connect user host → IsActed old moment what (Ok made) new →
    IsAnswer old.start new.pass (act.Connect user host) (Ok made.session)
answers_connected old new moment what user host made is acted =
    subst (λ (what : Act). IsAnswer old.start new.pass what (Ok made.session)) is
    (possible_made old.start old.pass new.pass _ acted.items made false acted.turn.ends
    (λ flush. let wrong : act.Connect user host ≡ act.Flush = sym is ∙ flush in cc))

pub answers_unconnected : (old new : Kept) (moment : ℕ) (what : Act) (user host : List ℕ) (one : NotMade) →
    what ≡ act.Connect user host → IsActed old moment what (Err one) new →
    IsAnswer {X = ℕ} old.start new.pass (act.Connect user host) (Err one)
answers_unconnected old new moment what user host one is acted =
    subst (λ (what : Act). IsAnswer {X = ℕ} old.start new.pass what (Err one)) is
    (refused_is ℕ old.start old.pass new.pass what (entry_of old moment what) acted.items one refl acted.turn.ends)

-- a flush, which the store may have refused
flush_short : (start : State) (old new : PassView) (entry : Entry) (items : List Item) (made : Record) (short : Bool) →
    entry.act ≡ act.Flush → WasMade start old new entry items made → made.short ≡ short →
    IsAnswer {X = ⊤} start new entry.act (if short then Err (fault.Gone why.Stopped) else Ok tt)
flush_short start old new entry items made true flush was is =
    inr (refl, flush, possible_made start old new entry items made true was (λ e. is))
flush_short start old new entry items made false flush was is =
    possible_made start old new entry items made false was (λ e. is)

flush_turn : (start : State) (old new : PassView) (pass moment : ℕ) (items : List Item)
    (made : Result Record NotMade) →
    Ends start old new (record { pass = pass; moment = moment; act = act.Flush }) items made →
    IsAnswer {X = ⊤} start new act.Flush (said_flush made)
flush_turn start old new pass moment items (Ok made) ends =
    flush_short start old new (record { pass = pass; moment = moment; act = act.Flush }) items made made.short refl
    ends refl
flush_turn start old new pass moment items (Err one) ends =
    refused_is ⊤ start old new act.Flush (record { pass = pass; moment = moment; act = act.Flush }) items one refl ends

pub answers_flush : (old new : Kept) (moment : ℕ) (items : List Item) (made : Result Record NotMade)
    (answer : Result ⊤ NotMade) → HadTurn old moment act.Flush items made new → answer ≡ said_flush made →
    IsAnswer old.start new.pass act.Flush answer
answers_flush old new moment items made answer turn is =
    subst (λ (answer : Result ⊤ NotMade). IsAnswer old.start new.pass act.Flush answer) (sym is)
    (flush_turn old.start old.pass new.pass old.pass.number moment items made turn.ends)

-- the question whether the server is stopped
stopped_turn : (start : State) (old new : PassView) (answer : Result Bool NotMade) →
    AnswersStopped start old new answer →
    IsStopped start new answer
stopped_turn start old new (Ok stopped) (history, sees, logs, is) =
    is ∙ ap (λ (seen : List Record). (state_after start seen).stopped || (state_after start seen).store_refused)
    (sym logs.seen)
stopped_turn start old new (Err fault.Memory) tells = tells
stopped_turn start old new (Err (fault.Gone told)) tells = tells
stopped_turn start old new (Err (fault.Full number)) tells = last_ticket old new number tells

pub answers_stopped : (old mid new : Kept) (answer : Result Bool NotMade) (said' : Result ⊤ NotMade) →
    AnswersStopped old.start old.pass mid.pass answer →
    new ≡ record mid { answers = mid.answers ++ (deed.Ask, said') ∷ [] } →
    IsStopped old.start new.pass answer
answers_stopped old mid new answer said' tells told =
    subst (λ (kept : Kept). IsStopped old.start kept.pass answer) (sym told)
    (stopped_turn old.start old.pass mid.pass answer tells)
