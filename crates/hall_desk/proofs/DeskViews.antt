-- What contracts see of the desk after each of its calls.
use Rattle.std.proofs.Common.{◌≡◌, ℕ, ◌+◌, ◌<◌, inl, inr, Bool, true, false, ◌||◌, ◌==◌, eqb, List, [], ◌∷◌}
use Rattle.std.proofs.Common.{◌++◌, length, suc, None, refl, sym, ap, subst, ◌∙◌, arith, append-nil, if◌then◌else◌}
use Rattle.std.specs.Prelude.{Result, Ok, Err, OnErr, ⊤}
use Rattle.std.proofs.lemmas.Bool.{eq-eqb, ne_eqb}
use Rattle.kom_types.specs.declared.acts.Act.{Act}
use Rattle.kom_types.specs.declared.acts.Act.TheVariants as act
use Rattle.kom_types.specs.declared.acts.Record.{Record}
use Rattle.kom_types.specs.declared.answers.Why.TheVariants as why
use Rattle.kom_types.specs.declared.calls.Call.{Call}
use Rattle.kom_types.specs.declared.items.Item.{Item}
use Rattle.kom_links.specs.declared.deeds.Deed.{Deed}
use Rattle.kom_links.specs.declared.deeds.Deed.TheVariants as deed
use Rattle.kom_types.specs.declared.answers.NotMade.{NotMade}
use Rattle.kom_types.specs.declared.answers.NotMade.TheVariants as fault
use Rattle.kom_links.specs.Answers.{Answer, without_value, said_stopped, deed_of, is_nothing}
use Rattle.kom_links.specs.DeskCalls.{DeskView, StaysForAll, record_of, is_lock_full, IsTold, Connects, Acts, Calls}
use Rattle.kom_links.specs.DeskCalls.{Drains, AddsNoneOrShort, Flushes, Closes, AsksStopped, IsLookedAt}
use Rattle.kom_links.specs.Records.{IsOpen, has_session}
use Rattle.kom_model.specs.State.{State}
use Rattle.kom_model.specs.Refusal.{refusal_of}
use Rattle.kom_model.specs.After.{MayFollow}
use Rattle.kom_model.specs.Legal.{state_after}
use Rattle.kom_model.specs.Out.{given_by, given_by_pass, given_from, taken_by}
use Rattle.hall_desk.specs.Passes.{PassView, connects_in, Knows}
use Rattle.hall_desk.specs.Desks.{IsKnownAnswer, Kept, desk_view, Stands, GoesOn}
use Rattle.hall_desk.specs.Turns.{entry_of, IsOfOpen, HadTurn, IsActed, said_flush, AnswersStopped, Looks}
use Rattle.hall_desk.proofs.Starting.{IsStart, starts}
use Rattle.hall_desk.proofs.Stepping.{connects_in-append}
use Rattle.hall_desk.proofs.Histories.{gives_none, given_before, undrawn_absent, absent_of, connects-state_after}
use Rattle.hall_desk.proofs.Growing.{Grows, Keeps, Adds, made_adds, fault_keeps, tells_keeps, looks_keeps, ended_grows}
use Rattle.hall_desk.proofs.Growing.{given_keeps, given_adds}
use Rattle.hall_desk.proofs.Causes.{refusal_known, flush_known, question_known}
use Rattle.hall_desk.proofs.Refusals.{MayRefuse, act_told, lock_any, ask_told}

-- the state in which the desk's history begins
abbrev pub begins : (kept : Kept) → Stands kept → IsStart kept.start
begins kept stands = starts kept.start stands.opening

-- an answer stands at the end of the log
abbrev pub Logged : Kept → Deed → Result ⊤ NotMade → Kept → Type 0
Logged old what answer new = new.answers ≡ old.answers ++ (what, answer) ∷ []

-- ---- a later state of the same desk

pub goes_by : (old new : Kept) → new.table ≡ old.table → (same : new.start ≡ old.start) →
    Grows old.start old.pass new.pass → GoesOn old new
goes_by old new table same on = record {
  table = table;
  start = same;
  number = on.number;
  seen = (on.more, on.seen);
  drawn = on.drawn;
}

pub goes_turn : (old new : Kept) (moment : ℕ) (what : Act) (items : List Item) (made : Result Record NotMade) →
    HadTurn old moment what items made new → GoesOn old new
goes_turn old new moment what items made turn =
    goes_by old new turn.table turn.start
    (ended_grows old.start old.pass new.pass (entry_of old moment what) items made turn.stood.knows refl turn.ends)

-- then an answer is logged
pub turn_told : (old mid new : Kept) (moment : ℕ) (what : Act) (items : List Item) (made : Result Record NotMade)
    (done : Deed) (answer : Result ⊤ NotMade) → HadTurn old moment what items made mid →
    new ≡ record mid { answers = mid.answers ++ (done, answer) ∷ [] } → HadTurn old moment what items made new
turn_told old mid new moment what items made done answer turn is =
    subst (λ (new : Kept). HadTurn old moment what items made new) (sym is)
    (record { stood = turn.stood; ends = turn.ends; table = turn.table; start = turn.start })

pub logged_after : (old mid new : Kept) (what : Deed) (answer : Result ⊤ NotMade) → mid.answers ≡ old.answers →
    new ≡ record mid { answers = mid.answers ++ (what, answer) ∷ [] } → Logged old what answer new
logged_after old mid new what answer same is = ap (λ (kept : Kept). kept.answers) is
    ∙ ap (λ (answers : List Answer). answers ++ (what, answer) ∷ []) same

pub acted_told : (old mid new : Kept) (moment : ℕ) (what : Act) (items : List Item) (made : Result Record NotMade)
    (done : Deed) (answer : Result ⊤ NotMade) → HadTurn old moment what items made mid → done ≡ deed_of what →
    answer ≡ without_value made → mid.answers ≡ old.answers →
    new ≡ record mid { answers = mid.answers ++ (done, answer) ∷ [] } → IsActed old moment what made new
acted_told old mid new moment what items made done answer turn of_act is same told = record {
  items = items;
  turn = turn_told old mid new moment what items made done answer turn told;
  tells = logged_after old mid new done answer same told
      ∙ ap (λ (done : Deed). old.answers ++ (done, answer) ∷ []) of_act
      ∙ ap (λ (answer : Result ⊤ NotMade). old.answers ++ (deed_of what, answer) ∷ []) is;
}

-- ---- the causes of what is logged

none_is : (items : List Item) → (length items == 0) ≡ is_nothing items
none_is [] = refl
none_is (item ∷ items) = ne_eqb (suc (length items)) 0 (λ e. omega arith)

known_turn : (old mid : Kept) (moment : ℕ) (what : Act) (items : List Item) (one : NotMade) (done : Deed) →
    IsOfOpen old.pass.mine what → HadTurn old moment what items (Err one) mid → done ≡ deed_of what →
    IsKnownAnswer old.start mid.pass (done, Err one)
known_turn old mid moment what items one done open' turn of_act =
    subst (λ (done : Deed). IsKnownAnswer old.start mid.pass (done, Err one)) (sym of_act)
    (refusal_known old.start (begins old turn.stood) old.pass mid.pass old.pass.number moment what items one open'
    turn.ends)

-- where the state in which the history begins is the same
known_start : (old mid : Kept) (done : Deed) (answer told : Result ⊤ NotMade) → mid.start ≡ old.start →
    told ≡ answer → IsKnownAnswer old.start mid.pass (done, answer) → IsKnownAnswer mid.start mid.pass (done, told)
known_start old mid done answer told same is known =
    subst (λ (start : State). IsKnownAnswer start mid.pass (done, told)) (sym same)
    (subst (λ (answer : Result ⊤ NotMade). IsKnownAnswer old.start mid.pass (done, answer)) (sym is) known)

pub act_known : (old mid : Kept) (moment : ℕ) (what : Act) (items : List Item) (made : Result Record NotMade)
    (done : Deed) (answer : Result ⊤ NotMade) → IsOfOpen old.pass.mine what →
    HadTurn old moment what items made mid → done ≡ deed_of what → answer ≡ without_value made →
    IsKnownAnswer mid.start mid.pass (done, answer)
act_known old mid moment what items (Ok made) done answer open' turn of_act is =
    known_start old mid done (Ok tt) answer turn.start is tt
act_known old mid moment what items (Err one) done answer open' turn of_act is =
    known_start old mid done (Err one) answer turn.start is
    (known_turn old mid moment what items one done open' turn of_act)

pub drain_known : (old mid : Kept) (moment session : ℕ) (items : List Item) (made : Result Record NotMade)
    (answer : Result ⊤ NotMade) (is_empty : Bool) → IsOpen session old.pass.mine →
    HadTurn old moment (act.Drain session) items made mid → OnErr made (items ≡ []) → answer ≡ without_value made →
    is_empty ≡ (length items == 0) → IsKnownAnswer mid.start mid.pass (deed.Drain session is_empty, answer)
drain_known old mid moment session items (Ok made) answer is_empty is_open turn nothing is empty =
    known_start old mid (deed.Drain session is_empty) (Ok tt) answer turn.start is tt
drain_known old mid moment session items (Err one) answer is_empty is_open turn nothing is empty =
    known_start old mid (deed.Drain session is_empty) (Err one) answer turn.start is
    (known_turn old mid moment (act.Drain session) items one (deed.Drain session is_empty) is_open turn
    (ap (λ (nothing : Bool). deed.Drain session nothing) (empty ∙ none_is items ∙ ap is_nothing nothing)))

pub flush_answer_known : (old mid : Kept) (moment : ℕ) (items : List Item) (made : Result Record NotMade)
    (answer : Result ⊤ NotMade) → HadTurn old moment act.Flush items made mid → answer ≡ said_flush made →
    IsKnownAnswer mid.start mid.pass (deed.Flush, answer)
flush_answer_known old mid moment items made answer turn is =
    known_start old mid deed.Flush (said_flush made) answer turn.start is
    (flush_known old.start (begins old turn.stood) old.pass mid.pass old.pass.number moment items made turn.stood.knows
    refl turn.ends)

pub question_answer_known : (old mid : Kept) (answer : Result Bool NotMade) (told : Result ⊤ NotMade) →
    AnswersStopped old.start old.pass mid.pass answer → mid.start ≡ old.start → told ≡ said_stopped answer →
    IsKnownAnswer mid.start mid.pass (deed.Ask, told)
question_answer_known old mid answer told tells same is =
    known_start old mid deed.Ask (said_stopped answer) told same is
    (question_known old.start old.pass mid.pass answer tells)

-- ---- what was given

given_start : (old new : Kept) (session : ℕ) → new.start ≡ old.start →
    (desk_view new).gave_to session ≡ given_by_pass old.start new.pass.number session new.pass.seen
given_start old new session same =
    ap (λ (start : State). given_by_pass start new.pass.number session new.pass.seen) same

-- where the pass added nothing
kept_given : (old new : Kept) → new.start ≡ old.start → Keeps old.start old.pass new.pass →
    StaysForAll (desk_view old).gave_to (desk_view new).gave_to
kept_given old new same keeps session =
    given_start old new session same ∙ given_keeps old.start old.pass new.pass session keeps

-- where it added a record that gives this to the session
added_given : (old new : Kept) (made : Record) (session : ℕ) → new.start ≡ old.start →
    (adds : Adds old.start old.pass new.pass made) →
    (desk_view new).gave_to session
    ≡ (desk_view old).gave_to session
    ++ given_by (state_after old.start (old.pass.seen ++ adds.between)) session made
added_given old new made session same adds =
    given_start old new session same ∙ given_adds old.start old.pass new.pass made session adds

-- where it added a record that gives it nothing
still_given : (old new : Kept) (pass moment : ℕ) (what : Act) (named : ℕ) (short : Bool) (session : ℕ) →
    new.start ≡ old.start → Adds old.start old.pass new.pass (record_of pass moment what named short) →
    (what ≡ act.Drain session → ⊥) → (desk_view new).gave_to session ≡ (desk_view old).gave_to session
still_given old new pass moment what named short session same adds other =
    added_given old new (record_of pass moment what named short) session same adds
    ∙ ap (λ (more : List (List Item)). (desk_view old).gave_to session ++ more)
    (gives_none session (state_after old.start (old.pass.seen ++ adds.between)) pass moment what named short other)
    ∙ append-nil ((desk_view old).gave_to session)

-- ---- an act that was made, and one that was refused

adds_all : (old new : Kept) (moment : ℕ) (what : Act) (items : List Item) (made : Record) →
    HadTurn old moment what items (Ok made) new →
    (adds : Adds old.start old.pass new.pass (record_of old.pass.number moment what made.session made.short))
    × (items ≡ taken_by (state_after old.start (old.pass.seen ++ adds.between)) what)
adds_all old new moment what items made turn =
    made_adds old.start old.pass new.pass (entry_of old moment what) items made turn.stood.knows refl turn.ends

adds_of : (old new : Kept) (moment : ℕ) (what : Act) (items : List Item) (made : Record) →
    HadTurn old moment what items (Ok made) new →
    Adds old.start old.pass new.pass (record_of old.pass.number moment what made.session made.short)
adds_of old new moment what items made turn = (adds_all old new moment what items made turn).0

-- the record that was added, with the session and the mark that it must have
added_as : (old new : Kept) (moment : ℕ) (what : Act) (made : Record) (session : ℕ) (short : Bool) →
    Adds old.start old.pass new.pass (record_of old.pass.number moment what made.session made.short) →
    made.session ≡ session → made.short ≡ short →
    new.pass.mine ≡ old.pass.mine ++ record_of old.pass.number moment what session short ∷ []
added_as old new moment what made session short adds named whole =
    adds.mine
    ∙ ap (λ (named : ℕ). old.pass.mine ++ record_of old.pass.number moment what named made.short ∷ []) named
    ∙ ap (λ (short : Bool). old.pass.mine ++ record_of old.pass.number moment what session short ∷ []) whole

ok_lock : (old new : Bool) → old ≡ false → new ≡ false → new ≡ (old || false)
ok_lock old new rested rests = rw (rested, rests) refl

ok_told : {X : Type 0} (old new : Kept) (what : Deed) (value : X) (made : Record) →
    Adds old.start old.pass new.pass made → Logged old what (Ok tt) new →
    IsTold (desk_view old) what (Ok value) (desk_view new)
ok_told old new what value made adds tells = record {
  none_added = tt;
  tells = tells;
  lock_full = ok_lock old.pass.waits new.pass.waits adds.rested adds.rests;
  pass = adds.on.number;
}

-- What a refused act leaves.
record IsLeft (P : NotMade → Type 0) (old new : Kept) (one : NotMade) : Type 0 where
  pub mine : new.pass.mine ≡ old.pass.mine
  pub given : StaysForAll (desk_view old).gave_to (desk_view new).gave_to
  pub why : P one
  pub lock : new.pass.waits ≡ (old.pass.waits || is_lock_full {X = ⊤} (Err one))
  pub number : new.pass.number ≡ old.pass.number

left_by : (old new : Kept) (moment : ℕ) (what : Act) (items : List Item) (one : NotMade) →
    IsOfOpen old.pass.mine what → HadTurn old moment what items (Err one) new → IsLeft (MayRefuse what) old new one
left_by old new moment what items one open' turn =
    let keeps : Keeps old.start old.pass new.pass =
    fault_keeps old.start old.pass new.pass (entry_of old moment what) items one turn.stood.knows turn.ends in
    let told = act_told old.start (begins old turn.stood) old.pass new.pass old.pass.number moment what items one open'
    turn.ends in
    record {
      mine = keeps.mine;
      given = kept_given old new turn.start keeps;
      why = told.may;
      lock = told.lock;
      number = keeps.on.number;
    }

err_told : {P : NotMade → Type 0} (old new : Kept) (what : Deed) (one : NotMade) → IsLeft P old new one →
    Logged old what (Err one) new → IsTold {X = ⊤} (desk_view old) what (Err one) (desk_view new)
err_told old new what one left tells = record {
  none_added = left.mine;
  tells = tells;
  lock_full = left.lock;
  pass = left.number;
}

-- ---- a call

calls_turn : (old new : Kept) (moment session reference : ℕ) (call : Call) (items : List Item)
    (made : Result Record NotMade) → IsOpen session old.pass.mine →
    HadTurn old moment (act.Call session reference call) items made new →
    Logged old (deed.Call session) (without_value made) new →
    Calls {X = ⊤} (desk_view old) moment (act.Call session reference call) session (without_value made) (desk_view new)
calls_turn old new moment session reference call items (Ok made) is_open turn tells =
    let what : Act = act.Call session reference call in
    let adds = adds_of old new moment what items made turn in
    record {
      added = (made.short, added_as old new moment what made session made.short adds adds.follows.session refl);
      given = λ number. still_given old new old.pass.number moment what made.session made.short number turn.start adds
          (λ e. cc);
      why = tt;
      rest = ok_told old new (deed.Call session) tt _ adds tells;
    }
calls_turn old new moment session reference call items (Err one) is_open turn tells =
    let left = left_by old new moment (act.Call session reference call) items one is_open turn in
    record {
      added = tt;
      given = left.given;
      why = left.why;
      rest = err_told old new (deed.Call session) one left tells;
    }

pub calls_acted : (old new : Kept) (moment session reference : ℕ) (call : Call) (made : Result Record NotMade)
    (answer : Result ⊤ NotMade) → IsOpen session old.pass.mine →
    IsActed old moment (act.Call session reference call) made new → answer ≡ without_value made →
    Calls (desk_view old) moment (act.Call session reference call) session answer (desk_view new)
calls_acted old new moment session reference call made answer is_open acted is =
    subst (λ (answer : Result ⊤ NotMade).
    Calls (desk_view old) moment (act.Call session reference call) session answer (desk_view new)) (sym is)
    (calls_turn old new moment session reference call acted.items made is_open acted.turn acted.tells)

-- ---- that a stream is at fault

broken_whole : (state : State) (pass moment number session : ℕ) (short : Bool) →
    MayFollow state (record_of pass moment (act.Broken number) session short) → short ≡ false
broken_whole state pass moment number session true may = absurd may.short
broken_whole state pass moment number session false may = refl

broken_turn : (old new : Kept) (moment session : ℕ) (items : List Item) (made : Result Record NotMade) →
    IsOpen session old.pass.mine → HadTurn old moment (act.Broken session) items made new →
    Logged old (deed.Broken session) (without_value made) new →
    Acts {X = ⊤} (desk_view old) moment (act.Broken session) session (without_value made) (desk_view new)
broken_turn old new moment session items (Ok made) is_open turn tells =
    let what : Act = act.Broken session in
    let adds = adds_of old new moment what items made turn in
    record {
      added = added_as old new moment what made session false adds adds.follows.session
          (broken_whole _ old.pass.number moment session made.session made.short adds.follows);
      given = λ number. still_given old new old.pass.number moment what made.session made.short number turn.start adds
          (λ e. cc);
      why = tt;
      rest = ok_told old new (deed.Broken session) tt _ adds tells;
    }
broken_turn old new moment session items (Err one) is_open turn tells =
    let left = left_by old new moment (act.Broken session) items one is_open turn in
    record {
      added = tt;
      given = left.given;
      why = left.why;
      rest = err_told old new (deed.Broken session) one left tells;
    }

pub broken_acted : (old new : Kept) (moment session : ℕ) (made : Result Record NotMade)
    (answer : Result ⊤ NotMade) → IsOpen session old.pass.mine → IsActed old moment (act.Broken session) made new →
    answer ≡ without_value made → Acts (desk_view old) moment (act.Broken session) session answer (desk_view new)
broken_acted old new moment session made answer is_open acted is =
    subst (λ (answer : Result ⊤ NotMade).
    Acts (desk_view old) moment (act.Broken session) session answer (desk_view new)) (sym is)
    (broken_turn old new moment session acted.items made is_open acted.turn acted.tells)

-- ---- a drain

drain_whole : (state : State) (pass moment number session : ℕ) (short : Bool) →
    MayFollow state (record_of pass moment (act.Drain number) session short) → short ≡ false
drain_whole state pass moment number session true may = absurd may.short
drain_whole state pass moment number session false may = refl

drained_items : (state : State) (session : ℕ) (made : Record) → MayFollow state made →
    made.entry.act ≡ act.Drain session → taken_by state (act.Drain session) ≡ given_from session state
drained_items state session made may is =
    let possible : refusal_of state (act.Drain session) ≡ None =
    subst (λ (what : Act). refusal_of state what ≡ None) is may.possible in
    rw (taken_by, possible) refl

drains_turn : (old new : Kept) (moment session : ℕ) (items : List Item) (made : Result Record NotMade) →
    IsOpen session old.pass.mine → HadTurn old moment (act.Drain session) items made new →
    OnErr made (items ≡ []) → Logged old (deed.Drain session (is_nothing items)) (without_value made) new →
    Drains {X = ⊤} (desk_view old) moment session items (without_value made) (desk_view new)
drains_turn old new moment session items (Ok made) is_open turn nothing tells =
    let what : Act = act.Drain session in
    let both = adds_all old new moment what items made turn in
    let adds = both.0 in
    let one : Record = record_of old.pass.number moment what made.session made.short in
    let state : State = state_after old.start (old.pass.seen ++ adds.between) in
    let taken : items ≡ given_from session state =
    both.1 ∙ drained_items state session one adds.follows refl in
    let here : eqb session session ≡ true = eq-eqb _ _ refl in
    let gives : given_by state session one ≡ given_from session state ∷ [] = rw here refl in
    record {
      added = added_as old new moment what made session false adds adds.follows.session
          (drain_whole _ old.pass.number moment session made.session made.short adds.follows);
      given = (
        added_given old new one session turn.start adds
            ∙ ap (λ (more : List (List Item)). (desk_view old).gave_to session ++ more) gives
            ∙ ap (λ (items : List Item). (desk_view old).gave_to session ++ items ∷ []) (sym taken),
        λ number other. still_given old new old.pass.number moment what made.session made.short number turn.start adds
            (λ e. other (let same : session ≡ number = cc in sym same)),
      );
      none_given = tt;
      why = tt;
      rest = ok_told old new (deed.Drain session (is_nothing items)) tt _ adds tells;
    }
drains_turn old new moment session items (Err one) is_open turn nothing tells =
    let left = left_by old new moment (act.Drain session) items one is_open turn in
    record {
      added = tt;
      given = tt;
      none_given = (left.given, nothing);
      why = left.why;
      rest = err_told old new (deed.Drain session (is_nothing items)) one left tells;
    }

pub drains_told : (old mid new : Kept) (moment session : ℕ) (items : List Item) (made : Result Record NotMade)
    (answer : Result ⊤ NotMade) (is_empty : Bool) → IsOpen session old.pass.mine →
    HadTurn old moment (act.Drain session) items made mid → OnErr made (items ≡ []) → answer ≡ without_value made →
    is_empty ≡ (length items == 0) → mid.answers ≡ old.answers →
    new ≡ record mid { answers = mid.answers ++ (deed.Drain session is_empty, answer) ∷ [] } →
    Drains (desk_view old) moment session items answer (desk_view new)
drains_told old mid new moment session items made answer is_empty is_open turn nothing is empty same told =
    subst (λ (answer : Result ⊤ NotMade). Drains (desk_view old) moment session items answer (desk_view new)) (sym is)
    (drains_turn old new moment session items made is_open
    (turn_told old mid new moment (act.Drain session) items made (deed.Drain session is_empty) answer turn told) nothing
    (logged_after old mid new (deed.Drain session is_empty) answer same told
    ∙ ap (λ (nothing : Bool). old.answers ++ (deed.Drain session nothing, answer) ∷ []) (empty ∙ none_is items)
    ∙ ap (λ (answer : Result ⊤ NotMade). old.answers ++ (deed.Drain session (is_nothing items), answer) ∷ []) is))

-- ---- a close

close_whole : (state : State) (pass moment number session : ℕ) (short : Bool) →
    MayFollow state (record_of pass moment (act.Close number) session short) → short ≡ false
close_whole state pass moment number session true may = absurd may.short
close_whole state pass moment number session false may = refl

closes_turn : (old new : Kept) (moment session : ℕ) (items : List Item) (made : Result Record NotMade) →
    IsOpen session old.pass.mine → HadTurn old moment (act.Close session) items made new →
    Logged old (deed.Close session) (without_value made) new →
    Closes {X = ⊤} (desk_view old) moment session (without_value made) (desk_view new)
closes_turn old new moment session items (Ok made) is_open turn tells =
    let what : Act = act.Close session in
    let adds = adds_of old new moment what items made turn in
    record {
      added = added_as old new moment what made session false adds adds.follows.session
          (close_whole _ old.pass.number moment session made.session made.short adds.follows);
      given = λ number. still_given old new old.pass.number moment what made.session made.short number turn.start adds
          (λ e. cc);
      why = tt;
      rest = ok_told old new (deed.Close session) tt _ adds tells;
    }
closes_turn old new moment session items (Err one) is_open turn tells =
    let left = left_by old new moment (act.Close session) items one is_open turn in
    record {
      added = tt;
      given = left.given;
      why = left.why;
      rest = err_told old new (deed.Close session) one left tells;
    }

pub closes_acted : (old new : Kept) (moment session : ℕ) (made : Result Record NotMade)
    (answer : Result ⊤ NotMade) → IsOpen session old.pass.mine → IsActed old moment (act.Close session) made new →
    answer ≡ without_value made → Closes (desk_view old) moment session answer (desk_view new)
closes_acted old new moment session made answer is_open acted is =
    subst (λ (answer : Result ⊤ NotMade). Closes (desk_view old) moment session answer (desk_view new)) (sym is)
    (closes_turn old new moment session acted.items made is_open acted.turn acted.tells)

-- ---- a flush

adds_none : (old new : DeskView) (moment : ℕ) (one : NotMade) → new.mine ≡ old.mine →
    AddsNoneOrShort old moment one new
adds_none old new moment (fault.Gone why.Stopped) same = inl same
adds_none old new moment (fault.Gone why.Absent) same = same
adds_none old new moment (fault.Gone why.Dropped) same = same
adds_none old new moment (fault.Gone why.Overrun) same = same
adds_none old new moment (fault.Full number) same = same
adds_none old new moment fault.Memory same = same

-- one that was made, short where the store refused it
flush_made : (old new : Kept) (moment : ℕ) (items : List Item) (made : Record) (short : Bool) → made.short ≡ short →
    HadTurn old moment act.Flush items (Ok made) new →
    Logged old deed.Flush (if short then Err (fault.Gone why.Stopped) else Ok tt) new →
    Flushes {X = ⊤} (desk_view old) moment (if short then Err (fault.Gone why.Stopped) else Ok tt) (desk_view new)
flush_made old new moment items made false is turn tells =
    let adds = adds_of old new moment act.Flush items made turn in
    record {
      added = added_as old new moment act.Flush made 0 false adds adds.follows.session is;
      none_added = tt;
      given = λ number. still_given old new old.pass.number moment act.Flush made.session made.short number turn.start
          adds (λ e. cc);
      tells = tells;
      why = tt;
      lock_full = ok_lock old.pass.waits new.pass.waits adds.rested adds.rests;
      pass = adds.on.number;
    }
flush_made old new moment items made true is turn tells =
    let adds = adds_of old new moment act.Flush items made turn in
    record {
      added = tt;
      none_added = inr (added_as old new moment act.Flush made 0 true adds adds.follows.session is);
      given = λ number. still_given old new old.pass.number moment act.Flush made.session made.short number turn.start
          adds (λ e. cc);
      tells = tells;
      why = tt;
      lock_full = ok_lock old.pass.waits new.pass.waits adds.rested adds.rests;
      pass = adds.on.number;
    }

flush_turn : (old new : Kept) (moment : ℕ) (items : List Item) (made : Result Record NotMade) →
    HadTurn old moment act.Flush items made new → Logged old deed.Flush (said_flush made) new →
    Flushes {X = ⊤} (desk_view old) moment (said_flush made) (desk_view new)
flush_turn old new moment items (Ok made) turn tells =
    flush_made old new moment items made made.short refl turn tells
flush_turn old new moment items (Err one) turn tells =
    let left = left_by old new moment act.Flush items one tt turn in
    record {
      added = tt;
      none_added = adds_none (desk_view old) (desk_view new) moment one left.mine;
      given = left.given;
      tells = tells;
      why = left.why;
      lock_full = left.lock;
      pass = left.number;
    }

pub flush_told : (old mid new : Kept) (moment : ℕ) (items : List Item) (made : Result Record NotMade)
    (answer : Result ⊤ NotMade) → HadTurn old moment act.Flush items made mid → answer ≡ said_flush made →
    mid.answers ≡ old.answers → new ≡ record mid { answers = mid.answers ++ (deed.Flush, answer) ∷ [] } →
    Flushes (desk_view old) moment answer (desk_view new)
flush_told old mid new moment items made answer turn is same told =
    subst (λ (answer : Result ⊤ NotMade). Flushes (desk_view old) moment answer (desk_view new)) (sym is)
    (flush_turn old new moment items made
    (turn_told old mid new moment act.Flush items made deed.Flush answer turn told)
    (logged_after old mid new deed.Flush answer same told
    ∙ ap (λ (answer : Result ⊤ NotMade). old.answers ++ (deed.Flush, answer) ∷ []) is))

-- ---- whether the server is stopped, and what is new

asks_told : (old new : Kept) (answer : Result Bool NotMade) → Stands old → new.start ≡ old.start →
    AnswersStopped old.start old.pass new.pass answer → Logged old deed.Ask (said_stopped answer) new →
    AsksStopped (desk_view old) answer (desk_view new)
asks_told old new (Ok stopped) stands same tells logged =
    let keeps = tells_keeps old.start old.pass new.pass (Ok stopped) stands.knows tells in
    record {
      mine = keeps.mine;
      given = kept_given old new same keeps;
      answers = logged;
      why = tt;
      lock_full = ok_lock old.pass.waits new.pass.waits tells.1.rested tells.1.rests;
      pass = keeps.on.number;
    }
asks_told old new (Err one) stands same tells logged =
    let keeps = tells_keeps old.start old.pass new.pass (Err one) stands.knows tells in
    let told = ask_told old.start old.pass new.pass 0 one tells in
    record {
      mine = keeps.mine;
      given = kept_given old new same keeps;
      answers = logged;
      why = told.may;
      lock_full = told.lock ∙ ap (λ b. old.pass.waits || b) (sym (lock_any Bool one));
      pass = keeps.on.number;
    }

-- What a question leaves, before its answer is logged.
pub record HasAsked (old : Kept) (answer : Result Bool NotMade) (mid : Kept) : Type 0 where
  pub tells : AnswersStopped old.start old.pass mid.pass answer
  pub table : mid.table ≡ old.table
  pub start : mid.start ≡ old.start
  pub answers : mid.answers ≡ old.answers
  pub stood : Stands old

pub stopped_told : (old mid new : Kept) (answer : Result Bool NotMade) (said' : Result ⊤ NotMade) →
    HasAsked old answer mid → said' ≡ said_stopped answer →
    new ≡ record mid { answers = mid.answers ++ (deed.Ask, said') ∷ [] } →
    AsksStopped (desk_view old) answer (desk_view new)
stopped_told old mid new answer said' asked is told =
    asks_told old new answer asked.stood (ap (λ (kept : Kept). kept.start) told ∙ asked.start)
    (subst (λ (kept : Kept). AnswersStopped old.start old.pass kept.pass answer) (sym told) asked.tells)
    (logged_after old mid new deed.Ask said' asked.answers told
    ∙ ap (λ (answer : Result ⊤ NotMade). old.answers ++ (deed.Ask, answer) ∷ []) is)

pub stopped_on : (old mid new : Kept) (answer : Result Bool NotMade) (said' : Result ⊤ NotMade) →
    HasAsked old answer mid → new ≡ record mid { answers = mid.answers ++ (deed.Ask, said') ∷ [] } → GoesOn old new
stopped_on old mid new answer said' asked told =
    subst (λ (new : Kept). GoesOn old new) (sym told)
    (goes_by old (record mid { answers = mid.answers ++ (deed.Ask, said') ∷ [] }) asked.table asked.start
    (tells_keeps old.start old.pass mid.pass answer asked.stood.knows asked.tells).on)

looks_lock : (old new : PassView) (start : State) → Looks start old new → old.waits ≡ true → new.waits ≡ true
looks_lock old new start (inl (history, sees, logs)) waits =
    let wrong : false ≡ true = sym sees.rested ∙ waits in cc
looks_lock old new start (inr (ticket, none)) waits = none.waits

pub looked_at : (old new : Kept) → Stands old → new.start ≡ old.start → new.answers ≡ old.answers →
    Looks old.start old.pass new.pass → IsLookedAt (desk_view old) (desk_view new)
looked_at old new stands same answers looks =
    let keeps = looks_keeps old.start old.pass new.pass stands.knows looks in
    record {
      mine = keeps.mine;
      given = kept_given old new same keeps;
      answers = answers;
      lock_full = looks_lock old.pass new.pass old.start looks;
      pass = keeps.on.number;
    }

-- ---- a connect

connect_whole : (state : State) (pass moment : ℕ) (user host : List ℕ) (session : ℕ) (short : Bool) →
    MayFollow state (record_of pass moment (act.Connect user host) session short) → short ≡ false
connect_whole state pass moment user host session true may = absurd may.short
connect_whole state pass moment user host session false may = refl

-- the number of a session that is connected now
record IsDrawn (start : State) (old new : PassView) (session : ℕ) : Type 0 where
  pub above : connects_in old.seen < session
  pub absent : has_session session old.mine ≡ false
  pub ungiven : given_by_pass start old.number session old.seen ≡ []

drawn_number : (start : State) → IsStart start → (old new : PassView) (moment : ℕ) (user host : List ℕ)
    (session : ℕ) (short : Bool) → Knows start old →
    Adds start old new (record_of old.number moment (act.Connect user host) session short) →
    IsDrawn start old new session
drawn_number start begins old new moment user host session short knows adds =
    let one : Record = record_of old.number moment (act.Connect user host) session short in
    let history : List Record = old.seen ++ adds.between in
    let counted : (state_after start history).connects ≡ start.connects + connects_in history =
    connects-state_after start history in
    let before : (state_after start old.seen).connects ≡ start.connects + connects_in old.seen =
    connects-state_after start old.seen in
    let none : start.connects ≡ 0 = begins.connects in
    let parts : connects_in history ≡ connects_in old.seen + connects_in adds.between =
    connects_in-append old.seen adds.between in
    let all : connects_in new.seen ≡ connects_in history + connects_in (one ∷ []) =
    ap connects_in adds.seen ∙ connects_in-append history (one ∷ []) in
    let last : connects_in (one ∷ []) ≡ 1 = refl in
    let drawn : session ≡ (state_after start history).connects + 1 = adds.follows.session in
    let above : (state_after start old.seen).connects < session = omega arith in
    record {
      above = omega arith;
      absent = subst (λ (mine : List Record). has_session session mine ≡ false) (sym knows.mine)
          (absent_of session old.number old.seen
          (undrawn_absent session start old.seen begins.drawn knows.legal above));
      ungiven = given_before session old.number start old.seen begins.drawn knows.legal above;
    }

connects_turn : (old new : Kept) (moment : ℕ) (user host : List ℕ) (items : List Item) (made : Record) →
    HadTurn old moment (act.Connect user host) items (Ok made) new → Logged old deed.Connect (Ok tt) new →
    Connects (desk_view old) moment user host (Ok made.session) (desk_view new)
connects_turn old new moment user host items made turn tells =
    let what : Act = act.Connect user host in
    let adds = adds_of old new moment what items made turn in
    let drawn : IsDrawn old.start old.pass new.pass made.session =
    drawn_number old.start (begins old turn.stood) old.pass new.pass moment user host made.session made.short
    turn.stood.knows adds in
    record {
      added = added_as old new moment what made made.session false adds refl
          (connect_whole _ old.pass.number moment user host made.session made.short adds.follows);
      new_number = (λ zero. omega (arith, drawn.above, zero), drawn.absent);
      given = (
        still_given old new old.pass.number moment what made.session made.short made.session turn.start adds (λ e. cc)
            ∙ drawn.ungiven,
        λ number other. still_given old new old.pass.number moment what made.session made.short number turn.start adds
            (λ e. cc),
      );
      none_added = tt;
      none_given = tt;
      tells = tells;
      why = tt;
      lock_full = ok_lock old.pass.waits new.pass.waits adds.rested adds.rests;
      pass = adds.on.number;
    }

-- the act of a greeting
acted_as : (old new : Kept) (moment : ℕ) (what : Act) (user host : List ℕ) (made : Result Record NotMade) →
    what ≡ act.Connect user host → IsActed old moment what made new →
    IsActed old moment (act.Connect user host) made new
acted_as old new moment what user host made is acted =
    subst (λ (what : Act). IsActed old moment what made new) is acted

pub connects_made : (old new : Kept) (moment : ℕ) (what : Act) (user host : List ℕ) (made : Record) →
    what ≡ act.Connect user host → IsActed old moment what (Ok made) new →
    Connects (desk_view old) moment user host (Ok made.session) (desk_view new)
connects_made old new moment what user host made is acted =
    let same = acted_as old new moment what user host (Ok made) is acted in
    connects_turn old new moment user host same.items made same.turn same.tells

pub connects_refused : (old new : Kept) (moment : ℕ) (what : Act) (user host : List ℕ) (one : NotMade) →
    what ≡ act.Connect user host → IsActed old moment what (Err one) new →
    Connects (desk_view old) moment user host (Err one) (desk_view new)
connects_refused old new moment what user host one is acted =
    let same = acted_as old new moment what user host (Err one) is acted in
    let left = left_by old new moment (act.Connect user host) same.items one tt same.turn in
    record {
      added = tt;
      new_number = tt;
      given = tt;
      none_added = left.mine;
      none_given = left.given;
      tells = same.tells;
      why = left.why;
      lock_full = left.lock ∙ ap (λ b. old.pass.waits || b) (sym (lock_any ℕ one));
      pass = left.number;
    }

-- what was acted is a later state
pub acted_on : (old new : Kept) (moment : ℕ) (what : Act) (made : Result Record NotMade) →
    IsActed old moment what made new → GoesOn old new
acted_on old new moment what made acted = goes_turn old new moment what acted.items made acted.turn
