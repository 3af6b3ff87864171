-- What the calls of a desk are to a seat.
use Rattle.std.proofs.Common.{◌≡◌, ◌≢◌, ℕ, ◌==◌, ◌||◌, Bool, true, false, inl, inr, List, [], ◌∷◌, ◌++◌}
use Rattle.std.proofs.Common.{Result, Ok, Err, refl, sym, ◌∙◌, ap, ap₂, subst, cond, ne_eqb, eq-eqb, arith, length}
use Rattle.std.specs.Prelude.{filter, OnOk, OnErr, ⊤}
use Rattle.std.proofs.lemmas.Bool.{cases_Bool, eqb-true}
use Rattle.std.proofs.lemmas.List.Elements.{filter-append}
use Rattle.std.proofs.lemmas.List.Folds.{list_any-append}
use Rattle.kom_types.specs.declared.acts.Act.{Act}
use Rattle.kom_types.specs.declared.acts.Act.TheVariants as act
use Rattle.kom_types.specs.declared.acts.Record.{Record}
use Rattle.kom_types.specs.declared.answers.Why.TheVariants as why
use Rattle.kom_types.specs.declared.items.Item.{Item}
use Rattle.kom_links.specs.declared.deeds.Deed.{Deed}
use Rattle.kom_links.specs.declared.deeds.Deed.TheVariants as deed
use Rattle.kom_types.specs.declared.answers.NotMade.{NotMade}
use Rattle.kom_types.specs.declared.answers.NotMade.TheVariants as fault
use Rattle.kom_links.specs.Records.{has_session, IsOpen}
use Rattle.kom_links.specs.Answers.{Answer, without_value, said_stopped, deed_of, is_nothing}
use Rattle.kom_links.specs.DeskCalls.{DeskView, ChangesAt, StaysForAll, record_of, IsTold}
use Rattle.kom_links.specs.DeskCalls.{Connects, Acts, Calls, Drains, Flushes, Closes, AsksStopped, AddsNoneOrShort}
use Rattle.kom_hub.specs.Seats.{is_flush, is_shown, since, since_at, seat_records, only, only_by, seat_of}
use Rattle.kom_hub.proofs.Shown.{since_absent, since_present, shown_by, shown_own, shown_open, connected_present}

-- ---- what is shown of one record more

pub present_more : (session : ℕ) (records more : List Record) → has_session session records ≡ true
    → has_session session (records ++ more) ≡ true
present_more session records more some =
    list_any-append (λ (made : Record). made.session == session) records more
    ∙ ap (λ b. b || has_session session more) some

pub absent_more : (session : ℕ) (records more : List Record) → has_session session records ≡ false
    → has_session session (records ++ more) ≡ has_session session more
absent_more session records more none =
    list_any-append (λ (made : Record). made.session == session) records more
    ∙ ap (λ b. b || has_session session more) none

or_true : (a : Bool) → (a || true) ≡ true
or_true true = refl
or_true false = refl

kept_one : (p : Record → Bool) (made : Record) → p made ≡ true → filter p (made ∷ []) ≡ made ∷ []
kept_one p made is = ap (λ b. cond b (made ∷ []) []) is

own_shown : (session : ℕ) (made : Record) → made.session ≡ session → is_shown session made ≡ true
own_shown session made own = ap (λ b. b || is_flush made.entry.act) (eq-eqb made.session session own)

flush_shown : (session : ℕ) (made : Record) → is_flush made.entry.act ≡ true → is_shown session made ≡ true
flush_shown session made flush = ap (λ b. (made.session == session) || b) flush ∙ or_true (made.session == session)

one_present : (session : ℕ) (records : List Record) (made : Record) → session ≢ 0
    → has_session session records ≡ true → is_shown session made ≡ true
    → seat_records session (records ++ made ∷ []) ≡ seat_records session records ++ made ∷ []
one_present session records made some here is =
    shown_by session (records ++ made ∷ []) true some (present_more session records (made ∷ []) here)
    ∙ since_present session records (made ∷ []) here
    ∙ ap (λ last. since session records ++ last) (kept_one (is_shown session) made is)
    ∙ ap (λ first. first ++ made ∷ []) (sym (shown_by session records true some here))

pub own_more : (session : ℕ) (records : List Record) (made : Record) → session ≢ 0 → IsOpen session records
    → made.session ≡ session → seat_records session (records ++ made ∷ []) ≡ seat_records session records ++ made ∷ []
own_more session records made some opened own =
    one_present session records made some (connected_present session records opened) (own_shown session made own)

pub flush_more : (session : ℕ) (records : List Record) (made : Record) → session ≢ 0
    → is_flush made.entry.act ≡ true → made.session ≡ 0
    → seat_records session (records ++ made ∷ []) ≡ seat_records session records ++ made ∷ []
flush_more session records made some flush none = elim (cases_Bool (has_session session records)) [
  | inl here ↦ one_present session records made some here (flush_shown session made flush)
  | inr there ↦
      let other : (made.session == session) ≡ false = ne_eqb made.session session (λ e. some (sym e ∙ none)) in
      let more : has_session session (records ++ made ∷ []) ≡ false =
      absent_more session records (made ∷ []) there ∙ ap (λ b. b || false) other in
      shown_by session (records ++ made ∷ []) false some more
      ∙ filter-append (λ (one : Record). is_flush one.entry.act) records (made ∷ [])
      ∙ ap (λ last. filter (λ (one : Record). is_flush one.entry.act) records ++ last)
      (kept_one (λ (one : Record). is_flush one.entry.act) made flush)
      ∙ ap (λ first. first ++ made ∷ []) (sym (shown_by session records false some there))
]

pub connect_more : (session : ℕ) (records : List Record) (made : Record) → session ≢ 0
    → has_session session records ≡ false → made.session ≡ session
    → seat_records session (records ++ made ∷ []) ≡ made ∷ []
connect_more session records made some none own =
    let at : (made.session == session) ≡ true = eq-eqb made.session session own in
    let more : has_session session (records ++ made ∷ []) ≡ true =
    absent_more session records (made ∷ []) none ∙ ap (λ b. b || false) at in
    shown_by session (records ++ made ∷ []) true some more
    ∙ since_absent session records (made ∷ []) none
    ∙ ap (λ b. since_at b made [] []) at

-- ---- what is kept for each session

pub only_at : {X : Type 0} (session : ℕ) (none : X) (kept : ℕ → X) → session ≢ 0
    → only session none kept session ≡ kept session
only_at session none kept some =
    ap₂ (λ a b. only_by a b none (kept session)) (ne_eqb session 0 some) (eq-eqb session session refl)

-- of another number nothing is shown
only_apart : {X : Type 0} (session : ℕ) (none : X) (kept : ℕ → X) (number : ℕ) → number ≢ session
    → only session none kept number ≡ none
only_apart session none kept number other = elim (cases_Bool (number == 0)) [
  | inl zero ↦ ap (λ a. only_by a (number == session) none (kept number)) zero
  | inr some ↦ ap₂ (λ a b. only_by a b none (kept number)) some (ne_eqb number session other)
]

-- nor of any without a session
pub only_nobody : {X : Type 0} (none : X) (kept : ℕ → X) (number : ℕ) → only 0 none kept number ≡ none
only_nobody none kept number = elim (cases_Bool (number == 0)) [
  | inl zero ↦ ap (λ a. only_by a a none (kept number)) zero
  | inr some ↦ ap (λ a. only_by a a none (kept number)) some
]

pub only_same : {X : Type 0} (session : ℕ) (none : X) (old new : ℕ → X) → StaysForAll old new
    → StaysForAll (only session none old) (only session none new)
only_same session none old new stays number =
    ap (λ kept. only_by (number == 0) (number == session) none kept) (stays number)

pub only_none : {X : Type 0} (none : X) (old new : ℕ → X) → StaysForAll (only 0 none old) (only 0 none new)
only_none none old new number = only_nobody none new number ∙ sym (only_nobody none old number)

pub only_change : {X : Type 0} (session : ℕ) (none : X) (value : X) (old new : ℕ → X) → session ≢ 0
    → ChangesAt session value old new → ChangesAt session value (only session none old) (only session none new)
only_change session none value old new some changes = (
  only_at session none new some ∙ changes.0,
  λ number other. only_apart session none new number other ∙ sym (only_apart session none old number other),
)

-- by a connect
only_new : {X : Type 0} (session : ℕ) (none : X) (value : X) (old new : ℕ → X) → session ≢ 0
    → new session ≡ value → ChangesAt session value (only 0 none old) (only session none new)
only_new session none value old new some changed = (
  only_at session none new some ∙ changed,
  λ number other. only_apart session none new number other ∙ sym (only_nobody none old number),
)

-- of what is kept for each session a seat shows its own alone
pub only_own : {X : Type 0} (session : ℕ) (none : X) (old new : ℕ → X) → new session ≡ old session
    → StaysForAll (only session none old) (only session none new)
only_own session none old new same number = elim (cases_Bool (number == session)) [
  | inl own ↦
      let at : number ≡ session = eqb-true _ _ own in
      ap (λ kept. only_by (number == 0) (number == session) none kept) (ap new at ∙ same ∙ sym (ap old at))
  | inr differs ↦
      let away : number ≢ session = λ e. let t : (number == session) ≡ true = eq-eqb number session e in cc in
      only_apart session none new number away ∙ sym (only_apart session none old number away)
]

on_err : {X E P Q : Type 0} (answer : Result X E) → (P → Q) → OnErr answer P → OnErr answer Q
on_err (Ok done) to was = tt
on_err (Err why) to was = to was

on_ok : {X E P Q : Type 0} (answer : Result X E) → (P → Q) → OnOk answer P → OnOk answer Q
on_ok (Ok done) to was = to was
on_ok (Err why) to was = tt

-- an answer that hands over nothing is what it says
said_same : (answer : Result ⊤ NotMade) → without_value answer ≡ answer
said_same (Ok done) = refl
said_same (Err why) = refl

told : (answers : List Answer) (what : Deed) (answer : Result ⊤ NotMade)
    → answers ++ (what, answer) ∷ [] ≡ answers ++ (what, without_value answer) ∷ []
told answers what answer = ap (λ one. answers ++ (what, one) ∷ []) (sym (said_same answer))

or_false : (b : Bool) → b ≡ (b || false)
or_false true = refl
or_false false = refl

-- ---- a session is connected

pub connected : (before : ℕ) → before ≡ 0 → (answers : List Answer) (old : DeskView) (moment : ℕ) (user host : List ℕ)
    (session : ℕ) (new : DeskView) → Connects old moment user host (Ok session) new →
    Connects (seat_of before answers old) moment user host (Ok session)
    (seat_of session (answers ++ (deed.Connect, Ok tt) ∷ []) new)
connected before zero answers old moment user host session new c =
    subst (λ (k : ℕ). Connects (seat_of k answers old) moment user host (Ok session)
    (seat_of session (answers ++ (deed.Connect, Ok tt) ∷ []) new)) (sym zero) (record {
      added =
          ap (seat_records session) c.added
          ∙ connect_more session old.mine (record_of old.pass moment (act.Connect user host) session false)
          c.new_number.0 c.new_number.1 refl;
      new_number = (c.new_number.0, refl);
      given = only_new session [] [] old.gave_to new.gave_to c.new_number.0 c.given.0;
      none_added = tt;
      none_given = tt;
      tells = refl;
      why = tt;
      lock_full = c.lock_full;
      pass = c.pass;
    })

pub refused : (session : ℕ) (answers : List Answer) (old : DeskView) (moment : ℕ) (user host : List ℕ)
    (reason : NotMade) (new : DeskView) → Connects old moment user host (Err reason) new →
    Connects (seat_of session answers old) moment user host (Err reason)
    (seat_of session (answers ++ (deed.Connect, Err reason) ∷ []) new)
refused session answers old moment user host reason new c = record {
  added = tt;
  new_number = tt;
  given = tt;
  none_added = ap (seat_records session) c.none_added;
  none_given = only_same session [] old.gave_to new.gave_to c.none_given;
  tells = refl;
  why = c.why;
  lock_full = c.lock_full;
  pass = c.pass;
}

-- no second session is connected from a seat
pub no_connect : (session : ℕ) (answers : List Answer) (old : DeskView) (moment : ℕ) (user host : List ℕ) →
    Connects (seat_of session answers old) moment user host (Err fault.Memory)
    (seat_of session (answers ++ (deed.Connect, Err fault.Memory) ∷ []) old)
no_connect session answers old moment user host = record {
  added = tt;
  new_number = tt;
  given = tt;
  none_added = refl;
  none_given = λ number. refl;
  tells = refl;
  why = tt;
  lock_full = or_false old.lock_full;
  pass = refl;
}

-- ---- an act of the session

left : (session : ℕ) (answers : List Answer) (what : Deed) (old : DeskView) (answer : Result ⊤ NotMade)
    (new : DeskView) → IsTold old what answer new
    → IsTold (seat_of session answers old) what answer (seat_of session (answers ++ (what, answer) ∷ []) new)
left session answers what old answer new t = record {
  none_added = on_err answer (λ same. ap (seat_records session) same) t.none_added;
  tells = told answers what answer;
  lock_full = t.lock_full;
  pass = t.pass;
}

one_more : (session : ℕ) (old new : DeskView) (made : Record) → session ≢ 0 → IsOpen session old.mine
    → made.session ≡ session → new.mine ≡ old.mine ++ made ∷ []
    → seat_records session new.mine ≡ seat_records session old.mine ++ made ∷ []
one_more session old new made some opened own added =
    ap (seat_records session) added ∙ own_more session old.mine made some opened own

-- the session of an act that a seat lets through is the seat's own
own_of : (session number : ℕ) (old : DeskView) → IsOpen number (seat_records session old.mine)
    → (number ≡ session) × (session ≢ 0) × IsOpen session old.mine
own_of session number old opened =
    let own : (number ≡ session) × (session ≢ 0) = shown_own session number old.mine opened in
    (own.0, own.1, subst (λ (k : ℕ). IsOpen k old.mine) own.0 (shown_open session number old.mine opened))

-- the same, and its record is shown
pub grows : (session : ℕ) (old : DeskView) (number : ℕ) → IsOpen number (seat_records session old.mine)
    → (made : Record) → made.session ≡ number → (new : DeskView) → new.mine ≡ old.mine ++ made ∷ []
    → seat_records session new.mine ≡ seat_records session old.mine ++ made ∷ []
grows session old number opened made of new added =
    let own : (number ≡ session) × (session ≢ 0) × IsOpen session old.mine = own_of session number old opened in
    one_more session old new made own.1 own.2 (of ∙ own.0) added

pub acted : (session : ℕ) (answers : List Answer) (old : DeskView) (moment : ℕ) (what : Act) (number : ℕ)
    (answer : Result ⊤ NotMade) (new : DeskView) → IsOpen number (seat_records session old.mine)
    → Acts old moment what number answer new
    → Acts (seat_of session answers old) moment what number answer
    (seat_of session (answers ++ (deed_of what, answer) ∷ []) new)
acted session answers old moment what number answer new opened a = record {
  added = on_ok answer (grows session old number opened (record_of old.pass moment what number false) refl new) a.added;
  given = only_same session [] old.gave_to new.gave_to a.given;
  why = a.why;
  rest = left session answers (deed_of what) old answer new a.rest;
}

pub called : (session : ℕ) (answers : List Answer) (old : DeskView) (moment : ℕ) (what : Act) (number : ℕ)
    (answer : Result ⊤ NotMade) (new : DeskView) → IsOpen number (seat_records session old.mine)
    → Calls old moment what number answer new
    → Calls (seat_of session answers old) moment what number answer
    (seat_of session (answers ++ (deed_of what, answer) ∷ []) new)
called session answers old moment what number answer new opened a = record {
  added = on_ok answer (λ made. (
    made.0,
    grows session old number opened (record_of old.pass moment what number made.0) refl new made.1,
  )) a.added;
  given = only_same session [] old.gave_to new.gave_to a.given;
  why = a.why;
  rest = left session answers (deed_of what) old answer new a.rest;
}

pub closed : (session : ℕ) (answers : List Answer) (old : DeskView) (moment : ℕ) (number : ℕ)
    (answer : Result ⊤ NotMade) (new : DeskView) → IsOpen number (seat_records session old.mine)
    → Closes old moment number answer new
    → Closes (seat_of session answers old) moment number answer
    (seat_of session (answers ++ (deed.Close number, answer) ∷ []) new)
closed session answers old moment number answer new opened a = record {
  added = on_ok answer
      (grows session old number opened (record_of old.pass moment (act.Close number) number false) refl new) a.added;
  given = only_same session [] old.gave_to new.gave_to a.given;
  why = a.why;
  rest = left session answers (deed.Close number) old answer new a.rest;
}

pub drained : (session : ℕ) (answers : List Answer) (old : DeskView) (moment : ℕ) (number : ℕ) (items : List Item)
    (answer : Result ⊤ NotMade) (new : DeskView) → IsOpen number (seat_records session old.mine)
    → Drains old moment number items answer new
    → Drains (seat_of session answers old) moment number items answer
    (seat_of session (answers ++ (deed.Drain number (is_nothing items), answer) ∷ []) new)
drained session answers old moment number items answer new opened a =
    let own : (number ≡ session) × (session ≢ 0) × IsOpen session old.mine = own_of session number old opened in
    record {
      added = on_ok answer
          (grows session old number opened (record_of old.pass moment (act.Drain number) number false) refl new)
          a.added;
      given = on_ok answer (gave own.0 own.1) a.given;
      none_given = on_err answer (λ none. (only_same session [] old.gave_to new.gave_to none.0, none.1)) a.none_given;
      why = a.why;
      rest = left session answers (deed.Drain number (is_nothing items)) old answer new a.rest;
    }
  where
    gave : number ≡ session → session ≢ 0
        → ChangesAt number (old.gave_to number ++ items ∷ []) old.gave_to new.gave_to
        → ChangesAt number (only session [] old.gave_to number ++ items ∷ []) (only session [] old.gave_to)
        (only session [] new.gave_to)
    gave same some changes = subst
        (λ (n : ℕ). ChangesAt n (old.gave_to n ++ items ∷ []) old.gave_to new.gave_to
        → ChangesAt n (only session [] old.gave_to n ++ items ∷ []) (only session [] old.gave_to)
        (only session [] new.gave_to))
        (sym same)
        (λ changes. subst
        (λ (before : List (List Item)). ChangesAt session (before ++ items ∷ []) (only session [] old.gave_to)
        (only session [] new.gave_to))
        (sym (only_at session [] old.gave_to some))
        (only_change session [] (old.gave_to session ++ items ∷ []) old.gave_to new.gave_to some changes)) changes

-- an array of no items
pub nothing_is : (items : List Item) → (length items == 0) ≡ is_nothing items
nothing_is [] = refl
nothing_is (item ∷ items) = ne_eqb (length (item ∷ items)) 0 (λ e. omega (arith, e))

pub drained_by : (session : ℕ) (answers : List Answer) (old : DeskView) (moment : ℕ) (number : ℕ) (items : List Item)
    (answer : Result ⊤ NotMade) (new : DeskView) (nothing : Bool) → nothing ≡ (length items == 0)
    → IsOpen number (seat_records session old.mine) → Drains old moment number items answer new
    → Drains (seat_of session answers old) moment number items answer
    (seat_of session (answers ++ (deed.Drain number nothing, answer) ∷ []) new)
drained_by session answers old moment number items answer new nothing e opened a = subst
    (λ (empty : Bool). Drains (seat_of session answers old) moment number items answer
    (seat_of session (answers ++ (deed.Drain number empty, answer) ∷ []) new))
    (sym (e ∙ nothing_is items))
    (drained session answers old moment number items answer new opened a)

-- a drain is told with whether it gave nothing
pub drained_told : (answers : List Answer) (number : ℕ) (items : List Item) (answer : Result ⊤ NotMade)
    (nothing : Bool) → nothing ≡ (length items == 0)
    → answers ++ (deed.Drain number nothing, answer) ∷ []
    ≡ answers ++ (deed.Drain number (is_nothing items), answer) ∷ []
drained_told answers number items answer nothing e =
    ap (λ (empty : Bool). answers ++ (deed.Drain number empty, answer) ∷ []) (e ∙ nothing_is items)

-- ---- what is of no session

short_more : (session : ℕ) (answers answers' : List Answer) (old : DeskView) (moment : ℕ) (reason : NotMade)
    (new : DeskView) → session ≢ 0 → AddsNoneOrShort old moment reason new
    → AddsNoneOrShort (seat_of session answers old) moment reason (seat_of session answers' new)
short_more session answers answers' old moment (fault.Gone why.Stopped) new some (inl same) =
    inl (ap (seat_records session) same)
short_more session answers answers' old moment (fault.Gone why.Stopped) new some (inr short) =
    inr (ap (seat_records session) short
    ∙ flush_more session old.mine (record_of old.pass moment act.Flush 0 true) some refl refl)
short_more session answers answers' old moment (fault.Gone why.Absent) new some same = ap (seat_records session) same
short_more session answers answers' old moment (fault.Gone why.Dropped) new some same = ap (seat_records session) same
short_more session answers answers' old moment (fault.Gone why.Overrun) new some same = ap (seat_records session) same
short_more session answers answers' old moment (fault.Full number) new some same = ap (seat_records session) same
short_more session answers answers' old moment fault.Memory new some same = ap (seat_records session) same

pub flushed : (session : ℕ) (answers : List Answer) (old : DeskView) (moment : ℕ) (answer : Result ⊤ NotMade)
    (new : DeskView) → session ≢ 0 → Flushes old moment answer new
    → Flushes (seat_of session answers old) moment answer (seat_of session (answers ++ (deed.Flush, answer) ∷ []) new)
flushed session answers old moment (Ok done) new some f = record {
  added =
      ap (seat_records session) f.added
      ∙ flush_more session old.mine (record_of old.pass moment act.Flush 0 false) some refl refl;
  none_added = tt;
  given = only_same session [] old.gave_to new.gave_to f.given;
  tells = refl;
  why = tt;
  lock_full = f.lock_full;
  pass = f.pass;
}
flushed session answers old moment (Err reason) new some f = record {
  added = tt;
  none_added = short_more session answers (answers ++ (deed.Flush, Err reason) ∷ []) old moment reason new some
      f.none_added;
  given = only_same session [] old.gave_to new.gave_to f.given;
  tells = refl;
  why = f.why;
  lock_full = f.lock_full;
  pass = f.pass;
}

-- the seat of nobody does not flush
pub no_flush : (session : ℕ) (answers : List Answer) (old : DeskView) (moment : ℕ) →
    Flushes {X = ⊤} (seat_of session answers old) moment (Err fault.Memory)
    (seat_of session (answers ++ (deed.Flush, Err fault.Memory) ∷ []) old)
no_flush session answers old moment = record {
  added = tt;
  none_added = refl;
  given = λ number. refl;
  tells = refl;
  why = tt;
  lock_full = or_false old.lock_full;
  pass = refl;
}

pub asked : (session : ℕ) (answers : List Answer) (old : DeskView) (answer : Result Bool NotMade)
    (new : DeskView) → AsksStopped old answer new
    → AsksStopped (seat_of session answers old) answer
    (seat_of session (answers ++ (deed.Ask, said_stopped answer) ∷ []) new)
asked session answers old answer new a = record {
  mine = ap (seat_records session) a.mine;
  given = only_same session [] old.gave_to new.gave_to a.given;
  answers = refl;
  why = a.why;
  lock_full = a.lock_full;
  pass = a.pass;
}
