-- How what a pass has seen grows by a turn.
use Rattle.std.proofs.Common.{◌≡◌, ℕ, ◌≤◌, inl, inr, Bool, false, List, [], ◌∷◌, ◌++◌, Option, refl, sym, ap, subst}
use Rattle.std.proofs.Common.{◌∙◌, append_assoc, append-nil}
use Rattle.std.specs.Prelude.{Result, Ok, Err}
use Rattle.std.proofs.lemmas.Bool.{eq-eqb}
use Rattle.std.proofs.lemmas.List.{append_cancel_left}
use Rattle.kom_types.specs.declared.acts.Act.{Act}
use Rattle.kom_types.specs.declared.acts.Entry.{Entry}
use Rattle.kom_types.specs.declared.acts.Record.{Record}
use Rattle.kom_types.specs.declared.answers.NotMade.{NotMade}
use Rattle.kom_types.specs.declared.items.Item.{Item}
use Rattle.kom_types.specs.declared.answers.NotMade.TheVariants as fault
use Rattle.kom_model.specs.State.{State}
use Rattle.kom_model.specs.After.{MayFollow}
use Rattle.kom_model.specs.Legal.{IsLegal, state_after}
use Rattle.kom_model.specs.Out.{given_by, given_by_pass, taken_by}
use Rattle.hall_desk.specs.Passes.{PassView, of_pass, Knows}
use Rattle.hall_desk.specs.Turns.{Sees, LogsNone, HasNoTurn, record_in, WasMade, WasRefused, Ends}
use Rattle.hall_desk.specs.Turns.{AnswersStopped, Looks}
use Rattle.hall_desk.proofs.Histories.{legal-append, of_pass-append, given-append, given_others}

-- what a pass has seen goes on, legally, and so do the tickets that it knows
pub record Grows (start : State) (old new : PassView) : Type 0 where
  pub number : new.number ≡ old.number
  pub more : List Record
  pub seen : new.seen ≡ old.seen ++ more
  pub legal : IsLegal start new.seen
  pub drawn : old.drawn ≤ new.drawn

-- by records of others alone
pub record Keeps (start : State) (old new : PassView) : Type 0 where
  pub on : Grows start old new
  pub others : of_pass old.number on.more ≡ []
  pub mine : new.mine ≡ old.mine

-- by records of others, and then one of its own
pub record Adds (start : State) (old new : PassView) (made : Record) : Type 0 where
  pub on : Grows start old new
  pub between : List Record
  pub others : of_pass old.number between ≡ []
  pub seen : new.seen ≡ (old.seen ++ between) ++ made ∷ []
  pub own : made.entry.pass ≡ old.number
  pub follows : MayFollow (state_after start (old.seen ++ between)) made
  pub before : IsLegal start (old.seen ++ between)
  pub mine : new.mine ≡ old.mine ++ made ∷ []
  pub rested : old.waits ≡ false
  pub rests : new.waits ≡ false

-- what a turn sees beyond what the pass had seen is of others
seen_others : (start : State) (old new : PassView) (history : List Record) → Knows start old →
    (sees : Sees start old new history) → of_pass old.number sees.goes_on.0 ≡ []
seen_others start old new history knows sees =
    let more : List Record = sees.goes_on.0 in
    let parts : of_pass old.number history ≡ of_pass old.number old.seen ++ of_pass old.number more =
    ap (of_pass old.number) sees.goes_on.1 ∙ of_pass-append old.number old.seen more in
    append_cancel_left (of_pass old.number old.seen) (of_pass old.number more) []
    (sym parts ∙ sym sees.own ∙ knows.mine ∙ sym (append-nil (of_pass old.number old.seen)))

-- ---- from how an act ended

pub made_adds : (start : State) (old new : PassView) (entry : Entry) (items : List Item) (made : Record) →
    Knows start old → entry.pass ≡ old.number → WasMade start old new entry items made →
    (adds : Adds start old new (record_in entry made))
    × (items ≡ taken_by (state_after start (old.seen ++ adds.between)) entry.act)
made_adds start old new entry items made knows own (history, sees, logs, taken) =
    let more : List Record = sees.goes_on.0 in
    let one : Record = record_in entry made in
    let seen : new.seen ≡ (old.seen ++ more) ++ one ∷ [] =
    logs.seen ∙ ap (λ (all : List Record). all ++ one ∷ []) sees.goes_on.1 in
    let legal : IsLegal start (history ++ one ∷ []) =
    legal-append start history (one ∷ []) sees.legal (logs.follows, tt) in (
      record {
        on = record {
          number = sees.number;
          more = more ++ one ∷ [];
          seen = seen ∙ append_assoc old.seen more (one ∷ []);
          legal = subst (λ (all : List Record). IsLegal start all) (sym logs.seen) legal;
          drawn = sees.drawn;
        };
        between = more;
        others = seen_others start old new history knows sees;
        seen = seen;
        own = own;
        follows = subst (λ (all : List Record). MayFollow (state_after start all) one) sees.goes_on.1 logs.follows;
        before = subst (λ (all : List Record). IsLegal start all) sees.goes_on.1 sees.legal;
        mine = logs.mine;
        rested = sees.rested;
        rests = sees.rests;
      },
      taken ∙ ap (λ (all : List Record). taken_by (state_after start all) entry.act) sees.goes_on.1,
    )

pub none_keeps : (start : State) (old new : PassView) (history : List Record) → Knows start old →
    Sees start old new history → LogsNone old new history → Keeps start old new
none_keeps start old new history knows sees logs = record {
  on = record {
    number = sees.number;
    more = sees.goes_on.0;
    seen = logs.seen ∙ sees.goes_on.1;
    legal = subst (λ (all : List Record). IsLegal start all) (sym logs.seen) sees.legal;
    drawn = sees.drawn;
  };
  others = seen_others start old new history knows sees;
  mine = logs.mine;
}

pub no_turn_keeps : (start : State) (old new : PassView) (ticket : ℕ) → Knows start old → HasNoTurn old new ticket →
    Keeps start old new
no_turn_keeps start old new ticket knows none = record {
  on = record {
    number = none.number;
    more = [];
    seen = none.seen ∙ sym (append-nil old.seen);
    legal = subst (λ (all : List Record). IsLegal start all) (sym none.seen) knows.legal;
    drawn = none.drawn;
  };
  others = refl;
  mine = none.mine;
}

refused_keeps : (start : State) (old new : PassView) (what : Act) (refusal : Option NotMade) → Knows start old →
    WasRefused start old new what refusal → Keeps start old new
refused_keeps start old new what refusal knows (history, sees, logs, why) =
    none_keeps start old new history knows sees logs

pub fault_keeps : (start : State) (old new : PassView) (entry : Entry) (items : List Item) (one : NotMade) →
    Knows start old → Ends start old new entry items (Err one) → Keeps start old new
fault_keeps start old new entry items fault.Memory knows ends = refused_keeps start old new entry.act _ knows ends.0
fault_keeps start old new entry items (fault.Gone told) knows ends = refused_keeps start old new entry.act _ knows ends
fault_keeps start old new entry items (fault.Full number) knows (inl none) =
    no_turn_keeps start old new number knows none
fault_keeps start old new entry items (fault.Full number) knows (inr was) =
    refused_keeps start old new entry.act _ knows was

pub tells_keeps : (start : State) (old new : PassView) (result : Result Bool NotMade) → Knows start old →
    AnswersStopped start old new result → Keeps start old new
tells_keeps start old new (Ok stopped) knows (history, sees, logs, is) = none_keeps start old new history knows sees
    logs
tells_keeps start old new (Err fault.Memory) knows tells = absurd tells
tells_keeps start old new (Err (fault.Gone told)) knows tells = absurd tells
tells_keeps start old new (Err (fault.Full number)) knows tells = no_turn_keeps start old new number knows tells

pub looks_keeps : (start : State) (old new : PassView) → Knows start old → Looks start old new → Keeps start old new
looks_keeps start old new knows (inl (history, sees, logs)) = none_keeps start old new history knows sees logs
looks_keeps start old new knows (inr (ticket, none)) = no_turn_keeps start old new ticket knows none

-- after an act, made or not
pub ended_grows : (start : State) (old new : PassView) (entry : Entry) (items : List Item)
    (result : Result Record NotMade) → Knows start old → entry.pass ≡ old.number →
    Ends start old new entry items result → Grows start old new
ended_grows start old new entry items (Ok made) knows own ends =
    (made_adds start old new entry items made knows own ends).0.on
ended_grows start old new entry items (Err one) knows own ends =
    (fault_keeps start old new entry items one knows ends).on

-- ---- what the drains of the pass gave

pub given_keeps : (start : State) (old new : PassView) (session : ℕ) → Keeps start old new →
    given_by_pass start new.number session new.seen ≡ given_by_pass start old.number session old.seen
given_keeps start old new session keeps =
    ap (λ (number : ℕ). given_by_pass start number session new.seen) keeps.on.number
    ∙ ap (λ (seen : List Record). given_by_pass start old.number session seen) keeps.on.seen
    ∙ given-append start old.number session old.seen keeps.on.more
    ∙ ap (λ (more : List (List Item)). given_by_pass start old.number session old.seen ++ more)
    (given_others (state_after start old.seen) old.number session keeps.on.more keeps.others)
    ∙ append-nil (given_by_pass start old.number session old.seen)

given_one : (state : State) (pass n : ℕ) (made : Record) → made.entry.pass ≡ pass →
    given_by_pass state pass n (made ∷ []) ≡ given_by state n made
given_one state pass n made own = rw (eq-eqb made.entry.pass pass own) (append-nil (given_by state n made))

pub given_adds : (start : State) (old new : PassView) (made : Record) (session : ℕ) →
    (adds : Adds start old new made) →
    given_by_pass start new.number session new.seen
    ≡ given_by_pass start old.number session old.seen
    ++ given_by (state_after start (old.seen ++ adds.between)) session made
given_adds start old new made session adds =
    let history : List Record = old.seen ++ adds.between in
    let before : given_by_pass start old.number session history ≡ given_by_pass start old.number session old.seen =
    given-append start old.number session old.seen adds.between
    ∙ ap (λ (more : List (List Item)). given_by_pass start old.number session old.seen ++ more)
    (given_others (state_after start old.seen) old.number session adds.between adds.others)
    ∙ append-nil (given_by_pass start old.number session old.seen) in
    ap (λ (number : ℕ). given_by_pass start number session new.seen) adds.on.number
    ∙ ap (λ (seen : List Record). given_by_pass start old.number session seen) adds.seen
    ∙ given-append start old.number session history (made ∷ [])
    ∙ ap (λ (first : List (List Item)).
    first ++ given_by_pass (state_after start history) old.number session (made ∷ [])) before
    ∙ ap (λ (last : List (List Item)). given_by_pass start old.number session old.seen ++ last)
    (given_one (state_after start history) old.number session made adds.own)
