-- Two quiet records at one place leave states that are the same for a group, and queue and give its sessions the same.
use Rattle.std.proofs.Common.{◌≡◌, ℕ, Bool, true, false, not, ◌&&◌, Option, Some, None, refl, sym, ap}
use Rattle.std.proofs.Common.{ap₂, ◌∙◌, inl, inr, ◌⊎◌, subst, true≢false}
use Rattle.std.specs.Prelude.{length, is_some}
use Rattle.std.proofs.lemmas.Bool.{cases_Bool, eq-eqb, and_from}
use Rattle.kom_types.specs.declared.acts.Act.{Act}
use Rattle.kom_types.specs.declared.acts.Act.TheVariants as act
use Rattle.kom_types.specs.declared.acts.Entry.{Entry}
use Rattle.kom_types.specs.declared.acts.Record.{Record}
use Rattle.kom_types.specs.declared.calls.Call.{Call}
use Rattle.kom_types.specs.declared.calls.Call.TheVariants as call
use Rattle.kom_types.specs.declared.decisions.Decision.{Decision}
use Rattle.kom_types.specs.declared.texts.NewText.{NewText}
use Rattle.kom_types.specs.Sessions.{waiting_limits}
use Rattle.kom_types.specs.tables.Texts.{lines_of}
use Rattle.kom_model.specs.After.{after, after_act, deliveries, decision_at, moment_of}
use Rattle.kom_model.specs.Db.{Db}
use Rattle.kom_model.specs.Effects.{apply_all}
use Rattle.kom_model.specs.Kinds.{is_among}
use Rattle.kom_model.specs.Out.{queued_for, given_by}
use Rattle.kom_model.specs.State.{State, IsSound}
use Rattle.kom_model.proofs.Changing.{make_changes-rows}
use Rattle.kom_model.proofs.Queueing.{queue_all-rows}
use Rattle.kom_model.proofs.Seating.{of-seats}
use Rattle.kom_laws.specs.Erasing.{erase}
use Rattle.kom_laws.specs.Groups.{Group}
use Rattle.kom_laws.proofs.Kept.{sound-fit}
use Rattle.noninterference.specs.steps.Calls.{record_of_call, IsReadyToCall}
use Rattle.noninterference.specs.steps.Same.{AreOfGroup, IsSameFor}
use Rattle.noninterference.specs.steps.Steps.{HasNoOpening}
use Rattle.noninterference.proofs.steps.Acts.{acts-erased}
use Rattle.noninterference.proofs.steps.Calls.{IsOwn, calls-erased, other-own}
use Rattle.noninterference.specs.respect.Calls.{later}
use Rattle.noninterference.specs.respect.Entries.{makes_text, VanishesFor, VanishAlike}
use Rattle.noninterference.specs.respect.Hidden.{text_of_act, are_as_long, MayDiffer}
use Rattle.noninterference.specs.respect.Quiet.{IsQuiet, AreQuietly, AreHidden, is_accepted}
use Rattle.noninterference.proofs.respect.Entries.{entries-vanish}
use Rattle.noninterference.proofs.respect.Pairs.{texts-vanish}
use Rattle.noninterference.proofs.Given.{waiting-same, given-same, queued-same}
use Rattle.noninterference.proofs.Outside.{outside-same}

-- a new text is as long as itself
itself-as_long : (text : Option NewText) → are_as_long text text ≡ true
itself-as_long None = refl
itself-as_long (Some given) = and_from _ _ (eq-eqb (length given.body) (length given.body) refl)
    (eq-eqb (lines_of given.body) (lines_of given.body) refl)

never : (b : Bool) → (b && false) ≡ false
never true = refl
never false = refl

-- the rows after a call
pub rows-after : (state : State) (pass moment session reference : ℕ) (what : Call) →
    (after state (record_of_call pass moment session reference what)).db
    ≡ apply_all (decision_at state moment session reference what).effects state.db
rows-after state pass moment session reference what =
    let decision : Decision = decision_at state moment session reference what in
    ap (λ (state : State). state.db) (queue_all-rows waiting_limits
    (deliveries state (record_of_call pass moment session reference what))
    (after_act state (record_of_call pass moment session reference what)))
    ∙ ap (λ (state : State). state.db) (make_changes-rows (moment_of state moment) decision.changes
    (record state { db = apply_all decision.effects state.db }))

-- a quiet call may be made, and is no Opening
pub ready-to-call : (group : Group) (state : State) (pass moment session reference number : ℕ) (what : Call) →
    IsSound state → IsQuiet group state (record {
      entry = record { pass = pass; moment = moment; act = act.Call session reference what };
      session = number;
      short = false;
    }) → IsReadyToCall group state moment session reference what
ready-to-call group state pass moment session reference number what sound quiet = record {
  sound = sound;
  ready = record {
    whole = sound.whole;
    protected = sound.protected;
    fit = sound-fit state (record_of_call pass moment session reference what) sound;
    closed = subst (λ (db : Db). HasNoOpening group state.db db) (rows-after state pass moment session reference what)
        quiet.closed;
  };
}

-- both states have the sessions of the group as its own
pub both-of_group : (group : Group) (one other : State) → IsSound one → IsSound other → IsSameFor group one other →
    AreOfGroup group other
both-of_group group one other sound sound' worlds = of-seats (IsOwn group other.db) other.sessions
    (other-own group one other 0 0 0 call.GetTime sound sound' worlds)

-- what a step does to a group in two worlds
pub record StepsAlike (group : Group) (one other : State) (made made' : Record) : Type 0 where
  pub states : erase group (after one made) ≡ erase group (after other made')
  pub queued : (session : ℕ) → is_among group.sessions session ≡ true →
      queued_for session one made ≡ queued_for session other made'
  pub given : (session : ℕ) → is_among group.sessions session ≡ true →
      given_by one session made ≡ given_by other session made'

module _ (group : Group) (one other : State) (sound : IsSound one) (sound' : IsSound other)
    (worlds : IsSameFor group one other) where
  of_group' : AreOfGroup group other
  of_group' = both-of_group group one other sound sound' worlds

  -- ---- two hidden records
  module _ (made made' : Record) (quietly : AreQuietly group one other made made')
      (moment : made.entry.moment ≡ made'.entry.moment)
      (hidden : AreHidden group one other made.entry made'.entry) where
    both-vanish : makes_text one made.entry ≡ false → makes_text other made'.entry ≡ false →
        StepsAlike group one other made made'
    both-vanish textless textless' =
        let gone : VanishesFor group one made = entries-vanish group one made (record {
          sound = sound;
          of_group = worlds.of_group;
          hidden = hidden.0;
          quiet = quietly.first;
          textless = textless;
        }) in
        let gone' : VanishesFor group other made' = entries-vanish group other made' (record {
          sound = sound';
          of_group = of_group';
          hidden = hidden.1;
          quiet = quietly.second;
          textless = textless';
        }) in
        record {
          states = gone.same ∙ ap₂ later moment worlds.same ∙ sym gone'.same;
          queued = λ session among. gone.silent.queued session among ∙ sym (gone'.silent.queued session among);
          given = λ session among. gone.silent.given session among ∙ sym (gone'.silent.given session among);
        }

    textless-by : (state : State) (record' : Record) (text : Option NewText) → text_of_act record'.entry.act ≡ text →
        (is_some text && is_accepted state record'.entry) ≡ false → makes_text state record'.entry ≡ false
    textless-by state record' text is none =
        ap (λ text. is_some text && is_accepted state record'.entry) is ∙ none

    by-texts : (text text' : Option NewText) → text_of_act made.entry.act ≡ text →
        text_of_act made'.entry.act ≡ text' → are_as_long text text' ≡ true → StepsAlike group one other made made'
    by-texts None None is is' long =
        both-vanish (textless-by one made None is refl) (textless-by other made' None is' refl)
    by-texts None (Some given') is is' long = absurd (true≢false (sym long))
    by-texts (Some given) None is is' long = absurd (true≢false (sym long))
    by-texts (Some given) (Some given') is is' long =
        let alike = quietly.texts given given' hidden is is' in
        elim (cases_Bool (is_accepted one made.entry)) [
          | inl accepted ↦
              let gone : VanishAlike group one other made made' =
              texts-vanish group one other made made' given given' (record {
                sound = sound;
                sound' = sound';
                same = worlds;
                moment = moment;
                hidden = hidden;
                quiet = quietly.first;
                quiet' = quietly.second;
                text = is;
                text' = is';
                as_long = long;
                accepted = accepted;
                alike = alike;
              }) in
              record {
                states = gone.states;
                queued = λ session among. gone.silent.queued session among ∙ sym (gone.silent'.queued session among);
                given = λ session among. gone.silent.given session among ∙ sym (gone.silent'.given session among);
              }
          | inr refused ↦ both-vanish
              (textless-by one made (Some given) is refused)
              (textless-by other made' (Some given') is' (sym alike.accepted ∙ refused))
        ]

    pub hidden-step : are_as_long (text_of_act made.entry.act) (text_of_act made'.entry.act) ≡ true →
        StepsAlike group one other made made'
    hidden-step long = by-texts (text_of_act made.entry.act) (text_of_act made'.entry.act) refl refl long

  -- ---- two records of one entry
  module _ (pass moment session session' : ℕ) where
    abbrev made : Act → Record
    made what = record {
      entry = record { pass = pass; moment = moment; act = what };
      session = session;
      short = false;
    }

    abbrev made' : Act → Record
    made' what = record {
      entry = record { pass = pass; moment = moment; act = what };
      session = session';
      short = false;
    }

    from-states : (what : Act) → erase group (after one (made what)) ≡ erase group (after other (made' what)) →
        StepsAlike group one other (made what) (made' what)
    from-states what states = record {
      states = states;
      queued = λ number among. queued-same group one other worlds.same number among pass moment session session' false
          false sound sound' what
          (waiting-same group (after one (made what)) (after other (made' what)) states number among);
      given = λ number among. given-same group one other worlds.same number among pass moment session session' false
          false what;
    }

    call-step : (at reference : ℕ) (what : Call) →
        AreQuietly group one other (made (act.Call at reference what)) (made' (act.Call at reference what)) →
        StepsAlike group one other (made (act.Call at reference what)) (made' (act.Call at reference what))
    call-step at reference what quietly =
        let asked : Act = act.Call at reference what in
        let ready : IsReadyToCall group one moment at reference what =
        ready-to-call group one pass moment at reference session what sound quietly.first in
        let ready' : IsReadyToCall group other moment at reference what =
        ready-to-call group other pass moment at reference session' what sound' quietly.second in
        elim (cases_Bool (is_among group.sessions at)) [
          | inl among ↦ from-states asked
              (calls-erased.own group one other pass moment at reference what ready ready' worlds among)
          | inr outside ↦ elim (quietly.outside refl (ap not outside)) [
            | inl hidden ↦ hidden-step (made asked) (made' asked) quietly refl hidden
                (itself-as_long (text_of_act asked))
            | inr changes ↦ from-states asked (outside-same group one other pass moment at reference what ready ready'
                worlds of_group' outside changes.effects changes.changes)
          ]
        ]

    act-step : (what : Act) → AreQuietly group one other (made what) (made' what) →
        StepsAlike group one other (made what) (made' what)
    act-step (act.Connect user host) quietly = from-states (act.Connect user host)
        (acts-erased.after group one other (made (act.Connect user host)) worlds.same refl)
    act-step (act.Call at reference what) quietly = call-step at reference what quietly
    act-step (act.Broken at) quietly = from-states (act.Broken at)
        (acts-erased.after group one other (made (act.Broken at)) worlds.same refl)
    act-step (act.Drain at) quietly = from-states (act.Drain at)
        (acts-erased.after group one other (made (act.Drain at)) worlds.same refl)
    act-step act.Flush quietly = from-states act.Flush
        (acts-erased.after group one other (made act.Flush) worlds.same refl)
    act-step (act.Close at) quietly = from-states (act.Close at)
        (acts-erased.after group one other (made (act.Close at)) worlds.same refl)

  -- ---- the records of one entry, which are not short
  abbrev record_of : Entry → ℕ → Bool → Record
  record_of entry session short = record { entry = entry; session = session; short = short }

  long-step : (entry : Entry) (session session' : ℕ) (short short' : Bool) → short ≡ false → short' ≡ false →
      AreQuietly group one other (record_of entry session short) (record_of entry session' short') →
      StepsAlike group one other (record_of entry session short) (record_of entry session' short')
  long-step entry session session' false false long long' quietly =
      act-step entry.pass entry.moment session session' entry.act quietly
  long-step entry session session' true short' long long' quietly = absurd (true≢false long)
  long-step entry session session' false true long long' quietly = absurd (true≢false long')

  equal-step : (made made' : Record) → AreQuietly group one other made made' → made.entry ≡ made'.entry →
      StepsAlike group one other made made'
  equal-step made made' quietly equal = subst
      (λ entry. AreQuietly group one other made (record_of entry made'.session made'.short) →
      StepsAlike group one other made (record_of entry made'.session made'.short)) equal
      (λ quietly. long-step made.entry made.session made'.session made.short made'.short quietly.first.long
      quietly.second.long quietly) quietly

  -- ---- two records at one place of lists that are alike
  pub pair-step : (made made' : Record) → AreQuietly group one other made made' →
      made.entry.moment ≡ made'.entry.moment →
      ((made.entry ≡ made'.entry) ⊎ MayDiffer group made.entry.act made'.entry.act) →
      StepsAlike group one other made made'
  pair-step made made' quietly moment differ = elim quietly.hidden [
    | inl equal ↦ equal-step made made' quietly equal
    | inr hidden ↦ hidden-step made made' quietly moment hidden (elim differ [
      | inl equal ↦ ap (λ (entry : Entry). are_as_long (text_of_act made.entry.act) (text_of_act entry.act)) (sym equal)
          ∙ itself-as_long (text_of_act made.entry.act)
      | inr may ↦ may.texts
    ])
  ]
