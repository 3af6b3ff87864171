-- Two texts that are hidden from a group as they are made, and alike as far as it sees them, leave states that are the
-- same for it.
use Rattle.std.proofs.Common.{◌≡◌, ℕ, Bool, true, false, cond, not, ◌==◌, ◌||◌, ◌&&◌, List, [], ◌∷◌, ◌++◌, Some}
use Rattle.std.proofs.Common.{refl, sym, ap, ap₂, ◌∙◌, subst, eqb-true, true≢false, length}
use Rattle.std.specs.Prelude.{map, max}
use Rattle.std.specs.List.{AllByRecursion, filter, list_all}
use Rattle.std.proofs.lemmas.Bool.{and_parts, not-true}
use Rattle.kom_types.specs.declared.acts.Act.{Act}
use Rattle.kom_types.specs.declared.acts.Act.TheVariants as act
use Rattle.kom_types.specs.declared.acts.Record.{Record}
use Rattle.kom_types.specs.declared.calls.Call.{Call}
use Rattle.kom_types.specs.declared.calls.Call.TheVariants as call
use Rattle.kom_types.specs.declared.decisions.Decision.{Decision}
use Rattle.kom_types.specs.declared.effects.ConfField.TheVariants as field
use Rattle.kom_types.specs.declared.effects.Counter.TheVariants as counter
use Rattle.kom_types.specs.declared.effects.Effect.{Effect}
use Rattle.kom_types.specs.declared.effects.Effect.TheVariants as effect
use Rattle.kom_types.specs.declared.seats.Seat.{Seat}
use Rattle.kom_types.specs.declared.texts.MiscInput.{MiscInput}
use Rattle.kom_types.specs.declared.texts.NewText.{NewText}
use Rattle.kom_types.specs.Sessions.{Session}
use Rattle.kom_types.specs.tables.Texts.{lines_of}
use Rattle.kom_model.specs.After.{decision_at, after, moment_of}
use Rattle.kom_model.specs.Db.{Db, next_created_of, next_local_of, next_text_of}
use Rattle.kom_model.specs.Decide.{asked_in}
use Rattle.kom_model.specs.Effects.{all_fit, apply_all, IsProtected}
use Rattle.kom_model.specs.Kinds.{is_among}
use Rattle.kom_model.specs.State.{State, IsSound, seats_of}
use Rattle.kom_model.specs.ToWhom.{sendings, is_refused, of_made}
use Rattle.kom_model.specs.Viewers.{viewer_of}
use Rattle.kom_model.specs.calls.Call.{Asked}
use Rattle.kom_model.specs.calls.Guards.{caller}
use Rattle.kom_model.specs.calls.NewTexts.{names_recipient, names_footnote, item_effect, item_written, author_effects}
use Rattle.kom_model.specs.calls.NewTexts.{text_effects}
use Rattle.kom_model.specs.calls.Sessions.{counts}
use Rattle.kom_model.specs.calls.Texts.{new_recipient}
use Rattle.kom_model.proofs.Protection.{IsProtected-apply_all}
use Rattle.kom_model.proofs.whole.Counts.{all-weaker}
use Rattle.kom_laws.specs.masking.Laws.{HidesMore}
use Rattle.kom_laws.specs.masking.Masks.{masked_db}
use Rattle.kom_laws.specs.Erasing.{erased_db, erase, mask_of}
use Rattle.kom_laws.specs.Groups.{Group, IsOfGroup, is_unseen}
use Rattle.kom_laws.proofs.Calls.{decided-fit}
use Rattle.noninterference.specs.outputs.Brought.{brought_to}
use Rattle.noninterference.proofs.outputs.Masked.{public-masked, conference-masked}
use Rattle.noninterference.specs.steps.Calls.{record_of_call}
use Rattle.noninterference.specs.steps.Same.{AreOfGroup, IsSameFor}
use Rattle.noninterference.specs.steps.Steps.{HasNoOpening}
use Rattle.noninterference.proofs.steps.Agreeing.{all-from}
use Rattle.noninterference.proofs.steps.Below.{unseen-erased, masks-erased, erased-below}
use Rattle.noninterference.proofs.steps.Calls.{IsOwn, all-onto, seats-erased, viewer-erased}
use Rattle.noninterference.specs.respect.Calls.{later}
use Rattle.noninterference.specs.respect.Entries.{IsSilentTo, AreHiddenTexts, VanishAlike, HiddenTextsVanish}
use Rattle.noninterference.specs.respect.Hidden.{is_outside, is_hidden_call, person_at, tells_nothing, text_of_call}
use Rattle.noninterference.specs.respect.Hidden.{text_of_act}
use Rattle.noninterference.specs.respect.Quiet.{recipients_seen}
use Rattle.noninterference.proofs.respect.Entries.{caller-at, nothing-queued}
use Rattle.noninterference.proofs.respect.Running.{left, texts-masked}
use Rattle.noninterference.proofs.respect.Silence.{IsSilent, after-silent, items-none, rows-after}
use Rattle.noninterference.proofs.respect.Texts as Texts
use Rattle.noninterference.proofs.respect.Texts.{accepted-made, text_made, text-untold}
use Rattle.noninterference.proofs.respect.Untold.{none-brought}

-- ---- one world
-- a hidden create-text that is accepted, and no Opening
pub record IsHiddenText (group : Group) (state : State) (pass moment session reference : ℕ) (given : NewText)
    : Type 0 where
  pub sound : IsSound state
  pub of_group : AreOfGroup group state
  pub hidden : (is_outside group state session
      && is_hidden_call group state moment session reference (call.CreateText given)) ≡ true
  pub closed : HasNoOpening group state.db
      (after state (record_of_call pass moment session reference (call.CreateText given))).db
  pub accepted : is_refused (decision_at state moment session reference (call.CreateText given)).reply ≡ false

module _ (group : Group) (state : State) (pass moment session reference : ℕ) (given : NewText)
    (text : IsHiddenText group state pass moment session reference given) where
  abbrev asked : Asked
  asked = asked_in state (moment_of state moment) session reference

  abbrev decision : Decision
  decision = decision_at state moment session reference (call.CreateText given)

  abbrev effects : List Effect
  effects = text_effects asked false (next_text_of state.db) given

  outside-parts : (not (is_among group.sessions session) ≡ true)
      × (not (is_among group.persons (person_at state session)) ≡ true)
  outside-parts = and_parts (not (is_among group.sessions session))
      (not (is_among group.persons (person_at state session)))
      (and_parts (is_outside group state session) _ text.hidden).0

  pub outside : is_among group.persons (caller asked).person ≡ false
  outside = ap (is_among group.persons) (caller-at state.db session state.sessions) ∙ not-true _ outside-parts.1

  pub tells : list_all (tells_nothing group state.db) given.misc_inputs ≡ true
  tells = sym (ap (λ refused. refused || list_all (tells_nothing group state.db) given.misc_inputs) text.accepted)
      ∙ (and_parts (is_outside group state session) _ text.hidden).1

  decided : decision ≡ text_made asked given
  decided = accepted-made asked given text.accepted

  pub text-fits : all_fit effects state.db ≡ true
  text-fits = sym (ap (λ (decision : Decision). all_fit decision.effects state.db) decided)
      ∙ decided-fit asked (call.CreateText given) text.sound.whole text.sound.seated

  pub silent : IsSilent group state moment session reference (call.CreateText given)
  silent = record {
    sound = text.sound;
    of_group = text.of_group;
    outside = outside-parts.0;
    still = ap (λ (decision : Decision). decision.changes) decided;
    silent = λ seat of_group.
        ap (λ decision. brought_to state.db seat (sendings asked (call.CreateText given) decision)) decided
        ∙ none-brought state.db seat group (of_made effects state.db) of_group
        (text-untold group asked given text.sound.whole text.sound.protected outside tells _);
  }

  pub no-opening : HasNoOpening group state.db (apply_all effects state.db)
  no-opening = subst (HasNoOpening group state.db)
      (rows-after group state moment session reference (call.CreateText given) silent pass
      ∙ ap (λ (decision : Decision). apply_all decision.effects state.db) decided) text.closed

  pub after-text : erase group (after state (record_of_call pass moment session reference (call.CreateText given)))
      ≡ record (later moment (erase group state)) { db = erased_db group (apply_all effects state.db) }
  after-text = after-silent group state moment session reference (call.CreateText given) silent pass
      ∙ ap (λ (decision : Decision). record (later moment (erase group state)) {
        db = erased_db group (apply_all decision.effects state.db);
      }) decided

  pub text-silent : (number : ℕ) → IsSilentTo group state (record {
    entry = record { pass = pass; moment = moment; act = act.Call session reference (call.CreateText given) };
    session = number;
    short = false;
  })
  text-silent number = record {
    queued = nothing-queued group state (record {
      entry = record { pass = pass; moment = moment; act = act.Call session reference (call.CreateText given) };
      session = number;
      short = false;
    }) (items-none group state moment session reference (call.CreateText given) silent);
    given = λ session among. refl;
  }

-- ---- two worlds
map-kept : {X Y : Type 0} (make make' : X → Y) (test : X → Bool) →
    ((row : X) → test row ≡ true → make row ≡ make' row) → (rows : List X) →
    map make (filter test rows) ≡ map make' (filter test rows)
map-kept make make' test same [] = refl
map-kept {X} {Y} make make' test same (row ∷ rows) =
    by (test row) (same row) (map-kept make make' test same rows) where
      by : (passes : Bool) → (passes ≡ true → make row ≡ make' row) →
          map make (filter test rows) ≡ map make' (filter test rows) →
          map make (cond passes (row ∷ filter test rows) (filter test rows))
          ≡ map make' (cond passes (row ∷ filter test rows) (filter test rows))
      by true same' rest = ap₂ (λ (first : Y) (others : List Y). first ∷ others) (same' refl) rest
      by false same' rest = rest

module _ (group : Group) (one other : Db) (protected : IsProtected one) (protected' : IsProtected other)
    (same : erased_db group one ≡ erased_db group other) where
  pub next_text-same : next_text_of one ≡ next_text_of other
  next_text-same = sym (public-masked (mask_of group one) one).next_text ∙ ap next_text_of same
      ∙ (public-masked (mask_of group other) other).next_text

  pub next_created-same : (person : ℕ) → next_created_of one person ≡ next_created_of other person
  next_created-same person = sym ((public-masked (mask_of group one) one).next_created person)
      ∙ ap (λ db. next_created_of db person) same ∙ (public-masked (mask_of group other) other).next_created person

  pub next_local-same : (conference : ℕ) → is_unseen group one conference ≡ false →
      next_local_of one conference ≡ next_local_of other conference
  next_local-same conference seen =
      sym (conference-masked (mask_of group one) one conference seen).next_local
      ∙ ap (λ db. next_local_of db conference) same
      ∙ (conference-masked (mask_of group other) other conference
      (sym (unseen-erased group one other protected protected' same conference) ∙ seen)).next_local

module _ (group : Group) (one other : State) (pass pass' moment moment' session session' reference reference' : ℕ)
    (given given' : NewText) (text : IsHiddenText group one pass moment session reference given)
    (text' : IsHiddenText group other pass' moment' session' reference' given')
    (same : erase group one ≡ erase group other) (at : moment ≡ moment')
    (as_long : (length given.body == length given'.body && lines_of given.body == lines_of given'.body) ≡ true)
    (author : person_at one session ≡ person_at other session')
    (recipients : recipients_seen group one.db given ≡ recipients_seen group other.db given') where
  abbrev ones : Asked
  ones = asked_in one (moment_of one moment) session reference

  abbrev others : Asked
  others = asked_in other (moment_of other moment') session' reference'

  abbrev number : ℕ
  number = next_text_of one.db

  abbrev number' : ℕ
  number' = next_text_of other.db

  out : is_among group.persons (caller ones).person ≡ false
  out = outside group one pass moment session reference given text

  out' : is_among group.persons (caller others).person ≡ false
  out' = outside group other pass' moment' session' reference' given' text'

  told_none : list_all (tells_nothing group one.db) given.misc_inputs ≡ true
  told_none = tells group one pass moment session reference given text

  told_none' : list_all (tells_nothing group other.db) given'.misc_inputs ≡ true
  told_none' = tells group other pass' moment' session' reference' given' text'

  -- what is the same in both
  db-same : erased_db group one.db ≡ erased_db group other.db
  db-same = ap (λ (state : State). state.db) same

  masks : mask_of group one.db ≡ mask_of group other.db
  masks = masks-erased group one.db other.db text.sound.protected text'.sound.protected db-same

  moments : moment_of one moment ≡ moment_of other moment'
  moments = λ i. max (same i).moment (at i)

  texts : number ≡ number'
  texts = next_text-same group one.db other.db text.sound.protected text'.sound.protected db-same

  persons : (caller ones).person ≡ (caller others).person
  persons = caller-at one.db session one.sessions ∙ author ∙ sym (caller-at other.db session' other.sessions)

  created : next_created_of one.db (caller ones).person ≡ next_created_of other.db (caller others).person
  created = next_created-same group one.db other.db text.sound.protected text'.sound.protected db-same
      (caller ones).person ∙ ap (next_created_of other.db) persons

  bodies : (length given.body ≡ length given'.body) × (lines_of given.body ≡ lines_of given'.body)
  bodies =
      let parts = and_parts (length given.body == length given'.body) _ as_long in (
        eqb-true (length given.body) (length given'.body) parts.0,
        eqb-true (lines_of given.body) (lines_of given'.body) parts.1,
      )

  item-same : (item : MiscInput) → (names_recipient item && not (is_unseen group one.db item.value)) ≡ true →
      item_effect ones number item ≡ item_effect others number' item
  item-same item is =
      let parts = and_parts (names_recipient item) (not (is_unseen group one.db item.value)) is in
      by (names_recipient item) parts.0 (next_local-same group one.db other.db text.sound.protected
      text'.sound.protected db-same item.value (not-true _ parts.1)) where
        by : (names : Bool) → names ≡ true → next_local_of one.db item.value ≡ next_local_of other.db item.value →
            cond names (effect.RecipientAdded (new_recipient ones number item.value item.tag 0))
            (effect.LinkAdded (record {
              child = number;
              parent = item.value;
              footnote = names_footnote item;
              sender = 0;
              at = ones.moment;
            }))
            ≡ cond names (effect.RecipientAdded (new_recipient others number' item.value item.tag 0))
            (effect.LinkAdded (record {
              child = number';
              parent = item.value;
              footnote = names_footnote item;
              sender = 0;
              at = others.moment;
            }))
        by true is local = λ i. effect.RecipientAdded (record {
          text = texts i;
          conference = item.value;
          tag = item.tag;
          local = local i;
          sender = 0;
          at = moments i;
        })
        by false is local = absurd (true≢false (sym is))

  items-same : map (item_effect ones number) (recipients_seen group one.db given)
      ≡ map (item_effect others number') (recipients_seen group other.db given')
  items-same = map-kept (item_effect ones number) (item_effect others number')
      (λ item. names_recipient item && not (is_unseen group one.db item.value)) item-same given.misc_inputs
      ∙ ap (map (item_effect others number')) recipients

  written-same : map (item_written ones) (recipients_seen group one.db given)
      ≡ map (item_written others) (recipients_seen group other.db given')
  written-same = λ i. map (λ (item : MiscInput). effect.ConfField item.value (field.LastWritten (moments i)))
      (recipients i)

  counted-same : author_effects ones number given.body ≡ author_effects others number' given'.body
  counted-same =
      let lines : lines_of given.body ≡ lines_of given'.body = bodies.1 in
      let bytes : length given.body ≡ length given'.body = bodies.0 in
      λ i. effect.Created (persons i) (created i) (texts i) ∷ counts (persons i) counter.CreatedLines (lines i)
      ++ counts (persons i) counter.CreatedBytes (bytes i)

  -- the effects of which the same is left
  abbrev rest : List Effect
  rest = Texts.rest group ones given text.sound.whole text.sound.protected out told_none

  abbrev rest' : List Effect
  rest' = Texts.rest group others given' text'.sound.whole text'.sound.protected out' told_none'

  rests-same : left (mask_of group one.db) rest ≡ left (mask_of group one.db) rest'
  rests-same =
      let between : map (item_effect ones number) (recipients_seen group one.db given) ++ []
      ++ map (item_written ones) (recipients_seen group one.db given)
      ++ left (mask_of group one.db) (author_effects ones number given.body)
      ≡ map (item_effect others number') (recipients_seen group other.db given') ++ []
      ++ map (item_written others) (recipients_seen group other.db given')
      ++ left (mask_of group other.db) (author_effects others number' given'.body) =
      λ i. items-same i ++ [] ++ written-same i ++ left (masks i) (counted-same i) in
      Texts.rest-left group ones given text.sound.whole text.sound.protected out told_none ∙ between
      ∙ sym (Texts.rest-left group others given' text'.sound.whole text'.sound.protected out' told_none')
      ∙ ap (λ mask. left mask rest') (sym masks)

  before : masked_db (mask_of group one.db) one.db ≡ masked_db (mask_of group one.db) other.db
  before = db-same ∙ ap (λ mask. masked_db mask other.db) (sym masks)

  makes : effect.TextAdded number (caller ones).person ones.moment given'.body
      ≡ effect.TextAdded number' (caller others).person others.moment given'.body
  makes = λ i. effect.TextAdded (texts i) (persons i) (moments i) given'.body

  after-masked : masked_db (mask_of group one.db) (apply_all (text_effects ones false number given) one.db)
      ≡ masked_db (mask_of group one.db) (apply_all (text_effects others false number' given') other.db)
  after-masked = texts-masked (mask_of group one.db) number (caller ones).person ones.moment given.body given'.body
      rest rest' one.db other.db
      (Texts.text-hidden group ones given text.sound.whole text.sound.protected out told_none) rests-same
      (text-fits group one pass moment session reference given text)
      (subst (λ what. all_fit (what ∷ rest') other.db ≡ true) (sym makes)
      (text-fits group other pass' moment' session' reference' given' text')) before
      ∙ ap (λ what. masked_db (mask_of group one.db) (apply_all (what ∷ rest') other.db)) makes

  erased-after : erased_db group (apply_all (text_effects ones false number given) one.db)
      ≡ erased_db group (apply_all (text_effects others false number' given') other.db)
  erased-after = erased-below group (mask_of group one.db) (apply_all (text_effects ones false number given) one.db)
      (apply_all (text_effects others false number' given') other.db)
      (IsProtected-apply_all (text_effects ones false number given) one.db text.sound.protected)
      (IsProtected-apply_all (text_effects others false number' given') other.db text'.sound.protected)
      (Texts.later-hides group ones given text.sound.whole text.sound.protected out told_none
      (text-fits group one pass moment session reference given text)
      (no-opening group one pass moment session reference given text))
      (subst (λ mask. HidesMore mask (mask_of group (apply_all (text_effects others false number' given') other.db)))
      (sym masks)
      (Texts.later-hides group others given' text'.sound.whole text'.sound.protected out' told_none'
      (text-fits group other pass' moment' session' reference' given' text')
      (no-opening group other pass' moment' session' reference' given' text')))
      after-masked

  pub pair-after : erase group (after one (record_of_call pass moment session reference (call.CreateText given)))
      ≡ erase group (after other (record_of_call pass' moment' session' reference' (call.CreateText given')))
  pair-after = after-text group one pass moment session reference given text
      ∙ (λ i. record (later (at i) (same i)) { db = erased-after i })
      ∙ sym (after-text group other pass' moment' session' reference' given' text')

-- ---- the sessions of the group are its own in both worlds
pub own-turned : (group : Group) (one other : State) → IsSameFor group one other → AreOfGroup group other
own-turned group one other worlds =
    let seats : seats_of one ≡ seats_of other = sym (seats-erased group one.sessions)
    ∙ ap (λ (state : State). map (λ (session : Session). session.seat) state.sessions) worlds.same
    ∙ seats-erased group other.sessions in
    let viewers : (seat : Seat) → viewer_of one.db seat ≡ viewer_of other.db seat =
    λ seat. sym (viewer-erased group one.db seat)
    ∙ ap (λ (state : State). viewer_of state.db seat) worlds.same ∙ viewer-erased group other.db seat in
    all-from (IsOwn group other.db) (λ (session : Session). session.seat) other.sessions
    (subst (λ seats. AllByRecursion (IsOwn group other.db) seats) seats
    (all-weaker (IsOwn group one.db) (IsOwn group other.db)
    (λ seat own among. subst (λ viewer. IsOfGroup group viewer) (viewers seat) (own among)) (seats_of one)
    (all-onto (IsOwn group one.db) (λ (session : Session). session.seat) one.sessions worlds.of_group)))

-- ---- acts
abbrev made_at : ℕ → ℕ → ℕ → ℕ → ℕ → NewText → Record
made_at pass moment number session reference given = record {
  entry = record { pass = pass; moment = moment; act = act.Call session reference (call.CreateText given) };
  session = number;
  short = false;
}

call-text : (what : Call) (given : NewText) → text_of_call what ≡ Some given → what ≡ call.CreateText given
call-text (call.CreateText made) given is = let same : made ≡ given = cc in ap call.CreateText same
call-text other given is = cc

-- an act that makes the text
act-text : (what : Act) (given : NewText) → text_of_act what ≡ Some given →
    (session : ℕ) × (reference : ℕ) × (what ≡ act.Call session reference (call.CreateText given))
act-text (act.Connect user host) given is = cc
act-text (act.Call session reference what) given is =
    (session, reference, ap (act.Call session reference) (call-text what given is))
act-text (act.Broken session) given is = cc
act-text (act.Drain session) given is = cc
act-text act.Flush given is = cc
act-text (act.Close session) given is = cc

is-made : (made : Record) (session reference : ℕ) (given : NewText) →
    made.entry.act ≡ act.Call session reference (call.CreateText given) → made.short ≡ false →
    made ≡ made_at made.entry.pass made.entry.moment made.session session reference given
is-made made session reference given acts long = λ i. record {
  entry = record { pass = made.entry.pass; moment = made.entry.moment; act = acts i };
  session = made.session;
  short = long i;
}

module _ (group : Group) (one other : State) (pass pass' moment moment' number number' session session' reference
    reference' : ℕ) (given given' : NewText) where
  abbrev made : Record
  made = made_at pass moment number session reference given

  abbrev made' : Record
  made' = made_at pass' moment' number' session' reference' given'

  pair-vanishes : AreHiddenTexts group one other made made' given given' → VanishAlike group one other made made'
  pair-vanishes texts =
      let text : IsHiddenText group one pass moment session reference given = record {
        sound = texts.sound;
        of_group = texts.same.of_group;
        hidden = texts.hidden.0;
        closed = texts.quiet.closed;
        accepted = not-true _ texts.accepted;
      } in
      let text' : IsHiddenText group other pass' moment' session' reference' given' = record {
        sound = texts.sound';
        of_group = own-turned group one other texts.same;
        hidden = texts.hidden.1;
        closed = texts.quiet'.closed;
        accepted = not-true _ (sym texts.alike.accepted ∙ texts.accepted);
      } in
      record {
        states = pair-after group one other pass pass' moment moment' session session' reference reference' given given'
            text text' texts.same.same texts.moment texts.as_long (texts.alike.author texts.accepted)
            (texts.alike.recipients texts.accepted);
        silent = text-silent group one pass moment session reference given text number;
        silent' = text-silent group other pass' moment' session' reference' given' text' number';
      }

pub texts-vanish : HiddenTextsVanish
texts-vanish group one other made made' given given' texts =
    let acts = act-text made.entry.act given texts.text in
    let acts' = act-text made'.entry.act given' texts.text' in
    let first : made ≡ made_at made.entry.pass made.entry.moment made.session acts.0 acts.1 given =
    is-made made acts.0 acts.1 given acts.2 texts.quiet.long in
    let second : made' ≡ made_at made'.entry.pass made'.entry.moment made'.session acts'.0 acts'.1 given' =
    is-made made' acts'.0 acts'.1 given' acts'.2 texts.quiet'.long in
    let by : AreHiddenTexts group one other made made' given given' → VanishAlike group one other made made' =
    subst (λ made. AreHiddenTexts group one other made made' given given' → VanishAlike group one other made made')
    (sym first)
    (subst (λ made'. AreHiddenTexts group one other
    (made_at made.entry.pass made.entry.moment made.session acts.0 acts.1 given) made' given given'
    → VanishAlike group one other
    (made_at made.entry.pass made.entry.moment made.session acts.0 acts.1 given) made') (sym second)
    (pair-vanishes group one other made.entry.pass made'.entry.pass made.entry.moment made'.entry.moment made.session
    made'.session acts.0 acts'.0 acts.1 acts'.1 given given')) in
    by texts
