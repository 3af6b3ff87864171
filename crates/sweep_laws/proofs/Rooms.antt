-- What a walk over the conferences tells: whom letterboxes belong to, the days, and what is named.
use Rattle.std.proofs.Common.{◌≡◌, ℕ, ◌==◌, ◌<◌, ◌≤◌, Bool, true, false, cond, not, ◌||◌, ◌&&◌, List, [], ◌∷◌}
use Rattle.std.proofs.Common.{Option, Some, None, is_some, refl, sym, ap, ◌∙◌, subst, inl, inr, eqb-true}
use Rattle.std.specs.Prelude.{map, option_map, flat_map, IfSome, IsTrue, if◌then◌else◌}
use Rattle.std.specs.List.{AllByRecursion, find, list_all, list_any}
use Rattle.std.specs.Option.{option_or}
use Rattle.std.specs.Cmp.{both_ways}
use Rattle.std.proofs.lemmas.Bool.{cases_Bool}
use Rattle.kom_types.specs.declared.calls.Call.TheVariants as call
use Rattle.kom_types.specs.declared.conferences.Conference.{Conference}
use Rattle.kom_types.specs.declared.conferences.ConferenceRow.{ConferenceRow}
use Rattle.kom_types.specs.declared.persons.Person.{Person}
use Rattle.kom_types.specs.declared.persons.PersonRow.{PersonRow}
use Rattle.kom_types.specs.declared.replies.Reply.TheVariants as reply
use Rattle.kom_types.specs.tables.Conferences.{number_of_conference, is_letterbox}
use Rattle.kom_types.specs.tables.Persons.{number_of_person}
use Rattle.kom_model.specs.Db.{Db, conference_of, conferences_of, person_of}
use Rattle.kom_model.specs.Kinds.{is_among}
use Rattle.kom_model.specs.Whole.{IsWhole, has_letterbox}
use Rattle.kom_laws.proofs.masking.Rows.{told}
use Rattle.kom_sweep.specs.Due.{Step, Walk, Room, has_owner, conference_names, person_names, names, is_named}
use Rattle.kom_sweep.specs.Due.{is_told_room, is_whole, days_of, days_at, days_in, is_faq}
use Rattle.kom_sweep.specs.Replies.{conference_in, person_in, is_last_conference}
use Rattle.kom_sweep.specs.Told.{tell}
use Rattle.kom_sweep.specs.Walks.{IsRoomWalk, told_rooms, told_at_room, told_owner}
use Rattle.sweep_laws.specs.Due.{has_owners, is_named_by, is_named_text}
use Rattle.sweep_laws.specs.Told.{IsToldOf}
use Rattle.sweep_laws.proofs.Found.{all-both, all-weaker, any-passes, found-any, found-holds, found-says, map-map}
use Rattle.sweep_laws.proofs.Found.{some-map}
use Rattle.sweep_laws.proofs.Replies.{Core, core_of, core_at, area_of, conference-told, next-conference-told}
use Rattle.sweep_laws.proofs.Replies.{last-conference-told, person-told}
use Rattle.sweep_laws.proofs.Walked.{all-apart, all-flat, all-named, any-named, all-rows, among-rows, none-next}
use Rattle.sweep_laws.proofs.Walked.{steps-positive, walked-all, next_in}

-- ---- what a step tells
record RoomTold (db : Db) (step : Step Room) : Type 0 where
  core : option_map core_of (conference_in step.told.conference)
      ≡ option_map (core_at db) (conference_of db step.number)
  owner : has_owner (conference_in step.told.conference) ≡ true →
      option_map (λ (person : Person). person.user_area) (person_in step.told.owner) ≡ area_of db step.number

room-told : (db : Db) (step : Step Room) → 0 < step.number → AllByRecursion (IsToldOf db) (told_at_room step) →
    RoomTold db step
room-told db step positive all = record {
  core = conference-told db step.number step.told.conference positive all.1.0;
  owner = λ has. person-told db step.number step.told.owner positive (asked has all.1.1);
} where
  asked : has_owner (conference_in step.told.conference) ≡ true →
      AllByRecursion (IsToldOf db) (told_owner step.number step.told) →
      IsToldOf db (tell (call.GetPersonStat step.number) step.told.owner)
  asked has owner =
      let one : AllByRecursion (IsToldOf db) (tell (call.GetPersonStat step.number) step.told.owner ∷ []) =
      rw has at owner in
      one.0

-- ---- by the number of a conference
-- a conference of which no more is told than this
abbrev pub conference_of_core : Core → Conference
conference_of_core core = record {
  name = [];
  kind = core.kind;
  created = 0;
  last_written = 0;
  creator = 0;
  presentation = core.presentation;
  supervisor = 0;
  submitters = 0;
  super_conference = 0;
  motd = core.motd;
  nice = core.nice;
  keep_commented = core.keep_commented;
  members = 0;
  first_local = 0;
  texts = 0;
  expire = core.expire;
  aux_items = core.aux_items;
}

-- what is taken of a conference, as its days, by its number
abbrev pub taken_by : {D : Type 0} → (Conference → D) → Db → ℕ → Option D
taken_by take db number = option_map (λ row. take (conference_of_core (core_at db row))) (conference_of db number)

-- its person is there, if it is a letterbox
abbrev owned_by : Db → ℕ → Bool
owned_by db number =
    told false (λ (row : ConferenceRow). not (is_letterbox row.kind) || is_some (area_of db number))
    (conference_of db number)

-- its person names a text, if it is a letterbox
abbrev owner_names : Db → ℕ → ℕ → ConferenceRow → Bool
owner_names db text number row =
    if is_letterbox row.kind then told false (λ area. area == text) (area_of db number) else false

-- it names a text, or its person does
abbrev named_by : Db → ℕ → ℕ → Bool
named_by db text number =
    told false (λ (row : ConferenceRow). is_named_by db text row || owner_names db text number row)
    (conference_of db number)

person-named : (text : ℕ) (found : Option Person) →
    person_names text found
    ≡ told false (λ area. area == text) (option_map (λ (person : Person). person.user_area) found)
person-named text None = refl
person-named text (Some person) = refl

names-as : (db : Db) (text : ℕ) (conference : Option Conference) (row : Option ConferenceRow) (owner : Option Person)
    (area : Option ℕ) → option_map core_of conference ≡ option_map (core_at db) row →
    (has_owner conference ≡ true → option_map (λ (person : Person). person.user_area) owner ≡ area) →
    (conference_names text conference || person_names text (if has_owner conference then owner else None))
    ≡ told false (λ (row : ConferenceRow). is_named_by db text row
    || (if is_letterbox row.kind then told false (λ area. area == text) area else false)) row
names-as db text None None owner area same owned = refl
names-as db text None (Some row) owner area same owned = cc
names-as db text (Some conference) None owner area same owned = cc
names-as db text (Some conference) (Some row) owner area same owned =
    let core : core_of conference ≡ core_at db row = cc same in
    let named : conference_names text (Some conference) ≡ is_named_by db text row =
    ap (λ (core : Core). (core.presentation == text) || ((core.motd == text)
    || list_any (is_faq text) core.aux_items)) core in
    let kind : is_letterbox conference.kind ≡ is_letterbox row.kind =
    ap (λ (core : Core). is_letterbox core.kind) core in
    elim (cases_Bool (is_letterbox row.kind)) [
      | inl letter ↦
          let is : is_letterbox conference.kind ≡ true = kind ∙ letter in
          rw (named, is, letter) (ap (λ (b : Bool). is_named_by db text row || b)
          (person-named text owner ∙ ap (told false (λ area. area == text)) (owned is)))
      | inr other ↦
          let is : is_letterbox conference.kind ≡ false = kind ∙ other in
          rw (named, is, other) refl
    ]

names-told : (db : Db) (text : ℕ) (step : Step Room) → RoomTold db step →
    names text step ≡ named_by db text step.number
names-told db text step is = names-as db text (conference_in step.told.conference) (conference_of db step.number)
    (person_in step.told.owner) (area_of db step.number) is.core is.owner

owned-as : (db : Db) (conference : Option Conference) (row : Option ConferenceRow) (owner : Option Person)
    (area : Option ℕ) → option_map core_of conference ≡ option_map (core_at db) row →
    (has_owner conference ≡ true → option_map (λ (person : Person). person.user_area) owner ≡ area) →
    told false (λ (conference : Conference). not (is_letterbox conference.kind) || is_some owner) conference
    ≡ told false (λ (row : ConferenceRow). not (is_letterbox row.kind) || is_some area) row
owned-as db None None owner area same owned = refl
owned-as db None (Some row) owner area same owned = cc
owned-as db (Some conference) None owner area same owned = cc
owned-as db (Some conference) (Some row) owner area same owned =
    let core : core_of conference ≡ core_at db row = cc same in
    let kind : is_letterbox conference.kind ≡ is_letterbox row.kind =
    ap (λ (core : Core). is_letterbox core.kind) core in
    elim (cases_Bool (is_letterbox row.kind)) [
      | inl letter ↦
          let is : is_letterbox conference.kind ≡ true = kind ∙ letter in
          rw (is, letter) (sym (some-map (λ (person : Person). person.user_area) owner)
          ∙ ap (λ (found : Option ℕ). is_some found) (owned is))
      | inr other ↦
          let is : is_letterbox conference.kind ≡ false = kind ∙ other in
          rw (is, other) refl
    ]

owned-told : (db : Db) (step : Step Room) → RoomTold db step → is_told_room step ≡ owned_by db step.number
owned-told db step is = owned-as db (conference_in step.told.conference) (conference_of db step.number)
    (person_in step.told.owner) (area_of db step.number) is.core is.owner

-- ---- the days of all
or-none : {X : Type 0} (found : Option X) → option_or found None ≡ found
or-none None = refl
or-none (Some x) = refl

or-same : {X : Type 0} (b : Bool) (found : Option X) → option_or (cond b found None) found ≡ found
or-same true None = refl
or-same true (Some x) = refl
or-same false found = refl

some-there : {X Y : Type 0} (take : X → Y) (found : Option X) →
    cond (is_some found) (option_map take found) None ≡ option_map take found
some-there take None = refl
some-there take (Some row) = refl

module _ {D : Type 0} (take : Conference → D)
    (by_core : (conference : Conference) → take conference ≡ take (conference_of_core (core_of conference))) where
  taken-told : (db : Db) (step : Step Room) → RoomTold db step →
      option_map take (conference_in step.told.conference) ≡ taken_by take db step.number
  taken-told db step is =
      same-taken (conference_in step.told.conference)
      ∙ sym (map-map core_of (λ core. take (conference_of_core core)) (conference_in step.told.conference))
      ∙ ap (option_map (λ core. take (conference_of_core core))) is.core
      ∙ map-map (core_at db) (λ core. take (conference_of_core core)) (conference_of db step.number) where
        same-taken : (found : Option Conference) → option_map take found
            ≡ option_map (λ conference. take (conference_of_core (core_of conference))) found
        same-taken None = refl
        same-taken (Some conference) = ap (λ (taken : D). Some taken) (by_core conference)

  -- what was taken last of a conference along these steps
  taken_in : List (Step Room) → ℕ → Option D
  taken_in [] number = None
  taken_in (step ∷ steps) number = option_or (taken_in steps number)
      (if step.number == number then option_map take (conference_in step.told.conference) else None)

  taken-among : (db : Db) (number : ℕ) (steps : List (Step Room)) → AllByRecursion (RoomTold db) steps →
      taken_in steps number
      ≡ cond (is_among (map (λ step. step.number) steps) number) (taken_by take db number) None
  unfolding taken_in
  taken-among db number [] all = refl
  taken-among db number (step ∷ steps) all =
      let rest = taken-among db number steps all.1 in
      elim (cases_Bool (step.number == number)) [
        | inl here ↦
            let same : taken_by take db step.number ≡ taken_by take db number =
            ap (taken_by take db) (eqb-true step.number number here) in
            rw here (rw (rest, taken-told db step all.0, same)
            (or-same (is_among (map (λ (step : Step Room). step.number) steps) number) (taken_by take db number)))
        | inr there ↦ rw there (or-none (taken_in steps number) ∙ rest)
      ]

days-taken : (number : ℕ) (steps : List (Step Room)) →
    days_in steps number ≡ taken_in days_of (λ conference. refl) steps number
unfolding taken_in
days-taken number [] = refl
days-taken number (step ∷ steps) = ap (λ found. option_or found (days_at step number)) (days-taken number steps)

-- ---- who is named by all
any-or : {X : Type 0} (one other : X → Bool) (rows : List X) →
    list_any (λ row. one row || other row) rows ≡ (list_any one rows || list_any other rows)
any-or one other [] = refl
any-or one other (row ∷ rows) = rw (any-or one other rows)
    (apart (one row) (other row) (list_any one rows) (list_any other rows)) where
      apart : (a b c d : Bool) → ((a || b) || (c || d)) ≡ ((a || c) || (b || d))
      apart true b c d = refl
      apart false true true d = refl
      apart false true false d = refl
      apart false false c d = refl

module _ (db : Db) (whole : IsWhole db) where
  conference-rows : AllByRecursion (λ row. conference_of db row.number ≡ Some row) db.conferences
  unfolding conference_of
  conference-rows = all-rows number_of_conference db.conferences whole.conferences.rising

  person-rows : AllByRecursion (λ row. person_of db row.number ≡ Some row) db.persons
  unfolding person_of
  person-rows = all-rows number_of_person db.persons whole.persons.rising

  -- what a letterbox's person names, a person names
  owner-names : (text : ℕ) → list_any (λ row. owner_names db text row.number row) db.conferences ≡ true →
      list_any (λ row. row.user_area == text) db.persons ≡ true
  unfolding person_of
  owner-names text is =
      let one = any-passes (λ (row : ConferenceRow). Unit {0}) (λ row. owner_names db text row.number row)
      db.conferences (all-weaker (λ (row : ConferenceRow). conference_of db row.number ≡ Some row) (λ row. Unit {0})
      (λ row here. tt) db.conferences conference-rows) is in
      let area = found-says (λ area. area == text) (area_of db one.0.number) (owned one.0 one.2) in
      let found = person-found (person_of db one.0.number) area.0 area.1 in
      let holds : (found.0.user_area == text) ≡ true =
      ap (λ n. n == text) {x = found.0.user_area} found.2 ∙ area.2 in
      found-any (λ row. number_of_person row == one.0.number) (λ row. row.user_area == text) db.persons found.0 found.1
      holds where
        owned : (row : ConferenceRow) → owner_names db text row.number row ≡ true →
            told false (λ area. area == text) (area_of db row.number) ≡ true
        owned row = by (is_letterbox row.kind) (told false (λ area. area == text) (area_of db row.number)) where
          by : (letter names : Bool) → (if letter then names else false) ≡ true → names ≡ true
          by true names is = is
          by false names is = cc

        person-found : (found : Option PersonRow) (area : ℕ) →
            option_map (λ (row : PersonRow). row.user_area) found ≡ Some area →
            (row : PersonRow) × (found ≡ Some row) × (row.user_area ≡ area)
        person-found None area is = cc
        person-found (Some row) area is = (row, refl, cc is)

  -- and the other way round, since each person has its letterbox
  person-names : (text : ℕ) → list_any (λ row. row.user_area == text) db.persons ≡ true →
      list_any (λ row. owner_names db text row.number row) db.conferences ≡ true
  unfolding conference_of
  person-names text is =
      let both = all-both (λ (row : PersonRow). person_of db row.number ≡ Some row)
      (λ row. IsTrue (has_letterbox db.conferences row.number))
      (λ row. (person_of db row.number ≡ Some row) × IsTrue (has_letterbox db.conferences row.number))
      (λ row here housed. (here, housed)) db.persons person-rows whole.persons.housed in
      let one = any-passes
      (λ (row : PersonRow). (person_of db row.number ≡ Some row) × IsTrue (has_letterbox db.conferences row.number))
      (λ row. row.user_area == text) db.persons both is in
      let box = found-says (λ (row : ConferenceRow). is_letterbox row.kind)
      (find (λ row. number_of_conference row == one.0.number) db.conferences) one.1.1 in
      let at = found-holds (λ (row : ConferenceRow). conference_of db row.number ≡ Some row)
      (λ row. number_of_conference row == one.0.number) db.conferences conference-rows box.0 box.1 in
      let same : box.0.number ≡ one.0.number = eqb-true box.0.number one.0.number at.1 in
      let area : area_of db box.0.number ≡ Some one.0.user_area =
      ap (area_of db) same ∙ ap (option_map (λ (row : PersonRow). row.user_area)) one.1.0 in
      let holds : told false (λ area. area == text) (area_of db box.0.number) ≡ true =
      ap (told false (λ area. area == text)) area ∙ one.2 in
      let names : owner_names db text box.0.number box.0 ≡ true = rw (box.2) holds in
      found-any (λ row. number_of_conference row == one.0.number) (λ row. owner_names db text row.number row)
      db.conferences box.0 box.1 names

  areas-named : (text : ℕ) → list_any (λ row. owner_names db text row.number row) db.conferences
      ≡ list_any (λ row. row.user_area == text) db.persons
  areas-named text = both_ways (list_any (λ row. owner_names db text row.number row) db.conferences)
      (list_any (λ row. row.user_area == text) db.persons) (owner-names text) (person-names text)

  -- each test by the number of a conference is that of its row
  owned-rows : AllByRecursion (λ row. (not (is_letterbox row.kind) || is_some (person_of db row.number))
      ≡ owned_by db row.number) db.conferences
  owned-rows = all-weaker (λ (row : ConferenceRow). conference_of db row.number ≡ Some row)
      (λ row. (not (is_letterbox row.kind) || is_some (person_of db row.number)) ≡ owned_by db row.number)
      (λ row here.
      ap (λ (b : Bool). not (is_letterbox row.kind) || b)
      (sym (some-map (λ (row : PersonRow). row.user_area) (person_of db row.number)))
      ∙ ap (told false (λ (one : ConferenceRow). not (is_letterbox one.kind) || is_some (area_of db row.number)))
      (sym here)) db.conferences conference-rows

  named-rows : (text : ℕ) → AllByRecursion (λ row. (is_named_by db text row || owner_names db text row.number row)
      ≡ named_by db text row.number) db.conferences
  named-rows text = all-weaker (λ (row : ConferenceRow). conference_of db row.number ≡ Some row)
      (λ row. (is_named_by db text row || owner_names db text row.number row) ≡ named_by db text row.number)
      (λ row here.
      ap (told false (λ (one : ConferenceRow). is_named_by db text one || owner_names db text row.number one))
      (sym here)) db.conferences conference-rows

  conferences-all : conferences_of db ≡ db.conferences
  unfolding conferences_of
  conferences-all = refl

  module _ (rooms : Walk Room) (is : IsRoomWalk rooms) (all : AllByRecursion (IsToldOf db) (told_rooms rooms)) where
    last-told : IsToldOf db (tell (call.FindNextConfNo rooms.at) rooms.last)
    last-told = (all-apart (IsToldOf db) (flat_map told_at_room rooms.steps)
        (tell (call.FindNextConfNo rooms.at) rooms.last ∷ []) all).1.0

    steps-told : AllByRecursion (λ step. AllByRecursion (IsToldOf db) (told_at_room step)) rooms.steps
    steps-told = all-flat (IsToldOf db) told_at_room rooms.steps (all-apart (IsToldOf db)
        (flat_map told_at_room rooms.steps) (tell (call.FindNextConfNo rooms.at) rooms.last ∷ []) all).0

    rooms-told : AllByRecursion (RoomTold db) rooms.steps
    rooms-told = all-both (λ (step : Step Room). 0 < step.number)
        (λ step. AllByRecursion (IsToldOf db) (told_at_room step)) (RoomTold db)
        (λ step positive told. room-told db step positive told) rooms.steps
        (steps-positive 0 rooms.at rooms.steps is.leads) steps-told

    ended : IfSome (next_in number_of_conference db.conferences rooms.at) (λ number. number ≤ rooms.at)
    ended = subst (λ (found : Option ℕ). IfSome found (λ number. number ≤ rooms.at))
        (next-conference-told db rooms.at rooms.last last-told) is.end

    pub rooms-numbers : map (λ step. step.number) rooms.steps ≡ map number_of_conference db.conferences
    rooms-numbers = walked-all number_of_conference db.conferences rooms.at rooms.steps whole.conferences.rising
        whole.conferences.positive is.leads
        (all-weaker (λ (step : Step Room). AllByRecursion (IsToldOf db) (told_at_room step))
        (λ step. Some step.number ≡ next_in number_of_conference db.conferences step.after)
        (λ step told. next-conference-told db step.after (Some (reply.Number step.number)) told.0) rooms.steps
        steps-told) ended

    pub whole-told : is_whole rooms ≡ has_owners db
    whole-told =
        let last : is_last_conference rooms.last ≡ true = last-conference-told db rooms.at rooms.last last-told
        (none-next number_of_conference db.conferences rooms.at ended) in
        let steps : list_all is_told_room rooms.steps ≡ has_owners db =
        all-named (λ (step : Step Room). step.number) is_told_room (owned_by db) rooms.steps
        (all-weaker (RoomTold db) (λ step. is_told_room step ≡ owned_by db step.number) (owned-told db) rooms.steps
        rooms-told)
        ∙ ap (list_all (owned_by db)) rooms-numbers
        ∙ sym (all-named number_of_conference
        (λ row. not (is_letterbox row.kind) || is_some (person_of db row.number)) (owned_by db) db.conferences
        owned-rows)
        ∙ ap (list_all (λ (row : ConferenceRow). not (is_letterbox row.kind) || is_some (person_of db row.number)))
        (sym conferences-all) in
        rw (steps, last) (and-true (has_owners db)) where
          and-true : (b : Bool) → (b && true) ≡ b
          and-true true = refl
          and-true false = refl

    pub named-told : (text : ℕ) → is_named rooms.steps text ≡ is_named_text db text
    named-told text =
        any-named (λ (step : Step Room). step.number) (names text) (named_by db text) rooms.steps
        (all-weaker (RoomTold db) (λ step. names text step ≡ named_by db text step.number) (names-told db text)
        rooms.steps rooms-told)
        ∙ ap (list_any (named_by db text)) rooms-numbers
        ∙ sym (any-named number_of_conference
        (λ row. is_named_by db text row || owner_names db text row.number row) (named_by db text) db.conferences
        (named-rows text))
        ∙ any-or (is_named_by db text) (λ row. owner_names db text row.number row) db.conferences
        ∙ ap (λ (b : Bool). list_any (is_named_by db text) db.conferences || b) (areas-named text)
        ∙ ap (λ (rows : List ConferenceRow). list_any (is_named_by db text) rows
        || list_any (λ (row : PersonRow). row.user_area == text) db.persons) (sym conferences-all)

    pub all-days-told : (number : ℕ) → days_in rooms.steps number ≡ taken_by days_of db number
    unfolding conference_of
    all-days-told number =
        days-taken number rooms.steps
        ∙ taken-among days_of (λ conference. refl) db number rooms.steps rooms-told
        ∙ ap (λ (there : Bool). cond there (taken_by days_of db number) None)
        (ap (λ (numbers : List ℕ). is_among numbers number) rooms-numbers
        ∙ among-rows number_of_conference db.conferences number)
        ∙ some-there (λ row. days_of (conference_of_core (core_at db row))) (conference_of db number)
