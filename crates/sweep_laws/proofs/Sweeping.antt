-- A whole sweep: exactly the texts go that were due.
use Rattle.std.proofs.Common.{◌≡◌, ℕ, ◌+◌, ◌-◌, ◌<◌, ◌==◌, Bool, true, false, cond, not, ◌&&◌, List, [], ◌∷◌}
use Rattle.std.proofs.Common.{◌++◌, Option, refl, sym, ap, ap₂, ◌∙◌, subst, inl, inr, true≢false, arith}
use Rattle.std.proofs.Common.{length, append_assoc, append-nil, eqb-true, is_some}
use Rattle.std.specs.Prelude.{map, flat_map, filter}
use Rattle.std.specs.List.{AllByRecursion}
use Rattle.std.proofs.lemmas.Bool.{cases_Bool, or_from, and_parts}
use Rattle.std.proofs.lemmas.Grind.{flat_map-append}
use Rattle.std.proofs.lemmas.List.{length-map}
use Rattle.std.proofs.lemmas.List.Filters.{length-filter_both}
use Rattle.row_table.specs.Tables.{AllAbove, IsByNumber, row_of}
use Rattle.kom_types.specs.declared.acts.Record.{Record}
use Rattle.kom_types.specs.declared.calls.Call.{Call}
use Rattle.kom_types.specs.declared.calls.Call.TheVariants as call
use Rattle.kom_types.specs.declared.errors.TheConstants as error
use Rattle.kom_types.specs.declared.replies.Reply.{Reply}
use Rattle.kom_types.specs.declared.texts.TextRow.{TextRow}
use Rattle.kom_types.specs.tables.Texts.{number_of_text}
use Rattle.kom_model.specs.Db.{Db, text_of}
use Rattle.kom_model.specs.Kinds.{is_among}
use Rattle.kom_model.specs.Legal.{IsLegal, state_after}
use Rattle.kom_model.specs.State.{State, IsSound}
use Rattle.kom_model.specs.Whole.{IsWhole}
use Rattle.kom_sweep.specs.Due.{Step, Walk, Room, Look, has_owner}
use Rattle.kom_sweep.specs.Replies.{is_refused, is_short, has_code, refusal_in, conference_in}
use Rattle.kom_sweep.specs.Sweeps.{Findings, told_findings, told_entry, swept_in, due}
use Rattle.kom_sweep.specs.Told.{Told, tell}
use Rattle.kom_sweep.specs.Walks.{told_rooms, told_texts, told_deletions, told_at_room, told_at_text}
use Rattle.kom_sweep.specs.Walks.{told_child}
use Rattle.sweep_laws.specs.Due.{AreNumbered, due_texts}
use Rattle.sweep_laws.specs.Leaving.{is_swept_call, is_other_call, deleted_in, deleted_along}
use Rattle.sweep_laws.specs.Swept.{SweptLeaves, NoneIsTooLong, told_along, IsOf}
use Rattle.sweep_laws.specs.Told.{is_curbed, IsToldOf}
use Rattle.sweep_laws.specs.Without.{IsWithout, stays}
use Rattle.sweep_laws.proofs.Along.{history-leaves}
use Rattle.sweep_laws.proofs.Found.{all-both, all-weaker, all-found}
use Rattle.sweep_laws.proofs.Judged.{IsThere, there-positive, all-unmapped, all-mapped, due-is-told, due-rows, due_by}
use Rattle.sweep_laws.proofs.Kept.{filter-alike}
use Rattle.sweep_laws.proofs.Left.{leaves-rest}
use Rattle.sweep_laws.proofs.Others.{as-without, stay}
use Rattle.sweep_laws.proofs.Phases.{Split, split, synced, walks-told, Stands, IsGood, is_query, IsDeletable, acts-pass}
use Rattle.sweep_laws.proofs.Phases.{deletions-accepted, deleted-told, deleted_told, legal-apart, others-along}
use Rattle.sweep_laws.proofs.Staying.{is_quiet}
use Rattle.sweep_laws.proofs.Strong.{all-kept, filter-true}
use Rattle.sweep_laws.proofs.Walked.{all-apart, all-joined, among-rows, filter-named}

-- ---- the calls
all-flat-from : {X Y : Type 0} (P : Y → Type 0) (f : X → List Y) → ((x : X) → AllByRecursion P (f x)) →
    (xs : List X) → AllByRecursion P (flat_map f xs)
all-flat-from P f each [] = tt
all-flat-from P f each (x ∷ xs) = all-joined P (f x) (flat_map f xs) (each x) (all-flat-from P f each xs)

abbrev IsQuery : Told → Type 0
IsQuery one = is_query one.call ≡ true

room-queries : (step : Step Room) → AllByRecursion IsQuery (told_at_room step)
room-queries step = (refl, (refl, owner (has_owner (conference_in step.told.conference)))) where
  owner : (has : Bool) → AllByRecursion IsQuery
      (cond has (tell (call.GetPersonStat step.number) step.told.owner ∷ []) [])
  owner true = (refl, tt)
  owner false = tt

rooms-queries : (rooms : Walk Room) → AllByRecursion IsQuery (told_rooms rooms)
rooms-queries rooms = all-joined IsQuery (flat_map told_at_room rooms.steps)
    (tell (call.FindNextConfNo rooms.at) rooms.last ∷ [])
    (all-flat-from IsQuery told_at_room room-queries rooms.steps) (refl, tt)

children-queries : (children : List (ℕ × Option Reply)) → AllByRecursion IsQuery (map told_child children)
children-queries [] = tt
children-queries ((child, answer) ∷ children) = (refl, children-queries children)

texts-queries : (texts : Walk Look) → AllByRecursion IsQuery (told_texts texts)
texts-queries texts = all-joined IsQuery (flat_map told_at_text texts.steps)
    (tell (call.FindNextTextNo texts.at) texts.last ∷ [])
    (all-flat-from IsQuery told_at_text (λ step. (refl, (refl, children-queries step.told.children))) texts.steps)
    (refl, tt)

query-none : (what : Call) → is_query what ≡ true → deleted_in what ≡ []
query-none (call.DeleteText text) is = absurd (true≢false (sym is))
query-none other is = refl

query-swept : (what : Call) → is_query what ≡ true → is_swept_call what ≡ true
query-swept (call.DeleteText text) is = refl
query-swept other is = (and_parts (is_quiet other) (is_other_call other) is).1

deletions-swept : (gone : List (ℕ × Option Reply)) →
    AllByRecursion (λ one. is_swept_call one.call ≡ true) (told_deletions gone)
deletions-swept [] = tt
deletions-swept ((text, answer) ∷ gone) = (refl, deletions-swept gone)

none-deleted : (calls : List Told) → AllByRecursion (λ one. deleted_in one.call ≡ []) calls →
    flat_map deleted_told calls ≡ []
none-deleted [] all = refl
none-deleted (one ∷ calls) all = elim (cases_Bool (is_refused one.reply)) [
  | inl refused ↦ rw refused (none-deleted calls all.1)
  | inr accepted ↦ rw accepted (rw (all.0) (none-deleted calls all.1))
]

all-deleted : (gone : List (ℕ × Option Reply)) → AllByRecursion (λ one. is_refused one.1 ≡ false) gone →
    flat_map deleted_told (told_deletions gone) ≡ map (λ one. one.0) gone
all-deleted [] all = refl
all-deleted ((text, answer) ∷ gone) all = rw (all.0) (ap (λ rest. text ∷ rest) (all-deleted gone all.1))

gone-uncurbed : (gone : List (ℕ × Option Reply)) →
    AllByRecursion (λ one. is_curbed one.reply ≡ false) (told_deletions gone) →
    AllByRecursion (λ one. is_curbed one.1 ≡ false) gone
gone-uncurbed [] all = tt
gone-uncurbed ((text, answer) ∷ gone) all = (all.0, gone-uncurbed gone all.1)

-- ---- numbers that rise
module _ {R : Type 0} (number_of : R → ℕ) where
  above-map : (number : ℕ) (rows : List R) → AllAbove number_of number rows →
      AllAbove (λ n. n) number (map number_of rows)
  above-map number [] above = tt
  above-map number (row ∷ rows) above = (above.0, above-map number rows above.1)

  rising-map : (rows : List R) → IsByNumber number_of rows → IsByNumber (λ n. n) (map number_of rows)
  rising-map [] rising = tt
  rising-map (row ∷ rows) rising = (above-map (number_of row) rows rising.0, rising-map rows rising.1)

  above-unmap : (number : ℕ) (rows : List R) → AllAbove (λ n. n) number (map number_of rows) →
      AllAbove number_of number rows
  above-unmap number [] above = tt
  above-unmap number (row ∷ rows) above = (above.0, above-unmap number rows above.1)

  rising-unmap : (rows : List R) → IsByNumber (λ n. n) (map number_of rows) → IsByNumber number_of rows
  rising-unmap [] rising = tt
  rising-unmap (row ∷ rows) rising = (above-unmap (number_of row) rows rising.0, rising-unmap rows rising.1)

  rising-kept : (keep : R → Bool) (rows : List R) → IsByNumber number_of rows → IsByNumber number_of (filter keep rows)
  rising-kept keep [] rising = tt
  rising-kept keep (row ∷ rows) rising = elim (cases_Bool (keep row)) [
    | inl keeps ↦ rw keeps (
      all-kept (λ one. number_of row < number_of one) keep rows rising.0,
      rising-kept keep rows rising.1,
    )
    | inr drops ↦ rw drops (rising-kept keep rows rising.1)
  ]

-- ---- the texts that are due
due-named : (db : Db) (moment : ℕ) → IsWhole db →
    due_texts db moment ≡ filter (due_by db moment) (map (λ row. row.number) db.texts)
due-named db moment whole = sym (due-rows db moment whole)

due-rising : (db : Db) (moment : ℕ) → IsWhole db → IsByNumber (λ n. n) (due_texts db moment)
due-rising db moment whole = rw (due-named db moment whole)
    (rising-kept (λ n. n) (due_by db moment) (map (λ (row : TextRow). row.number) db.texts)
    (rising-map number_of_text db.texts whole.texts.rising))

due-there : (db : Db) (moment : ℕ) → IsWhole db → AllByRecursion (IsThere db) (due_texts db moment)
unfolding text_of
due-there db moment whole = rw (due-named db moment whole)
    (all-kept (IsThere db) (due_by db moment) (map (λ (row : TextRow). row.number) db.texts)
    (all-mapped (IsThere db) number_of_text db.texts (all-found number_of_text db.texts)))

among-kept : (test : ℕ → Bool) (numbers : List ℕ) (number : ℕ) →
    is_among (filter test numbers) number ≡ (test number && is_among numbers number)
among-kept test [] number = nothing (test number) where
  nothing : (b : Bool) → false ≡ (b && false)
  nothing true = refl
  nothing false = refl
among-kept test (first ∷ numbers) number =
    let rest = among-kept test numbers number in
    elim (cases_Bool (first == number)) [
      | inl here ↦
          let same : first ≡ number = eqb-true first number here in
          elim (cases_Bool (test number)) [
            | inl keeps ↦
                let kept : test first ≡ true = ap test same ∙ keeps in rw (kept, here, keeps) refl
            | inr drops ↦
                let dropped : test first ≡ false = ap test same ∙ drops in
                rw (dropped, drops) (rest ∙ ap (λ b. b && is_among numbers number) drops)
          ]
      | inr there ↦ elim (cases_Bool (test first)) [
        | inl keeps ↦ rw (keeps, there) rest
        | inr drops ↦ rw (drops, there) rest
      ]
    ]

-- a text stays unless it is due
stays-undue : (db : Db) (moment : ℕ) → IsWhole db →
    AllByRecursion (λ row. stays (due_texts db moment) row.number ≡ not (due_by db moment row.number)) db.texts
stays-undue db moment whole = all-weaker
    (λ (row : TextRow). is_some (row_of number_of_text row.number db.texts) ≡ true)
    (λ row. stays (due_texts db moment) row.number ≡ not (due_by db moment row.number))
    (λ row there. ap not (ap (λ (numbers : List ℕ). is_among numbers row.number) (due-named db moment whole)
    ∙ among-kept (due_by db moment) (map (λ (row : TextRow). row.number) db.texts) row.number
    ∙ ap (λ (b : Bool). due_by db moment row.number && b) (among-rows number_of_text db.texts row.number ∙ there)
    ∙ and-true (due_by db moment row.number))) db.texts (all-found number_of_text db.texts) where
      and-true : (b : Bool) → (b && true) ≡ b
      and-true true = refl
      and-true false = refl

-- those that pass a test and those that do not are all
both-lengths : {X : Type 0} (test : X → Bool) (rows : List X) →
    length (filter (λ row. not (test row)) rows) + length (filter test rows) ≡ length rows
both-lengths test rows =
    omega (arith, length-filter_both test (λ row. not (test row)) (λ row. refl) rows)

due-length : (db : Db) (moment : ℕ) → IsWhole db →
    length (filter (λ row. stays (due_texts db moment) row.number) db.texts) + length (due_texts db moment)
    ≡ length db.texts
due-length db moment whole =
    ap₂ (λ (undue due : ℕ). undue + due)
    (ap (λ (rows : List TextRow). length rows) (filter-alike (λ row. stays (due_texts db moment) row.number)
    (λ row. not (due_by db moment row.number)) db.texts (stays-undue db moment whole)))
    (ap (λ (numbers : List ℕ). length numbers) (due-named db moment whole
    ∙ sym (filter-named number_of_text (λ row. due_by db moment row.number) (due_by db moment) db.texts
    (alls db.texts)))
    ∙ length-map (filter (λ (row : TextRow). due_by db moment row.number) db.texts) number_of_text)
    ∙ both-lengths (λ (row : TextRow). due_by db moment row.number) db.texts where
      alls : (rows : List TextRow) →
          AllByRecursion (λ row. due_by db moment row.number ≡ due_by db moment row.number) rows
      alls [] = tt
      alls (row ∷ rows) = (refl, alls rows)

-- ---- the parts of the history
record Part (session : ℕ) (state : State) (history : List Record) : Type 0 where
  legal : IsLegal state history
  of : AllByRecursion (IsOf session) history

part-apart : (session : ℕ) (state : State) (history : List Record) (xs ys : List Told)
    (parts : Split state history xs ys) → Part session state history →
    Part session state parts.first × Part session (state_after state parts.first) parts.second
part-apart session state history xs ys parts part =
    let legal = legal-apart state parts.first parts.second
    (subst (IsLegal state) parts.whole part.legal) in
    let of = all-apart (IsOf session) parts.first parts.second
    (subst (AllByRecursion (IsOf session)) parts.whole part.of) in
    (record { legal = legal.0; of = of.0 }, record { legal = legal.1; of = of.1 })

-- what holds of the first calls holds of all that the first part tells, and the other way round
first-from : (P : Told → Type 0) (state : State) (history : List Record) (xs ys : List Told)
    (parts : Split state history xs ys) → AllByRecursion P xs → AllByRecursion P (told_along state parts.first)
first-from P state history xs ys parts all = subst (AllByRecursion P) (sym parts.told_first) all

first-to : (P : Told → Type 0) (state : State) (history : List Record) (xs ys : List Told)
    (parts : Split state history xs ys) → AllByRecursion P (told_along state parts.first) → AllByRecursion P xs
first-to P state history xs ys parts all = subst (AllByRecursion P) parts.told_first all

-- what is known once all texts were walked over
record Known (session : ℕ) (state : State) (found : Findings) (gone : List (ℕ × Option Reply)) (last : List Told)
    : Type 0 where
  now : State
  rest : List Record
  stands : Stands session state.db now
  part : Part session now rest
  rooms : AllByRecursion (IsToldOf state.db) (told_rooms found.rooms)
  texts : AllByRecursion (IsToldOf state.db) (told_texts found.texts)
  told : told_along now rest ≡ told_deletions gone ++ last

abbrev Uncurbed : Told → Type 0
Uncurbed one = is_curbed one.reply ≡ false

known : (session person : ℕ) (password : List ℕ) (state : State) (history : List Record) (found : Findings)
    (gone : List (ℕ × Option Reply)) (last : List Told) → IsSound state → Part session state history →
    is_refused found.entry.stable ≡ false → AllByRecursion Uncurbed (told_rooms found.rooms ++ told_texts found.texts) →
    told_along state history ≡ told_findings person password found ++ told_deletions gone ++ last →
    Known session state found gone last
known session person password state history found gone last sound part stable uncurbed is =
    let walks : List Told = told_rooms found.rooms ++ told_texts found.texts in
    let login : Told = tell (call.Login person password false) found.entry.login in
    let rights : Told = tell (call.Enable 255) found.entry.rights in
    let sync : Told = tell call.SyncKom found.entry.stable in
    let one = split state history (login ∷ rights ∷ []) (sync ∷ (walks ++ (told_deletions gone ++ last)))
    (is ∙ ap (λ (rest : List Told). login ∷ rights ∷ sync ∷ rest) (append_assoc walks (told_deletions gone) last)) in
    let part1 = part-apart session state history _ _ one part in
    let state1 : State = state_after state one.first in
    let entered = others-along state.db state one.first sound
    (as-without state.db state.db (stay state.db)) part1.0.legal
    (acts-pass is_other_call state one.first (first-from (λ (one : Told). is_other_call one.call ≡ true) state history
    (login ∷ rights ∷ []) (sync ∷ (walks ++ (told_deletions gone ++ last))) one (refl, (refl, tt)))) in
    let two = split state1 one.second (sync ∷ []) (walks ++ (told_deletions gone ++ last)) one.told_second in
    let part2 = part-apart session state1 one.second _ _ two part1.1 in
    let state2 : State = state_after state1 two.first in
    let stands2 : Stands session state.db state2 =
    synced session state.db state1 two.first found.entry.stable entered.0 entered.1 part2.0.legal part2.0.of
    two.told_first stable in
    let three = split state2 two.second walks (told_deletions gone ++ last) two.told_second in
    let part3 = part-apart session state2 two.second _ _ three part2.1 in
    let good : AllByRecursion IsGood walks =
    all-both IsQuery Uncurbed IsGood (λ one query uncurbed. (query, uncurbed)) walks
    (all-joined IsQuery (told_rooms found.rooms) (told_texts found.texts) (rooms-queries found.rooms)
    (texts-queries found.texts)) uncurbed in
    let walked = walks-told session state.db state2 three.first stands2 part3.0.legal part3.0.of
    (first-from IsGood state2 two.second walks (told_deletions gone ++ last) three good) in
    let told = all-apart (IsToldOf state.db) (told_rooms found.rooms) (told_texts found.texts)
    (first-to (IsToldOf state.db) state2 two.second walks (told_deletions gone ++ last) three walked.0) in
    record {
      now = state_after state2 three.first;
      rest = three.second;
      stands = walked.1;
      part = part3.1;
      rooms = told.0;
      texts = told.1;
      told = three.told_second;
    }

-- no deletion is refused
accepted : (session moment : ℕ) (state : State) (found : Findings) (gone : List (ℕ × Option Reply)) (last : List Told) →
    IsSound state → AreNumbered state.db → Known session state found gone last →
    AllByRecursion Uncurbed (told_deletions gone) → map (λ one. one.0) gone ≡ due_texts state.db moment →
    AllByRecursion (λ one. is_refused one.1 ≡ false) gone
accepted session moment state found gone last sound numbered known uncurbed are =
    let one = split known.now known.rest (told_deletions gone) last known.told in
    let part = part-apart session known.now known.rest _ _ one known.part in
    let there : AllByRecursion (λ one. IsThere state.db one.0) gone =
    all-unmapped (IsThere state.db) (λ (one : ℕ × Option Reply). one.0) gone
    (subst (AllByRecursion (IsThere state.db)) (sym are) (due-there state.db moment sound.whole)) in
    deletions-accepted session known.now one.first gone known.stands.sound known.stands.holds part.0.legal part.0.of
    one.told_first (gone-uncurbed gone uncurbed)
    (rising-unmap (λ (one : ℕ × Option Reply). one.0) gone
    (subst (IsByNumber (λ n. n)) (sym are) (due-rising state.db moment sound.whole)))
    (all-weaker (λ (one : ℕ × Option Reply). IsThere state.db one.0) (IsDeletable known.now.db) (λ one here. (
      there-positive state.db numbered one.0 here,
      ap (λ (found : Option TextRow). is_some found)
          (leaves-rest.left [] state.db known.now.db one.0 known.stands.rows refl).row ∙ here,
    )) gone there)

-- ---- the whole
uncurbed-all : (calls : List Told) → AllByRecursion (λ one. is_short one.reply ≡ false) calls → NoneIsTooLong calls →
    AllByRecursion Uncurbed calls
uncurbed-all calls sound lines = all-both (λ (one : Told). is_short one.reply ≡ false)
    (λ one. has_code error.LONG_ARRAY (refusal_in one.reply) ≡ false) Uncurbed
    (λ one short long. or_from (is_short one.reply) (has_code error.LONG_ARRAY (refusal_in one.reply)) short long)
    calls sound lines

pub all-swept : (person : ℕ) (password : List ℕ) (found : Findings) (gone : List (ℕ × Option Reply))
    (logout : Option Reply) → AllByRecursion (λ one. is_swept_call one.call ≡ true)
    (told_findings person password found ++ told_deletions gone ++ tell call.Logout logout ∷ [])
all-swept person password found gone logout =
    let P : Told → Type 0 = λ one. is_swept_call one.call ≡ true in
    all-joined P (told_findings person password found ++ told_deletions gone) (tell call.Logout logout ∷ [])
    (all-joined P (told_findings person password found) (told_deletions gone)
    (all-joined P (told_entry person password found.entry ++ told_rooms found.rooms) (told_texts found.texts)
    (all-joined P (told_entry person password found.entry) (told_rooms found.rooms) (refl, (refl, (refl, tt)))
    (all-weaker IsQuery P (λ one is. query-swept one.call is) (told_rooms found.rooms) (rooms-queries found.rooms)))
    (all-weaker IsQuery P (λ one is. query-swept one.call is) (told_texts found.texts) (texts-queries found.texts)))
    (deletions-swept gone)) (refl, tt)

findings-delete : (person : ℕ) (password : List ℕ) (found : Findings) →
    flat_map deleted_told (told_findings person password found) ≡ []
findings-delete person password found =
    let P : Told → Type 0 = λ one. deleted_in one.call ≡ [] in
    none-deleted (told_findings person password found)
    (all-joined P (told_entry person password found.entry ++ told_rooms found.rooms) (told_texts found.texts)
    (all-joined P (told_entry person password found.entry) (told_rooms found.rooms) (refl, (refl, (refl, tt)))
    (all-weaker IsQuery P (λ one is. query-none one.call is) (told_rooms found.rooms) (rooms-queries found.rooms)))
    (all-weaker IsQuery P (λ one is. query-none one.call is) (told_texts found.texts) (texts-queries found.texts)))

-- the texts that went are those of the deletions
deleted-are : (person : ℕ) (password : List ℕ) (state : State) (history : List Record) (found : Findings)
    (gone : List (ℕ × Option Reply)) (logout : Option Reply) →
    told_along state history
    ≡ told_findings person password found ++ told_deletions gone ++ tell call.Logout logout ∷ [] →
    AllByRecursion (λ one. is_refused one.1 ≡ false) gone →
    deleted_along state history ≡ map (λ one. one.0) gone
deleted-are person password state history found gone logout is accepted =
    deleted-told state history
    ∙ ap (flat_map deleted_told) is
    ∙ flat_map-append deleted_told (told_findings person password found ++ told_deletions gone)
    (tell call.Logout logout ∷ [])
    ∙ ap₂ (λ (first last : List ℕ). first ++ last)
    (flat_map-append deleted_told (told_findings person password found) (told_deletions gone)
    ∙ ap₂ (λ (first last : List ℕ). first ++ last) (findings-delete person password found) (all-deleted gone accepted))
    (none-deleted (tell call.Logout logout ∷ []) (refl, tt))
    ∙ append-nil (map (λ (one : ℕ × Option Reply). one.0) gone)

all-accepted : (gone : List (ℕ × Option Reply)) → AllByRecursion (λ one. is_refused one.1 ≡ false) gone →
    swept_in gone ≡ length (map (λ one. one.0) gone)
all-accepted gone accepted =
    ap (λ (rows : List (ℕ × Option Reply)). length rows) (filter-true (λ one. not (is_refused one.1)) gone
    (all-weaker (λ (one : ℕ × Option Reply). is_refused one.1 ≡ false) (λ one. not (is_refused one.1) ≡ true)
    (λ one is. ap not is) gone accepted))
    ∙ sym (length-map gone (λ (one : ℕ × Option Reply). one.0))

pub swept-leaves : SweptLeaves
swept-leaves state history session moment person password swept kept sound numbered legal of is lines =
    let found : Findings = is.found in
    let all : AllByRecursion Uncurbed (told_along state history) =
    uncurbed-all (told_along state history) is.sound lines in
    let apart = all-apart Uncurbed (told_findings person password found ++ told_deletions is.gone)
    (tell call.Logout is.logout ∷ []) (subst (AllByRecursion Uncurbed) is.are all) in
    let apart2 = all-apart Uncurbed (told_findings person password found) (told_deletions is.gone) apart.0 in
    let apart3 = all-apart Uncurbed (told_entry person password found.entry ++ told_rooms found.rooms)
    (told_texts found.texts) apart2.0 in
    let apart4 = all-apart Uncurbed (told_entry person password found.entry) (told_rooms found.rooms) apart3.0 in
    let now = known session person password state history found is.gone (tell call.Logout is.logout ∷ []) sound
    (record { legal = legal; of = of }) is.is_found.stable
    (all-joined Uncurbed (told_rooms found.rooms) (told_texts found.texts) apart4.1 apart3.1) is.are in
    let are : map (λ one. one.0) is.gone ≡ due_texts state.db moment =
    is.are_due ∙ due-is-told.due state.db moment found.rooms found.texts sound.whole numbered is.is_found.rooms
    is.is_found.texts now.rooms now.texts in
    let accepts = accepted session moment state found is.gone (tell call.Logout is.logout ∷ []) sound numbered now
    apart2.1 are in
    let rows : IsWithout (due_texts state.db moment) state.db (state_after state history).db =
    subst (λ (gone : List ℕ). IsWithout gone state.db (state_after state history).db)
    (deleted-are person password state history found is.gone is.logout is.are accepts ∙ are)
    (history-leaves state history sound legal (acts-pass is_swept_call state history
    (subst (AllByRecursion (λ one. is_swept_call one.call ≡ true)) (sym is.are)
    (all-swept person password found is.gone is.logout)))) in
    let gone : swept ≡ length (due_texts state.db moment) =
    is.swept ∙ all-accepted is.gone accepts ∙ ap (λ (numbers : List ℕ). length numbers) are in
    let steps : length found.texts.steps ≡ length state.db.texts =
    sym (length-map found.texts.steps (λ (step : Step Look). step.number))
    ∙ ap (λ (numbers : List ℕ). length numbers) (due-is-told.texts state.db found.texts sound.whole numbered
    is.is_found.texts now.texts) ∙ length-map state.db.texts (λ (row : TextRow). row.number) in
    let left : length (state_after state history).db.texts
    ≡ length (filter (λ row. stays (due_texts state.db moment) row.number) state.db.texts) =
    ap (λ (db : Db). length db.texts) rows.rows in
    let sum = due-length state.db moment sound.whole in
    let counted : kept ≡ length found.texts.steps - swept = is.kept in
    record {
      rows = rows;
      gone = gone;
      left = kept-left kept swept (length found.texts.steps) (length state.db.texts)
          (length (due_texts state.db moment))
          (length (filter (λ (row : TextRow). stays (due_texts state.db moment) row.number) state.db.texts))
          (length (state_after state history).db.texts) counted gone steps sum left;
    } where
      kept-left : (kept swept steps texts due undue left : ℕ) → kept ≡ steps - swept → swept ≡ due → steps ≡ texts →
          undue + due ≡ texts → left ≡ undue → kept ≡ left
      kept-left kept swept steps texts due undue left one two three four five = omega arith
