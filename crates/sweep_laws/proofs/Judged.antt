-- Which texts are due by the replies of both walks: those that are by the rows.
use Rattle.std.proofs.Common.{◌≡◌, ℕ, ◌==◌, ◌<◌, ◌≤◌, Bool, true, false, cond, not, ◌||◌, ◌&&◌, List, [], ◌∷◌, ◌++◌}
use Rattle.std.proofs.Common.{Option, Some, None, is_some, refl, sym, ap, ap₂, ◌∙◌, subst, inl, inr, eq-eqb, eqb-true}
use Rattle.std.proofs.Common.{ne_eqb}
use Rattle.std.proofs.Common.{nat_lt, length, arith, true≢false}
use Rattle.std.specs.Prelude.{map, option_map, flat_map, filter_map, IfSome, if◌then◌else◌}
use Rattle.std.specs.List.{AllByRecursion, filter, list_all, list_any}
use Rattle.std.proofs.lemmas.Bool.{cases_Bool}
use Rattle.std.proofs.lemmas.List.{length-map}
use Rattle.std.proofs.lemmas.List.Folds.{list_all-map}
use Rattle.kom_types.specs.declared.calls.Call.TheVariants as call
use Rattle.kom_types.specs.declared.conferences.ConferenceRow.{ConferenceRow}
use Rattle.kom_types.specs.declared.replies.Reply.{Reply}
use Rattle.kom_types.specs.declared.replies.Reply.TheVariants as reply
use Rattle.kom_types.specs.declared.texts.Recipient.{Recipient}
use Rattle.kom_types.specs.declared.texts.TextLink.{TextLink}
use Rattle.kom_types.specs.declared.texts.TextRow.{TextRow}
use Rattle.kom_types.specs.declared.texts.TextStat.{TextStat}
use Rattle.kom_types.specs.Bits.{alike}
use Rattle.kom_types.specs.tables.Texts.{number_of_text}
use Rattle.kom_model.specs.Db.{Db, conference_of, text_of, texts_of, marks_on, items_of, links_into, recipients_of}
use Rattle.kom_model.specs.Shown.{told_count}
use Rattle.kom_model.specs.Whole.{IsWhole}
use Rattle.kom_laws.proofs.masking.Rows.{told}
use Rattle.kom_sweep.specs.Due.{Step, Walk, Room, Look, is_due, is_due_by, is_whole, is_named, is_held, is_told}
use Rattle.kom_sweep.specs.Due.{lets_go}
use Rattle.kom_sweep.specs.Due.{all_let_go, are_older, is_older, children_of, recipient_in, child_in, days_in}
use Rattle.kom_sweep.specs.Due.{conference_lets_go}
use Rattle.kom_sweep.specs.Due as Due
use Rattle.kom_sweep.specs.Replies.{stat_in}
use Rattle.kom_sweep.specs.Told.{tell}
use Rattle.kom_sweep.specs.Walks.{IsRoomWalk, IsTextWalk, IsLook, told_rooms, told_texts, told_at_text, told_child}
use Rattle.sweep_laws.specs.Due.{has_owners, is_named_text, is_due_row, due_texts, AreNumbered, releases, all_release}
use Rattle.sweep_laws.specs.Due.{conference_releases, comments_to, is_older_text, days_kept, age_of}
use Rattle.sweep_laws.specs.Told.{IsToldOf, stat_in_full, infos_of, DueIsTold}
use Rattle.sweep_laws.proofs.Found.{all-both, all-weaker, found-holds, cases_Option, told-map, told-alike}
use Rattle.sweep_laws.proofs.Found.{some-map}
use Rattle.sweep_laws.proofs.Linked.{children-told, recipients-told, any-kept}
use Rattle.sweep_laws.proofs.Replies.{stat-told, next-text-told}
use Rattle.sweep_laws.proofs.Replies.{core_at}
use Rattle.sweep_laws.proofs.Rooms.{whole-told, named-told, all-days-told, taken_by, conference_of_core}
use Rattle.sweep_laws.proofs.Strong.{all-kept}
use Rattle.sweep_laws.proofs.Walked.{all-apart, all-flat, all-named, all-rows, filter-named, steps-positive, walked-all}
use Rattle.sweep_laws.proofs.Walked.{next_in, all-joined}

-- ---- what a step tells
abbrev stat_by : Db → ℕ → Option TextStat
stat_by db text = option_map (stat_in_full db) (text_of db text)

record LookTold (db : Db) (step : Step Look) : Type 0 where
  stat : stat_in step.told.stat ≡ stat_by db step.number
  children : AllByRecursion (λ one. stat_in one.1 ≡ stat_by db one.0) step.told.children
  are : IsLook step.told

-- a text of these rows is there, and so its number is positive
abbrev pub IsThere : Db → ℕ → Type 0
IsThere db text = is_some (text_of db text) ≡ true

pub there-positive : (db : Db) → AreNumbered db → (text : ℕ) → IsThere db text → 0 < text
unfolding text_of
there-positive db numbered text there = elim (cases_Option (text_of db text)) [
  | inl none ↦ absurd (true≢false (sym there ∙ ap (λ (found : Option TextRow). is_some found) none))
  | inr (row, found) ↦
      let holds = found-holds (λ (row : TextRow). 0 < row.number) (λ row. number_of_text row == text) db.texts numbered
      row found in
      let at : row.number ≡ text = eqb-true row.number text holds.1 in
      let positive : 0 < row.number = holds.0 in
      omega arith
]

-- comments and footnotes are there
linked-there : (db : Db) → IsWhole db → (text : ℕ) (footnote : Bool) →
    AllByRecursion (λ row. IsThere db row.child) (links_into db text footnote)
unfolding links_into text_of
linked-there db whole text footnote = all-kept (λ (row : TextLink). IsThere db row.child)
    (λ row. row.parent == text && alike row.footnote footnote) db.links whole.links.child_there

pub all-mapped : {X Y : Type 0} (P : Y → Type 0) (f : X → Y) (xs : List X) → AllByRecursion (λ x. P (f x)) xs →
    AllByRecursion P (map f xs)
all-mapped P f [] all = tt
all-mapped P f (x ∷ xs) all = (all.0, all-mapped P f xs all.1)

pub all-unmapped : {X Y : Type 0} (P : Y → Type 0) (f : X → Y) (xs : List X) → AllByRecursion P (map f xs) →
    AllByRecursion (λ x. P (f x)) xs
all-unmapped P f [] all = tt
all-unmapped P f (x ∷ xs) all = (all.0, all-unmapped P f xs all.1)

comments-there : (db : Db) → IsWhole db → (text : ℕ) → AllByRecursion (IsThere db) (comments_to db text)
comments-there db whole text = all-mapped (IsThere db) (λ (row : TextLink). row.child)
    (links_into db text false ++ links_into db text true)
    (all-joined (λ (row : TextLink). IsThere db row.child) (links_into db text false) (links_into db text true)
    (linked-there db whole text false) (linked-there db whole text true))

row-at : (db : Db) (text : ℕ) (row : TextRow) → text_of db text ≡ Some row → row.number ≡ text
unfolding text_of
row-at db text row found = eqb-true row.number text (found-holds (λ (row : TextRow). Unit {0})
    (λ row. number_of_text row == text) db.texts (all-units db.texts) row found).1 where
      all-units : (rows : List TextRow) → AllByRecursion (λ row. Unit {0}) rows
      all-units [] = tt
      all-units (row ∷ rows) = (tt, all-units rows)

-- the comments and footnotes of a text that was told, or none
children-of : (db : Db) → IsWhole db → (text : ℕ) (stat : Option TextStat) → stat ≡ stat_by db text →
    AllByRecursion (IsThere db) (children_of stat)
children-of db whole text stat is = elim (cases_Option (text_of db text)) [
  | inl none ↦
      let nothing : stat ≡ None = is ∙ ap (option_map (stat_in_full db)) none in
      rw nothing tt
  | inr (row, found) ↦
      let one : stat ≡ Some (stat_in_full db row) = is ∙ ap (option_map (stat_in_full db)) found in
      rw (one, children-told db row.number) (comments-there db whole row.number)
]

module _ (db : Db) (whole : IsWhole db) (numbered : AreNumbered db) where
  look-told : (step : Step Look) → 0 < step.number → IsLook step.told →
      AllByRecursion (IsToldOf db) (told_at_text step) → LookTold db step
  look-told step positive are all =
      let stat : stat_in step.told.stat ≡ stat_by db step.number =
      stat-told db step.number step.told.stat positive all.1.0 in
      let there : AllByRecursion (λ one. IsThere db one.0) step.told.children =
      all-unmapped (IsThere db) (λ (one : ℕ × Option Reply). one.0) step.told.children
      (subst (AllByRecursion (IsThere db)) (sym are)
      (children-of db whole step.number (stat_in step.told.stat) stat)) in
      record {
        stat = stat;
        children = all-both (λ (one : ℕ × Option Reply). IsThere db one.0) (λ one. IsToldOf db (told_child one))
            (λ one. stat_in one.1 ≡ stat_by db one.0)
            (λ one there told. stat-told db one.0 one.1 (there-positive db numbered one.0 there) told)
            step.told.children there (all-unmapped (IsToldOf db) told_child step.told.children all.1.1);
        are = are;
      }

-- ---- the walk
module _ (db : Db) (whole : IsWhole db) (numbered : AreNumbered db) (texts : Walk Look) (is : IsTextWalk texts)
    (all : AllByRecursion (IsToldOf db) (told_texts texts)) where
  text-last-told : IsToldOf db (tell (call.FindNextTextNo texts.at) texts.last)
  text-last-told = (all-apart (IsToldOf db) (flat_map told_at_text texts.steps)
      (tell (call.FindNextTextNo texts.at) texts.last ∷ []) all).1.0

  text-steps-told : AllByRecursion (λ step. AllByRecursion (IsToldOf db) (told_at_text step)) texts.steps
  text-steps-told = all-flat (IsToldOf db) told_at_text texts.steps (all-apart (IsToldOf db)
      (flat_map told_at_text texts.steps) (tell (call.FindNextTextNo texts.at) texts.last ∷ []) all).0

  looks-told : AllByRecursion (LookTold db) texts.steps
  looks-told = all-both (λ (step : Step Look). (0 < step.number) × IsLook step.told)
      (λ step. AllByRecursion (IsToldOf db) (told_at_text step)) (LookTold db)
      (λ step known told. look-told db whole numbered step known.0 known.1 told) texts.steps
      (all-both (λ (step : Step Look). 0 < step.number) (λ step. IsLook step.told)
      (λ step. (0 < step.number) × IsLook step.told) (λ step positive are. (positive, are)) texts.steps
      (steps-positive 0 texts.at texts.steps is.leads) is.looks) text-steps-told

  pub texts-numbers : map (λ step. step.number) texts.steps ≡ map (λ row. row.number) db.texts
  texts-numbers = walked-all number_of_text db.texts texts.at texts.steps whole.texts.rising numbered is.leads
      (all-weaker (λ (step : Step Look). AllByRecursion (IsToldOf db) (told_at_text step))
      (λ step. Some step.number ≡ next_in number_of_text db.texts step.after)
      (λ step told. next-text-told db step.after (Some (reply.Number step.number)) told.0) texts.steps
      text-steps-told)
      (subst (λ (found : Option ℕ). IfSome found (λ number. number ≤ texts.at))
      (next-text-told db texts.at texts.last text-last-told) is.end)

-- ---- one text
-- none is counted where none is told
count-none : (count : ℕ) → (told_count count == 0) ≡ (count == 0)
count-none count = elim (cases_Bool (count == 0)) [
  | inl none ↦
      let is : count ≡ 0 = eqb-true count 0 none in
      rw none (eq-eqb (told_count count) 0 (omega arith))
  | inr some ↦ rw some (ne_eqb (told_count count) 0 (λ none.
      true≢false (sym (eq-eqb count 0 (omega arith)) ∙ some)))
]

-- the tests of a text, by what was told and by the rows
judged : (w w' m m' h t n n' l l' : Bool) → w ≡ w' → m ≡ m' → t ≡ true → n ≡ n' → l ≡ l' →
    (w && (m && (not h && (t && (not n && l))))) ≡ (w' && (m' && (not h && (not n' && l'))))
judged w w' m m' h t n n' l l' one two three four five = rw (one, two, three, four, five) refl

module _ (db : Db) (moment : ℕ) (children : List (ℕ × Option Reply))
    (told_all : AllByRecursion (λ one. stat_in one.1 ≡ stat_by db one.0) children)
    (there : AllByRecursion (λ one. IsThere db one.0) children) where
  child-told : (one : ℕ × Option Reply) → stat_in one.1 ≡ stat_by db one.0 → IsThere db one.0 → is_told one ≡ true
  child-told one is there = ap (λ (found : Option TextStat). is_some found) is
      ∙ some-map (stat_in_full db) (text_of db one.0) ∙ there

  children-all-told : list_all is_told children ≡ true
  children-all-told = all-true is_told children (all-both (λ (one : ℕ × Option Reply). stat_in one.1 ≡ stat_by db one.0)
      (λ one. IsThere db one.0) (λ one. is_told one ≡ true) child-told children told_all there) where
        all-true : {X : Type 0} (test : X → Bool) (xs : List X) → AllByRecursion (λ x. test x ≡ true) xs →
            list_all test xs ≡ true
        all-true test [] all = refl
        all-true test (x ∷ xs) all = rw (all.0) (all-true test xs all.1)

  child-older : (days : ℕ) (one : ℕ × Option Reply) → stat_in one.1 ≡ stat_by db one.0 → IsThere db one.0 →
      is_older moment days one ≡ is_older_text db moment days one.0
  child-older days one is there = by (stat_in one.1) (text_of db one.0) is there where
    by : (stat : Option TextStat) (found : Option TextRow) → stat ≡ option_map (stat_in_full db) found →
        is_some found ≡ true → told true (λ (stat : TextStat). nat_lt days (Due.age moment stat)) stat
        ≡ told false (λ (row : TextRow). nat_lt days (age_of moment row)) found
    by stat None is there = absurd (true≢false (sym there))
    by stat (Some row) is there = ap (told true (λ (stat : TextStat). nat_lt days (Due.age moment stat))) is

  children-older : (days : ℕ) (text : ℕ) → map (λ one. one.0) children ≡ comments_to db text →
      are_older moment days children ≡ list_all (is_older_text db moment days) (comments_to db text)
  children-older days text are =
      all-named (λ (one : ℕ × Option Reply). one.0) (is_older moment days) (is_older_text db moment days) children
      (all-both (λ (one : ℕ × Option Reply). stat_in one.1 ≡ stat_by db one.0)
      (λ one. IsThere db one.0) (λ one. is_older moment days one ≡ is_older_text db moment days one.0)
      (child-older days) children told_all there)
      ∙ ap (list_all (is_older_text db moment days)) are

  module _ (row : TextRow) (are : map (λ one. one.0) children ≡ comments_to db row.number) where
    lets-go : (nice keep_commented expire : ℕ) →
        ((nat_lt 0 expire && nat_lt expire (age_of moment row))
        || (nat_lt nice (age_of moment row) && are_older moment keep_commented children))
        ≡ releases db moment row (record { nice = nice; keep_commented = keep_commented; expire = expire })
    lets-go nice keep_commented expire =
        ap (λ (older : Bool). (nat_lt 0 expire && nat_lt expire (age_of moment row))
        || (nat_lt nice (age_of moment row) && older)) (children-older keep_commented row.number are)

    conference-lets-go : (rooms : Walk Room) →
        ((number : ℕ) → days_in rooms.steps number ≡ taken_by Due.days_of db number) → (conference : ℕ) →
        conference_lets_go rooms.steps moment (age_of moment row) children conference
        ≡ conference_releases db moment row conference
    conference-lets-go rooms days conference =
        ap (told false (lets_go moment (age_of moment row) children)) (days conference)
        ∙ told-map false (λ found. Due.days_of (conference_of_core (core_at db found)))
        (lets_go moment (age_of moment row) children) (conference_of db conference)
        ∙ told-alike false (λ (found : ConferenceRow). lets_go moment (age_of moment row) children
        (Due.days_of (conference_of_core (core_at db found))))
        (λ found. releases db moment row (days_kept found))
        (λ found. lets-go found.nice found.keep_commented found.expire) (conference_of db conference)

    all-let-go : (rooms : Walk Room) →
        ((number : ℕ) → days_in rooms.steps number ≡ taken_by Due.days_of db number) →
        all_let_go rooms.steps moment (stat_in_full db row) children ≡ all_release db moment row
    all-let-go rooms days =
        let rows : List Recipient = recipients_of db row.number in
        let none : list_any (λ info. is_some (recipient_in info)) (infos_of db row.number) ≡ not (length rows == 0) =
        any-kept recipient_in (infos_of db row.number)
        ∙ ap (λ (numbers : List ℕ). not (length numbers == 0)) (recipients-told db row.number)
        ∙ ap (λ (count : ℕ). not (count == 0)) (length-map rows (λ (row : Recipient). row.conference)) in
        let some : list_all (conference_lets_go rooms.steps moment (age_of moment row) children)
        (filter_map recipient_in (infos_of db row.number))
        ≡ list_all (λ one. conference_releases db moment row one.conference) rows =
        ap (list_all (conference_lets_go rooms.steps moment (age_of moment row) children))
        (recipients-told db row.number)
        ∙ list_all-map (conference_lets_go rooms.steps moment (age_of moment row) children)
        (λ (one : Recipient). one.conference) rows
        ∙ all-same (λ one. conference_lets_go rooms.steps moment (age_of moment row) children one.conference)
        (λ one. conference_releases db moment row one.conference)
        (λ one. conference-lets-go rooms days one.conference) rows in
        picked (list_any (λ info. is_some (recipient_in info)) (infos_of db row.number)) (length rows == 0) _ _ _ _ none
        some (lets-go 77 77 0) where
          picked : (any none many many' without without' : Bool) → any ≡ not none → many ≡ many' →
              without ≡ without' → cond any many without ≡ cond none without' many'
          picked any true many many' without without' is one two = rw is two
          picked any false many many' without without' is one two = rw is one

          all-same : {X : Type 0} (one other : X → Bool) → ((x : X) → one x ≡ other x) → (xs : List X) →
              list_all one xs ≡ list_all other xs
          all-same one other same [] = refl
          all-same one other same (x ∷ xs) = rw (same x) (rw (all-same one other same xs) refl)

-- whether the text of a number is due
abbrev pub due_by : Db → ℕ → ℕ → Bool
due_by db moment text = has_owners db && told false (is_due_row db moment) (text_of db text)

module _ (db : Db) (moment : ℕ) (rooms : Walk Room) (whole : IsWhole db) (numbered : AreNumbered db)
    (is_rooms : IsRoomWalk rooms) (all : AllByRecursion (IsToldOf db) (told_rooms rooms)) where
  step-due : (step : Step Look) → LookTold db step → is_due moment rooms step ≡ due_by db moment step.number
  step-due step look = by (text_of db step.number) refl where
    not-there : (b : Bool) → false ≡ (b && false)
    not-there true = refl
    not-there false = refl

    by : (found : Option TextRow) → text_of db step.number ≡ found → is_due moment rooms step
        ≡ (has_owners db && told false (is_due_row db moment) found)
    by None none =
        let stat : stat_in step.told.stat ≡ None = look.stat ∙ ap (option_map (stat_in_full db)) none in
        ap (λ (stat : Option TextStat). is_due_by moment rooms step.number stat step.told.children) stat
        ∙ not-there (has_owners db)
    by (Some row) found =
        let stat : stat_in step.told.stat ≡ Some (stat_in_full db row) =
        look.stat ∙ ap (option_map (stat_in_full db)) found in
        let children : map (λ one. one.0) step.told.children ≡ comments_to db row.number =
        look.are ∙ ap children_of stat ∙ children-told db row.number in
        let there : AllByRecursion (λ one. IsThere db one.0) step.told.children =
        all-unmapped (IsThere db) (λ (one : ℕ × Option Reply). one.0) step.told.children
        (subst (AllByRecursion (IsThere db)) (sym children) (comments-there db whole row.number)) in
        let same : step.number ≡ row.number = sym (row-at db step.number row found) in
        ap (λ (stat : Option TextStat). is_due_by moment rooms step.number stat step.told.children) stat
        ∙ judged (is_whole rooms) (has_owners db)
        (told_count (length (marks_on db row.number)) == 0) (length (marks_on db row.number) == 0)
        (is_held (items_of db true row.number)) (list_all is_told step.told.children)
        (is_named rooms.steps step.number) (is_named_text db row.number)
        (all_let_go rooms.steps moment (stat_in_full db row) step.told.children) (all_release db moment row)
        (whole-told db whole rooms is_rooms all) (count-none (length (marks_on db row.number)))
        (children-all-told db moment step.told.children look.children there)
        (named-told db whole rooms is_rooms all step.number ∙ ap (is_named_text db) same)
        (all-let-go db moment step.told.children look.children there row children rooms
        (all-days-told db whole rooms is_rooms all))

row-due : (db : Db) (moment : ℕ) → IsWhole db → has_owners db ≡ true →
    AllByRecursion (λ row. is_due_row db moment row ≡ due_by db moment row.number) db.texts
unfolding text_of
row-due db moment whole owners = all-weaker (λ (row : TextRow). text_of db row.number ≡ Some row)
    (λ row. is_due_row db moment row ≡ due_by db moment row.number)
    (λ row found. sym (ap₂ (λ (b : Bool) (found : Option TextRow). b && told false (is_due_row db moment) found)
    owners found)) db.texts (all-rows number_of_text db.texts whole.texts.rising)

none-due : (db : Db) (moment : ℕ) → has_owners db ≡ false → (numbers : List ℕ) →
    filter (due_by db moment) numbers ≡ []
none-due db moment owners [] = refl
none-due db moment owners (number ∷ numbers) =
    let out : due_by db moment number ≡ false =
    ap (λ (b : Bool). b && told false (is_due_row db moment) (text_of db number)) owners in
    rw out (none-due db moment owners numbers)

all-texts : (db : Db) → texts_of db ≡ db.texts
unfolding texts_of
all-texts db = refl

pub due-rows : (db : Db) (moment : ℕ) → IsWhole db →
    filter (due_by db moment) (map (λ row. row.number) db.texts) ≡ due_texts db moment
due-rows db moment whole = elim (cases_Bool (has_owners db)) [
  | inl owners ↦
      sym (filter-named number_of_text (is_due_row db moment) (due_by db moment) db.texts
      (row-due db moment whole owners))
      ∙ ap (λ (rows : List TextRow). map (λ (row : TextRow). row.number) (filter (is_due_row db moment) rows))
      (sym (all-texts db))
      ∙ ap (λ (b : Bool). if b then map (λ (row : TextRow). row.number) (filter (is_due_row db moment) (texts_of db))
      else []) (sym owners)
  | inr none ↦
      none-due db moment none (map (λ row. row.number) db.texts)
      ∙ ap (λ (b : Bool). if b then map (λ (row : TextRow). row.number) (filter (is_due_row db moment) (texts_of db))
      else []) (sym none)
]

pub due-is-told : DueIsTold
due-is-told = record {
  texts = λ db texts whole numbered is all. texts-numbers db whole numbered texts is all;
  due = λ db moment rooms texts whole numbered is_rooms is_texts all_rooms all_texts.
      filter-named (λ (step : Step Look). step.number) (is_due moment rooms) (due_by db moment) texts.steps
      (all-weaker (LookTold db) (λ step. is_due moment rooms step ≡ due_by db moment step.number)
      (step-due db moment rooms whole numbered is_rooms all_rooms) texts.steps
      (looks-told db whole numbered texts is_texts all_texts))
      ∙ ap (filter (due_by db moment)) (texts-numbers db whole numbered texts is_texts all_texts)
      ∙ due-rows db moment whole;
}
