-- The sections, one after the other, are the parts of the snapshot.
use Rattle.std.proofs.Common.{◌≡◌, ℕ, List, [], ◌∷◌, ◌++◌, map, Option, Some, None, refl, sym, ap, ◌∙◌, append_assoc}
use Rattle.std.proofs.Common.{append-nil}
use Rattle.std.specs.List.{AllByRecursion, flat_map}
use Rattle.std.proofs.lemmas.List.{map-append}
use Rattle.row_table.specs.Tables.{row_of, IsByNumber}
use Rattle.kom_types.specs.Parts.{Part, Makes, Raises}
use Rattle.kom_types.specs.declared.conferences.ConferenceRow.{ConferenceRow}
use Rattle.kom_types.specs.declared.effects.Effect.{Effect}
use Rattle.kom_types.specs.declared.effects.Effect.TheVariants as effect
use Rattle.kom_types.specs.declared.persons.PersonRow.{PersonRow}
use Rattle.kom_types.specs.declared.raised.Raised.{Raised}
use Rattle.kom_types.specs.declared.raised.RaisedCounter.TheVariants as counter
use Rattle.kom_types.specs.declared.texts.LocalText.{LocalText}
use Rattle.kom_types.specs.declared.texts.TextRow.{TextRow}
use Rattle.kom_types.specs.tables.Conferences.{number_of_conference}
use Rattle.kom_types.specs.tables.Persons.{number_of_person}
use Rattle.kom_types.specs.tables.Texts.{number_of_text}
use Rattle.kom_model.specs.Db.{Db, conference_of, person_of, text_of, created_by}
use Rattle.kom_model.specs.Whole.{IsWhole}
use Rattle.kom_snapshot.specs.Snap.{snap, effects_of, raised_of, raise_to, conference_effects, person_effects}
use Rattle.kom_snapshot.specs.Snap.{created_effects, membership_list}
use Rattle.kom_snapshot.specs.Snapshot.{parts_of}
use Rattle.kom_snapshot.proofs.replay.Tables.{own-rows}
use Rattle.kom_telling.specs.Sections.{parts_at, section_parts, all_sections, by_person}
use Rattle.kom_telling.specs.Sections.{of_conference, of_person, of_text}
use Rattle.kom_telling.specs.declared.section.Section.TheVariants as section
use Rattle.kom_telling.proofs.Members.{members-told}

-- what each number tells, is what each row does
module _ {R : Type 0} (number_of : R → ℕ) (told : ℕ → List Part) (parts : R → List Part) where
  each-row : (rows : List R) → AllByRecursion (λ row. told (number_of row) ≡ parts row) rows →
      flat_map told (map number_of rows) ≡ flat_map parts rows
  each-row [] all = refl
  each-row (row ∷ rows) all =
      let here = all.0 in
      let rest = each-row rows all.1 in
      λ i. here i ++ rest i

  each-found : (all rows : List R) → ((row : R) → row_of number_of (number_of row) all ≡ Some row →
      told (number_of row) ≡ parts row) →
      AllByRecursion (λ row. row_of number_of (number_of row) all ≡ Some row) rows →
      AllByRecursion (λ row. told (number_of row) ≡ parts row) rows
  each-found all [] one own = tt
  each-found all (row ∷ rows) one own = (one row own.0, each-found all rows one own.1)

  pub numbers-told : (rows : List R) → IsByNumber number_of rows → ((row : R) →
      row_of number_of (number_of row) rows ≡ Some row → told (number_of row) ≡ parts row) →
      flat_map told (map number_of rows) ≡ flat_map parts rows
  numbers-told rows rising one = each-row rows (each-found rows rows one (own-rows number_of [] rows rows refl rising))

module _ {X Y Z : Type 0} (f : X → List Y) (g : Y → Z) where
  map-flat_map : (xs : List X) → map g (flat_map f xs) ≡ flat_map (λ x. map g (f x)) xs
  map-flat_map [] = refl
  map-flat_map (x ∷ xs) =
      map-append g (f x) (flat_map f xs) ∙ ap (λ (l : List Z). map g (f x) ++ l) (map-flat_map xs)

module _ {X Y Z : Type 0} (f : X → Y) (g : Y → Z) where
  singles : (xs : List X) → flat_map (λ x. g (f x) ∷ []) xs ≡ map g (map f xs)
  singles [] = refl
  singles (x ∷ xs) = ap (λ (l : List Z). g (f x) ∷ l) (singles xs)

module _ (db : Db) (whole : IsWhole db) where
  conferences-by : (parts : ConferenceRow → List Part) →
      flat_map (of_conference parts db) (map number_of_conference db.conferences) ≡ flat_map parts db.conferences
  unfolding conference_of
  conferences-by parts =
      numbers-told number_of_conference (of_conference parts db) parts db.conferences whole.conferences.rising
      (λ row is. ap (λ (o : Option ConferenceRow). elim o [ None ↦ [] | Some row ↦ parts row ]) is)

  persons-by : (parts : PersonRow → List Part) →
      flat_map (of_person parts db) (map number_of_person db.persons) ≡ flat_map parts db.persons
  unfolding person_of
  persons-by parts =
      numbers-told number_of_person (of_person parts db) parts db.persons whole.persons.rising
      (λ row is. ap (λ (o : Option PersonRow). elim o [ None ↦ [] | Some row ↦ parts row ]) is)

  texts-by : (parts : TextRow → List Part) →
      flat_map (of_text parts db) (map number_of_text db.texts) ≡ flat_map parts db.texts
  unfolding text_of
  texts-by parts =
      numbers-told number_of_text (of_text parts db) parts db.texts whole.texts.rising
      (λ row is. ap (λ (o : Option TextRow). elim o [ None ↦ [] | Some row ↦ parts row ]) is)

  created-told : by_person section.Created db ≡ map Makes (flat_map (created_effects db) db.persons)
  unfolding created_by
  created-told =
      numbers-told number_of_person (parts_at section.Created db)
      (λ row. map Makes (created_effects db row)) db.persons whole.persons.rising
      (λ row is. singles (λ (pair : LocalText). effect.Created row.number pair.local pair.text) Makes
      (created_by db row.number))
      ∙ sym (map-flat_map (created_effects db) Makes db.persons)

  -- the effects, in their sections, and then the counters
  abbrev effect_sections : List (List Effect)
  effect_sections =
      flat_map conference_effects db.conferences
      ∷ flat_map person_effects db.persons
      ∷ map (λ row. effect.TextAdded row.number row.author row.created row.body) db.texts
      ∷ map effect.RecipientAdded db.recipients
      ∷ map effect.LinkAdded db.links
      ∷ flat_map (created_effects db) db.persons
      ∷ membership_list db.reads [] db.memberships
      ∷ map (λ row. effect.MarkSet row.person row.text row.kind) db.marks
      ∷ map (λ row. effect.AuxAdded row.on_text row.object row.item) db.items
      ∷ []

  abbrev counter_sections : List (List Raised)
  counter_sections =
      (raise_to counter.Conferences 0 db.next_conference ∷ raise_to counter.Texts 0 db.next_text ∷ [])
      ∷ map (λ row. raise_to counter.Locals row.number row.next_local) db.conferences
      ∷ map (λ row. raise_to counter.Created row.number row.next_created) db.persons
      ∷ map (λ row. raise_to counter.TextItems row.number row.next_item) db.texts
      ∷ map (λ row. raise_to counter.ConferenceItems row.number row.next_item) db.conferences
      ∷ map (λ row. raise_to counter.Sessions row.number row.sessions) db.persons
      ∷ []

  abbrev joined : {X : Type 0} → List (List X) → List X
  joined [] = []
  joined (one ∷ others) = one ++ joined others

  map-joined : {X Y : Type 0} (g : X → Y) (lists : List (List X)) → map g (joined lists) ≡ joined (map (map g) lists)
  map-joined g [] = refl
  map-joined {X} {Y} g (one ∷ others) =
      map-append g one (joined others) ∙ ap (λ (l : List Y). map g one ++ l) (map-joined g others)

  joined-append : {X : Type 0} (one other : List (List X)) → joined (one ++ other) ≡ joined one ++ joined other
  joined-append [] other = refl
  joined-append {X} (list ∷ one) other =
      ap (λ (l : List X). list ++ l) (joined-append one other) ∙ sym (append_assoc list (joined one) (joined other))

  effects-joined : effects_of db ≡ joined effect_sections
  effects-joined = simp (append_assoc, append-nil)

  counters-joined : raised_of db ≡ joined counter_sections
  counters-joined = simp (append_assoc, append-nil)

  sections-told : flat_map (section_parts db) all_sections
      ≡ joined (map (map Makes) effect_sections ++ map (map Raises) counter_sections)
  sections-told =
      let conferences = conferences-by (λ row. map Makes (conference_effects row))
      ∙ sym (map-flat_map conference_effects Makes db.conferences) in
      let persons = persons-by (λ row. map Makes (person_effects row))
      ∙ sym (map-flat_map person_effects Makes db.persons) in
      let texts = texts-by (λ row. Makes (effect.TextAdded row.number row.author row.created row.body) ∷ [])
      ∙ singles (λ (row : TextRow). effect.TextAdded row.number row.author row.created row.body) Makes db.texts in
      let recipients = singles effect.RecipientAdded Makes db.recipients in
      let links = singles effect.LinkAdded Makes db.links in
      let memberships = members-told db whole in
      let marks = singles (λ row. effect.MarkSet row.person row.text row.kind) Makes db.marks in
      let items = singles (λ row. effect.AuxAdded row.on_text row.object row.item) Makes db.items in
      let locals = conferences-by (λ row. Raises (raise_to counter.Locals row.number row.next_local) ∷ [])
      ∙ singles (λ (row : ConferenceRow). raise_to counter.Locals row.number row.next_local) Raises db.conferences in
      let created = persons-by (λ row. Raises (raise_to counter.Created row.number row.next_created) ∷ [])
      ∙ singles (λ (row : PersonRow). raise_to counter.Created row.number row.next_created) Raises db.persons in
      let text_items = texts-by (λ row. Raises (raise_to counter.TextItems row.number row.next_item) ∷ [])
      ∙ singles (λ (row : TextRow). raise_to counter.TextItems row.number row.next_item) Raises db.texts in
      let conference_items = conferences-by (λ row. Raises (raise_to counter.ConferenceItems row.number row.next_item) ∷
      [])
      ∙ singles (λ (row : ConferenceRow). raise_to counter.ConferenceItems row.number row.next_item) Raises
      db.conferences in
      let sessions = persons-by (λ row. Raises (raise_to counter.Sessions row.number row.sessions) ∷ [])
      ∙ singles (λ (row : PersonRow). raise_to counter.Sessions row.number row.sessions) Raises db.persons in
      let numbers_told = created-told in
      λ i. conferences i ++ (persons i ++ (texts i ++ (recipients i ++ (links i ++ (numbers_told i
      ++ (memberships i ++ (marks i ++ (items i
      ++ (Raises (raise_to counter.Conferences 0 db.next_conference) ∷ Raises (raise_to counter.Texts 0 db.next_text)
      ∷ []
      ++ (locals i ++ (created i ++ (text_items i ++ (conference_items i ++ (sessions i ++ []))))))))))))))

  pub all-told : flat_map (section_parts db) all_sections ≡ parts_of (snap db)
  unfolding snap
  all-told =
      sections-told ∙ joined-append (map (map Makes) effect_sections) (map (map Raises) counter_sections)
      ∙ (λ i. sym (map-joined Makes effect_sections) i ++ sym (map-joined Raises counter_sections) i)
      ∙ (λ i. map Makes (sym effects-joined i) ++ map Raises (sym counters-joined i))
