-- The snapshot of rows stands for them.
use Rattle.std.proofs.Common.{◌≡◌, ℕ, ◌<◌, ◌≤◌, Bool, true, false, ◌&&◌, List, [], ◌∷◌, Option, Some}
use Rattle.std.proofs.Common.{None, refl, sym, ◌∙◌, ap, subst, arith}
use Rattle.std.specs.Prelude.{map, flat_map, is_some, option_map}
use Rattle.std.proofs.lemmas.List.{map-id}
use Rattle.row_table.specs.Tables.{row_of}
use Rattle.kom_types.specs.declared.limits.TheConstants.{LAST_CONFERENCE, LAST_DRAWN}
use Rattle.kom_types.specs.declared.aux_items.ItemRow.{ItemRow}
use Rattle.kom_types.specs.declared.conferences.ConferenceRow.{ConferenceRow}
use Rattle.kom_types.specs.declared.effects.Effect.TheVariants as effect
use Rattle.kom_types.specs.declared.persons.PersonRow.{PersonRow}
use Rattle.kom_types.specs.declared.texts.TextRow.{TextRow}
use Rattle.kom_types.specs.tables.Conferences.{number_of_conference, is_letterbox}
use Rattle.kom_types.specs.tables.Persons.{number_of_person}
use Rattle.kom_types.specs.tables.Texts.{number_of_text}
use Rattle.kom_model.specs.Db.{Db, empty_db, conference_of}
use Rattle.kom_model.specs.Effects.{IsProtected, has_letterbox, apply_all, all_fit}
use Rattle.kom_model.specs.Whole as Whole
use Rattle.kom_model.specs.Whole.{IsWhole, has_text, has_person, has_conference}
use Rattle.kom_model.proofs.Protection.{IsProtected-apply_all}
use Rattle.kom_model.proofs.whole.Effects.{effects-whole, empty-whole}
use Rattle.kom_snapshot.proofs.Keeping.{effects-listed, empty-listed}
use Rattle.kom_model.proofs.whole.Counts.{all-of, all-weaker}
use Rattle.kom_types.specs.declared.raised.RaisedCounter.TheVariants as counter
use Rattle.kom_snapshot.specs.Listed.{IsListed, IsListedConference, IsListedPerson, IsListedText}
use Rattle.kom_snapshot.specs.Snap.{snap, effects_of, raised_of, raise_to, conference_effects, person_effects}
use Rattle.kom_snapshot.specs.Snap.{created_effects, membership_list}
use Rattle.kom_snapshot.specs.Snapshot.{stands_for, raise_all, all_may_raise}
use Rattle.kom_snapshot.specs.Laws.{SnapshotStands, MadeStands}
use Rattle.kom_snapshot.proofs.replay.Conferences.{conf_as, bare_conference, conferences-again}
use Rattle.kom_snapshot.proofs.replay.Created.{Created, created-again}
use Rattle.kom_snapshot.proofs.replay.Drawing.{there-mapped, row-mapped}
use Rattle.kom_snapshot.proofs.replay.Items.{DrawnItems, item_effect, next_of, items-again}
use Rattle.kom_snapshot.proofs.replay.Links.{links-again}
use Rattle.kom_snapshot.proofs.replay.Marks.{mark_effect, marks-again}
use Rattle.kom_snapshot.proofs.replay.Members.{members-again}
use Rattle.kom_snapshot.proofs.replay.Persons.{begun, person_as, bare_person, persons-again}
use Rattle.kom_snapshot.proofs.replay.Raising.{locals-raised, items-raised, created-raised, sessions-raised}
use Rattle.kom_snapshot.proofs.replay.Raising.{text_items-raised, conferences-raised, texts-raised}
use Rattle.kom_snapshot.proofs.replay.Recipients.{Drawn, recipients-again}
use Rattle.kom_snapshot.proofs.replay.Replaying.{Replays, replays-append, Raises, raises-append}
use Rattle.kom_snapshot.proofs.replay.Tables.{ones, after_all, after-within, same-mapped}
use Rattle.kom_snapshot.proofs.replay.Texts.{text_as, bare_text, text_effect, texts-again}

-- a letterbox is one still among bare conferences
housed-bare : (db : Db) (table : List ConferenceRow) → db.conferences ≡ map bare_conference table → (number : ℕ) →
    Whole.has_letterbox table number ≡ true → has_letterbox db number ≡ true
unfolding conference_of
housed-bare db table same number is =
    subst (λ (found : Option ConferenceRow). (elim found [ None ↦ false | Some row ↦ is_letterbox row.kind ]) ≡ true)
    (sym (row-mapped number_of_conference bare_conference (λ row. refl) number table)
    ∙ ap (row_of number_of_conference number) (sym same))
    (by (row_of number_of_conference number table) is)
  where
    by : (found : Option ConferenceRow) → (elim found [ None ↦ false | Some row ↦ is_letterbox row.kind ]) ≡ true →
        (elim (option_map bare_conference found) [ None ↦ false | Some row ↦ is_letterbox row.kind ]) ≡ true
    by None is = is
    by (Some row) is = is

module _ (db : Db) (whole : IsWhole db) (protected : IsProtected db) (listed : IsListed db) where
  -- ---- conferences, persons and texts, but for what is drawn later
  abbrev next_conference : ℕ
  next_conference = after_all number_of_conference 1 db.conferences

  abbrev next_text : ℕ
  next_text = after_all number_of_text 1 db.texts

  abbrev with_conferences : Db
  with_conferences = record empty_db {
    conferences = map bare_conference db.conferences;
    next_conference = next_conference;
  }

  abbrev with_persons : Db
  with_persons = record with_conferences { persons = map bare_person db.persons }

  abbrev with_texts : Db
  with_texts = record with_persons { texts = map bare_text db.texts; next_text = next_text }

  conferences : Replays (flat_map conference_effects db.conferences) empty_db with_conferences
  conferences = conferences-again db.conferences whole.conferences.rising
      (all-weaker (λ row. row.number < db.next_conference) (λ row. row.number ≤ LAST_CONFERENCE)
      (λ row less. omega (arith, less, whole.conferences.limited)) db.conferences whole.conferences.drawn)
      whole.conferences.short whole.conferences.apart protected empty_db [] db.conferences 1 refl
      (all-weaker (λ row. 0 < row.number) (λ row. 1 ≤ row.number) (λ row less. omega (arith, less)) db.conferences
      whole.conferences.positive)

  persons : Replays (flat_map person_effects db.persons) with_conferences with_persons
  persons = persons-again db.persons whole.persons.rising listed.persons with_conferences
      (all-weaker (λ row. Whole.has_letterbox db.conferences row.number ≡ true)
      (λ row. has_letterbox with_conferences row.number ≡ true)
      (λ row is. housed-bare with_conferences db.conferences refl row.number is) db.persons whole.persons.housed)
      [] db.persons refl

  texts : Replays (map text_effect db.texts) with_persons with_texts
  texts = texts-again db.texts whole.texts.rising
      (all-weaker (λ row. row.number < db.next_text) (λ row. row.number ≤ LAST_DRAWN)
      (λ row less. omega (arith, less, whole.texts.limited)) db.texts whole.texts.drawn)
      whole.texts.short (all-weaker IsListedText _ (λ row here. here.lines) db.texts listed.texts) with_persons
      [] db.texts 1 refl
      (all-weaker IsListedText (λ row. 1 ≤ row.number) (λ row here. omega (arith, here.positive)) db.texts
      listed.texts)

  -- ---- recipients and links
  text-there : (number : ℕ) → has_text db.texts number ≡ true →
      is_some (row_of number_of_text number (map bare_text db.texts)) ≡ true
  text-there number is = there-mapped number_of_text bare_text (λ row. refl) number db.texts is

  recipients : Drawn db.conferences (map effect.RecipientAdded db.recipients) with_texts (λ locals. record with_texts {
    conferences = map (conf_as locals ones) db.conferences;
    recipients = db.recipients;
  })
  recipients = recipients-again db.recipients db.texts db.conferences whole.recipients whole.conferences.rising
      listed.conferences ones with_texts text-there ones [] db.recipients refl listed.locals_rise
      (all-weaker (λ row. 0 < row.local) (λ row. 1 ≤ row.local) (λ row less. omega (arith, less)) db.recipients
      listed.locals_begin)
      (all-weaker IsListedConference (λ row. 1 ≤ row.next_local) (λ row here. omega (arith, here.next_local.0))
      db.conferences listed.conferences)

  abbrev locals : ℕ → ℕ
  locals = recipients.counters

  abbrev with_recipients : Db
  with_recipients = record with_texts {
    conferences = map (conf_as locals ones) db.conferences;
    recipients = db.recipients;
  }

  abbrev with_links : Db
  with_links = record with_recipients { links = db.links }

  links : Replays (map effect.LinkAdded db.links) with_recipients with_links
  links = links-again db.links db.texts whole.links with_recipients text-there [] db.links refl

  -- ---- the numbers among the texts of each author
  created : Created db.texts db.persons whole.persons.rising whole.texts.rising listed.persons whole.texts.numbered
      whole.texts.created_once ones with_links ones
  created = created-again db.texts db.persons whole.persons.rising whole.texts.rising listed.persons
      whole.texts.numbered whole.texts.created_once ones with_links ones
      (all-of (λ (row : PersonRow). 1 ≤ 1) (λ row. omega arith) db.persons)
      (all-weaker IsListedPerson (λ row. 1 ≤ row.next_created) (λ row here. omega (arith, here.next_created.0))
      db.persons listed.persons)

  abbrev next : ℕ → ℕ
  next = created.next_after

  abbrev numbers : ℕ → ℕ
  numbers = created.number_after

  abbrev with_numbers : Db
  with_numbers = record with_links {
    persons = map (person_as next) db.persons;
    texts = map (text_as numbers ones) db.texts;
  }

  numbered : Replays (flat_map (created_effects db) db.persons) with_links with_numbers
  numbered = created.replays

  -- ---- memberships, marks and aux-items
  abbrev with_members : Db
  with_members = record with_numbers { memberships = db.memberships; reads = db.reads }

  person-there : (number : ℕ) → has_person db.persons number ≡ true →
      is_some (row_of number_of_person number (map (person_as next) db.persons)) ≡ true
  person-there number is = there-mapped number_of_person (person_as next) (λ row. refl) number db.persons is

  conference-there : (number : ℕ) → has_conference db.conferences number ≡ true →
      is_some (row_of number_of_conference number (map (conf_as locals ones) db.conferences)) ≡ true
  conference-there number is =
      there-mapped number_of_conference (conf_as locals ones) (λ row. refl) number db.conferences is

  members : Replays (membership_list db.reads [] db.memberships) with_numbers with_members
  members = members-again db.memberships db.reads db.persons db.conferences whole.memberships listed.placed with_numbers
      person-there conference-there

  abbrev with_marks : Db
  with_marks = record with_members { marks = db.marks }

  marks : Replays (map mark_effect db.marks) with_members with_marks
  marks = marks-again db.marks db.persons db.texts whole.marks with_members person-there
      (λ number is. there-mapped number_of_text (text_as numbers ones) (λ row. refl) number db.texts is) []
      db.marks refl

  items : DrawnItems db.texts db.conferences (map item_effect db.items) with_marks (λ of_texts of_conferences.
      record with_marks {
        texts = map (text_as numbers of_texts) db.texts;
        conferences = map (conf_as locals of_conferences) db.conferences;
        items = db.items;
      })
  items = items-again db.items db.texts db.conferences whole.items whole.conferences.rising whole.texts.rising
      listed.conferences listed.texts locals numbers with_marks ones ones [] db.items refl listed.items_rise
      (all-weaker (λ (row : ItemRow). 0 < row.item.number)
      (λ row. next_of ones ones row.on_text row.object ≤ row.item.number)
      (λ row less. first row.on_text row.object row.item.number less) db.items listed.items_begin)
      (all-weaker IsListedText (λ row. 1 ≤ row.next_item) (λ row here. omega (arith, here.next_item.0)) db.texts
      listed.texts)
      (all-weaker IsListedConference (λ row. 1 ≤ row.next_item) (λ row here. omega (arith, here.next_item.0))
      db.conferences listed.conferences)
    where
      first : (on_text : Bool) (object number : ℕ) → 0 < number → next_of ones ones on_text object ≤ number
      first true object number less = omega (arith, less)
      first false object number less = omega (arith, less)

  abbrev with_items : Db
  with_items = record with_marks {
    texts = map (text_as numbers items.of_texts) db.texts;
    conferences = map (conf_as locals items.of_conferences) db.conferences;
    items = db.items;
  }

  all-replayed : Replays (effects_of db) empty_db with_items
  all-replayed =
      replays-append _ (map item_effect db.items) empty_db with_marks with_items
      (replays-append _ (map mark_effect db.marks) empty_db with_members with_marks
      (replays-append _ (membership_list db.reads [] db.memberships) empty_db with_numbers with_members
      (replays-append _ (flat_map (created_effects db) db.persons) empty_db with_links with_numbers
      (replays-append _ (map effect.LinkAdded db.links) empty_db with_recipients with_links
      (replays-append _ (map effect.RecipientAdded db.recipients) empty_db with_texts with_recipients
      (replays-append _ (map text_effect db.texts) empty_db with_persons with_texts
      (replays-append (flat_map conference_effects db.conferences) (flat_map person_effects db.persons) empty_db
      with_conferences with_persons conferences persons)
      texts) recipients.replays) links) numbered) members) marks) items.replays

  -- ---- what is raised
  abbrev with_next_conference : Db
  with_next_conference = record with_items { next_conference = db.next_conference }

  abbrev with_next_text : Db
  with_next_text = record with_next_conference { next_text = db.next_text }

  abbrev with_locals : Db
  with_locals = record with_next_text {
    conferences = map (λ (row : ConferenceRow). record row { next_item = items.of_conferences row.number })
        db.conferences;
  }

  abbrev with_created : Db
  with_created = record with_locals {
    persons = map (λ (row : PersonRow). record row { sessions = begun row.sessions }) db.persons;
  }

  abbrev with_text_items : Db
  with_text_items = record with_created {
    texts = map (λ (row : TextRow). record row { created_local = numbers row.number }) db.texts;
  }

  abbrev with_conference_items : Db
  with_conference_items =
      record with_text_items { conferences = map (λ (row : ConferenceRow). row) db.conferences }

  abbrev with_all : Db
  with_all = record with_conference_items { persons = map (λ (row : PersonRow). row) db.persons }

  conferences-within : next_conference ≤ db.next_conference
  conferences-within = after-within number_of_conference db.next_conference 1 db.conferences
      (omega (arith, whole.conferences.begun)) whole.conferences.drawn

  texts-within : next_text ≤ db.next_text
  texts-within = after-within number_of_text db.next_text 1 db.texts (omega (arith, listed.begun)) whole.texts.drawn

  all-raised : Raises (raised_of db) with_items with_all
  all-raised =
      raises-append _ (map (λ row. raise_to counter.Sessions row.number row.sessions) db.persons) with_items
      with_conference_items with_all
      (raises-append _
      (map (λ row. raise_to counter.ConferenceItems row.number row.next_item) db.conferences) with_items
      with_text_items with_conference_items
      (raises-append _
      (map (λ row. raise_to counter.TextItems row.number row.next_item) db.texts) with_items with_created
      with_text_items
      (raises-append _ (map (λ row. raise_to counter.Created row.number row.next_created) db.persons) with_items
      with_locals with_created
      (raises-append (raise_to counter.Conferences 0 db.next_conference ∷ []) _ with_items with_next_conference
      with_locals (conferences-raised with_items db.next_conference conferences-within whole.conferences.limited)
      (raises-append (raise_to counter.Texts 0 db.next_text ∷ []) _ with_next_conference with_next_text with_locals
      (texts-raised with_next_conference db.next_text texts-within whole.texts.limited)
      (locals-raised db.conferences whole.conferences.rising listed.conferences with_next_text locals
      items.of_conferences recipients.within)))
      (created-raised db.persons whole.persons.rising listed.persons with_locals next created.within))
      (text_items-raised db.texts whole.texts.rising listed.texts with_created numbers items.of_texts
      items.within_texts))
      (items-raised db.conferences whole.conferences.rising listed.conferences with_text_items items.of_conferences
      items.within_conferences))
      (sessions-raised db.persons whole.persons.rising listed.persons with_conference_items)

  all-same : with_all ≡ db
  all-same =
      let conferences = map-id db.conferences in
      let persons = map-id db.persons in
      let texts = same-mapped (λ (row : TextRow). record row { created_local = numbers row.number }) db.texts
      (all-weaker (λ row. numbers row.number ≡ row.created_local)
      (λ row. record row { created_local = numbers row.number } ≡ row)
      (λ row same. ap (λ n. record row { created_local = n }) same) db.texts created.same) in
      λ i. record db { conferences = conferences i; persons = persons i; texts = texts i }

  pub snapshot-again : stands_for (snap db) ≡ Some db
  unfolding snap
  snapshot-again =
      let sound : (all_fit (effects_of db) empty_db
      && all_may_raise (raised_of db) (apply_all (effects_of db) empty_db)) ≡ true =
      rw (all-replayed.fit, all-replayed.same, all-raised.may) refl in
      rw sound (ap Some (ap (raise_all (raised_of db)) all-replayed.same ∙ all-raised.same ∙ all-same))

pub snapshot-stands : SnapshotStands
snapshot-stands db whole protected listed = snapshot-again db whole protected listed

pub made-stands : MadeStands
made-stands effects = snapshot-again (apply_all effects empty_db) (effects-whole effects empty_db empty-whole)
    (IsProtected-apply_all effects empty_db tt) (effects-listed effects empty_db empty-whole empty-listed)
