-- The aux-items of a snapshot come again, and their objects draw their numbers.
use Rattle.std.proofs.Common.{◌≡◌, ℕ, ◌+◌, ◌<◌, ◌≤◌, Bool, true, false, ◌==◌, ◌&&◌, List, [], ◌∷◌, ◌++◌, length}
use Rattle.std.proofs.Common.{Option, Some, None, refl, sym, ◌∙◌, ap, subst, arith, append_assoc, inl, inr, eqb-true}
use Rattle.std.specs.Prelude.{map, nat_le, nat_lt, is_some}
use Rattle.std.specs.List.{AllByRecursion, filter}
use Rattle.std.proofs.lemmas.Bool.{and_from, cases_Bool, le-leb, lt-ltb, eq-eqb}
use Rattle.std.proofs.lemmas.List.{append-nil}
use Rattle.row_table.specs.Tables.{row_of, IsByNumber}
use Rattle.kom_types.specs.declared.limits.TheConstants.{LAST_DRAWN, LONGEST_CONTENT, MOST_AUX_ITEMS}
use Rattle.kom_types.specs.AuxItems.{kind_of}
use Rattle.kom_types.specs.Bits.{alike}
use Rattle.kom_types.specs.declared.aux_items.AuxRow.{AuxRow}
use Rattle.kom_types.specs.declared.aux_items.ItemRow.{ItemRow}
use Rattle.kom_types.specs.declared.conferences.ConferenceRow.{ConferenceRow}
use Rattle.kom_types.specs.declared.effects.Effect.{Effect}
use Rattle.kom_types.specs.declared.effects.Effect.TheVariants as effect
use Rattle.kom_types.specs.declared.texts.TextRow.{TextRow}
use Rattle.kom_types.specs.tables.AuxItems.{is_item_of}
use Rattle.kom_types.specs.tables.Conferences as Conferences
use Rattle.kom_types.specs.tables.Conferences.{number_of_conference}
use Rattle.kom_types.specs.tables.Texts as Texts
use Rattle.kom_types.specs.tables.Texts.{number_of_text}
use Rattle.kom_model.specs.Db.{Db, conference_of, text_of, items_of, next_item_of}
use Rattle.kom_model.specs.Effects.{fits, after_effect}
use Rattle.kom_model.specs.Whole.{AreItems, has_drawn_item}
use Rattle.kom_model.proofs.whole.Counts.{all-along}
use Rattle.kom_model.proofs.whole.OnConferences.{told-length}
use Rattle.kom_snapshot.specs.Listed.{RiseByKind, on_one_object, IsListedConference, IsListedText}
use Rattle.kom_snapshot.proofs.Rising.{all-found}
use Rattle.kom_snapshot.proofs.replay.Conferences.{conf_as}
use Rattle.kom_snapshot.proofs.replay.Drawing.{set_at, drawn-row, row-counting, drawn-counting, drawn-within}
use Rattle.kom_snapshot.proofs.replay.Links.{alike-itself}
use Rattle.kom_snapshot.proofs.replay.Replaying.{Replays, replays-none, replays-one, replays-append}
use Rattle.kom_snapshot.proofs.replay.Tables.{all-at, room-before, own-rows}
use Rattle.kom_snapshot.proofs.replay.Texts.{text_as}

-- a conference, and a text, with this next number of its aux-items
abbrev with_conference_item : (ℕ → ℕ) → ℕ → ConferenceRow → ConferenceRow
with_conference_item locals next row = record row { next_local = locals row.number; next_item = next }

abbrev with_text_item : (ℕ → ℕ) → ℕ → TextRow → TextRow
with_text_item created next row = record row { created_local = created row.number; next_item = next }

abbrev pub item_effect : ItemRow → Effect
item_effect row = effect.AuxAdded row.on_text row.object row.item

-- the counter of an object
abbrev pub next_of : (ℕ → ℕ) → (ℕ → ℕ) → Bool → ℕ → ℕ
next_of texts conferences true object = texts object
next_of texts conferences false object = conferences object

-- counters that no row passes, and the rows that effects make with them
pub record DrawnItems (texts : List TextRow) (table : List ConferenceRow) (effects : List Effect) (old : Db)
    (new : (ℕ → ℕ) → (ℕ → ℕ) → Db) : Type 0 where
  pub of_texts : ℕ → ℕ
  pub of_conferences : ℕ → ℕ
  pub within_texts : AllByRecursion (λ row. of_texts row.number ≤ row.next_item) texts
  pub within_conferences : AllByRecursion (λ row. of_conferences row.number ≤ row.next_item) table
  pub replays : Replays effects old (new of_texts of_conferences)

module _ (all : List ItemRow) (texts : List TextRow) (table : List ConferenceRow) (whole : AreItems all texts table)
    (rising : IsByNumber number_of_conference table) (rising_texts : IsByNumber number_of_text texts)
    (bounded : AllByRecursion IsListedConference table) (bounded_texts : AllByRecursion IsListedText texts)
    (locals created : ℕ → ℕ) (db : Db) where
  abbrev state : (ℕ → ℕ) → (ℕ → ℕ) → List ItemRow → Db
  state of_texts of_conferences front = record db {
    texts = map (text_as created of_texts) texts;
    conferences = map (conf_as locals of_conferences) table;
    items = front;
  }

  -- what of an item does not hang on what it is of
  module _ (row : ItemRow) (front rest : List ItemRow) (same : front ++ row ∷ rest ≡ all) where
    at : (P : ItemRow → Type 0) → AllByRecursion P all → P row
    at P holds = all-at P front row rest (subst (AllByRecursion P) (sym same) holds)

    room : nat_lt (length (map (λ (one : ItemRow). one.item) (filter (is_item_of row.on_text row.object) front)))
        MOST_AUX_ITEMS ≡ true
    room =
        let few = room-before (is_item_of row.on_text row.object) MOST_AUX_ITEMS front row rest
        (subst (λ l. length (filter (is_item_of row.on_text row.object) l) ≤ MOST_AUX_ITEMS) (sym same)
        (whole.limited row.on_text row.object))
        (and_from _ _ (alike-itself row.on_text) (eq-eqb row.object row.object refl)) in
        let told = told-length (λ (one : ItemRow). one.item) (filter (is_item_of row.on_text row.object) front) in
        lt-ltb (length (map (λ (one : ItemRow). one.item) (filter (is_item_of row.on_text row.object) front)))
        MOST_AUX_ITEMS (omega (arith, few, told))

    drawn : has_drawn_item texts table row.on_text row.object row.item.number ≡ true
    drawn = at (λ row. has_drawn_item texts table row.on_text row.object row.item.number ≡ true) whole.drawn

    known : is_some (kind_of row.item.tag) ≡ true
    known = at (λ row. is_some (kind_of row.item.tag) ≡ true) whole.known

    short : nat_le (length row.item.content) LONGEST_CONTENT ≡ true
    short = le-leb (length row.item.content) LONGEST_CONTENT
        (at (λ row. length row.item.content ≤ LONGEST_CONTENT) whole.short)

  -- an item of a text
  module _ (of_texts of_conferences : ℕ → ℕ) (object : ℕ) (item : AuxRow) (front rest : List ItemRow) where
    module _ (same : front ++ record { on_text = true; object = object; item = item } ∷ rest ≡ all) where
      abbrev of_text : ItemRow
      of_text = record { on_text = true; object = object; item = item }

      written : (text : TextRow) × ((row_of number_of_text object texts ≡ Some text) × (item.number < text.next_item))
      written = drawn-row (λ text. text.next_item) (row_of number_of_text object texts) item.number
          (drawn of_text front rest same)

      text-found : row_of number_of_text object (map (text_as created of_texts) texts)
          ≡ Some (with_text_item created (of_texts object) written.0)
      text-found = row-counting number_of_text (with_text_item created) (λ n one. refl) of_texts object texts written.0
          written.1.0

      text-fits : of_texts object ≤ item.number →
          fits (effect.AuxAdded true object item) (state of_texts of_conferences front) ≡ true
      unfolding fits text_of conference_of items_of next_item_of
      text-fits least =
          let last = (all-found IsListedText _ texts written.0 bounded_texts written.1.0).next_item.1 in
          and_from _ _ (and_from _ _ (and_from _ _ (and_from _ _ (and_from _ _ (ap is_some text-found)
          (subst (λ (found : Option TextRow).
          nat_le (elim found [ None ↦ 1 | Some row ↦ row.next_item ]) item.number ≡ true) (sym text-found)
          (le-leb (of_texts object) item.number least)))
          (le-leb item.number LAST_DRAWN (omega (arith, last, written.1.1))))
          (known of_text front rest same)) (room of_text front rest same)) (short of_text front rest same)

      text-makes : after_effect (effect.AuxAdded true object item) (state of_texts of_conferences front)
          ≡ state (set_at object (item.number + 1) of_texts) of_conferences (front ++ of_text ∷ [])
      unfolding after_effect
      text-makes = ap (λ rows. record (state of_texts of_conferences (front ++ of_text ∷ [])) { texts = rows })
          (drawn-counting number_of_text (with_text_item created) (λ n one. refl) object (item.number + 1)
          (Texts.with_item_drawn item.number) (λ n one. refl) of_texts texts)

      text-within : AllByRecursion (λ text. of_texts text.number ≤ text.next_item) texts →
          AllByRecursion (λ text. set_at object (item.number + 1) of_texts text.number ≤ text.next_item) texts
      text-within less = drawn-within number_of_text (λ text. text.next_item) object (item.number + 1) of_texts texts
          (own-rows number_of_text [] texts texts refl rising_texts)
          (λ text is.
          let drawn = written.1.1 in
          let one : Some text ≡ Some written.0 = sym is ∙ written.1.0 in
          let equal : text ≡ written.0 = cc in
          let next = ap (λ (one : TextRow). one.next_item) equal in
          omega (arith, next, drawn)) less

    -- an item of a conference
    module _ (same : front ++ record { on_text = false; object = object; item = item } ∷ rest ≡ all) where
      abbrev of_conference : ItemRow
      of_conference = record { on_text = false; object = object; item = item }

      home : (conference : ConferenceRow) × ((row_of number_of_conference object table ≡ Some conference)
          × (item.number < conference.next_item))
      home = drawn-row (λ conference. conference.next_item) (row_of number_of_conference object table) item.number
          (drawn of_conference front rest same)

      home-found : row_of number_of_conference object (map (conf_as locals of_conferences) table)
          ≡ Some (with_conference_item locals (of_conferences object) home.0)
      home-found = row-counting number_of_conference (with_conference_item locals) (λ n one. refl) of_conferences object
          table home.0 home.1.0

      home-fits : of_conferences object ≤ item.number →
          fits (effect.AuxAdded false object item) (state of_texts of_conferences front) ≡ true
      unfolding fits text_of conference_of items_of next_item_of
      home-fits least =
          let last = (all-found IsListedConference _ table home.0 bounded home.1.0).next_item.1 in
          and_from _ _ (and_from _ _ (and_from _ _ (and_from _ _ (and_from _ _ (ap is_some home-found)
          (subst (λ (found : Option ConferenceRow).
          nat_le (elim found [ None ↦ 1 | Some row ↦ row.next_item ]) item.number ≡ true) (sym home-found)
          (le-leb (of_conferences object) item.number least)))
          (le-leb item.number LAST_DRAWN (omega (arith, last, home.1.1))))
          (known of_conference front rest same)) (room of_conference front rest same))
          (short of_conference front rest same)

      home-makes : after_effect (effect.AuxAdded false object item) (state of_texts of_conferences front)
          ≡ state of_texts (set_at object (item.number + 1) of_conferences) (front ++ of_conference ∷ [])
      unfolding after_effect
      home-makes =
          ap (λ rows. record (state of_texts of_conferences (front ++ of_conference ∷ [])) { conferences = rows })
          (drawn-counting number_of_conference (with_conference_item locals) (λ n one. refl) object (item.number + 1)
          (Conferences.with_item_drawn item.number) (λ n one. refl) of_conferences table)

      home-within : AllByRecursion (λ row. of_conferences row.number ≤ row.next_item) table →
          AllByRecursion (λ row. set_at object (item.number + 1) of_conferences row.number ≤ row.next_item) table
      home-within less = drawn-within number_of_conference (λ row. row.next_item) object (item.number + 1)
          of_conferences table (own-rows number_of_conference [] table table refl rising)
          (λ conference is.
          let drawn = home.1.1 in
          let one : Some conference ≡ Some home.0 = sym is ∙ home.1.0 in
          let equal : conference ≡ home.0 = cc in
          let next = ap (λ (one : ConferenceRow). one.next_item) equal in
          omega (arith, next, drawn)) less

  -- the others' numbers are drawn later
  abbrev AreNext : (ℕ → ℕ) → (ℕ → ℕ) → List ItemRow → Type 0
  AreNext of_texts of_conferences rest =
      AllByRecursion (λ one. next_of of_texts of_conferences one.on_text one.object ≤ one.item.number) rest

  later-text : (of_texts of_conferences : ℕ → ℕ) (object : ℕ) (item : AuxRow) (rest : List ItemRow) →
      AllByRecursion (λ one. on_one_object (record { on_text = true; object = object; item = item }) one ≡ true →
      item.number < one.item.number) rest → AreNext of_texts of_conferences rest →
      AreNext (set_at object (item.number + 1) of_texts) of_conferences rest
  later-text of_texts of_conferences object item rest above least = all-along
      (λ one. on_one_object (record { on_text = true; object = object; item = item }) one ≡ true →
      item.number < one.item.number)
      (λ one. next_of of_texts of_conferences one.on_text one.object ≤ one.item.number)
      (λ one. next_of (set_at object (item.number + 1) of_texts) of_conferences one.on_text one.object
      ≤ one.item.number) (λ one. each one.on_text one.object one.item) rest above least
    where
      each : (on_text : Bool) (other : ℕ) (one : AuxRow) →
          ((alike true on_text && object == other) ≡ true → item.number < one.number) →
          next_of of_texts of_conferences on_text other ≤ one.number →
          next_of (set_at object (item.number + 1) of_texts) of_conferences on_text other ≤ one.number
      each false other one more less = less
      each true other one more less = elim (cases_Bool (other == object)) [
        | inl here ↦
            let drawn = more (eq-eqb object other (sym (eqb-true other object here))) in
            rw here (omega (arith, drawn))
        | inr there ↦ rw there less
      ]

  later-home : (of_texts of_conferences : ℕ → ℕ) (object : ℕ) (item : AuxRow) (rest : List ItemRow) →
      AllByRecursion (λ one. on_one_object (record { on_text = false; object = object; item = item }) one ≡ true →
      item.number < one.item.number) rest → AreNext of_texts of_conferences rest →
      AreNext of_texts (set_at object (item.number + 1) of_conferences) rest
  later-home of_texts of_conferences object item rest above least = all-along
      (λ one. on_one_object (record { on_text = false; object = object; item = item }) one ≡ true →
      item.number < one.item.number)
      (λ one. next_of of_texts of_conferences one.on_text one.object ≤ one.item.number)
      (λ one. next_of of_texts (set_at object (item.number + 1) of_conferences) one.on_text one.object
      ≤ one.item.number) (λ one. each one.on_text one.object one.item) rest above least
    where
      each : (on_text : Bool) (other : ℕ) (one : AuxRow) →
          ((alike false on_text && object == other) ≡ true → item.number < one.number) →
          next_of of_texts of_conferences on_text other ≤ one.number →
          next_of of_texts (set_at object (item.number + 1) of_conferences) on_text other ≤ one.number
      each true other one more less = less
      each false other one more less = elim (cases_Bool (other == object)) [
        | inl here ↦
            let drawn = more (eq-eqb object other (sym (eqb-true other object here))) in
            rw here (omega (arith, drawn))
        | inr there ↦ rw there less
      ]

  abbrev Again : (ℕ → ℕ) → (ℕ → ℕ) → List ItemRow → List ItemRow → Type 0
  Again of_texts of_conferences front rest = DrawnItems texts table (map item_effect rest)
      (state of_texts of_conferences front) (λ of_texts of_conferences. state of_texts of_conferences all)

  pub items-again : (of_texts of_conferences : ℕ → ℕ) (front rest : List ItemRow) → front ++ rest ≡ all →
      RiseByKind on_one_object (λ row. row.item.number) rest → AreNext of_texts of_conferences rest →
      AllByRecursion (λ row. of_texts row.number ≤ row.next_item) texts →
      AllByRecursion (λ row. of_conferences row.number ≤ row.next_item) table →
      Again of_texts of_conferences front rest
  items-again of_texts of_conferences front [] same rise least less less' = record {
    of_texts = of_texts;
    of_conferences = of_conferences;
    within_texts = less;
    within_conferences = less';
    replays = subst (λ rows. Replays [] (state of_texts of_conferences front) (state of_texts of_conferences rows))
        (sym (append-nil front) ∙ same) (replays-none (state of_texts of_conferences front));
  }
  items-again of_texts of_conferences front (row ∷ rest) same rise least less less' =
      by (λ of_texts' of_conferences' front' same' least' less_texts less_homes.
      items-again of_texts' of_conferences' front' rest same' rise.1 least' less_texts less_homes)
      row.on_text row.object row.item same rise.0 least.0
    where
      by : ((of_texts' of_conferences' : ℕ → ℕ) (front' : List ItemRow) → front' ++ rest ≡ all →
          AreNext of_texts' of_conferences' rest →
          AllByRecursion (λ row. of_texts' row.number ≤ row.next_item) texts →
          AllByRecursion (λ row. of_conferences' row.number ≤ row.next_item) table →
          Again of_texts' of_conferences' front' rest) → (on_text : Bool) (object : ℕ) (item : AuxRow) →
          front ++ record { on_text = on_text; object = object; item = item } ∷ rest ≡ all →
          AllByRecursion (λ one. on_one_object (record { on_text = on_text; object = object; item = item }) one ≡ true →
          item.number < one.item.number) rest →
          next_of of_texts of_conferences on_text object ≤ item.number →
          Again of_texts of_conferences front (record { on_text = on_text; object = object; item = item } ∷ rest)
      by again true object item same above least' =
          let drawn = set_at object (item.number + 1) of_texts in
          let given : ItemRow = record { on_text = true; object = object; item = item } in
          let others = again drawn of_conferences (front ++ given ∷ [])
          (append_assoc front (given ∷ []) rest ∙ same)
          (later-text of_texts of_conferences object item rest above least.1)
          (text-within of_texts of_conferences object item front rest same less) less' in
          record {
            of_texts = others.of_texts;
            of_conferences = others.of_conferences;
            within_texts = others.within_texts;
            within_conferences = others.within_conferences;
            replays = replays-append (item_effect given ∷ []) (map item_effect rest)
                (state of_texts of_conferences front) (state drawn of_conferences (front ++ given ∷ []))
                (state others.of_texts others.of_conferences all)
                (replays-one (item_effect given) (state of_texts of_conferences front)
                (state drawn of_conferences (front ++ given ∷ []))
                (text-fits of_texts of_conferences object item front rest same least')
                (text-makes of_texts of_conferences object item front rest same)) others.replays;
          }
      by again false object item same above least' =
          let drawn = set_at object (item.number + 1) of_conferences in
          let given : ItemRow = record { on_text = false; object = object; item = item } in
          let others = again of_texts drawn (front ++ given ∷ [])
          (append_assoc front (given ∷ []) rest ∙ same)
          (later-home of_texts of_conferences object item rest above least.1) less
          (home-within of_texts of_conferences object item front rest same less') in
          record {
            of_texts = others.of_texts;
            of_conferences = others.of_conferences;
            within_texts = others.within_texts;
            within_conferences = others.within_conferences;
            replays = replays-append (item_effect given ∷ []) (map item_effect rest)
                (state of_texts of_conferences front) (state of_texts drawn (front ++ given ∷ []))
                (state others.of_texts others.of_conferences all)
                (replays-one (item_effect given) (state of_texts of_conferences front)
                (state of_texts drawn (front ++ given ∷ []))
                (home-fits of_texts of_conferences object item front rest same least')
                (home-makes of_texts of_conferences object item front rest same)) others.replays;
          }
