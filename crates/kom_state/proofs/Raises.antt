-- What is kept of the rows stays so where a counter is raised that may be.
use Rattle.std.proofs.Common.{◌≡◌, ℕ, ◌+◌, ◌<◌, ◌≤◌, ◌==◌, ◌&&◌, true, List, Option, Some, None}
use Rattle.std.proofs.Common.{map, refl, ◌∙◌, sym, subst, arith}
use Rattle.std.proofs.lemmas.Bool.{and_parts}
use Rattle.row_table.specs.Tables.{row_of}
use Rattle.kom_types.specs.declared.limits.TheConstants.{LAST_CONFERENCE, LAST_DRAWN}
use Rattle.kom_types.specs.declared.conferences.ConferenceRow.{ConferenceRow}
use Rattle.kom_types.specs.declared.persons.PersonRow.{PersonRow}
use Rattle.kom_types.specs.declared.raised.RaisedCounter.{RaisedCounter}
use Rattle.kom_types.specs.declared.raised.RaisedCounter.TheVariants as counter
use Rattle.kom_types.specs.declared.texts.TextRow.{TextRow}
use Rattle.kom_types.specs.tables.Persons.{number_of_person, last_count}
use Rattle.kom_model.specs.Db.{Db, conference_of, person_of, text_of}
use Rattle.kom_model.specs.Raising.{is_between, may_raise_to, raised_to}
use Rattle.kom_model.proofs.whole.Raises.{bounds, found-bounds, is-within, raise-whole}
use Rattle.name_lookup.specs.NamedRows.{Named}
use Rattle.kom_state.specs.Keeping.{name_row, DrawFromOne, IsKept}
use Rattle.kom_state.proofs.Drawn.{positive_created}
use Rattle.kom_state.proofs.Names.{names-kept}
use Rattle.kom_state.proofs.TableRows.{all_changed_row}

raise-names : (what : RaisedCounter) (object next : ℕ) (db : Db) →
    map name_row (raised_to what object next db).conferences ≡ map name_row db.conferences
raise-names counter.Conferences object next db = refl
raise-names counter.Texts object next db = refl
raise-names counter.Locals object next db =
    names-kept object (λ row. record row { next_local = next }) db.conferences (λ row. refl)
raise-names counter.Created object next db = refl
raise-names counter.TextItems object next db = refl
raise-names counter.ConferenceItems object next db =
    names-kept object (λ row. record row { next_item = next }) db.conferences (λ row. refl)
raise-names counter.Sessions object next db = refl

raise-from_one : (what : RaisedCounter) (object next : ℕ) (db : Db) → may_raise_to what object next db ≡ true →
    DrawFromOne db.persons → DrawFromOne (raised_to what object next db).persons
unfolding person_of
raise-from_one counter.Conferences object next db may from = from
raise-from_one counter.Texts object next db may from = from
raise-from_one counter.Locals object next db may from = from
raise-from_one counter.Created object next db may from =
    let found = found-bounds (λ (row : PersonRow). row.next_created) (row_of number_of_person object db.persons) next
    (LAST_DRAWN + 1) may in
    let first : 0 < found.0.next_created =
    subst (λ (o : Option PersonRow). 0 < (elim o [ None ↦ 1 | Some row ↦ row.next_created ])) found.1.0
    (positive_created object db.persons from) in
    let positive : 0 < next = omega (arith, first, found.1.1.0) in
    all_changed_row number_of_person (λ row. 0 < row.next_created) object (λ row. record row { next_created = next })
    (λ row here. positive) db.persons from
raise-from_one counter.TextItems object next db may from = from
raise-from_one counter.ConferenceItems object next db may from = from
raise-from_one counter.Sessions object next db may from =
    all_changed_row number_of_person (λ row. 0 < row.next_created) object (λ row. record row { sessions = next })
    (λ row here. here) db.persons from

-- the next number of all conferences, or of all texts, is not above its bound
pub next-bounded : (object least next most : ℕ) → (object == 0 && is_between least next most) ≡ true → next ≤ most
next-bounded object least next most may = (bounds least next most (and_parts (object == 0) _ may).1).1

-- the number fits four bytes
pub next-fits : (what : RaisedCounter) (object next : ℕ) (db : Db) → may_raise_to what object next db ≡ true →
    next ≤ 4294967295
next-fits counter.Conferences object next db may =
    omega (arith, next-bounded object db.next_conference next (LAST_CONFERENCE + 1) may)
next-fits counter.Texts object next db may =
    omega (arith, next-bounded object db.next_text next (LAST_DRAWN + 1) may)
next-fits counter.Locals object next db may =
    (is-within (λ (row : ConferenceRow). row.next_local) (conference_of db object) next (LAST_DRAWN + 1) may).bounded
next-fits counter.Created object next db may =
    (is-within (λ (row : PersonRow). row.next_created) (person_of db object) next (LAST_DRAWN + 1) may).bounded
next-fits counter.TextItems object next db may =
    (is-within (λ (row : TextRow). row.next_item) (text_of db object) next (LAST_DRAWN + 1) may).bounded
next-fits counter.ConferenceItems object next db may =
    (is-within (λ (row : ConferenceRow). row.next_item) (conference_of db object) next (LAST_DRAWN + 1) may).bounded
next-fits counter.Sessions object next db may =
    (is-within (λ (row : PersonRow). row.sessions) (person_of db object) next last_count may).bounded

pub IsKept-raised : (what : RaisedCounter) (object next : ℕ) (old new : Db) (names : List Named) → IsKept old names →
    may_raise_to what object next old ≡ true → new ≡ raised_to what object next old → IsKept new names
IsKept-raised what object next old new names kept may is = rw is (record {
  whole = raise-whole old kept.whole what object next may;
  same_names = kept.same_names ∙ sym (raise-names what object next old);
  from_one = raise-from_one what object next old may kept.from_one;
})
