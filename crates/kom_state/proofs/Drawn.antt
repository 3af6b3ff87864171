-- What whole rows say of the numbers that are drawn next: those that rows have lie below them.
use Rattle.std.proofs.Common.{◌≡◌, ℕ, ◌<◌, ◌≤◌, Bool, true, false, eqb, ltb, List, [], ◌∷◌, find, Option, Some, None}
use Rattle.std.proofs.Common.{◌⊎◌}
use Rattle.std.proofs.Common.{inl, inr, refl, sym, ap, subst, true≢false, arith}
use Rattle.std.specs.List.{AllByRecursion}
use Rattle.std.specs.Prelude.{IsTrue}
use Rattle.std.proofs.lemmas.Bool.{cond_both, cases_Bool, eqb-true, ltb-true, and_parts}
use Rattle.row_table.specs.Tables.{row_of}
use Rattle.aux_items.specs.Items.{item_numbered}
use Rattle.kom_types.specs.Bits.{alike}
use Rattle.kom_types.specs.declared.aux_items.ItemRow.{ItemRow}
use Rattle.kom_types.specs.declared.conferences.ConferenceRow.{ConferenceRow}
use Rattle.kom_types.specs.declared.persons.PersonRow.{PersonRow}
use Rattle.kom_types.specs.declared.texts.TextRow.{TextRow}
use Rattle.kom_types.specs.tables.AuxItems.{is_item, is_item_of}
use Rattle.kom_types.specs.tables.Conferences.{number_of_conference}
use Rattle.kom_types.specs.tables.Persons.{number_of_person}
use Rattle.kom_types.specs.tables.Texts.{number_of_text, locals_of, created_by}
use Rattle.local_maps.specs.Pairs.{AllBelow}
use Rattle.kom_model.specs.Db.{Db}
use Rattle.kom_model.specs.Whole.{IsWhole, IsNumbered, has_drawn_local, has_drawn_item}
use Rattle.kom_state.specs.Keeping.{DrawFromOne}
use Rattle.kom_state.proofs.LocalNumbers.{IsLocalBelow, locals_below, IsCreatedBelow, created_below}
use Rattle.kom_state.proofs.TableRows.{all_weaker}

-- ---- the number that a row draws next, 1 where there is no row
abbrev next_in : {R : Type 0} → (R → ℕ) → Option R → ℕ
next_in next found = elim found [ None ↦ 1 | Some row ↦ next row ]

abbrev pub next_local : ℕ → List ConferenceRow → ℕ
next_local number rows = next_in (λ row. row.next_local) (row_of number_of_conference number rows)

abbrev pub next_created : ℕ → List PersonRow → ℕ
next_created number rows = next_in (λ row. row.next_created) (row_of number_of_person number rows)

abbrev pub next_item : Bool → ℕ → List ConferenceRow → List TextRow → ℕ
next_item true object conferences texts = next_in (λ row. row.next_item) (row_of number_of_text object texts)
next_item false object conferences texts =
    next_in (λ row. row.next_item) (row_of number_of_conference object conferences)

-- a row that is there, and has drawn a number, draws a greater one next
drawn-below : {R : Type 0} (next : R → ℕ) (found : Option R) (number : ℕ) →
    elim found [ None ↦ false | Some row ↦ ltb number (next row) ] ≡ true → number < next_in next found
drawn-below next None number drawn = absurd (true≢false (sym drawn))
drawn-below next (Some row) number drawn = ltb-true number (next row) drawn

-- ---- local numbers, and those among the texts of a person
-- a local number from the next one on lies above all that the conference has given
pub above_locals : (db : Db) → IsWhole db → (conference local : ℕ) → next_local conference db.conferences ≤ local →
    AllBelow local (locals_of conference db.recipients)
above_locals db whole conference local from =
    locals_below conference local db.recipients
    (all_weaker (λ row. IsTrue (has_drawn_local db.conferences row.conference row.local))
    (IsLocalBelow conference local) (λ row drawn here.
    let below = drawn-below (λ (one : ConferenceRow). one.next_local)
    (row_of number_of_conference row.conference db.conferences) row.local drawn in
    let next : next_local row.conference db.conferences ≡ next_local conference db.conferences =
    ap (λ n. next_local n db.conferences) (eqb-true row.conference conference here) in
    omega (arith, below, next, from)) db.recipients whole.recipients.drawn)

pub above_created : (db : Db) → IsWhole db → (person local : ℕ) → next_created person db.persons ≤ local →
    AllBelow local (created_by person db.texts)
above_created db whole person local from =
    created_below person local db.texts
    (all_weaker (IsNumbered db.persons) (IsCreatedBelow person local) (λ row numbered own.
    let parts = and_parts (eqb row.author person) (ltb 0 row.created_local) own in
    let below = drawn-below (λ (one : PersonRow). one.next_created)
    (row_of number_of_person row.author db.persons) row.created_local
    (numbered (ltb-true 0 row.created_local parts.1)) in
    let next : next_created row.author db.persons ≡ next_created person db.persons =
    ap (λ n. next_created n db.persons) (eqb-true row.author person parts.0) in
    omega (arith, below, next, from)) db.texts whole.texts.numbered)

pub positive_created : (number : ℕ) (rows : List PersonRow) → DrawFromOne rows → 0 < next_created number rows
positive_created number [] from = omega arith
positive_created number (row ∷ rows) from =
    cond_both (eqb row.number number) (Some row) (row_of number_of_person number rows)
    (λ found. 0 < next_in (λ (one : PersonRow). one.next_created) found) (λ _. from.0)
    (λ _. positive_created number rows from.1)

-- ---- the numbers of aux-items
find_none : (test : ItemRow → Bool) (rows : List ItemRow) → AllByRecursion (λ row. test row ≡ true → ⊥) rows →
    find test rows ≡ None
find_none test [] none = refl
find_none test (row ∷ rows) none = by (find_none test rows none.1) (cases_Bool (test row))
  where
    by : find test rows ≡ None → (test row ≡ true) ⊎ (test row ≡ false) → find test (row ∷ rows) ≡ None
    by rest (inl passes) = absurd (none.0 passes)
    by rest (inr fails) = rw fails rest

-- the number of an item lies below the one that its text, or its conference, draws next
item_below : (db : Db) (here on_text : Bool) (object number : ℕ) →
    has_drawn_item db.texts db.conferences here object number ≡ true → alike here on_text ≡ true →
    number < next_item on_text object db.conferences db.texts
item_below db true true object number drawn same =
    drawn-below (λ (one : TextRow). one.next_item) (row_of number_of_text object db.texts) number drawn
item_below db true false object number drawn same = absurd (true≢false (sym same))
item_below db false true object number drawn same = absurd (true≢false (sym same))
item_below db false false object number drawn same =
    drawn-below (λ (one : ConferenceRow). one.next_item) (row_of number_of_conference object db.conferences) number
    drawn

-- no item has a number that is still to be drawn
pub absent_item : (db : Db) → IsWhole db → (on_text : Bool) (object number : ℕ) →
    next_item on_text object db.conferences db.texts ≤ number → item_numbered on_text object number db.items ≡ None
absent_item db whole on_text object number from =
    find_none (is_item on_text object number) db.items
    (all_weaker (λ row. IsTrue (has_drawn_item db.texts db.conferences row.on_text row.object row.item.number))
    (λ row. is_item on_text object number row ≡ true → ⊥) (λ row drawn passes.
    let parts = and_parts (is_item_of on_text object row) (eqb row.item.number number) passes in
    let here = and_parts (alike row.on_text on_text) (eqb row.object object) parts.0 in
    let below = item_below db row.on_text on_text object row.item.number
    (subst (λ n. has_drawn_item db.texts db.conferences row.on_text n row.item.number ≡ true)
    (eqb-true row.object object here.1) drawn) here.0 in
    omega (arith, below, eqb-true row.item.number number parts.1, from)) db.items whole.items.drawn)
