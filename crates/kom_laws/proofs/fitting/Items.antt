-- What aux-items come to that are taken from an object, and added to it, fits.
use Rattle.std.proofs.Common.{◌≡◌, ℕ, ◌+◌, ◌<◌, ◌≤◌, Bool, true, false, cond, not, ◌==◌, ◌||◌, ◌&&◌, List, [], ◌∷◌}
use Rattle.std.proofs.Common.{◌++◌, length, Option, Some, None, refl, sym, ap, subst, ◌∙◌, inl, inr, arith, eqb-true}
use Rattle.std.proofs.Common.{eq-eqb, append_assoc, length-append, nat_lt, nat_le, true≢false}
use Rattle.std.specs.Prelude.{map, is_some, option_map, min}
use Rattle.std.specs.List.{filter, find, list_any}
use Rattle.std.specs.Option.{option_or}
use Rattle.std.proofs.lemmas.Bool.{cases_Bool, and_from, and_parts, le-leb, leb-true, lt-ltb, ltb-true, ltb-false}
use Rattle.std.proofs.lemmas.Bool.{ne_eqb, eqb-false, not-true}
use Rattle.std.proofs.lemmas.List.{append-nil, map-append}
use Rattle.std.proofs.lemmas.List.Elements.{filter-append}
use Rattle.kom_types.specs.declared.limits.TheConstants.{LAST_DRAWN, LONGEST_CONTENT, MOST_AUX_ITEMS}
use Rattle.row_table.specs.Tables.{row_of, changed_row}
use Rattle.row_table.proofs.Rows.{row_of-changed_row}
use Rattle.kom_types.specs.AuxItems.{kind_of, AuxKind, AuxRefusal, code_added}
use Rattle.kom_types.specs.AuxItems.{code_deleted}
use Rattle.kom_types.specs.AuxItems.{refused_added, refused_deleted, refused_change, is_among, left_after, items_from}
use Rattle.kom_types.specs.AuxItems.{item_of, is_shown, stays, may_add}
use Rattle.kom_types.specs.AuxItems as AuxItems
use Rattle.kom_types.specs.declared.errors.TheConstants as error
use Rattle.kom_types.specs.Bits.{alike}
use Rattle.kom_types.specs.declared.aux_items.Adder.{Adder}
use Rattle.kom_types.specs.declared.aux_items.AuxChange.{AuxChange}
use Rattle.kom_types.specs.declared.aux_items.AuxInput.{AuxInput}
use Rattle.kom_types.specs.declared.aux_items.AuxRow.{AuxRow}
use Rattle.kom_types.specs.declared.aux_items.ItemRow.{ItemRow}
use Rattle.kom_types.specs.declared.aux_items.Object.{Object}
use Rattle.kom_types.specs.declared.aux_items.Object.TheVariants as object
use Rattle.kom_types.specs.declared.decisions.Decision.{Decision}
use Rattle.kom_types.specs.declared.effects.Effect.{Effect}
use Rattle.kom_types.specs.declared.effects.Effect.TheVariants as effect
use Rattle.kom_types.specs.tables.AuxItems.{is_item_of, is_item}
use Rattle.kom_types.specs.tables.Conferences as Conferences
use Rattle.kom_types.specs.tables.Conferences.{number_of_conference}
use Rattle.kom_types.specs.tables.Texts as Texts
use Rattle.kom_types.specs.tables.Texts.{number_of_text}
use Rattle.kom_model.specs.Db.{Db, text_of, conference_of, items_of, next_item_of}
use Rattle.kom_model.specs.Effects.{fits, after_effect, all_fit, has_object}
use Rattle.kom_model.specs.Shown.{text_adder, conference_adder}
use Rattle.kom_model.specs.calls.AuxItems.{items_added, item_effects, numbers_guard, change_items, object_of}
use Rattle.kom_model.specs.calls.AuxItems.{modify_text_info, modify_conf_info}
use Rattle.kom_model.specs.calls.Call.{Asked, done_with}
use Rattle.kom_model.specs.calls.Guards.{Guard, caller, refusal, first_refusal, items_guard, new_items_guard}
use Rattle.kom_model.specs.calls.Guards.{with_items}
use Rattle.kom_model.specs.calls.Guards.{login_guard, text_guard, conference_guard}
use Rattle.kom_model.proofs.Guards.{all-pass, passed}
use Rattle.kom_model.proofs.whole.Found.{has-made}
use Rattle.kom_laws.proofs.fitting.Guards.{text-there, conference-there}

-- an effect that fits, before others that fit after it
pub fit-then : (what : Effect) (rest : List Effect) (db : Db) → fits what db ≡ true →
    all_fit rest (after_effect what db) ≡ true → all_fit (what ∷ rest) db ≡ true
fit-then what rest db fit after = rw fit after

-- ---- what an object bears: the number that its next item gets, and its items
pub record Bears (on_text : Bool) (object drawn : ℕ) (held : List AuxRow) (db : Db) : Type 0 where
  pub there : has_object db on_text object ≡ true
  pub next : next_item_of db on_text object ≡ drawn
  pub items : items_of db on_text object ≡ held

item_in : ItemRow → AuxRow
item_in row = row.item

alike-own : (one : Bool) → alike one one ≡ true
alike-own true = refl
alike-own false = refl

-- an item goes
gone-items : (on_text : Bool) (object number : ℕ) (rows : List ItemRow) →
    map (λ (row : ItemRow). row.item)
    (filter (is_item_of on_text object) (filter (λ row. not (is_item on_text object number row)) rows))
    ≡ filter (λ (item : AuxRow). not (item.number == number))
    (map (λ (row : ItemRow). row.item) (filter (is_item_of on_text object) rows))
gone-items on_text object number [] = refl
gone-items on_text object number (row ∷ rows) =
    let rest = gone-items on_text object number rows in
    elim (cases_Bool (is_item_of on_text object row)) [
      | inl here ↦ elim (cases_Bool (row.item.number == number)) [
        | inl level ↦ rw here (rw level rest)
        | inr apart ↦ rw here (rw apart (rw here (ap (λ (items : List AuxRow). row.item ∷ items) rest)))
      ]
      | inr there ↦ rw there (rw there rest)
    ]

gone-there : (on_text : Bool) (object : ℕ) (rows : List ItemRow) (db : Db) →
    has_object (record db { items = rows }) on_text object ≡ has_object db on_text object
unfolding text_of conference_of
gone-there true object rows db = refl
gone-there false object rows db = refl

gone-next : (on_text : Bool) (object : ℕ) (rows : List ItemRow) (db : Db) →
    next_item_of (record db { items = rows }) on_text object ≡ next_item_of db on_text object
unfolding text_of conference_of next_item_of
gone-next true object rows db = refl
gone-next false object rows db = refl

bears-gone : (on_text : Bool) (object drawn : ℕ) (held : List AuxRow) (db : Db) (number : ℕ) →
    Bears on_text object drawn held db →
    Bears on_text object drawn (filter (λ (item : AuxRow). not (item.number == number)) held)
    (after_effect (effect.AuxGone on_text object number) db)
unfolding after_effect items_of
bears-gone on_text object drawn held db number bears =
    let left : List ItemRow = filter (λ row. not (is_item on_text object number row)) db.items in
    record {
      there = gone-there on_text object left db ∙ bears.there;
      next = gone-next on_text object left db ∙ bears.next;
      items = gone-items on_text object number db.items
          ∙ ap (filter (λ (item : AuxRow). not (item.number == number))) bears.items;
    }

-- an item comes
module _ {R : Type 0} (number_of : R → ℕ) (next : R → ℕ) (change : R → R)
    (keeps : (row : R) → number_of (change row) ≡ number_of row) where
  drawn-next : (value at : ℕ) (rows : List R) → ((row : R) → next (change row) ≡ value) →
      is_some (row_of number_of at rows) ≡ true →
      (elim (row_of number_of at (changed_row number_of at change rows)) [ None ↦ 1 | Some row ↦ next row ]) ≡ value
  drawn-next value at rows each there =
      ap (λ (found : Option R). elim found as (λ _. ℕ) [ None ↦ 1 | Some row ↦ next row ])
      (row_of-changed_row number_of change keeps at at rows)
      ∙ rw (eq-eqb at at refl) (by (row_of number_of at rows) there) where
        by : (found : Option R) → is_some found ≡ true →
            (elim (option_map change found) [ None ↦ 1 | Some row ↦ next row ]) ≡ value
        by None is = absurd (true≢false (sym is))
        by (Some row) is = each row

added-items : (on_text : Bool) (object : ℕ) (item : AuxRow) (rows : List ItemRow) →
    let given : ItemRow = record { on_text = on_text; object = object; item = item } in
    map (λ (row : ItemRow). row.item) (filter (is_item_of on_text object) (rows ++ given ∷ []))
    ≡ map (λ (row : ItemRow). row.item) (filter (is_item_of on_text object) rows) ++ item ∷ []
added-items on_text object item rows =
    let given : ItemRow = record { on_text = on_text; object = object; item = item } in
    let own : is_item_of on_text object given ≡ true =
    and_from _ _ (alike-own on_text) (eq-eqb object object refl) in
    let one : filter (is_item_of on_text object) (given ∷ []) ≡ given ∷ [] = rw own refl in
    ap (λ (found : List ItemRow). map (λ (row : ItemRow). row.item) found)
    (filter-append (is_item_of on_text object) rows (given ∷ [])
    ∙ ap (λ (last : List ItemRow). filter (is_item_of on_text object) rows ++ last) one)
    ∙ map-append (λ (row : ItemRow). row.item) (filter (is_item_of on_text object) rows) (given ∷ [])

pub bears-added : (on_text : Bool) (object drawn : ℕ) (held : List AuxRow) (db : Db) (item : AuxRow) →
    Bears on_text object drawn held db →
    Bears on_text object (item.number + 1) (held ++ item ∷ []) (after_effect (effect.AuxAdded on_text object item) db)
unfolding after_effect items_of next_item_of text_of conference_of
bears-added true object drawn held db item bears = record {
  there = has-made number_of_text (λ row. true) (Texts.with_item_drawn item.number) (λ row. refl) object db.texts
      (λ row. refl) bears.there;
  next = drawn-next number_of_text (λ row. row.next_item) (Texts.with_item_drawn item.number) (λ row. refl)
      (item.number + 1) object db.texts (λ row. refl) bears.there;
  items = added-items true object item db.items ∙ ap (λ (items : List AuxRow). items ++ item ∷ []) bears.items;
}
bears-added false object drawn held db item bears = record {
  there = has-made number_of_conference (λ row. true) (Conferences.with_item_drawn item.number) (λ row. refl) object
      db.conferences (λ row. refl) bears.there;
  next = drawn-next number_of_conference (λ row. row.next_item) (Conferences.with_item_drawn item.number)
      (λ row. refl) (item.number + 1) object db.conferences (λ row. refl) bears.there;
  items = added-items false object item db.items ∙ ap (λ (items : List AuxRow). items ++ item ∷ []) bears.items;
}

-- ---- items that may be added: each gets the next number, and there is room for it
pub record IsNext (next count : ℕ) (item : AuxRow) : Type 0 where
  pub number : item.number ≡ next
  pub last : next ≤ LAST_DRAWN
  pub known : is_some (kind_of item.tag) ≡ true
  pub room : count < MOST_AUX_ITEMS
  pub short : length item.content ≤ LONGEST_CONTENT

abbrev pub CanAdd : ℕ → ℕ → List AuxRow → Type 0
CanAdd next count [] = Unit {0}
CanAdd next count (item ∷ items) = IsNext next count item × CanAdd (next + 1) (count + 1) items

can-same : (next next' count count' : ℕ) (items : List AuxRow) → next ≡ next' → count ≡ count' →
    CanAdd next count items → CanAdd next' count' items
can-same next next' count count' items level many can =
    subst (λ (n : ℕ). CanAdd n count' items) level (subst (λ (c : ℕ). CanAdd next c items) many can)

item-fits : (on_text : Bool) (object drawn : ℕ) (held : List AuxRow) (db : Db) (item : AuxRow) →
    Bears on_text object drawn held db → IsNext drawn (length held) item →
    fits (effect.AuxAdded on_text object item) db ≡ true
unfolding fits
item-fits on_text object drawn held db item bears next =
    let level : nat_le (next_item_of db on_text object) item.number ≡ true =
    rw bears.next (le-leb drawn item.number (omega (arith, next.number))) in
    let last : nat_le item.number LAST_DRAWN ≡ true =
    le-leb item.number LAST_DRAWN (omega (arith, next.number, next.last)) in
    let room : nat_lt (length (items_of db on_text object)) MOST_AUX_ITEMS ≡ true =
    rw bears.items (lt-ltb (length held) MOST_AUX_ITEMS next.room) in
    and_from _ _ (and_from _ _ (and_from _ _ (and_from _ _ (and_from _ _ bears.there level) last) next.known) room)
    (le-leb (length item.content) LONGEST_CONTENT next.short)

-- what else is known of the rows is kept by an item that is added
module _ (Also : Db → Type 0) (on_text : Bool) (object : ℕ)
    (keeps : (item : AuxRow) (db : Db) → Also db → Also (after_effect (effect.AuxAdded on_text object item) db))
    (rest : List Effect) (after : (db : Db) → Also db → all_fit rest db ≡ true) where
  pub items-fit : (items : List AuxRow) (drawn : ℕ) (held : List AuxRow) (db : Db) →
      Bears on_text object drawn held db → Also db → CanAdd drawn (length held) items →
      all_fit (items_added on_text object items ++ rest) db ≡ true
  items-fit [] drawn held db bears also can = after db also
  items-fit (item ∷ items) drawn held db bears also can =
      fit-then (effect.AuxAdded on_text object item) (items_added on_text object items ++ rest) db
      (item-fits on_text object drawn held db item bears can.0)
      (items-fit items (item.number + 1) (held ++ item ∷ []) (after_effect (effect.AuxAdded on_text object item) db)
      (bears-added on_text object drawn held db item bears) (keeps item db also)
      (can-same (drawn + 1) (item.number + 1) (length held + 1) (length (held ++ item ∷ [])) items
      (omega (arith, can.0.number)) (omega (arith, length-append held (item ∷ []))) can.1))

-- the same where nothing comes after them
items-alone : (on_text : Bool) (object drawn : ℕ) (held items : List AuxRow) (db : Db) →
    Bears on_text object drawn held db → CanAdd drawn (length held) items →
    all_fit (items_added on_text object items) db ≡ true
items-alone on_text object drawn held items db bears can =
    subst (λ (effects : List Effect). all_fit effects db ≡ true) (append-nil (items_added on_text object items))
    (items-fit (λ db. Unit {0}) on_text object (λ item db also. tt) [] (λ db also. refl) items drawn held db bears tt
    can)

-- ---- what the guards of a change say
none-then : (code : Option ℕ) (index : ℕ) (more : Option AuxRefusal) →
    (elim code as (λ _. Option AuxRefusal) [
      | Some code ↦ Some (record { code = code; index = index })
      | None ↦ more
    ]) ≡ None → (code ≡ None) × (more ≡ None)
none-then None index more none = (refl, none)
none-then (Some code) index more none = absurd cc

-- an item that may be added
added-passes : (on : Object) (adder : Adder) (held : List AuxRow) (given : AuxInput) →
    code_added on adder held given ≡ None →
    (is_some (kind_of given.tag) ≡ true) × (length held < MOST_AUX_ITEMS) × (length given.content ≤ LONGEST_CONTENT)
added-passes on adder held given passes = by (kind_of given.tag) passes where
  by : (found : Option AuxKind) → (elim found as (λ _. Option ℕ) [
    | None ↦ Some error.ILLEGAL_AUX_ITEM
    | Some known ↦ cond (not (AuxItems.fits on held adder.person known given)) (Some error.ILLEGAL_AUX_ITEM)
        (cond (may_add known.adding on adder.owns) None (Some error.AUX_ITEM_PERMISSION))
  ]) ≡ None → (is_some found ≡ true) × (length held < MOST_AUX_ITEMS) × (length given.content ≤ LONGEST_CONTENT)
  by None none = absurd cc
  by (Some known) none = elim (cases_Bool (AuxItems.fits on held adder.person known given)) [
    | inl fit ↦
        let stand = and_parts _ _ fit in
        let flags = and_parts _ _ stand.0 in
        let short = (and_parts _ _ flags.0).1 in
        let room = (and_parts _ _ stand.1).0 in (
          refl,
          ltb-true (length held) MOST_AUX_ITEMS room,
          ltb-false LONGEST_CONTENT (length given.content) (not-true _ short),
        )
    | inr unfit ↦ let wrong : Some error.ILLEGAL_AUX_ITEM ≡ None = rw unfit at none in absurd cc
  ]

pub added-can : (on : Object) (adder : Adder) (held : List AuxRow) (index next creator moment : ℕ)
    (given : List AuxInput) → refused_added on adder held index given ≡ None →
    next + length given ≤ LAST_DRAWN + 1 → CanAdd next (length held) (items_from next creator moment given)
added-can on adder held index next creator moment [] none last = tt
added-can on adder held index next creator moment (one ∷ more) none last =
    let held' : List AuxRow = held ++ item_of 0 adder.person 0 one ∷ [] in
    let parts = none-then (code_added on adder held one) index (refused_added on adder held' (index + 1) more) none in
    let pass = added-passes on adder held one parts.0 in
    let rest : CanAdd (next + 1) (length held') (items_from (next + 1) creator moment more) =
    added-can on adder held' (index + 1) (next + 1) creator moment more parts.1 (omega (arith, last)) in (
      record { number = refl; last = omega (arith, last); known = pass.0; room = pass.1; short = pass.2 },
      can-same (next + 1) (next + 1) (length held') (length held + 1) (items_from (next + 1) creator moment more) refl
          (omega (arith, length-append held (item_of 0 adder.person 0 one ∷ []))) rest,
    )

-- no more than there is room for
added-few : (on : Object) (adder : Adder) (held : List AuxRow) (index : ℕ) (given : List AuxInput) →
    refused_added on adder held index given ≡ None → length held ≤ MOST_AUX_ITEMS →
    length held + length given ≤ MOST_AUX_ITEMS
added-few on adder held index [] none few = omega (arith, few)
added-few on adder held index (one ∷ more) none few =
    let held' : List AuxRow = held ++ item_of 0 adder.person 0 one ∷ [] in
    let parts = none-then (code_added on adder held one) index (refused_added on adder held' (index + 1) more) none in
    let pass = added-passes on adder held one parts.0 in
    let long = length-append held (item_of 0 adder.person 0 one ∷ []) in
    let rest = added-few on adder held' (index + 1) more parts.1 (omega (arith, long, pass.1)) in
    omega (arith, long, rest)

-- a number that may be deleted is one of an item that is left
deleted-passes : (adder : Adder) (items : List AuxRow) (earlier : List ℕ) (number : ℕ) →
    code_deleted adder items earlier number ≡ None →
    (is_some (find (λ (item : AuxRow). item.number == number && is_shown adder item) items) ≡ true)
    × (is_among earlier number ≡ false)
deleted-passes adder items earlier number passes =
    by (find (λ (item : AuxRow). item.number == number && is_shown adder item) items) passes where
      by : (found : Option AuxRow) → (elim found as (λ _. Option ℕ) [
        | None ↦ Some error.ILLEGAL_AUX_ITEM
        | Some item ↦ cond (is_among earlier number) (Some error.ILLEGAL_AUX_ITEM)
            (cond (stays item.tag || not (item.creator == adder.person || adder.owns)) (Some error.AUX_ITEM_PERMISSION)
            None)
      ]) ≡ None → (is_some found ≡ true) × (is_among earlier number ≡ false)
      by None none = absurd cc
      by (Some item) none = elim (cases_Bool (is_among earlier number)) [
        | inl before ↦ let wrong : Some error.ILLEGAL_AUX_ITEM ≡ None = rw before at none in absurd cc
        | inr new ↦ (refl, new)
      ]

any-found : {X : Type 0} (test extra : X → Bool) (items : List X) →
    is_some (find (λ item. test item && extra item) items) ≡ true → list_any test items ≡ true
any-found test extra [] is = absurd (true≢false (sym is))
any-found test extra (item ∷ items) is = elim (cases_Bool (test item)) [
  | inl here ↦ rw here refl
  | inr there ↦ rw there (any-found test extra items (rw there at is))
]

any-left : (earlier : List ℕ) (number : ℕ) (items : List AuxRow) → is_among earlier number ≡ false →
    list_any (λ (item : AuxRow). item.number == number) items ≡ true →
    list_any (λ (item : AuxRow). item.number == number) (left_after earlier items) ≡ true
any-left earlier number [] new any = any
any-left earlier number (item ∷ items) new any = elim (cases_Bool (item.number == number)) [
  | inl here ↦
      let stays : is_among earlier item.number ≡ false = rw (eqb-true item.number number here) new in
      rw stays (rw here refl)
  | inr there ↦
      let rest : list_any (λ (item : AuxRow). item.number == number) (left_after earlier items) ≡ true =
      any-left earlier number items new (rw there at any) in
      elim (cases_Bool (is_among earlier item.number)) [
        | inl goes ↦ rw goes rest
        | inr stays ↦ rw stays (rw there rest)
      ]
]

among-more : (earlier : List ℕ) (number one : ℕ) →
    is_among (earlier ++ number ∷ []) one ≡ (is_among earlier one || number == one)
among-more [] number one = elim (cases_Bool (number == one)) [ inl same ↦ rw same refl | inr apart ↦ rw apart refl ]
among-more (first ∷ earlier) number one = elim (cases_Bool (first == one)) [
  | inl same ↦ rw same refl
  | inr apart ↦ rw apart (among-more earlier number one)
]

left-step : (earlier : List ℕ) (number : ℕ) (items : List AuxRow) →
    filter (λ (item : AuxRow). not (item.number == number)) (left_after earlier items)
    ≡ left_after (earlier ++ number ∷ []) items
left-step earlier number [] = refl
left-step earlier number (item ∷ items) =
    let rest = left-step earlier number items in
    let more = among-more earlier number item.number in
    elim (cases_Bool (is_among earlier item.number)) [
      | inl goes ↦ let gone : is_among (earlier ++ number ∷ []) item.number ≡ true = rw goes at more in
          rw (goes, gone) rest
      | inr stays ↦ elim (cases_Bool (item.number == number)) [
        | inl here ↦
            let same : (number == item.number) ≡ true =
            eq-eqb number item.number (sym (eqb-true item.number number here)) in
            let gone : is_among (earlier ++ number ∷ []) item.number ≡ true = more ∙ rw (stays, same) refl in
            rw (stays, gone) (rw here rest)
        | inr there ↦
            let apart : (number == item.number) ≡ false =
            ne_eqb number item.number (λ same. eqb-false item.number number there (sym same)) in
            let left : is_among (earlier ++ number ∷ []) item.number ≡ false = more ∙ rw (stays, apart) refl in
            rw (stays, left) (rw there (ap (λ (items : List AuxRow). item ∷ items) rest))
      ]
    ]

gone-fits : (on_text : Bool) (object number : ℕ) (db : Db) →
    list_any (λ (item : AuxRow). item.number == number) (items_of db on_text object) ≡ true →
    fits (effect.AuxGone on_text object number) db ≡ true
unfolding fits
gone-fits on_text object number db is = is

module _ (on_text : Bool) (object drawn : ℕ) (adder : Adder) (items : List AuxRow) (rest : List Effect) where
  gone-fit : (todo earlier : List ℕ) (index : ℕ) (db : Db) →
      refused_deleted adder items earlier index todo ≡ None →
      Bears on_text object drawn (left_after earlier items) db →
      ((db : Db) → Bears on_text object drawn (left_after (earlier ++ todo) items) db → all_fit rest db ≡ true) →
      all_fit (map (λ (number : ℕ). effect.AuxGone on_text object number) todo ++ rest) db ≡ true
  gone-fit [] earlier index db none bears after =
      after db (subst (λ (gone : List ℕ). Bears on_text object drawn (left_after gone items) db)
      (sym (append-nil earlier)) bears)
  gone-fit (number ∷ todo) earlier index db none bears after =
      let parts = none-then (code_deleted adder items earlier number) index
      (refused_deleted adder items (earlier ++ number ∷ []) (index + 1) todo) none in
      let pass = deleted-passes adder items earlier number parts.0 in
      let any : list_any (λ (item : AuxRow). item.number == number) items ≡ true =
      any-found (λ (item : AuxRow). item.number == number) (is_shown adder) items pass.0 in
      let here : list_any (λ (item : AuxRow). item.number == number) (items_of db on_text object) ≡ true =
      rw bears.items (any-left earlier number items pass.1 any) in
      fit-then (effect.AuxGone on_text object number)
      (map (λ (number : ℕ). effect.AuxGone on_text object number) todo ++ rest) db
      (gone-fits on_text object number db here)
      (gone-fit todo (earlier ++ number ∷ []) (index + 1)
      (after_effect (effect.AuxGone on_text object number) db) parts.1
      (subst (λ (held : List AuxRow). Bears on_text object drawn held
      (after_effect (effect.AuxGone on_text object number) db))
      (left-step earlier number items) (bears-gone on_text object drawn (left_after earlier items) db number bears))
      (λ db bears. after db (subst (λ (gone : List ℕ). Bears on_text object drawn (left_after gone items) db)
      (append_assoc earlier (number ∷ []) todo) bears)))

-- ---- the guard of a change lets it pass
either-none : {X : Type 0} (one other : Option X) → option_or one other ≡ None → (one ≡ None) × (other ≡ None)
either-none None other none = (refl, none)
either-none (Some x) other none = absurd cc

items-pass : (on : Object) (adder : Adder) (items : List AuxRow) (deleted : List ℕ) (added : List AuxInput) →
    items_guard on adder items deleted added ≡ None →
    (refused_deleted adder items [] 0 deleted ≡ None)
    × (refused_added on adder (left_after deleted items) 0 added ≡ None)
unfolding refused_change
items-pass on adder items deleted added passes =
    either-none (refused_deleted adder items [] 0 deleted) (refused_added on adder (left_after deleted items) 0 added)
    (by (refused_change on adder items deleted added) passes) where
      by : (found : Option AuxRefusal) → (elim found as (λ _. Guard) [
        | None ↦ None
        | Some refused ↦ refusal refused.code (min refused.index 4294967295)
      ]) ≡ None → found ≡ None
      by None none = refl
      by (Some refused) none = absurd cc

pub new_items-can : (on : Object) (maker : ℕ) (added : List AuxInput) (creator moment : ℕ) →
    new_items_guard on maker added ≡ None → CanAdd 1 0 (items_from 1 creator moment added)
new_items-can on maker added creator moment passes =
    let adder : Adder = record { person = maker; owns = true } in
    let pass = items-pass on adder [] [] added passes in
    let few = added-few on adder [] 0 added pass.1 (omega arith) in
    added-can on adder [] 0 1 creator moment added pass.1 (omega (arith, few))

pub with_items-fit : (guard : Guard) (decision : Decision) (db : Db) →
    (guard ≡ None → all_fit decision.effects db ≡ true) → all_fit (with_items guard decision).effects db ≡ true
with_items-fit None decision db fit = fit refl
with_items-fit (Some refused) decision db fit = refl

-- ---- the calls
left-none : (items : List AuxRow) → left_after [] items ≡ items
left-none [] = refl
left-none (item ∷ items) = ap (λ (items : List AuxRow). item ∷ items) (left-none items)

changed-fits : (asked : Asked) (on_text : Bool) (on : Object) (adder : Adder) (change : AuxChange) →
    has_object asked.db on_text change.object ≡ true →
    all_fit (change_items asked on_text on adder change).effects asked.db ≡ true
changed-fits asked on_text on adder change there =
    let next : ℕ = next_item_of asked.db on_text change.object in
    let items : List AuxRow = items_of asked.db on_text change.object in
    let guards : List Guard =
    items_guard on adder items change.delete change.add ∷ numbers_guard asked.db on_text change ∷ [] in
    let added : List AuxRow = items_from next adder.person asked.moment change.add in
    with_items-fit (first_refusal guards) (done_with (item_effects asked on_text adder change) []) asked.db (λ passes.
    let pass = all-pass guards passes in
    let parts = items-pass on adder items change.delete change.add pass.0 in
    let last = leb-true (next + length change.add) (LAST_DRAWN + 1)
    (passed (nat_le (next + length change.add) (LAST_DRAWN + 1)) _ 0 pass.1.0) in
    gone-fit on_text change.object next adder items (items_added on_text change.object added) change.delete [] 0
    asked.db parts.0 (record { there = there; next = refl; items = sym (left-none items) })
    (λ db bears. items-alone on_text change.object next (left_after change.delete items) added db bears
    (added-can on adder (left_after change.delete items) 0 next adder.person asked.moment change.add parts.1 last)))

pub modify_text_info-fits : (asked : Asked) (change : AuxChange) → (modify_text_info asked change).early ≡ None →
    all_fit (modify_text_info asked change).rest.effects asked.db ≡ true
modify_text_info-fits asked change passes =
    let pass = all-pass (login_guard (caller asked) ∷ text_guard asked.db (caller asked) change.object ∷ []) passes in
    changed-fits asked true object.Text (text_adder asked.db (caller asked) change.object) change
    (text-there asked.db (caller asked) change.object pass.1.0)

pub modify_conf_info-fits : (asked : Asked) (change : AuxChange) → (modify_conf_info asked change).early ≡ None →
    all_fit (modify_conf_info asked change).rest.effects asked.db ≡ true
modify_conf_info-fits asked change passes =
    let pass = all-pass (login_guard (caller asked) ∷ conference_guard asked.db (caller asked) change.object ∷ [])
    passes in
    changed-fits asked false (object_of asked.db change.object)
    (conference_adder asked.db (caller asked) change.object) change
    (conference-there asked.db (caller asked) change.object pass.1.0)
