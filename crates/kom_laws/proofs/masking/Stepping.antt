-- Effects one after the other come to the same rows but for what is masked; and a mask takes in one that hides less.
use Rattle.std.proofs.Common.{◌≡◌, ℕ, Bool, true, false, cond, not, ◌&&◌, List, [], ◌∷◌, refl, sym, ap, ap₂, ◌∙◌, inl}
use Rattle.std.proofs.Common.{inr}
use Rattle.std.specs.Prelude.{map}
use Rattle.std.specs.List.{filter}
use Rattle.std.proofs.lemmas.Bool.{cases_Bool, and_parts}
use Rattle.kom_types.specs.declared.aux_items.ItemRow.{ItemRow}
use Rattle.kom_types.specs.declared.effects.Effect.{Effect}
use Rattle.kom_model.specs.Db.{Db}
use Rattle.kom_model.specs.Effects.{after_effect, fits, apply, apply_all, all_fit}
use Rattle.kom_laws.specs.masking.Laws.{HidesMore}
use Rattle.kom_laws.specs.masking.Masks.{Mask, masked_db, masked_conference, stays_recipient, masked_text}
use Rattle.kom_laws.specs.masking.Masks.{masked_membership, masked_read, masked_person, stays_link, stays_item}
use Rattle.kom_laws.proofs.masking.Effects.{same-db, effect-masked}

-- an effect that fits is made
applied : (what : Effect) (db : Db) → fits what db ≡ true → apply what db ≡ after_effect what db
applied what db fit = rw fit refl

pub effects-masked : (mask : Mask) (effects : List Effect) (one other : Db) →
    all_fit effects one ≡ true → all_fit effects other ≡ true → masked_db mask one ≡ masked_db mask other →
    masked_db mask (apply_all effects one) ≡ masked_db mask (apply_all effects other)
effects-masked mask [] one other fit fit' same = same
effects-masked mask (what ∷ effects) one other fit fit' same =
    let first = and_parts (fits what one) (all_fit effects (apply what one)) fit in
    let first' = and_parts (fits what other) (all_fit effects (apply what other)) fit' in
    effects-masked mask effects (apply what one) (apply what other) first.1 first'.1
    (ap (masked_db mask) (applied what one first.0)
    ∙ sym (effect-masked mask one what)
    ∙ ap (λ db. masked_db mask (after_effect what db)) same
    ∙ effect-masked mask other what
    ∙ sym (ap (masked_db mask) (applied what other first'.0)))

-- rows that two masks go over, one after the other
map-wider : {X : Type 0} (mask wider : X → X) → ((row : X) → wider (mask row) ≡ wider row) → (rows : List X) →
    map wider (map mask rows) ≡ map wider rows
map-wider mask wider same [] = refl
map-wider {X} mask wider same (row ∷ rows) =
    ap₂ (λ (first : X) (others : List X). first ∷ others) (same row) (map-wider mask wider same rows)

filter-wider : {X : Type 0} (keep wider : X → Bool) → ((row : X) → wider row ≡ true → keep row ≡ true) →
    (rows : List X) → filter wider (filter keep rows) ≡ filter wider rows
filter-wider keep wider keeps [] = refl
filter-wider keep wider keeps (row ∷ rows) = elim (cases_Bool (wider row)) [
  | inl stays ↦ rw (keeps row stays) (rw stays (ap (λ rows. row ∷ rows) (filter-wider keep wider keeps rows)))
  | inr goes ↦ elim (cases_Bool (keep row)) [
    | inl kept ↦ rw kept (rw goes (filter-wider keep wider keeps rows))
    | inr gone ↦ rw (gone, goes) (filter-wider keep wider keeps rows)
  ]
]

-- a row of a number that the first mask hides, or not
row-wider : {X : Type 0} (number_of : X → ℕ) (hides wider : ℕ → Bool) (blank : X → X) →
    ((number : ℕ) → hides number ≡ true → wider number ≡ true) →
    ((row : X) → number_of (blank row) ≡ number_of row) → ((row : X) → blank (blank row) ≡ blank row) → (row : X) →
    (λ (row : X). cond (wider (number_of row)) (blank row) row) (cond (hides (number_of row)) (blank row) row)
    ≡ cond (wider (number_of row)) (blank row) row
row-wider number_of hides wider blank more numbers blanks row = elim (cases_Bool (hides (number_of row))) [
  | inl hidden ↦ rw hidden (rw (numbers row) (rw (more (number_of row) hidden) (blanks row)))
  | inr shown ↦ rw shown refl
]

both-wider : (a b a' b' : Bool) → (a ≡ true → a' ≡ true) → (b ≡ true → b' ≡ true) → not (a' && b') ≡ true →
    not (a && b) ≡ true
both-wider false b a' b' more more' stays = refl
both-wider true false a' b' more more' stays = refl
both-wider true true a' b' more more' stays = let one = more refl in let other = more' refl in rw (one, other) at stays

by-kind : (on_text text conference text' conference' : Bool) → (text ≡ true → text' ≡ true) →
    (conference ≡ true → conference' ≡ true) → cond on_text (not text') (not conference') ≡ true →
    cond on_text (not text) (not conference) ≡ true
by-kind true false conference text' conference' more more' stays = refl
by-kind true true conference text' conference' more more' stays = let one = more refl in rw one at stays
by-kind false text false text' conference' more more' stays = refl
by-kind false text true text' conference' more more' stays = let one = more' refl in rw one at stays

pub wider-masked : (mask wider : Mask) (db : Db) → HidesMore mask wider →
    masked_db wider (masked_db mask db) ≡ masked_db wider db
wider-masked mask wider db more = same-db
    (map-wider (masked_conference mask) (masked_conference wider) (row-wider (λ row. row.number)
    mask.conference wider.conference _ more.conference (λ row. refl) (λ row. refl)) db.conferences)
    (map-wider (masked_person mask) (masked_person wider) (row-wider (λ row. row.number)
    mask.person wider.person _ more.person (λ row. refl) (λ row. refl)) db.persons)
    (map-wider (masked_membership mask) (masked_membership wider) (row-wider (λ row. row.conference)
    mask.conference wider.conference _ more.conference (λ row. refl) (λ row. refl)) db.memberships)
    (map-wider (masked_read mask) (masked_read wider) (row-wider (λ row. row.conference)
    mask.conference wider.conference _ more.conference (λ row. refl) (λ row. refl)) db.reads)
    (map-wider (masked_text mask) (masked_text wider) (row-wider (λ row. row.number)
    mask.text wider.text _ more.text (λ row. refl) (λ row. refl)) db.texts)
    (filter-wider (stays_recipient mask) (stays_recipient wider)
    (λ row. both-wider (mask.text row.text) (mask.conference row.conference) _ _
    (more.text row.text) (more.conference row.conference)) db.recipients)
    (filter-wider (stays_link mask) (stays_link wider)
    (λ row. both-wider (mask.text row.child) (mask.text row.parent) _ _
    (more.text row.child) (more.text row.parent)) db.links)
    refl
    (filter-wider (stays_item mask) (stays_item wider) (λ (row : ItemRow). by-kind row.on_text
    (mask.text row.object) (mask.conference row.object) (wider.text row.object) (wider.conference row.object)
    (more.text row.object) (more.conference row.object)) db.items)
    refl refl
