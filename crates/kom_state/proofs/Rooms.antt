-- Room for each effect of a list is room for the list.
use Rattle.std.proofs.Common.{◌≡◌, ℕ, ◌+◌, ◌<◌, ◌≤◌, ◌⊎◌, Bool, true, false, cond, List, [], ◌∷◌, ◌++◌, length, take}
use Rattle.std.proofs.Common.{drop, get_or, Option, Some, None, is_some, count_by, All, refl, sym, ap, subst, ◌∙◌, inl}
use Rattle.std.proofs.Common.{inr, true≢false, arith}
use Rattle.std.specs.List.{filter_map, cons_option}
use Rattle.std.proofs.Common.{take-append-drop}
use Rattle.std.proofs.lemmas.List.{take_more}
use Rattle.std.proofs.lemmas.Bool.{eqb-true, cases_Bool}
use Rattle.std.proofs.lemmas.List.Elements.{All-tail, filter_map-append}
use Rattle.kom_types.specs.declared.effects.Effect.{Effect}
use Rattle.memberships.specs.Table.{Table, KeepsRoom, room_of_person, room_of_conference}
use Rattle.memberships.specs.Table.{HasRoom as HasRoomAt}
use Rattle.kom_state.specs.Room.{key_set, sets_membership, sets_for_person, sets_in_conference, name_given}
use Rattle.kom_state.specs.Room.{HasMemberRoom, IsAtMostOne, IsOrderly, IsReady}
use Rattle.kom_state.proofs.Using.{count_by-cons}

-- where an effect sets a membership, there is room for so many of its kind
pub record IsReservedFor (table : Table) (count : ℕ) (what : Effect) : Type 0 where
  pub spare : sets_membership what ≡ true → count ≤ table.spare
  pub of_person : (number : ℕ) → sets_for_person number what ≡ true → count ≤ room_of_person table number
  pub of_conference : (number : ℕ) → sets_in_conference number what ≡ true → count ≤ room_of_conference table number

pub IsReservedFor-kept : (old new : Table) (count : ℕ) → KeepsRoom old new → (what : Effect) →
    IsReservedFor old count what → IsReservedFor new count what
IsReservedFor-kept old new count keeps what is = record {
  spare = λ does. let has : count ≤ old.spare = is.spare does in omega arith;
  of_person = λ number does. omega (arith, is.of_person number does, keeps.persons number);
  of_conference = λ number does. omega (arith, is.of_conference number does, keeps.conferences number);
}

pub IsReservedFor-set : (table : Table) (count person conference : ℕ) (what : Effect) →
    key_set what ≡ Some (person, conference) → HasRoomAt table person conference count → IsReservedFor table count what
IsReservedFor-set table count person conference what key has = record {
  spare = λ does. has.spare;
  of_person = λ number does.
      subst (λ n. count ≤ room_of_person table n) (eqb-true person number (rw (key, sets_for_person) at does))
      has.of_person;
  of_conference = λ number does.
      subst (λ n. count ≤ room_of_conference table n)
      (eqb-true conference number (rw (key, sets_in_conference) at does)) has.of_conference;
}

pub IsReservedFor-none : (table : Table) (count : ℕ) (what : Effect) → key_set what ≡ None →
    IsReservedFor table count what
IsReservedFor-none table count what none = record {
  spare = λ does. absurd (true≢false (sym (rw none at does)));
  of_person = λ number does. absurd (true≢false (sym (rw (none, sets_for_person) at does)));
  of_conference = λ number does. absurd (true≢false (sym (rw (none, sets_in_conference) at does)));
}

pub enough : (p : Effect → Bool) (room count : ℕ) (effects : List Effect) →
    All (λ what. p what ≡ true → count ≤ room) effects → count_by p effects ≤ count → count_by p effects ≤ room
enough p room count [] each within = omega arith
enough p room count (what ∷ effects) each within =
    by (enough p room count effects (All-tail (λ what. p what ≡ true → count ≤ room) what effects each))
    (cases_Bool (p what))
  where
    by : (count_by p effects ≤ count → count_by p effects ≤ room) → (p what ≡ true) ⊎ (p what ≡ false) →
        count_by p (what ∷ effects) ≤ room
    by rest (inl does) = let has : count ≤ room = each 0 what (omega arith) does in omega arith
    by rest (inr not) =
        let none : cond {A = ℕ} (p what) 1 0 ≡ 0 = rw not refl in
        let later : count_by p effects ≤ room = rest (omega (arith, count_by-cons p what effects, none)) in
        omega (arith, count_by-cons p what effects, none)

pub fewer : (p q : Effect → Bool) → ((what : Effect) → p what ≡ true → q what ≡ true) → (effects : List Effect) →
    count_by p effects ≤ count_by q effects
fewer p q stronger [] = omega arith
fewer p q stronger (what ∷ effects) = by (fewer p q stronger effects) (cases_Bool (p what))
  where
    by : count_by p effects ≤ count_by q effects → (p what ≡ true) ⊎ (p what ≡ false) →
        count_by p (what ∷ effects) ≤ count_by q (what ∷ effects)
    by rest (inl does) =
        let one : cond {A = ℕ} (p what) 1 0 ≡ 1 = rw does refl in
        let other : cond {A = ℕ} (q what) 1 0 ≡ 1 = rw (stronger what does) refl in
        omega (arith, count_by-cons p what effects, count_by-cons q what effects, one, other)
    by rest (inr not) =
        let none : cond {A = ℕ} (p what) 1 0 ≡ 0 = rw not refl in
        omega (arith, count_by-cons p what effects, count_by-cons q what effects, none)

for_person_sets : (number : ℕ) (what : Effect) → sets_for_person number what ≡ true → sets_membership what ≡ true
for_person_sets number what does = by (key_set what) refl does
  where
    by : (key : Option (ℕ × ℕ)) → key_set what ≡ key → sets_for_person number what ≡ true → is_some key ≡ true
    by None is does = absurd (true≢false (sym (rw (is, sets_for_person) at does)))
    by (Some key) is does = refl

in_conference_sets : (number : ℕ) (what : Effect) → sets_in_conference number what ≡ true → sets_membership what ≡ true
in_conference_sets number what does = by (key_set what) refl does
  where
    by : (key : Option (ℕ × ℕ)) → key_set what ≡ key → sets_in_conference number what ≡ true → is_some key ≡ true
    by None is does = absurd (true≢false (sym (rw (is, sets_in_conference) at does)))
    by (Some key) is does = refl

pub HasMemberRoom-from : (table : Table) (count : ℕ) (effects : List Effect) → All (IsReservedFor table count) effects →
    count ≡ count_by sets_membership effects → HasMemberRoom table effects
HasMemberRoom-from table count effects each is = record {
  spare = enough sets_membership _ count effects (λ k d lt. (each k d lt).spare) (omega arith);
  of_person = λ number. enough (sets_for_person number) _ count effects (λ k d lt. (each k d lt).of_person number)
      (omega (arith, fewer (sets_for_person number) sets_membership (for_person_sets number) effects));
  of_conference = λ number.
      enough (sets_in_conference number) _ count effects (λ k d lt. (each k d lt).of_conference number)
      (omega (arith, fewer (sets_in_conference number) sets_membership (in_conference_sets number) effects));
}

-- ---- the name that effects give
pub names-more : (effects : List Effect) (at : ℕ) (what : Effect) → at < length effects →
    what ≡ get_or effects at what → filter_map name_given (take at effects) ≡ [] →
    filter_map name_given (take (at + 1) effects) ≡ cons_option (name_given what) []
names-more effects at what lt is none =
    ap (filter_map name_given) (take_more effects at what lt)
    ∙ filter_map-append name_given (take at effects) (get_or effects at what ∷ [])
    ∙ rw (none, ← is) refl

only_name : (names rest : List (List ℕ)) (name : List ℕ) (ready : Option (List ℕ)) → names ≡ name ∷ rest →
    IsAtMostOne names → ready ≡ Some name → IsReady ready names
only_name names rest name ready is =
    subst (λ ns. IsAtMostOne ns → ready ≡ Some name → IsReady ready ns) (sym is)
    (λ one is_ready. subst (λ ns. IsReady ready (name ∷ ns)) (sym one) is_ready)

-- the first name that orderly effects give is the only one
pub IsReady-first : (effects : List Effect) (at : ℕ) (what : Effect) (name : List ℕ) (ready : Option (List ℕ)) →
    IsOrderly effects → at < length effects → what ≡ get_or effects at what →
    filter_map name_given (take at effects) ≡ [] → name_given what ≡ Some name → ready ≡ Some name →
    IsReady ready (filter_map name_given effects)
IsReady-first effects at what name ready orderly lt is none gives is_ready =
    let rest = filter_map name_given (drop (at + 1) effects) in
    let first = names-more effects at what lt is none ∙ ap (λ given. cons_option given []) gives in
    only_name _ rest name ready
    (ap (filter_map name_given) (sym (take-append-drop (at + 1) effects))
    ∙ filter_map-append name_given (take (at + 1) effects) (drop (at + 1) effects) ∙ ap (λ names. names ++ rest) first)
    orderly is_ready
