-- The rows in a map, each under its number, when one is looked up, comes, changes or goes.
use Rattle.std.proofs.Common.{◌≡◌, ℕ, Bool, true, false, cond, eqb, not, List, [], ◌∷◌, ◌++◌, Some, None}
use Rattle.std.proofs.Common.{Option, IsSome, is_some, MutBor, true≢false, refl, sym, ap, ap₂, ◌∙◌, inl, inr, ⊎_elim}
use Rattle.std.specs.Option.{option_copied_mut}
use Rattle.std.specs.List.{find, filter}
use Rattle.std.specs.Map.{keys_of, values_of, lookup, set_value, remove_entry}
use Rattle.std.proofs.lemmas.Bool.{cases_Bool, cases_eq, ne_eqb, eq-eqb, eqb-true}
use Rattle.std.proofs.lemmas.List.{map-append}
use Rattle.indexmap.specs.IndexMap.{IndexMap, keys, values, get, insert_entry, shift_remove_entry}
use Rattle.indexmap.proofs.CallerLemmas.{insert_entry-new}
use Rattle.kom_types.specs.Sessions.{Session, is_session}
use Rattle.sessions.specs.Rows.{IsRising, AllBelow, AreNumbered, numbers_of, with_row}
use Rattle.sessions.proofs.Rising.{number_of, KeepsNumbers, none_above, none_below, with_row-none, filter-none}
use Rattle.sessions.proofs.Rising.{IsRising-push, IsRising-changed, IsRising-filter}

-- each row is under its number
abbrev Numbered : List (ℕ × Session) → Type 0
Numbered entries = keys_of entries ≡ numbers_of (values_of entries)

-- the key says of which session a row is
key-says : (number : ℕ) (entry : ℕ × Session) → entry.0 ≡ number_of entry.1 →
    eqb number entry.0 ≡ is_session number entry.1
key-says number entry under =
    rw under (⊎_elim
    (λ same.
    let here : eqb number (number_of entry.1) ≡ true = eq-eqb _ _ same in
    let here' : is_session number entry.1 ≡ true = eq-eqb _ _ (sym same) in rw (here, here') refl)
    (λ apart.
    let other : eqb number (number_of entry.1) ≡ false = ne_eqb _ _ apart in
    let other' : is_session number entry.1 ≡ false = ne_eqb _ _ (λ e. apart (sym e)) in rw (other, other') refl)
    (cases_eq number (number_of entry.1)))

lookup-numbered : (number : ℕ) (entries : List (ℕ × Session)) → Numbered entries →
    lookup (eqb number) entries ≡ find (is_session number) (values_of entries)
lookup-numbered number [] numbered = refl
lookup-numbered number (entry ∷ entries) numbered =
    let under : entry.0 ≡ number_of entry.1 = cc in
    let rest : Numbered entries = cc in
    ap₂ (λ test found. cond test (Some entry.1) found) (key-says number entry under)
    (lookup-numbered number entries rest)

values-set : (number : ℕ) (change : Session → Session) (old : Session) (entries : List (ℕ × Session)) →
    Numbered entries → IsRising (values_of entries) → find (is_session number) (values_of entries) ≡ Some old →
    values_of (set_value (eqb number) entries (change old)) ≡ with_row number change (values_of entries)
values-set number change old [] numbered rising found = refl
values-set number change old (entry ∷ entries) numbered rising found =
    let under : entry.0 ≡ number_of entry.1 = cc in
    let rest : Numbered entries = cc in
    elim (cases_Bool (is_session number entry.1)) [
      | inl here ↦
          let hit : eqb number entry.0 ≡ true = key-says number entry under ∙ here in
          let same : Some entry.1 ≡ Some old = rw here at found in
          let old_is : old ≡ entry.1 = cc in
          let number_is : number_of entry.1 ≡ number = eqb-true _ _ here in
          let none = none_above number (values_of entries) (rw number_is at rising.0) in
          rw (here, hit, old_is)
          (ap (λ rows. change entry.1 ∷ rows) (sym (with_row-none number change (values_of entries) none)))
      | inr there ↦
          let missed : eqb number entry.0 ≡ false = key-says number entry under ∙ there in
          rw (there, missed) (ap (λ rows. entry.1 ∷ rows)
          (values-set number change old entries rest rising.1 (rw there at found)))
    ]

values-removed : (number : ℕ) (entries : List (ℕ × Session)) → Numbered entries → IsRising (values_of entries) →
    values_of (remove_entry (eqb number) entries) ≡ filter (λ row. not (is_session number row)) (values_of entries)
values-removed number [] numbered rising = refl
values-removed number (entry ∷ entries) numbered rising =
    let under : entry.0 ≡ number_of entry.1 = cc in
    let rest : Numbered entries = cc in
    elim (cases_Bool (is_session number entry.1)) [
      | inl here ↦
          let hit : eqb number entry.0 ≡ true = key-says number entry under ∙ here in
          let number_is : number_of entry.1 ≡ number = eqb-true _ _ here in
          let none = none_above number (values_of entries) (rw number_is at rising.0) in
          rw (here, hit) (sym (filter-none number (values_of entries) none))
      | inr there ↦
          let missed : eqb number entry.0 ≡ false = key-says number entry under ∙ there in
          rw (there, missed) (ap (λ rows. entry.1 ∷ rows) (values-removed number entries rest rising.1))
    ]

numbered-removed : (test : ℕ → Bool) (entries : List (ℕ × Session)) → Numbered entries →
    Numbered (remove_entry test entries)
numbered-removed test [] numbered = refl
numbered-removed test (entry ∷ entries) numbered =
    let under : entry.0 ≡ number_of entry.1 = cc in
    let rest : Numbered entries = cc in
    elim (test entry.0) as (λ b. Numbered (cond b entries (entry ∷ remove_entry test entries))) [
      | true ↦ rest
      | false ↦ ap₂ (λ key others. key ∷ others) under (numbered-removed test entries rest)
    ]

numbers-changed : (number : ℕ) (change : Session → Session) → KeepsNumbers change → (rows : List Session) →
    numbers_of (with_row number change rows) ≡ numbers_of rows
numbers-changed number change keeps [] = refl
numbers-changed number change keeps (row ∷ rows) =
    let rest = numbers-changed number change keeps rows in
    elim (is_session number row) as (λ b. number_of (cond b (change row) row) ∷ numbers_of (with_row number change rows)
    ≡ number_of row ∷ numbers_of rows) [
      | true ↦ ap₂ (λ first others. first ∷ others) (keeps row) rest
      | false ↦ ap (λ others. number_of row ∷ others) rest
    ]

-- a row is found under its number
pub got : {S : Type 0} (rows : IndexMap ℕ Session S) → AreNumbered rows → (number : ℕ) →
    get eqb rows number ≡ find (is_session number) (values rows)
got rows numbered number = lookup-numbered number rows.entries numbered

-- and is lent to be written
pub lent : {S : Type 0} (rows : IndexMap ℕ Session S) → AreNumbered rows → (number : ℕ)
    (row : Option (MutBor Session)) → option_copied_mut row ≡ get eqb rows number →
    IsSome (find (is_session number) (values rows)) → IsSome row
lent rows numbered number None is there =
    absurd (true≢false (sym there ∙ sym (ap is_some (is ∙ got rows numbered number))))
lent rows numbered number (Some row) is there = refl

module _ {S : Type 0} (old new : IndexMap ℕ Session S) (rises : IsRising (values old)) (keyed : AreNumbered old) where
  -- what a write of one row leaves of the rows
  pub record Written (number : ℕ) (change : Session → Session) (row : Session) : Type 0 where
    pub found : find (is_session number) (values old) ≡ Some row
    pub changed : values new ≡ with_row number change (values old)
    pub rising : IsRising (values new)
    pub numbered : AreNumbered new

  pub written : (number : ℕ) (change : Session → Session) (row after : Session) → KeepsNumbers change →
      get eqb old number ≡ Some row → after ≡ change row → new.entries ≡ set_value (eqb number) old.entries after →
      keys new ≡ keys old → Written number change row
  written number change row after keeps there is wrote same =
      let found = sym (got old keyed number) ∙ there in
      let changed : values new ≡ with_row number change (values old) =
      ap values_of wrote ∙ rw is (values-set number change row old.entries keyed rises found) in
      record {
        found = found;
        changed = changed;
        rising = rw changed (IsRising-changed number change keeps (values old) rises);
        numbered = same ∙ keyed ∙ rw changed (sym (numbers-changed number change keeps (values old)));
      }

  -- what an addition leaves
  pub record Added (row : Session) : Type 0 where
    pub pushed : values new ≡ values old ++ row ∷ []
    pub rising : IsRising (values new)
    pub numbered : AreNumbered new

  pub added : (number : ℕ) (row : Session) → number ≡ number_of row → AllBelow (number_of row) (values old) →
      new.entries ≡ insert_entry eqb old.entries number row → Added row
  added number row is below put =
      let absent : get eqb old number ≡ None =
      got old keyed number ∙ rw is (none_below (number_of row) (values old) below) in
      let entries : new.entries ≡ old.entries ++ (number, row) ∷ [] =
      put ∙ insert_entry-new eqb old number row absent in
      let pushed : values new ≡ values old ++ row ∷ [] = ap values_of entries ∙ map-append (λ e. e.1) old.entries _ in
      record {
        pushed = pushed;
        rising = rw pushed (IsRising-push row (values old) below rises);
        numbered = ap keys_of entries ∙ map-append (λ e. e.0) old.entries _
            ∙ ap₂ (λ those this. those ++ this ∷ []) keyed is
            ∙ sym (ap numbers_of pushed ∙ map-append number_of (values old) _);
      }

  -- what a removal leaves, if there was a row or not
  pub record Removed (number : ℕ) : Type 0 where
    pub filtered : values new ≡ filter (λ row. not (is_session number row)) (values old)
    pub rising : IsRising (values new)
    pub numbered : AreNumbered new

  pub removed : (number : ℕ) → new.entries ≡ shift_remove_entry (eqb number) old.entries → Removed number
  removed number took =
      let filtered : values new ≡ filter (λ row. not (is_session number row)) (values old) =
      ap values_of took ∙ values-removed number old.entries keyed rises in
      record {
        filtered = filtered;
        rising = rw filtered (IsRising-filter (λ row. not (is_session number row)) (values old) rises);
        numbered = rw took (numbered-removed (eqb number) old.entries keyed);
      }
