-- Conferences that are added, changed and taken away stay whole.
use Rattle.std.proofs.Common.{◌≡◌, ℕ, ◌+◌, ◌<◌, ◌≤◌, Bool, true, false, cond, not, ◌==◌, ◌&&◌, List, [], ◌∷◌}
use Rattle.std.proofs.Common.{length, refl, sym, ◌∙◌, arith, inl, inr, eqb-true, eq-eqb, true≢false}
use Rattle.std.specs.Prelude.{map}
use Rattle.std.specs.List.{AllByRecursion, list_any}
use Rattle.std.proofs.lemmas.Bool.{cases_Bool, or_parts, or_from, not_from_false, not-true}
use Rattle.std.proofs.lemmas.Bool.{false_from_ne_true, ne_eqb, eqb-false}
use Rattle.std.proofs.lemmas.Slice.Eq.{bytes_eq-Decides}
use Rattle.kom_types.specs.declared.limits.TheConstants.{LAST_CONFERENCE, LONGEST_NAME}
use Rattle.row_table.specs.Tables.{with_row, without_row, changed_row}
use Rattle.row_table.proofs.Rows.{IsByNumber-with_row, IsByNumber-without_row, IsByNumber-changed_row}
use Rattle.kom_types.specs.declared.conferences.ConferenceRow.{ConferenceRow}
use Rattle.kom_types.specs.Names.{clash, fold}
use Rattle.kom_types.specs.tables.Conferences.{number_of_conference, with_name}
use Rattle.kom_model.specs.Whole.{AreConferences, is_apart}
use Rattle.kom_model.proofs.whole.Counts.{all-along, all-weaker, all-kept, all-mapped, all-picked, all-with_row}

-- ---- names that clash
clash-back : (first second : List ℕ) → clash first second ≡ true → clash second first ≡ true
clash-back first second same = (bytes_eq-Decides (map fold second) (map fold first)).1
    (sym ((bytes_eq-Decides (map fold first) (map fold second)).0 same))

apart-back : (first second : List ℕ) → clash first second ≡ false → clash second first ≡ false
apart-back first second apart =
    false_from_ne_true _ (λ same. true≢false (sym (clash-back second first same) ∙ apart))

no-more : (same : Bool) → (not same && false) ≡ false
no-more true = refl
no-more false = refl

-- another row than the one of this number has a name that clashes
abbrev bars : ℕ → List ℕ → ConferenceRow → Bool
bars number name row = not (row.number == number) && clash row.name name

bars-back : (one other : ConferenceRow) → bars one.number one.name other ≡ false →
    bars other.number other.name one ≡ false
bars-back one other apart = elim (cases_Bool (one.number == other.number)) [
  | inl same ↦ rw same refl
  | inr differ ↦
      let back : (other.number == one.number) ≡ false = ne_eqb _ _ (λ same. eqb-false _ _ differ (sym same)) in
      let names : clash other.name one.name ≡ false = rw back at apart in
      rw (differ, apart-back other.name one.name names) refl
]

-- none of some rows passes
pub none-any : {X : Type 0} (test : X → Bool) (rows : List X) → list_any test rows ≡ false →
    AllByRecursion (λ row. test row ≡ false) rows
none-any test [] none = tt
none-any test (row ∷ rows) none =
    let parts = or_parts (test row) (list_any test rows) none in (parts.0, none-any test rows parts.1)

any-none : {X : Type 0} (test : X → Bool) (rows : List X) → AllByRecursion (λ row. test row ≡ false) rows →
    list_any test rows ≡ false
any-none test [] none = refl
any-none test (row ∷ rows) none = or_from (test row) (list_any test rows) none.0 (any-none test rows none.1)

-- a row is apart from rows that do not bar it
apart-from : (rows : List ConferenceRow) (one : ConferenceRow) →
    AllByRecursion (λ row. bars one.number one.name row ≡ false) rows → is_apart rows one ≡ true
apart-from rows one none = not_from_false _ (any-none (bars one.number one.name) rows none)

apart-none : (rows : List ConferenceRow) (one : ConferenceRow) → is_apart rows one ≡ true →
    AllByRecursion (λ row. bars one.number one.name row ≡ false) rows
apart-none rows one apart = none-any (bars one.number one.name) rows (not-true _ apart)

module _ (rows : List ConferenceRow) (next : ℕ) (whole : AreConferences rows next) where
  -- a conference of a new number, and of a free name
  pub conferences-more : (given : ConferenceRow) → next ≤ given.number → given.number ≤ LAST_CONFERENCE →
      length given.name ≤ LONGEST_NAME → list_any (bars given.number given.name) rows ≡ false →
      AreConferences (with_row number_of_conference given rows) (given.number + 1)
  conferences-more given new last short free =
      let others : AllByRecursion (λ row. bars given.number given.name row ≡ false) rows =
      none-any (bars given.number given.name) rows free in
      record {
        rising = IsByNumber-with_row number_of_conference given rows whole.rising;
        positive = all-with_row number_of_conference (λ row. 0 < row.number) given rows
            (omega (arith, whole.begun, new)) whole.positive;
        drawn = all-with_row number_of_conference (λ row. row.number < given.number + 1) given rows (omega arith)
            (all-weaker (λ row. row.number < next) (λ row. row.number < given.number + 1)
            (λ row less. omega (arith, less, new)) rows whole.drawn);
        begun = omega arith;
        limited = omega arith;
        short = all-with_row number_of_conference (λ row. length row.name ≤ LONGEST_NAME) given rows short whole.short;
        apart = all-with_row number_of_conference
            (λ one. is_apart (with_row number_of_conference given rows) one ≡ true) given rows
            (apart-from _ given (all-with_row number_of_conference (λ row. bars given.number given.name row ≡ false)
            given rows (rw (eq-eqb given.number given.number refl) refl) others))
            (all-along (λ one. is_apart rows one ≡ true) (λ one. bars given.number given.name one ≡ false)
            (λ one. is_apart (with_row number_of_conference given rows) one ≡ true)
            (λ one apart here. apart-from _ one (all-with_row number_of_conference
            (λ row. bars one.number one.name row ≡ false) given rows (bars-back given one here)
            (apart-none rows one apart))) rows whole.apart others);
      }

  pub conferences-fewer : (gone : ℕ) → AreConferences (without_row number_of_conference gone rows) next
  conferences-fewer gone = record {
    rising = IsByNumber-without_row number_of_conference gone rows whole.rising;
    positive = all-kept _ (λ row. not (row.number == gone)) rows whole.positive;
    drawn = all-kept _ (λ row. not (row.number == gone)) rows whole.drawn;
    begun = whole.begun;
    limited = whole.limited;
    short = all-kept _ (λ row. not (row.number == gone)) rows whole.short;
    apart = all-kept (λ one. is_apart (without_row number_of_conference gone rows) one ≡ true)
        (λ row. not (row.number == gone)) rows
        (all-weaker (λ one. is_apart rows one ≡ true)
        (λ one. is_apart (without_row number_of_conference gone rows) one ≡ true)
        (λ one apart. apart-from _ one (all-kept (λ row. bars one.number one.name row ≡ false)
        (λ row. not (row.number == gone)) rows (apart-none rows one apart))) rows whole.apart);
  }

  -- a change that keeps the number and the name
  pub conferences-same : (at : ℕ) (change : ConferenceRow → ConferenceRow) →
      ((row : ConferenceRow) → (change row).number ≡ row.number) →
      ((row : ConferenceRow) → (change row).name ≡ row.name) →
      AreConferences (changed_row number_of_conference at change rows) next
  conferences-same at change numbers names = record {
    rising = IsByNumber-changed_row number_of_conference change numbers at rows whole.rising;
    positive = all-picked (λ row. 0 < row.number) (λ row. 0 < row.number) (λ row. row.number == at) change
        (λ row is less. omega (arith, less, numbers row)) (λ row less. less) rows whole.positive;
    drawn = all-picked (λ row. row.number < next) (λ row. row.number < next) (λ row. row.number == at) change
        (λ row is less. omega (arith, less, numbers row)) (λ row less. less) rows whole.drawn;
    begun = whole.begun;
    limited = whole.limited;
    short = all-picked (λ row. length row.name ≤ LONGEST_NAME) (λ row. length row.name ≤ LONGEST_NAME)
        (λ row. row.number == at) change (λ row is less. rw (names row) less) (λ row less. less) rows whole.short;
    apart = all-picked (λ one. is_apart rows one ≡ true)
        (λ one. is_apart (changed_row number_of_conference at change rows) one ≡ true) (λ row. row.number == at) change
        (λ one is apart. apart-from _ (change one) (unbarred (change one).number (change one).name
        (rw (numbers one, names one) (apart-none rows one apart))))
        (λ one apart. apart-from _ one (unbarred one.number one.name (apart-none rows one apart))) rows whole.apart;
  } where
    unbarred : (number : ℕ) (name : List ℕ) → AllByRecursion (λ row. bars number name row ≡ false) rows →
        AllByRecursion (λ row. bars number name row ≡ false) (changed_row number_of_conference at change rows)
    unbarred number name none = all-picked (λ row. bars number name row ≡ false) (λ row. bars number name row ≡ false)
        (λ row. row.number == at) change (λ row is here. rw (numbers row, names row) here) (λ row here. here) rows none

  -- a name that is free but for its conference
  pub conferences-named : (number : ℕ) (name : List ℕ) → length name ≤ LONGEST_NAME →
      list_any (bars number name) rows ≡ false →
      AreConferences (changed_row number_of_conference number (with_name name) rows) next
  conferences-named number name short free =
      let others : AllByRecursion (λ row. bars number name row ≡ false) rows = none-any (bars number name) rows free in
      record {
        rising = IsByNumber-changed_row number_of_conference (with_name name) (λ row. refl) number rows whole.rising;
        positive = all-picked (λ row. 0 < row.number) (λ row. 0 < row.number) (λ row. row.number == number)
            (with_name name) (λ row is less. less) (λ row less. less) rows whole.positive;
        drawn = all-picked (λ row. row.number < next) (λ row. row.number < next) (λ row. row.number == number)
            (with_name name) (λ row is less. less) (λ row less. less) rows whole.drawn;
        begun = whole.begun;
        limited = whole.limited;
        short = all-picked (λ row. length row.name ≤ LONGEST_NAME) (λ row. length row.name ≤ LONGEST_NAME)
            (λ row. row.number == number) (with_name name) (λ row is less. short) (λ row less. less) rows whole.short;
        apart = all-mapped (λ one. (is_apart rows one ≡ true) × (bars number name one ≡ false))
            (λ one. is_apart (changed_row number_of_conference number (with_name name) rows) one ≡ true)
            (λ row. cond (row.number == number) (with_name name row) row) named rows
            (all-along (λ one. is_apart rows one ≡ true) (λ one. bars number name one ≡ false)
            (λ one. (is_apart rows one ≡ true) × (bars number name one ≡ false)) (λ one apart here. (apart, here)) rows
            whole.apart others);
      } where
        named : (one : ConferenceRow) → (is_apart rows one ≡ true) × (bars number name one ≡ false) →
            is_apart (changed_row number_of_conference number (with_name name) rows)
            (cond (one.number == number) (with_name name one) one) ≡ true
        named one both = elim (cases_Bool (one.number == number)) [
          | inl here ↦
              let same : one.number ≡ number = eqb-true _ _ here in
              rw here (apart-from _ (with_name name one) (all-picked (λ row. bars number name row ≡ false)
              (λ row. bars one.number name row ≡ false) (λ row. row.number == number) (with_name name)
              (λ row is free. rw same (rw is refl)) (λ row free. rw same free) rows
              (none-any (bars number name) rows free)))
          | inr there ↦ rw there (apart-from _ one (all-picked (λ row. bars one.number one.name row ≡ false)
              (λ row. bars one.number one.name row ≡ false) (λ row. row.number == number) (with_name name)
              (λ row is free.
              let at : row.number ≡ number = eqb-true _ _ is in
              let names : clash one.name name ≡ false = rw there at both.1 in
              rw (apart-back one.name name names) (no-more (row.number == one.number)))
              (λ row free. free) rows (apart-none rows one both.0)))
        ]
