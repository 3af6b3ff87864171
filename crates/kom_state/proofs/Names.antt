-- The names of conferences by rising number: what becomes of them as the conferences change, and which are free.
use Rattle.std.proofs.Common.{◌≡◌, ℕ, ◌<◌, ◌⊎◌, Bool, true, false, cond, not, ◌&&◌, ◌||◌, eqb, ltb, List, [], ◌∷◌, map}
use Rattle.std.proofs.Common.{filter, Some, None, is_some, refl, sym, ap, ap₂, subst, ◌≤◌, ◌∙◌, inl, inr, true≢false}
use Rattle.std.proofs.Common.{arith}
use Rattle.std.specs.List.{AllByRecursion, list_any}
use Rattle.std.proofs.lemmas.Bool.{eq-eqb, ne_eqb, le-ltb, cases_order, cases_eq, cases_Bool, or_parts}
use Rattle.std.proofs.lemmas.Bool.{false_from_ne_true}
use Rattle.std.proofs.lemmas.Bool.Decides.{nat_tests}
use Rattle.std.proofs.lemmas.Option.{none-some, same_Some}
use Rattle.std.proofs.lemmas.Slice.Eq.{bytes_eq-Decides}
use Rattle.row_table.specs.Tables.{row_of, with_row, without_row, changed_row, AllAbove, IsByNumber}
use Rattle.kom_types.specs.declared.conferences.ConferenceRow.{ConferenceRow}
use Rattle.kom_types.specs.declared.effects.ConfField.{ConfField}
use Rattle.kom_types.specs.declared.effects.ConfField.TheVariants as field
use Rattle.kom_types.specs.Names.{fold, clash, finds}
use Rattle.kom_types.specs.tables.Conferences.{number_of_conference, with_field}
use Rattle.kom_types.specs.tables.Conferences as Conferences
use Rattle.name_lookup.specs.NamedRows.{Named, named_row, with_name, without_name, clash_of, matches_of, NoneClash}
use Rattle.kom_state.specs.Keeping.{name_row}

-- ---- names of rows that change
pub names-with_row : (row : ConferenceRow) (rows : List ConferenceRow) →
    map name_row (with_row number_of_conference row rows) ≡ with_name row.number row.name (map name_row rows)
names-with_row row [] = refl
names-with_row row (first ∷ rows) =
    by (eqb row.number first.number) (ltb row.number first.number) (names-with_row row rows)
  where
    by : (same below : Bool) →
        map name_row (with_row number_of_conference row rows) ≡ with_name row.number row.name (map name_row rows) →
        map name_row (cond same (row ∷ rows) (cond below (row ∷ first ∷ rows)
        (first ∷ with_row number_of_conference row rows)))
        ≡ cond same (name_row row ∷ map name_row rows) (cond below (name_row row ∷ name_row first ∷ map name_row rows)
        (name_row first ∷ with_name row.number row.name (map name_row rows)))
    by true below rest = refl
    by false true rest = refl
    by false false rest = ap (λ names. name_row first ∷ names) rest

pub names-without_row : (number : ℕ) (rows : List ConferenceRow) →
    map name_row (without_row number_of_conference number rows) ≡ without_name number (map name_row rows)
names-without_row number [] = refl
names-without_row number (row ∷ rows) = by (eqb row.number number) (names-without_row number rows)
  where
    by : (gone : Bool) →
        map name_row (without_row number_of_conference number rows) ≡ without_name number (map name_row rows) →
        map name_row (cond (not gone) (row ∷ without_row number_of_conference number rows)
        (without_row number_of_conference number rows))
        ≡ cond (not gone) (name_row row ∷ without_name number (map name_row rows))
        (without_name number (map name_row rows))
    by true rest = rest
    by false rest = ap (λ names. name_row row ∷ names) rest

pub names-kept : (number : ℕ) (change : ConferenceRow → ConferenceRow) (rows : List ConferenceRow) →
    ((row : ConferenceRow) → name_row (change row) ≡ name_row row) →
    map name_row (changed_row number_of_conference number change rows) ≡ map name_row rows
names-kept number change [] keeps = refl
names-kept number change (row ∷ rows) keeps =
    by (eqb row.number number) (names-kept number change rows keeps)
  where
    by : (here : Bool) → map name_row (changed_row number_of_conference number change rows) ≡ map name_row rows →
        name_row (cond here (change row) row) ∷ map name_row (changed_row number_of_conference number change rows)
        ≡ name_row row ∷ map name_row rows
    by true rest = cc (keeps row)
    by false rest = ap (λ names. name_row row ∷ names) rest

names-above : (number : ℕ) (change : ConferenceRow → ConferenceRow) (rows : List ConferenceRow) →
    AllAbove number_of_conference number rows →
    map name_row (changed_row number_of_conference number change rows) ≡ map name_row rows
names-above number change [] above = refl
names-above number change (row ∷ rows) above =
    let here : number < row.number = above.0 in
    let other : eqb row.number number ≡ false = ne_eqb _ _ (λ e. omega arith) in
    rw other (ap (λ names. name_row row ∷ names) (names-above number change rows above.1))

pub absent_above : (number bound : ℕ) (rows : List ConferenceRow) → number ≤ bound →
    AllAbove number_of_conference bound rows → is_some (row_of number_of_conference number rows) ≡ false
absent_above number bound [] below above = refl
absent_above number bound (row ∷ rows) below above =
    let here : bound < row.number = above.0 in
    let other : eqb row.number number ≡ false = ne_eqb _ _ (λ e. omega arith) in
    rw other (absent_above number bound rows below above.1)

pub names-renamed : (number : ℕ) (name : List ℕ) (rows : List ConferenceRow) →
    IsByNumber number_of_conference rows → is_some (row_of number_of_conference number rows) ≡ true →
    map name_row (changed_row number_of_conference number (Conferences.with_name name) rows)
    ≡ with_name number name (map name_row rows)
names-renamed number name [] rising there = absurd (true≢false (sym there))
names-renamed number name (row ∷ rows) rising there =
    by (names-renamed number name rows rising.1) (cases_order number row.number)
  where
    by : (is_some (row_of number_of_conference number rows) ≡ true →
        map name_row (changed_row number_of_conference number (Conferences.with_name name) rows)
        ≡ with_name number name (map name_row rows)) →
        (number ≡ row.number) ⊎ ((number < row.number) ⊎ (row.number < number)) →
        map name_row (changed_row number_of_conference number (Conferences.with_name name) (row ∷ rows))
        ≡ with_name number name (map name_row (row ∷ rows))
    by rest (inl same) =
        let above : AllAbove number_of_conference number rows =
        subst (λ n. AllAbove number_of_conference n rows) (sym same) rising.0 in
        rw (eq-eqb row.number number (sym same), eq-eqb number row.number same)
        (ap₂ (λ n names. named_row n name ∷ names) (sym same)
        (names-above number (Conferences.with_name name) rows above))
    by rest (inr (inl below)) =
        let other : eqb row.number number ≡ false = ne_eqb _ _ (λ e. omega arith) in
        let none = absent_above number row.number rows (omega arith) rising.0 in
        absurd (true≢false (sym (rw other at there) ∙ none))
    by rest (inr (inr above)) =
        let other : eqb row.number number ≡ false = ne_eqb _ _ (λ e. omega arith) in
        let other' : eqb number row.number ≡ false = ne_eqb _ _ (λ e. omega arith) in
        let later : ltb number row.number ≡ false = le-ltb _ _ (omega arith) in
        rw (other, other', later) (ap (λ names. name_row row ∷ names) (rest (rw other at there)))

pub name-with_field : (what : ConfField) (row : ConferenceRow) → name_row (with_field what row) ≡ name_row row
name-with_field (field.Presentation text) row = refl
name-with_field (field.Motd text) row = refl
name-with_field (field.Supervisor conference) row = refl
name-with_field (field.PermittedSubmitters conference) row = refl
name-with_field (field.SuperConference conference) row = refl
name-with_field (field.Kind kind) row = refl
name-with_field (field.Nice days) row = refl
name-with_field (field.KeepCommented days) row = refl
name-with_field (field.Expire days) row = refl
name-with_field (field.LastWritten at) row = refl

-- ---- which names are free
pub clash_back : (first second : List ℕ) → clash first second ≡ true → clash second first ≡ true
clash_back first second same =
    (bytes_eq-Decides (map fold second) (map fold first)).1
    (sym ((bytes_eq-Decides (map fold first) (map fold second)).0 same))

pub apart_back : (first second : List ℕ) → clash first second ≡ false → clash second first ≡ false
apart_back first second apart =
    false_from_ne_true _ (λ same. true≢false (sym (clash_back second first same) ∙ apart))

-- two names that clash with a third
clash_both : (name first second : List ℕ) → clash name first ≡ true → clash second name ≡ true →
    clash first second ≡ true
clash_both name first second one other =
    (bytes_eq-Decides (map fold first) (map fold second)).1
    (sym ((bytes_eq-Decides (map fold name) (map fold first)).0 one)
    ∙ sym ((bytes_eq-Decides (map fold second) (map fold name)).0 other))

-- whether a conference has another number, and a name that clashes
abbrev pub is_other : ℕ → List ℕ → ConferenceRow → Bool
is_other number name row = not (eqb row.number number) && clash row.name name

pub taken-free : (number : ℕ) (name : List ℕ) (rows : List ConferenceRow) →
    list_any (is_other number name) rows ≡ false → clash_of name (without_name number (map name_row rows)) ≡ None
taken-free number name [] free = refl
taken-free number name (row ∷ rows) free =
    let parts = or_parts (is_other number name row) (list_any (is_other number name) rows) free in
    by (taken-free number name rows parts.1) (cases_eq number row.number) parts.0
  where
    by : clash_of name (without_name number (map name_row rows)) ≡ None →
        (number ≡ row.number) ⊎ (number ≡ row.number → ⊥) → is_other number name row ≡ false →
        clash_of name (without_name number (map name_row (row ∷ rows))) ≡ None
    by rest (inl same) here = simp (eq-eqb number row.number same, eq-eqb row.number number (sym same)) rest
    by rest (inr other) here =
        let other' : eqb row.number number ≡ false = ne_eqb row.number number (λ e. other (sym e)) in
        let apart : clash row.name name ≡ false = rw other' at here in
        simp (other', ne_eqb number row.number other, apart_back row.name name apart) rest

or_false : (b : Bool) → ((b && false) || false) ≡ false
or_false true = refl
or_false false = refl

alone : (b rest answer : Bool) → not rest ≡ answer → not ((b && false) || rest) ≡ answer
alone true rest answer is = is
alone false rest answer is = is

none_other : (number : ℕ) (name first : List ℕ) (rows : List ConferenceRow) → clash name first ≡ true →
    AllByRecursion (λ (later : Named). clash first later.name ≡ false) (map name_row rows) →
    list_any (is_other number name) rows ≡ false
none_other number name first [] same apart = refl
none_other number name first (row ∷ rows) same apart =
    let away : clash row.name name ≡ false =
    false_from_ne_true _ (λ other. true≢false (sym (clash_both name first row.name same other) ∙ apart.0)) in
    let rest = none_other number name first rows same apart.1 in
    rw (away, rest) (or_false (not (eqb row.number number)))

pub free-not_taken : (number : ℕ) (name : List ℕ) (rows : List ConferenceRow) →
    clash_of name (map name_row rows) ≡ None →
    list_any (is_other number name) rows ≡ false
free-not_taken number name [] none = refl
free-not_taken number name (row ∷ rows) none =
    by (free-not_taken number name rows) (cases_Bool (clash name row.name)) none
  where
    by : (clash_of name (map name_row rows) ≡ None → list_any (is_other number name) rows ≡ false) →
        (clash name row.name ≡ true) ⊎ (clash name row.name ≡ false) →
        clash_of name (map name_row (row ∷ rows)) ≡ None →
        list_any (is_other number name) (row ∷ rows) ≡ false
    by rest (inl same) free = absurd (none-some row.number (sym (rw same at free)))
    by rest (inr apart) free =
        let away = apart_back name row.name apart in
        rw (away, rest (rw apart at free)) (or_false (not (eqb row.number number)))

pub free-taken : (number other : ℕ) (name : List ℕ) (rows : List ConferenceRow) → NoneClash (map name_row rows) →
    clash_of name (map name_row rows) ≡ Some other → not (list_any (is_other number name) rows) ≡ eqb other number
free-taken number other name [] apart at = absurd (none-some other at)
free-taken number other name (row ∷ rows) apart at =
    by (free-taken number other name rows apart.1) (cases_Bool (clash name row.name)) at
  where
    by : (clash_of name (map name_row rows) ≡ Some other →
        not (list_any (is_other number name) rows) ≡ eqb other number) →
        (clash name row.name ≡ true) ⊎ (clash name row.name ≡ false) →
        clash_of name (map name_row (row ∷ rows)) ≡ Some other →
        not (list_any (is_other number name) (row ∷ rows)) ≡ eqb other number
    by rest (inl same) found =
        let number' : row.number ≡ other = same_Some _ _ (rw same at found) in
        let rest' = none_other number name row.name rows same apart.0 in
        rw (clash_back name row.name same, rest', number') (grind (arith, nat_tests))
    by rest (inr away) found =
        let back = apart_back name row.name away in
        rw back (alone (not (eqb row.number number)) _ _ (rest (rw away at found)))

-- ---- what a pattern finds
pub found-names : (pattern : List ℕ) (rows : List ConferenceRow) →
    matches_of pattern (map name_row rows) ≡ map number_of_conference (filter (λ row. finds pattern row.name) rows)
found-names pattern [] = refl
found-names pattern (row ∷ rows) = by (finds pattern row.name) (found-names pattern rows)
  where
    by : (hit : Bool) →
        matches_of pattern (map name_row rows)
        ≡ map number_of_conference (filter (λ row. finds pattern row.name) rows) →
        map (λ (one : Named). one.number) (cond hit (name_row row ∷ filter (λ (one : Named). finds pattern one.name)
        (map name_row rows)) (filter (λ (one : Named). finds pattern one.name) (map name_row rows)))
        ≡ map number_of_conference (cond hit (row ∷ filter (λ (row : ConferenceRow). finds pattern row.name) rows)
        (filter (λ (row : ConferenceRow). finds pattern row.name) rows))
    by true rest = ap (λ numbers. row.number ∷ numbers) rest
    by false rest = rest
