-- Names that clash, among rows by rising number.
use Rattle.std.proofs.Common.{◌≡◌, ℕ, ◌<◌, ◌⊎◌, Bool, true, false, cond, not, eqb, List, [], ◌∷◌, map, filter, Some}
use Rattle.std.proofs.Common.{None, refl, sym, ap, subst, ◌∙◌, inl, inr, true≢false, arith}
use Rattle.std.specs.List.{AllByRecursion}
use Rattle.std.proofs.lemmas.Bool.{eq-eqb, ne_eqb, cases_order, cases_eq, cases_Bool, false_from_ne_true}
use Rattle.std.proofs.lemmas.Option.{none-some, same_Some}
use Rattle.std.proofs.lemmas.Slice.Eq.{bytes_eq-Decides}
use Rattle.kom_types.specs.Names.{fold, clash}
use Rattle.name_lookup.specs.NamedRows.{Named, with_name, without_name, clash_of, NoneClash}
use Rattle.name_lookup.proofs.Rows.{AllAbove, IsRising, name_at, name_at-none, name_at-here, name_at-tail}
use Rattle.name_lookup.proofs.Rows.{AllAbove-lower, with_name-at, with_name-before, with_name-after, all_with_name}
use Rattle.name_lookup.proofs.Rows.{all_filter}

pub folds_alike : (first second : List ℕ) → clash first second ≡ true → map fold first ≡ map fold second
folds_alike first second same = (bytes_eq-Decides (map fold first) (map fold second)).0 same

clash_from : (first second : List ℕ) → map fold first ≡ map fold second → clash first second ≡ true
clash_from first second same = (bytes_eq-Decides (map fold first) (map fold second)).1 same

pub clash_back : (first second : List ℕ) → clash first second ≡ true → clash second first ≡ true
clash_back first second same = clash_from second first (sym (folds_alike first second same))

-- two names that clash with a third
clash_both : (name first second : List ℕ) → clash name first ≡ true → clash name second ≡ true →
    clash first second ≡ true
clash_both name first second one other =
    clash_from first second (sym (folds_alike name first one) ∙ folds_alike name second other)

not_back : (first second : List ℕ) → clash first second ≡ false → clash second first ≡ false
not_back first second apart =
    false_from_ne_true _ (λ alike. true≢false (sym (clash_back second first alike) ∙ apart))

-- what holds of all rows holds of the row of a number
all_at : (P : List ℕ → Type 0) (number : ℕ) (held : List ℕ) (rows : List Named) →
    AllByRecursion (λ later. P later.name) rows → name_at number rows ≡ Some held → P held
all_at P number held [] all at = absurd (none-some held at)
all_at P number held (one ∷ rows) all at = by (all_at P number held rows all.1) (cases_eq number one.number)
  where
    by : (name_at number rows ≡ Some held → P held) → (number ≡ one.number) ⊎ (number ≡ one.number → ⊥) → P held
    by rest (inl here) = subst P (same_Some _ _ (rw (eq-eqb number one.number here) at at)) all.0
    by rest (inr other) = rest (rw (ne_eqb number one.number other) at at)

-- the number of a name that clashes is that of the first
pub taken_is : (name : List ℕ) (number : ℕ) (held : List ℕ) (rows : List Named) → NoneClash rows →
    name_at number rows ≡ Some held → clash name held ≡ true → clash_of name rows ≡ Some number
taken_is name number held [] none at same = absurd (none-some held at)
taken_is name number held (one ∷ rows) none at same =
    by (λ later. taken_is name number held rows none.1 later same)
    (cases_Bool (clash name one.name)) (cases_eq number one.number)
  where
    by : (name_at number rows ≡ Some held → clash_of name rows ≡ Some number) →
        (clash name one.name ≡ true) ⊎ (clash name one.name ≡ false) →
        (number ≡ one.number) ⊎ (number ≡ one.number → ⊥) → clash_of name (one ∷ rows) ≡ Some number
    by rest (inl alike) (inl here) = rw alike (ap (λ n. Some n) (sym here))
    by rest (inl alike) (inr other) =
        let apart : clash one.name held ≡ false =
        all_at (λ later. clash one.name later ≡ false) number held rows none.0
        (rw (ne_eqb number one.number other) at at) in
        absurd (true≢false (sym (clash_both name one.name held alike same) ∙ apart))
    by rest (inr apart) (inl here) =
        let held' : one.name ≡ held = same_Some _ _ (rw (eq-eqb number one.number here) at at) in
        absurd (true≢false (sym same ∙ rw (← held') apart))
    by rest (inr apart) (inr other) = rw apart (rest (rw (ne_eqb number one.number other) at at))

pub taken_none : (name : List ℕ) (rows : List Named) → IsRising rows →
    ((number : ℕ) (held : List ℕ) → name_at number rows ≡ Some held → clash name held ≡ false) →
    clash_of name rows ≡ None
taken_none name [] rising free = refl
taken_none name (one ∷ rows) rising free =
    let here : clash name one.name ≡ false = free one.number one.name (name_at-here one.number one rows refl) in
    let apart : (number : ℕ) (held : List ℕ) → name_at number rows ≡ Some held → number ≡ one.number → ⊥ =
    λ number held at e. none-some held (sym (name_at-none number rows (rw e rising.0)) ∙ at) in
    rw here (taken_none name rows rising.1
    (λ number held at. free number held (name_at-tail number one rows (apart number held at) ∙ at)))

-- no name but that of the number clashes
abbrev pub IsFree : ℕ → List ℕ → List Named → Type 0
IsFree number name rows = AllByRecursion (λ one. (number ≡ one.number → ⊥) → clash name one.name ≡ false) rows

pub IsFree-from_taken : (number : ℕ) (name : List ℕ) (rows : List Named) →
    clash_of name (without_name number rows) ≡ None → IsFree number name rows
IsFree-from_taken number name [] free = tt
IsFree-from_taken number name (one ∷ rows) free =
    by (IsFree-from_taken number name rows) (cases_eq number one.number) (cases_Bool (clash name one.name)) free
  where
    by : (clash_of name (without_name number rows) ≡ None → IsFree number name rows) →
        (number ≡ one.number) ⊎ (number ≡ one.number → ⊥) →
        (clash name one.name ≡ true) ⊎ (clash name one.name ≡ false) →
        clash_of name (without_name number (one ∷ rows)) ≡ None → IsFree number name (one ∷ rows)
    by rest (inl same) other t = (λ apart. absurd (apart same), rest (rw (eq-eqb one.number number (sym same)) at t))
    by rest (inr other) (inl alike) t =
        absurd (none-some one.number (sym (rw (ne_eqb one.number number (λ e. other (sym e)), alike) at t)))
    by rest (inr other) (inr apart) t =
        (λ _. apart, rest (rw (ne_eqb one.number number (λ e. other (sym e)), apart) at t))

free_above : (number : ℕ) (name : List ℕ) (rows : List Named) → AllAbove number rows → IsFree number name rows →
    AllByRecursion (λ later. clash name later.name ≡ false) rows
free_above number name [] above free = tt
free_above number name (one ∷ rows) above free =
    let here : number < one.number = above.0 in
    (free.0 (λ e. omega arith), free_above number name rows above.1 free.1)

pub NoneClash-with_name : (number : ℕ) (name : List ℕ) (rows : List Named) → IsRising rows → NoneClash rows →
    IsFree number name rows → NoneClash (with_name number name rows)
NoneClash-with_name number name [] rising none free = (tt, tt)
NoneClash-with_name number name (one ∷ rows) rising none free =
    by (NoneClash-with_name number name rows rising.1 none.1 free.1) (cases_order number one.number)
  where
    by : NoneClash (with_name number name rows) →
        (number ≡ one.number) ⊎ ((number < one.number) ⊎ (one.number < number)) →
        NoneClash (with_name number name (one ∷ rows))
    by rest (inl same) =
        rw (with_name-at number name one rows same) (free_above number name rows (rw same rising.0) free.1, none.1)
    by rest (inr (inl below)) =
        let above : AllAbove number rows = AllAbove-lower number one.number rows (omega arith) rising.0 in
        rw (with_name-before number name one rows below) (free_above number name (one ∷ rows) (below, above) free, none)
    by rest (inr (inr above)) =
        let apart : clash one.name name ≡ false = not_back name one.name (free.0 (λ e. omega arith)) in
        rw (with_name-after number name one rows above)
        (all_with_name number name (λ later. clash one.name later.name ≡ false) apart rows none.0, rest)

pub NoneClash-filter : (keep : Named → Bool) (rows : List Named) → NoneClash rows → NoneClash (filter keep rows)
NoneClash-filter keep [] none = tt
NoneClash-filter keep (one ∷ rows) none =
    let rest : NoneClash (filter keep rows) = NoneClash-filter keep rows none.1 in
    elim (keep one) as (λ b. NoneClash (cond b (one ∷ filter keep rows) (filter keep rows))) [
      | true ↦ (all_filter (λ later. clash one.name later.name ≡ false) keep rows none.0, rest)
      | false ↦ rest
    ]

-- ---- a name that is free, or held by the number itself, is free for the number
taken-tail : (name : List ℕ) (one : Named) (rows : List Named) → clash name one.name ≡ false →
    clash_of name (one ∷ rows) ≡ clash_of name rows
taken-tail name one rows apart = rw apart refl

free_of_all : (name : List ℕ) (rows : List Named) → AllByRecursion (λ later. clash name later.name ≡ false) rows →
    clash_of name rows ≡ None
free_of_all name [] apart = refl
free_of_all name (one ∷ rows) apart = taken-tail name one rows apart.0 ∙ free_of_all name rows apart.1

all_free : (name : List ℕ) (rows : List Named) → clash_of name rows ≡ None →
    AllByRecursion (λ later. clash name later.name ≡ false) rows
all_free name [] none = tt
all_free name (one ∷ rows) none = by (all_free name rows) (cases_Bool (clash name one.name))
  where
    by : (clash_of name rows ≡ None → AllByRecursion (λ later. clash name later.name ≡ false) rows) →
        (clash name one.name ≡ true) ⊎ (clash name one.name ≡ false) →
        AllByRecursion (λ later. clash name later.name ≡ false) (one ∷ rows)
    by rest (inl alike) = absurd (none-some one.number (sym (rw alike at none)))
    by rest (inr apart) = (apart, rest (sym (taken-tail name one rows apart) ∙ none))

pub taken-without_name : (number : ℕ) (name : List ℕ) (rows : List Named) → clash_of name rows ≡ None →
    clash_of name (without_name number rows) ≡ None
taken-without_name number name rows none =
    free_of_all name (without_name number rows)
    (all_filter (λ later. clash name later.name ≡ false) (λ one. not (eqb one.number number)) rows
    (all_free name rows none))

-- what clashes with a name that clashes with another
apart_too : (name held : List ℕ) (rows : List Named) → clash name held ≡ true →
    AllByRecursion (λ later. clash held later.name ≡ false) rows →
    AllByRecursion (λ later. clash name later.name ≡ false) rows
apart_too name held [] alike apart = tt
apart_too name held (one ∷ rows) alike apart = (
  false_from_ne_true _ (λ hit. true≢false (sym (clash_both name held one.name alike hit) ∙ apart.0)),
  apart_too name held rows alike apart.1,
)

pub taken-without_holder : (number : ℕ) (name : List ℕ) (rows : List Named) → NoneClash rows →
    clash_of name rows ≡ Some number → clash_of name (without_name number rows) ≡ None
taken-without_holder number name [] none held = refl
taken-without_holder number name (one ∷ rows) none held =
    by (taken-without_holder number name rows none.1) (cases_Bool (clash name one.name)) (cases_eq number one.number)
  where
    by : (clash_of name rows ≡ Some number → clash_of name (without_name number rows) ≡ None) →
        (clash name one.name ≡ true) ⊎ (clash name one.name ≡ false) →
        (number ≡ one.number) ⊎ (number ≡ one.number → ⊥) → clash_of name (without_name number (one ∷ rows)) ≡ None
    by rest (inl alike) here =
        let same : one.number ≡ number = same_Some _ _ (rw alike at held) in
        rw (eq-eqb one.number number same)
        (taken-without_name number name rows (free_of_all name rows (apart_too name one.name rows alike none.0)))
    by rest (inr apart) (inl here) =
        rw (eq-eqb one.number number (sym here)) (rest (sym (taken-tail name one rows apart) ∙ held))
    by rest (inr apart) (inr other) =
        rw (ne_eqb one.number number (λ e. other (sym e)), apart) (rest (sym (taken-tail name one rows apart) ∙ held))
