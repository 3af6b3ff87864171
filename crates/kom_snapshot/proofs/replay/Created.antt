-- The texts of a snapshot get their numbers again among those of their authors, who draw them.
use Rattle.std.proofs.Common.{◌≡◌, ℕ, ◌+◌, ◌<◌, ◌≤◌, true, false, ◌==◌, ◌&&◌, List, [], ◌∷◌, ◌++◌}
use Rattle.std.proofs.Common.{length, Option, Some, None, refl, sym, ◌∙◌, ap, subst, arith, append_assoc, inl, inr}
use Rattle.std.proofs.Common.{nat_lt, ⊎_elim, true≢false}
use Rattle.std.specs.Prelude.{map, flat_map, nat_le, is_some}
use Rattle.std.specs.List.{AllByRecursion, filter, list_any}
use Rattle.std.proofs.lemmas.Bool.{and_from, cases_Bool, cases_eq, le-leb, eq-eqb, ne_eqb, ltb-true, ltb-false}
use Rattle.row_table.specs.Tables.{row_of, IsByNumber}
use Rattle.kom_types.specs.declared.limits.TheConstants.{LAST_DRAWN}
use Rattle.kom_types.specs.declared.effects.Effect.{Effect}
use Rattle.kom_types.specs.declared.effects.Effect.TheVariants as effect
use Rattle.kom_types.specs.declared.persons.PersonRow.{PersonRow}
use Rattle.kom_types.specs.declared.texts.LocalText.{LocalText}
use Rattle.kom_types.specs.declared.texts.TextRow.{TextRow}
use Rattle.kom_types.specs.tables.Persons.{number_of_person, with_created_drawn}
use Rattle.kom_types.specs.tables.Texts.{number_of_text, created_by, with_created_local}
use Rattle.kom_model.specs.Db.{Db, text_of, person_of, next_created_of}
use Rattle.kom_model.specs.Effects.{fits, after_effect}
use Rattle.kom_model.specs.Whole.{IsNumbered, has_drawn_created, is_created}
use Rattle.kom_model.proofs.whole.Counts.{all-along, all-weaker, all-of}
use Rattle.kom_snapshot.specs.Listed.{IsListedPerson}
use Rattle.kom_snapshot.proofs.Rising.{all-found}
use Rattle.kom_snapshot.proofs.replay.Drawing.{set_at, drawn-row, row-counting, drawn-counting, drawn-within}
use Rattle.kom_snapshot.proofs.replay.Drawing.{number-found}
use Rattle.kom_snapshot.proofs.replay.Persons.{begun, person_as}
use Rattle.kom_snapshot.proofs.replay.Replaying.{Replays, replays-none, replays-one, replays-append}
use Rattle.kom_snapshot.proofs.replay.Sorting.{Rise, IsOwn, created-rise, created-own, created-all}
use Rattle.kom_snapshot.proofs.replay.Tables.{all-at, own-rows}
use Rattle.kom_snapshot.proofs.replay.Texts.{text_as}

-- a person with this next number, and a text with this number among those of its author
abbrev with_next : ℕ → PersonRow → PersonRow
with_next next row = record row { next_created = next; sessions = begun row.sessions }

abbrev with_number : (ℕ → ℕ) → ℕ → TextRow → TextRow
with_number items number row = record row { created_local = number; next_item = items row.number }

set-here : (at value : ℕ) (counters : ℕ → ℕ) → set_at at value counters at ≡ value
set-here at value counters = rw (eq-eqb at at refl) refl

set-there : (at value : ℕ) (counters : ℕ → ℕ) (number : ℕ) → (number ≡ at → ⊥) →
    set_at at value counters number ≡ counters number
set-there at value counters number apart = rw (ne_eqb number at apart) refl

module _ (texts : List TextRow) (persons : List PersonRow) (rising : IsByNumber number_of_person persons)
    (rising_texts : IsByNumber number_of_text texts) (bounded : AllByRecursion IsListedPerson persons)
    (numbered : AllByRecursion (IsNumbered persons) texts)
    (once : (person local : ℕ) → 0 < local → length (filter (is_created person local) texts) ≤ 1)
    (items : ℕ → ℕ) (db : Db) where
  abbrev state : (ℕ → ℕ) → (ℕ → ℕ) → Db
  state next number = record db {
    persons = map (person_as next) persons;
    texts = map (text_as number items) texts;
  }

  abbrev effects : ℕ → List LocalText → List Effect
  effects person pairs = map (λ (pair : LocalText). effect.Created person pair.local pair.text) pairs

  -- numbers of texts, that are those which their authors gave them, and next numbers of persons
  record Numbers (person : ℕ) (pairs : List LocalText) (next number : ℕ → ℕ) : Type 0 where
    pub next_after : ℕ → ℕ
    pub number_after : ℕ → ℕ
    pub within : AllByRecursion (λ row. next_after row.number ≤ row.next_created) persons
    pub same_next : (other : ℕ) → (other ≡ person → ⊥) → next_after other ≡ next other
    pub kept : (row : TextRow) → row_of number_of_text row.number texts ≡ Some row →
        number row.number ≡ row.created_local → number_after row.number ≡ row.created_local
    pub done : (row : TextRow) → row_of number_of_text row.number texts ≡ Some row →
        list_any (λ pair. pair.text == row.number) pairs ≡ true → number_after row.number ≡ row.created_local
    pub others : (row : TextRow) → row_of number_of_text row.number texts ≡ Some row →
        (row.author ≡ person → ⊥) → number_after row.number ≡ number row.number
    pub replays : Replays (effects person pairs) (state next number) (state next_after number_after)

  module _ (person : ℕ) (pair : LocalText) (own : IsOwn texts person pair) (next number : ℕ → ℕ) where
    -- its author has drawn the number
    author : (row : PersonRow) × ((row_of number_of_person person persons ≡ Some row)
        × (pair.local < row.next_created))
    author =
        let drawn : has_drawn_created persons own.text.author own.text.created_local ≡ true =
        all-found (IsNumbered persons) _ texts own.text numbered own.found
        (omega (arith, own.numbered, own.positive)) in
        drawn-row (λ row. row.next_created) (row_of number_of_person person persons) pair.local
        (subst (λ n. has_drawn_created persons n pair.local ≡ true) own.author
        (subst (λ n. has_drawn_created persons own.text.author n ≡ true) own.numbered drawn))

    text-found : row_of number_of_text pair.text (map (text_as number items) texts)
        ≡ Some (with_number items (number pair.text) own.text)
    text-found = row-counting number_of_text (with_number items) (λ n one. refl) number pair.text texts own.text
        own.found

    author-found : row_of number_of_person person (map (person_as next) persons)
        ≡ Some (with_next (next person) author.0)
    author-found = row-counting number_of_person with_next (λ n one. refl) next person persons author.0 author.1.0

    pair-fits : next person ≤ pair.local → number pair.text ≡ 0 →
        fits (effect.Created person pair.local pair.text) (state next number) ≡ true
    unfolding fits text_of person_of next_created_of
    pair-fits least unnumbered =
        let last = (all-found IsListedPerson _ persons author.0 bounded author.1.0).next_created.1 in
        let drawn = author.1.1 in
        subst (λ (found : Option TextRow). (elim found [
          | None ↦ false
          | Some row ↦ is_some (row_of number_of_person person (map (person_as next) persons))
              && (row.author == person && row.created_local == 0
              && nat_le (elim (row_of number_of_person person (map (person_as next) persons))
              [ None ↦ 1 | Some row ↦ row.next_created ]) pair.local
              && nat_le pair.local LAST_DRAWN)
        ]) ≡ true) (sym text-found)
        (and_from _ _ (ap is_some author-found)
        (and_from _ _ (and_from _ _ (and_from _ _ (eq-eqb own.text.author person own.author)
        (eq-eqb (number pair.text) 0 unnumbered))
        (subst (λ (found : Option PersonRow).
        nat_le (elim found [ None ↦ 1 | Some row ↦ row.next_created ]) pair.local ≡ true) (sym author-found)
        (le-leb (next person) pair.local least)))
        (le-leb pair.local LAST_DRAWN (omega (arith, last, drawn)))))

    pair-makes : after_effect (effect.Created person pair.local pair.text) (state next number)
        ≡ state (set_at person (pair.local + 1) next) (set_at pair.text pair.local number)
    unfolding after_effect
    pair-makes =
        let people = drawn-counting number_of_person with_next (λ n one. refl) person (pair.local + 1)
        (with_created_drawn pair.local) (λ n one. refl) next persons in
        let written = drawn-counting number_of_text (with_number items) (λ n one. refl) pair.text pair.local
        (with_created_local pair.local) (λ n one. refl) number texts in
        λ i. record db { persons = people i; texts = written i }

    pair-within : AllByRecursion (λ row. next row.number ≤ row.next_created) persons →
        AllByRecursion (λ row. set_at person (pair.local + 1) next row.number ≤ row.next_created) persons
    pair-within less = drawn-within number_of_person (λ row. row.next_created) person (pair.local + 1) next persons
        (own-rows number_of_person [] persons persons refl rising)
        (λ row is.
        let drawn = author.1.1 in
        let one : Some row ≡ Some author.0 = sym is ∙ author.1.0 in
        let equal : row ≡ author.0 = cc in
        let bound = ap (λ (one : PersonRow). one.next_created) equal in
        omega (arith, bound, drawn)) less

    -- the text of the pair is the one of its number
    own-text : (row : TextRow) → row_of number_of_text row.number texts ≡ Some row → row.number ≡ pair.text →
        own.text ≡ row
    own-text row mine is =
        let one : Some own.text ≡ Some row =
        sym own.found ∙ ap (λ n. row_of number_of_text n texts) (sym is) ∙ mine in cc

  -- pairs of one person after another have texts of their own
  later-unnumbered : (person : ℕ) (pair : LocalText) → IsOwn texts person pair → (number : ℕ → ℕ)
      (pairs : List LocalText) → AllByRecursion (IsOwn texts person) pairs →
      AllByRecursion (λ later. pair.local < later.local) pairs →
      AllByRecursion (λ later. number later.text ≡ 0) pairs →
      AllByRecursion (λ later. set_at pair.text pair.local number later.text ≡ 0) pairs
  later-unnumbered person pair own number [] owns above none = tt
  later-unnumbered person pair own number (later ∷ pairs) owns above none =
      let less : pair.local < later.local = above.0 in
      let apart : later.text ≡ pair.text → ⊥ = λ is.
      let one : Some own.text ≡ Some owns.0.text =
      sym own.found ∙ ap (λ n. row_of number_of_text n texts) (sym is) ∙ owns.0.found in
      let equal : own.text ≡ owns.0.text = cc in
      let level = ap (λ (one : TextRow). one.created_local) equal in
      omega (arith, less, level, own.numbered, owns.0.numbered) in (
        set-there pair.text pair.local number later.text apart ∙ none.0,
        later-unnumbered person pair own number pairs owns.1 above.1 none.1,
      )

  numbers-again : (person : ℕ) (pairs : List LocalText) (next number : ℕ → ℕ) → Rise pairs →
      AllByRecursion (IsOwn texts person) pairs → AllByRecursion (λ pair. next person ≤ pair.local) pairs →
      AllByRecursion (λ pair. number pair.text ≡ 0) pairs →
      AllByRecursion (λ row. next row.number ≤ row.next_created) persons → Numbers person pairs next number
  numbers-again person [] next number rise owns least none less = record {
    next_after = next;
    number_after = number;
    within = less;
    same_next = λ other apart. refl;
    kept = λ row mine is. is;
    done = λ row mine is. absurd (true≢false (sym is));
    others = λ row mine apart. refl;
    replays = replays-none (state next number);
  }
  numbers-again person (pair ∷ pairs) next number rise owns least none less =
      let drawn : ℕ → ℕ = set_at person (pair.local + 1) next in
      let given : ℕ → ℕ = set_at pair.text pair.local number in
      let own = owns.0 in
      let here : drawn person ≡ pair.local + 1 = set-here person (pair.local + 1) next in
      let rest = numbers-again person pairs drawn given rise.1 owns.1
      (all-weaker (λ later. pair.local < later.local) (λ later. drawn person ≤ later.local)
      (λ later more. omega (arith, more, here)) pairs rise.0)
      (later-unnumbered person pair own number pairs owns.1 rise.0 none.1)
      (pair-within person pair own next number less) in
      let mine_now : (row : TextRow) → row_of number_of_text row.number texts ≡ Some row → row.number ≡ pair.text →
      given row.number ≡ row.created_local = λ row mine is.
      ap given is ∙ set-here pair.text pair.local number ∙ sym own.numbered
      ∙ ap (λ (one : TextRow). one.created_local) (own-text person pair own next number row mine is) in
      record {
        next_after = rest.next_after;
        number_after = rest.number_after;
        within = rest.within;
        same_next = λ other apart. rest.same_next other apart ∙ set-there person (pair.local + 1) next other apart;
        kept = λ row mine is. rest.kept row mine (⊎_elim (λ same. mine_now row mine same)
            (λ apart. set-there pair.text pair.local number row.number apart ∙ is)
            (cases_eq row.number pair.text));
        done = λ row mine is. ⊎_elim (λ same. rest.kept row mine (mine_now row mine same))
            (λ apart. rest.done row mine (rw (ne_eqb pair.text row.number (λ e. apart (sym e))) at is))
            (cases_eq row.number pair.text);
        others = λ row mine apart. rest.others row mine apart
            ∙ set-there pair.text pair.local number row.number (λ same. apart
            (sym (ap (λ (one : TextRow). one.author) (own-text person pair own next number row mine same))
            ∙ own.author));
        replays = replays-append (effect.Created person pair.local pair.text ∷ []) (effects person pairs)
            (state next number) (state drawn given) (state rest.next_after rest.number_after)
            (replays-one (effect.Created person pair.local pair.text) (state next number) (state drawn given)
            (pair-fits person pair own next number least.0 none.0) (pair-makes person pair own next number))
            rest.replays;
      }

  -- of one person after another
  abbrev all_effects : List PersonRow → List Effect
  all_effects rest = flat_map (λ row. effects row.number (created_by row.number texts)) rest

  abbrev IsNamed : TextRow → Type 0
  IsNamed row = list_any (λ pair. pair.text == row.number) (created_by row.author texts) ≡ true

  record AllNumbers (rest : List PersonRow) (next number : ℕ → ℕ) : Type 0 where
    pub next_after : ℕ → ℕ
    pub number_after : ℕ → ℕ
    pub within : AllByRecursion (λ row. next_after row.number ≤ row.next_created) persons
    pub kept : (row : TextRow) → row_of number_of_text row.number texts ≡ Some row →
        number row.number ≡ row.created_local → number_after row.number ≡ row.created_local
    pub done : (row : TextRow) → row_of number_of_text row.number texts ≡ Some row → IsNamed row →
        AllByRecursion (λ one. row.author ≡ one.number → number_after row.number ≡ row.created_local) rest
    pub replays : Replays (all_effects rest) (state next number) (state next_after number_after)

  numbers-of-all : (rest : List PersonRow) (next number : ℕ → ℕ) → IsByNumber number_of_person rest →
      AllByRecursion (λ one. next one.number ≤ 1) rest →
      ((row : TextRow) → row_of number_of_text row.number texts ≡ Some row →
      AllByRecursion (λ one. row.author ≡ one.number → number row.number ≡ 0) rest) →
      AllByRecursion (λ row. next row.number ≤ row.next_created) persons → AllNumbers rest next number
  numbers-of-all [] next number order fresh none less = record {
    next_after = next;
    number_after = number;
    within = less;
    kept = λ row mine is. is;
    done = λ row mine named. tt;
    replays = replays-none (state next number);
  }
  numbers-of-all (one ∷ rest) next number order fresh none less =
      let pairs = created_by one.number texts in
      let owns = created-own texts rising_texts once one.number in
      let first = numbers-again one.number pairs next number (created-rise texts rising_texts once one.number) owns
      (all-weaker (IsOwn texts one.number) (λ pair. next one.number ≤ pair.local)
      (λ pair own. omega (arith, own.positive, fresh.0)) pairs owns)
      (all-weaker (IsOwn texts one.number) (λ pair. number pair.text ≡ 0) (λ pair own.
      let is = number-found number_of_text pair.text texts own.text own.found in
      ap number (sym is)
      ∙ (none own.text (ap (λ n. row_of number_of_text n texts) is ∙ own.found)).0 own.author) pairs owns) less in
      let others = numbers-of-all rest first.next_after first.number_after order.1
      (all-along (λ other. one.number < other.number) (λ other. next other.number ≤ 1)
      (λ other. first.next_after other.number ≤ 1)
      (λ other more few.
      let same = first.same_next other.number (λ e. omega (arith, more, e)) in omega (arith, same, few)) rest
      order.0 fresh.1)
      (λ row mine. all-along (λ other. one.number < other.number)
      (λ other. row.author ≡ other.number → number row.number ≡ 0)
      (λ other. row.author ≡ other.number → first.number_after row.number ≡ 0)
      (λ other more zero is. first.others row mine (λ e. omega (arith, more, e, is)) ∙ zero is) rest order.0
      (none row mine).1) first.within in
      record {
        next_after = others.next_after;
        number_after = others.number_after;
        within = others.within;
        kept = λ row mine is. others.kept row mine (first.kept row mine is);
        done = λ row mine named. (
          λ is. others.kept row mine (first.done row mine
              (subst (λ n. list_any (λ (pair : LocalText). pair.text == row.number) (created_by n texts) ≡ true) is
              named)),
          others.done row mine named,
        );
        replays = replays-append (effects one.number pairs) (all_effects rest) (state next number)
            (state first.next_after first.number_after) (state others.next_after others.number_after)
            first.replays others.replays;
      }

  -- all texts have the numbers that they had, and no person has drawn more than it had
  pub record Created (next : ℕ → ℕ) : Type 0 where
    pub next_after : ℕ → ℕ
    pub number_after : ℕ → ℕ
    pub within : AllByRecursion (λ row. next_after row.number ≤ row.next_created) persons
    pub same : AllByRecursion (λ row. number_after row.number ≡ row.created_local) texts
    pub replays : Replays (all_effects persons) (state next (λ number. 0)) (state next_after number_after)

  pub created-again : (next : ℕ → ℕ) → AllByRecursion (λ one. next one.number ≤ 1) persons →
      AllByRecursion (λ row. next row.number ≤ row.next_created) persons → Created next
  created-again next fresh less =
      let all = numbers-of-all persons next (λ number. 0) rising fresh
      (λ row mine. all-of _ (λ one is. refl) persons) less in
      record {
        next_after = all.next_after;
        number_after = all.number_after;
        within = all.within;
        same = every all [] texts refl;
        replays = all.replays;
      }
    where
      every : (all : AllNumbers persons next (λ number. 0)) (front rest : List TextRow) → front ++ rest ≡ texts →
          AllByRecursion (λ row. all.number_after row.number ≡ row.created_local) rest
      every all front [] same = tt
      every all front (row ∷ rest) same =
          let mine = (own-rows number_of_text front (row ∷ rest) texts same rising_texts).0 in (
            elim (cases_Bool (nat_lt 0 row.created_local)) [
              | inl some ↦
                  let positive = ltb-true 0 row.created_local some in
                  let drawn = all-at (IsNumbered persons) front row rest
                  (subst (AllByRecursion (IsNumbered persons)) (sym same) numbered) positive in
                  let author = drawn-row (λ (one : PersonRow). one.next_created)
                  (row_of number_of_person row.author persons) row.created_local drawn in
                  all-found (λ (one : PersonRow). row.author ≡ one.number →
                  all.number_after row.number ≡ row.created_local) _ persons author.0
                  (all.done row mine (created-all texts front row rest same positive)) author.1.0
                  (sym (number-found number_of_person row.author persons author.0 author.1.0))
              | inr none ↦
                  let least = ltb-false 0 row.created_local none in
                  all.kept row mine (omega (arith, least))
            ],
            every all (front ++ row ∷ []) rest (append_assoc front (row ∷ []) rest ∙ same),
          )
