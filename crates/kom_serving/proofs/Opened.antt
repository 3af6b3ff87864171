-- Which sessions the records of a pass leave open.
use Rattle.std.proofs.Common.{◌≡◌, ◌≢◌, ℕ, ◌⊎◌, inl, inr, Bool, true, false, not, ◌||◌, ◌&&◌, eqb, ◌==◌, List, [], ◌∷◌}
use Rattle.std.proofs.Common.{◌++◌, refl, sym, ap, subst, ◌∙◌}
use Rattle.std.specs.List.{filter, list_any, AllByRecursion}
use Rattle.std.proofs.lemmas.Bool.{cases_Bool, ne_eqb}
use Rattle.std.proofs.lemmas.List.Folds.{list_any-append}
use Rattle.kom_types.specs.declared.acts.Act.TheVariants as act
use Rattle.kom_types.specs.declared.acts.Record.{Record}
use Rattle.kom_links.specs.Records.{is_connect, is_close, has_connect, has_close, is_open, IsOpen}
use Rattle.kom_links.specs.Talk.{records_of, EndsClosed}
use Rattle.kom_session.specs.Ends.{IsOwn}
use Rattle.hall_desk.proofs.Histories.{or_cases, or_second}
use Rattle.kom_serving.proofs.Histories.{IsPlain, not_both, or_first}

-- ---- tests

or_both : (a b : Bool) → a ≡ false → b ≡ false → (a || b) ≡ false
or_both true b one two = cc
or_both false b one two = two

no_second : (a b : Bool) → b ≡ false → (a && b) ≡ false
no_second true b e = e
no_second false b e = refl

-- ---- what records of one session connect

-- records that are of one session, or flushes, connect no other
pub own_connects : (session other : ℕ) (added : List Record) → AllByRecursion (IsOwn other) added →
    (session ≡ other → ⊥) → has_connect session added ≡ false
own_connects session other [] own differs = refl
own_connects session other (made ∷ added) own differs =
    or_both _ _ (first own.0) (own_connects session other added own.1 differs)
  where
    first : IsOwn other made → (is_connect made.entry.act && (made.session == session)) ≡ false
    first (inl is) = no_second _ _ (ne_eqb made.session session (λ e. differs (sym e ∙ is)))
    first (inr flush) = rw flush refl

-- number 0 is no session
pub plain_connects : (added : List Record) → AllByRecursion IsPlain added → has_connect 0 added ≡ false
plain_connects [] plain = refl
plain_connects (made ∷ added) plain = or_both _ _ (first plain.0) (plain_connects added plain.1)
  where
    first : IsPlain made → (is_connect made.entry.act && (made.session == 0)) ≡ false
    first (inl flush) = rw flush.0 refl
    first (inr some) = no_second _ _ (ne_eqb made.session 0 some.0)

-- ---- what is open after more records

connects_both : (session : ℕ) (a b : List Record) →
    has_connect session (a ++ b) ≡ (has_connect session a || has_connect session b)
connects_both session a b = list_any-append (λ made. is_connect made.entry.act && made.session == session) a b

closes_both : (session : ℕ) (a b : List Record) →
    has_close session (a ++ b) ≡ (has_close session a || has_close session b)
closes_both session a b = list_any-append (λ made. is_close made.entry.act && made.session == session) a b

shut : (connected closed : Bool) → closed ≡ true → (connected && not closed) ≡ false
shut connected closed is = rw is (no_second connected false refl)

open_parts : (connected closed : Bool) → (connected && not closed) ≡ true → (connected ≡ true) × (closed ≡ false)
open_parts true true e = cc
open_parts true false e = (refl, refl)
open_parts false closed e = cc

not_open : (connected closed : Bool) → (connected && not closed) ≡ false → connected ≡ true → closed ≡ true
not_open true true e is = refl
not_open true false e is = cc
not_open false closed e is = cc

-- a session that is open and was not before was connected since
pub opened_later : (session : ℕ) (a b : List Record) → is_open session a ≡ false → IsOpen session (a ++ b) →
    has_connect session b ≡ true
opened_later session a b before now =
    let parts : (has_connect session (a ++ b) ≡ true) × (has_close session (a ++ b) ≡ false) =
    open_parts (has_connect session (a ++ b)) (has_close session (a ++ b)) now in
    elim (or_cases (has_connect session a) (has_connect session b) (sym (connects_both session a b) ∙ parts.0)) [
      | inl early ↦
          let closed : has_close session a ≡ true =
          not_open (has_connect session a) (has_close session a) before early in
          absurd (not_both _ (closes_both session a b ∙ or_first _ _ closed) parts.1)
      | inr late ↦ late
    ]

-- one that was not open, and that no more records connect
pub closed_still : (session : ℕ) (a b : List Record) → is_open session a ≡ false → has_connect session b ≡ false →
    is_open session (a ++ b) ≡ false
closed_still session a b before none =
    elim (cases_Bool (has_connect session a)) [
      | inl early ↦
          let closed : has_close session a ≡ true =
          not_open (has_connect session a) (has_close session a) before early in
          shut (has_connect session (a ++ b)) (has_close session (a ++ b))
          (closes_both session a b ∙ or_first _ _ closed)
      | inr never ↦
          rw (connects_both session a b ∙ or_both _ _ never none) refl
    ]

-- one that more records close
pub closed_now : (session : ℕ) (a b : List Record) → has_close session b ≡ true →
    is_open session (a ++ b) ≡ false
closed_now session a b closed =
    shut (has_connect session (a ++ b)) (has_close session (a ++ b))
    (closes_both session a b ∙ or_second (has_close session a) (has_close session b) closed)

-- ---- the records of a session alone

-- whether one of them is so is told by the session's own
any_own : (test : Record → Bool) (session : ℕ) (records : List Record) →
    list_any (λ made. test made && made.session == session) (filter (λ made. made.session == session) records)
    ≡ list_any (λ made. test made && made.session == session) records
any_own test session [] = refl
any_own test session (made ∷ records) =
    elim (cases_Bool (eqb made.session session)) [
      | inl here ↦
          rw here
          (ap (λ (own : Bool). (test made && own) || list_any (λ made. test made && made.session == session)
          (filter (λ made. made.session == session) records)) here
          ∙ ap (λ (rest : Bool). (test made && true) || rest) (any_own test session records))
      | inr there ↦
          rw there (any_own test session records
          ∙ sym (ap (λ (first : Bool). first
          || list_any (λ made. test made && made.session == session) records) (no_second (test made) false refl)))
    ]

last_closes : (session : ℕ) (before : List Record) (last : Record) (closed : ℕ) →
    last.entry.act ≡ act.Close closed → eqb last.session session ≡ true →
    has_close session (before ++ (last ∷ [])) ≡ true
last_closes session before last closed is own =
    let closes : has_close session (last ∷ []) ≡ true = rw (is, own) refl in
    closes_both session before (last ∷ [])
    ∙ or_second (has_close session before) (has_close session (last ∷ [])) closes

-- its last record is one of it
last_own : (session : ℕ) (records before : List Record) (last : Record) →
    filter (λ made. made.session == session) records ≡ before ++ (last ∷ []) → eqb last.session session ≡ true
last_own session [] [] last is = let wrong : [] ≡ last ∷ [] = is in cc
last_own session [] (first ∷ before) last is = let wrong : [] ≡ first ∷ (before ++ (last ∷ [])) = is in cc
last_own session (made ∷ records) before last is =
    elim (cases_Bool (eqb made.session session)) [
      | inl here ↦ go before here (rw here at is) (λ before is. last_own session records before last is)
      | inr there ↦ last_own session records before last (rw there at is)
    ]
  where
    go : (before : List Record) → eqb made.session session ≡ true →
        made ∷ filter (λ made. made.session == session) records ≡ before ++ (last ∷ []) →
        ((before : List Record) → filter (λ made. made.session == session) records ≡ before ++ (last ∷ []) →
        eqb last.session session ≡ true) → eqb last.session session ≡ true
    go [] here e again = let same : made ≡ last = cc in ap (λ (one : Record). eqb one.session session) (sym same) ∙ here
    go (first ∷ before) here e again =
        let rear : filter (λ made. made.session == session) records ≡ before ++ (last ∷ []) = cc in
        again before rear

-- a session that was connected, and whose last record is its Close, is closed
pub ends_closed : (session : ℕ) (added : List Record) → session ≢ 0 → has_connect session added ≡ true →
    (records_of session added ≡ []) ⊎ EndsClosed (records_of session added) → has_close session added ≡ true
ends_closed session added some connected ends =
    let no : eqb session 0 ≡ false = ne_eqb session 0 some in
    let is : records_of session added ≡ own =
    ap (λ (none : Bool). elim none as (λ b. List Record) [ true ↦ [] | false ↦ own ]) no in
    go (subst (λ (records : List Record). (records ≡ []) ⊎ EndsClosed records) is ends)
  where
    own : List Record
    own = filter (λ made. made.session == session) added

    go : (own ≡ []) ⊎ EndsClosed own → has_close session added ≡ true
    go (inl none) =
        let connects : has_connect session own ≡ true =
        any_own (λ made. is_connect made.entry.act) session added ∙ connected in
        let wrong : false ≡ true = ap (has_connect session) (sym none) ∙ connects in
        cc
    go (inr (before, last, closed, is, close)) =
        sym (any_own (λ made. is_close made.entry.act) session added)
        ∙ ap (has_close session) is ∙ last_closes session before last closed close
        (last_own session added before last is)
