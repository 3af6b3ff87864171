-- Which sessions are open after one record more.
use Rattle.std.proofs.Common.{◌≡◌, ◌≢◌, ℕ, Bool, true, false, not, ◌&&◌, ◌||◌, ◌==◌, eqb, List, [], ◌∷◌, ◌++◌, refl, ap}
use Rattle.std.proofs.Common.{◌∙◌}
use Rattle.std.proofs.lemmas.Bool.{eq-eqb, ne_eqb}
use Rattle.std.proofs.lemmas.List.Folds.{list_any-append}
use Rattle.kom_types.specs.declared.acts.Act.{Act}
use Rattle.kom_types.specs.declared.acts.Act.TheVariants as act
use Rattle.kom_types.specs.declared.acts.Record.{Record}
use Rattle.kom_links.specs.DeskCalls.{record_of}
use Rattle.kom_links.specs.Records.{is_connect, is_close, has_connect, has_close, has_session, is_open}
use Rattle.memory_links.specs.Standing.{IsBetween}

pub or-false : (a : Bool) → (a || false) ≡ a
or-false true = refl
or-false false = refl

pub or-true : (a : Bool) → (a || true) ≡ true
or-true true = refl
or-true false = refl

and-false : (a : Bool) → (a && false) ≡ false
and-false true = refl
and-false false = refl

or_none : (a b : Bool) → (a || b) ≡ false → (a ≡ false) × (b ≡ false)
or_none true b e = cc
or_none false b e = (refl, e)

open_push : (n : ℕ) (history : List Record) (made : Record) →
    is_open n (history ++ made ∷ [])
    ≡ ((has_connect n history || (is_connect made.entry.act && (made.session == n)))
    && not (has_close n history || (is_close made.entry.act && (made.session == n))))
open_push n history made =
    let connects : has_connect n (history ++ made ∷ [])
    ≡ (has_connect n history || (is_connect made.entry.act && (made.session == n))) =
    list_any-append (λ made. is_connect made.entry.act && (made.session == n)) history (made ∷ [])
    ∙ ap (λ b. has_connect n history || b) (or-false (is_connect made.entry.act && (made.session == n))) in
    let closes : has_close n (history ++ made ∷ [])
    ≡ (has_close n history || (is_close made.entry.act && (made.session == n))) =
    list_any-append (λ made. is_close made.entry.act && (made.session == n)) history (made ∷ [])
    ∙ ap (λ b. has_close n history || b) (or-false (is_close made.entry.act && (made.session == n))) in
    ap (λ b. b && not (has_close n (history ++ made ∷ []))) connects
    ∙ ap (λ b. (has_connect n history || (is_connect made.entry.act && (made.session == n))) && not b) closes

-- where the record neither connects nor closes it
open_still : (n : ℕ) (history : List Record) (made : Record) →
    (is_connect made.entry.act && (made.session == n)) ≡ false →
    (is_close made.entry.act && (made.session == n)) ≡ false → is_open n (history ++ made ∷ []) ≡ is_open n history
open_still n history made no_connect no_close =
    open_push n history made
    ∙ ap (λ b. (has_connect n history || b)
    && not (has_close n history || (is_close made.entry.act && (made.session == n)))) no_connect
    ∙ ap (λ b. (has_connect n history || false) && not (has_close n history || b)) no_close
    ∙ ap (λ b. b && not (has_close n history || false)) (or-false (has_connect n history))
    ∙ ap (λ b. has_connect n history && not b) (or-false (has_close n history))

neither : (what : Act) → IsBetween what → (is_connect what ≡ false) × (is_close what ≡ false)
neither (act.Connect user host) between = absurd between
neither (act.Call session reference call) between = (refl, refl)
neither (act.Broken session) between = (refl, refl)
neither (act.Drain session) between = (refl, refl)
neither act.Flush between = (refl, refl)
neither (act.Close session) between = absurd between

pub open_between : (n : ℕ) (history : List Record) (made : Record) → IsBetween made.entry.act →
    is_open n (history ++ made ∷ []) ≡ is_open n history
open_between n history made between =
    let no = neither made.entry.act between in
    open_still n history made (ap (λ b. b && (made.session == n)) no.0) (ap (λ b. b && (made.session == n)) no.1)

pub open_other : (n : ℕ) (history : List Record) (made : Record) → made.session ≢ n →
    is_open n (history ++ made ∷ []) ≡ is_open n history
open_other n history made other =
    let no : eqb made.session n ≡ false = ne_eqb _ _ other in
    open_still n history made
    (ap (λ b. is_connect made.entry.act && b) no ∙ and-false (is_connect made.entry.act))
    (ap (λ b. is_close made.entry.act && b) no ∙ and-false (is_close made.entry.act))

close_absent : (n : ℕ) (history : List Record) → has_session n history ≡ false → has_close n history ≡ false
close_absent n [] absent = refl
close_absent n (made ∷ history) absent =
    let none : (eqb made.session n ≡ false) × (has_session n history ≡ false) = or_none _ _ absent in
    rw (none.0, and-false (is_close made.entry.act)) (close_absent n history none.1)

connect_absent : (n : ℕ) (history : List Record) → has_session n history ≡ false → has_connect n history ≡ false
connect_absent n [] absent = refl
connect_absent n (made ∷ history) absent =
    let none : (eqb made.session n ≡ false) × (has_session n history ≡ false) = or_none _ _ absent in
    rw (none.0, and-false (is_connect made.entry.act)) (connect_absent n history none.1)

-- a session of which nothing was recorded is not open
pub absent_open : (n : ℕ) (history : List Record) → has_session n history ≡ false → is_open n history ≡ false
absent_open n history absent = ap (λ b. b && not (has_close n history)) (connect_absent n history absent)

pub open_connected : (history : List Record) (pass moment : ℕ) (user host : List ℕ) (session : ℕ) →
    has_session session history ≡ false →
    is_open session (history ++ record_of pass moment (act.Connect user host) session false ∷ []) ≡ true
open_connected history pass moment user host session absent =
    let here : eqb session session ≡ true = eq-eqb _ _ refl in
    let none : has_close session history ≡ false = close_absent session history absent in
    open_push session history (record_of pass moment (act.Connect user host) session false)
    ∙ ap (λ b. (has_connect session history || b) && not (has_close session history || false)) here
    ∙ ap (λ b. (has_connect session history || true) && not (b || false)) none
    ∙ ap (λ b. b && true) (or-true (has_connect session history))

-- a record more of another session
pub absent_push : (n : ℕ) (history : List Record) (made : Record) → made.session ≢ n →
    has_session n history ≡ false → has_session n (history ++ made ∷ []) ≡ false
absent_push n history made other absent =
    let no : eqb made.session n ≡ false = ne_eqb _ _ other in
    list_any-append (λ made. made.session == n) history (made ∷ [])
    ∙ ap (λ b. b || (eqb made.session n || false)) absent ∙ ap (λ b. b || false) no

-- a session that is closed
pub open_closed : (history : List Record) (pass moment session : ℕ) →
    is_open session (history ++ record_of pass moment (act.Close session) session false ∷ []) ≡ false
open_closed history pass moment session =
    let here : eqb session session ≡ true = eq-eqb _ _ refl in
    open_push session history (record_of pass moment (act.Close session) session false)
    ∙ ap (λ b. (has_connect session history || false) && not (has_close session history || b)) here
    ∙ ap (λ b. (has_connect session history || false) && not b) (or-true (has_close session history))
    ∙ and-false (has_connect session history || false)
