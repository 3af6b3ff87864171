-- What guards that let a call pass say of the stored rows.
use Rattle.std.proofs.Common.{◌≡◌, ℕ, Bool, true, false, cond, not, ◌==◌, ◌||◌, ◌&&◌, List, [], ◌∷◌, length}
use Rattle.std.proofs.Common.{Option, Some, None, refl, sym, inl, inr, true≢false, nat_le}
use Rattle.std.specs.Prelude.{is_some, option_map}
use Rattle.std.specs.List.{find, list_any}
use Rattle.std.proofs.lemmas.Bool.{cases_Bool, cond_both}
use Rattle.kom_types.specs.declared.limits.TheConstants.{LONGEST_NAME, LONGEST_REPLY}
use Rattle.kom_types.specs.declared.conferences.ConferenceRow.{ConferenceRow}
use Rattle.kom_types.specs.declared.decisions.Decision.{Decision}
use Rattle.kom_types.specs.declared.effects.Effect.{Effect}
use Rattle.kom_types.specs.declared.items.Item.TheVariants as item
use Rattle.kom_types.specs.declared.memberships.MembershipRow.{MembershipRow}
use Rattle.kom_types.specs.declared.seats.Seat.{Seat}
use Rattle.kom_types.specs.declared.texts.TextRow.{TextRow}
use Rattle.kom_types.specs.declared.errors.TheConstants as error
use Rattle.kom_types.specs.Names.{clash, is_name}
use Rattle.kom_types.specs.Printing.{print_of}
use Rattle.kom_types.specs.tables.Conferences.{head_of, is_letterbox}
use Rattle.kom_model.specs.declared.call_errors.Refused.{Refused}
use Rattle.kom_model.specs.declared.viewers.Viewer.{Viewer}
use Rattle.kom_model.specs.Db.{Db, conference_of, conference_head_of, person_of, text_of, text_author_of, membership_of}
use Rattle.kom_model.specs.Db.{membership_kind_of, conferences_of}
use Rattle.kom_model.specs.Decide.{limit_reply}
use Rattle.kom_model.specs.Effects.{fits, is_free, all_fit}
use Rattle.kom_model.specs.Rights.{sees, reads, is_member}
use Rattle.kom_model.specs.State.{AreSeated}
use Rattle.kom_model.specs.calls.Call.{Asked, Definition, outcome_of, refuse}
use Rattle.kom_model.specs.calls.Guards.{Guard, unless, refusal, caller, viewer_at, login_guard}
use Rattle.kom_model.specs.calls.Guards.{conference_guard, text_guard, free_guard, taken_by, name_guard}
use Rattle.kom_model.specs.calls.Guards.{size_guard}
use Rattle.kom_laws.proofs.masking.Rows.{told}
pub use Rattle.kom_model.proofs.Guards.{AllPass, all-pass, pass-both, passed, numbered-passed, person-there}

-- ---- what a definition comes to
pub one-fits : (what : Effect) (db : Db) → fits what db ≡ true → all_fit (what ∷ []) db ≡ true
one-fits what db fit = rw fit refl

fits-limited : (reference : ℕ) (decision : Decision) (db : Db) → all_fit decision.effects db ≡ true →
    all_fit (limit_reply reference decision).effects db ≡ true
fits-limited reference decision db fit =
    cond_both (nat_le (length (print_of (item.Reply reference decision.reply))) LONGEST_REPLY) decision
    (refuse (record { code = error.LONG_ARRAY; status = 0 })) (λ (decision : Decision).
    all_fit decision.effects db ≡ true) (λ _. fit) (λ _. refl)

-- where no early guard refuses, its effects fit
pub decided-fits : (reference : ℕ) (definition : Definition) (db : Db) →
    (definition.early ≡ None → all_fit definition.rest.effects db ≡ true) →
    all_fit (limit_reply reference (outcome_of definition)).effects db ≡ true
decided-fits reference definition db fit =
    fits-limited reference (outcome_of definition) db (by definition.early definition.rest fit) where
      by : (early : Option Refused) (rest : Decision) → (early ≡ None → all_fit rest.effects db ≡ true) →
          all_fit (outcome_of (record { early = early; rest = rest })).effects db ≡ true
      by None rest fit = fit refl
      by (Some refused) rest fit = refl

-- ---- rows that are there
-- what is told of a row is told of one that is there
told-there : {X Y : Type 0} (tell : X → Y) (says : Y → Bool) (found : Option X) →
    told false says (option_map tell found) ≡ true → is_some found ≡ true
told-there tell says None is = absurd (true≢false (sym is))
told-there tell says (Some row) is = refl

pub sees-there : (db : Db) (viewer : Viewer) (conference : ℕ) → sees db viewer conference ≡ true →
    is_some (conference_of db conference) ≡ true
unfolding sees conference_head_of
sees-there db viewer conference is = told-there head_of _ (conference_of db conference) is

pub reads-there : (db : Db) (viewer : Viewer) (text : ℕ) → reads db viewer text ≡ true →
    is_some (text_of db text) ≡ true
unfolding reads text_author_of
reads-there db viewer text is = told-there (λ (row : TextRow). row.author) _ (text_of db text) is

pub member-there : (db : Db) (person conference : ℕ) → is_member db person conference ≡ true →
    is_some (membership_of db person conference) ≡ true
unfolding membership_kind_of
member-there db person conference is = there (membership_of db person conference) is where
  there : (found : Option MembershipRow) → is_some (option_map (λ (row : MembershipRow). row.kind) found) ≡ true →
      is_some found ≡ true
  there None is = is
  there (Some row) is = refl

pub conference-there : (db : Db) (viewer : Viewer) (conference : ℕ) → conference_guard db viewer conference ≡ None →
    is_some (conference_of db conference) ≡ true
conference-there db viewer conference passes = sees-there db viewer conference
    (numbered-passed (conference == 0) (sees db viewer conference) _ _ conference passes)

pub text-there : (db : Db) (viewer : Viewer) (text : ℕ) → text_guard db viewer text ≡ None →
    is_some (text_of db text) ≡ true
text-there db viewer text passes = reads-there db viewer text
    (numbered-passed (text == 0) (reads db viewer text) _ _ text passes)

-- who has logged in is there
pub caller-there : (asked : Asked) → AreSeated asked.db asked.seats → login_guard (caller asked) ≡ None →
    is_some (person_of asked.db (caller asked).person) ≡ true
caller-there asked seated passes = by asked.seats seated
    (passed (not ((caller asked).person == 0)) _ 0 passes) where
      there : (zero is : Bool) → not zero ≡ true → (zero || is) ≡ true → is ≡ true
      there true is some either = absurd (true≢false (sym some))
      there false is some either = either

      by : (seats : List Seat) → AreSeated asked.db seats →
          not ((viewer_at asked.db (find (λ (seat : Seat). seat.number == asked.session) seats)).person == 0) ≡ true →
          is_some (person_of asked.db (viewer_at asked.db
          (find (λ (seat : Seat). seat.number == asked.session) seats)).person) ≡ true
      by [] seated is = absurd (true≢false (sym is))
      by (seat ∷ seats) seated is = elim (cases_Bool (seat.number == asked.session)) [
        | inl here ↦ rw here (there (seat.person == 0) _ (rw here at is) seated.0.person)
        | inr apart ↦ rw apart (by seats seated.1 (rw apart at is))
      ]

-- ---- names
pub name-short : (name : List ℕ) → name_guard name ≡ None → nat_le (length name) LONGEST_NAME ≡ true
name-short name passes =
    let parts = all-pass (size_guard name LONGEST_NAME ∷ unless (is_name name) error.BAD_NAME 0 ∷ []) passes in
    passed (nat_le (length name) LONGEST_NAME) _ _ parts.0

not-taken : (letterbox : Bool) (code code' : ℕ) → cond letterbox (refusal code 0) (refusal code' 0) ≡ None → ⊥
not-taken true code code' passes = cc
not-taken false code code' passes = cc

none-taken : (test : ConferenceRow → Bool) (rows : List ConferenceRow) →
    (elim (find test rows) as (λ _. Guard) [ None ↦ None | Some row ↦ taken_by row ]) ≡ None →
    list_any test rows ≡ false
none-taken test [] passes = refl
none-taken test (row ∷ rows) passes = elim (cases_Bool (test row)) [
  | inl here ↦ absurd (not-taken (is_letterbox row.kind) _ _ (rw here at passes))
  | inr there ↦ rw there (none-taken test rows (rw there at passes))
]

pub name-free : (db : Db) (number : ℕ) (name : List ℕ) → free_guard db number name ≡ None →
    is_free db number name ≡ true
name-free db number name passes =
    rw (none-taken (λ row. not (row.number == number) && clash row.name name) (conferences_of db) passes) refl
