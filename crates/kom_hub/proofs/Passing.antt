-- What others' turns and flushes are to a seat.
use Rattle.std.proofs.Common.{◌≡◌, ◌≢◌, ℕ, ◌==◌, ◌||◌, Bool, true, false, inl, inr, List, [], ◌∷◌, ◌++◌}
use Rattle.std.proofs.Common.{refl, sym, ◌∙◌, ap, subst, cond, ne_eqb, append-nil}
use Rattle.std.specs.Prelude.{filter}
use Rattle.std.specs.List.{AllByRecursion}
use Rattle.std.proofs.lemmas.Bool.{cases_Bool, cases_eq}
use Rattle.std.proofs.lemmas.List.Elements.{filter-append}
use Rattle.kom_types.specs.declared.acts.Record.{Record}
use Rattle.kom_links.specs.Answers.{Answer}
use Rattle.kom_links.specs.DeskCalls.{DeskView, StaysForAll}
use Rattle.kom_links.specs.Records.{has_session}
use Rattle.kom_hub.specs.declared.place.Place.{Place}
use Rattle.kom_hub.specs.Seats.{is_flush, is_shown, since, since_at, seat_records, only, seat_of, IsFlush, IsOfSeat}
use Rattle.kom_hub.specs.Seats.{Leaves}
use Rattle.kom_hub.specs.Passing.{Passes, IsSeatOf, IsBlank}
use Rattle.kom_hub.proofs.Shown.{since_present, shown_by, any_since}
use Rattle.kom_hub.proofs.Seated.{present_more, absent_more, only_none, only_nobody, only_same, only_own, flush_more}

-- ---- what a seat shows of others' records

seen_flush : (session other : ℕ) (made : Record) → other ≢ 0 → other ≢ session → IsOfSeat session made
    → is_shown other made ≡ is_flush made.entry.act
seen_flush session other made some differs (inl own) =
    ap (λ b. b || is_flush made.entry.act) (ne_eqb made.session other (λ e. differs (sym e ∙ own.1)))
seen_flush session other made some differs (inr flush) =
    ap (λ b. b || is_flush made.entry.act) (ne_eqb made.session other (λ e. some (sym e ∙ flush.1)))

not_of : (session other : ℕ) (made : Record) → other ≢ 0 → other ≢ session → IsOfSeat session made
    → (made.session == other) ≡ false
not_of session other made some differs (inl own) = ne_eqb made.session other (λ e. differs (sym e ∙ own.1))
not_of session other made some differs (inr flush) = ne_eqb made.session other (λ e. some (sym e ∙ flush.1))

seen_flushes : (session other : ℕ) (more : List Record) → other ≢ 0 → other ≢ session
    → AllByRecursion (IsOfSeat session) more
    → filter (is_shown other) more ≡ filter (λ (made : Record). is_flush made.entry.act) more
seen_flushes session other [] some differs all = refl
seen_flushes session other (made ∷ more) some differs all =
    ap (λ b. cond b (made ∷ filter (is_shown other) more) (filter (is_shown other) more))
    (seen_flush session other made some differs all.0)
    ∙ ap (λ rest. cond (is_flush made.entry.act) (made ∷ rest) rest)
    (seen_flushes session other more some differs all.1)

absent_all : (session other : ℕ) (more : List Record) → other ≢ 0 → other ≢ session
    → AllByRecursion (IsOfSeat session) more → has_session other more ≡ false
absent_all session other [] some differs all = refl
absent_all session other (made ∷ more) some differs all =
    ap (λ b. b || has_session other more) (not_of session other made some differs all.0)
    ∙ absent_all session other more some differs all.1

shown_pass : (session other : ℕ) (records more : List Record) → other ≢ 0 → other ≢ session
    → AllByRecursion (IsOfSeat session) more
    → seat_records other (records ++ more)
    ≡ seat_records other records ++ filter (λ (made : Record). is_flush made.entry.act) more
shown_pass session other records more some differs all = elim (cases_Bool (has_session other records)) [
  | inl here ↦
      shown_by other (records ++ more) true some (present_more other records more here)
      ∙ since_present other records more here
      ∙ ap (λ last. since other records ++ last) (seen_flushes session other more some differs all)
      ∙ ap (λ first. first ++ filter (λ (made : Record). is_flush made.entry.act) more)
      (sym (shown_by other records true some here))
  | inr there ↦
      shown_by other (records ++ more) false some
      (absent_more other records more there ∙ absent_all session other more some differs all)
      ∙ filter-append (λ (made : Record). is_flush made.entry.act) records more
      ∙ ap (λ first. first ++ filter (λ (made : Record). is_flush made.entry.act) more)
      (sym (shown_by other records false some there))
]

-- what is a flush among a seat's records is no session's
flushes_of : (session : ℕ) (more : List Record) → AllByRecursion (IsOfSeat session) more
    → AllByRecursion IsFlush (filter (λ (made : Record). is_flush made.entry.act) more)
flushes_of session [] all = tt
flushes_of session (made ∷ more) all = go (is_flush made.entry.act) refl all.0 (flushes_of session more all.1)
  where
    go : (b : Bool) → is_flush made.entry.act ≡ b → IsOfSeat session made
        → AllByRecursion IsFlush (filter (λ (made : Record). is_flush made.entry.act) more)
        → AllByRecursion IsFlush (cond b (made ∷ filter (λ (made : Record). is_flush made.entry.act) more)
        (filter (λ (made : Record). is_flush made.entry.act) more))
    go true is (inl own) rest = let no : is_flush made.entry.act ≡ false = own.2 in cc
    go true is (inr flush) rest = (flush, rest)
    go false is one rest = rest

-- the seat of a session that has records shows some
shows_some : (session : ℕ) (records : List Record) → session ≢ 0 → has_session session records ≡ true
    → seat_records session records ≡ [] → ⊥
shows_some session records some has none =
    let here : has_session session (since session records) ≡ true =
    any_since (λ (made : Record). made.session == session) session records (λ made is. is) ∙ has in
    let nothing : has_session session (since session records) ≡ false =
    ap (has_session session) (sym (shown_by session records true some has) ∙ none) in cc

-- to a seat of another session the turn of a guest is nothing but its flushes
passes_other : (old new : Place) (before after : DeskView) (session : ℕ) (answers : List Answer)
    → Leaves old before new after → session ≢ 0 → has_session session before.mine ≡ true → session ≢ new.session
    → Passes (seat_of session answers before) (seat_of session answers after)
passes_other old new before after session answers leaves some has other = record {
  flushes = filter (λ (made : Record). is_flush made.entry.act) leaves.more;
  mine = ap (seat_records session) leaves.mine
      ∙ shown_pass new.session session before.mine leaves.more some other leaves.own;
  all = flushes_of new.session leaves.more leaves.own;
  begun = λ none. absurd (shows_some session before.mine some has none);
  given = only_own session [] before.gave_to after.gave_to (leaves.given session some other);
  answers = refl;
  pass = leaves.pass;
  lock = leaves.lock;
}

-- to a seat of nobody it is nothing
passes_nobody : (old new : Place) (before after : DeskView) (answers : List Answer)
    → Leaves old before new after → Passes (seat_of 0 answers before) (seat_of 0 answers after)
passes_nobody old new before after answers leaves = record {
  flushes = [];
  mine = refl;
  all = tt;
  begun = λ none. refl;
  given = only_none [] before.gave_to after.gave_to;
  answers = refl;
  pass = leaves.pass;
  lock = leaves.lock;
}

pub passes : (old new : Place) (before after : DeskView) (session : ℕ) (answers : List Answer)
    → Leaves old before new after → (session ≢ 0 → has_session session before.mine ≡ true)
    → (session ≢ 0 → session ≢ new.session)
    → Passes (seat_of session answers before) (seat_of session answers after)
passes old new before after session answers leaves has other = elim (cases_eq session 0) [
  | inl zero ↦ subst (λ (k : ℕ). Passes (seat_of k answers before) (seat_of k answers after)) (sym zero)
      (passes_nobody old new before after answers leaves)
  | inr some ↦ passes_other old new before after session answers leaves some (has some) (other some)
]

-- ---- what is asked for all

-- some flushes more are to any seat flushes, or nothing
shown_flushes : (session : ℕ) (records more : List Record) → session ≢ 0 → AllByRecursion IsFlush more
    → seat_records session (records ++ more) ≡ seat_records session records ++ more
shown_flushes session records [] some all =
    ap (seat_records session) (append-nil records) ∙ sym (append-nil (seat_records session records))
shown_flushes session records (made ∷ more) some all =
    ap (seat_records session) (sym (assoc records more))
    ∙ shown_flushes session (records ++ made ∷ []) more some all.1
    ∙ ap (λ first. first ++ more) (flush_more session records made some all.0.0 all.0.1)
    ∙ assoc (seat_records session records) more
  where
    assoc : (xs ys : List Record) → (xs ++ made ∷ []) ++ ys ≡ xs ++ made ∷ ys
    assoc [] ys = refl
    assoc (x ∷ xs) ys = ap (λ rest. x ∷ rest) (assoc xs ys)

pub passes_quiet : (before after : DeskView) (session : ℕ) (answers : List Answer) (flushes : List Record)
    → after.mine ≡ before.mine ++ flushes → AllByRecursion IsFlush flushes
    → StaysForAll before.gave_to after.gave_to → after.pass ≡ before.pass
    → (after.lock_full ≡ false → before.lock_full ≡ false) → (session ≢ 0 → has_session session before.mine ≡ true)
    → Passes (seat_of session answers before) (seat_of session answers after)
passes_quiet before after session answers flushes mine all given pass lock has = elim (cases_eq session 0) [
  | inl zero ↦ subst (λ (k : ℕ). Passes (seat_of k answers before) (seat_of k answers after)) (sym zero) (record {
    flushes = [];
    mine = refl;
    all = tt;
    begun = λ none. refl;
    given = only_none [] before.gave_to after.gave_to;
    answers = refl;
    pass = pass;
    lock = lock;
  })
  | inr some ↦ record {
    flushes = flushes;
    mine = ap (seat_records session) mine ∙ shown_flushes session before.mine flushes some all;
    all = all;
    begun = λ none. absurd (shows_some session before.mine some (has some) none);
    given = only_same session [] before.gave_to after.gave_to given;
    answers = refl;
    pass = pass;
    lock = lock;
  }
]

-- ---- a seat's own

all_picked : (session : ℕ) (records : List Record)
    → AllByRecursion (λ (made : Record). is_shown session made ≡ true) (filter (is_shown session) records)
all_picked session [] = tt
all_picked session (made ∷ records) = go (is_shown session made) refl (all_picked session records)
  where
    go : (b : Bool) → is_shown session made ≡ b
        → AllByRecursion (λ (made : Record). is_shown session made ≡ true) (filter (is_shown session) records)
        → AllByRecursion (λ (made : Record). is_shown session made ≡ true)
        (cond b (made ∷ filter (is_shown session) records) (filter (is_shown session) records))
    go true is rest = (is, rest)
    go false is rest = rest

all_since : (session : ℕ) (records : List Record)
    → AllByRecursion (λ (made : Record). is_shown session made ≡ true) (since session records)
all_since session [] = tt
all_since session (made ∷ records) = go (made.session == session) refl (all_since session records)
  where
    go : (b : Bool) → (made.session == session) ≡ b
        → AllByRecursion (λ (made : Record). is_shown session made ≡ true) (since session records)
        → AllByRecursion (λ (made : Record). is_shown session made ≡ true)
        (since_at b made (filter (is_shown session) records) (since session records))
    go true here rest = (ap (λ b. b || is_flush made.entry.act) here, all_picked session records)
    go false there rest = rest

-- what a seat shows is its own
pub seat_is : (session : ℕ) (records : List Record) → (session ≢ 0 → has_session session records ≡ true)
    → IsSeatOf session (seat_records session records)
seat_is session records has = elim (cases_eq session 0) [
  | inl zero ↦ subst (λ (k : ℕ). IsSeatOf k (seat_records k records)) (sym zero)
      (record { own = tt; has = λ some. absurd (some refl); none = λ e. refl })
  | inr some ↦
      let same : seat_records session records ≡ since session records = shown_by session records true some (has some) in
      subst (λ (made : List Record). IsSeatOf session made) (sym same) (record {
        own = all_since session records;
        has = λ e. any_since (λ (made : Record). made.session == session) session records (λ made is. is) ∙ has some;
        none = λ zero. absurd (some zero);
      })
]

-- the seat of nobody, at which nothing was answered, shows nothing
pub blank : (session : ℕ) (answers : List Answer) (desk : DeskView) → session ≡ 0 → answers ≡ []
    → IsBlank (seat_of session answers desk)
blank session answers desk nobody nothing = record {
  mine = ap (λ k. seat_records k desk.mine) nobody;
  given = λ number. ap (λ k. only k [] desk.gave_to number) nobody ∙ only_nobody [] desk.gave_to number;
  answers = nothing;
}
