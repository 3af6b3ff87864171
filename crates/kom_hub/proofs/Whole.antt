-- The steps of a session among all records of a desk are those among what its seat shows, with flushes before them.
use Rattle.std.proofs.Common.{◌≡◌, ℕ, ◌==◌, ◌||◌, Bool, true, false, inl, inr, List, [], ◌∷◌, ◌++◌}
use Rattle.std.proofs.Common.{refl, sym, ◌∙◌, ap, ap₂, cond}
use Rattle.std.specs.Prelude.{filter}
use Rattle.std.specs.List.{AllByRecursion}
use Rattle.std.proofs.lemmas.Bool.{cases_Bool}
use Rattle.kom_types.specs.declared.acts.Act.{Act}
use Rattle.kom_types.specs.declared.acts.Act.TheVariants as act
use Rattle.kom_types.specs.declared.acts.Record.{Record}
use Rattle.kom_types.specs.declared.items.Item.{Item}
use Rattle.kom_links.specs.Records.{has_session}
use Rattle.kom_hub.specs.Seats.{is_flush, is_shown, since, since_at}
use Rattle.kom_links.specs.Talk.{Step, Connects, Asks, Breaks, Flushes, Drains, Closes, first_given, other_given}
use Rattle.kom_links.specs.Talk.{own_step, steps_of}

-- the steps of a record's act, before those of the records after it
abbrev step_before : Bool → Act → (List (List Item) → List Step) → List (List Item) → List Step
step_before own (act.Connect user host) rest given = own_step own (Connects user host) (rest given)
step_before own (act.Call caller reference call) rest given =
    own_step own (Asks (record { reference = reference; call = call })) (rest given)
step_before own (act.Broken caller) rest given = own_step own Breaks (rest given)
step_before true (act.Drain caller) rest given = Drains (first_given given) ∷ rest (other_given given)
step_before false (act.Drain caller) rest given = rest given
step_before own act.Flush rest given = Flushes ∷ rest given
step_before own (act.Close caller) rest given = own_step own Closes (rest given)

steps_of-cons : (session : ℕ) (made : Record) (records : List Record) (given : List (List Item)) →
    steps_of session (made ∷ records) given
    ≡ step_before (made.session == session) made.entry.act (steps_of session records) given
steps_of-cons session made records given =
    elim made.entry.act as
    (λ what. steps_of session
    (record {
      entry = record { pass = made.entry.pass; moment = made.entry.moment; act = what };
      session = made.session;
      short = made.short;
    } ∷ records) given
    ≡ step_before (made.session == session) what (steps_of session records) given) [
      | act.Connect user host ↦ refl
      | act.Call caller reference call ↦ refl
      | act.Broken caller ↦ refl
      | act.Drain caller ↦ drain caller (made.session == session)
      | act.Flush ↦ refl
      | act.Close caller ↦ refl
    ]
  where
    drain : (caller : ℕ) (own : Bool)
        → elim own [
          | true ↦ Drains (first_given given) ∷ steps_of session records (other_given given)
          | false ↦ steps_of session records given
        ]
        ≡ step_before own (act.Drain caller) (steps_of session records) given
    drain caller true = refl
    drain caller false = refl

-- another's record that is no flush has no step
skipped : (what : Act) (rest : List (List Item) → List Step) (given : List (List Item)) → is_flush what ≡ false
    → step_before false what rest given ≡ rest given
skipped (act.Connect user host) rest given e = refl
skipped (act.Call caller reference call) rest given e = refl
skipped (act.Broken caller) rest given e = refl
skipped (act.Drain caller) rest given e = refl
skipped act.Flush rest given e = cc
skipped (act.Close caller) rest given e = refl

flush_step : (own : Bool) (what : Act) (rest : List (List Item) → List Step) (given : List (List Item))
    → is_flush what ≡ true → step_before own what rest given ≡ Flushes ∷ rest given
flush_step own (act.Connect user host) rest given e = cc
flush_step own (act.Call caller reference call) rest given e = cc
flush_step own (act.Broken caller) rest given e = cc
flush_step true (act.Drain caller) rest given e = cc
flush_step false (act.Drain caller) rest given e = cc
flush_step own act.Flush rest given e = refl
flush_step own (act.Close caller) rest given e = cc

-- the same rest gives the same
same_step : (own : Bool) (what : Act) (rest rest' : List (List Item) → List Step)
    → ((given : List (List Item)) → rest given ≡ rest' given) → (given : List (List Item))
    → step_before own what rest given ≡ step_before own what rest' given
same_step own (act.Connect user host) rest rest' same given = ap (own_step own (Connects user host)) (same given)
same_step own (act.Call caller reference call) rest rest' same given =
    ap (own_step own (Asks (record { reference = reference; call = call }))) (same given)
same_step own (act.Broken caller) rest rest' same given = ap (own_step own Breaks) (same given)
same_step true (act.Drain caller) rest rest' same given =
    ap (λ all. Drains (first_given given) ∷ all) (same (other_given given))
same_step false (act.Drain caller) rest rest' same given = same given
same_step own act.Flush rest rest' same given = ap (λ all. Flushes ∷ all) (same given)
same_step own (act.Close caller) rest rest' same given = ap (own_step own Closes) (same given)

-- those that are shown, and those from the first of the session on
abbrev picked : ℕ → List Record → List Record
picked session records = filter (is_shown session) records

abbrev after : Bool → ℕ → Record → List Record → List Record
after own session made records = since_at own made (filter (is_shown session) records) (since session records)

-- what is not shown has no step
steps_shown : (session : ℕ) (records : List Record) (given : List (List Item))
    → steps_of session (filter (is_shown session) records) given ≡ steps_of session records given
steps_shown session [] given = refl
steps_shown session (made ∷ records) given = elim (cases_Bool (is_shown session made)) [
  | inl here ↦
      ap (λ b. steps_of session (cond b (made ∷ picked session records) (picked session records)) given) here
      ∙ steps_of-cons session made (filter (is_shown session) records) given
      ∙ same_step (made.session == session) made.entry.act (steps_of session (filter (is_shown session) records))
      (steps_of session records) (steps_shown session records) given
      ∙ sym (steps_of-cons session made records given)
  | inr there ↦
      let parts : ((made.session == session) ≡ false) × (is_flush made.entry.act ≡ false) =
      neither (made.session == session) (is_flush made.entry.act) there in
      ap (λ b. steps_of session (cond b (made ∷ picked session records) (picked session records)) given) there
      ∙ steps_shown session records given
      ∙ sym (steps_of-cons session made records given
      ∙ ap (λ own. step_before own made.entry.act (steps_of session records) given) parts.0
      ∙ skipped made.entry.act (steps_of session records) given parts.1)
]
  where
    neither : (a b : Bool) → (a || b) ≡ false → (a ≡ false) × (b ≡ false)
    neither true b e = cc
    neither false b e = (refl, e)

abbrev pub IsFlushStep : Step → Type 0
IsFlushStep step = step ≡ Flushes

-- The steps among all records are flushes, and then those among what is shown.
pub steps_since : (session : ℕ) (records : List Record) (given : List (List Item)) → has_session session records ≡ true
    → (before : List Step) × AllByRecursion IsFlushStep before
    × (steps_of session records given ≡ before ++ steps_of session (since session records) given)
steps_since session [] given some = cc
steps_since session (made ∷ records) given some =
    go (made.session == session) refl (λ later. steps_since session records given later)
  where
    later : (a b : Bool) → a ≡ false → (a || b) ≡ true → b ≡ true
    later true b e f = cc
    later false b e f = f

    go : (own : Bool) → (made.session == session) ≡ own
        → (has_session session records ≡ true → (before : List Step) × AllByRecursion IsFlushStep before
        × (steps_of session records given ≡ before ++ steps_of session (since session records) given))
        → (before : List Step) × AllByRecursion IsFlushStep before
        × (steps_of session (made ∷ records) given ≡ before ++ steps_of session (since session (made ∷ records)) given)
    go true here rest = (
      [],
      tt,
      steps_of-cons session made records given
          ∙ same_step (made.session == session) made.entry.act (steps_of session records)
          (steps_of session (filter (is_shown session) records)) (λ given. sym (steps_shown session records given))
          given
          ∙ sym (steps_of-cons session made (filter (is_shown session) records) given)
          ∙ sym (ap (λ b. steps_of session (after b session made records) given) here),
    )
    go false there rest =
        let tail : (before : List Step) × AllByRecursion IsFlushStep before
        × (steps_of session records given ≡ before ++ steps_of session (since session records) given) =
        rest (later (made.session == session) (has_session session records) there some) in
        let same : steps_of session (since session (made ∷ records)) given
        ≡ steps_of session (since session records) given =
        ap (λ b. steps_of session (after b session made records) given) there in
        more (is_flush made.entry.act) refl tail same
      where
        more : (flush : Bool) → is_flush made.entry.act ≡ flush
            → (before : List Step) × AllByRecursion IsFlushStep before
            × (steps_of session records given ≡ before ++ steps_of session (since session records) given)
            → steps_of session (since session (made ∷ records)) given ≡ steps_of session (since session records) given
            → (before : List Step) × AllByRecursion IsFlushStep before
            × (steps_of session (made ∷ records) given
            ≡ before ++ steps_of session (since session (made ∷ records)) given)
        more true is tail same = (
          Flushes ∷ tail.0,
          (refl, tail.1),
          steps_of-cons session made records given
              ∙ flush_step (made.session == session) made.entry.act (steps_of session records) given is
              ∙ ap (λ all. Flushes ∷ all) (tail.2 ∙ ap (λ last. tail.0 ++ last) (sym same)),
        )
        more false is tail same = (
          tail.0,
          tail.1,
          steps_of-cons session made records given
              ∙ ap (λ own. step_before own made.entry.act (steps_of session records) given) there
              ∙ skipped made.entry.act (steps_of session records) given is
              ∙ tail.2 ∙ ap (λ last. tail.0 ++ last) (sym same),
        )

-- the records of a session are those among what is shown
pub own_filtered : (session : ℕ) (records : List Record)
    → filter (λ (made : Record). made.session == session) (filter (is_shown session) records)
    ≡ filter (λ (made : Record). made.session == session) records
own_filtered session [] = refl
own_filtered session (made ∷ records) =
    go (made.session == session) (is_flush made.entry.act) refl refl (own_filtered session records)
  where
    own : Record → Bool
    own one = one.session == session

    go : (a b : Bool) → (made.session == session) ≡ a → is_flush made.entry.act ≡ b
        → filter own (filter (is_shown session) records) ≡ filter own records
        → filter own (cond (is_shown session made) (made ∷ picked session records) (picked session records))
        ≡ cond (own made) (made ∷ filter own records) (filter own records)
    go true b here flush rest =
        ap (λ a. filter own (cond (a || is_flush made.entry.act) (made ∷ filter (is_shown session) records)
        (filter (is_shown session) records))) here
        ∙ ap (λ a. cond a (made ∷ filter own (picked session records)) (filter own (picked session records))) here
        ∙ ap (λ all. made ∷ all) rest
        ∙ sym (ap (λ a. cond a (made ∷ filter own records) (filter own records)) here)
    go false true there flush rest =
        ap₂ (λ a b. filter own (cond (a || b) (made ∷ filter (is_shown session) records)
        (filter (is_shown session) records))) there flush
        ∙ ap (λ a. cond a (made ∷ filter own (picked session records)) (filter own (picked session records))) there
        ∙ rest
        ∙ sym (ap (λ a. cond a (made ∷ filter own records) (filter own records)) there)
    go false false there flush rest =
        ap₂ (λ a b. filter own (cond (a || b) (made ∷ filter (is_shown session) records)
        (filter (is_shown session) records))) there flush
        ∙ rest
        ∙ sym (ap (λ a. cond a (made ∷ filter own records) (filter own records)) there)
