-- What a seat shows.
use Rattle.std.proofs.Common.{◌≡◌, ◌≢◌, ℕ, ◌==◌, ◌⊎◌, ◌&&◌, ◌||◌, Bool, true, false, not, inl, inr, List, [], ◌∷◌, ◌++◌}
use Rattle.std.proofs.Common.{refl, sym, ◌∙◌, ap, ap₂, subst, cond, ne_eqb, eq-eqb}
use Rattle.std.specs.Prelude.{filter}
use Rattle.std.proofs.lemmas.Bool.{cases_Bool, eqb-true}
use Rattle.std.proofs.lemmas.List.Elements.{filter-append}
use Rattle.std.specs.List.{list_any}
use Rattle.kom_types.specs.declared.acts.Act.{Act}
use Rattle.kom_types.specs.declared.acts.Act.TheVariants as act
use Rattle.kom_types.specs.declared.acts.Record.{Record}
use Rattle.kom_links.specs.Records.{is_connect, is_close, has_connect, has_close, has_session, is_open, IsOpen}
use Rattle.kom_hub.specs.Seats.{is_flush, is_shown, since, since_at, from_first, seat_records, shown_at}

or_elim : (a b : Bool) → (a || b) ≡ true → (a ≡ true) ⊎ (b ≡ true)
or_elim true b e = inl refl
or_elim false b e = inr e

or_right : (a b : Bool) → b ≡ true → (a || b) ≡ true
or_right true b e = refl
or_right false b e = e

and_left : (a b : Bool) → (a && b) ≡ true → a ≡ true
and_left true b e = refl
and_left false b e = e

and_right : (a b : Bool) → (a && b) ≡ true → b ≡ true
and_right true b e = e
and_right false b e = cc

or_false : (a : Bool) → (a || false) ≡ a
or_false true = refl
or_false false = refl

and_false : (a : Bool) → (a && false) ≡ false
and_false true = refl
and_false false = refl

-- a record of a session that has none
pub not_here : (session : ℕ) (made : Record) (records : List Record) → has_session session (made ∷ records) ≡ false
    → ((made.session == session) ≡ false) × (has_session session records ≡ false)
not_here session made records none = parts (made.session == session) (has_session session records) none
  where
    parts : (a b : Bool) → (a || b) ≡ false → (a ≡ false) × (b ≡ false)
    parts true b e = cc
    parts false b e = (refl, e)

-- ---- one record more

pub since_absent : (session : ℕ) (records more : List Record) → has_session session records ≡ false
    → since session (records ++ more) ≡ since session more
since_absent session [] more none = refl
since_absent session (made ∷ records) more none =
    let both : ((made.session == session) ≡ false) × (has_session session records ≡ false) =
    not_here session made records none in
    ap (λ b. since_at b made (filter (is_shown session) (records ++ more)) (since session (records ++ more))) both.0
    ∙ since_absent session records more both.1

pub since_present : (session : ℕ) (records more : List Record) → has_session session records ≡ true
    → since session (records ++ more) ≡ since session records ++ filter (is_shown session) more
since_present session [] more some = cc
since_present session (made ∷ records) more some = elim (cases_Bool (made.session == session)) [
  | inl here ↦
      ap (λ b. since_at b made (filter (is_shown session) (records ++ more)) (since session (records ++ more))) here
      ∙ ap (λ rest. made ∷ rest) (filter-append (is_shown session) records more)
      ∙ sym (ap (λ b. since_at b made (filter (is_shown session) records) (since session records)
      ++ filter (is_shown session) more) here)
  | inr there ↦
      let rest : has_session session records ≡ true =
      later (made.session == session) (has_session session records) there some in
      ap (λ b. since_at b made (filter (is_shown session) (records ++ more)) (since session (records ++ more))) there
      ∙ since_present session records more rest
      ∙ sym (ap (λ b. since_at b made (filter (is_shown session) records) (since session records)
      ++ filter (is_shown session) more) there)
]
  where
    later : (a b : Bool) → a ≡ false → (a || b) ≡ true → b ≡ true
    later true b e f = cc
    later false b e f = f

-- ---- who is open

any_filter : (p q : Record → Bool) (records : List Record) → ((made : Record) → p made ≡ true → q made ≡ true)
    → list_any p (filter q records) ≡ list_any p records
any_filter p q [] more = refl
any_filter p q (made ∷ records) more = elim (cases_Bool (q made)) [
  | inl here ↦
      ap (λ b. list_any p (cond b (made ∷ filter q records) (filter q records))) here
      ∙ ap (λ rest. p made || rest) (any_filter p q records more)
  | inr there ↦
      let fails : p made ≡ false = without there in
      ap (λ b. list_any p (cond b (made ∷ filter q records) (filter q records))) there
      ∙ any_filter p q records more
      ∙ sym (ap (λ b. b || list_any p records) fails)
]
  where
    without : q made ≡ false → p made ≡ false
    without there = elim (cases_Bool (p made)) [
      | inl holds ↦ absurd (let t : q made ≡ true = more made holds in cc)
      | inr fails ↦ fails
    ]

none_filter : (p q : Record → Bool) (records : List Record) → ((made : Record) → q made ≡ true → p made ≡ false)
    → list_any p (filter q records) ≡ false
none_filter p q [] none = refl
none_filter p q (made ∷ records) none = elim (cases_Bool (q made)) [
  | inl here ↦
      ap (λ b. list_any p (cond b (made ∷ filter q records) (filter q records))) here
      ∙ ap (λ b. b || list_any p (filter q records)) (none made here)
      ∙ none_filter p q records none
  | inr there ↦
      ap (λ b. list_any p (cond b (made ∷ filter q records) (filter q records))) there
      ∙ none_filter p q records none
]

own_is_shown : (session : ℕ) (made : Record) → (made.session == session) ≡ true → is_shown session made ≡ true
own_is_shown session made own = ap (λ b. b || is_flush made.entry.act) own

pub any_since : (p : Record → Bool) (session : ℕ) (records : List Record)
    → ((made : Record) → p made ≡ true → (made.session == session) ≡ true)
    → list_any p (since session records) ≡ list_any p records
any_since p session [] own = refl
any_since p session (made ∷ records) own = elim (cases_Bool (made.session == session)) [
  | inl here ↦
      ap (λ b. list_any p (since_at b made (filter (is_shown session) records) (since session records))) here
      ∙ ap (λ rest. p made || rest) (any_filter p (is_shown session) records
      (λ one holds. own_is_shown session one (own one holds)))
  | inr there ↦
      ap (λ b. list_any p (since_at b made (filter (is_shown session) records) (since session records))) there
      ∙ any_since p session records own
      ∙ sym (ap (λ b. b || list_any p records) (without there))
]
  where
    without : (made.session == session) ≡ false → p made ≡ false
    without there = elim (cases_Bool (p made)) [
      | inl holds ↦ absurd (let t : (made.session == session) ≡ true = own made holds in cc)
      | inr fails ↦ fails
    ]

none_since : (p : Record → Bool) (session : ℕ) (records : List Record)
    → ((made : Record) → is_shown session made ≡ true → p made ≡ false)
    → list_any p (since session records) ≡ false
none_since p session [] none = refl
none_since p session (made ∷ records) none = elim (cases_Bool (made.session == session)) [
  | inl here ↦
      ap (λ b. list_any p (since_at b made (filter (is_shown session) records) (since session records))) here
      ∙ ap (λ b. b || list_any p (filter (is_shown session) records)) (none made (own_is_shown session made here))
      ∙ none_filter p (is_shown session) records none
  | inr there ↦
      ap (λ b. list_any p (since_at b made (filter (is_shown session) records) (since session records))) there
      ∙ none_since p session records none
]

connect_no_flush : (what : Act) → is_flush what ≡ true → is_connect what ≡ false
connect_no_flush (act.Connect user host) e = cc
connect_no_flush (act.Call session reference call) e = cc
connect_no_flush (act.Broken session) e = cc
connect_no_flush (act.Drain session) e = cc
connect_no_flush act.Flush e = refl
connect_no_flush (act.Close session) e = cc

own_connect : (session : ℕ) (made : Record) → (is_connect made.entry.act && (made.session == session)) ≡ true
    → (made.session == session) ≡ true
own_connect session made e = and_right (is_connect made.entry.act) (made.session == session) e

own_close : (session : ℕ) (made : Record) → (is_close made.entry.act && (made.session == session)) ≡ true
    → (made.session == session) ≡ true
own_close session made e = and_right (is_close made.entry.act) (made.session == session) e

flush_connects : (number : ℕ) (made : Record) → is_flush made.entry.act ≡ true
    → (is_connect made.entry.act && (made.session == number)) ≡ false
flush_connects number made flush = ap (λ b. b && (made.session == number)) (connect_no_flush made.entry.act flush)

-- among what is shown nobody else was connected
others_connect : (session number : ℕ) → number ≢ session → (made : Record) → is_shown session made ≡ true
    → (is_connect made.entry.act && (made.session == number)) ≡ false
others_connect session number other made is = elim (or_elim (made.session == session) (is_flush made.entry.act) is) [
  | inl own ↦
      let at : made.session ≡ session = eqb-true _ _ own in
      let no : (made.session == number) ≡ false = ne_eqb made.session number (λ e. other (sym e ∙ at)) in
      ap (λ b. is_connect made.entry.act && b) no ∙ and_false (is_connect made.entry.act)
  | inr flush ↦ flush_connects number made flush
]

-- who has no record was not connected
absent_connect : (session : ℕ) (records : List Record) → has_session session records ≡ false
    → has_connect session records ≡ false
absent_connect session [] e = refl
absent_connect session (made ∷ records) e =
    let both : ((made.session == session) ≡ false) × (has_session session records ≡ false) =
    not_here session made records e in
    ap (λ b. (is_connect made.entry.act && b) || has_connect session records) both.0
    ∙ ap (λ b. b || has_connect session records) (and_false (is_connect made.entry.act))
    ∙ absent_connect session records both.1

pub connected_present : (session : ℕ) (records : List Record) → IsOpen session records
    → has_session session records ≡ true
connected_present session records opened = elim (cases_Bool (has_session session records)) [
  | inl here ↦ here
  | inr there ↦
      absurd (let t : has_connect session records ≡ false = absent_connect session records there in
      let u : has_connect session records ≡ true =
      and_left (has_connect session records) (not (has_close session records)) opened in cc)
]

pub shown_some : (session : ℕ) (records : List Record) → session ≢ 0
    → seat_records session records ≡ from_first (has_session session records) session records
shown_some session records some =
    ap (λ b. shown_at b (from_first (has_session session records) session records)) (ne_eqb session 0 some)

pub shown_by : (session : ℕ) (records : List Record) (has : Bool) → session ≢ 0 → has_session session records ≡ has
    → seat_records session records ≡ from_first has session records
shown_by session records has some e =
    shown_some session records some ∙ ap (λ b. from_first b session records) e

pub open_same : (session : ℕ) (records : List Record) → session ≢ 0
    → is_open session (seat_records session records) ≡ is_open session records
open_same session records some = elim (cases_Bool (has_session session records)) [
  | inl here ↦
      ap (is_open session) (shown_by session records true some here)
      ∙ ap₂ (λ a b. a && not b)
      (any_since (λ made. is_connect made.entry.act && (made.session == session)) session records (own_connect session))
      (any_since (λ made. is_close made.entry.act && (made.session == session)) session records (own_close session))
  | inr there ↦
      ap (is_open session) (shown_by session records false some there)
      ∙ ap (λ b. b && not (has_close session (filter (λ made. is_flush made.entry.act) records)))
      (none_filter (λ made. is_connect made.entry.act && (made.session == session))
      (λ made. is_flush made.entry.act) records (flush_connects session))
      ∙ sym (ap (λ b. b && not (has_close session records)) (absent_connect session records there))
]

shown_zero : (session : ℕ) (records : List Record) → (session == 0) ≡ true → seat_records session records ≡ []
shown_zero session records zero =
    ap (λ b. shown_at b (from_first (has_session session records) session records)) zero

pub open_other : (session number : ℕ) (records : List Record) → number ≢ session
    → is_open number (seat_records session records) ≡ false
open_other session number records other = elim (cases_Bool (session == 0)) [
  | inl zero ↦ ap (is_open number) (shown_zero session records zero)
  | inr some ↦
      let is : session ≢ 0 = λ e. let t : (session == 0) ≡ true = eq-eqb session 0 e in cc in
      elim (cases_Bool (has_session session records)) [
        | inl here ↦
            ap (is_open number) (shown_by session records true is here)
            ∙ ap (λ b. b && not (has_close number (since session records)))
            (none_since (λ made. is_connect made.entry.act && (made.session == number)) session records
            (others_connect session number other))
        | inr there ↦
            ap (is_open number) (shown_by session records false is there)
            ∙ ap (λ b. b && not (has_close number (filter (λ made. is_flush made.entry.act) records)))
            (none_filter (λ made. is_connect made.entry.act && (made.session == number))
            (λ made. is_flush made.entry.act) records (flush_connects number))
      ]
]

-- who is open among what is shown is the seat's own session, and open
pub shown_own : (session number : ℕ) (records : List Record) → IsOpen number (seat_records session records)
    → (number ≡ session) × (session ≢ 0)
shown_own session number records opened = elim (cases_Bool (number == session)) [
  | inl same ↦ (eqb-true _ _ same, nobody)
  | inr differs ↦
      absurd (let t : is_open number (seat_records session records) ≡ false =
      open_other session number records (λ e. let s : (number == session) ≡ true = eq-eqb number session e in cc) in cc)
]
  where
    nobody : session ≢ 0
    nobody zero =
        let t : is_open number (seat_records session records) ≡ false =
        ap (is_open number) (shown_zero session records (eq-eqb session 0 zero)) in cc

pub shown_open : (session number : ℕ) (records : List Record) → IsOpen number (seat_records session records)
    → IsOpen number records
shown_open session number records opened =
    let own : (number ≡ session) × (session ≢ 0) = shown_own session number records opened in
    subst (λ (k : ℕ). is_open k records ≡ true) (sym own.0)
    (sym (open_same session records own.1)
    ∙ subst (λ (k : ℕ). is_open k (seat_records session records) ≡ true) own.0 opened)
