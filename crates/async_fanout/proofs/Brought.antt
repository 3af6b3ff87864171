-- What messages bring, one after the other.
use Rattle.std.proofs.Common.{◌≡◌, ℕ, ◌≤◌, Bool, true, false, cond, not, ◌||◌, ◌&&◌, List, [], ◌∷◌, ◌++◌}
use Rattle.std.proofs.Common.{length, map, Option, Some, None, refl, sym, ap, ap₂, ◌∙◌, inl, inr}
use Rattle.std.proofs.Common.{arith, append_assoc}
use Rattle.std.specs.List.{filter, filter_map, flat_map, cons_option}
use Rattle.std.proofs.Common.{eqb}
use Rattle.std.proofs.lemmas.Bool.{cases_Bool, eqb-true, eq-eqb}
use Rattle.std.proofs.lemmas.List.{append-nil}
use Rattle.kom_types.specs.declared.calls.Call.{Call}
use Rattle.kom_types.specs.declared.calls.Call.TheVariants as call
use Rattle.kom_types.specs.declared.decisions.Decision.{Decision}
use Rattle.std.specs.Option.{option_map}
use Rattle.kom_types.specs.declared.items.Item.TheVariants as item
use Rattle.kom_types.specs.declared.messages.Message.{Message}
use Rattle.kom_types.specs.declared.seats.Seat.{Seat}
use Rattle.kom_types.specs.declared.session_changes.SessionChange.{SessionChange}
use Rattle.kom_types.specs.declared.session_changes.SessionChange.TheVariants as change
use Rattle.kom_model.specs.calls.Call.{Asked}
use Rattle.kom_model.specs.calls.Guards.{seat_at}
use Rattle.kom_model.specs.Messages.{logout}
use Rattle.kom_model.specs.Db.{Db}
use Rattle.kom_model.specs.Sending.{Delivery, Sending, accepts, delivery_to, delivered_to}
use Rattle.kom_model.specs.ToWhom.{sent_by, messages_of, is_refused, logged_out, logged_in}
use Rattle.kom_model.specs.Viewers.{viewer_of}
use Rattle.async_fanout.specs.Delivered.{all_brought, brings, as_list}
use Rattle.async_fanout.specs.Silent.{may_send, is_silent}

pub none : (asked : Asked) (old : List Delivery) → old ++ all_brought asked [] ≡ old
none asked old = append-nil old

pub one : (asked : Asked) (sending : Sending) →
    all_brought asked (sending ∷ []) ≡ delivered_to asked.db asked.seats sending
one asked sending = append-nil (delivered_to asked.db asked.seats sending)

flat_map-append : {A B : Type 0} (make : A → List B) (xs ys : List A) →
    flat_map make (xs ++ ys) ≡ flat_map make xs ++ flat_map make ys
flat_map-append make [] ys = refl
flat_map-append make (x ∷ xs) ys =
    ap (λ rest. make x ++ rest) (flat_map-append make xs ys)
    ∙ sym (append_assoc (make x) (flat_map make xs) (flat_map make ys))

pub brought-append : (asked : Asked) (one other : List Sending) →
    all_brought asked (one ++ other) ≡ all_brought asked one ++ all_brought asked other
brought-append asked one other = flat_map-append (delivered_to asked.db asked.seats) one other

filter_map-first : {A B : Type 0} (pick : A → Option B) (x : A) (xs : List A) →
    filter_map pick (x ∷ xs) ≡ as_list (pick x) ++ filter_map pick xs
filter_map-first pick x xs =
    elim (pick x) as (λ found. cons_option found (filter_map pick xs) ≡ as_list found ++ filter_map pick xs)
    [ None ↦ refl | Some one ↦ refl ]

-- element by element of a list, each of which sends something or nothing
pub brought-each : {A : Type 0} (asked : Asked) (pick : A → Option Sending) (xs : List A) →
    flat_map (λ x. all_brought asked (as_list (pick x))) xs ≡ all_brought asked (filter_map pick xs)
brought-each asked pick [] = refl
brought-each asked pick (x ∷ xs) =
    ap (λ rest. all_brought asked (as_list (pick x)) ++ rest) (brought-each asked pick xs)
    ∙ sym (brought-append asked (as_list (pick x)) (filter_map pick xs))
    ∙ ap (all_brought asked) (sym (filter_map-first pick x xs))

-- a call of no kind that sends something sends nothing
unsent : (asked : Asked) (decision : Decision) (what : Call) → may_send what ≡ false → sent_by asked decision what ≡ []
unsent asked decision what silent = grind arith

and-both : (one other : Bool) → (one && other) ≡ true → (one ≡ true) × (other ≡ true)
and-both true other both = (refl, both)
and-both false other both = cc

no-length : {A : Type 0} (xs : List A) → length xs ≡ 0 → xs ≡ []
no-length [] none = refl
no-length (x ∷ xs) none = absurd (omega arith)

not-true : (b : Bool) → not b ≡ true → b ≡ false
not-true true is = cc
not-true false is = refl

silent-parts : (asked : Asked) (what : Call) (decision : Decision) (refused : Bool) →
    (refused || not (may_send what)) ≡ true → cond refused [] (sent_by asked decision what) ≡ []
silent-parts asked what decision true silent = refl
silent-parts asked what decision false silent = unsent asked decision what (not-true (may_send what) silent)

-- a silent call sends nothing
pub silent_sends : (asked : Asked) (what : Call) (decision : Decision) → is_silent what decision ≡ true →
    messages_of asked what decision ≡ []
unfolding messages_of
silent_sends asked what decision silent =
    let both = and-both (eqb (length decision.changes) 0) (is_refused decision.reply || not (may_send what)) silent in
    let changes : decision.changes ≡ [] = no-length decision.changes (eqb-true _ _ both.0) in
    rw changes (ap (all_brought asked) (silent-parts asked what decision (is_refused decision.reply) both.1))

-- what a call sends, in its three parts
pub whole : (asked : Asked) (what : Call) (decision : Decision) (refused : Bool) → is_refused decision.reply ≡ refused →
    messages_of asked what decision
    ≡ (all_brought asked (filter_map (logged_out asked) decision.changes)
    ++ all_brought asked (filter_map logged_in decision.changes))
    ++ all_brought asked (cond refused [] (sent_by asked decision what))
unfolding messages_of
whole asked what decision refused is =
    let out = filter_map (logged_out asked) decision.changes in
    let in_ = filter_map logged_in decision.changes in
    let rest = cond refused [] (sent_by asked decision what) in
    ap (λ b. all_brought asked ((out ++ in_) ++ cond b [] (sent_by asked decision what))) is
    ∙ brought-append asked (out ++ in_) rest
    ∙ ap (λ list. list ++ all_brought asked rest) (brought-append asked out in_)

abbrev message_for : Seat → Message → Delivery
message_for seat message = record { session = seat.number; item = item.Message message }

-- what a message brings to a session that accepts it
pub delivered-accepted : (db : Db) (sending : Sending) (seat : Seat) → accepts sending.number seat ≡ true →
    as_list (delivery_to db sending seat) ≡ brings db sending seat
delivered-accepted db sending seat accepted =
    rw accepted (elim (eqb seat.person 0) as (λ b. as_list (cond (b || false) None
    (option_map (message_for seat) (sending.told (viewer_of db seat))))
    ≡ cond b [] (elim (sending.told (viewer_of db seat)) [
      | None ↦ []
      | Some message ↦ message_for seat message ∷ []
    ])) [
      | true ↦ refl
      | false ↦ elim (sending.told (viewer_of db seat)) as (λ told. as_list (option_map (message_for seat) told)
          ≡ elim told [ None ↦ [] | Some message ↦ message_for seat message ∷ [] ]) [
            | None ↦ refl
            | Some message ↦ refl
          ]
    ])

-- and to one that does not
delivered-silent : (db : Db) (sending : Sending) (seat : Seat) → accepts sending.number seat ≡ false →
    delivery_to db sending seat ≡ None
delivered-silent db sending seat silent =
    rw silent (elim (eqb seat.person 0) as (λ b. cond (b || true) None
    (option_map (message_for seat) (sending.told (viewer_of db seat))) ≡ None) [ true ↦ refl | false ↦ refl ])

-- it brings something to those alone that accept it
pub delivered-accepting : (db : Db) (sending : Sending) (seats : List Seat) →
    flat_map (brings db sending) (filter (accepts sending.number) seats) ≡ delivered_to db seats sending
delivered-accepting db sending [] = refl
delivered-accepting db sending (seat ∷ seats) =
    let rest = delivered-accepting db sending seats in
    elim (cases_Bool (accepts sending.number seat)) [
      | inl accepted ↦
          let kept : filter (accepts sending.number) (seat ∷ seats) ≡ seat ∷ filter (accepts sending.number) seats =
          rw accepted refl in
          ap (flat_map (brings db sending)) kept
          ∙ ap₂ (λ (one other : List Delivery). one ++ other) (sym (delivered-accepted db sending seat accepted)) rest
          ∙ sym (filter_map-first (delivery_to db sending) seat seats)
      | inr silent ↦
          let kept : filter (accepts sending.number) (seat ∷ seats) ≡ filter (accepts sending.number) seats =
          rw silent refl in
          ap (flat_map (brings db sending)) kept ∙ rest
          ∙ ap (λ found. cons_option found (delivered_to db seats sending))
          (sym (delivered-silent db sending seat silent))
    ]

pub within-filter : {A : Type 0} (keep : A → Bool) (xs : List A) → length (filter keep xs) ≤ length xs
within-filter keep [] = omega arith
within-filter keep (x ∷ xs) =
    let rest : length (filter keep xs) ≤ length xs = within-filter keep xs in
    elim (keep x) as (λ b. length (cond b (x ∷ filter keep xs) (filter keep xs)) ≤ length (x ∷ xs)) [
      | true ↦ omega arith
      | false ↦ omega arith
    ]

-- what is picked, and made into something else
pub filter_map-map : {A B C : Type 0} (pick : A → Option B) (make : B → C) (xs : List A) →
    filter_map (λ x. option_map make (pick x)) xs ≡ map make (filter_map pick xs)
filter_map-map pick make [] = refl
filter_map-map pick make (x ∷ xs) =
    elim (pick x) as (λ found. cons_option (option_map make found) (filter_map (λ x. option_map make (pick x)) xs)
    ≡ map make (cons_option found (filter_map pick xs))) [
      | None ↦ filter_map-map pick make xs
      | Some one ↦ ap (λ rest. make one ∷ rest) (filter_map-map pick make xs)
    ]

-- who is logged out of a session that is there, and of one that is not
abbrev out_of : ℕ → ℕ → Option Seat → Option Sending
out_of session person found = elim found [
  | None ↦ None
  | Some seat ↦ cond (eqb person 0) (Some (logout seat.person session)) None
]

pub out-absent : (asked : Asked) (what : SessionChange) (session person : ℕ) (invisible : Bool) →
    what ≡ change.Person session person invisible → seat_at asked.seats session ≡ None → logged_out asked what ≡ None
out-absent asked what session person invisible is absent =
    ap (logged_out asked) is ∙ ap (out_of session person) absent

pub out-there : (asked : Asked) (what : SessionChange) (session person : ℕ) (invisible : Bool) (seat : Seat) →
    what ≡ change.Person session person invisible → seat_at asked.seats session ≡ Some seat → person ≡ 0 →
    logged_out asked what ≡ Some (logout seat.person session)
out-there asked what session person invisible seat is there none =
    ap (logged_out asked) is ∙ ap (out_of session person) there
    ∙ ap (λ b. cond b (Some (logout seat.person session)) None) (eq-eqb person 0 none)
