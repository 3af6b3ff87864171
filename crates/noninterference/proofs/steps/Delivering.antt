-- What a call delivers to a session is what its messages bring to the seat of that number.
use Rattle.std.proofs.Common.{◌≡◌, ℕ, Bool, true, false, cond, ◌==◌, List, [], ◌∷◌, ◌++◌, Option, Some, None, refl}
use Rattle.std.proofs.Common.{sym, ap}
use Rattle.std.proofs.Common.{ap₂, ◌∙◌, inl, inr, ◌⊎◌, eqb-true, subst}
use Rattle.std.specs.Prelude.{map, option_map, nat_eq}
use Rattle.std.specs.List.{filter, filter_map, flat_map, cons_option, AllByRecursion, IsDistinct}
use Rattle.std.proofs.lemmas.Bool.{cases_Bool}
use Rattle.std.proofs.lemmas.List.Elements.{filter-append}
use Rattle.std.proofs.lemmas.Map.Keys.{IsDistinct-head, IsDistinct-tail}
use Rattle.kom_types.specs.declared.items.Item.TheVariants as item
use Rattle.kom_types.specs.declared.messages.Message.{Message}
use Rattle.kom_types.specs.declared.seats.Seat.{Seat}
use Rattle.kom_types.specs.Sessions.{Session}
use Rattle.kom_model.specs.Db.{Db}
use Rattle.kom_model.specs.Sending.{Delivery, Sending, delivery_to, delivered_to}
use Rattle.noninterference.specs.outputs.Brought.{brought_to}

abbrev pub is_for : ℕ → Delivery → Bool
is_for number one = number == one.session

-- the sessions of a number, of which there is one at most
module _ (number : ℕ) where
  abbrev pub seats_at : List Session → List Seat
  seats_at sessions = filter (λ seat. number == seat.number) (map (λ session. session.seat) sessions)

  none-at : (sessions : List Session) →
      AllByRecursion (λ other. nat_eq number other ≡ false) (map (λ session. session.seat.number) sessions) →
      seats_at sessions ≡ []
  none-at [] apart = refl
  none-at (session ∷ sessions) apart =
      ap (λ here. cond here (session.seat ∷ seats_at sessions) (seats_at sessions)) apart.0 ∙ none-at sessions apart.1

  one-more : (here : Bool) (seat : Seat) (seats : List Seat) → (here ≡ true → seats ≡ []) →
      ((seats ≡ []) ⊎ ((seat : Seat) × (seats ≡ seat ∷ []))) →
      ((cond here (seat ∷ seats) seats ≡ []) ⊎ ((first : Seat) × (cond here (seat ∷ seats) seats ≡ first ∷ [])))
  one-more true seat seats none found = inr (seat, ap (λ seats. seat ∷ seats) (none refl))
  one-more false seat seats none found = found

  pub one-at : (sessions : List Session) → IsDistinct nat_eq (map (λ session. session.seat.number) sessions) →
      (seats_at sessions ≡ []) ⊎ ((seat : Seat) × (seats_at sessions ≡ seat ∷ []))
  one-at [] distinct = inl refl
  one-at (session ∷ sessions) distinct =
      let numbers : List ℕ = map (λ (session : Session). session.seat.number) sessions in
      one-more (number == session.seat.number) session.seat (seats_at sessions)
      (λ here. none-at sessions (subst (λ n. AllByRecursion (λ other. nat_eq n other ≡ false) numbers)
      (sym (eqb-true number session.seat.number here))
      (IsDistinct-head nat_eq session.seat.number numbers distinct)))
      (one-at sessions (IsDistinct-tail nat_eq session.seat.number numbers distinct))

  -- what one message brings to each seat, and which of that is for the session
  kept : (stays : Bool) (found : Option Message) (seat : Seat) (others : List Delivery) →
      filter (is_for number) (cons_option (cond stays None (option_map
      (λ message. record { session = seat.number; item = item.Message message }) found)) others)
      ≡ cons_option (cond (number == seat.number) (cond stays None (option_map
      (λ message. record { session = seat.number; item = item.Message message }) found)) None)
      (filter (is_for number) others)
  kept true found seat others = elim (cases_Bool (number == seat.number)) [
    | inl here ↦ rw here refl
    | inr there ↦ rw there refl
  ]
  kept false None seat others = elim (cases_Bool (number == seat.number)) [
    | inl here ↦ rw here refl
    | inr there ↦ rw there refl
  ]
  kept false (Some message) seat others = elim (cases_Bool (number == seat.number)) [
    | inl here ↦ rw here refl
    | inr there ↦ rw there refl
  ]

  picked : (keeps : Bool) (bring : Seat → Option Delivery) (seat : Seat) (seats : List Seat) →
      cons_option (cond keeps (bring seat) None) (filter_map bring seats)
      ≡ filter_map bring (cond keeps (seat ∷ seats) seats)
  picked true bring seat seats = refl
  picked false bring seat seats = refl

  delivered-kept : (db : Db) (sending : Sending) (seats : List Seat) →
      filter (is_for number) (delivered_to db seats sending)
      ≡ filter_map (delivery_to db sending) (filter (λ seat. number == seat.number) seats)
  delivered-kept db sending [] = refl
  delivered-kept db sending (seat ∷ seats) =
      kept _ _ seat (delivered_to db seats sending)
      ∙ ap (λ (others : List Delivery). cons_option (cond (number == seat.number) (delivery_to db sending seat) None)
      others) (delivered-kept db sending seats)
      ∙ picked (number == seat.number) (delivery_to db sending) seat (filter (λ seat. number == seat.number) seats)

  all-kept : (db : Db) (seats : List Seat) (sent : List Sending) →
      filter (is_for number) (flat_map (delivered_to db seats) sent)
      ≡ flat_map (λ sending. filter_map (delivery_to db sending) (filter (λ seat. number == seat.number) seats)) sent
  all-kept db seats [] = refl
  all-kept db seats (sending ∷ sent) =
      filter-append (is_for number) (delivered_to db seats sending) (flat_map (delivered_to db seats) sent)
      ∙ ap₂ (λ (first others : List Delivery). first ++ others) (delivered-kept db sending seats)
      (all-kept db seats sent)

  to-none : (db : Db) (sent : List Sending) → flat_map (λ sending. filter_map (delivery_to db sending) []) sent ≡ []
  to-none db [] = refl
  to-none db (sending ∷ sent) = to-none db sent

  first-of : (first : Option Delivery) (others : List Delivery) →
      cons_option first [] ++ others ≡ cons_option first others
  first-of None others = refl
  first-of (Some one) others = refl

  to-one : (db : Db) (seat : Seat) (sent : List Sending) →
      flat_map (λ sending. filter_map (delivery_to db sending) (seat ∷ [])) sent ≡ brought_to db seat sent
  to-one db seat [] = refl
  to-one db seat (sending ∷ sent) =
      ap (λ (others : List Delivery). cons_option (delivery_to db sending seat) [] ++ others) (to-one db seat sent)
      ∙ first-of (delivery_to db sending seat) (brought_to db seat sent)

  -- nothing, where there is no such session; and else what comes to its seat
  pub none-delivered : (db : Db) (seats : List Seat) (sent : List Sending) →
      filter (λ seat. number == seat.number) seats ≡ [] →
      filter (is_for number) (flat_map (delivered_to db seats) sent) ≡ []
  none-delivered db seats sent none = all-kept db seats sent
      ∙ ap (λ (seats : List Seat). flat_map (λ sending. filter_map (delivery_to db sending) seats) sent) none
      ∙ to-none db sent

  pub one-delivered : (db : Db) (seats : List Seat) (sent : List Sending) (seat : Seat) →
      filter (λ seat. number == seat.number) seats ≡ seat ∷ [] →
      filter (is_for number) (flat_map (delivered_to db seats) sent) ≡ brought_to db seat sent
  one-delivered db seats sent seat one = all-kept db seats sent
      ∙ ap (λ (seats : List Seat). flat_map (λ sending. filter_map (delivery_to db sending) seats) sent) one
      ∙ to-one db seat sent
