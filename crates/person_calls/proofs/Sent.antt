-- Whether somebody gets a message that is sent to a conference.
use Rattle.std.proofs.Common.{◌≡◌, ℕ, ◌+◌, ◌<◌, ◌≤◌, Bool, true, false, cond, not, ◌||◌, ◌&&◌, eqb, List, [], ◌∷◌}
use Rattle.std.proofs.Common.{length, filter, take, get_or, Option, Some, None, is_some, option_map, refl, sym, ap}
use Rattle.std.proofs.Common.{◌∙◌, true≢false, inl, inr, arith}
use Rattle.std.specs.List.{filter_map, cons_option, list_any, slice_get}
use Rattle.std.proofs.lemmas.Bool.{ne_eqb}
use Rattle.std.proofs.lemmas.List.{take_all}
use Rattle.std.proofs.lemmas.List.Folds.{list_any_at, list_any_more}
use Rattle.std.proofs.lemmas.List.Sums.{length-filter, count_by-le-length}
use Rattle.std.proofs.lemmas.Option.{none-some, get_or_from_slice_get, slice_get_cases, slice_get_within}
use Rattle.kom_types.specs.declared.seats.Seat.{Seat}
use Rattle.kom_model.specs.Db.{Db}
use Rattle.kom_model.specs.Messages.{hears, send_message}
use Rattle.kom_model.specs.Sending.{accepts, delivery_to}
use Rattle.kom_model.specs.calls.Call.{Asked}
use Rattle.kom_model.specs.calls.Sessions.{is_sent}

-- ---- what the elements of a list give
module _ {X Y : Type 0} (test : X → Bool) (x : X) (xs : List X) (given : List Y)
    (so_far : not (eqb (length given) 0) ≡ list_any test xs) where
  one_more : (found : Option Y) (taken : Bool) → is_some found ≡ (taken && test x) →
      not (eqb (length (cons_option found given)) 0) ≡ list_any test (cond taken (x ∷ xs) xs)
  one_more (Some y) true is =
      let some : eqb (length (y ∷ given)) 0 ≡ false = ne_eqb _ _ (λ e. omega (arith, e)) in
      rw (some, sym is) refl
  one_more (Some y) false is = absurd (true≢false is)
  one_more None true is = rw (sym is) so_far
  one_more None false is = so_far

-- it is something exactly if one of those that are taken passes a test
something : {X Y : Type 0} (give : X → Option Y) (takes test : X → Bool) →
    ((x : X) → is_some (give x) ≡ (takes x && test x)) → (xs : List X) →
    not (eqb (length (filter_map give xs)) 0) ≡ list_any test (filter takes xs)
something give takes test gives [] = refl
something give takes test gives (x ∷ xs) =
    one_more test x (filter takes xs) (filter_map give xs) (something give takes test gives xs) (give x) (takes x)
    (gives x)

-- ---- what a message brings
brought : {M D : Type 0} (make : M → D) (what : M) (nobody accepted heard : Bool) →
    is_some (cond (nobody || not accepted) None (option_map make (cond heard (Some what) None)))
    ≡ (accepted && (not nobody && heard))
brought make what true true heard = refl
brought make what true false heard = refl
brought make what false true true = refl
brought make what false true false = refl
brought make what false false heard = refl

-- somebody is logged in at a seat who hears what is sent to a conference
abbrev pub is_heard : Db → ℕ → Seat → Bool
is_heard db recipient seat = not (eqb seat.person 0) && hears db seat.person recipient

-- the seats that accept it
abbrev pub accepting : Asked → List Seat
accepting asked = filter (accepts 12) asked.seats

module _ (asked : Asked) (recipient : ℕ) where
  -- it is sent exactly if one of them hears it
  sent-any : (text : List ℕ) →
      is_sent asked recipient text ≡ list_any (is_heard asked.db recipient) (accepting asked)
  sent-any text =
      something (delivery_to asked.db (send_message asked.db recipient _ text)) (accepts 12)
      (is_heard asked.db recipient) (λ seat. brought _ _ (eqb seat.person 0) (accepts 12 seat)
      (hears asked.db seat.person recipient)) asked.seats

  -- none of those before a place hears it
  abbrev pub IsUnheard : ℕ → Type 0
  IsUnheard place = list_any (is_heard asked.db recipient) (take place (accepting asked)) ≡ false

  module _ (place : ℕ) (seat : Seat) (here : slice_get (accepting asked) place ≡ Some seat) where
    within : place < length (accepting asked)
    within = slice_get_within (accepting asked) place seat here

    told : (heard : Bool) → is_heard asked.db recipient seat ≡ heard →
        is_heard asked.db recipient (get_or (accepting asked) place seat) ≡ heard
    told heard is =
        ap (is_heard asked.db recipient) (get_or_from_slice_get (accepting asked) place seat seat here) ∙ is

    -- this one does
    pub sent-here : is_heard asked.db recipient seat ≡ true → (text : List ℕ) →
        true ≡ is_sent asked recipient text
    sent-here heard text =
        sym (sent-any text
        ∙ list_any_at (is_heard asked.db recipient) (accepting asked) place seat within (told true heard))

    -- nor does this one
    pub unheard-more : is_heard asked.db recipient seat ≡ false → IsUnheard place → IsUnheard (place + 1)
    unheard-more unheard before =
        list_any_more (is_heard asked.db recipient) (accepting asked) place seat within
        ∙ ap (λ b. b || is_heard asked.db recipient (get_or (accepting asked) place seat)) before
        ∙ told false unheard

  -- if none of them does, nobody gets it
  unsent : (place : ℕ) → IsUnheard place → length (accepting asked) ≤ place → (text : List ℕ) →
      false ≡ is_sent asked recipient text
  unsent place before past text =
      sym (sent-any text ∙ ap (list_any (is_heard asked.db recipient)) (sym (take_all place (accepting asked) past))
      ∙ before)

  -- where there is no such place any more
  pub unsent-past : (place : ℕ) → IsUnheard place → slice_get (accepting asked) place ≡ None → (text : List ℕ) →
      false ≡ is_sent asked recipient text
  unsent-past place before none =
      unsent place before (elim (slice_get_cases (accepting asked) place).1 [
        | inl found ↦ absurd (none-some found.0 (sym none ∙ found.2))
        | inr past ↦ past.0
      ])

  -- where there are no more sessions
  pub unsent-all : (place : ℕ) → IsUnheard place → length asked.seats ≤ place → (text : List ℕ) →
      false ≡ is_sent asked recipient text
  unsent-all place before past =
      unsent place before (omega (
        arith,
        length-filter (accepts 12) asked.seats,
        count_by-le-length (accepts 12) asked.seats,
      ))
