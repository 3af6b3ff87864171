-- Walks with one step more, and calls that only ask.
use Rattle.std.proofs.Common.{◌≡◌, ℕ, ◌+◌, ◌<◌, ◌≤◌, ◌&&◌, nat_lt, Bool, true, false, inl, inr, List, [], ◌∷◌}
use Rattle.std.proofs.Common.{◌++◌, map, filter, flat_map, Option, Some, None, refl, sym, ap, ap₂, subst, ◌∙◌}
use Rattle.std.proofs.Common.{arith, append_assoc, append-nil, if◌then◌else◌}
use Rattle.std.specs.Prelude.{IfSome}
use Rattle.std.proofs.lemmas.Grind.{flat_map-append}
use Rattle.std.proofs.lemmas.Bool.Decides.{nat_tests}
use Rattle.std.proofs.lemmas.List.{map-append}
use Rattle.std.proofs.lemmas.List.Elements.{filter-append}
use Rattle.std.proofs.lemmas.List.Folds.{list_all-append}
use Rattle.kom_types.specs.declared.calls.Call.{Call}
use Rattle.kom_types.specs.declared.calls.Call.TheVariants as call
use Rattle.kom_types.specs.declared.replies.Reply.{Reply}
use Rattle.kom_types.specs.declared.replies.Reply.TheVariants as reply
use Rattle.kom_types.specs.declared.answers.NotMade.{NotMade}
use Rattle.kom_sweep.specs.Told.{Told, tell, asks, only_asks, IsAbout}
use Rattle.kom_sweep.specs.Replies.{number_in, conference_in}
use Rattle.kom_sweep.specs.Acting.{Seen, Goes, Stops}
use Rattle.kom_sweep.specs.Due.{Step, Walk, Room, Look, has_owner, is_due}
use Rattle.kom_sweep.specs.Walks.{Leads, IsEnd, told_owner, told_room, told_at_room, told_child}
use Rattle.kom_sweep.specs.Walks.{told_at_text, number_above, due_in}
use Rattle.kom_sweep.proofs.Going.{goes_on, stops_on}

-- ---- calls that only ask

pub none_on : (one two : List Told) → only_asks one ≡ true → only_asks two ≡ true → only_asks (one ++ two) ≡ true
none_on one two a b = list_all-append (λ (one : Told). asks one.call) one two ∙ ap₂ (λ x y. x && y) a b

pub about_none : (one : Call) (calls : List Told) → asks one ≡ true → IsAbout one calls → only_asks calls ≡ true
about_none one calls e (inl none) = ap only_asks none
about_none one calls e (inr (reply, is)) = ap only_asks is ∙ ap (λ (b : Bool). b && true) e

none_owner : (number : ℕ) (room : Room) → only_asks (told_owner number room) ≡ true
none_owner number room = by (has_owner (conference_in room.conference))
  where
    by : (b : Bool) → only_asks (if b then tell (call.GetPersonStat number) room.owner ∷ [] else []) ≡ true
    by true = refl
    by false = refl

pub none_room : (number : ℕ) (room : Room) → only_asks (told_room number room) ≡ true
none_room number room = none_owner number room

pub none_rooms : (steps : List (Step Room)) → only_asks (flat_map told_at_room steps) ≡ true
none_rooms [] = refl
none_rooms (step ∷ steps) =
    none_on (told_at_room step) (flat_map told_at_room steps) (none_room step.number step.told) (none_rooms steps)

pub none_children : (children : List (ℕ × Option Reply)) → only_asks (map told_child children) ≡ true
none_children [] = refl
none_children ((child, reply) ∷ children) = none_children children

pub none_texts : (steps : List (Step Look)) → only_asks (flat_map told_at_text steps) ≡ true
none_texts [] = refl
none_texts (step ∷ steps) =
    none_on (told_at_text step) (flat_map told_at_text steps) (none_children step.told.children) (none_texts steps)

-- ---- what is broken off

-- calls that only ask, after which it is broken off
pub breaks_on : {session : ℕ} {calls : List Told} {faults : List NotMade} (x y z : Seen) → Goes session x y calls →
    only_asks calls ≡ true → ((more : List Told) × (only_asks more ≡ true) × Stops session y z more faults) →
    ((more : List Told) × (only_asks more ≡ true) × Stops session x z more faults)
breaks_on {session} {calls} {faults} x y z goes none (more, then_none, stops) =
    (calls ++ more, none_on calls more none then_none, stops_on x y z goes stops)

-- the same of one call
pub breaks_about : {session : ℕ} {faults : List NotMade} (one : Call) (x y : Seen) → asks one ≡ true →
    ((calls : List Told) × IsAbout one calls × Stops session x y calls faults) →
    ((calls : List Told) × (only_asks calls ≡ true) × Stops session x y calls faults)
breaks_about one x y e (calls, about, stops) = (calls, about_none one calls e about, stops)

-- ---- steps

pub leads_push : {X : Type 0} (from : ℕ) (steps : List (Step X)) (at number : ℕ) (what : X) → Leads from steps at →
    at < number → Leads from (steps ++ record { after = at; number = number; told = what } ∷ []) number
leads_push from [] at number what is more = (is, more, refl)
leads_push from (step ∷ steps) at number what leads more =
    (leads.0, leads.1, leads_push step.number steps at number what leads.2 more)

flat_push : {X Y : Type 0} (f : X → List Y) (xs : List X) (x : X) → flat_map f (xs ++ x ∷ []) ≡ flat_map f xs ++ f x
flat_push f xs x = flat_map-append f xs (x ∷ []) ∙ ap (λ ys. flat_map f xs ++ ys) (append-nil (f x))

-- a step is asked for, and then it is asked about
pub goes_step : {X : Type 0} {session : ℕ} (told_at : Step X → List Told) (steps : List (Step X)) (step : Step X)
    (one : Told) (rest : List Told) (x m n y : Seen) → told_at step ≡ one ∷ rest →
    Goes session x m (flat_map told_at steps) → Goes session m n (one ∷ []) → Goes session n y rest →
    Goes session x y (flat_map told_at (steps ++ step ∷ []))
goes_step {session = session} told_at steps step one rest x m n y e before first then_rest =
    subst (λ (calls : List Told). Goes session x y calls)
    (append_assoc (flat_map told_at steps) (one ∷ []) rest
    ∙ ap (λ (calls : List Told). flat_map told_at steps ++ calls) (sym e)
    ∙ sym (flat_push told_at steps step))
    (goes_on x n y (goes_on x m n before first) then_rest)

-- ---- numbers that were told

number_reply : (answer : Option Reply) (number : ℕ) → number_in answer ≡ Some number →
    answer ≡ Some (reply.Number number)
number_reply (Some (reply.Number told)) number e = ap (λ n. Some (reply.Number n)) (cc e)
number_reply _ number e = cc

pub number_told : (at : ℕ) (answer : Option Reply) (number : ℕ) → number_above at (number_in answer) ≡ Some number →
    (answer ≡ Some (reply.Number number)) × (at < number)
number_told at answer number e = by (number_in answer) refl e
  where
    by : (o : Option ℕ) → number_in answer ≡ o → number_above at o ≡ Some number →
        (answer ≡ Some (reply.Number number)) × (at < number)
    by None f e = cc
    by (Some given) f e = above (nat_lt at given) refl e
      where
        above : (b : Bool) → nat_lt at given ≡ b → (if b then Some given else None) ≡ Some number →
            (answer ≡ Some (reply.Number number)) × (at < number)
        above true less e =
            let same : given ≡ number = cc e in
            (number_reply answer number (f ∙ e), subst (λ (n : ℕ). at < n) same (grind (arith, nat_tests)))
        above false less e = cc

pub end_told : (at : ℕ) (answer : Option Reply) → number_above at (number_in answer) ≡ None → IsEnd at answer
end_told at answer e = by (number_in answer) e
  where
    by : (o : Option ℕ) → number_above at o ≡ None → IfSome o (λ number. number ≤ at)
    by None e = tt
    by (Some given) e = above (nat_lt at given) refl e
      where
        above : (b : Bool) → nat_lt at given ≡ b → (if b then Some given else None) ≡ None → given ≤ at
        above true less e = cc
        above false less e = grind (arith, nat_tests)

-- ---- texts that are due

due-one : (moment : ℕ) (rooms : Walk Room) (step : Step Look) →
    due_in moment rooms (step ∷ []) ≡ (if is_due moment rooms step then step.number ∷ [] else [])
due-one moment rooms step = by (is_due moment rooms step) refl
  where
    by : (b : Bool) → is_due moment rooms step ≡ b →
        due_in moment rooms (step ∷ []) ≡ (if b then step.number ∷ [] else [])
    by true e = rw (e) refl
    by false e = rw (e) refl

pub due_push : (moment : ℕ) (rooms : Walk Room) (steps : List (Step Look)) (step : Step Look) (before due : List ℕ)
    (now : Bool) → before ≡ due_in moment rooms steps → now ≡ is_due moment rooms step →
    due ≡ before ++ (if now then step.number ∷ [] else []) → due ≡ due_in moment rooms (steps ++ step ∷ [])
due_push moment rooms steps step before due now kept is_now is =
    is ∙ ap (λ (all : List ℕ). all ++ (if now then step.number ∷ [] else [])) kept
    ∙ ap (λ (b : Bool). due_in moment rooms steps ++ (if b then step.number ∷ [] else [])) is_now
    ∙ ap (λ (all : List ℕ). due_in moment rooms steps ++ all) (sym (due-one moment rooms step))
    ∙ sym (ap (map (λ (one : Step Look). one.number)) (filter-append (is_due moment rooms) steps (step ∷ []))
    ∙ map-append (λ (one : Step Look). one.number) (filter (is_due moment rooms) steps)
    (filter (is_due moment rooms) (step ∷ [])))
