-- The steps of records that stand one after the other.
use Rattle.std.proofs.Common.{◌≡◌, ℕ, ◌+◌, Bool, true, false, ◌==◌, ◌⊎◌, inl, inr, List, [], ◌∷◌, ◌++◌, length, refl}
use Rattle.std.proofs.Common.{sym, ◌∙◌, ap, append-nil, arith}
use Rattle.kom_types.specs.declared.acts.Act.{Act}
use Rattle.kom_types.specs.declared.acts.Act.TheVariants as act
use Rattle.kom_types.specs.declared.acts.Record.{Record}
use Rattle.kom_types.specs.declared.items.Item.{Item}
use Rattle.kom_links.specs.Talk.{Step, Connects, Asks, Breaks, Flushes, Drains, Closes, first_given, other_given}
use Rattle.kom_links.specs.Talk.{own_step, steps_of, requests_in, drains_in, breaks_in}

-- ---- what is counted in steps

pub requests_in-append : (a b : List Step) → requests_in (a ++ b) ≡ requests_in a ++ requests_in b
requests_in-append [] b = refl
requests_in-append (Asks request ∷ a) b = ap (λ rest. request ∷ rest) (requests_in-append a b)
requests_in-append (_ ∷ a) b = requests_in-append a b

pub drains_in-append : (a b : List Step) → drains_in (a ++ b) ≡ drains_in a + drains_in b
drains_in-append [] b = omega arith
drains_in-append (Drains items ∷ a) b =
    let rest : drains_in (a ++ b) ≡ drains_in a + drains_in b = drains_in-append a b in omega arith
drains_in-append (_ ∷ a) b = drains_in-append a b

pub breaks_in-append : (a b : List Step) → breaks_in (a ++ b) ≡ breaks_in a + breaks_in b
breaks_in-append [] b = omega arith
breaks_in-append (Breaks ∷ a) b =
    let rest : breaks_in (a ++ b) ≡ breaks_in a + breaks_in b = breaks_in-append a b in omega arith
breaks_in-append (_ ∷ a) b = breaks_in-append a b

-- ---- lists that come apart

-- a list with one element at its end, read as one with an element inside
pub push_split : {X : Type 0} (xs ys zs : List X) (x y : X) → xs ++ x ∷ [] ≡ ys ++ y ∷ zs →
    ((zs ≡ []) × (x ≡ y) × (xs ≡ ys))
    ⊎ ((rest : List X) × (zs ≡ rest ++ x ∷ []) × (xs ≡ ys ++ y ∷ rest))
push_split [] [] zs x y e = inl (cc, cc, refl)
push_split (z ∷ xs) [] zs x y e = inr (xs, cc, cc)
push_split [] (w ∷ []) zs x y e = cc
push_split [] (w ∷ v ∷ ys) zs x y e = cc
push_split (z ∷ xs) (w ∷ ys) zs x y e = elim (push_split xs ys zs x y (cc)) [
  | inl at_end ↦ let rest : xs ≡ ys = at_end.2 in inl (at_end.0, at_end.1, cc)
  | inr inside ↦ let rest : xs ≡ ys ++ y ∷ inside.0 = inside.2 in inr (inside.0, inside.1, cc)
]

-- an element of two lists joined is in the one or in the other
pub append_split : {X : Type 0} (xs ys before tail : List X) (x : X)
    → xs ++ ys ≡ before ++ x ∷ tail →
    ((rest : List X) × (xs ≡ before ++ x ∷ rest) × (tail ≡ rest ++ ys))
    ⊎ ((rest : List X) × (ys ≡ rest ++ x ∷ tail) × (before ≡ xs ++ rest))
append_split [] ys before tail x e = inr (before, e, refl)
append_split (z ∷ xs) ys [] tail x e = inl (xs, cc, cc)
append_split (z ∷ xs) ys (w ∷ before) tail x e = elim (append_split xs ys before tail x (cc)) [
  | inl first ↦ let rest : xs ≡ before ++ x ∷ first.0 = first.1 in inl (first.0, cc, first.2)
  | inr second ↦ let rest : before ≡ xs ++ second.0 = second.2 in inr (second.0, second.1, cc)
]

-- ---- the steps of records

-- the steps of a record's act, before those of the records after it
abbrev step_before : Bool → Act → (List (List Item) → List Step) → List (List Item) → List Step
step_before own (act.Connect user host) rest given = own_step own (Connects user host) (rest given)
step_before own (act.Call caller reference call) rest given =
    own_step own (Asks (record { reference = reference; call = call })) (rest given)
step_before own (act.Broken caller) rest given = own_step own Breaks (rest given)
step_before true (act.Drain caller) rest given =
    Drains (first_given given) ∷ rest (other_given given)
step_before false (act.Drain caller) rest given = rest given
step_before own act.Flush rest given = Flushes ∷ rest given
step_before own (act.Close caller) rest given = own_step own Closes (rest given)

steps_of-cons : (session : ℕ) (made : Record) (records : List Record) (given : List (List Item)) →
    steps_of session (made ∷ records) given
    ≡ step_before (made.session == session) made.entry.act (steps_of session records) given
steps_of-cons session made records given =
    elim made.entry.act as
    (λ what. steps_of session
    (record {
      entry = record { pass = made.entry.pass; moment = made.entry.moment; act = what };
      session = made.session;
      short = made.short;
    } ∷ records) given
    ≡ step_before (made.session == session) what (steps_of session records) given) [
      | act.Connect user host ↦ refl
      | act.Call caller reference call ↦ refl
      | act.Broken caller ↦ refl
      | act.Drain caller ↦ drain caller (made.session == session)
      | act.Flush ↦ refl
      | act.Close caller ↦ refl
    ]
  where
    drain : (caller : ℕ) (own : Bool)
        → elim own [
          | true ↦ Drains (first_given given) ∷ steps_of session records
              (other_given given)
          | false ↦ steps_of session records given
        ]
        ≡ step_before own (act.Drain caller) (steps_of session records) given
    drain caller true = refl
    drain caller false = refl

IsJoined : (List (List Item) → List Step) → List Step → List (List Item)
    → (List (List Item) → List Step) → Type 0
IsJoined rest steps more whole =
    (given : List (List Item)) → drains_in (rest given) ≡ length given
    → whole (given ++ more) ≡ rest given ++ steps

step_before-append : (own : Bool) (what : Act) (rest : List (List Item) → List Step)
    (steps : List Step) (more : List (List Item))
    (whole : List (List Item) → List Step) → IsJoined rest steps more whole
    → IsJoined (step_before own what rest) steps more (step_before own what whole)
unfolding IsJoined
step_before-append true (act.Connect user host) rest steps more whole joined given e =
    ap (λ all. Connects user host ∷ all) (joined given e)
step_before-append false (act.Connect user host) rest steps more whole joined given e =
    joined given e
step_before-append true (act.Call caller reference call) rest steps more whole joined given e =
    ap (λ all. Asks (record { reference = reference; call = call }) ∷ all) (joined given e)
step_before-append false (act.Call caller reference call) rest steps more whole joined given e =
    joined given e
step_before-append true (act.Broken caller) rest steps more whole joined given e =
    ap (λ all. Breaks ∷ all) (joined given e)
step_before-append false (act.Broken caller) rest steps more whole joined given e = joined given e
step_before-append true (act.Drain caller) rest steps more whole joined [] e = absurd (omega arith)
step_before-append true (act.Drain caller) rest steps more whole joined (items ∷ given) e =
    ap (λ all. Drains items ∷ all) (joined given (omega arith))
step_before-append false (act.Drain caller) rest steps more whole joined given e = joined given e
step_before-append own act.Flush rest steps more whole joined given e =
    ap (λ all. Flushes ∷ all) (joined given e)
step_before-append true (act.Close caller) rest steps more whole joined given e =
    ap (λ all. Closes ∷ all) (joined given e)
step_before-append false (act.Close caller) rest steps more whole joined given e = joined given e

joined : (session : ℕ) (a b : List Record) (more : List (List Item)) →
    IsJoined (steps_of session a) (steps_of session b more) more (steps_of session (a ++ b))
unfolding IsJoined
joined session [] b more [] e = refl
joined session [] b more (items ∷ given) e = absurd (omega arith)
joined session (made ∷ a) b more given e =
    steps_of-cons session made (a ++ b) (given ++ more)
    ∙ step_before-append (made.session == session) made.entry.act (steps_of session a)
    (steps_of session b more) more (steps_of session (a ++ b))
    (joined session a b more) given (ap drains_in (sym (steps_of-cons session made a given)) ∙ e)
    ∙ ap (λ prefix. prefix ++ steps_of session b more) (sym (steps_of-cons session made a given))

-- the steps of records that stand after others whose drains have a list each
pub steps-append : (session : ℕ) (a b : List Record) (g h : List (List Item))
    → drains_in (steps_of session a g) ≡ length g →
    steps_of session (a ++ b) (g ++ h) ≡ steps_of session a g ++ steps_of session b h
unfolding IsJoined
steps-append session a b g h e = joined session a b h g e

-- the same where the others have no list
pub steps_push : (session : ℕ) (a b : List Record) (g : List (List Item))
    → drains_in (steps_of session a g) ≡ length g →
    steps_of session (a ++ b) g ≡ steps_of session a g ++ steps_of session b []
steps_push session a b g e =
    ap (λ lists. steps_of session (a ++ b) lists) (sym (append-nil g))
    ∙ steps-append session a b g [] e
