-- What was answered at a place, and by whom.
use Rattle.std.proofs.Common.{◌≡◌, ◌≢◌, ◌⊎◌, ℕ, Bool, true, false, inl, inr, List, [], ◌∷◌, ◌++◌}
use Rattle.std.proofs.Common.{Result, Ok, Err, refl, sym, ◌∙◌, ap, subst, append-nil, append_assoc}
use Rattle.std.specs.Prelude.{⊤}
use Rattle.std.specs.List.{AllByRecursion}
use Rattle.kom_types.specs.declared.answers.NotMade.{NotMade}
use Rattle.kom_types.specs.declared.answers.NotMade.TheVariants as fault
use Rattle.kom_links.specs.declared.deeds.Deed.{Deed}
use Rattle.kom_links.specs.declared.deeds.Deed.TheVariants as deed
use Rattle.kom_links.specs.Answers.{Answer, without_value}
use Rattle.kom_links.specs.DeskCalls.{DeskView}
use Rattle.kom_hub.specs.declared.place.Place.{Place}
use Rattle.kom_hub.specs.Seats.{IsAnswered, IsSeatAnswer, IsHeard, Hears}

-- an answer at a place that is spent, or not
abbrev IsSaid : Bool → DeskView → Answer → Type 0
IsSaid spent desk answer = IsAnswered desk answer
    ⊎ ((answer.1 ≡ Err fault.Memory) × (spent ≡ false → answer.0 ≡ deed.Connect))

by_each : {X : Type 0} (P Q : X → Type 0) (xs : List X) → ((x : X) → P x → Q x) → AllByRecursion P xs
    → AllByRecursion Q xs
by_each P Q [] turn all = tt
by_each P Q (x ∷ xs) turn all = (turn x all.0, by_each P Q xs turn all.1)

and_last : {X : Type 0} (P : X → Type 0) (xs : List X) (x : X) → AllByRecursion P xs → P x
    → AllByRecursion P (xs ++ x ∷ [])
and_last P [] x all last = (last, tt)
and_last P (first ∷ xs) x all last = (all.0, and_last P xs x all.1 last)

answered_on : (before after : DeskView) (more : List Answer) → after.answers ≡ before.answers ++ more
    → (answer : Answer) → IsAnswered before answer → IsAnswered after answer
answered_on before after more grown answer is = (
  is.0,
  is.1 ++ more,
  grown ∙ ap (λ answers. answers ++ more) is.2 ∙ append_assoc is.0 (answer ∷ is.1) more,
)

said_on : (spent : Bool) (before after : DeskView) (more : List Answer) → after.answers ≡ before.answers ++ more
    → (answer : Answer) → IsSaid spent before answer → IsSaid spent after answer
said_on spent before after more grown answer (inl is) = inl (answered_on before after more grown answer is)
said_on spent before after more grown answer (inr own) = inr own

-- what was heard is heard still, where the desk answered more
pub heard_on : (place : Place) (before after : DeskView) (more : List Answer)
    → after.answers ≡ before.answers ++ more → IsHeard before place → IsHeard after place
heard_on place before after more grown heard = record {
  all = by_each (IsSaid place.is_spent before) (IsSaid place.is_spent after) place.answers.items
      (said_on place.is_spent before after more grown) heard.all;
  spent = heard.spent;
}

pub seat_answers_on : (session : ℕ) (before after : DeskView) (more answers : List Answer)
    → after.answers ≡ before.answers ++ more → AllByRecursion (IsSeatAnswer session before) answers
    → AllByRecursion (IsSeatAnswer session after) answers
seat_answers_on session before after more answers grown all =
    by_each (IsSeatAnswer session before) (IsSeatAnswer session after) answers on all
  where
    on : (answer : Answer) → IsSeatAnswer session before answer → IsSeatAnswer session after answer
    on answer (inl is) = inl (answered_on before after more grown answer is)
    on answer (inr own) = inr own

-- what is heard at a place, as its session says it
pub seat_answers : (place : Place) (desk : DeskView) → IsHeard desk place
    → AllByRecursion (IsSeatAnswer place.session desk) place.answers.items
seat_answers place desk heard =
    by_each (IsSaid place.is_spent desk) (IsSeatAnswer place.session desk) place.answers.items one heard.all
  where
    fresh : (spent : Bool) → (spent ≡ true → place.session ≡ 0) → place.session ≢ 0 → spent ≡ false
    fresh false none some = refl
    fresh true none some = absurd (some (none refl))

    one : (answer : Answer) → IsSaid place.is_spent desk answer → IsSeatAnswer place.session desk answer
    one answer (inl is) = inl is
    one answer (inr own) = inr (own.0, λ some. own.1 (fresh place.is_spent heard.spent some))

-- a place at which nothing was answered
pub heard_new : (place : Place) (desk : DeskView) → place.answers.items ≡ [] → place.is_spent ≡ false
    → IsHeard desk place
heard_new place desk nothing fresh = record {
  all = subst (λ (answers : List Answer). AllByRecursion (IsSaid place.is_spent desk) answers) (sym nothing) tt;
  spent = λ spent. let t : true ≡ false = sym spent ∙ fresh in cc;
}

-- one answer more was told at a place
pub record Told (old new : Place) (answer : Answer) : Type 0 where
  pub session : new.session ≡ old.session
  pub spent : new.is_spent ≡ old.is_spent
  pub items : new.answers.items ≡ old.answers.items ++ answer ∷ []

pub told_now : (place : Place) (answer : Answer)
    → Told place (record place { answers = record place.answers { items = place.answers.items ++ answer ∷ [] } }) answer
told_now place answer = record { session = refl; spent = refl; items = refl }

-- the last answer of a desk was told
pub heard_told : (old new : Place) (desk : DeskView) (earlier : List Answer) (answer : Answer) → Told old new answer
    → desk.answers ≡ earlier ++ answer ∷ [] → IsHeard desk old → IsHeard desk new
heard_told old new desk earlier answer told last heard = record {
  all = subst (λ (answers : List Answer). AllByRecursion (IsSaid new.is_spent desk) answers) (sym told.items)
      (subst (λ (spent : Bool). AllByRecursion (IsSaid spent desk) (old.answers.items ++ answer ∷ [])) (sym told.spent)
      (and_last (IsSaid old.is_spent desk) old.answers.items answer heard.all (inl (earlier, [], last))));
  spent = λ spent. told.session ∙ heard.spent (sym told.spent ∙ spent);
}

pub hears_told : (old new : Place) (before after : DeskView) (answer : Answer) → Told old new answer
    → after.answers ≡ before.answers ++ answer ∷ [] → Hears old before new after
hears_told old new before after answer told grown = record {
  more = answer ∷ [];
  grown = grown;
  heard = λ heard. heard_told old new after before.answers answer told grown
      (heard_on old before after (answer ∷ []) grown heard);
}

-- an answer to a deed, without what it hands over
pub said_is : (answers : List Answer) (what : Deed) (answer : Result ⊤ NotMade)
    → answers ++ (what, without_value answer) ∷ [] ≡ answers ++ (what, answer) ∷ []
said_is answers what (Ok done) = refl
said_is answers what (Err reason) = refl

-- a seat refused a connect
pub hears_no_connect : (old new : Place) (desk : DeskView) → Told old new (deed.Connect, Err fault.Memory)
    → Hears old desk new desk
hears_no_connect old new desk told = record {
  more = [];
  grown = sym (append-nil desk.answers);
  heard = λ heard. record {
    all = subst (λ (answers : List Answer). AllByRecursion (IsSaid new.is_spent desk) answers) (sym told.items)
        (subst (λ (spent : Bool). AllByRecursion (IsSaid spent desk)
        (old.answers.items ++ (deed.Connect, Err fault.Memory) ∷ [])) (sym told.spent)
        (and_last (IsSaid old.is_spent desk) old.answers.items (deed.Connect, Err fault.Memory) heard.all
        (inr (refl, λ fresh. refl))));
    spent = λ spent. told.session ∙ heard.spent (sym told.spent ∙ spent);
  };
}

-- a seat of nobody refused a flush, and is spent
pub hears_no_flush : (old new : Place) (desk : DeskView) → new.session ≡ 0 → new.is_spent ≡ true
    → new.answers.items ≡ old.answers.items ++ (deed.Flush, Err fault.Memory) ∷ [] → Hears old desk new desk
hears_no_flush old new desk nobody spent items = record {
  more = [];
  grown = sym (append-nil desk.answers);
  heard = λ heard. record {
    all = subst (λ (answers : List Answer). AllByRecursion (IsSaid new.is_spent desk) answers) (sym items)
        (subst (λ (spent : Bool). AllByRecursion (IsSaid spent desk)
        (old.answers.items ++ (deed.Flush, Err fault.Memory) ∷ [])) (sym spent)
        (and_last (IsSaid true desk) old.answers.items (deed.Flush, Err fault.Memory)
        (by_each (IsSaid old.is_spent desk) (IsSaid true desk) old.answers.items loose heard.all)
        (inr (refl, λ fresh. absurd (never fresh)))));
    spent = λ spent. nobody;
  };
}
  where
    never : true ≡ false → ⊥
    never e = cc

    loose : (answer : Answer) → IsSaid old.is_spent desk answer → IsSaid true desk answer
    loose answer (inl is) = inl is
    loose answer (inr own) = inr (own.0, λ fresh. absurd (never fresh))

-- a session was connected from a place that is not spent
pub hears_connected : (old new : Place) (before after : DeskView) → old.is_spent ≡ false
    → new.is_spent ≡ old.is_spent → new.answers.items ≡ old.answers.items ++ (deed.Connect, Ok tt) ∷ []
    → after.answers ≡ before.answers ++ (deed.Connect, Ok tt) ∷ [] → Hears old before new after
hears_connected old new before after fresh same items grown = record {
  more = (deed.Connect, Ok tt) ∷ [];
  grown = grown;
  heard = λ heard. record {
    all = subst (λ (answers : List Answer). AllByRecursion (IsSaid new.is_spent after) answers) (sym items)
        (subst (λ (spent : Bool). AllByRecursion (IsSaid spent after)
        (old.answers.items ++ (deed.Connect, Ok tt) ∷ [])) (sym same)
        (and_last (IsSaid old.is_spent after) old.answers.items (deed.Connect, Ok tt)
        (heard_on old before after ((deed.Connect, Ok tt) ∷ []) grown heard).all
        (inl (before.answers, [], grown))));
    spent = λ spent. let t : true ≡ false = sym spent ∙ same ∙ fresh in cc;
  };
}
