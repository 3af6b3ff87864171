-- Records whose moments a clock gave, one step after the other.
use Rattle.std.proofs.Common.{◌≡◌, ℕ, inl, inr, List, [], ◌∷◌, ◌++◌, map, Option, Some, None, refl, sym, ◌∙◌, ap, subst}
use Rattle.std.proofs.Common.{append-nil, append_assoc}
use Rattle.std.proofs.lemmas.List.{map-append}
use Rattle.kom_types.specs.declared.acts.Record.{Record}
use Rattle.kom_links.specs.Doors.{Gains}
use Rattle.kom_links.specs.DeskCalls.{DeskView}
use Rattle.kom_links.specs.Talk.{IsChosen, AreTimed}
use Rattle.kom_hub.specs.Passing.{IsTimed}

chosen_later : (moments more readings : List ℕ) → IsChosen moments readings → IsChosen moments (more ++ readings)
chosen_later moments [] readings chosen = chosen
chosen_later [] (one ∷ more) readings chosen = tt
chosen_later (moment ∷ moments) (one ∷ more) readings chosen =
    inr (chosen_later (moment ∷ moments) more readings chosen)

chosen_append : (moments moments' readings readings' : List ℕ) → IsChosen moments readings → IsChosen moments' readings'
    → IsChosen (moments ++ moments') (readings ++ readings')
chosen_append [] moments' readings readings' first second = chosen_later moments' readings readings' second
chosen_append (moment ∷ moments) moments' [] readings' first second = absurd first
chosen_append (moment ∷ moments) moments' (reading ∷ readings) readings' first second = elim first [
  | inl here ↦ inl (here.0, chosen_append moments moments' readings readings' here.1 second)
  | inr later ↦ inr (chosen_append (moment ∷ moments) moments' readings readings' later second)
]

pub timed_none : (before : Option (List ℕ)) → AreTimed before before []
timed_none None = tt
timed_none (Some readings) = (readings, [], refl, sym (append-nil readings), tt)

pub timed_append : (before mid after : Option (List ℕ)) (first second : List Record) → AreTimed before mid first
    → AreTimed mid after second → AreTimed before after (first ++ second)
timed_append before mid None first second one two = tt
timed_append before mid (Some after) first second one two =
    let one' : AreTimed before (Some two.0) first =
    subst (λ (told : Option (List ℕ)). AreTimed before told first) two.2 one in (
      one'.0,
      one'.1 ++ two.1,
      one'.2,
      two.3 ∙ ap (λ prefix. prefix ++ two.1) one'.3 ∙ append_assoc one'.0 one'.1 two.1,
      subst (λ (moments : List ℕ). IsChosen moments (one'.1 ++ two.1))
          (sym (map-append (λ (made : Record). made.entry.moment) first second))
          (chosen_append (map (λ (made : Record). made.entry.moment) first)
          (map (λ (made : Record). made.entry.moment) second) one'.1 two.1 one'.4 two.4),
    )

-- one reading, and a record of it
pub timed_one : (before after : Option (List ℕ)) (moment : ℕ) (made : Record) → Gains before moment after
    → made.entry.moment ≡ moment → AreTimed before after (made ∷ [])
timed_one before None moment made gains same = tt
timed_one before (Some after) moment made gains same =
    (gains.0, moment ∷ [], gains.1, gains.2, inl (same, tt))

-- one reading that no record has
pub timed_skip : (before after : Option (List ℕ)) (moment : ℕ) → Gains before moment after → AreTimed before after []
timed_skip before None moment gains = tt
timed_skip before (Some after) moment gains = (gains.0, moment ∷ [], gains.1, gains.2, tt)

-- the records of a desk from the beginning on
pub timed_on : (begun gave gave' : Option (List ℕ)) (before after : DeskView) → AreTimed begun gave before.mine
    → IsTimed before gave after gave' → AreTimed begun gave' after.mine
timed_on begun gave gave' before after first second =
    subst (λ (records : List Record). AreTimed begun gave' records) (sym second.1)
    (timed_append begun gave gave' before.mine second.0 first second.2)

pub cancel : {X : Type 0} (xs ys zs : List X) → xs ++ ys ≡ xs ++ zs → ys ≡ zs
cancel [] ys zs e = e
cancel (x ∷ xs) ys zs e = cancel xs ys zs (cc)
