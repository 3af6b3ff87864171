-- Records whose moments a clock gave.
use Rattle.std.proofs.Common.{◌≡◌, ℕ, inl, inr, List, [], ◌∷◌, ◌++◌, map, Option, Some, None, refl, sym, ◌∙◌, ap, subst}
use Rattle.std.proofs.Common.{append-nil, append_assoc}
use Rattle.std.proofs.lemmas.List.{map-append}
use Rattle.kom_types.specs.declared.acts.Record.{Record}
use Rattle.kom_links.specs.Doors.{Gains}
use Rattle.kom_links.specs.Talk.{IsChosen, AreTimed}

-- a reading that no record has
pub timed_none : (before after : Option (List ℕ)) (moment : ℕ) → Gains before moment after → AreTimed before after []
timed_none before None moment gains = tt
timed_none before (Some after) moment (earlier, was, is) = (earlier, moment ∷ [], was, is, tt)

-- one that a record has
pub timed_one : (before after : Option (List ℕ)) (moment : ℕ) (made : Record) → Gains before moment after →
    made.entry.moment ≡ moment → AreTimed before after (made ∷ [])
timed_one before None moment made gains is = tt
timed_one before (Some after) moment made (earlier, was, all) is = (earlier, moment ∷ [], was, all, inl (is, tt))

-- no reading
pub timed_same : (gave : Option (List ℕ)) → AreTimed gave gave []
timed_same None = tt
timed_same (Some readings) = (readings, [], refl, sym (append-nil readings), tt)

chosen_later : (moments earlier readings : List ℕ) → IsChosen moments readings → IsChosen moments (earlier ++ readings)
chosen_later moments [] readings is = is
chosen_later [] (one ∷ earlier) readings is = tt
chosen_later (moment ∷ moments) (one ∷ earlier) readings is = inr (chosen_later (moment ∷ moments) earlier readings is)

chosen_on : (first second earlier later : List ℕ) → IsChosen first earlier → IsChosen second later →
    IsChosen (first ++ second) (earlier ++ later)
chosen_on [] second earlier later is and = chosen_later second earlier later and
chosen_on (moment ∷ first) second [] later is and = absurd is
chosen_on (moment ∷ first) second (reading ∷ earlier) later (inl (same, is)) and =
    inl (same, chosen_on first second earlier later is and)
chosen_on (moment ∷ first) second (reading ∷ earlier) later (inr is) and =
    inr (chosen_on (moment ∷ first) second earlier later is and)

pub timed_on : (before mid after : Option (List ℕ)) (first second : List Record) → AreTimed before mid first →
    AreTimed mid after second → AreTimed before after (first ++ second)
timed_on before mid None first second one two = tt
timed_on before mid (Some after) first second one (between, later, at, all, chosen) =
    go (subst (λ (mid : Option (List ℕ)). AreTimed before mid first) at one)
  where
    go : AreTimed before (Some between) first → AreTimed before (Some after) (first ++ second)
    go (earlier, readings, was, is, early) = (
      earlier,
      readings ++ later,
      was,
      all ∙ ap (λ (all : List ℕ). all ++ later) is ∙ append_assoc earlier readings later,
      subst (λ (moments : List ℕ). IsChosen moments (readings ++ later))
          (sym (map-append (λ (made : Record). made.entry.moment) first second))
          (chosen_on (map (λ made. made.entry.moment) first) (map (λ made. made.entry.moment) second)
          readings later early chosen),
    )
