-- Records whose moments a clock gave, one reading more at a time.
use Rattle.std.proofs.Common.{◌≡◌, ℕ, inl, inr, List, [], ◌∷◌, ◌++◌, map, Option, Some, None, refl, sym, ◌∙◌, ap, subst}
use Rattle.std.proofs.Common.{append-nil, append_assoc}
use Rattle.std.proofs.lemmas.List.{map_push, map-append}
use Rattle.kom_types.specs.declared.acts.Record.{Record}
use Rattle.kom_links.specs.Doors.{Gains}
use Rattle.kom_links.specs.Talk.{IsChosen, AreTimed}

chosen_push : (moments readings : List ℕ) (one : ℕ) → IsChosen moments readings
    → IsChosen (moments ++ one ∷ []) (readings ++ one ∷ [])
chosen_push [] [] one chosen = inl (refl, tt)
chosen_push [] (reading ∷ readings) one chosen = inr (chosen_push [] readings one tt)
chosen_push (moment ∷ moments) [] one chosen = absurd chosen
chosen_push (moment ∷ moments) (reading ∷ readings) one chosen = elim chosen [
  | inl here ↦ inl (here.0, chosen_push moments readings one here.1)
  | inr later ↦ inr (chosen_push (moment ∷ moments) readings one later)
]

chosen_skip : (moments readings : List ℕ) (one : ℕ) → IsChosen moments readings
    → IsChosen moments (readings ++ one ∷ [])
chosen_skip [] readings one chosen = tt
chosen_skip (moment ∷ moments) [] one chosen = absurd chosen
chosen_skip (moment ∷ moments) (reading ∷ readings) one chosen = elim chosen [
  | inl here ↦ inl (here.0, chosen_skip moments readings one here.1)
  | inr later ↦ inr (chosen_skip (moment ∷ moments) readings one later)
]

pub timed_none : (before : Option (List ℕ)) → AreTimed before before []
timed_none None = tt
timed_none (Some readings) = (readings, [], refl, sym (append-nil readings), tt)

pub timed_more : (before mid after : Option (List ℕ)) (added : List Record) (moment : ℕ)
    (made : Record) →
    AreTimed before mid added → Gains mid moment after → made.entry.moment ≡ moment
    → AreTimed before after (added ++ made ∷ [])
timed_more before mid None added moment made timed gains same = tt
timed_more before mid (Some after) added moment made timed gains same =
    let earlier : AreTimed before (Some gains.0) added =
    subst (λ told. AreTimed before told added) gains.1 timed in (
      earlier.0,
      earlier.1 ++ moment ∷ [],
      earlier.2,
      gains.2 ∙ ap (λ prefix. prefix ++ moment ∷ []) earlier.3
          ∙ append_assoc earlier.0 earlier.1 (moment ∷ []),
      subst (λ moments. IsChosen moments (earlier.1 ++ moment ∷ []))
          (sym (map_push (λ (made : Record). made.entry.moment) added made
          ∙ ap (λ last. map (λ (made : Record). made.entry.moment) added ++ last ∷ []) same))
          (chosen_push (map (λ (made : Record). made.entry.moment) added) earlier.1 moment
          earlier.4),
    )

pub timed_skip : (before mid after : Option (List ℕ)) (added : List Record) (moment : ℕ) →
    AreTimed before mid added → Gains mid moment after → AreTimed before after added
timed_skip before mid None added moment timed gains = tt
timed_skip before mid (Some after) added moment timed gains =
    let earlier : AreTimed before (Some gains.0) added =
    subst (λ told. AreTimed before told added) gains.1 timed in (
      earlier.0,
      earlier.1 ++ moment ∷ [],
      earlier.2,
      gains.2 ∙ ap (λ prefix. prefix ++ moment ∷ []) earlier.3
          ∙ append_assoc earlier.0 earlier.1 (moment ∷ []),
      chosen_skip (map (λ (made : Record). made.entry.moment) added) earlier.1 moment earlier.4,
    )

-- ---- one step after another

chosen_later : (moments earlier readings : List ℕ) → IsChosen moments readings
    → IsChosen moments (earlier ++ readings)
chosen_later moments [] readings is = is
chosen_later [] (one ∷ earlier) readings is = tt
chosen_later (moment ∷ moments) (one ∷ earlier) readings is =
    inr (chosen_later (moment ∷ moments) earlier readings is)

chosen_append : (first second earlier later : List ℕ) → IsChosen first earlier → IsChosen second later
    → IsChosen (first ++ second) (earlier ++ later)
chosen_append [] second earlier later is and = chosen_later second earlier later and
chosen_append (moment ∷ first) second [] later is and = absurd is
chosen_append (moment ∷ first) second (reading ∷ earlier) later (inl (same, is)) and =
    inl (same, chosen_append first second earlier later is and)
chosen_append (moment ∷ first) second (reading ∷ earlier) later (inr is) and =
    inr (chosen_append (moment ∷ first) second earlier later is and)

pub timed_append : (before mid after : Option (List ℕ)) (first second : List Record)
    → AreTimed before mid first → AreTimed mid after second → AreTimed before after (first ++ second)
timed_append before mid None first second one two = tt
timed_append before mid (Some after) first second one (between, later, at, all, chosen) =
    go (subst (λ (mid : Option (List ℕ)). AreTimed before mid first) at one)
  where
    go : AreTimed before (Some between) first → AreTimed before (Some after) (first ++ second)
    go (earlier, readings, was, is, early) = (
      earlier,
      readings ++ later,
      was,
      all ∙ ap (λ all. all ++ later) is ∙ append_assoc earlier readings later,
      subst (λ moments. IsChosen moments (readings ++ later))
          (sym (map-append (λ (made : Record). made.entry.moment) first second))
          (chosen_append (map (λ made. made.entry.moment) first) (map (λ made. made.entry.moment) second)
          readings later early chosen),
    )
