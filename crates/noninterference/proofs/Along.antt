-- Along two quiet histories that are alike a group is sent the same.
use Rattle.std.proofs.Common.{◌≡◌, ℕ, true, List, [], ◌∷◌, ◌++◌, refl, sym, ap, ap₂, subst}
use Rattle.kom_types.specs.declared.acts.Entry.{Entry}
use Rattle.kom_types.specs.declared.acts.Record.{Record}
use Rattle.kom_types.specs.declared.items.Item.{Item}
use Rattle.kom_model.specs.After.{after}
use Rattle.kom_model.specs.Kinds.{is_among}
use Rattle.kom_model.specs.Legal.{state_after}
use Rattle.kom_model.specs.Out.{items_of, queued_along, given_along}
use Rattle.kom_model.specs.State.{State, IsSound}
use Rattle.kom_model.proofs.Soundness.{IsSound-after}
use Rattle.kom_laws.specs.Groups.{Group}
use Rattle.noninterference.specs.steps.Same.{IsSameFor}
use Rattle.noninterference.specs.respect.Hidden.{AreAlike}
use Rattle.noninterference.specs.respect.Quiet.{AreQuietly, AreQuiet}
use Rattle.noninterference.specs.Hiding.{entries_of, StandAlike, IsSameStep, StepsHide, AllHide, AreSameTo}
use Rattle.noninterference.specs.Hiding.{AreSameAlong}
use Rattle.noninterference.proofs.Given.{waiting-same}
use Rattle.noninterference.proofs.Seats.{after-of_group}
use Rattle.noninterference.proofs.Stepping.{StepsAlike, pair-step}

-- what two histories do to a group
record GoAlike (group : Group) (one : State) (history : List Record) (other : State) (history' : List Record)
    : Type 0 where
  states : IsSameFor group (state_after one history) (state_after other history')
  queued : (session : ℕ) → is_among group.sessions session ≡ true →
      queued_along one session history ≡ queued_along other session history'
  given : (session : ℕ) → is_among group.sessions session ≡ true →
      given_along one session history ≡ given_along other session history'

module _ (group : Group) where
  step-hides : (one other : State) (made made' : Record) → IsSound one → IsSound other → IsSameFor group one other →
      StandAlike group made.entry made'.entry → AreQuietly group one other made made' →
      IsSameStep group one made other made'
  step-hides one other made made' sound sound' worlds stand quietly =
      let step : StepsAlike group one other made made' =
      pair-step group one other sound sound' worlds made made' quietly stand.0 stand.1 in
      record {
        states = record {
          of_group = after-of_group group one made quietly.first worlds.of_group;
          same = step.states;
        };
        queued = step.queued;
        given = step.given;
      }

  go-alike : (one other : State) (history history' : List Record) → IsSound one → IsSound other →
      IsSameFor group one other → AreAlike group (entries_of history) (entries_of history') →
      AreQuiet group one history other history' → GoAlike group one history other history'
  go-alike one other [] [] sound sound' worlds alike quiet = record {
    states = worlds;
    queued = λ session among. refl;
    given = λ session among. refl;
  }
  go-alike one other [] (made' ∷ others) sound sound' worlds alike quiet = absurd quiet
  go-alike one other (made ∷ ones) [] sound sound' worlds alike quiet = absurd quiet
  go-alike one other (made ∷ ones) (made' ∷ others) sound sound' worlds alike quiet =
      let step : IsSameStep group one made other made' =
      step-hides one other made made' sound sound' worlds (alike.0, alike.1) quiet.0 in
      let rest : GoAlike group (after one made) ones (after other made') others =
      go-alike (after one made) (after other made') ones others
      (IsSound-after one made quiet.0.first.follows.user sound)
      (IsSound-after other made' quiet.0.second.follows.user sound') step.states alike.2 quiet.1 in
      record {
        states = rest.states;
        queued = λ session among. ap₂ (λ (first others : List Item). first ++ others) (step.queued session among)
            (rest.queued session among);
        given = λ session among. ap₂ (λ (first others : List (List Item)). first ++ others) (step.given session among)
            (rest.given session among);
      }

  same-to : (one other : State) (history history' : List Record) → IsSound one → IsSound other →
      IsSameFor group one other → AreAlike group (entries_of history) (entries_of history') →
      AreQuiet group one history other history' → AreSameTo group one history other history'
  same-to one other history history' sound sound' worlds alike quiet =
      let along : GoAlike group one history other history' =
      go-alike one other history history' sound sound' worlds alike quiet in
      record {
        states = along.states;
        sent = λ session among. record {
          out = ap₂ (λ (waiting queued : List Item). waiting ++ queued)
              (ap items_of (waiting-same group one other worlds.same session among)) (along.queued session among);
          given = along.given session among;
        };
      }

pub steps-hide : StepsHide
steps-hide group one other made made' sound sound' worlds stand quietly =
    step-hides group one other made made' sound sound' worlds stand quietly

pub all-hide : AllHide
all-hide state history sound group other history' sound' worlds alike quiet =
    same-to group state other history history' sound sound' worlds alike quiet

-- so of lists of entries that are alike
pub alike-hide : (group : Group) (ones others : List Entry) → AreAlike group ones others →
    AreSameAlong group ones others
alike-hide group ones others alike one other history history' are are' sound sound' worlds quiet =
    same-to group one other history history' sound sound' worlds
    (subst (λ ones. AreAlike group ones (entries_of history')) (sym are)
    (subst (λ others. AreAlike group ones others) (sym are') alike)) quiet
