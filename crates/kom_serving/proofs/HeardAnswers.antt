-- What is known of the answers of a seat, which are its desk's.
use Rattle.std.proofs.Common.{◌≡◌, ◌≢◌, inl, inr, ℕ, true, List, [], ◌∷◌, ◌++◌, Some, Ok, Err, refl, sym, ap}
use Rattle.std.proofs.Common.{subst, ◌∙◌}
use Rattle.std.specs.List.{AllByRecursion}
use Rattle.std.proofs.lemmas.Bool.{cases_Bool}
use Rattle.kom_types.specs.declared.answers.Why.TheVariants as why
use Rattle.kom_links.specs.declared.deeds.Deed.{Deed}
use Rattle.kom_links.specs.declared.deeds.Deed.TheVariants as deed
use Rattle.kom_types.specs.declared.answers.NotMade.{NotMade}
use Rattle.kom_types.specs.declared.answers.NotMade.TheVariants as fault
use Rattle.kom_links.specs.Answers.{Answer, concerns, first_fault_of, sends, HasRefused}
use Rattle.hall_desk.specs.Desks.{Kept, desk_view, IsKnown, IsKnownAnswer, WasRefusedTo, WasStopped}
use Rattle.hall_desk.proofs.Causes.{refused_known, sent_refused}
use Rattle.kom_hub.specs.Hub.{SaidStopped}
use Rattle.kom_hub.specs.Seats.{IsAnswered, IsSeatAnswer}

module _ (kept : Kept) (known : AllByRecursion (IsKnownAnswer kept.start kept.pass) kept.answers) where
  -- what the desk answered has its cause
  pub answered_known : (one : Answer) → IsAnswered (desk_view kept) one → IsKnownAnswer kept.start kept.pass one
  answered_known one (before, rest, is) =
      within before rest (subst (AllByRecursion (IsKnownAnswer kept.start kept.pass)) is known)
    where
      within : (before rest : List Answer) →
          AllByRecursion (IsKnownAnswer kept.start kept.pass) (before ++ one ∷ rest) →
          IsKnownAnswer kept.start kept.pass one
      within [] rest all = all.0
      within (first ∷ before) rest all = within before rest all.1

  -- a desk that answered that it is stopped is so
  pub stopped_known : SaidStopped (desk_view kept) → WasStopped kept.start kept.pass.seen
  stopped_known said = answered_known (deed.Ask, Err (fault.Gone why.Stopped)) said

  module _ (session : ℕ) where
    here_known : (what : Deed) (one : NotMade) → IsSeatAnswer session (desk_view kept) (what, Err one) →
        concerns session what ≡ true → IsKnown kept.start kept.pass.seen kept.pass.drawn session (Some one)
    here_known what one (inl answered) here =
        refused_known kept.start kept.pass session ((what, Err one) ∷ []) one
        (answered_known (what, Err one) answered, tt) (rw here refl)
    here_known what one (inr memory) here =
        let gone = memory.0 in
        let same : one ≡ fault.Memory = cc in
        subst (λ (one : NotMade). IsKnown kept.start kept.pass.seen kept.pass.drawn session (Some one)) (sym same) tt

    -- the first fault that concerns the session of a seat has its cause
    pub seat_known : (answers : List Answer) → AllByRecursion (IsSeatAnswer session (desk_view kept)) answers →
        IsKnown kept.start kept.pass.seen kept.pass.drawn session (first_fault_of session answers)
    seat_known [] heard = tt
    seat_known ((what, Ok done) ∷ answers) heard = elim (cases_Bool (concerns session what)) [
      | inl here ↦ rw here (seat_known answers heard.1)
      | inr there ↦ rw there (seat_known answers heard.1)
    ]
    seat_known ((what, Err one) ∷ answers) heard = elim (cases_Bool (concerns session what)) [
      | inl here ↦ rw here (here_known what one heard.0 here)
      | inr there ↦ rw there (seat_known answers heard.1)
    ]

    not_connect : (what : Deed) → sends session what ≡ true → what ≡ deed.Connect → ⊥
    not_connect what is connect =
        let wrong : sends session deed.Connect ≡ true = ap (sends session) (sym connect) ∙ is in cc

    -- and so has a flush or a drain of it that was refused
    pub seat_refused : session ≢ 0 → (answers : List Answer) →
        AllByRecursion (IsSeatAnswer session (desk_view kept)) answers → HasRefused session answers →
        WasRefusedTo kept.start kept.pass session
    seat_refused some answers heard (before, rest, what, one, is, sent) =
        go (within before rest (subst (AllByRecursion (IsSeatAnswer session (desk_view kept))) is heard))
      where
        within : (before rest : List Answer) →
            AllByRecursion (IsSeatAnswer session (desk_view kept)) (before ++ (what, Err one) ∷ rest) →
            IsSeatAnswer session (desk_view kept) (what, Err one)
        within [] rest all = all.0
        within (first ∷ before) rest all = within before rest all.1

        go : IsSeatAnswer session (desk_view kept) (what, Err one) → WasRefusedTo kept.start kept.pass session
        go (inl answered) =
            sent_refused kept.start kept.pass session ((what, Err one) ∷ [])
            (answered_known (what, Err one) answered, tt) ([], [], what, one, refl, sent)
        go (inr memory) = absurd (not_connect what sent (memory.1 some))
