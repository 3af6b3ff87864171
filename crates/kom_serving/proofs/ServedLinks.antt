-- The calls that serve a link and give it back, put together.
use Rattle.std.proofs.Common.{◌≡◌, ◌≢◌, ℕ, ◌+◌, ◌⊎◌, inl, inr, Bool, true, false, eqb, List, [], ◌∷◌, ◌++◌, length}
use Rattle.std.proofs.Common.{Option, Some, None, refl, sym, ap, subst, ◌∙◌}
use Rattle.std.specs.Option.{IfSome}
use Rattle.std.specs.List.{AllByRecursion}
use Rattle.std.proofs.lemmas.Bool.{ne_eqb}
use Rattle.std.proofs.lemmas.List.{append_cancel_left, length_push}
use Rattle.kom_types.specs.declared.acts.Record.{Record}
use Rattle.kom_types.specs.declared.items.Item.{Item}
use Rattle.kom_types.specs.declared.answers.NotMade.{NotMade}
use Rattle.kom_links.specs.declared.served.Served.{Served}
use Rattle.kom_links.specs.Doors.{GateView, Gains}
use Rattle.kom_links.specs.Outside.{LinkView}
use Rattle.kom_links.specs.Records.{has_connect}
use Rattle.kom_links.specs.declared.served.SessionEnd.{SessionEnd}
use Rattle.kom_links.specs.declared.served.SessionEnd.TheVariants as end
use Rattle.kom_links.specs.Answers.{Answer, first_fault_of, HasRefused}
use Rattle.kom_links.specs.Talk.{IsTalk, IsDrained, steps_of}
use Rattle.kom_session.specs.Known.{sight}
use Rattle.kom_session.specs.Left.{IfSending, IsSentAll}
use Rattle.kom_session.specs.Serving.{ServesLink}
use Rattle.kom_model.specs.State.{State}
use Rattle.kom_model.specs.Legal.{IsLegal, AreByOwners}
use Rattle.kom_model.specs.Out.{given_by_pass}
use Rattle.kom_session.specs.Ends.{HasCause, TellsFault, given_to}
use Rattle.hall_desk.specs.Passes.{PassView, of_pass}
use Rattle.hall_desk.specs.Desks.{Kept, desk_view, IsKnown, IsKnownAnswer, Stands, GoesOn}
use Rattle.hall_desk.proofs.Causes.{refused_known, sent_refused}
use Rattle.hall_desk.proofs.Starting.{IsStart, starts}
use Rattle.hall_desk.proofs.Histories.{of_pass-append}
use Rattle.kom_serving.specs.Runs.{AllGivenBack}
use Rattle.kom_serving.specs.Serving.{Serves, OneIsOut, KeepsFirst}
use Rattle.kom_serving.proofs.Links.{IsDenied, Service, serves_more}

-- what was sent of what waits, or why not
sent_all : (session : ℕ) (added : List Record) (given : List (List Item)) (answers : List Answer)
    (Denied : Type 0) → (HasRefused session answers → Denied) →
    IfSending end.Dropped (IsSentAll (steps_of session added (given_to session given)) session answers) →
    session ≢ 0 → IsDrained (steps_of session added given) ⊎ Denied
sent_all session added given answers Denied denied left some =
    let no : eqb session 0 ≡ false = ne_eqb session 0 some in
    let same : given_to session given ≡ given =
    ap (λ (none : Bool). elim none as (λ b. List (List Item)) [ true ↦ [] | false ↦ given ]) no in
    go (subst (λ (given : List (List Item)). IsSentAll (steps_of session added given) session answers) same left)
  where
    go : IsSentAll (steps_of session added given) session answers →
        IsDrained (steps_of session added given) ⊎ Denied
    go (inl drained) = inl drained.0
    go (inr refused) = inr (denied refused)

-- the causes of the last answers of a desk
later_known : (start : State) (pass : PassView) (before answers : List Answer) →
    AllByRecursion (IsKnownAnswer start pass) (before ++ answers) →
    AllByRecursion (IsKnownAnswer start pass) answers
later_known start pass [] answers known = known
later_known start pass (one ∷ before) answers known = later_known start pass before answers known.1

-- the cause of the first fault that concerns a session
first_known : (start : State) (pass : PassView) (session : ℕ) (answers : List Answer) →
    AllByRecursion (IsKnownAnswer start pass) answers →
    IsKnown start pass.seen pass.drawn session (first_fault_of session answers)
first_known start pass session answers known = go (first_fault_of session answers) refl
  where
    go : (noted : Option NotMade) → first_fault_of session answers ≡ noted →
        IsKnown start pass.seen pass.drawn session noted
    go None is = tt
    go (Some one) is = refused_known start pass session answers one known is

-- the first of two facts of what may be told
pub first_fact : {X : Type 0} (P Q : X → Type 0) (told : Option X) → IfSome told (λ x. P x × Q x) → IfSome told P
first_fact P Q None both = tt
first_fact P Q (Some x) both = both.0

-- the first reading is kept in two steps
pub first_then : (one two three : Option (List ℕ)) → KeepsFirst one two → KeepsFirst two three → KeepsFirst one three
first_then one two three early late moment first = late moment (early moment first)

pub serves_one : {L : Type 0} (view : L → LinkView) (old new : Kept) (gave gave' : Option (List ℕ))
    (before link : L) (served : Served) (returned returned' : Option (List (L × Served))) →
    (view before).faults ≡ 0 →
    ServesLink (sight (desk_view old) (view before) gave) served (sight (desk_view new) (view link) gave') →
    GoesOn old new → Stands new → Gains returned (link, served) returned' →
    Serves view old.start old.pass returned gave → Serves view new.start new.pass returned' gave'
serves_one {L} view old new gave gave' before link served returned returned' none serving on stands gains serves =
    let start : State = new.start in
    let begins : IsStart start = starts new.start stands.opening in
    let pass : ℕ = old.pass.number in
    let talk = serving.talk in
    let told = talk.4 in
    let added : List Record = talk.0 in
    let answers : List Answer = talk.1 in
    let more : List Record = on.seen.0 in
    let seen : new.pass.seen ≡ old.pass.seen ++ more = on.seen.1 in
    let mine : new.pass.mine ≡ old.pass.mine ++ added = talk.2 in
    let serves' : Serves view start old.pass returned gave =
    subst (λ (start : State). Serves view start old.pass returned gave) (sym on.start) serves in
    let added_is : added ≡ of_pass pass more =
    append_cancel_left old.pass.mine added (of_pass pass more)
    (sym mine ∙ stands.knows.mine ∙ ap (λ (n : ℕ). of_pass n new.pass.seen) on.number ∙ ap (of_pass pass) seen
    ∙ of_pass-append pass old.pass.seen more
    ∙ ap (λ (first : List Record). first ++ of_pass pass more) (sym serves'.mine)) in
    let same_added : (records : List Record) → new.pass.mine ≡ old.pass.mine ++ records → records ≡ added =
    λ records is. append_cancel_left old.pass.mine records added (sym is ∙ mine) in
    let same_answers : (other : List Answer) → new.answers ≡ old.answers ++ other → other ≡ answers =
    λ other is. append_cancel_left old.answers other answers (sym is ∙ talk.3) in
    let known : AllByRecursion (IsKnownAnswer start new.pass) answers =
    later_known start new.pass old.answers answers
    (subst (λ (answers : List Answer). AllByRecursion (IsKnownAnswer start new.pass) answers) talk.3 stands.known) in
    let noted : Option NotMade = first_fault_of served.session answers in
    let denied : HasRefused served.session answers →
    IsDenied start new.pass.number served.session new.pass.seen new.pass.drawn =
    λ refused. sent_refused start new.pass served.session answers known refused in
    let Sent : ℕ → List Record → List Record → Type 0 =
    λ number seen records.
    IsDrained (steps_of served.session records (given_by_pass start number served.session seen))
    ⊎ IsDenied start number served.session seen new.pass.drawn in
    let sent : served.session ≢ 0 → served.end ≡ end.Dropped → Sent pass (old.pass.seen ++ more) added =
    λ some ends. subst (λ (seen : List Record). Sent pass seen added) seen
    (subst (λ (number : ℕ). Sent number new.pass.seen added) on.number
    (sent_all served.session added (given_by_pass start new.pass.number served.session new.pass.seen) answers
    (IsDenied start new.pass.number served.session new.pass.seen new.pass.drawn) denied
    (subst (λ (ending : SessionEnd). IfSending ending (IsSentAll
    (steps_of served.session added
    (given_to served.session (given_by_pass start new.pass.number served.session new.pass.seen)))
    served.session answers)) ends
    (subst (λ (records : List Record). IfSending served.end (IsSentAll
    (steps_of served.session records
    (given_to served.session (given_by_pass start new.pass.number served.session new.pass.seen)))
    served.session answers)) (same_added serving.left.0 serving.left.2)
    (subst (λ (answers : List Answer). IfSending served.end (IsSentAll
    (steps_of served.session serving.left.0
    (given_to served.session (given_by_pass start new.pass.number served.session new.pass.seen)))
    served.session answers)) (same_answers serving.left.1 serving.left.3) (serving.left.4 some)))) some)) in
    let home : (view link).host ≡ (view before).host = serving.others.host in
    let service : Service start pass old.pass.seen more old.pass.mine added new.pass.drawn new.pass.waits noted
    (view link) served = record {
      legal = subst (λ (seen : List Record). IsLegal start seen) seen stands.knows.legal;
      by_owners = subst (λ (seen : List Record). AreByOwners start seen) seen stands.knows.owned;
      mine_is = serves'.mine;
      added_is = added_is;
      connected = λ some.
          subst (λ (records : List Record). has_connect served.session records ≡ true)
          (same_added serving.session.0 serving.session.2) (serving.session.4 some);
      refused = stands.knows.refused;
      input = told.2;
      output = told.3;
      tells = told.4;
      talk = subst
          (λ (seen : List Record). IsTalk (view link).host told.2 told.3 (view link).ended added served.session
          (given_to served.session (given_by_pass start pass served.session seen)) served.end new.pass.waits) seen
          (subst
          (λ (n : ℕ). IsTalk (view link).host told.2 told.3 (view link).ended added served.session
          (given_to served.session (given_by_pass start n served.session new.pass.seen)) served.end new.pass.waits)
          on.number
          (subst
          (λ (host : List ℕ). IsTalk host told.2 told.3 (view link).ended added served.session
          (given_to served.session (given_by_pass start new.pass.number served.session new.pass.seen)) served.end
          new.pass.waits) (sym home) told.6));
      tells_fault = subst (λ (n : ℕ). TellsFault n (view link).faults noted told.2 served.end) none told.5;
      cause = subst (λ (n : ℕ). HasCause n (view link).faults noted (view link).ended served.end) none
          (subst (λ (answers : List Answer). HasCause (view before).faults (view link).faults
          (first_fault_of served.session answers) (view link).ended served.end)
          (same_answers serving.cause.1 serving.cause.3) serving.cause.4);
      known = subst (λ (seen : List Record). IsKnown start seen new.pass.drawn served.session noted) seen
          (first_known start new.pass served.session answers known);
      sent = sent;
    } in
    let made : ℕ → List Record → List Record → PassView =
    λ number seen mine.
    record { number = number; seen = seen; mine = mine; drawn = new.pass.drawn; waits = new.pass.waits } in
    let grown : Serves view start (made pass (old.pass.seen ++ more) (old.pass.mine ++ added)) returned' gave' =
    serves_more view start begins old.pass more added new.pass.drawn new.pass.waits noted link served returned returned'
    gave gave' on.drawn told.1 told.0 gains service serves' in
    subst (λ (number : ℕ). Serves view start (made number new.pass.seen new.pass.mine) returned' gave') (sym on.number)
    (subst (λ (seen : List Record). Serves view start (made pass seen new.pass.mine) returned' gave') (sym seen)
    (subst (λ (mine : List Record). Serves view start (made pass (old.pass.seen ++ more) mine) returned' gave')
    (sym mine) grown))

-- the link that was out was given back
pub given_back : {L : Type 0} (old new : GateView L) (back : L × Served) → new.given ≡ old.given →
    Gains old.returned back new.returned → OneIsOut old → AllGivenBack new
given_back {L} old new back same gains out =
    subst (λ (given : Option ℕ). IfSome given (λ number. IfSome new.returned (λ links. number ≡ length links)))
    (sym same)
    (home old.given old.returned new.returned gains out)
  where
    home : (given : Option ℕ) (returned after : Option (List (L × Served))) → Gains returned back after →
        IfSome given (λ number. IfSome returned (λ links. number ≡ length links + 1)) →
        IfSome given (λ number. IfSome after (λ links. number ≡ length links))
    home None returned after gains out = tt
    home (Some number) returned None gains out = tt
    home (Some number) returned (Some after) gains out =
        let one : number ≡ length gains.0 + 1 =
        subst (λ (told : Option (List (L × Served))). IfSome told (λ links. number ≡ length links + 1)) gains.1 out in
        one ∙ sym (ap length gains.2 ∙ length_push gains.0 back)
