-- What an act of a core does to a group, beside an act of a core whose state is the same for the group.
use Rattle.std.proofs.Common.{◌≡◌, ℕ, ◌+◌, Bool, true, [], Option, Some, None, refl, sym, ap, ◌∙◌, subst}
use Rattle.std.specs.Prelude.{Result, Ok, Err, IfOk}
use Rattle.kom_types.specs.declared.acts.Act.{Act}
use Rattle.kom_types.specs.declared.acts.Act.TheVariants as act
use Rattle.kom_types.specs.declared.acts.Entry.{Entry}
use Rattle.kom_types.specs.declared.acts.Record.{Record}
use Rattle.kom_types.specs.declared.answers.NotMade.{NotMade}
use Rattle.kom_types.specs.declared.answers.NotMade.TheVariants.{Gone, Full, Memory}
use Rattle.kom_model.specs.After.{after, session_in}
use Rattle.kom_model.specs.Making.{IsNotMade}
use Rattle.kom_model.specs.Out.{taken_by}
use Rattle.kom_model.specs.Refusal.{refusal_of}
use Rattle.kom_model.specs.State.{State, IsSound}
use Rattle.kom_laws.specs.Groups.{Group}
use Rattle.noninterference.specs.Hiding.{StandAlike, IsSameStep}
use Rattle.noninterference.specs.respect.Quiet.{IsQuiet}
use Rattle.noninterference.specs.steps.Acts.{is_by}
use Rattle.noninterference.specs.steps.Same.{IsSameFor}
use Rattle.noninterference.proofs.Along.{steps-hide}
use Rattle.noninterference.proofs.Own.{own-steps-hide}
use Rattle.noninterference.proofs.steps.Acts.{acts-erased}
use Rattle.kom_core.specs.Acts.{CoreComes}
use Rattle.kom_core.specs.Worlds.{IsAmple, DoSame, IsConsistent, RespectsGroups}

-- ---- two acts that were made, or refused
both-made : (group : Group) (old new other new' : State) (made made' : Record) → new ≡ after old made →
    new' ≡ after other made' → IsSameStep group old made other made' →
    DoSame group old new (Ok made) other new' (Ok made')
both-made group old new other new' made made' is is' step = record {
  states = subst (λ (state : State). IsSameFor group state new') (sym is)
      (subst (λ (state : State). IsSameFor group (after old made) state) (sym is') step.states);
  queued = step.queued;
}

both-refused : (group : Group) (old new other new' : State) (why why' : NotMade) → new ≡ old → new' ≡ other →
    IsSameFor group old other → DoSame group old new (Err why) other new' (Err why')
both-refused group old new other new' why why' is is' worlds = record {
  states = subst (λ (state : State). IsSameFor group state new') (sym is)
      (subst (λ (state : State). IsSameFor group old state) (sym is') worlds);
  queued = λ session among. refl;
}

-- ---- acts of the group come to the same
module _ (group : Group) (one other : State) (worlds : IsSameFor group one other) where
  session-same : (what : Act) → session_in one what ≡ session_in other what
  session-same (act.Connect user host) = ap (λ (state : State). state.connects + 1) worlds.same
  session-same (act.Call session reference call) = refl
  session-same (act.Broken session) = refl
  session-same (act.Drain session) = refl
  session-same act.Flush = refl
  session-same (act.Close session) = refl

  refused-same : (what : Act) → is_by group what ≡ true → refusal_of one what ≡ refusal_of other what
  refused-same what own = acts-erased.refused group one other what worlds.same own

  taken-same : (what : Act) → is_by group what ≡ true → taken_by one what ≡ taken_by other what
  taken-same (act.Connect user host) own = refl
  taken-same (act.Call session reference call) own = refl
  taken-same (act.Broken session) own = refl
  taken-same (act.Drain session) own =
      let refused = refused-same (act.Drain session) own in
      let given = acts-erased.given group one other session worlds.same own in
      λ i. elim (refused i) [ None ↦ given i | Some refusal ↦ [] ]
  taken-same act.Flush own = refl
  taken-same (act.Close session) own = refl

-- why an act was not made, if memory did not run out
refused-for : (state : State) (what : Act) (why : NotMade) → IsAmple (Err why) → IsNotMade state what why →
    refusal_of state what ≡ Some why
refused-for state what (Gone why) ample is = is
refused-for state what (Full number) ample is = is
refused-for state what Memory ample is = absurd ample

none-some : {X : Type 0} (found : Option X) (one : X) → found ≡ None → found ≡ Some one → ⊥
none-some found one none some = let wrong : None ≡ Some one = sym none ∙ some in cc

same-made : (made made' : Record) → made.entry ≡ made'.entry → made.session ≡ made'.session →
    made.short ≡ made'.short → made ≡ made'
same-made made made' entries sessions shorts =
    ap (λ (one : Entry). record { entry = one; session = made.session; short = made.short }) entries
    ∙ ap (λ (one : ℕ). record { entry = made'.entry; session = one; short = made.short }) sessions
    ∙ ap (λ (one : Bool). record { entry = made'.entry; session = made'.session; short = one }) shorts

-- ---- the clauses
pub consistent : (old new : State) (entry : Entry) (came : Result Record NotMade) → IsSound old →
    CoreComes old entry new came → IsConsistent old entry new came
consistent old new entry came sound comes group other new' came' sound' worlds own quiet ample comes' ample' =
    by came came' comes comes' quiet ample ample'
  where
    refusals : refusal_of old entry.act ≡ refusal_of other entry.act
    refusals = refused-same group old other worlds entry.act own

    taken : taken_by old entry.act ≡ taken_by other entry.act
    taken = taken-same group old other worlds entry.act own

    by : (came came' : Result Record NotMade) → CoreComes old entry new came → CoreComes other entry new' came' →
        IfOk came (IsQuiet group old) → IsAmple came → IsAmple came' →
        (came ≡ came') × (taken_by old entry.act ≡ taken_by other entry.act)
        × DoSame group old new came other new' came'
    by (Ok made) (Ok made') comes comes' quiet ample ample' =
        let is = comes.0 in
        let is' = comes'.0 in
        let entries : made.entry ≡ made'.entry = is.entry_made ∙ sym is'.entry_made in
        let sessions : made.session ≡ made'.session =
        is.follows.session ∙ session-same group old other worlds made.entry.act
        ∙ ap (λ (one : Entry). session_in other one.act) entries ∙ sym is'.follows.session in
        let step = own-steps-hide group old other made made' sound sound' worlds
        (subst (λ (entry : Entry). is_by group entry.act ≡ true) (sym is.entry_made) own) entries quiet is'.follows
        ample' in (
          ap (λ (one : Record). Ok one) (same-made made made' entries sessions (ample ∙ sym ample')),
          taken,
          both-made group old new other new' made made' is.state is'.state step.0,
        )
    by (Ok made) (Err why) comes comes' quiet ample ample' =
        let possible : refusal_of old entry.act ≡ None =
        subst (λ (one : Entry). refusal_of old one.act ≡ None) comes.0.entry_made comes.0.follows.possible in
        absurd (none-some (refusal_of other entry.act) why (sym refusals ∙ possible)
        (refused-for other entry.act why ample' comes'.0))
    by (Err why) (Ok made) comes comes' quiet ample ample' =
        let possible : refusal_of other entry.act ≡ None =
        subst (λ (one : Entry). refusal_of other one.act ≡ None) comes'.0.entry_made comes'.0.follows.possible in
        absurd (none-some (refusal_of old entry.act) why (refusals ∙ possible)
        (refused-for old entry.act why ample comes.0))
    by (Err why) (Err why') comes comes' quiet ample ample' =
        let one : Some why ≡ Some why' = sym (refused-for old entry.act why ample comes.0) ∙ refusals
        ∙ refused-for other entry.act why' ample' comes'.0 in
        let same : why ≡ why' = cc in (
          ap (λ (one : NotMade). Err one) same,
          taken,
          both-refused group old new other new' why why' comes.1 comes'.1 worlds,
        )

pub respects : (old new : State) (entry : Entry) (came : Result Record NotMade) → IsSound old →
    CoreComes old entry new came → RespectsGroups old entry new came
respects old new entry came sound comes group other entry' new' came' sound' worlds stand comes' quiet =
    let made : Record = quiet.0 in
    let made' : Record = quiet.1 in
    let is = (subst (λ (came : Result Record NotMade). CoreComes old entry new came) quiet.2 comes).0 in
    let is' = (subst (λ (came : Result Record NotMade). CoreComes other entry' new' came) quiet.3 comes').0 in
    subst (λ (came : Result Record NotMade). DoSame group old new came other new' came') (sym quiet.2)
    (subst (λ (came : Result Record NotMade). DoSame group old new (Ok made) other new' came) (sym quiet.3)
    (both-made group old new other new' made made' is.state is'.state
    (steps-hide group old other made made' sound sound' worlds
    (subst (λ (entry : Entry). StandAlike group entry made'.entry) (sym is.entry_made)
    (subst (λ (entry' : Entry). StandAlike group entry entry') (sym is'.entry_made) stand)) quiet.4)))
