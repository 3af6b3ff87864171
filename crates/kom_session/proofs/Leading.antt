-- What leads to a state of a machine from something else than that it was kept.
use Rattle.std.proofs.Common.{◌≡◌, ◌≢◌, ℕ, List, [], ◌∷◌, ◌++◌, Option, Result, refl, sym, ◌∙◌, append-nil, subst}
use Rattle.std.specs.Prelude.{⊤}
use Rattle.kom_types.specs.declared.acts.Record.{Record}
use Rattle.kom_links.specs.declared.deeds.Deed.{Deed}
use Rattle.kom_types.specs.declared.answers.NotMade.{NotMade}
use Rattle.kom_links.specs.DeskCalls.{DeskView}
use Rattle.kom_links.specs.Doors.{Gains}
use Rattle.kom_session.specs.Kept.{IsKept, Goes, Leads}
use Rattle.kom_session.specs.Known.{Known, Seen, State, state, sight}
use Rattle.kom_session.proofs.Times.{timed_none, timed_more, timed_skip}

-- nothing was done outside
pub leads_same : {Held : Seen → Type 0} {known known' : Known} {now : Seen}
    → (known.session ≢ 0 → known'.session ≡ known.session)
    → ((start : Seen) → Held start → IsKept start known' now)
    → Leads Held (state known now) (state known' now)
leads_same {Held} {known} {known'} {now} same kept = record {
  kept = kept;
  added = [];
  answers = [];
  mine = sym (append-nil now.desk.mine);
  timed = timed_none now.gave;
  tells = sym (append-nil now.desk.answers);
  session = same;
}

-- the desk answered one deed more, with no record, as the clock was read
pub leads_refused : {Held : Seen → Type 0} {known known' : Known} {now : Seen} {desk : DeskView}
    {gave : Option (List ℕ)} (deed : Deed) (answer : Result ⊤ NotMade) (moment : ℕ)
    → Gains now.gave moment gave → (known.session ≢ 0 → known'.session ≡ known.session) →
    desk.mine ≡ now.desk.mine → desk.answers ≡ now.desk.answers ++ (deed, answer) ∷ [] →
    ((start : Seen) → Held start → IsKept start known' (sight desk now.link gave))
    → Leads Held (state known now) (state known' (sight desk now.link gave))
leads_refused {Held} {known} {known'} {now} {desk} {gave} deed answer moment gains same mine tells kept =
    record {
      kept = kept;
      added = [];
      answers = (deed, answer) ∷ [];
      mine = mine ∙ sym (append-nil now.desk.mine);
      timed = timed_skip now.gave now.gave gave [] moment (timed_none now.gave) gains;
      tells = tells;
      session = same;
    }

-- the same with one record more, at that reading
pub leads_record : {Held : Seen → Type 0} {known known' : Known} {now : Seen} {desk : DeskView}
    {gave : Option (List ℕ)} (deed : Deed) (answer : Result ⊤ NotMade) (made : Record)
    → Gains now.gave made.entry.moment gave
    → (known.session ≢ 0 → known'.session ≡ known.session) →
    desk.mine ≡ now.desk.mine ++ made ∷ []
    → desk.answers ≡ now.desk.answers ++ (deed, answer) ∷ [] →
    ((start : Seen) → Held start → IsKept start known' (sight desk now.link gave))
    → Leads Held (state known now) (state known' (sight desk now.link gave))
leads_record {Held} {known} {known'} {now} {desk} {gave} deed answer made gains same mine tells kept =
    record {
      kept = kept;
      added = made ∷ [];
      answers = (deed, answer) ∷ [];
      mine = mine;
      timed = timed_more now.gave now.gave gave [] made.entry.moment made (timed_none now.gave)
          gains refl;
      tells = tells;
      session = same;
    }

-- where this holds of a start, the other did
pub leads_from : {Held Held' : Seen → Type 0} {a b : State} → ((start : Seen) → Held' start → Held start)
    → Leads Held a b → Leads Held' a b
leads_from holds p = record {
  kept = λ start held. p.kept start (holds start held);
  added = p.added;
  answers = p.answers;
  mine = p.mine;
  timed = p.timed;
  tells = p.tells;
  session = p.session;
}

-- what is known after is the same
pub leads_known : {Held : Seen → Type 0} {a : State} {known known' : Known} {now : Seen}
    → known ≡ known' → Leads Held a (state known' now) → Leads Held a (state known now)
leads_known {Held} {a} {known} {known'} {now} e p =
    subst (λ (known : Known). Leads Held a (state known now)) (sym e) p

-- what is known before is otherwise, but for the session
pub goes_from : {Held : Seen → Type 0} (known : Known) {known' : Known} {now : Seen} {c : State}
    → known'.session ≡ known.session
    → ((start : Seen) → IsKept start known now → Held start)
    → Leads Held (record { known = known'; seen = now }) c
    → Goes (record { known = known; seen = now }) c
goes_from known same holds p = record {
  kept = λ start kept. p.kept start (holds start kept);
  added = p.added;
  answers = p.answers;
  mine = p.mine;
  timed = p.timed;
  tells = p.tells;
  session = λ some. p.session (λ none. some (sym same ∙ none)) ∙ same;
}
