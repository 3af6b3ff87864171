-- From one state of a machine to the next.
use Rattle.std.proofs.Common.{◌≡◌, ◌≢◌, ℕ, List, [], ◌∷◌, ◌++◌, Option, Result, refl, sym, ◌∙◌, ap}
use Rattle.std.proofs.Common.{subst, append-nil, append_assoc}
use Rattle.std.specs.Prelude.{⊤}
use Rattle.kom_types.specs.declared.acts.Record.{Record}
use Rattle.kom_links.specs.declared.deeds.Deed.{Deed}
use Rattle.kom_types.specs.declared.answers.NotMade.{NotMade}
use Rattle.kom_links.specs.declared.link.Took.{Took}
use Rattle.kom_links.specs.DeskCalls.{DeskView}
use Rattle.kom_links.specs.Doors.{Gains}
use Rattle.kom_links.specs.Outside.{LinkView}
use Rattle.kom_session.specs.Known.{Known, Seen, State, state, sight}
use Rattle.kom_session.specs.Kept.{IsKept, Goes, IfStill, IfWritten, IfFlushed}
use Rattle.kom_session.proofs.Times.{timed_none, timed_more, timed_skip, timed_append}

pub goes_same : (one : State) → Goes one one
goes_same one = record {
  kept = λ start kept. kept;
  added = [];
  answers = [];
  mine = sym (append-nil one.seen.desk.mine);
  timed = timed_none one.seen.gave;
  tells = sym (append-nil one.seen.desk.answers);
  session = λ some. refl;
}

pub goes_trans : {old mid new : State} → Goes old mid → Goes mid new → Goes old new
goes_trans {old} {mid} {new} p q = record {
  kept = λ start kept. q.kept start (p.kept start kept);
  added = p.added ++ q.added;
  answers = p.answers ++ q.answers;
  mine =
      q.mine ∙ ap (λ first. first ++ q.added) p.mine
      ∙ append_assoc old.seen.desk.mine p.added q.added;
  timed = timed_append old.seen.gave mid.seen.gave new.seen.gave p.added q.added p.timed q.timed;
  tells =
      q.tells ∙ ap (λ first. first ++ q.answers) p.tells
      ∙ append_assoc old.seen.desk.answers p.answers q.answers;
  session = λ some. q.session (λ none. some (sym (p.session some) ∙ none)) ∙ p.session some;
}

pub written_then : {old mid new : Known} {from : List ℕ} {answer : Took}
    → IfWritten old from answer mid → IfStill mid new → IfWritten old from answer new
written_then p q = λ now link writes. goes_trans (p now link writes) (q (record now { link = link }))

pub flushed_then : {old mid new : Known} {answer : Result ⊤ NotMade}
    → IfFlushed old answer mid → IfStill mid new → IfFlushed old answer new
flushed_then p q = λ now moment desk gave flushes gains.
    goes_trans (p now moment desk gave flushes gains) (q (sight desk now.link gave))

-- only the link changed
pub goes_link : {known known' : Known} {now : Seen} {link : LinkView}
    → (known.session ≢ 0 → known'.session ≡ known.session) →
    ((start : Seen) → IsKept start known now → IsKept start known' (record now { link = link }))
    → Goes (state known now) (state known' (record now { link = link }))
goes_link {known} {known'} {now} {link} same kept = record {
  kept = kept;
  added = [];
  answers = [];
  mine = sym (append-nil now.desk.mine);
  timed = timed_none now.gave;
  tells = sym (append-nil now.desk.answers);
  session = same;
}

-- the desk answered one deed more, with no record, or with one at a reading of the clock
pub goes_answer : {known known' : Known} {now : Seen} {desk : DeskView}
    (deed : Deed) (answer : Result ⊤ NotMade)
    → (known.session ≢ 0 → known'.session ≡ known.session) →
    desk.mine ≡ now.desk.mine → desk.answers ≡ now.desk.answers ++ (deed, answer) ∷ [] →
    ((start : Seen) → IsKept start known now → IsKept start known' (sight desk now.link now.gave))
    → Goes (state known now) (state known' (sight desk now.link now.gave))
goes_answer {known} {known'} {now} {desk} deed answer same mine tells kept = record {
  kept = kept;
  added = [];
  answers = (deed, answer) ∷ [];
  mine = mine ∙ sym (append-nil now.desk.mine);
  timed = timed_none now.gave;
  tells = tells;
  session = same;
}

-- the same where the clock was read
pub goes_refused : {known known' : Known} {now : Seen} {desk : DeskView} {gave : Option (List ℕ)}
    (deed : Deed) (answer : Result ⊤ NotMade) (moment : ℕ) → Gains now.gave moment gave
    → (known.session ≢ 0 → known'.session ≡ known.session) →
    desk.mine ≡ now.desk.mine → desk.answers ≡ now.desk.answers ++ (deed, answer) ∷ [] →
    ((start : Seen) → IsKept start known now → IsKept start known' (sight desk now.link gave))
    → Goes (state known now) (state known' (sight desk now.link gave))
goes_refused {known} {known'} {now} {desk} {gave} deed answer moment gains same mine tells kept =
    record {
      kept = kept;
      added = [];
      answers = (deed, answer) ∷ [];
      mine = mine ∙ sym (append-nil now.desk.mine);
      timed = timed_skip now.gave now.gave gave [] moment (timed_none now.gave) gains;
      tells = tells;
      session = same;
    }

-- one record more, at that reading
pub goes_record : {known known' : Known} {now : Seen} {desk : DeskView} {gave : Option (List ℕ)}
    (deed : Deed) (answer : Result ⊤ NotMade) (made : Record)
    → Gains now.gave made.entry.moment gave
    → (known.session ≢ 0 → known'.session ≡ known.session) →
    desk.mine ≡ now.desk.mine ++ made ∷ []
    → desk.answers ≡ now.desk.answers ++ (deed, answer) ∷ [] →
    ((start : Seen) → IsKept start known now → IsKept start known' (sight desk now.link gave))
    → Goes (state known now) (state known' (sight desk now.link gave))
goes_record {known} {known'} {now} {desk} {gave} deed answer made gains same mine tells kept =
    record {
      kept = kept;
      added = made ∷ [];
      answers = (deed, answer) ∷ [];
      mine = mine;
      timed = timed_more now.gave now.gave gave [] made.entry.moment made (timed_none now.gave)
          gains refl;
      tells = tells;
      session = same;
    }

-- what is known after is the same
pub goes_known : {a : State} {known known' : Known} {now : Seen} → known ≡ known'
    → Goes a (state known' now) → Goes a (state known now)
goes_known {a} {known} {known'} {now} e p = subst (λ (known : Known). Goes a (state known now)) (sym e) p
