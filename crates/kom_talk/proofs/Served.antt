-- What is left of a conversation that was closed.
use Rattle.std.proofs.Common.{◌≡◌, ◌≢◌, ℕ, ◌==◌, ◌&&◌, ◌||◌, ◌⊎◌, ◌↔◌, Bool, true, false, inl, inr, List, [], ◌∷◌}
use Rattle.std.proofs.Common.{◌++◌, Option, None, refl, sym, ◌∙◌, ap, subst, append-nil}
use Rattle.std.specs.Prelude.{IsTrue, IfSome}
use Rattle.std.specs.List.{AllByRecursion}
use Rattle.std.proofs.lemmas.Bool.{cases_eq, eqb-true}
use Rattle.kom_types.specs.declared.acts.Act.{Act}
use Rattle.kom_types.specs.declared.acts.Act.TheVariants as act
use Rattle.kom_types.specs.declared.acts.Record.{Record}
use Rattle.kom_links.specs.declared.served.Served.{Served}
use Rattle.kom_links.specs.Answers.{Answer, first_fault_of}
use Rattle.kom_links.specs.DeskCalls.{DeskView}
use Rattle.kom_links.specs.Outside.{LinkView, IsFresh, Rose}
use Rattle.kom_links.specs.Records.{is_connect, has_connect, has_session}
use Rattle.kom_links.specs.Talk.{IsTalk, AreTimed}
use Rattle.kom_hub.specs.Passing.{IsBlank, IsSeatOf}
use Rattle.kom_hub.specs.Seats.{is_flush, is_shown}
use Rattle.kom_session.specs.Ends.{HasCause, TellsFault, IsOwn, HasCarried, given_to}
use Rattle.kom_session.specs.Kept.{IsKept, IfClosed, AddsClose}
use Rattle.kom_session.specs.Known.{Known, Seen, sight}
use Rattle.kom_session.specs.Left.{IfSending, IsSentAll}
use Rattle.kom_session.specs.Serving.{ServesLink, Adds, steps_in}
use Rattle.kom_session.specs.Waits.{NoneWaits}
use Rattle.kom_session.proofs.Passing.{nobody_mine}
use Rattle.kom_talk.specs.Conversations.{IsServedLink}

-- ---- from a blank desk and a fresh link

all_added : (start desk : DeskView) (P : List Record → List Answer → Type 0) → IsBlank start
    → Adds start desk P → P desk.mine desk.answers
all_added start desk P blank (added, answers, mine, tells, is) =
    subst (λ (answers : List Answer). P desk.mine answers)
    (sym (tells ∙ ap (λ first. first ++ answers) blank.answers))
    (subst (λ (records : List Record). P records answers)
    (sym (mine ∙ ap (λ first. first ++ added) blank.mine)) is)

pub served_link : (start : Seen) (desk : DeskView) (link : LinkView) (served : Served)
    → IsBlank start.desk → IsFresh start.link → ServesLink start served (sight desk link None)
    → IsServedLink desk link served
served_link start desk link served blank fresh s =
    let host : link.host ≡ start.link.host = s.others.host in
    let none : start.link.faults ≡ 0 = fresh.no_fault in
    let given = given_to served.session (desk.gave_to served.session) in
    let talk = all_added start.desk desk (λ added answers.
    AllByRecursion (IsOwn served.session) added
    × AreTimed start.gave None added
    × (input output : List ℕ) × HasCarried link input output
    × TellsFault start.link.faults link.faults (first_fault_of served.session answers) input served.end
    × IsTalk start.link.host input output link.ended added served.session given served.end
    desk.lock_full) blank s.talk in
    let cause = all_added start.desk desk (λ added answers. HasCause start.link.faults link.faults
    (first_fault_of served.session answers) link.ended served.end) blank s.cause in
    record {
      input = talk.2;
      output = talk.3;
      tells = talk.4;
      talk = subst (λ (host : List ℕ). IsTalk host talk.2 talk.3 link.ended desk.mine served.session given
          served.end desk.lock_full) (sym host) talk.6;
      own = talk.0;
      session = all_added start.desk desk (λ added answers.
          served.session ≢ 0 → IsTrue (has_connect served.session added)) blank s.session;
      waits = all_added start.desk desk (λ added answers.
          IfSome link.reads (NoneWaits (steps_in (sight desk link None) served.session added))) blank s.waits;
      cause = subst (λ (faults : ℕ). HasCause faults link.faults (first_fault_of served.session desk.answers)
          link.ended served.end) none cause;
      told = subst (λ (faults : ℕ). TellsFault faults link.faults (first_fault_of served.session desk.answers)
          talk.2 served.end) none talk.5;
      left = all_added start.desk desk (λ added answers. served.session ≢ 0 →
          IfSending served.end (IsSentAll (steps_in (sight desk link None) served.session added)
          served.session answers)) blank s.left;
      others = λ number other. s.others.given number other ∙ blank.given number;
    }

-- ---- whose seat it is

or_elim : (a b : Bool) → (a || b) ≡ true → (a ≡ true) ⊎ (b ≡ true)
or_elim true b e = inl refl
or_elim false b e = inr e

and_parts : (a b : Bool) → (a && b) ≡ true → (a ≡ true) × (b ≡ true)
and_parts true b e = (refl, e)
and_parts false b e = cc

no_flush : (what : Act) → is_connect what ≡ true → is_flush what ≡ true → ⊥
no_flush (act.Connect user host) is flush = cc
no_flush (act.Call session reference call) is flush = cc
no_flush (act.Broken session) is flush = cc
no_flush (act.Drain session) is flush = cc
no_flush act.Flush is flush = cc
no_flush (act.Close session) is flush = cc

-- who was connected among what a seat shows is its session
connected_is : (session other : ℕ) (records : List Record)
    → AllByRecursion (λ (made : Record). is_shown session made ≡ true) records
    → has_connect other records ≡ true → other ≡ session
connected_is session other [] own has = cc
connected_is session other (made ∷ records) own has =
    elim (or_elim (is_connect made.entry.act && made.session == other) (has_connect other records) has) [
      | inl here ↦
          let parts = and_parts (is_connect made.entry.act) (made.session == other) here in
          elim (or_elim (made.session == session) (is_flush made.entry.act) own.0) [
            | inl mine ↦
                sym (eqb-true made.session other parts.1) ∙ eqb-true made.session session mine
            | inr flush ↦ absurd (no_flush made.entry.act parts.0 flush)
          ]
      | inr later ↦ connected_is session other records own.1 later
    ]

same_session : (session number : ℕ) (records : List Record) → IsSeatOf session records
    → (number ≢ 0 → has_connect number records ≡ true) → (number ≡ 0 → records ≡ []) → number ≡ session
same_session session number records seat connected none = elim (cases_eq number 0) [
  | inr some ↦ connected_is session number records seat.own (connected some)
  | inl zero ↦ elim (cases_eq session 0) [
    | inl zero' ↦ zero ∙ sym zero'
    | inr some ↦
        let has : has_session session records ≡ true = seat.has some in
        let nothing : has_session session records ≡ false = ap (has_session session) (none zero) in cc
  ]
]

-- ---- a conversation that was closed

pub closed_talk : (machine : Known) (start : Seen) (old new : DeskView) (link : LinkView)
    (gave gave' : Option (List ℕ)) (risen : Bool) (served : Served) → IsBlank start.desk → IsFresh start.link
    → IsKept start machine (sight old link None) → (IsTrue risen ↔ Rose 0 link.faults)
    → IfClosed risen machine old None served new None → AddsClose machine.session old gave new gave'
    → served.session ≡ machine.session → (session : ℕ) → IsSeatOf session new.mine
    → IsServedLink new link (record { session = session; end = served.end })
closed_talk machine start old new link gave gave' risen served blank fresh kept rises closed adds number session seat =
    let serves : ServesLink start served (sight new link None) =
    closed start link
    (subst (λ (faults : ℕ). IsTrue risen ↔ Rose faults link.faults) (sym fresh.no_fault) rises)
    (kept.served.added, kept.served.mine, tt) kept in
    let is : IsServedLink new link served = served_link start new link served blank fresh serves in
    let same : served.session ≡ session =
    same_session session served.session new.mine seat is.session (λ zero.
    adds.mine ∙ ap (λ more. old.mine ++ more) (adds.none (sym number ∙ zero)) ∙ append-nil old.mine
    ∙ nobody_mine start machine (sight old link None) (sym number ∙ zero) kept ∙ blank.mine) in
    subst (λ (number : ℕ). IsServedLink new link (record { session = number; end = served.end })) same is
