-- Where others act, a conversation stays kept up, and a link stays served.
use Rattle.std.proofs.Common.{◌≡◌, ℕ, ◌==◌, ◌&&◌, ◌||◌, true, inl, inr, List, [], ◌∷◌, ◌++◌}
use Rattle.std.proofs.Common.{Option, Some, None, sym, ◌∙◌, ap, ap₂, subst, append-nil}
use Rattle.std.proofs.Common.{append_assoc}
use Rattle.std.specs.Prelude.{IfSome, IsTrue}
use Rattle.std.specs.List.{AllByRecursion}
use Rattle.std.proofs.lemmas.Bool.{cases_eq}
use Rattle.std.proofs.lemmas.List.Folds.{list_any-append}
use Rattle.kom_types.specs.declared.acts.Record.{Record}
use Rattle.kom_types.specs.declared.items.Item.{Item}
use Rattle.kom_links.specs.declared.served.Served.{Served}
use Rattle.kom_links.specs.declared.served.SessionEnd.{SessionEnd}
use Rattle.kom_links.specs.declared.served.SessionEnd.TheVariants as end
use Rattle.kom_links.specs.Answers.{Answer, first_fault_of}
use Rattle.kom_links.specs.DeskCalls.{DeskView}
use Rattle.kom_links.specs.Outside.{LinkView, Look}
use Rattle.kom_links.specs.Records.{is_connect, has_connect}
use Rattle.kom_links.specs.Talk.{Step, steps_of, IsTalk, IsDrained}
use Rattle.kom_hub.specs.Going.{all_append}
use Rattle.kom_hub.specs.Passing.{Passes}
use Rattle.kom_hub.specs.Seats.{IsFlush}
use Rattle.kom_hub.proofs.Within.{flush_is}
use Rattle.kom_hub.proofs.Passed.{steps_pass, drained_pass, talk_passes}
use Rattle.kom_session.specs.Ends.{HasCause, TellsFault, IsOwn, given_to}
use Rattle.kom_session.specs.Kept.{PassesBy}
use Rattle.kom_session.specs.Kept.{IsFlush as IsFlushOf}
use Rattle.kom_session.specs.Known.{known_by, sight}
use Rattle.kom_session.specs.Left.{IfSending, IsSentAll}
use Rattle.kom_session.specs.Waits.{NoneWaits}
use Rattle.kom_session.proofs.Passing.{kept_passes, kept_alike, nobody_mine}
use Rattle.kom_talk.specs.declared.conversation.Conversation.{Conversation}
use Rattle.kom_talk.specs.Conversations.{IsKeptUp, IsServedLink, steps_at}

-- ---- a conversation

are_flushes : (flushes : List Record) → AllByRecursion IsFlush flushes
    → AllByRecursion IsFlushOf flushes
are_flushes [] all = tt
are_flushes (made ∷ flushes) all =
    ((flush_is made.entry.act all.0.0, all.0.1), are_flushes flushes all.1)

passes_by : (old new : DeskView) → Passes old new → PassesBy old new
passes_by old new passes = record {
  flushes = passes.flushes;
  mine = passes.mine;
  all = are_flushes passes.flushes passes.all;
  given = passes.given;
  answers = passes.answers;
  pass = passes.pass;
}

-- where there is no session nothing is shown, and so nothing more
shows_same : (talk : Conversation) (old new : DeskView) (link : LinkView) → Passes old new
    → (kept : IsKeptUp talk old link) → (known_by talk.machine).session ≡ 0 → new.mine ≡ old.mine
shows_same talk old new link passes kept none =
    let nothing : old.mine ≡ [] =
    nobody_mine kept.start (known_by talk.machine) (sight old link None) none kept.kept
    ∙ kept.blank.mine in
    passes.mine ∙ ap (λ more. old.mine ++ more) (passes.begun nothing) ∙ append-nil old.mine

pub kept_on : (talk : Conversation) (old new : DeskView) (link : LinkView) → Passes old new
    → IsKeptUp talk old link → IsKeptUp talk new link
kept_on talk old new link passes kept = record {
  start = kept.start;
  blank = kept.blank;
  fresh = kept.fresh;
  kept = elim (cases_eq (known_by talk.machine).session 0) [
    | inl none ↦
        kept_alike kept.start (known_by talk.machine) (sight old link None) new None
        (shows_same talk old new link passes kept none) passes.given passes.answers passes.pass
        kept.kept
    | inr some ↦
        kept_passes kept.start (known_by talk.machine) (sight old link None) new None some
        (passes_by old new passes) kept.kept
  ];
}

-- ---- a link that was served

if_some : {X : Type 0} (P Q : X → Type 0) (told : Option X) → ((x : X) → P x → Q x)
    → IfSome told P → IfSome told Q
if_some P Q None turn is = tt
if_some P Q (Some x) turn is = turn x is

if_sending : (P Q : Type 0) (ending : SessionEnd) → (P → Q) → IfSending ending P
    → IfSending ending Q
if_sending P Q end.End turn is = tt
if_sending P Q (end.Broken place) turn is = tt
if_sending P Q end.Overrun turn is = tt
if_sending P Q end.Dropped turn is = turn is
if_sending P Q end.Stopped turn is = turn is
if_sending P Q end.LinkFault turn is = tt
if_sending P Q (end.Full number) turn is = tt
if_sending P Q end.Memory turn is = tt

none_waits : (steps more : List Step) (looks : List Look) → NoneWaits steps looks
    → NoneWaits (steps ++ more) looks
none_waits steps more looks waits = (
  waits.0,
  waits.1,
  waits.2 ++ more,
  waits.3,
  ap (λ first. first ++ more) waits.4 ∙ append_assoc waits.1 waits.2 more,
)

sent_all : (steps steps' : List Step) (session : ℕ) (answers : List Answer)
    → (IsDrained steps → IsDrained steps') → IsSentAll steps session answers
    → IsSentAll steps' session answers
sent_all steps steps' session answers turn (inl sent) = inl (turn sent.0, sent.1)
sent_all steps steps' session answers turn (inr refused) = inr refused

own_flushes : (session : ℕ) (flushes : List Record) → AllByRecursion IsFlush flushes
    → AllByRecursion (IsOwn session) flushes
own_flushes session [] all = tt
own_flushes session (made ∷ flushes) all =
    (inr (flush_is made.entry.act all.0.0), own_flushes session flushes all.1)

still_connected : (session : ℕ) (records more : List Record)
    → has_connect session records ≡ true → has_connect session (records ++ more) ≡ true
still_connected session records more has =
    list_any-append (λ made. is_connect made.entry.act && made.session == session) records more
    ∙ ap (λ b. b || has_connect session more) has

module _ (old new : DeskView) (link : LinkView) (served : Served) (passes : Passes old new)
    (is : IsServedLink old link served) where
  lists_same : given_to served.session (new.gave_to served.session)
      ≡ given_to served.session (old.gave_to served.session)
  lists_same = ap (given_to served.session) (passes.given served.session)

  steps_more : steps_at served.session new
      ≡ steps_at served.session old ++ steps_of served.session passes.flushes []
  steps_more =
      ap₂ (steps_of served.session) passes.mine lists_same
      ∙ steps_pass served.session old.mine passes.flushes
      (given_to served.session (old.gave_to served.session)) is.talk.drains

  still_drained : IsDrained (steps_at served.session old)
      → IsDrained (steps_at served.session new)
  still_drained drained =
      subst (λ (steps : List Step). IsDrained steps) (sym steps_more)
      (drained_pass served.session passes.flushes (steps_at served.session old) passes.all drained)

  still_in_talk : IsTalk link.host is.input is.output link.ended new.mine served.session
      (given_to served.session (new.gave_to served.session)) served.end new.lock_full
  still_in_talk =
      subst (λ (records : List Record). IsTalk link.host is.input is.output link.ended records
      served.session (given_to served.session (new.gave_to served.session)) served.end
      new.lock_full) (sym passes.mine)
      (subst (λ (lists : List (List Item)). IsTalk link.host is.input is.output link.ended
      (old.mine ++ passes.flushes) served.session lists served.end new.lock_full) (sym lists_same)
      (talk_passes link.host is.input is.output link.ended old.mine passes.flushes served.session
      (given_to served.session (old.gave_to served.session)) served.end old.lock_full new.lock_full
      passes.all passes.lock is.talk))

  pub served_on : IsServedLink new link served
  served_on = record {
    input = is.input;
    output = is.output;
    tells = is.tells;
    talk = still_in_talk;
    own = subst (λ (records : List Record). AllByRecursion (IsOwn served.session) records)
        (sym passes.mine)
        (all_append (IsOwn served.session) old.mine passes.flushes is.own
        (own_flushes served.session passes.flushes passes.all));
    session = λ some.
        subst (λ (records : List Record). IsTrue (has_connect served.session records))
        (sym passes.mine)
        (still_connected served.session old.mine passes.flushes (is.session some));
    waits = if_some (NoneWaits (steps_at served.session old))
        (NoneWaits (steps_at served.session new)) link.reads
        (λ looks waits. subst (λ (steps : List Step). NoneWaits steps looks) (sym steps_more)
        (none_waits (steps_at served.session old)
        (steps_of served.session passes.flushes []) looks waits)) is.waits;
    cause = subst (λ (answers : List Answer). HasCause 0 link.faults
        (first_fault_of served.session answers) link.ended served.end)
        (sym passes.answers) is.cause;
    told = subst (λ (answers : List Answer). TellsFault 0 link.faults
        (first_fault_of served.session answers) is.input served.end) (sym passes.answers) is.told;
    left = λ some. subst (λ (answers : List Answer). IfSending served.end
        (IsSentAll (steps_at served.session new) served.session answers)) (sym passes.answers)
        (if_sending (IsSentAll (steps_at served.session old) served.session old.answers)
        (IsSentAll (steps_at served.session new) served.session old.answers) served.end
        (sent_all (steps_at served.session old) (steps_at served.session new) served.session
        old.answers still_drained) (is.left some));
    others = λ number other. passes.given number ∙ is.others number other;
  }

pub talks_on : (old new : DeskView) (link : LinkView) (served : Served) → Passes old new
    → IsServedLink old link served → IsServedLink new link served
talks_on old new link served passes is = served_on old new link served passes is
