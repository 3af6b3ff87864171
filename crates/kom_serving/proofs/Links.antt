-- What the service of a link leaves of those that a pass served.
use Rattle.std.proofs.Common.{◌≡◌, ◌≢◌, ℕ, ◌^◌, ◌<◌, ◌≤◌, ◌⊎◌, inl, inr, nat_eq, Bool, true, false, not, ◌==◌, eqb}
use Rattle.std.proofs.Common.{List, [], ◌∷◌, ◌++◌, map, Option, Some, None, refl, sym, ap, subst, ◌∙◌, arith}
use Rattle.std.proofs.Common.{append-nil}
use Rattle.std.specs.Option.{IfSome}
use Rattle.std.specs.Bool.{IsTrue}
use Rattle.std.specs.List.{find, filter, list_any, AllByRecursion, IsDistinct}
use Rattle.std.proofs.lemmas.Bool.{cases_Bool, cases_eq, eq-eqb, ne_eqb, ltb-true, lt-ltb}
use Rattle.std.proofs.lemmas.List.{map-append}
use Rattle.std.proofs.lemmas.List.Elements.{filter-append}
use Rattle.std.proofs.lemmas.List.Folds.{list_any-append}
use Rattle.kom_types.specs.declared.acts.Act.TheVariants as act
use Rattle.kom_types.specs.declared.acts.Record.{Record}
use Rattle.kom_types.specs.declared.answers.NotMade.TheVariants.{Gone}
use Rattle.kom_types.specs.declared.answers.Why.TheVariants as why
use Rattle.kom_types.specs.declared.items.Item.{Item}
use Rattle.kom_types.specs.Sessions.{Session, is_session}
use Rattle.kom_types.specs.declared.answers.NotMade.{NotMade}
use Rattle.kom_types.specs.declared.answers.NotMade.TheVariants as fault
use Rattle.kom_links.specs.declared.served.Served.{Served}
use Rattle.kom_links.specs.declared.served.SessionEnd.{SessionEnd}
use Rattle.kom_links.specs.declared.served.SessionEnd.TheVariants as end
use Rattle.kom_links.specs.Doors.{Gains}
use Rattle.kom_links.specs.Outside.{LinkView, Rose}
use Rattle.kom_links.specs.Records.{has_session, has_connect, has_close, is_open, IsOpen}
use Rattle.kom_links.specs.Talk.{IsTalk, IsChosen, AreTimed, IsDrained, steps_of}
use Rattle.kom_model.specs.State.{State, session_of}
use Rattle.kom_model.specs.Refusal.{refusal_of}
use Rattle.kom_model.specs.Legal.{IsLegal, AreByOwners, state_after}
use Rattle.kom_model.proofs.Closing.{IsOver, IsOver-state_after}
use Rattle.kom_model.specs.Out.{given_along, given_by_pass}
use Rattle.kom_session.specs.Ends.{IsEndOf, HasCause, TellsFault, IsOwn, HasCarried, given_to}
use Rattle.hall_desk.specs.Passes.{PassView, of_pass}
use Rattle.hall_desk.specs.Desks.{WasOverrun, WasDropped, WasStopped, WasFull, IsKnown, IsUndrained}
use Rattle.hall_desk.proofs.Starting.{IsStart}
use Rattle.hall_desk.proofs.Histories.{or_second, of_pass-append, absent_of}
use Rattle.hall_desk.proofs.Causes.{was_more, stopped_more, full_more}
use Rattle.kom_serving.specs.Runs.{given_of, GaveAll, IsCause, TellsOf, Talks, is_lock_full, sessions_of, IsOfOne}
use Rattle.kom_serving.specs.Runs.{IsFirstReading}
use Rattle.kom_serving.specs.Serving.{Serves, KeepsFirst}
use Rattle.kom_serving.proofs.Histories.{or_first, not_both, session_of-connect, connect_more, connect_rear, connect_of}
use Rattle.kom_serving.proofs.Histories.{fresh_before, all_of, IsPlain, plain}
use Rattle.kom_serving.proofs.Within.{IsApart, talk_within}
use Rattle.kom_serving.proofs.Owning.{given_own, given_on}
use Rattle.kom_serving.proofs.Given.{gave_dropped, gave_drained, gave_on}
use Rattle.kom_serving.proofs.Opened.{own_connects, plain_connects, closed_still, closed_now, ends_closed}

pub all_append : {X : Type 0} (P : X → Type 0) (xs ys : List X) → AllByRecursion P xs → AllByRecursion P ys →
    AllByRecursion P (xs ++ ys)
all_append P [] ys first last = last
all_append P (x ∷ xs) ys first last = (first.0, all_append P xs ys first.1 last)

all_rear : {X : Type 0} (P : X → Type 0) (xs ys : List X) → AllByRecursion P (xs ++ ys) → AllByRecursion P ys
all_rear P [] ys all = all
all_rear P (x ∷ xs) ys all = all_rear P xs ys all.1

all_prefix : {X : Type 0} (P : X → Type 0) (xs ys : List X) → AllByRecursion P (xs ++ ys) → AllByRecursion P xs
all_prefix P [] ys all = tt
all_prefix P (x ∷ xs) ys all = (all.0, all_prefix P xs ys all.1)

pub all_map : {X : Type 0} (P Q : X → Type 0) (xs : List X) → ((x : X) → P x → Q x) → AllByRecursion P xs →
    AllByRecursion Q xs
all_map P Q [] turn all = tt
all_map P Q (x ∷ xs) turn all = (turn x all.0, all_map P Q xs turn all.1)

all_both : {X : Type 0} (P Q R : X → Type 0) (xs : List X) → ((x : X) → P x → Q x → R x) → AllByRecursion P xs →
    AllByRecursion Q xs → AllByRecursion R xs
all_both P Q R [] turn all all' = tt
all_both P Q R (x ∷ xs) turn all all' = (turn x all.0 all'.0, all_both P Q R xs turn all.1 all'.1)

-- ---- records of other sessions

apart_zero : (made : Record) → IsPlain made → IsApart 0 made
apart_zero made (inl flush) = inr (refl, flush.0)
apart_zero made (inr other) = inl (ne_eqb made.session 0 other.0)

apart_absent : (session : ℕ) (history : List Record) → has_session session history ≡ false →
    AllByRecursion (IsApart session) history
apart_absent session [] absent = tt
apart_absent session (made ∷ history) absent =
    elim (cases_Bool (eqb made.session session)) [
      | inl here ↦ absurd (not_both _ (or_first _ _ here) absent)
      | inr there ↦ (inl there, apart_absent session history (rw there at absent))
    ]

apart_before : (session : ℕ) (history : List Record) → AllByRecursion IsPlain history →
    (session ≢ 0 → has_session session history ≡ false) → AllByRecursion (IsApart session) history
apart_before session history plain absent =
    elim (cases_eq session 0) [
      | inl zero ↦
          subst (λ (n : ℕ).
          AllByRecursion (IsApart n) history) (sym zero) (all_map IsPlain (IsApart 0) history apart_zero plain)
      | inr some ↦ apart_absent session history (absent some)
    ]

apart_other : (session other : ℕ) (made : Record) → (session ≡ 0 → ⊥) → (session ≡ other → ⊥) → IsPlain made →
    IsOwn other made → IsApart session made
apart_other session other made some differs plain (inl own) =
    inl (ne_eqb made.session session (λ e. differs (sym e ∙ own)))
apart_other session other made some differs (inl zero) (inr flush) =
    inl (ne_eqb made.session session (λ e. some (sym e ∙ zero.1)))
apart_other session other made some differs (inr act) (inr flush) = absurd (act.1 flush)

-- the records of a new session are apart from those of each session before it
apart_tail : (session other : ℕ) (history added : List Record) → AllByRecursion IsPlain added →
    AllByRecursion (IsOwn other) added →
    (session ≢ 0 → has_connect session history ≡ true) → (other ≢ 0 → has_session other history ≡ false) →
    AllByRecursion (IsApart session) added
apart_tail session other history added plain own connected fresh =
    elim (cases_eq session 0) [
      | inl zero ↦
          subst (λ (n : ℕ).
          AllByRecursion (IsApart n) added) (sym zero) (all_map IsPlain (IsApart 0) added apart_zero plain)
      | inr some ↦
          let there : has_session session history ≡ true = session_of-connect session history (connected some) in
          let differs : session ≡ other → ⊥ = λ e.
          not_both _ there (ap (λ (n : ℕ). has_session n history) e ∙ fresh (λ zero. some (e ∙ zero))) in
          all_both IsPlain (IsOwn other) (IsApart session) added
          (λ made plain own. apart_other session other made some differs plain own) plain own
    ]

-- ---- what drains gave

alike : (none : Bool) (xs ys : List (List Item)) → (none ≡ false → xs ≡ ys) →
    ◌≡◌ {A = List (List Item)} (elim none [ true ↦ [] | false ↦ xs ]) (elim none [ true ↦ [] | false ↦ ys ])
alike true xs ys same = refl
alike false xs ys same = same refl

pub not_zero : (n : ℕ) → (n == 0) ≡ false → n ≡ 0 → ⊥
not_zero n some zero = not_both _ (eq-eqb n 0 zero) some

given_of-on : (start : State) → IsStart start → (n pass : ℕ) (history more : List Record) →
    IsLegal start (history ++ more) → AreByOwners start (history ++ more) →
    (n ≢ 0 → has_connect n (of_pass pass history) ≡ true) → AllByRecursion (IsApart n) (of_pass pass more) →
    given_of start n (history ++ more) ≡ given_of start n history
given_of-on start begins n pass history more legal owned connected apart =
    alike (n == 0) (given_along start n (history ++ more)) (given_along start n history) (λ some.
    given_on start begins.drawn n pass history more legal owned (not_zero n some) (connected (not_zero n some)) apart)

-- what the pass gave its own session is what it was given
given_to-own : (start : State) → IsStart start → (n pass : ℕ) (history : List Record) → IsLegal start history →
    AreByOwners start history → (n ≢ 0 → has_connect n (of_pass pass history) ≡ true) →
    given_to n (given_by_pass start pass n history) ≡ given_of start n history
given_to-own start begins n pass history legal owned connected =
    alike (n == 0) (given_by_pass start pass n history) (given_along start n history)
    (λ some. sym (given_own n pass start history begins.drawn legal owned (connected (not_zero n some))))

-- ---- causes

-- of no session a call made an end
dropped_some : (start : State) → IsStart start → (session : ℕ) (history : List Record) →
    WasDropped start session history → session ≡ 0 → ⊥
dropped_some start begins session history (before, rest, row, is, found, ended) zero =
    let over : IsOver 0 (state_after start before) = IsOver-state_after 0 start before
    (record {
      drawn = omega arith;
      absent = ap (λ (rows : List Session). find (is_session 0) rows) begins.sessions;
    }) in
    let none : session_of session (state_after start before) ≡ None =
    ap (λ (n : ℕ). session_of n (state_after start before)) zero ∙ over.absent in
    let wrong : None ≡ Some row = sym none ∙ found in
    cc

-- the ways in which a session that was dropped may have been left
abbrev Left : State → ℕ → List Record → ℕ → Type 0
Left start session history drawn =
    GaveAll start session history ⊎ (WasStopped start history
    ⊎ (WasOverrun start session history ⊎ IsTrue (is_lock_full drawn)))

lock_after : (drawn drawn' : ℕ) → drawn ≤ drawn' → is_lock_full drawn ≡ true → is_lock_full drawn' ≡ true
lock_after drawn drawn' grown full =
    let above : 2 ^ 62 < drawn = ltb-true (2 ^ 62) drawn full in lt-ltb (2 ^ 62) drawn' (omega arith)

left_on : (start : State) (history more : List Record) (drawn drawn' session : ℕ) → drawn ≤ drawn' →
    (GaveAll start session history → GaveAll start session (history ++ more)) → Left start session history drawn →
    Left start session (history ++ more) drawn'
left_on start history more drawn drawn' session grown on (inl gave) = inl (on gave)
left_on start history more drawn drawn' session grown on (inr (inl stopped)) =
    inr (inl (stopped_more start history more stopped))
left_on start history more drawn drawn' session grown on (inr (inr (inl over))) =
    inr (inr (inl (was_more start (λ row. row.overrun) session history more over)))
left_on start history more drawn drawn' session grown on (inr (inr (inr full))) =
    inr (inr (inr (lock_after drawn drawn' grown full)))

cause_on : (start : State) → IsStart start → (link : LinkView) (history more : List Record) (drawn drawn' : ℕ)
    (session : ℕ) (ending : SessionEnd) → IsLegal start (history ++ more) → drawn ≤ drawn' →
    (session ≢ 0 → GaveAll start session history → GaveAll start session (history ++ more)) →
    IsCause start link history drawn session ending → IsCause start link (history ++ more) drawn' session ending
cause_on start begins link history more drawn drawn' session end.End legal grown on cause = cause
cause_on start begins link history more drawn drawn' session (end.Broken place) legal grown on cause = cause
cause_on start begins link history more drawn drawn' session end.Overrun legal grown on cause =
    (cause.0, was_more start (λ row. row.overrun) session history more cause.1)
cause_on start begins link history more drawn drawn' session end.Dropped legal grown on cause = (
  cause.0,
  was_more start (λ row. row.seat.ended) session history more cause.1,
  left_on start history more drawn drawn' session grown
      (on (λ zero. dropped_some start begins session history cause.1 zero)) cause.2,
)
cause_on start begins link history more drawn drawn' session end.Stopped legal grown on cause =
    (cause.0, stopped_more start history more cause.1)
cause_on start begins link history more drawn drawn' session end.LinkFault legal grown on cause = cause
cause_on start begins link history more drawn drawn' session (end.Full number) legal grown on cause =
    (cause.0, full_more start begins number drawn drawn' history more legal grown cause.1)
cause_on start begins link history more drawn drawn' session end.Memory legal grown on cause = cause

pub none_rose : (faults : ℕ) → faults ≡ 0 → Rose 0 faults → ⊥
none_rose faults zero (inl more) = omega arith
none_rose faults zero (inr last) = omega arith

some_rose : (faults : ℕ) → (faults ≡ 0 → ⊥) → Rose 0 faults
some_rose faults some = inl (omega arith)

rose_some : (faults : ℕ) → Rose 0 faults → faults ≡ 0 → ⊥
rose_some faults rose zero = none_rose faults zero rose

-- no fault of the link at another end
no_fault : (faults : ℕ) (fault : Option NotMade) (ended : Bool) (ending : SessionEnd) →
    HasCause 0 faults fault ended ending → (ending ≡ end.LinkFault → ⊥) → faults ≡ 0
no_fault faults fault ended ending cause other =
    elim (cases_eq faults 0) [ inl zero ↦ zero | inr some ↦ absurd (other (cause.rose (some_rose faults some))) ]

desk_end : (faults : ℕ) (fault : Option NotMade) (ended : Bool) (ending : SessionEnd) →
    HasCause 0 faults fault ended ending → (ending ≡ end.LinkFault → ⊥) → IsEndOf fault ending
desk_end faults fault ended ending cause other =
    cause.desk (none_rose faults (no_fault faults fault ended ending cause other))

-- what a fault of the desk at the end of a session tells of the history and of the tickets
abbrev pub Known_end : State → List Record → ℕ → ℕ → SessionEnd → Type 0
Known_end start history drawn session end.End = Unit {0}
Known_end start history drawn session (end.Broken place) = Unit {0}
Known_end start history drawn session end.Overrun = WasOverrun start session history
Known_end start history drawn session end.Dropped = WasDropped start session history
Known_end start history drawn session end.Stopped = WasStopped start history
Known_end start history drawn session end.LinkFault = Unit {0}
Known_end start history drawn session (end.Full number) = WasFull number drawn history
Known_end start history drawn session end.Memory = Unit {0}

is_end : (start : State) (history : List Record) (drawn session : ℕ) (one other : SessionEnd) → one ≡ other →
    Known_end start history drawn session other → Known_end start history drawn session one
is_end start history drawn session one other same known =
    subst (Known_end start history drawn session) (sym same) known

end_known : (start : State) (noted : Option NotMade) (history : List Record) (drawn session : ℕ)
    (ending : SessionEnd) → IsKnown start history drawn session noted → IsEndOf noted ending →
    Known_end start history drawn session ending
end_known start None history drawn session end.End known is = tt
end_known start None history drawn session (end.Broken place) known is = tt
end_known start None history drawn session end.Overrun known is = absurd is
end_known start None history drawn session end.Dropped known is = absurd is
end_known start None history drawn session end.Stopped known is = absurd is
end_known start None history drawn session end.LinkFault known is = absurd is
end_known start None history drawn session (end.Full number) known is = absurd is
end_known start None history drawn session end.Memory known is = tt
end_known start (Some fault.Memory) history drawn session ending known is =
    is_end start history drawn session ending end.Memory is tt
end_known start (Some (fault.Gone why.Absent)) history drawn session ending known is = absurd known
end_known start (Some (fault.Gone why.Dropped)) history drawn session ending known (inl is) =
    is_end start history drawn session ending end.Dropped is known
end_known start (Some (fault.Gone why.Dropped)) history drawn session ending known (inr is) =
    is_end start history drawn session ending end.Memory is tt
end_known start (Some (fault.Gone why.Overrun)) history drawn session ending known (inl is) =
    is_end start history drawn session ending end.Overrun is known
end_known start (Some (fault.Gone why.Overrun)) history drawn session ending known (inr is) =
    is_end start history drawn session ending end.Memory is tt
end_known start (Some (fault.Gone why.Stopped)) history drawn session ending known (inl is) =
    is_end start history drawn session ending end.Stopped is known
end_known start (Some (fault.Gone why.Stopped)) history drawn session ending known (inr is) =
    is_end start history drawn session ending end.Memory is tt
end_known start (Some (fault.Full number)) history drawn session ending known (inl is) =
    is_end start history drawn session ending (end.Full number) is known
end_known start (Some (fault.Full number)) history drawn session ending known (inr is) =
    is_end start history drawn session ending end.Memory is tt

cause_new : (start : State) (link : LinkView) (noted : Option NotMade) (history : List Record) (drawn session : ℕ)
    (ending : SessionEnd) →
    HasCause 0 link.faults noted link.ended ending → IsKnown start history drawn session noted →
    (ending ≡ end.Dropped → WasDropped start session history → Left start session history drawn) →
    IsCause start link history drawn session ending
cause_new start link noted history drawn session end.End cause known left =
    (no_fault link.faults noted link.ended end.End cause (λ e. cc), cause.has_ended refl)
cause_new start link noted history drawn session (end.Broken place) cause known left =
    no_fault link.faults noted link.ended (end.Broken place) cause (λ e. cc)
cause_new start link noted history drawn session end.Overrun cause known left = (
  no_fault link.faults noted link.ended end.Overrun cause (λ e. cc),
  end_known start noted history drawn session end.Overrun known
      (desk_end link.faults noted link.ended end.Overrun cause (λ e. cc)),
)
cause_new start link noted history drawn session end.Dropped cause known left =
    let dropped : WasDropped start session history =
    end_known start noted history drawn session end.Dropped known
    (desk_end link.faults noted link.ended end.Dropped cause (λ e. cc)) in
    (no_fault link.faults noted link.ended end.Dropped cause (λ e. cc), dropped, left refl dropped)
cause_new start link noted history drawn session end.Stopped cause known left = (
  no_fault link.faults noted link.ended end.Stopped cause (λ e. cc),
  end_known start noted history drawn session end.Stopped known
      (desk_end link.faults noted link.ended end.Stopped cause (λ e. cc)),
)
cause_new start link noted history drawn session end.LinkFault cause known left =
    rose_some link.faults (cause.link_fault refl)
cause_new start link noted history drawn session (end.Full number) cause known left = (
  no_fault link.faults noted link.ended (end.Full number) cause (λ e. cc),
  end_known start noted history drawn session (end.Full number) known
      (desk_end link.faults noted link.ended (end.Full number) cause (λ e. cc)),
)
cause_new start link noted history drawn session end.Memory cause known left =
    no_fault link.faults noted link.ended end.Memory cause (λ e. cc)

is_told : (place : ℕ) (one other : SessionEnd) → one ≡ other → TellsOf place other → TellsOf place one
is_told place one other same told = subst (TellsOf place) (sym same) told

told_by : (place : ℕ) (noted : Option NotMade) (ending : SessionEnd) → IsEndOf noted ending →
    (noted ≡ None → (ending ≡ end.Broken place) ⊎ (ending ≡ end.Memory)) → TellsOf place ending
told_by place None ending is tells = elim (tells refl) [
  | inl broken ↦ is_told place ending (end.Broken place) broken refl
  | inr memory ↦ is_told place ending end.Memory memory tt
]
told_by place (Some fault.Memory) ending is tells = is_told place ending end.Memory is tt
told_by place (Some (fault.Gone why.Absent)) ending is tells = is_told place ending end.Memory is tt
told_by place (Some (fault.Gone why.Dropped)) ending (inl is) tells = is_told place ending end.Dropped is tt
told_by place (Some (fault.Gone why.Dropped)) ending (inr is) tells = is_told place ending end.Memory is tt
told_by place (Some (fault.Gone why.Overrun)) ending (inl is) tells = is_told place ending end.Overrun is tt
told_by place (Some (fault.Gone why.Overrun)) ending (inr is) tells = is_told place ending end.Memory is tt
told_by place (Some (fault.Gone why.Stopped)) ending (inl is) tells = is_told place ending end.Stopped is tt
told_by place (Some (fault.Gone why.Stopped)) ending (inr is) tells = is_told place ending end.Memory is tt
told_by place (Some (fault.Full number)) ending (inl is) tells = is_told place ending (end.Full number) is tt
told_by place (Some (fault.Full number)) ending (inr is) tells = is_told place ending end.Memory is tt

-- ---- tickets

-- where no ticket without a turn is known at last, none was before
pub lock_before : (drawn drawn' : ℕ) → drawn ≤ drawn' → is_lock_full drawn' ≡ false → is_lock_full drawn ≡ false
lock_before drawn drawn' grown none =
    elim (cases_Bool (is_lock_full drawn)) [
      | inl full ↦
          let above : 2 ^ 62 < drawn = ltb-true (2 ^ 62) drawn full in
          absurd (not_both _ (lt-ltb (2 ^ 62) drawn' (omega arith)) none)
      | inr free ↦ free
    ]

-- a talk says of a session's close no more than this
talk_fuller : (host input output : List ℕ) (ended : Bool) (mine : List Record) (session : ℕ)
    (given : List (List Item)) (ending : SessionEnd) (full full' : Bool) → (full' ≡ false → full ≡ false) →
    IsTalk host input output ended mine session given ending full →
    IsTalk host input output ended mine session given ending full'
talk_fuller host input output ended mine session given ending full full' less talk = record {
  begins = talk.begins;
  silent = talk.silent;
  drains = talk.drains;
  calls = talk.calls;
  breaks = talk.breaks;
  written = talk.written;
  at_end = talk.at_end;
  closed = λ none. talk.closed (less none);
  spaced = talk.spaced;
}

-- ---- talks

-- A talk stays one where the history goes on by records of others, and by the pass's own of other sessions.
pub talks_on : (start : State) → IsStart start → (pass : ℕ) (history more mine added : List Record)
    (drawn drawn' : ℕ) (link : LinkView) (served : Served) → IsLegal start (history ++ more) →
    AreByOwners start (history ++ more) → mine ≡ of_pass pass history → added ≡ of_pass pass more → drawn ≤ drawn' →
    AllByRecursion (IsApart served.session) added → Talks start history mine drawn link served →
    Talks start (history ++ more) (mine ++ added) drawn' link served
talks_on start begins pass history more mine added drawn drawn' link served legal owned mine_is added_is grown apart
    talks =
    let connected : served.session ≢ 0 → has_connect served.session (of_pass pass history) ≡ true = λ some.
    subst (λ (records : List Record). has_connect served.session records ≡ true) mine_is (talks.connected some) in
    record {
      input = talks.input;
      output = talks.output;
      tells = talks.tells;
      talk = subst
          (λ (given : List (List Item)). IsTalk link.host talks.input talks.output link.ended (mine
          ++ added) served.session given served.end (is_lock_full drawn'))
          (sym (given_of-on start begins served.session pass history more legal owned connected
          (subst (AllByRecursion (IsApart served.session)) added_is apart)))
          (talk_fuller link.host talks.input talks.output link.ended (mine ++ added) served.session
          (given_of start served.session history) served.end (is_lock_full drawn) (is_lock_full drawn')
          (lock_before drawn drawn' grown)
          (talk_within link.host talks.input talks.output link.ended [] mine added served.session
          (given_of start served.session history) served.end (is_lock_full drawn) tt apart talks.talk));
      connected = λ some. connect_more served.session mine added (talks.connected some);
      cause = cause_on start begins link history more drawn drawn' served.session served.end legal grown
          (λ some. gave_on start begins served.session pass history more legal owned (connected some)
          (subst (AllByRecursion (IsApart served.session)) added_is apart)) talks.cause;
      told = talks.told;
    }

-- Why a pass was refused a flush, or a drain of a session.
abbrev pub IsDenied : State → ℕ → ℕ → List Record → ℕ → Type 0
IsDenied start pass session seen drawn =
    (2 ^ 62 < drawn) ⊎ (WasStopped start seen
    ⊎ ((before rest : List Record) × (seen ≡ before ++ rest) × IsUndrained start pass session before))

-- What the service of a link left: by how much the history goes on, the records that the pass added to its own,
-- and why it ended.
pub record Service (start : State) (pass : ℕ) (history more mine added : List Record) (drawn : ℕ) (waits : Bool)
    (noted : Option NotMade) (link : LinkView) (served : Served) : Type 0 where
  pub legal : IsLegal start (history ++ more)
  pub by_owners : AreByOwners start (history ++ more)
  pub mine_is : mine ≡ of_pass pass history
  pub added_is : added ≡ of_pass pass more
  pub connected : served.session ≢ 0 → has_connect served.session added ≡ true
  pub refused : waits ≡ true → 2 ^ 62 < drawn
  pub input : List ℕ
  pub output : List ℕ
  pub tells : HasCarried link input output
  pub talk : IsTalk link.host input output link.ended added served.session
      (given_to served.session (given_by_pass start pass served.session (history ++ more)))
      served.end waits
  pub tells_fault : TellsFault 0 link.faults noted input served.end
  pub cause : HasCause 0 link.faults noted link.ended served.end
  pub known : IsKnown start (history ++ more) drawn served.session noted
  pub sent : served.session ≢ 0 → served.end ≡ end.Dropped →
      IsDrained (steps_of served.session added (given_by_pass start pass served.session (history ++ more)))
      ⊎ IsDenied start pass served.session (history ++ more) drawn

pub waits_before : (drawn : ℕ) (waits : Bool) → (waits ≡ true → 2 ^ 62 < drawn) → is_lock_full drawn ≡ false →
    waits ≡ false
waits_before drawn false refused none = refl
waits_before drawn true refused none = absurd (not_both _ (lt-ltb (2 ^ 62) drawn (refused refl)) none)

module _ (start : State) (begins : IsStart start) (pass : ℕ) (history more mine added : List Record) (drawn : ℕ)
    (waits : Bool) (noted : Option NotMade) (link : LinkView) (served : Served)
    (service : Service start pass history more mine added drawn waits noted link served)
    (closed : is_lock_full drawn ≡ false → (session : ℕ) → is_open session mine ≡ false) where
  -- the session is in none of the records before
  fresh_in : served.session ≢ 0 → has_session served.session mine ≡ false
  fresh_in some =
      let connects : has_connect served.session (of_pass pass more) ≡ true =
      subst (λ (records : List Record). has_connect served.session records ≡ true) service.added_is
      (service.connected some) in
      let absent : has_session served.session history ≡ false =
      fresh_before start begins served.session history more service.legal
      (connect_of served.session pass more connects) in
      ap (has_session served.session) service.mine_is ∙ absent_of served.session pass history absent

  plain_all : AllByRecursion IsPlain (history ++ more)
  plain_all = plain start begins (history ++ more) service.legal

  plain_mine : AllByRecursion IsPlain mine
  plain_mine =
      subst (AllByRecursion IsPlain) (sym service.mine_is)
      (all_of IsPlain pass history (all_prefix IsPlain history more plain_all))

  plain_added : AllByRecursion IsPlain added
  plain_added =
      subst (AllByRecursion IsPlain) (sym service.added_is)
      (all_of IsPlain pass more (all_rear IsPlain history more plain_all))

  all_mine : mine ++ added ≡ of_pass pass (history ++ more)
  all_mine =
      ap (λ first. first ++ added) service.mine_is ∙ ap (λ last. of_pass pass history ++ last) service.added_is
      ∙ sym (of_pass-append pass history more)

  -- a session that was dropped
  left_new : served.end ≡ end.Dropped → WasDropped start served.session (history ++ more) →
      Left start served.session (history ++ more) drawn
  left_new ends dropped =
      let some : served.session ≢ 0 = dropped_some start begins served.session (history ++ more) dropped in
      elim (service.sent some ends) [
        | inl drained ↦ elim (gave_drained start begins served.session pass history more service.legal
            service.by_owners
            (subst (λ (records : List Record). has_connect served.session records ≡ true) service.added_is
            (service.connected some))
            (subst (λ (records : List Record). IsDrained (steps_of served.session records
            (given_by_pass start pass served.session (history ++ more)))) service.added_is drained)) [
              | inl gave ↦ inl gave
              | inr stopped ↦ inr (inl stopped)
            ]
        | inr (inl full) ↦ inr (inr (inr (lt-ltb (2 ^ 62) drawn full)))
        | inr (inr (inl stopped)) ↦ inr (inl stopped)
        | inr (inr (inr (before, rest, is, (open', refused)))) ↦ undrained before rest is open' refused
      ]
    where
      undrained : (before rest : List Record) → history ++ more ≡ before ++ rest →
          IsOpen served.session (of_pass pass before) →
          WasOverrun start served.session before
          ⊎ (refusal_of (state_after start before) (act.Drain served.session) ≡ Some (Gone why.Dropped)) →
          Left start served.session (history ++ more) drawn
      undrained before rest is open' (inl over) =
          inr (inr (inl (subst (λ (all : List Record). WasOverrun start served.session all) (sym is)
          (was_more start (λ row. row.overrun) served.session before rest over))))
      undrained before rest is open' (inr refused) =
          inl (subst (λ (all : List Record). GaveAll start served.session all) (sym is)
          (gave_dropped start begins served.session pass before rest
          (subst (λ (all : List Record). IsLegal start all) is service.legal)
          (subst (λ (all : List Record). AreByOwners start all) is service.by_owners) open' refused))

  -- it is open no more
  closed_new : AllByRecursion (IsOwn served.session) added → is_lock_full drawn ≡ false → (session : ℕ) →
      is_open session (mine ++ added) ≡ false
  closed_new own free session =
      elim (cases_eq session served.session) [
        | inl same ↦ elim (cases_eq session 0) [
          | inl zero ↦
              closed_still session mine added (closed free session)
              (subst (λ (n : ℕ). has_connect n added ≡ false) (sym zero) (plain_connects added plain_added))
          | inr some ↦
              let some' : served.session ≢ 0 = λ zero. some (same ∙ zero) in
              closed_now session mine added
              (subst (λ (n : ℕ). has_close n added ≡ true) (sym same)
              (ends_closed served.session added some' (service.connected some')
              (service.talk.closed (waits_before drawn waits service.refused free))))
        ]
        | inr other ↦
            closed_still session mine added (closed free session)
            (own_connects session served.session added own other)
      ]

  pub talks_new : Talks start (history ++ more) (mine ++ added) drawn link served
  talks_new =
      let connected : served.session ≢ 0 → has_connect served.session (mine ++ added) ≡ true =
      λ some. connect_rear served.session mine added (service.connected some) in
      let connected' : served.session ≢ 0 → has_connect served.session (of_pass pass (history ++ more)) ≡ true =
      λ some. subst (λ (records : List Record). has_connect served.session records ≡ true) all_mine (connected some) in
      record {
        input = service.input;
        output = service.output;
        tells = service.tells;
        talk = subst
            (λ (rear : List Record). IsTalk link.host service.input service.output link.ended (mine
            ++ rear) served.session (given_of start served.session (history ++ more)) served.end (is_lock_full drawn))
            (append-nil added)
            (talk_within link.host service.input service.output link.ended mine added [] served.session
            (given_of start served.session (history ++ more)) served.end (is_lock_full drawn)
            (apart_before served.session mine plain_mine fresh_in) tt
            (talk_fuller link.host service.input service.output link.ended added served.session
            (given_of start served.session (history ++ more)) served.end waits (is_lock_full drawn)
            (waits_before drawn waits service.refused)
            (subst
            (λ (given : List (List Item)). IsTalk link.host service.input service.output link.ended added
            served.session given served.end waits)
            (given_to-own start begins served.session pass (history ++ more) service.legal service.by_owners connected')
            service.talk)));
        connected = connected;
        cause = cause_new start link noted (history ++ more) drawn served.session served.end service.cause service.known
            left_new;
        told = λ place is zero. told_by place noted served.end (service.cause.desk (none_rose link.faults zero))
            (λ none. service.tells_fault place is (none_rose link.faults zero) none);
      }

  -- a link that was served before
  talks_still : AllByRecursion (IsOwn served.session) added → (other : LinkView) (back : Served) (before : ℕ) →
      before ≤ drawn → Talks start history mine before other back →
      Talks start (history ++ more) (mine ++ added) drawn other back
  talks_still own other back before grown was =
      talks_on start begins pass history more mine added before drawn other back service.legal service.by_owners
      service.mine_is service.added_is grown
      (apart_tail back.session served.session mine added plain_added own was.connected fresh_in) was

-- ---- sessions

pub sessions_of-append : {L : Type 0} (links more : List (L × Served)) →
    sessions_of (links ++ more) ≡ sessions_of links ++ sessions_of more
sessions_of-append links more =
    ap (λ (sessions : List ℕ). filter (λ session. not (session == 0)) sessions)
    (map-append (λ back. back.1.session) links more)
    ∙ filter-append (λ session.
    not (session == 0)) (map (λ back. back.1.session) links) (map (λ back. back.1.session) more)

distinct_push : (sessions : List ℕ) (one : ℕ) → IsDistinct nat_eq sessions →
    AllByRecursion (λ session. nat_eq session one ≡ false) sessions → IsDistinct nat_eq (sessions ++ one ∷ [])
unfolding IsDistinct
distinct_push [] one distinct apart = (tt, tt)
distinct_push (first ∷ sessions) one distinct apart = (
  all_append (λ later.
      nat_eq first later ≡ false) sessions (one
      ∷ []) distinct.0 (apart.0, tt),
  distinct_push sessions one distinct.1 apart.1,
)

-- no session of a link that was served before is the new one
sessions_apart : {L : Type 0} (view : L → LinkView) (start : State) (history mine : List Record) (drawn : ℕ)
    (links : List (L × Served)) (one : ℕ) →
    AllByRecursion (λ back. Talks start history mine drawn (view back.0) back.1) links →
    has_session one mine ≡ false → AllByRecursion (λ session. nat_eq session one ≡ false) (sessions_of links)
sessions_apart view start history mine drawn [] one talks fresh = tt
sessions_apart view start history mine drawn (back ∷ links) one talks fresh =
    elim (cases_Bool (eqb back.1.session 0)) [
      | inl zero ↦ rw zero (sessions_apart view start history mine drawn links one talks.1 fresh)
      | inr some ↦
          let there : has_session back.1.session mine ≡ true =
          session_of-connect back.1.session mine (talks.0.connected (not_zero back.1.session some)) in
          let differs : back.1.session ≡ one → ⊥ =
          λ e. not_both _ there (ap (λ (n : ℕ). has_session n mine) e ∙ fresh) in
          rw some (
            ne_eqb back.1.session one differs,
            sessions_apart view start history mine drawn links one talks.1 fresh,
          )
    ]

distinct_more : {L : Type 0} (view : L → LinkView) (start : State) (history mine : List Record) (drawn : ℕ)
    (links : List (L × Served)) (link : L)
    (served : Served) → AllByRecursion (λ back. Talks start history mine drawn (view back.0) back.1) links →
    (served.session ≢ 0 → has_session served.session mine ≡ false) → IsDistinct nat_eq (sessions_of links) →
    IsDistinct nat_eq (sessions_of (links ++ (link, served) ∷ []))
distinct_more view start history mine drawn links link served talks fresh distinct =
    subst (λ (sessions : List ℕ). IsDistinct nat_eq sessions) (sym (sessions_of-append links ((link, served) ∷ [])))
    (elim (cases_Bool (eqb served.session 0)) [
      | inl zero ↦ rw (zero, append-nil (sessions_of links)) distinct
      | inr some ↦ rw some (distinct_push (sessions_of links) served.session distinct
          (sessions_apart view start history mine drawn links served.session talks
          (fresh (not_zero served.session some))))
    ])

owned_more : (sessions more : List ℕ) (made : Record) → IsOfOne sessions made → IsOfOne (sessions ++ more) made
owned_more sessions more made (inl flush) = inl flush
owned_more sessions more made (inr one) =
    inr (list_any-append (λ session. session == made.session) sessions more ∙ or_first _ _ one)

owned_new : {L : Type 0} (sessions : List ℕ) (link : L) (served : Served) (made : Record) → IsPlain made →
    IsOwn served.session made → IsOfOne (sessions ++ sessions_of ((link, served) ∷ [])) made
owned_new sessions link served made plain (inr flush) = inl flush
owned_new sessions link served made (inl flush) (inl own) = inl flush.0
owned_new sessions link served made (inr some) (inl own) =
    let some' : eqb served.session 0 ≡ false = ne_eqb _ _ (λ zero. some.0 (own ∙ zero)) in
    let here : eqb served.session made.session ≡ true = eq-eqb _ _ (sym own) in
    inr (list_any-append (λ session. session ==
    made.session) sessions (sessions_of ((link, served) ∷ [])) ∙ or_second
    (list_any (λ session. session == made.session) sessions)
    (list_any (λ session. session == made.session) (sessions_of ((link, served) ∷ [])))
    (rw some' (or_first (eqb served.session made.session) false here)))

owned_links : {L : Type 0} (links : List (L × Served)) (link : L) (served : Served) (mine added : List Record) →
    AllByRecursion IsPlain added → AllByRecursion (IsOwn served.session) added →
    AllByRecursion (IsOfOne (sessions_of links)) mine →
    AllByRecursion (IsOfOne (sessions_of (links ++ (link, served) ∷ []))) (mine ++ added)
owned_links links link served mine added plains own owned =
    let all : List ℕ = sessions_of links ++ sessions_of ((link, served) ∷ []) in
    subst (λ (sessions : List ℕ). AllByRecursion (IsOfOne sessions) (mine ++ added))
    (sym (sessions_of-append links ((link, served) ∷ [])))
    (all_append (IsOfOne all) mine added
    (all_map (IsOfOne (sessions_of links)) (IsOfOne all) mine
    (λ made one. owned_more (sessions_of links) (sessions_of ((link, served) ∷ [])) made one) owned)
    (all_both IsPlain (IsOwn served.session) (IsOfOne all) added
    (λ made plain own. owned_new (sessions_of links) link served made plain own) plains own))

-- ---- readings of the clock

chosen_past : (moments readings : List ℕ) (reading : ℕ) → IsChosen moments readings →
    IsChosen moments (reading ∷ readings)
chosen_past [] readings reading chosen = tt
chosen_past (moment ∷ moments) readings reading chosen = inr chosen

pub chosen-append : (a x b y : List ℕ) → IsChosen a x → IsChosen b y → IsChosen (a ++ b) (x ++ y)
chosen-append [] [] b y first last = last
chosen-append [] (reading ∷ x) b y first last = chosen_past b (x ++ y) reading (chosen-append [] x b y tt last)
chosen-append (moment ∷ a) [] b y first last = absurd first
chosen-append (moment ∷ a) (reading ∷ x) b y first last = elim first [
  | inl here ↦ inl (here.0, chosen-append a x b y here.1 last)
  | inr later ↦ inr (chosen-append (moment ∷ a) x b y later last)
]

abbrev pub moments_of : List Record → List ℕ
moments_of history = map (λ made. made.entry.moment) history

timed_more : (gave gave' : Option (List ℕ)) (mine added : List Record) →
    IfSome gave (λ readings. IsChosen (moments_of mine) readings) → AreTimed gave gave' added →
    IfSome gave' (λ readings. IsChosen (moments_of (mine ++ added)) readings)
timed_more gave None mine added timed more = tt
timed_more gave (Some after) mine added timed more =
    let before : IsChosen (moments_of mine) more.0 =
    subst (λ (told : Option (List ℕ)). IfSome told (λ readings. IsChosen (moments_of mine) readings)) more.2
    timed in
    subst (λ (moments : List ℕ). IsChosen moments after)
    (sym (map-append (λ (made : Record). made.entry.moment) mine added))
    (subst (λ (readings : List ℕ). IsChosen (moments_of mine ++ moments_of added) readings) (sym more.3)
    (chosen-append (moments_of mine) more.0 (moments_of added) more.1 before more.4))

still_first : (moment : ℕ) (earlier readings : List ℕ) → IsFirstReading moment (Some earlier ∷ []) →
    IsFirstReading moment (Some (earlier ++ readings) ∷ [])
still_first moment [] readings first = absurd first
still_first moment (reading ∷ earlier) readings first = first

pub first_more : (gave gave' : Option (List ℕ)) (added : List Record) → AreTimed gave gave' added →
    KeepsFirst gave gave'
first_more gave None added timed moment first = tt
first_more gave (Some after) added timed moment first =
    let before : IsFirstReading moment (Some timed.0 ∷ []) =
    subst (λ (told : Option (List ℕ)). IsFirstReading moment (told ∷ [])) timed.2 first in
    subst (λ (readings : List ℕ). IsFirstReading moment (Some readings ∷ [])) (sym timed.3)
    (still_first moment timed.0 timed.1 before)

-- ---- one link more

-- what is told of the links that were given back, where it is told, after one link more
told_more : {L : Type 0} (P Q : List (L × Served) → Type 0) (link : L) (served : Served)
    (returned returned' : Option (List (L × Served))) → Gains returned (link, served) returned' →
    ((links : List (L × Served)) → P links → Q (links ++ (link, served) ∷ [])) → IfSome returned P →
    IfSome returned' Q
told_more P Q link served returned None gains turn before = tt
told_more {L} P Q link served returned (Some after) gains turn before =
    let was : P gains.0 = subst (λ (told : Option (List (L × Served))). IfSome told P) gains.1 before in
    subst Q (sym gains.2) (turn gains.0 was)

both_told : {X : Type 0} (P Q : X → Type 0) (told : Option X) → IfSome told P → IfSome told Q →
    IfSome told (λ x. P x × Q x)
both_told P Q None first second = tt
both_told P Q (Some x) first second = (first, second)

-- What the pass leaves grew by the service of a link that was then given back.
pub serves_more : {L : Type 0} (view : L → LinkView) (start : State) → IsStart start → (pass : PassView)
    (more added : List Record) (drawn : ℕ) (waits : Bool) (noted : Option NotMade) (link : L) (served : Served)
    (returned returned' : Option (List (L × Served))) (gave gave' : Option (List ℕ)) → pass.drawn ≤ drawn →
    AreTimed gave gave' added → AllByRecursion (IsOwn served.session) added →
    Gains returned (link, served) returned' →
    Service start pass.number pass.seen more pass.mine added drawn waits noted (view link) served →
    Serves view start pass returned gave →
    Serves view start (record {
      number = pass.number;
      seen = pass.seen ++ more;
      mine = pass.mine ++ added;
      drawn = drawn;
      waits = waits;
    }) returned' gave'
serves_more {L} view start begins pass more added drawn waits noted link served returned returned' gave gave' grown
    timed own gains service before =
    let Was : List (L × Served) → Type 0 =
    λ links. AllByRecursion (λ back. Talks start pass.seen pass.mine pass.drawn (view back.0) back.1) links in
    let Is : List (L × Served) → Type 0 =
    λ links. AllByRecursion
    (λ back. Talks start (pass.seen ++ more) (pass.mine ++ added) drawn (view back.0) back.1) links in
    let closed : is_lock_full drawn ≡ false → (session : ℕ) → is_open session pass.mine ≡ false =
    λ free. before.closed (lock_before pass.drawn drawn grown free) in
    let fresh : served.session ≢ 0 → has_session served.session pass.mine ≡ false =
    fresh_in start begins pass.number pass.seen more pass.mine added drawn waits noted (view link) served service
    closed in
    record {
      mine =
          all_mine start begins pass.number pass.seen more pass.mine added drawn waits noted (view link) served service
          closed;
      talks = told_more Was Is link served returned returned' gains
          (λ links talks. all_append
          (λ back. Talks start (pass.seen ++ more) (pass.mine ++ added) drawn (view back.0) back.1) links
          ((link, served) ∷ [])
          (all_map (λ back. Talks start pass.seen pass.mine pass.drawn (view back.0) back.1)
          (λ back. Talks start (pass.seen ++ more) (pass.mine ++ added) drawn (view back.0) back.1) links
          (λ back was. talks_still start begins pass.number pass.seen more pass.mine added drawn waits noted (view link)
          served service closed own (view back.0) back.1 pass.drawn grown was) talks) (
            talks_new start begins pass.number pass.seen more pass.mine added drawn waits noted (view link) served
                service closed,
            tt,
          ))
          before.talks;
      owned = told_more (λ links. AllByRecursion (IsOfOne (sessions_of links)) pass.mine)
          (λ links. AllByRecursion (IsOfOne (sessions_of links)) (pass.mine ++ added)) link served returned returned'
          gains
          (λ links owned. owned_links links link served pass.mine added
          (plain_added start begins pass.number pass.seen more pass.mine added drawn waits noted (view link) served
          service closed) own owned)
          before.owned;
      timed = timed_more gave gave' pass.mine added before.timed timed;
      distinct = told_more (λ links. Was links × IsDistinct nat_eq (sessions_of links))
          (λ links. IsDistinct nat_eq (sessions_of links)) link served returned returned' gains
          (λ links both. distinct_more view start pass.seen pass.mine pass.drawn links link served both.0 fresh both.1)
          (both_told Was (λ links. IsDistinct nat_eq (sessions_of links)) returned before.talks before.distinct);
      closed = closed_new start begins pass.number pass.seen more pass.mine added drawn waits noted (view link) served
          service closed own;
    }
