-- The acts of a stream's units.
use Rattle.std.proofs.Common.{◌≡◌, ◌≢◌, ℕ, ◌+◌, ◌<◌, ◌≤◌, Bool, true, false, inl, inr, List, [], ◌∷◌, ◌++◌}
use Rattle.std.proofs.Common.{length, map, Option, Some, None, Result, Ok, Err, refl, sym, ◌∙◌, ap, subst, append-nil}
use Rattle.std.proofs.Common.{append_assoc, eq-eqb, arith}
use Rattle.std.specs.Prelude.{⊤, IsSome, option_map}
use Rattle.std.proofs.lemmas.List.{map-append}
use Rattle.kom_types.specs.declared.limits.TheConstants.{LONGEST_USER_NAME}
use Rattle.kom_types.specs.declared.acts.Act.TheVariants as act
use Rattle.kom_types.specs.declared.acts.Record.{Record}
use Rattle.kom_types.specs.declared.answers.Why.TheVariants as why
use Rattle.kom_types.specs.declared.calls.Call.{Call}
use Rattle.kom_types.specs.declared.items.Item.{Item}
use Rattle.kom_types.specs.Stream.{Line, stream_of}
use Rattle.kom_types.specs.Reading.{Request, reading_of, place_of, fault_of}
use Rattle.kom_types.specs.Printing.{print_of}
use Rattle.kom_types.specs.declared.items.Item.TheVariants as item
use Rattle.kom_framing.specs.declared.units.Unit.{Unit as StreamUnit}
use Rattle.kom_framing.specs.declared.units.Unit.TheVariants as unit
use Rattle.kom_framing.specs.Splitting.{Splitting, IsAt}
use Rattle.kom_links.specs.declared.deeds.Deed.{Deed}
use Rattle.kom_links.specs.declared.deeds.Deed.TheVariants as deed
use Rattle.kom_types.specs.declared.answers.NotMade.{NotMade}
use Rattle.kom_types.specs.declared.answers.NotMade.TheVariants as fault
use Rattle.kom_links.specs.declared.served.SessionEnd.TheVariants as end
use Rattle.kom_links.specs.Answers.{without_value, concerns}
use Rattle.kom_links.specs.Records.{is_open, IsOpen}
use Rattle.kom_links.specs.DeskCalls.{DeskView, record_of, IsTold, StaysForAll, Connects as ConnectsOf, Calls, Acts}
use Rattle.kom_links.specs.Talk.{Step, Connects, Asks, Breaks, steps_of, print_of_drains}
use Rattle.kom_session.specs.declared.phase.Phase.{Phase}
use Rattle.kom_session.specs.declared.phase.Phase.TheVariants as phase
use Rattle.kom_session.specs.declared.phase.Stage.{Stage}
use Rattle.kom_session.specs.declared.phase.Stage.TheVariants as stage
use Rattle.kom_session.specs.Course.{IsRecent, IsCourse}
use Rattle.kom_session.specs.Kept.{IsEarly, IsAtStream, IsStage, IsKept, IsAtRest, IsTaking, IsFaulty}
use Rattle.kom_session.specs.Known.{Known, Seen, state, sight, note_fault, with_line, phase_after, HasRoom}
use Rattle.kom_session.specs.Known.{LeavesOthers}
use Rattle.kom_session.specs.Left.{IsSending}
use Rattle.kom_session.specs.Serving.{Party, Nobody, Somebody, Past, IsFaultAfter, AreCalled, Plans}
use Rattle.kom_session.specs.Serving.{IsPhase, IsSince, IsServed, IsHeard}
use Rattle.kom_session.proofs.Answered.{with_answer, refused_ok}
use Rattle.kom_session.proofs.Courses.{open_push, open_tail, own_step-same, recent_settled, recent_other, recent_call}
use Rattle.kom_session.proofs.Courses.{course_started, course_called, course_broken}
use Rattle.kom_session.proofs.Others.{others_open, act_leaves}
use Rattle.kom_session.proofs.Served.{Pushes, push, served_calm, served_known, served_still, first_nil, second_nil}
use Rattle.kom_session.proofs.Stages.{noted_some, at_stream}
use Rattle.kom_session.proofs.Units.{begins, first_calls, line_not_first, greeting_once, fault_at_line, short_greeting}
use Rattle.kom_session.proofs.Units.{no_greeting, fault_tail_all, silent_fault}

-- ---- an act of the session

act_pushes : {X : Type 0} {start : Seen} {past : Past} {known : Known} {now : Seen}
    (s : IsServed start past known now) (desk : DeskView) (gave : Option (List ℕ)) (made : Record)
    (step : Step) (deed : Deed) (answer : Result X NotMade) (reached : Phase)
    → made.session ≡ known.session → steps_of known.session (made ∷ []) [] ≡ step ∷ [] →
    desk.mine ≡ now.desk.mine ++ made ∷ [] → StaysForAll now.desk.gave_to desk.gave_to
    → IsTold now.desk deed answer desk → concerns known.session deed ≡ true →
    IsPhase reached s.waited s.place (s.recent ++ step ∷ []) →
    (IsSending (with_answer known.cause (without_value answer))
    → IsSince reached known.session (s.more ++ (deed, without_value answer) ∷ [])) →
    Pushes s desk gave made [] step deed (without_value answer) reached
act_pushes {known = known} {now = now} s desk gave made step deed answer reached of e mine given told
    here is_phase since = record {
      mine = mine;
      given = given known.session ∙ sym (append-nil (now.desk.gave_to known.session));
      tells = told.tells;
      concerns = here;
      step_is = e;
      own = inl of;
      is_phase = is_phase;
      since = since;
      leaves = act_leaves known.session now desk gave told.pass (λ number other. given number)
          (λ number other. ap (is_open number) mine
          ∙ others_open number now.desk.mine made (λ same. other (sym same ∙ of)));
    }

-- an act of the session that was refused
act_refused : {X : Type 0} {start : Seen} {past : Past} {known : Known} {now : Seen}
    (s : IsServed start past known now) (desk : DeskView) (gave : Option (List ℕ))
    (deed : Deed) (reason : NotMade) (reached : Phase) → known.session ≢ 0 →
    StaysForAll now.desk.gave_to desk.gave_to → IsTold {X = X} now.desk deed (Err reason) desk
    → concerns known.session deed ≡ true → IsPhase reached s.waited s.place s.recent →
    (IsSending (note_fault known.cause reason)
    → IsSince reached known.session (s.more ++ (deed, Err reason) ∷ [])) →
    IsServed start past (record known { cause = note_fault known.cause reason; phase = reached })
    (sight desk now.link gave)
act_refused {known = known} {now = now} s desk gave deed reason reached some given told here is_phase
    since =
    served_still s desk gave deed (Err reason) reached
    (record {
      mine = told.none_added;
      given = given known.session;
      tells = told.tells;
      concerns = here;
      calm = λ none. absurd (some none);
      is_phase = is_phase;
      since = λ some sending. since sending;
    })
    (act_leaves known.session now desk gave told.pass (λ number other. given number)
    (λ number other. ap (is_open number) told.none_added))

-- without a fault nothing is sent after one
sound_since : (cause : Option NotMade) (P : Type 0) → cause ≡ None → IsSending cause → P
sound_since None P none sending = absurd sending
sound_since (Some reason) P none sending = absurd (cc none)

-- ---- a call

phase_called : (reached : Phase) (waited : Bool) (place recent : List Step) (request : Request)
    → HasRoom reached → IsPhase reached waited place recent
    → IsPhase (with_line reached) waited place (recent ++ Asks request ∷ [])
phase_called phase.Calm waited place recent request room is =
    subst (λ steps. IsRecent 1 steps) (append_assoc place recent (Asks request ∷ []))
    (recent_call 0 (place ++ recent) request (recent_settled (place ++ recent) is.0))
phase_called (phase.Due lines) waited place recent request room is =
    subst (λ steps. IsRecent (lines + 1) steps) (append_assoc place recent (Asks request ∷ []))
    (recent_call lines (place ++ recent) request is)
phase_called phase.Owing waited place recent request room is = absurd room
phase_called phase.Draining waited place recent request room is = absurd room
phase_called phase.Denied waited place recent request room is = absurd room

-- how many lines were called
lines_since : (reached : Phase) (waited : Bool) (place recent : List Step) → HasRoom reached
    → IsPhase reached waited place recent
    → ((lines : ℕ) × IsRecent lines (place ++ recent) × (lines < 4))
lines_since phase.Calm waited place recent room is =
    (0, recent_settled (place ++ recent) is.0, omega arith)
lines_since (phase.Due lines) waited place recent room is = (lines, is, room)
lines_since phase.Owing waited place recent room is = absurd room
lines_since phase.Draining waited place recent room is = absurd room
lines_since phase.Denied waited place recent room is = absurd room

early_called : (reached : Phase) → HasRoom reached → IsEarly (with_line reached)
early_called phase.Calm room = omega arith
early_called (phase.Due lines) room = omega arith
early_called phase.Owing room = absurd room
early_called phase.Draining room = absurd room
early_called phase.Denied room = absurd room

-- the first calls with one more
calls_push : (requests : List Request) (lines : List Line) (request : Request) (line : Line)
    → map Some requests ≡ map (λ line. reading_of line.tokens) lines
    → reading_of line.tokens ≡ Some request →
    map Some (requests ++ request ∷ []) ≡ map (λ line. reading_of line.tokens) (lines ++ line ∷ [])
calls_push requests lines request line read one =
    map-append Some requests (request ∷ []) ∙ ap (λ first. first ++ Some request ∷ []) read
    ∙ ap (λ reading. map (λ line. reading_of line.tokens) lines ++ reading ∷ []) (sym one)
    ∙ sym (map-append (λ (line : Line). reading_of line.tokens) lines (line ∷ []))

lines_push : (user : List ℕ) (units : List StreamUnit) (lines : List Line) (line : Line)
    → units ≡ unit.Hello user ∷ map unit.Line lines
    → units ++ unit.Line line ∷ [] ≡ unit.Hello user ∷ map unit.Line (lines ++ line ∷ [])
lines_push user units lines line taken =
    ap (λ units. units ++ unit.Line line ∷ []) taken
    ∙ ap (λ rest. unit.Hello user ∷ rest) (sym (map-append unit.Line lines (line ∷ [])))

-- where a line is taken, its session made the calls of the lines before it
record IsNext (line : Line) (start : Seen) (known : Known) (now : Seen) : Type 0 where
  fed : List ℕ
  user : List ℕ
  requests : List Request
  lines : List Line
  units : List StreamUnit
  served : IsServed start (record { fed = fed; party = Somebody user requests false }) known now
  at : IsAt known.splitting fed (units ++ unit.Line line ∷ [])
  taken : units ≡ unit.Hello user ∷ map unit.Line lines
  read : map Some requests ≡ map (λ line. reading_of line.tokens) lines
  bad : option_map place_of (stream_of fed).fault ≡ known.bad

line_next : {start : Seen} {known : Known} {now : Seen} (line : Line)
    → IsTaking (unit.Line line) start (state known now) → IsNext line start known now
line_next {start} {known} {now} line t = go t.past.party t.served t.called
  where
    go : (party : Party) → IsServed start (record { fed = t.past.fed; party = party }) known now
        → AreCalled party t.units → IsNext line start known now
    go (Nobody told) s called =
        absurd (line_not_first t.past.fed line known.splitting.held
        (t.at.units ∙ ap (λ units. (units ++ unit.Line line ∷ []) ++ known.splitting.held) called.1))
    go (Somebody user requests broken) s (lines, taken, read, whole) = record {
      fed = t.past.fed;
      user = user;
      requests = requests;
      lines = lines;
      units = t.units;
      served =
          subst (λ (broken : Bool). IsServed start
          (record { fed = t.past.fed; party = Somebody user requests broken }) known now) whole s;
      at = t.at;
      taken = taken;
      read = read;
      bad = t.bad;
    }

-- the session of a line is connected
pub line_session : {start : Seen} {known : Known} {now : Seen} (line : Line)
    → IsTaking (unit.Line line) start (state known now) → known.session ≢ 0
line_session line t = (line_next line t).served.party.some

-- a call was made
pub call_made : {X : Type 0} {start : Seen} {known : Known} {now : Seen} (line : Line)
    (reference : ℕ) (call : Call) → IsTaking (unit.Line line) start (state known now)
    → reading_of line.tokens ≡ Some (record { reference = reference; call = call }) →
    (moment : ℕ) (done : X) (desk : DeskView) (gave : Option (List ℕ))
    → Calls now.desk moment (act.Call known.session reference call) known.session (Ok done) desk →
    IsKept start (record known { phase = with_line known.phase }) (sight desk now.link gave)
call_made {X} {start} {known} {now} line reference call t reading moment done desk gave calls =
    let n = line_next line t in
    let s = n.served in
    let made : Record =
    record_of now.desk.pass moment (act.Call known.session reference call) known.session
    calls.added.0 in
    let request : Request = record { reference = reference; call = call } in
    let since = lines_since known.phase s.waited s.place s.recent t.room s.phase in
    let later : List Request = n.requests ++ request ∷ [] in
    let past : Past = record { fed = n.fed; party = Somebody n.user later false } in
    let pushed = lines_push n.user n.units n.lines line n.taken in
    let reads = calls_push n.requests n.lines request line n.read reading in
    record {
      past = past;
      served =
          push n.fed n.user n.requests later false false s desk gave made []
          (Asks request) (deed.Call known.session) (Ok tt) (with_line known.phase)
          (act_pushes {X = X} s desk gave made (Asks request) (deed.Call known.session) (Ok done)
          (with_line known.phase) refl (own_step-same known.session (Asks request) [])
          calls.added.1 calls.given calls.rest (eq-eqb known.session known.session refl)
          (phase_called known.phase s.waited s.place s.recent request t.room s.phase)
          (λ sending. sound_since known.cause (IsSince (with_line known.phase) known.session
          (s.more ++ (deed.Call known.session, Ok tt) ∷ [])) t.sound sending))
          known.pending (s.owed ∙ ap print_of_drains (sym (calls.given known.session)))
          (record {
            some = s.party.some;
            course =
                subst (λ (lists : List (List Item)). IsCourse known.session start.link.host n.user
                later false (s.added ++ made ∷ []) lists) (sym (calls.given known.session))
                (course_called s.party.course since.0
                (subst (λ steps. IsRecent since.0 steps) (sym s.steps) since.1) since.2
                now.desk.pass moment reference call calls.added.0);
            is_open =
                subst (λ (mine : List Record). IsOpen known.session mine) (sym calls.added.1)
                (open_push known.session now.desk.mine made refl s.party.is_open);
            first =
                first_calls n.fed n.user known.splitting.held (n.lines ++ line ∷ []) later
                (begins n.fed n.user (n.units ++ unit.Line line ∷ []) known.splitting.held
                (n.lines ++ line ∷ []) n.at.units pushed) reads;
            at_fault = λ e. absurd (cc (e));
          });
      stage =
          subst (λ (stage : Stage). IsStage stage start past
          (record known { phase = with_line known.phase }) (sight desk now.link gave))
          (sym t.serving)
          (record {
            units = n.units ++ unit.Line line ∷ [];
            at = n.at;
            called = (n.lines ++ line ∷ [], pushed, reads, refl);
            sound = t.sound;
            bad = n.bad;
            early = early_called known.phase t.room;
          });
    }

-- ---- the end after a fault of the desk

ended_plan : (fed user : List ℕ) (requests : List Request) (broken : Bool) (known : Known)
    (cause : Option NotMade) → cause ≢ None → known.pending ≡ [] →
    Plans end.End cause (record { fed = fed; party = Somebody user requests broken }) known
ended_plan fed user requests broken known None some nothing = absurd (some refl)
ended_plan fed user requests broken known (Some reason) some nothing = (nothing, tt)

broken_plan : (place : ℕ) (fed user : List ℕ) (requests : List Request) (broken : Bool)
    (known : Known) (cause : Option NotMade) → known.pending ≡ [] →
    (cause ≡ None → (broken ≡ true) × IsFaultAfter fed place requests × (known.phase ≡ phase.Calm))
    → Plans (end.Broken place) cause
    (record { fed = fed; party = Somebody user requests broken }) known
broken_plan place fed user requests broken known None nothing told = (nothing, told refl)
broken_plan place fed user requests broken known (Some reason) nothing told = (nothing, tt)

-- ---- a call that was refused

after_phase : (reason : NotMade) (waited : Bool) (place recent : List Step)
    → IsPhase (phase_after reason) waited place recent
after_phase (fault.Gone why.Absent) waited place recent = tt
after_phase (fault.Gone why.Dropped) waited place recent = tt
after_phase (fault.Gone why.Overrun) waited place recent = tt
after_phase (fault.Gone why.Stopped) waited place recent = tt
after_phase (fault.Full number) waited place recent = tt
after_phase fault.Memory waited place recent = tt

after_since : (cause : Option NotMade) (reason : NotMade) (session : ℕ)
    (answers : List (Deed × Result ⊤ NotMade)) → cause ≡ None
    → IsSending (note_fault cause reason) → IsSince (phase_after reason) session answers
after_since (Some first) reason session answers none sending = absurd (cc none)
after_since None (fault.Gone why.Absent) session answers none sending = absurd sending
after_since None (fault.Gone why.Dropped) session answers none sending = tt
after_since None (fault.Gone why.Overrun) session answers none sending = absurd sending
after_since None (fault.Gone why.Stopped) session answers none sending = tt
after_since None (fault.Full number) session answers none sending = absurd sending
after_since None fault.Memory session answers none sending = absurd sending

-- what waits is sent, if it is still sent after such a fault
pub call_last : {X : Type 0} {start : Seen} {known : Known} {now : Seen} (line : Line)
    (reference : ℕ) (call : Call) → IsTaking (unit.Line line) start (state known now) →
    (moment : ℕ) (reason : NotMade) (desk : DeskView) (gave : Option (List ℕ))
    → Calls {X = X} now.desk moment (act.Call known.session reference call) known.session
    (Err reason) desk →
    IsKept start
    (record known {
      cause = note_fault known.cause reason;
      phase = phase_after reason;
      stage = stage.Last end.End;
    }) (sight desk now.link gave)
call_last {X} {known = known} line reference call t moment reason desk gave calls =
    let n = line_next line t in
    let s = n.served in
    record {
      past = record { fed = n.fed; party = Somebody n.user n.requests false };
      served =
          served_known
          (act_refused {X = X} s desk gave (deed.Call known.session) reason (phase_after reason)
          s.party.some calls.given calls.rest (eq-eqb known.session known.session refl)
          (after_phase reason s.waited s.place s.recent)
          (λ sending. after_since known.cause reason known.session
          (s.more ++ (deed.Call known.session, Err reason) ∷ []) t.sound sending))
          known.splitting (stage.Last end.End) known.bad;
      stage = record {
        final = noted_some known.cause reason;
        plan =
            λ later keeps nothing calm. ended_plan n.fed n.user n.requests false later later.cause
            (λ e. noted_some known.cause reason (keeps.first e)) nothing;
        denied = λ e. noted_some known.cause reason;
      };
    }

-- ---- the stream is at fault

-- the desk was told
pub told_broken : {X : Type 0} {place : ℕ} {start : Seen} {known : Known} {now : Seen}
    → IsFaulty place start (state known now)
    → (moment : ℕ) (done : X) (desk : DeskView) (gave : Option (List ℕ)) →
    Acts now.desk moment (act.Broken known.session) known.session (Ok done) desk →
    IsKept start (record known { phase = phase.Owing; stage = stage.Last (end.Broken place) })
    (sight desk now.link gave)
told_broken {X} {place} {start} {known} {now} f moment done desk gave acts =
    let made : Record =
    record_of now.desk.pass moment (act.Broken known.session) known.session false in
    let s = f.served in
    record {
      past = record { fed = f.fed; party = Somebody f.user f.requests true };
      served =
          served_known
          (push f.fed f.user f.requests f.requests false true s desk gave made [] Breaks
          (deed.Broken known.session) (Ok tt) phase.Owing
          (act_pushes {X = X} s desk gave made Breaks (deed.Broken known.session) (Ok done)
          phase.Owing refl (own_step-same known.session Breaks []) acts.added acts.given acts.rest
          (eq-eqb known.session known.session refl) tt (λ sending. tt))
          known.pending (s.owed ∙ ap print_of_drains (sym (acts.given known.session)))
          (record {
            some = s.party.some;
            course =
                subst (λ (lists : List (List Item)). IsCourse known.session start.link.host f.user
                f.requests true (s.added ++ made ∷ []) lists) (sym (acts.given known.session))
                (course_broken s.party.course now.desk.pass moment);
            is_open =
                subst (λ (mine : List Record). IsOpen known.session mine) (sym acts.added)
                (open_push known.session now.desk.mine made refl s.party.is_open);
            first = s.party.first;
            at_fault = λ e. (place, f.fault);
          }))
          known.splitting (stage.Last (end.Broken place)) known.bad;
      stage = record {
        final = tt;
        plan =
            λ later keeps none calm. broken_plan place f.fed f.user f.requests true later later.cause
            none (λ e. (refl, f.fault, calm e));
        denied = λ e. absurd (cc e);
      };
    }

-- the desk refused
pub untold_broken : {X : Type 0} {place : ℕ} {start : Seen} {known : Known} {now : Seen}
    → IsFaulty place start (state known now)
    → (moment : ℕ) (reason : NotMade) (desk : DeskView) (gave : Option (List ℕ)) →
    Acts {X = X} now.desk moment (act.Broken known.session) known.session (Err reason) desk →
    IsKept start
    (record known {
      cause = note_fault known.cause reason;
      phase = phase.Owing;
      stage = stage.Last (end.Broken place);
    }) (sight desk now.link gave)
untold_broken {X} {place} {start} {known} {now} f moment reason desk gave acts =
    let s = f.served in
    record {
      past = record { fed = f.fed; party = Somebody f.user f.requests false };
      served =
          served_known
          (act_refused {X = X} s desk gave (deed.Broken known.session) reason phase.Owing
          s.party.some acts.given acts.rest (eq-eqb known.session known.session refl) tt
          (λ sending. tt))
          known.splitting (stage.Last (end.Broken place)) known.bad;
      stage = record {
        final = tt;
        plan =
            λ later keeps none calm. broken_plan place f.fed f.user f.requests false later
            later.cause none (λ e. absurd (noted_some known.cause reason (keeps.first e)));
        denied = λ e. absurd (cc e);
      };
    }

-- a malformed line is one
pub line_faulty : {start : Seen} {known : Known} {now : Seen} (line : Line)
    → IsTaking (unit.Line line) start (state known now) → reading_of line.tokens ≡ None
    → IsFaulty line.end start (state known now)
line_faulty {known = known} line t unread =
    let n = line_next line t in
    record {
      fed = n.fed;
      user = n.user;
      requests = n.requests;
      served = n.served;
      fault =
          fault_at_line n.fed n.user n.units known.splitting.held n.lines n.requests line
          (n.at.units ∙ append_assoc n.units (unit.Line line ∷ []) known.splitting.held) n.taken
          n.read unread;
    }

-- where all units were called, a session's stream is at fault where it was found to be
pub bad_faulty : {start : Seen} {known : Known} {now : Seen} (place : ℕ)
    → known.stage ≡ stage.Serving → known.splitting.held ≡ [] → known.bad ≡ Some place
    → known.session ≢ 0 → IsKept start known now → IsFaulty place start (state known now)
bad_faulty {start} {known} {now} place serving none_left found some kept =
    go kept.past.party kept.served at.called
  where
    at : IsAtStream kept.past known
    at = at_stream start kept.past known now serving kept.stage

    go : (party : Party)
        → IsServed start (record { fed = kept.past.fed; party = party }) known now
        → AreCalled party at.units → IsFaulty place start (state known now)
    go (Nobody told) s called = absurd (some s.party.none)
    go (Somebody user requests broken) s (lines, taken, read, whole) = record {
      fed = kept.past.fed;
      user = user;
      requests = requests;
      served =
          subst (λ (broken : Bool). IsServed start
          (record { fed = kept.past.fed; party = Somebody user requests broken }) known now) whole s;
      fault =
          fault_tail_all kept.past.fed user at.units lines requests place
          (at.at.units ∙ ap (λ rest. at.units ++ rest) none_left) taken read (at.bad ∙ found);
    }

is_some : (found : Option ℕ) (place : ℕ) → found ≡ Some place → IsSome found
is_some None place e = absurd (cc e)
is_some (Some at) place e = refl

silent_plan : (place : ℕ) (fed : List ℕ) (known : Known) (cause : Option NotMade) → cause ≡ None
    → known.pending ≡ [] → (stream_of fed).greeting ≡ None → fault_of fed ≡ Some place →
    Plans (end.Broken place) cause
    (record { fed = fed; party = Nobody (print_of item.Fault) }) known
silent_plan place fed known None none nothing greeting fault = (nothing, (greeting, fault, refl))
silent_plan place fed known (Some reason) none nothing greeting fault = absurd (cc none)

-- without a session its client is told
pub bad_silent : {start : Seen} {known : Known} {now : Seen} (place : ℕ)
    → known.stage ≡ stage.Serving → known.splitting.held ≡ [] → known.bad ≡ Some place
    → known.session ≡ 0 → IsKept start known now →
    IsKept start
    (record known { pending = print_of item.Fault; stage = stage.Last (end.Broken place) }) now
bad_silent {start} {known} {now} place serving none_left found none kept =
    go kept.past.party kept.served at.called
  where
    at : IsAtStream kept.past known
    at = at_stream start kept.past known now serving kept.stage

    go : (party : Party)
        → IsServed start (record { fed = kept.past.fed; party = party }) known now
        → AreCalled party at.units → IsKept start
        (record known { pending = print_of item.Fault; stage = stage.Last (end.Broken place) }) now
    go (Somebody user requests broken) s called = absurd (s.party.some none)
    go (Nobody told) s (nothing, taken) =
        let fed : List ℕ = kept.past.fed in
        let greeting : (stream_of fed).greeting ≡ None =
        no_greeting fed
        (at.at.units ∙ ap (λ rest. at.units ++ rest) none_left ∙ append-nil at.units ∙ taken) in
        let fault : fault_of fed ≡ Some place =
        silent_fault fed place greeting (at.bad ∙ found) in
        record {
          past = record { fed = fed; party = Nobody (print_of item.Fault) };
          served = record {
            added = s.added;
            more = s.more;
            bytes = s.bytes;
            waited = s.waited;
            place = s.place;
            recent = s.recent;
            mine = s.mine;
            answers = s.answers;
            own = s.own;
            taken = s.taken;
            put = s.put;
            owed =
                ap (λ bytes. bytes ++ print_of item.Fault)
                (first_nil s.bytes known.pending (s.owed ∙ nothing));
            party = record {
              none = s.party.none;
              calm = s.party.calm;
              nothing = s.party.nothing;
              may_tell = inr (greeting, is_some (fault_of fed) place fault, refl);
            };
            steps = s.steps;
            looked = s.looked;
            phase = s.phase;
            cause = s.cause;
            unrefused = s.unrefused;
            since = s.since;
            others = s.others;
            untouched = s.untouched;
          };
          stage = record {
            final = tt;
            plan = λ later keeps nothing calm. silent_plan place fed later later.cause
                (keeps.silent none ∙ at.sound) nothing greeting fault;
            denied = λ e. absurd (cc (s.party.calm, e));
          };
        }

-- memory for a line's arguments ran out
pub line_over : {start : Seen} {known : Known} {now : Seen} (line : Line)
    → IsTaking (unit.Line line) start (state known now)
    → IsKept start (record known { stage = stage.Over end.Memory }) now
line_over {known = known} line t = record {
  past = t.past;
  served = served_known t.served known.splitting (stage.Over end.Memory) known.bad;
  stage = record { plan = tt; heard = tt; sent = tt };
}

-- ---- the greeting

-- the party of whom a greeting is taken is nobody
greeted_nobody : {start : Seen} {known : Known} {now : Seen} (user : List ℕ)
    (t : IsTaking (unit.Hello user) start (state known now)) →
    ((t.past.party ≡ Nobody []) × (t.units ≡ []))
greeted_nobody {start} {known} {now} user t = go t.past.party t.called
  where
    go : (party : Party) → AreCalled party t.units → ((party ≡ Nobody []) × (t.units ≡ []))
    go (Nobody told) called = (ap Nobody called.0, called.1)
    go (Somebody name requests broken) called =
        absurd (greeting_once t.past.fed name user t.units known.splitting.held called.0
        (t.at.units ∙ append_assoc t.units (unit.Hello user ∷ []) known.splitting.held) called.1)

-- where a greeting is taken, it is the first unit of nobody's stream
record IsFirst (user : List ℕ) (start : Seen) (known : Known) (now : Seen) : Type 0 where
  fed : List ℕ
  served : IsServed start (record { fed = fed; party = Nobody [] }) known now
  at : IsAt known.splitting fed (unit.Hello user ∷ [])
  bad : option_map place_of (stream_of fed).fault ≡ known.bad

greeting_first : {start : Seen} {known : Known} {now : Seen} (user : List ℕ)
    → IsTaking (unit.Hello user) start (state known now) → IsFirst user start known now
greeting_first {start} {known} {now} user t =
    let nobody = greeted_nobody user t in
    record {
      fed = t.past.fed;
      served =
          subst (λ (party : Party). IsServed start (record { fed = t.past.fed; party = party }) known
          now) nobody.0 t.served;
      at =
          subst (λ (units : List StreamUnit). IsAt known.splitting t.past.fed
          (units ++ unit.Hello user ∷ [])) nobody.1 t.at;
      bad = t.bad;
    }

pub greeting_none : {start : Seen} {known : Known} {now : Seen} (user : List ℕ)
    → IsTaking (unit.Hello user) start (state known now) → known.session ≡ 0
greeting_none user t = (greeting_first user t).served.party.none

-- the name of a greeting is short
pub name_short : {start : Seen} {known : Known} {now : Seen} (user : List ℕ)
    → IsTaking (unit.Hello user) start (state known now) → length user ≤ LONGEST_USER_NAME
name_short {known = known} user t =
    let first = greeting_first user t in
    short_greeting first.fed user
    (begins first.fed user (unit.Hello user ∷ []) known.splitting.held [] first.at.units
    refl).greeting

connect_leaves : {start : Seen} (known : Known) {now : Seen} → LeavesOthers known.session start now
    → known.session ≡ 0
    → (session : ℕ) (moment : ℕ) (user host : List ℕ) (desk : DeskView) (gave : Option (List ℕ)) →
    ConnectsOf now.desk moment user host (Ok session) desk
    → LeavesOthers session start (sight desk now.link gave)
connect_leaves {start} known {now} others none session moment user host desk gave connects =
    record {
      pass = connects.pass ∙ others.pass;
      host = others.host;
      faults = others.faults;
      given =
          λ number other. connects.given.1 number (other connects.new_number.0)
          ∙ others.given number (λ some. absurd (some none));
      opened = λ number some other. ap (is_open number) connects.added
          ∙ others_open number now.desk.mine
          (record_of now.desk.pass moment (act.Connect user host) session false)
          (λ e. other (sym e))
          ∙ others.opened number some (λ e. some (e ∙ none));
    }

-- a session was connected
pub greeting_connected : {start : Seen} {known : Known} {now : Seen} (user : List ℕ)
    → IsTaking (unit.Hello user) start (state known now) →
    (session moment : ℕ) (desk : DeskView) (gave : Option (List ℕ))
    → ConnectsOf now.desk moment user now.link.host (Ok session) desk →
    IsKept start (record known { session = session; phase = phase.Due 0 })
    (sight desk now.link gave)
greeting_connected {start} {known} {now} user t session moment desk gave connects =
    let f = greeting_first user t in
    let fed = f.fed in
    let s = f.served in
    let host : List ℕ = now.link.host in
    let made : Record = record_of now.desk.pass moment (act.Connect user host) session false in
    let empty : [] ≡ s.place ++ s.recent =
    ap (λ added. steps_of known.session added (now.desk.gave_to known.session))
    (sym s.party.nothing) ∙ s.steps in
    let same : s.place ++ s.recent ≡ [] = sym empty in
    let mine : now.desk.mine ≡ start.desk.mine =
    s.mine ∙ ap (λ added. start.desk.mine ++ added) s.party.nothing
    ∙ append-nil start.desk.mine in
    let past : Past = record { fed = fed; party = Somebody user [] false } in
    record {
      past = past;
      served = record {
        added = made ∷ [];
        more = s.more ++ (deed.Connect, Ok tt) ∷ [];
        bytes = s.bytes;
        waited = s.waited;
        place = s.place;
        recent = s.recent ++ Connects user host ∷ [];
        mine = connects.added ∙ ap (λ first. first ++ made ∷ []) mine;
        answers =
            connects.tells ∙ ap (λ first. first ++ (deed.Connect, Ok tt) ∷ []) s.answers
            ∙ append_assoc start.desk.answers s.more ((deed.Connect, Ok tt) ∷ []);
        own = (inl refl, tt);
        taken = s.taken;
        put = s.put;
        owed = s.owed ∙ sym (ap print_of_drains connects.given.0);
        party = record {
          some = connects.new_number.0;
          course =
              subst (λ (lists : List (List Item)). IsCourse session start.link.host user [] false
              (made ∷ []) lists) (sym connects.given.0)
              (subst (λ (here : List ℕ). IsCourse session here user [] false
              (record_of now.desk.pass moment (act.Connect user host) session
              false ∷ []) []) s.others.host
              (course_started session now.desk.pass moment host user connects.new_number.0));
          is_open = subst (λ (mine : List Record). IsOpen session mine) (sym connects.added)
              (open_tail session now.desk.mine (made ∷ []) connects.new_number.1
              (course_started session now.desk.pass moment host user
              connects.new_number.0).is_open);
          first =
              first_calls fed user known.splitting.held [] []
              (begins fed user (unit.Hello user ∷ []) known.splitting.held [] f.at.units
              refl) refl;
          at_fault = λ e. absurd (cc (e));
        };
        steps =
            ap (λ (lists : List (List Item)). steps_of session (made ∷ []) lists) connects.given.0
            ∙ own_step-same session (Connects user host) []
            ∙ ap (λ steps. steps ++ Connects user host ∷ []) empty
            ∙ append_assoc s.place s.recent (Connects user host ∷ []);
        looked = s.looked;
        phase =
            subst (λ steps. IsRecent 0 steps)
            (append_assoc s.place s.recent (Connects user host ∷ []))
            (recent_other 0 (s.place ++ s.recent) (Connects user host) refl
            (recent_settled (s.place ++ s.recent) (inl same)));
        cause =
            refused_ok session s.more deed.Connect ∙ s.unrefused s.party.none t.sound session
            ∙ sym t.sound;
        unrefused = λ none. absurd (connects.new_number.0 none);
        since = λ some sending. tt;
        others =
            connect_leaves known s.others s.party.none session moment user host desk gave connects;
        untouched = s.untouched;
      };
      stage =
          subst (λ (stage : Stage). IsStage stage start past
          (record known { session = session; phase = phase.Due 0 }) (sight desk now.link gave))
          (sym t.serving)
          (record {
            units = unit.Hello user ∷ [];
            at = f.at;
            called = ([], refl, refl, refl);
            sound = t.sound;
            bad = f.bad;
            early = omega arith;
          });
    }

refused_plan : (cause : Option NotMade) (reason : NotMade) (fed : List ℕ) (known : Known)
    → cause ≡ Some reason → known.pending ≡ [] →
    Plans end.End (Some reason) (record { fed = fed; party = Nobody [] }) known
    → Plans end.End cause (record { fed = fed; party = Nobody [] }) known
refused_plan cause reason fed known e nothing plan =
    subst (λ (cause : Option NotMade). Plans end.End cause
    (record { fed = fed; party = Nobody [] }) known) (sym e) plan

heard_some : (cause : Option NotMade) (reason : NotMade) (start : Seen) (now : Seen)
    → cause ≡ Some reason → IsHeard end.End cause start.link now.link
heard_some None reason start now e = absurd (cc e)
heard_some (Some first) reason start now e = tt

-- no session was connected
pub greeting_refused : {start : Seen} {known : Known} {now : Seen} (user : List ℕ)
    → IsTaking (unit.Hello user) start (state known now) →
    (moment : ℕ) (reason : NotMade) (desk : DeskView) (gave : Option (List ℕ))
    → ConnectsOf now.desk moment user now.link.host (Err reason) desk →
    IsKept start
    (record known { cause = note_fault known.cause reason; stage = stage.Over end.End })
    (sight desk now.link gave)
greeting_refused {start} {known} {now} user t moment reason desk gave connects =
    let f = greeting_first user t in
    let s = f.served in
    let none = s.party.none in
    let fault : note_fault known.cause reason ≡ Some reason =
    ap (λ (first : Option NotMade). note_fault first reason) t.sound in
    let nothing : known.pending ≡ [] = second_nil s.bytes known.pending s.owed in
    record {
      past = record { fed = f.fed; party = Nobody [] };
      served =
          served_known
          (served_still s desk gave deed.Connect (Err reason) known.phase
          (record {
            mine = connects.none_added;
            given = connects.none_given known.session;
            tells = connects.tells;
            concerns = eq-eqb known.session 0 none;
            calm = served_calm s;
            is_phase = s.phase;
            since = λ some. absurd (some none);
          })
          (act_leaves known.session now desk gave connects.pass
          (λ number other. connects.none_given number)
          (λ number other. ap (is_open number) connects.none_added)))
          known.splitting (stage.Over end.End) known.bad;
      stage = record {
        plan =
            refused_plan (note_fault known.cause reason) reason f.fed
            (record known { cause = note_fault known.cause reason; stage = stage.Over end.End }) fault
            nothing (nothing, (refl, inr connects.why));
        heard = heard_some (note_fault known.cause reason) reason start (sight desk now.link gave) fault;
        sent = subst (λ reached. IsAtRest reached) (sym s.party.calm) tt;
      };
    }

-- ---- a unit that was taken

pub taking : {start : Seen} {known : Known} {now : Seen} (next : StreamUnit) (splitting : Splitting)
    → known.stage ≡ stage.Serving → HasRoom known.phase →
    ((fed : List ℕ) (units : List StreamUnit) → IsAt known.splitting fed units
    → IsAt splitting fed (units ++ next ∷ [])) → IsKept start known now →
    IsTaking next start (state (record known { splitting = splitting }) now)
taking {start} {known} {now} next splitting serving room taken kept =
    let at = at_stream start kept.past known now serving kept.stage in
    record {
      past = kept.past;
      units = at.units;
      served = served_known kept.served splitting known.stage known.bad;
      at = taken kept.past.fed at.units at.at;
      called = at.called;
      sound = at.sound;
      bad = at.bad;
      serving = serving;
      room = room;
    }
