-- A talk from its greeting to its end.
use Rattle.std.proofs.Common.{◌≡◌, ℕ, ◌≤◌, ◌||◌, Bool, true, false, List, [], ◌++◌, Option, Some}
use Rattle.std.proofs.Common.{None, Ok, Err}
use Rattle.std.proofs.Common.{refl, sym, ap, subst, ◌∙◌, inl, arith, append_assoc, append-nil}
use Rattle.kom_types.specs.declared.side.Side.TheVariants as side
use Rattle.kom_types.specs.Stream.{Line, stream_by}
use Rattle.kom_framing.specs.declared.units.Unit.TheVariants as unit
use Rattle.kom_framing.specs.Splitting.{Splitting}
use Rattle.kom_links.specs.declared.link.Got.{Got}
use Rattle.kom_links.specs.declared.link.Got.TheVariants as got
use Rattle.kom_links.specs.Doors.{SinkView}
use Rattle.kom_links.specs.Outside.{LinkView, Rose, Reads, read_bytes}
use Rattle.kom_client.specs.declared.talk_end.TalkEnd.{TalkEnd}
use Rattle.kom_client.specs.declared.talk_end.TalkEnd.TheVariants as end
use Rattle.kom_client.specs.Keys.{key_lines, lines_after}
use Rattle.kom_client.specs.Client.{Course, Turn, Agrees, IsPart, IsWhole, IsUntouched, IsTalk, HasCause, HasCarried}
use Rattle.kom_client.specs.Client.{Shows, answers}
use Rattle.kom_client.specs.Client.{before, ends, client, after_greeting, first_turn, greeting_line, end_without_line}
use Rattle.kom_client.specs.Talking.{World, Typing, Counts, Past, Over, IsCaused, IsCausedBy, Finishes}
use Rattle.kom_client.specs.Talking.{Greets, Types}
use Rattle.kom_client.specs.Talking.{IsHearing, IsUnheard, HearsUnit, HearsNone, Puts, Sends}
use Rattle.kom_client.proofs.Links.{tells_nothing, puts_tells, listens_tells, rose_after, told_grown, told_same}
use Rattle.kom_client.proofs.Streams.{none_greeted, greeting_first}
use Rattle.kom_client.proofs.Steps.{stands_lines, part_of, whole_of, over_here, over_from, no_fault_ends, fault_ends}
use Rattle.kom_client.proofs.Turns.{typed_stops}

-- ---- the greeting

-- the greeting was not sent whole
pub ungreeted : (user bytes : List ℕ) (start : Counts) (old : LinkView) (at : World) (ending : TalkEnd) →
    bytes ≡ greeting_line user → IsUntouched old → Shows at.sink [] → start.link ≡ old.faults →
    Sends (Err ending) old bytes at.link → Greets (Err ending) user start at
ungreeted user bytes start old at ending e fresh shown from (is, rose, part, (more, whole), puts) =
    subst (λ (ending : TalkEnd). Greets (Err ending) user start at) (sym is) (
      [],
      part,
      puts_tells [] [] puts (tells_nothing old fresh.nothing_taken fresh.nothing_put),
      shown,
      subst (λ (faults : ℕ). Rose faults at.link.faults) (sym from) rose,
      λ keys. let c = client user keys [] in
          let rest = after_greeting (stream_by side.Server []).greeting keys (stream_by side.Server []).lines
          (stream_by side.Server []).fault in
          record {
            part_sent = (
              more ++ rest.sent,
              sym (append_assoc part more rest.sent) ∙ ap (λ (bytes : List ℕ). bytes ++ rest.sent) (whole ∙ e),
            );
            part_shown = (c.shown, refl);
          },
    )

silent : (user keys heard : List ℕ) (ending : TalkEnd) → (stream_by side.Server heard).greeting ≡ None
    → end_without_line (stream_by side.Server heard).fault ≡ ending
    → IsWhole ending (client user keys heard) (greeting_line user) []
silent user keys heard ending none why =
    let split = stream_by side.Server heard in
    let same : client user keys heard ≡ before (greeting_line user) [] (ends ending) =
    ap (λ (greeting : Option (List ℕ)).
    before (greeting_line user) [] (after_greeting greeting keys split.lines split.fault)) none
    ∙ ap (λ (e : TalkEnd). before (greeting_line user) [] (ends e)) why in
    subst (λ (c : Course). IsWhole ending c (greeting_line user) []) (sym same)
    (whole_of (greeting_line user) [] ending)

-- the server did not answer
pub unanswered : (ending : TalkEnd) (user bytes : List ℕ) (start : Counts) (old mid : LinkView) (at : World) →
    bytes ≡ greeting_line user → IsUntouched old → Shows at.sink [] → start.link ≡ old.faults → Puts old bytes mid →
    HearsNone ending [] [] mid at.link → Greets (Err ending) user start at
unanswered ending user bytes start old mid at e fresh shown from puts n = (
  n.piece,
  greeting_line user,
  subst (λ (bytes : List ℕ). HasCarried at.link n.piece bytes) e
      (listens_tells [] bytes n.listens
      (puts_tells [] [] puts (tells_nothing old fresh.nothing_taken fresh.nothing_put))),
  shown,
  cause ending n.why,
  λ keys. agrees keys ending n.why,
)
  where
    cause : (ending : TalkEnd) →
        IsUnheard ending n.more (stream_by side.Server n.piece).fault mid at.link
        → IsCaused ending start at
    cause end.ServerEnd why = why.2
    cause (end.Broken place) why = tt
    cause end.LinkFault why =
        rose_after start.link mid.faults at.link.faults (omega (arith, puts.faults, from)) why
    cause end.Memory why = tt
    cause end.End why = why
    cause end.KeysFault why = why
    cause end.SinkFault why = absurd why

    none : n.more ≡ [] → (stream_by side.Server n.piece).greeting ≡ None
    none e = none_greeted (stream_by side.Server n.piece) (n.units ∙ e)

    part : (keys : List ℕ) → IsPart (client user keys n.piece) (greeting_line user) []
    part keys =
        let split = stream_by side.Server n.piece in
        part_of (greeting_line user) [] (after_greeting split.greeting keys split.lines split.fault)

    agrees : (keys : List ℕ) (ending : TalkEnd) →
        IsUnheard ending n.more (stream_by side.Server n.piece).fault mid at.link
        → Agrees ending (client user keys n.piece) (greeting_line user) []
    agrees keys end.ServerEnd why =
        silent user keys n.piece end.ServerEnd (none why.0) (no_fault_ends _ why.1)
    agrees keys (end.Broken place) why =
        silent user keys n.piece (end.Broken place) (none why.0) (fault_ends _ place why.1)
    agrees keys end.LinkFault why = part keys
    agrees keys end.Memory why = part keys
    agrees keys end.End why = absurd why
    agrees keys end.KeysFault why = absurd why
    agrees keys end.SinkFault why = absurd why

-- the server answered
pub answered : (user bytes name : List ℕ) (start : Counts) (old mid : LinkView) (prior : Splitting)
    (fault : Option ℕ) (at : World) → bytes ≡ greeting_line user → IsUntouched old → Shows at.sink [] →
    start.link ≡ old.faults → start.sink ≡ at.sink.faults → Puts old bytes mid → IsHearing prior fault [] [] →
    HearsUnit (Ok (unit.Hello name)) prior fault mid at.splitting at.fault at.link
    → Greets (Ok tt) user start at
answered user bytes name start old mid prior fault at e fresh shown from from' puts nothing h =
    let u = h [] [] nothing in (
      record { fed = u.0; sent = greeting_line user; shown = []; name = name; done = [] },
      refl,
      refl,
      refl,
      record {
        link_tells =
            subst (λ (bytes : List ℕ). HasCarried at.link u.0 bytes) e
            (listens_tells [] bytes u.1
            (puts_tells [] [] puts (tells_nothing old fresh.nothing_taken fresh.nothing_put)));
        sink_tells = shown;
        hears = u.2;
        link_faults = omega (arith, from, puts.faults, u.1.faults);
        sink_faults = omega (arith, from');
      },
    )

-- no line comes first
pub no_line_first : (line : Line) (old mid : LinkView) (prior after : Splitting) (fault fault' : Option ℕ) →
    IsHearing prior fault [] [] → HearsUnit (Ok (unit.Line line)) prior fault old after fault' mid → ⊥
no_line_first line old mid prior after fault fault' nothing h =
    let u = h [] [] nothing in greeting_first u.0 line after.held u.2.at.units

-- ---- what is typed

-- a read of the keys
pub keys_tell : {old new : LinkView} {buffer : List ℕ} (typed : List ℕ) (answer : Got) → Reads old buffer answer new
    → HasCarried old typed [] → HasCarried new (typed ++ read_bytes answer buffer) []
keys_tell {old} {new} {buffer} typed answer r t = (
  told_grown typed (read_bytes answer buffer) old.taken new.taken t.0 r.taken,
  told_same [] old.put new.put t.1 r.put,
)

pub keys_tell_end : {old new : LinkView} {buffer : List ℕ} (typed : List ℕ) → Reads old buffer got.End new
    → HasCarried old typed [] → HasCarried new typed []
keys_tell_end {old} {new} {buffer} typed r t =
    subst (λ (bytes : List ℕ). HasCarried new bytes []) (append-nil typed) (keys_tell typed got.End r t)

pub keys_tell_failed : {old new : LinkView} {buffer : List ℕ} (typed : List ℕ) → Reads old buffer got.Failed new
    → HasCarried old typed [] → HasCarried new typed []
keys_tell_failed {old} {new} {buffer} typed r t =
    subst (λ (bytes : List ℕ). HasCarried new bytes []) (append-nil typed) (keys_tell typed got.Failed r t)

-- nothing more is typed
over_typed : (turn : Turn) (typed : List ℕ) (past : Past) (ending : TalkEnd) (at : World)
    → Over past (answers turn (lines_after [] (typed ++ []))) ending at
    → Over past (answers turn (key_lines typed)) ending at
over_typed turn typed past ending at o =
    subst (λ (bytes : List ℕ). Over past (answers turn (lines_after [] bytes)) ending at) (append-nil typed) o

or_true : (b : Bool) → (b || true) ≡ true
or_true true = refl
or_true false = refl

pub keys_ended : (old now : Typing) (keys prior after : LinkView) (buffer typed : List ℕ) →
    old.held ≡ [] → Types (Ok tt) typed old now → HasCarried prior typed [] → Reads prior buffer got.End after
    → Finishes end.End keys old after now.world
keys_ended old now keys prior after buffer typed none types tells r = λ start past s.
    let one = types [] (inl none) in
    let two = one.2.passes start past s in
    let lines = stands_lines two.1 in (
      typed,
      keys_tell_end typed r tells,
      r.ended ∙ or_true prior.ended,
      over_typed old.turn typed past end.End now.world
          (over_from (two.2 []) (record {
            heard = two.0.fed;
            sent = two.0.sent;
            shown = two.0.shown;
            left = lines.left;
            link_tells = two.1.link_tells;
            sink_tells = two.1.sink_tells;
            name = lines.greeted;
            lines = lines.lines;
            agrees = whole_of two.0.sent two.0.shown end.End;
          })),
    )

pub keys_failed : (old now : Typing) (keys prior after : LinkView) (buffer typed : List ℕ) →
    old.held ≡ [] → Types (Ok tt) typed old now → HasCarried prior typed [] → keys.faults ≤ prior.faults
    → Reads prior buffer got.Failed after → Finishes end.KeysFault keys old after now.world
keys_failed old now keys prior after buffer typed none types tells small r = λ start past s.
    let one = types [] (inl none) in
    let two = one.2.passes start past s in (
      typed,
      keys_tell_failed typed r tells,
      rose_after keys.faults prior.faults after.faults small r.may,
      over_typed old.turn typed past end.KeysFault now.world
          (over_from (two.2 [])
          (over_here (answers now.turn (lines_after one.0 [])) end.KeysFault two.1
          (λ c. part_of two.0.sent two.0.shown c))),
    )

caused_by : (ending : TalkEnd) (faults : ℕ) (start : Counts) (keys : LinkView) (at : World) → IsCaused ending start at
    → IsCausedBy ending faults start keys at
caused_by end.ServerEnd faults start keys at c = c
caused_by (end.Broken place) faults start keys at c = c
caused_by end.LinkFault faults start keys at c = c
caused_by end.SinkFault faults start keys at c = c
caused_by end.Memory faults start keys at c = c
caused_by end.End faults start keys at c = absurd c
caused_by end.KeysFault faults start keys at c = absurd c

pub talk_stopped : (old mid new : Typing) (ending : TalkEnd) (keys prior after : LinkView)
    (buffer typed piece : List ℕ) → old.held ≡ [] → Types (Ok tt) typed old mid → HasCarried after (typed ++ piece) [] →
    Types (Err ending) piece mid new → Finishes ending keys old after new.world
talk_stopped old mid new ending keys prior after buffer typed piece none types tells stops =
    λ start past s.
    let one = typed_stops old mid new typed piece types stops [] (inl none) in (
      typed ++ piece,
      tells,
      caused_by ending keys.faults start after new.world (one.cause start past s),
      over_typed old.turn (typed ++ piece) past ending new.world (one.over start past s []),
    )

-- ---- the whole

-- nothing was said
pub talk_unsaid : (user : List ℕ) (keys link : LinkView) (sink : SinkView) → IsUntouched keys → IsUntouched link
    → Shows sink [] → IsTalk user end.Memory keys link sink
talk_unsaid user keys link sink fresh fresh' shown = record {
  typed = [];
  heard = [];
  sent = [];
  shown = [];
  keys_tell = tells_nothing keys fresh.nothing_taken fresh.nothing_put;
  link_tells = tells_nothing link fresh'.nothing_taken fresh'.nothing_put;
  sink_tells = shown;
  agrees = let c = client user [] [] in record { part_sent = (c.sent, refl); part_shown = (c.shown, refl) };
}

pub talk_greeted : (user : List ℕ) (ending : TalkEnd) (start : Counts) (keys : LinkView) (at : World) →
    IsUntouched keys → Greets (Err ending) user start at → IsTalk user ending keys at.link at.sink
talk_greeted user ending start keys at fresh (heard, sent, tells, shows, cause, agrees) = record {
  typed = [];
  heard = heard;
  sent = sent;
  shown = [];
  keys_tell = tells_nothing keys fresh.nothing_taken fresh.nothing_put;
  link_tells = tells;
  sink_tells = shows;
  agrees = agrees [];
}

pub greeted_cause : (ending : TalkEnd) (start : Counts) (keys keys' link : LinkView) (sink : SinkView) (at : World) →
    start.link ≡ link.faults → start.sink ≡ sink.faults → IsCaused ending start at
    → HasCause ending keys keys' link at.link sink at.sink
greeted_cause end.ServerEnd start keys keys' link sink at el es c = c
greeted_cause (end.Broken place) start keys keys' link sink at el es c = c
greeted_cause end.LinkFault start keys keys' link sink at el es c =
    subst (λ (faults : ℕ). Rose faults at.link.faults) el c
greeted_cause end.SinkFault start keys keys' link sink at el es c =
    subst (λ (faults : ℕ). Rose faults at.sink.faults) es c
greeted_cause end.Memory start keys keys' link sink at el es c = c
greeted_cause end.End start keys keys' link sink at el es c = absurd c
greeted_cause end.KeysFault start keys keys' link sink at el es c = absurd c

pub finished_cause : (ending : TalkEnd) (start : Counts) (keys keys' link : LinkView) (sink : SinkView) (at : World) →
    start.link ≡ link.faults → start.sink ≡ sink.faults → IsCausedBy ending keys.faults start keys' at
    → HasCause ending keys keys' link at.link sink at.sink
finished_cause end.ServerEnd start keys keys' link sink at el es c = c
finished_cause (end.Broken place) start keys keys' link sink at el es c = c
finished_cause end.LinkFault start keys keys' link sink at el es c =
    subst (λ (faults : ℕ). Rose faults at.link.faults) el c
finished_cause end.SinkFault start keys keys' link sink at el es c =
    subst (λ (faults : ℕ). Rose faults at.sink.faults) es c
finished_cause end.Memory start keys keys' link sink at el es c = c
finished_cause end.End start keys keys' link sink at el es c = c
finished_cause end.KeysFault start keys keys' link sink at el es c = c

-- what was to come after the greeting is the course of the whole
whole_course : (user typed heard name : List ℕ) (past : Past) (left : List Line) → past.sent ≡ greeting_line user →
    past.shown ≡ [] → past.done ≡ [] → (stream_by side.Server heard).greeting ≡ Some name →
    (stream_by side.Server heard).lines ≡ past.done ++ left →
    client user typed heard
    ≡ before past.sent past.shown (answers first_turn (key_lines typed) left (stream_by side.Server heard).fault)
whole_course user typed heard name past left es eh ed greeting lines =
    let split = stream_by side.Server heard in
    let all : split.lines ≡ left = lines ∙ ap (λ (done : List Line). done ++ left) ed in
    ap (λ (greeting : Option (List ℕ)).
    before (greeting_line user) [] (after_greeting greeting typed split.lines split.fault)) greeting
    ∙ ap (λ (lines : List Line).
    before (greeting_line user) [] (answers first_turn (key_lines typed) lines split.fault)) all
    ∙ ap (λ (sent : List ℕ). before sent [] (answers first_turn (key_lines typed) left split.fault)) (sym es)
    ∙ ap (λ (shown : List ℕ). before past.sent shown (answers first_turn (key_lines typed) left split.fault)) (sym eh)

pub talk_finished : (user : List ℕ) (ending : TalkEnd) (start : Counts) (keys keys' : LinkView)
    (old : Typing) (at : World) → old.turn ≡ first_turn → Greets (Ok tt) user start old.world
    → Finishes ending keys old keys' at → IsTalk user ending keys' at.link at.sink
talk_finished user ending start keys keys' old at first (past, es, eh, ed, s) f =
    let t = f start past s in
    let o = t.3 in
    record {
      typed = t.0;
      heard = o.heard;
      sent = o.sent;
      shown = o.shown;
      keys_tell = t.1;
      link_tells = o.link_tells;
      sink_tells = o.sink_tells;
      agrees =
          subst (λ (c : Course). Agrees ending c o.sent o.shown)
          (sym (whole_course user t.0 o.heard past.name past o.left es eh ed o.name o.lines
          ∙ ap (λ (turn : Turn). before past.sent past.shown
          (answers turn (key_lines t.0) o.left (stream_by side.Server o.heard).fault)) (sym first)))
          o.agrees;
    }

pub finished_by : (user : List ℕ) (ending : TalkEnd) (start : Counts) (keys keys' : LinkView)
    (old : Typing) (at : World) → Greets (Ok tt) user start old.world → Finishes ending keys old keys' at
    → IsCausedBy ending keys.faults start keys' at
finished_by user ending start keys keys' old at (past, es, eh, ed, s) f = (f start past s).2
