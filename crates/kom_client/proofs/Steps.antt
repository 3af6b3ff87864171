-- How the steps of a talk follow one another.
use Rattle.std.proofs.Common.{◌≡◌, ℕ, ◌≤◌, List, [], ◌∷◌, ◌++◌, take, drop, map, Option, Some, None, Result, Ok, Err}
use Rattle.std.proofs.Common.{refl, sym, ap, subst, ◌∙◌, arith, append_assoc, append-nil, true, false, Bool}
use Rattle.std.specs.Prelude.{IfSome, option_map}
use Rattle.std.proofs.lemmas.List.{take-append-drop, map-append}
use Rattle.kom_types.specs.declared.side.Side.TheVariants as side
use Rattle.kom_types.specs.Reading.{place_of}
use Rattle.kom_types.specs.Stream.{Line, Fault, stream_by}
use Rattle.kom_framing.specs.declared.units.Unit.{Unit as StreamUnit}
use Rattle.kom_framing.specs.declared.units.Unit.TheVariants as unit
use Rattle.kom_links.specs.Doors.{SinkView, Puts as SinkPuts}
use Rattle.kom_links.specs.Outside.{LinkView, Rose}
use Rattle.kom_client.specs.declared.talk_end.TalkEnd.{TalkEnd}
use Rattle.kom_client.specs.declared.talk_end.TalkEnd.TheVariants as end
use Rattle.kom_client.specs.Client.{Course, Awaited, Agrees, IsPart, IsWhole, ends, before, await}
use Rattle.kom_client.specs.Client.{end_without_line}
use Rattle.kom_client.specs.Talking.{World, Counts, Past, Stands, Rest, Leads, Over, Passes, Stops}
use Rattle.kom_client.specs.Talking.{say, await_reply, with_line, HearsUnit, HearsNone, HearsLine}
use Rattle.kom_client.specs.Talking.{Spells, TakesReply, Puts, IsHearing}
use Rattle.kom_client.proofs.Links.{told_grown, rose_after, listens_tells, puts_tells}
use Rattle.kom_client.proofs.Streams.{HasLines, has_lines, no_second}

-- ---- courses

pub before_before : (sent shown sent' shown' : List ℕ) (c : Course)
    → before sent shown (before sent' shown' c) ≡ before (sent ++ sent') (shown ++ shown') c
before_before sent shown sent' shown' c =
    ap (λ (bytes : List ℕ).
    let one : Course = record { sent = bytes; shown = shown ++ (shown' ++ c.shown); end = c.end } in one)
    (sym (append_assoc sent sent' c.sent))
    ∙ ap (λ (bytes : List ℕ).
    let one : Course = record { sent = (sent ++ sent') ++ c.sent; shown = bytes; end = c.end } in one)
    (sym (append_assoc shown shown' c.shown))

-- ---- what leads to what

pub leads_none : (past : Past) (rest : Rest) → Leads past rest past rest
leads_none past rest = record {
  name = refl;
  more = [];
  done = sym (append-nil past.done);
  course = λ left fault. refl;
}

pub leads_trans : {a b c : Past} {r s t : Rest} → Leads a r b s → Leads b s c t → Leads a r c t
leads_trans {a} {b} {c} {r} {s} {t} p q = record {
  name = q.name ∙ p.name;
  more = p.more ++ q.more;
  done = q.done ∙ ap (λ (done : List Line). done ++ q.more) p.done ∙ append_assoc a.done p.more q.more;
  course = λ left fault.
      ap (λ (lines : List Line). before a.sent a.shown (r lines fault)) (append_assoc p.more q.more left)
      ∙ p.course (q.more ++ left) fault ∙ q.course left fault;
}

pub over_from : {a b : Past} {r s : Rest} {ending : TalkEnd} {at : World} → Leads a r b s → Over b s ending at
    → Over a r ending at
over_from {a} {b} {r} {s} {ending} {at} l o = record {
  heard = o.heard;
  sent = o.sent;
  shown = o.shown;
  left = l.more ++ o.left;
  link_tells = o.link_tells;
  sink_tells = o.sink_tells;
  name = o.name ∙ ap Some l.name;
  lines = o.lines ∙ ap (λ (done : List Line). done ++ o.left) l.done ∙ append_assoc a.done l.more o.left;
  agrees =
      subst (λ (c : Course). Agrees ending c o.sent o.shown)
      (sym (l.course o.left (stream_by side.Server o.heard).fault)) o.agrees;
}

-- ---- steps

pub passes_none : {X : Type 0} (rest : X → Rest) (at : World) → Passes rest rest at at
passes_none rest at = record { passes = λ start past s. (past, s, λ x. leads_none past (rest x)) }

pub passes_trans : {X : Type 0} {a b c : X → Rest} {u v w : World} → Passes a b u v → Passes b c v w
    → Passes a c u w
passes_trans {X} {a} {b} {c} {u} {v} {w} p q = record {
  passes = λ start past s.
      let one = p.passes start past s in
      let two = q.passes start one.0 one.1 in
      (two.0, two.1, λ x. leads_trans (one.2 x) (two.2 x));
}

pub passes_stops : {X : Type 0} {a b : X → Rest} {ending : TalkEnd} {u v w : World} → Passes a b u v
    → Stops b ending v w → Stops a ending u w
passes_stops {X} {a} {b} {ending} {u} {v} {w} p q = record {
  cause = λ start past s. let one = p.passes start past s in q.cause start one.0 one.1;
  over = λ start past s x.
      let one = p.passes start past s in over_from (one.2 x) (q.over start one.0 one.1 x);
}

-- of what comes by another name
pub passes_at : {X Y : Type 0} {a b : X → Rest} {u v : World} (f : Y → X) → Passes a b u v
    → Passes (λ y. a (f y)) (λ y. b (f y)) u v
passes_at f p = record {
  passes = λ start past s. let one = p.passes start past s in (one.0, one.1, λ y. one.2 (f y));
}

pub stops_at : {X Y : Type 0} {a : X → Rest} {ending : TalkEnd} {u v : World} (f : Y → X) → Stops a ending u v
    → Stops (λ y. a (f y)) ending u v
stops_at f p = record { cause = p.cause; over = λ start past s y. p.over start past s (f y) }

-- what is to come is the same
pub leads_same : {past : Past} {r s : Rest} → ((left : List Line) (fault : Option Fault) → r left fault ≡ s left fault)
    → Leads past r past s
leads_same {past} {r} {s} same = record {
  name = refl;
  more = [];
  done = sym (append-nil past.done);
  course = λ left fault. ap (λ (c : Course). before past.sent past.shown c) (same left fault);
}

pub passes_same : {X : Type 0} {a b : X → Rest} (at : World)
    → ((x : X) (left : List Line) (fault : Option Fault) → a x left fault ≡ b x left fault) → Passes a b at at
passes_same at same = record { passes = λ start past s. (past, s, λ x. leads_same (same x)) }

-- ---- where the talk is over

pub stands_lines : {start : Counts} {past : Past} {at : World} → Stands start past at
    → HasLines (stream_by side.Server past.fed) past.name past.done at.splitting.held
stands_lines {start} {past} {at} s =
    has_lines (stream_by side.Server past.fed) past.name past.done at.splitting.held s.hears.at.units

pub part_of : (sent shown : List ℕ) (c : Course) → IsPart (before sent shown c) sent shown
part_of sent shown c = record { part_sent = (c.sent, refl); part_shown = (c.shown, refl) }

-- something failed, and nothing more came to pass
pub over_here : {start : Counts} {past : Past} {at : World} (rest : Rest) (ending : TalkEnd) → Stands start past at
    → ((c : Course) → Agrees ending (before past.sent past.shown c) past.sent past.shown) → Over past rest ending at
over_here {start} {past} {at} rest ending s agrees =
    let lines = stands_lines s in
    record {
      heard = past.fed;
      sent = past.sent;
      shown = past.shown;
      left = lines.left;
      link_tells = s.link_tells;
      sink_tells = s.sink_tells;
      name = lines.greeted;
      lines = lines.lines;
      agrees = agrees (rest lines.left (stream_by side.Server past.fed).fault);
    }

pub memory_stops : {X : Type 0} (rest : X → Rest) (at : World) → Stops rest end.Memory at at
memory_stops rest at = record {
  cause = λ start past s. tt;
  over = λ start past s x. over_here (rest x) end.Memory s (λ c. part_of past.sent past.shown c);
}

pub whole_of : (sent shown : List ℕ) (ending : TalkEnd) → IsWhole ending (before sent shown (ends ending)) sent shown
whole_of sent shown ending =
    record { all_sent = sym (append-nil sent); all_shown = sym (append-nil shown); ends_so = refl }

-- ---- bytes are sent

pub sent_passes : {old new : LinkView} {bytes : List ℕ} (at : World) → at.link ≡ old → Puts old bytes new
    → Passes (say bytes []) (λ (next : Rest). next) at (record at { link = new })
sent_passes {old} {new} {bytes} at e p = record {
  passes = λ start past s.
      let p' : Puts at.link bytes new = subst (λ (link : LinkView). Puts link bytes new) (sym e) p in (
        record past { sent = past.sent ++ bytes },
        record {
          link_tells = puts_tells past.fed past.sent p' s.link_tells;
          sink_tells = s.sink_tells;
          hears = s.hears;
          link_faults = omega (arith, s.link_faults, p'.faults);
          sink_faults = s.sink_faults;
        },
        λ next. record {
          name = refl;
          more = [];
          done = sym (append-nil past.done);
          course = λ left fault.
              before_before past.sent past.shown bytes [] (next left fault)
              ∙ ap (λ (shown : List ℕ). before (past.sent ++ bytes) shown (next left fault)) (append-nil past.shown);
        },
      );
}

pub unsent_stops : {new : LinkView} {bytes part : List ℕ} (more : List ℕ) (at : World) → part ++ more ≡ bytes
    → Rose at.link.faults new.faults → Puts at.link part new
    → Stops (say bytes []) end.LinkFault at (record at { link = new })
unsent_stops {new} {bytes} {part} more at e rose p = record {
  cause = λ start past s. rose_after start.link at.link.faults new.faults s.link_faults rose;
  over = λ start past s next.
      let lines = stands_lines s in
      let c = next lines.left (stream_by side.Server past.fed).fault in
      record {
        heard = past.fed;
        sent = past.sent ++ part;
        shown = past.shown;
        left = lines.left;
        link_tells = puts_tells past.fed past.sent p s.link_tells;
        sink_tells = s.sink_tells;
        name = lines.greeted;
        lines = lines.lines;
        agrees = record {
          part_sent = (
            more ++ c.sent,
            append_assoc past.sent part (more ++ c.sent)
                ∙ ap (λ (bytes : List ℕ). past.sent ++ bytes) (sym (append_assoc part more c.sent))
                ∙ ap (λ (bytes : List ℕ). past.sent ++ (bytes ++ c.sent)) e,
          );
          part_shown = (c.shown, refl);
        };
      };
}

-- ---- bytes are shown

pub shown_passes : {X E : Type 0} {new : SinkView} {bytes : List ℕ} {x : X} (at : World)
    → SinkPuts {X = X} {E = E} at.sink bytes (Ok x) new
    → Passes (say [] bytes) (λ (next : Rest). next) at (record at { sink = new })
shown_passes {X} {E} {new} {bytes} {x} at p = record {
  passes = λ start past s. (
    record past { shown = past.shown ++ bytes },
    record {
      link_tells = s.link_tells;
      sink_tells = told_grown past.shown bytes at.sink.put new.put s.sink_tells p.all;
      hears = s.hears;
      link_faults = s.link_faults;
      sink_faults = omega (arith, s.sink_faults, p.faults);
    },
    λ next. record {
      name = refl;
      more = [];
      done = sym (append-nil past.done);
      course = λ left fault.
          before_before past.sent past.shown [] bytes (next left fault)
          ∙ ap (λ (sent : List ℕ). before sent (past.shown ++ bytes) (next left fault)) (append-nil past.sent);
    },
  );
}

pub unshown_stops : {X E : Type 0} {new : SinkView} {bytes : List ℕ} {x : E} (at : World)
    → SinkPuts {X = X} {E = E} at.sink bytes (Err x) new
    → Stops (say [] bytes) end.SinkFault at (record at { sink = new })
unshown_stops {X} {E} {new} {bytes} {x} at p = record {
  cause = λ start past s. rose_after start.sink at.sink.faults new.faults s.sink_faults p.failed;
  over = λ start past s next.
      let lines = stands_lines s in
      let c = next lines.left (stream_by side.Server past.fed).fault in
      let part = take p.some.0 bytes in
      let more = drop p.some.0 bytes in
      record {
        heard = past.fed;
        sent = past.sent;
        shown = past.shown ++ part;
        left = lines.left;
        link_tells = s.link_tells;
        sink_tells = told_grown past.shown part at.sink.put new.put s.sink_tells p.some.2;
        name = lines.greeted;
        lines = lines.lines;
        agrees = record {
          part_sent = (c.sent, refl);
          part_shown = (
            more ++ c.shown,
            append_assoc past.shown part (more ++ c.shown)
                ∙ ap (λ (bytes : List ℕ). past.shown ++ bytes) (sym (append_assoc part more c.shown))
                ∙ ap (λ (bytes : List ℕ). past.shown ++ (bytes ++ c.shown)) (take-append-drop p.some.0 bytes),
          );
        };
      };
}

-- ---- a line is heard

pub line_passes : (old new : World) (line : Line) → HearsUnit (Ok (unit.Line line)) old.splitting old.fault old.link
    new.splitting new.fault new.link → old.sink ≡ new.sink → Passes (λ (rest : Rest). rest) (with_line line) old new
line_passes old new line h same = record {
  passes = λ start past s.
      let u = h past.fed (unit.Hello past.name ∷ map unit.Line past.done) s.hears in (
        record past { fed = past.fed ++ u.0; done = past.done ++ line ∷ [] },
        record {
          link_tells = listens_tells past.fed past.sent u.1 s.link_tells;
          sink_tells =
              subst (λ (sink : SinkView). IfSome sink.put (λ bytes. bytes ≡ past.shown)) same s.sink_tells;
          hears =
              subst (λ (units : List StreamUnit).
              IsHearing new.splitting new.fault (past.fed ++ u.0) (unit.Hello past.name ∷ units))
              (sym (map-append unit.Line past.done (line ∷ []))) u.2;
          link_faults = omega (arith, s.link_faults, u.1.faults);
          sink_faults = subst (λ (sink : SinkView). start.sink ≤ sink.faults) same s.sink_faults;
        },
        λ rest. record {
          name = refl;
          more = line ∷ [];
          done = refl;
          course = λ left fault. refl;
        },
      );
}

-- no line is left
no_line : (left : List Line) → [] ≡ map unit.Line left → left ≡ []
no_line [] e = refl
no_line (line ∷ left) e = absurd cc

heard_over : {start : Counts} {past : Past} {old new : World} (rest : Rest) (ending : TalkEnd) → Stands start past old
    → (n : HearsNone ending past.fed (unit.Hello past.name ∷ map unit.Line past.done) old.link new.link)
    → old.sink ≡ new.sink →
    ((left : List Line) → n.more ≡ map unit.Line left
    → Agrees ending
    (before past.sent past.shown (rest left (stream_by side.Server (past.fed ++ n.piece)).fault)) past.sent
    past.shown) →
    Over past rest ending new
heard_over {start} {past} {old} {new} rest ending s n same agrees =
    let lines = has_lines (stream_by side.Server (past.fed ++ n.piece)) past.name past.done n.more n.units in
    record {
      heard = past.fed ++ n.piece;
      sent = past.sent;
      shown = past.shown;
      left = lines.left;
      link_tells = listens_tells past.fed past.sent n.listens s.link_tells;
      sink_tells =
          subst (λ (sink : SinkView). IfSome sink.put (λ bytes. bytes ≡ past.shown)) same s.sink_tells;
      name = lines.greeted;
      lines = lines.lines;
      agrees = agrees lines.left lines.units;
    }

-- no line will come while a reply is awaited
whole_line : (sent shown : List ℕ) (reference : ℕ) (next : Rest) (left : List Line) (fault : Option Fault)
    (ending : TalkEnd) → left ≡ [] → end_without_line fault ≡ ending →
    IsWhole ending (before sent shown (await_reply reference next left fault)) sent shown
whole_line sent shown reference next left fault ending e why =
    subst (λ (left : List Line). IsWhole ending (before sent shown (await_reply reference next left fault)) sent shown)
    (sym e) (record { all_sent = sym (append-nil sent); all_shown = sym (append-nil shown); ends_so = why })

pub no_fault_ends : (fault : Option Fault) → fault ≡ None → end_without_line fault ≡ end.ServerEnd
no_fault_ends fault e = ap end_without_line e

pub fault_ends : (fault : Option Fault) (place : ℕ) → option_map place_of fault ≡ Some place
    → end_without_line fault ≡ end.Broken place
fault_ends None place e = absurd cc
fault_ends (Some fault) place e = let same : place_of fault ≡ place = cc in ap end.Broken same

pub line_stops : (old new : World) (ending : TalkEnd) → HearsUnit (Err ending) old.splitting old.fault old.link
    new.splitting new.fault new.link → old.sink ≡ new.sink → (reference : ℕ) →
    Stops (await_reply reference) ending old new
line_stops old new end.ServerEnd h same reference = record {
  cause = λ start past s. (h past.fed (unit.Hello past.name ∷ map unit.Line past.done) s.hears).why.2;
  over = λ start past s next.
      let n = h past.fed (unit.Hello past.name ∷ map unit.Line past.done) s.hears in
      heard_over (await_reply reference next) end.ServerEnd s n same
      (λ left e. whole_line past.sent past.shown reference next left _ end.ServerEnd (no_line left (sym n.why.0 ∙ e))
      (no_fault_ends _ n.why.1));
}
line_stops old new (end.Broken place) h same reference = record {
  cause = λ start past s. tt;
  over = λ start past s next.
      let n = h past.fed (unit.Hello past.name ∷ map unit.Line past.done) s.hears in
      heard_over (await_reply reference next) (end.Broken place) s n same
      (λ left e. whole_line past.sent past.shown reference next left _ (end.Broken place)
      (no_line left (sym n.why.0 ∙ e)) (fault_ends _ place n.why.1));
}
line_stops old new end.LinkFault h same reference = record {
  cause = λ start past s.
      let n = h past.fed (unit.Hello past.name ∷ map unit.Line past.done) s.hears in
      rose_after start.link old.link.faults new.link.faults s.link_faults n.why;
  over = λ start past s next.
      heard_over (await_reply reference next) end.LinkFault s
      (h past.fed (unit.Hello past.name ∷ map unit.Line past.done) s.hears) same
      (λ left e. part_of past.sent past.shown _);
}
line_stops old new end.Memory h same reference = record {
  cause = λ start past s. tt;
  over = λ start past s next.
      heard_over (await_reply reference next) end.Memory s
      (h past.fed (unit.Hello past.name ∷ map unit.Line past.done) s.hears) same
      (λ left e. part_of past.sent past.shown _);
}
line_stops old new end.End h same reference = record {
  cause = λ start past s. absurd (h past.fed (unit.Hello past.name ∷ map unit.Line past.done) s.hears).why;
  over = λ start past s next. absurd (h past.fed (unit.Hello past.name ∷ map unit.Line past.done) s.hears).why;
}
line_stops old new end.KeysFault h same reference = record {
  cause = λ start past s. absurd (h past.fed (unit.Hello past.name ∷ map unit.Line past.done) s.hears).why;
  over = λ start past s next. absurd (h past.fed (unit.Hello past.name ∷ map unit.Line past.done) s.hears).why;
}
line_stops old new end.SinkFault h same reference = record {
  cause = λ start past s. absurd (h past.fed (unit.Hello past.name ∷ map unit.Line past.done) s.hears).why;
  over = λ start past s next. absurd (h past.fed (unit.Hello past.name ∷ map unit.Line past.done) s.hears).why;
}

-- no second greeting comes
pub no_hello : (old new : World) (name : List ℕ) → HearsUnit (Ok (unit.Hello name)) old.splitting old.fault old.link
    new.splitting new.fault new.link → (start : Counts) (past : Past) → Stands start past old → ⊥
no_hello old new name h start past s =
    let u = h past.fed (unit.Hello past.name ∷ map unit.Line past.done) s.hears in
    no_second name new.splitting.held
    (has_lines (stream_by side.Server (past.fed ++ u.0)) past.name past.done (unit.Hello name ∷ new.splitting.held)
    (u.2.at.units
    ∙ append_assoc (unit.Hello past.name ∷ map unit.Line past.done) (unit.Hello name ∷ []) new.splitting.held))

pub hello_stops : {X : Type 0} (old new : World) (rest : X → Rest) (ending : TalkEnd) (name : List ℕ) →
    HearsUnit (Ok (unit.Hello name)) old.splitting old.fault old.link new.splitting new.fault new.link
    → Stops rest ending old new
hello_stops {X} old new rest ending name h = record {
  cause = λ start past s. absurd (no_hello old new name h start past s);
  over = λ start past s x. absurd (no_hello old new name h start past s);
}

-- ---- a line is taken while a reply is awaited

-- what is to come with a reply or a message that was spelled
pub reply_same : (reference : ℕ) (line : Line) (shown : List ℕ) → Spells (Ok true) reference line shown
    → (next : Rest) (left : List Line) (fault : Option Fault)
    → with_line line (await_reply reference next) left fault ≡ say [] shown next left fault
reply_same reference line shown spells next left fault =
    ap (λ (a : Awaited). before [] a.shown (elim a.end [ None ↦ next a.left fault | Some ending ↦ ends ending ]))
    (spells left fault)

pub message_same : (reference : ℕ) (line : Line) (shown : List ℕ) → Spells (Ok false) reference line shown
    → (next : Rest) (left : List Line) (fault : Option Fault)
    → with_line line (await_reply reference next) left fault ≡ say [] shown (await_reply reference next) left fault
message_same reference line shown spells next left fault =
    ap (λ (a : Awaited). before [] a.shown (elim a.end [ None ↦ next a.left fault | Some ending ↦ ends ending ]))
    (spells left fault)
    ∙ sym (before_before [] shown [] (await reference left fault).shown _)

departed : (reference : ℕ) (line : Line) (shown : List ℕ) (place : ℕ)
    → Spells (Err (end.Broken place)) reference line shown → (next : Rest) (left : List Line) (fault : Option Fault)
    → with_line line (await_reply reference next) left fault ≡ ends (end.Broken place)
departed reference line shown place spells next left fault =
    ap (λ (a : Awaited). before [] a.shown (elim a.end [ None ↦ next a.left fault | Some ending ↦ ends ending ]))
    (spells left fault)

pub unspelled_stops : (ending : TalkEnd) (reference : ℕ) (line : Line) (shown : List ℕ) (at : World)
    → Spells (Err ending) reference line shown
    → Stops (λ (next : Rest). with_line line (await_reply reference next)) ending at at
unspelled_stops end.Memory reference line shown at spells =
    memory_stops (λ (next : Rest). with_line line (await_reply reference next)) at
unspelled_stops (end.Broken place) reference line shown at spells = record {
  cause = λ start past s. tt;
  over = λ start past s next.
      let lines = stands_lines s in
      let fault = (stream_by side.Server past.fed).fault in
      record {
        heard = past.fed;
        sent = past.sent;
        shown = past.shown;
        left = lines.left;
        link_tells = s.link_tells;
        sink_tells = s.sink_tells;
        name = lines.greeted;
        lines = lines.lines;
        agrees =
            subst (λ (c : Course). IsWhole (end.Broken place) (before past.sent past.shown c) past.sent past.shown)
            (sym (departed reference line shown place spells next lines.left fault))
            (whole_of past.sent past.shown (end.Broken place));
      };
}
unspelled_stops end.End reference line shown at spells = absurd spells
unspelled_stops end.ServerEnd reference line shown at spells = absurd spells
unspelled_stops end.KeysFault reference line shown at spells = absurd spells
unspelled_stops end.LinkFault reference line shown at spells = absurd spells
unspelled_stops end.SinkFault reference line shown at spells = absurd spells

-- what was spelled is shown, or not
pub reply_shown : (is_reply : Bool) (reference : ℕ) (line : Line) (shown : List ℕ) (old new : World)
    → Spells (Ok is_reply) reference line shown → Passes (say [] shown) (λ (next : Rest). next) old new
    → TakesReply (Ok is_reply) reference line old new
reply_shown true reference line shown old new spells p =
    passes_trans (passes_same old (reply_same reference line shown spells)) p
reply_shown false reference line shown old new spells p =
    passes_trans (passes_same old (message_same reference line shown spells)) (passes_at (await_reply reference) p)

pub reply_unshown : (is_reply : Bool) (reference : ℕ) (line : Line) (shown : List ℕ) (ending : TalkEnd)
    (old new : World)
    → Spells (Ok is_reply) reference line shown → Stops (say [] shown) ending old new
    → TakesReply (Err ending) reference line old new
reply_unshown true reference line shown ending old new spells p =
    passes_stops (passes_same old (reply_same reference line shown spells)) p
reply_unshown false reference line shown ending old new spells p =
    passes_stops (passes_same old (message_same reference line shown spells)) (stops_at (await_reply reference) p)

-- ---- a reply is awaited, line after line

-- the same reply
taken_at : (reference reference' : ℕ) (done : Result Bool TalkEnd) (line : Line) (old new : World)
    → reference' ≡ reference → TakesReply done reference' line old new → TakesReply done reference line old new
taken_at reference reference' done line old new same t =
    subst (λ (reference : ℕ). TakesReply done reference line old new) same t

line_taken : {u v w : World} (reference : ℕ) (line : Line) → Passes (await_reply reference) (await_reply reference) u v
    → HearsLine (Ok line) v w
    → Passes (await_reply reference) (λ (next : Rest). with_line line (await_reply reference next)) u w
line_taken reference line p h = passes_trans p (passes_at (await_reply reference) h)

pub line_unheard : {u v w : World} (reference : ℕ) (ending : TalkEnd)
    → Passes (await_reply reference) (await_reply reference) u v → HearsLine (Err ending) v w
    → Stops (await_reply reference) ending u w
line_unheard reference ending p h = passes_stops p (h reference)

pub reply_stops : {u v w x : World} (reference reference' : ℕ) (line : Line) (ending : TalkEnd) → reference' ≡ reference
    → Passes (await_reply reference) (await_reply reference) u v → HearsLine (Ok line) v w
    → TakesReply (Err ending) reference' line w x → Stops (await_reply reference) ending u x
reply_stops {u} {v} {w} {x} reference reference' line ending same p h t =
    passes_stops (line_taken reference line p h) (taken_at reference reference' (Err ending) line w x same t)

pub reply_comes : {u v w x : World} (reference reference' : ℕ) (line : Line) (is_reply : Bool)
    → reference' ≡ reference → is_reply ≡ true → Passes (await_reply reference) (await_reply reference) u v
    → HearsLine (Ok line) v w
    → TakesReply (Ok is_reply) reference' line w x → Passes (await_reply reference) (λ (next : Rest). next) u x
reply_comes {u} {v} {w} {x} reference reference' line is_reply same holds p h t =
    passes_trans (line_taken reference line p h)
    (subst (λ (b : Bool). TakesReply (Ok b) reference line w x) holds
    (taken_at reference reference' (Ok is_reply) line w x same t))

pub message_comes : {u v w x : World} (reference reference' : ℕ) (line : Line) (is_reply : Bool)
    → reference' ≡ reference → is_reply ≡ false → Passes (await_reply reference) (await_reply reference) u v
    → HearsLine (Ok line) v w
    → TakesReply (Ok is_reply) reference' line w x → Passes (await_reply reference) (await_reply reference) u x
message_comes {u} {v} {w} {x} reference reference' line is_reply same fails p h t =
    passes_trans (line_taken reference line p h)
    (subst (λ (b : Bool). TakesReply (Ok b) reference line w x) fails
    (taken_at reference reference' (Ok is_reply) line w x same t))
