use Rattle.std.proofs.Common.{◌≡◌, ◌+◌, ◌≤◌, ◌<◌, [], ◌∷◌, flat_map, refl, sym, ◌∙◌, arith}
use Rattle.std.proofs.lemmas.Result.{err_from_is_err_and}
use Rattle.kom_types.specs.declared.calls.Call.TheVariants as call
use Rattle.kom_sweep.specs.Told.{tell}
use Rattle.kom_sweep.specs.Acting.{Seen, sight}
use Rattle.kom_sweep.specs.Walks.{told_at_text}
use Rattle.kom_sweep.proofs.Going.{goes_none, goes_on}
use Rattle.kom_sweep.proofs.Stepping.{texts_step, texts_end, looked_stop}
use Rattle.kom_sweep.proofs.Walking.{breaks_on, breaks_about, none_texts, none_on, number_told}
use Rattle.kom_sweep.proofs.looking.find_due.Goals as goal

pub texts-init : goal.texts-init
texts-init g c =
    let x : Seen = sight (g.K.Desk.view c.args.desk.now) (g.C.Clock.gave c.args.clock.now) c.args.talk.now.next in
    record {
      asked = ([], refl, tt, goes_none c.args.session x, refl, λ rooms knows. c.new.ensures.items);
      counted = omega arith;
      opened = c.requires;
      on = g.met.K.Desk.goes_on_itself _;
    }

pub returns-in_err-ask-clause-err : goal.returns-in_err-ask-clause-err
returns-in_err-ask-clause-err g c =
    let x : Seen = sight (g.K.Desk.view c.args.desk.now) (g.C.Clock.gave c.args.clock.now) c.args.talk.now.next in
    let m : Seen = sight (g.K.Desk.view c.texts.desk) (g.C.Clock.gave c.texts.clock) c.texts.talk.next in
    let y : Seen = sight (g.K.Desk.view c.ask.new.desk) (g.C.Clock.gave c.ask.new.clock) c.ask.new.self.next in
    let asked = c.texts.invariant.asked in
    let p = err_from_is_err_and c.from_residual.result c.from_residual.ensures.1 in
    rw (p.1, p.2)
    (breaks_on x m y asked.3 (none_texts asked.0)
    (breaks_about (call.FindNextTextNo c.texts.at) m y refl c.in_err-ask.ensures.err))

pub returns-in_default-clause-ok : goal.returns-in_default-clause-ok
returns-in_default-clause-ok g c =
    let x : Seen = sight (g.K.Desk.view c.args.desk.now) (g.C.Clock.gave c.args.clock.now) c.args.talk.now.next in
    let m : Seen = sight (g.K.Desk.view c.texts.desk) (g.C.Clock.gave c.texts.clock) c.texts.talk.next in
    let y : Seen = sight (g.K.Desk.view c.ask.new.desk) (g.C.Clock.gave c.ask.new.clock) c.ask.new.self.next in
    texts_end c.args.session c.args.judge.now.moment c.texts.at c.texts.found.count c.in_ok-ask.field-0 x m y
    c.args.judge.now.names.now c.texts.found.due.items c.texts.invariant.asked c.in_ok-ask.ensures.ok
    (sym c.next_in-next.ensures.number ∙ c.in_default.is)

pub returns-in_err-is_due-clause-err : goal.returns-in_err-is_due-clause-err
returns-in_err-is_due-clause-err g c =
    let x : Seen = sight (g.K.Desk.view c.args.desk.now) (g.C.Clock.gave c.args.clock.now) c.args.talk.now.next in
    let m : Seen = sight (g.K.Desk.view c.texts.desk) (g.C.Clock.gave c.texts.clock) c.texts.talk.next in
    let n : Seen = sight (g.K.Desk.view c.ask.new.desk) (g.C.Clock.gave c.ask.new.clock) c.ask.new.self.next in
    let y : Seen = sight (g.K.Desk.view c.look.new.desk) (g.C.Clock.gave c.look.new.clock) c.look.new.talk.next in
    let asked = c.texts.invariant.asked in
    let p = err_from_is_err_and c.from_residual-in_err-is_due.result c.from_residual-in_err-is_due.ensures.1 in
    rw (p.1, p.2)
    (breaks_on x n y (goes_on x m n asked.3 c.in_ok-ask.ensures.ok)
    (none_on (flat_map told_at_text asked.0) (tell (call.FindNextTextNo c.texts.at) c.in_ok-ask.field-0 ∷ [])
    (none_texts asked.0) refl) c.in_err-is_due.ensures.err)

pub returns-in_err-note-clause-err : goal.returns-in_err-note-clause-err
returns-in_err-note-clause-err g c =
    let x : Seen = sight (g.K.Desk.view c.args.desk.now) (g.C.Clock.gave c.args.clock.now) c.args.talk.now.next in
    let m : Seen = sight (g.K.Desk.view c.texts.desk) (g.C.Clock.gave c.texts.clock) c.texts.talk.next in
    let n : Seen = sight (g.K.Desk.view c.ask.new.desk) (g.C.Clock.gave c.ask.new.clock) c.ask.new.self.next in
    let y : Seen = sight (g.K.Desk.view c.look.new.desk) (g.C.Clock.gave c.look.new.clock) c.look.new.talk.next in
    let p = err_from_is_err_and c.from_residual-in_err-note.result c.from_residual-in_err-note.ensures.1 in
    rw (p.1, p.2)
    (looked_stop c.args.session c.args.judge.now.moment c.texts.at c.in-Some.text c.texts.found.count
    c.in_ok-ask.field-0
    x m n y c.args.judge.now.names.now c.texts.found.due.items c.in_ok-is_due.is_due c.texts.invariant.asked
    c.in_ok-ask.ensures.ok c.in_ok-is_due.ensures.ok)

pub texts-preserved : goal.texts-preserved
texts-preserved g c =
    let x : Seen = sight (g.K.Desk.view c.args.desk.now) (g.C.Clock.gave c.args.clock.now) c.args.talk.now.next in
    let m : Seen = sight (g.K.Desk.view c.texts.desk) (g.C.Clock.gave c.texts.clock) c.texts.talk.next in
    let n : Seen = sight (g.K.Desk.view c.ask.new.desk) (g.C.Clock.gave c.ask.new.clock) c.ask.new.self.next in
    let y : Seen = sight (g.K.Desk.view c.look.new.desk) (g.C.Clock.gave c.look.new.clock) c.look.new.talk.next in
    let above = sym c.next_in-next.ensures.number ∙ c.in-Some.is in
    let number_is = number_told c.texts.at c.in_ok-ask.field-0 c.in-Some.text above in
    let more : c.texts.at < c.in-Some.text = number_is.1 in
    let counted : c.texts.found.count ≤ c.texts.at = c.texts.invariant.counted in
    let one : c.note.new.self.count ≡ c.texts.found.count + 1 = c.in_ok-note.ensures.count in
    record {
      asked = texts_step c.args.session c.args.judge.now.moment c.texts.at c.in-Some.text c.texts.found.count
          c.note.new.self.count c.in_ok-ask.field-0 x m n y c.args.judge.now.names.now c.texts.found.due.items
          c.note.new.self.due.items c.in_ok-is_due.is_due c.texts.invariant.asked c.in_ok-ask.ensures.ok above
          c.in_ok-is_due.ensures.ok c.in_ok-note.ensures.due one;
      counted = omega (arith, more, counted, one);
      opened = c.look.ensures.open;
      on = g.met.K.Desk.goes_on_further _ _ _ (g.met.K.Desk.goes_on_further _ _ _ c.texts.invariant.on c.ask.ensures.on)
          c.look.ensures.on;
    }

-- ---- the session stays open, and the desk is the same

pub returns-in_err-ask-clause-ok : goal.returns-in_err-ask-clause-ok
returns-in_err-ask-clause-ok g c =
    let p = err_from_is_err_and c.from_residual.result c.from_residual.ensures.1 in rw (p.1) tt

pub returns-in_err-ask-clause-open : goal.returns-in_err-ask-clause-open
returns-in_err-ask-clause-open g c = c.ask.ensures.open

pub returns-in_err-ask-clause-on : goal.returns-in_err-ask-clause-on
returns-in_err-ask-clause-on g c = g.met.K.Desk.goes_on_further _ _ _ c.texts.invariant.on c.ask.ensures.on

pub returns-in_default-clause-err : goal.returns-in_default-clause-err
returns-in_default-clause-err g c = tt

pub returns-in_default-clause-open : goal.returns-in_default-clause-open
returns-in_default-clause-open g c = c.ask.ensures.open

pub returns-in_default-clause-on : goal.returns-in_default-clause-on
returns-in_default-clause-on g c = g.met.K.Desk.goes_on_further _ _ _ c.texts.invariant.on c.ask.ensures.on

pub returns-in_err-is_due-clause-ok : goal.returns-in_err-is_due-clause-ok
returns-in_err-is_due-clause-ok g c =
    let p = err_from_is_err_and c.from_residual-in_err-is_due.result c.from_residual-in_err-is_due.ensures.1 in
    rw (p.1) tt

pub returns-in_err-is_due-clause-open : goal.returns-in_err-is_due-clause-open
returns-in_err-is_due-clause-open g c = c.look.ensures.open

pub returns-in_err-is_due-clause-on : goal.returns-in_err-is_due-clause-on
returns-in_err-is_due-clause-on g c =
    g.met.K.Desk.goes_on_further _ _ _ (g.met.K.Desk.goes_on_further _ _ _ c.texts.invariant.on c.ask.ensures.on)
    c.look.ensures.on

pub returns-in_err-note-clause-ok : goal.returns-in_err-note-clause-ok
returns-in_err-note-clause-ok g c =
    let p = err_from_is_err_and c.from_residual-in_err-note.result c.from_residual-in_err-note.ensures.1 in rw (p.1) tt

pub returns-in_err-note-clause-open : goal.returns-in_err-note-clause-open
returns-in_err-note-clause-open g c = c.look.ensures.open

pub returns-in_err-note-clause-on : goal.returns-in_err-note-clause-on
returns-in_err-note-clause-on g c =
    g.met.K.Desk.goes_on_further _ _ _ (g.met.K.Desk.goes_on_further _ _ _ c.texts.invariant.on c.ask.ensures.on)
    c.look.ensures.on
