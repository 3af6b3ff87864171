-- What the service of a session leaves alone.
use Rattle.std.proofs.Common.{◌≡◌, ◌≢◌, ℕ, ◌==◌, ◌&&◌, ◌||◌, Bool, true, false, not, inl, inr, List, [], ◌∷◌, ◌++◌}
use Rattle.std.proofs.Common.{Option, Result, Ok, Err, refl, sym, ◌∙◌, ap, ap₂, ne_eqb, arith}
use Rattle.std.proofs.lemmas.List.Folds.{list_any-append}
use Rattle.kom_types.specs.declared.acts.Act.TheVariants as act
use Rattle.kom_types.specs.declared.acts.Record.{Record}
use Rattle.kom_types.specs.declared.answers.Why.TheVariants as why
use Rattle.kom_types.specs.declared.answers.NotMade.{NotMade}
use Rattle.kom_types.specs.declared.answers.NotMade.TheVariants as fault
use Rattle.kom_links.specs.Outside.{LinkView}
use Rattle.kom_links.specs.Records.{is_connect, is_close, has_connect, has_close, is_open}
use Rattle.kom_links.specs.DeskCalls.{DeskView, record_of, AddsNoneOrShort, Flushes, AsksStopped}
use Rattle.kom_session.specs.Known.{Seen, sight, Puts, LeavesOthers}

-- ---- who is open

or_none : (a b : Bool) → b ≡ false → (a || ((b || false))) ≡ a
or_none true b e = refl
or_none false true e = cc
or_none false false e = refl

and_none : (a b : Bool) → b ≡ false → (a && b) ≡ false
and_none true b e = e
and_none false b e = refl

-- a record of one session opens and closes no other
pub others_open : (number : ℕ) (mine : List Record) (made : Record) → made.session ≢ number
    → is_open number (mine ++ made ∷ []) ≡ is_open number mine
others_open number mine made other =
    let none : (made.session == number) ≡ false = ne_eqb made.session number other in
    ap₂ (λ a b. a && not b)
    (list_any-append (λ made. is_connect made.entry.act && made.session == number) mine (made ∷ [])
    ∙ or_none (has_connect number mine) (is_connect made.entry.act && made.session == number)
    (and_none (is_connect made.entry.act) (made.session == number) none))
    (list_any-append (λ made. is_close made.entry.act && made.session == number) mine (made ∷ [])
    ∙ or_none (has_close number mine) (is_close made.entry.act && made.session == number)
    (and_none (is_close made.entry.act) (made.session == number) none))

-- ---- from one moment to the next

pub others_trans : {session : ℕ} {a b c : Seen} → LeavesOthers session a b
    → LeavesOthers session b c → LeavesOthers session a c
others_trans {session} {a} {b} {c} p q = record {
  pass = q.pass ∙ p.pass;
  host = q.host ∙ p.host;
  faults = omega (arith, p.faults, q.faults);
  given = λ number other. q.given number other ∙ p.given number other;
  opened = λ number some other. q.opened number some other ∙ p.opened number some other;
}

pub others_none : (session : ℕ) (now : Seen) → LeavesOthers session now now
others_none session now = record {
  pass = refl;
  host = refl;
  faults = omega arith;
  given = λ number other. refl;
  opened = λ number some other. refl;
}

pub puts_leaves : (session : ℕ) (now : Seen) (bytes : List ℕ) (link : LinkView)
    → Puts now.link bytes link → LeavesOthers session now (record now { link = link })
puts_leaves session now bytes link puts = record {
  pass = refl;
  host = puts.host;
  faults = puts.faults;
  given = λ number other. refl;
  opened = λ number some other. refl;
}

pub stop_leaves : (session : ℕ) (now : Seen) (answer : Result Bool NotMade) (desk : DeskView)
    → AsksStopped now.desk answer desk → LeavesOthers session now (record now { desk = desk })
stop_leaves session now answer desk asks = record {
  pass = asks.pass;
  host = refl;
  faults = omega arith;
  given = λ number other. asks.given number;
  opened = λ number some other. ap (is_open number) asks.mine;
}

flush_open : (old : DeskView) (moment : ℕ) (why : NotMade) (new : DeskView)
    → AddsNoneOrShort old moment why new → (number : ℕ) → number ≢ 0
    → is_open number new.mine ≡ is_open number old.mine
flush_open old moment (fault.Gone why.Stopped) new (inl same) number some = ap (is_open number) same
flush_open old moment (fault.Gone why.Stopped) new (inr short) number some =
    ap (is_open number) short
    ∙ others_open number old.mine (record_of old.pass moment act.Flush 0 true)
    (λ e. some (sym e))
flush_open old moment (fault.Gone why.Absent) new same number some = ap (is_open number) same
flush_open old moment (fault.Gone why.Dropped) new same number some = ap (is_open number) same
flush_open old moment (fault.Gone why.Overrun) new same number some = ap (is_open number) same
flush_open old moment (fault.Full count) new same number some = ap (is_open number) same
flush_open old moment fault.Memory new same number some = ap (is_open number) same

flushed_open : {X : Type 0} (old : DeskView) (moment : ℕ) (answer : Result X NotMade)
    (new : DeskView) → Flushes old moment answer new → (number : ℕ) → number ≢ 0
    → is_open number new.mine ≡ is_open number old.mine
flushed_open old moment (Ok done) new flushes number some =
    ap (is_open number) flushes.added
    ∙ others_open number old.mine (record_of old.pass moment act.Flush 0 false)
    (λ e. some (sym e))
flushed_open old moment (Err why) new flushes number some =
    flush_open old moment why new flushes.none_added number some

pub flush_leaves : {X : Type 0} (session : ℕ) (now : Seen) (moment : ℕ)
    (answer : Result X NotMade) (desk : DeskView) (gave : Option (List ℕ))
    → Flushes now.desk moment answer desk →
    LeavesOthers session now (sight desk now.link gave)
flush_leaves session now moment answer desk gave flushes = record {
  pass = flushes.pass;
  host = refl;
  faults = omega arith;
  given = λ number other. flushes.given number;
  opened = λ number some other. flushed_open now.desk moment answer desk flushes number some;
}

-- an act of the session itself, whose records are of no other
pub act_leaves : (session : ℕ) (now : Seen) (desk : DeskView) (gave : Option (List ℕ))
    → desk.pass ≡ now.desk.pass →
    ((number : ℕ) → (session ≢ 0 → number ≢ session)
    → desk.gave_to number ≡ now.desk.gave_to number) →
    ((number : ℕ) → number ≢ session → is_open number desk.mine ≡ is_open number now.desk.mine) →
    LeavesOthers session now (sight desk now.link gave)
act_leaves session now desk gave pass given opened = record {
  pass = pass;
  host = refl;
  faults = omega arith;
  given = given;
  opened = λ number some other. opened number other;
}
