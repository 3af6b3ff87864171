-- A session that is open stays open while a desk makes acts that do not close it.
use Rattle.std.proofs.Common.{◌≡◌, ◌≢◌, inl, inr, ℕ, true, false, List, [], ◌∷◌, ◌++◌, Result, Ok, Err, sym, ap, subst}
use Rattle.std.proofs.Common.{◌∙◌}
use Rattle.kom_types.specs.declared.acts.Act.{Act}
use Rattle.kom_types.specs.declared.acts.Act.TheVariants as act
use Rattle.kom_types.specs.declared.acts.Record.{Record}
use Rattle.kom_types.specs.declared.answers.Why.TheVariants as why
use Rattle.kom_types.specs.declared.items.Item.{Item}
use Rattle.kom_types.specs.declared.answers.NotMade.{NotMade}
use Rattle.kom_types.specs.declared.answers.NotMade.TheVariants as fault
use Rattle.kom_links.specs.DeskCalls.{DeskView, Connects, Acts, Calls, Drains, Flushes, AddsNoneOrShort, record_of}
use Rattle.kom_links.specs.Records.{IsOpen, is_open, has_session}
use Rattle.memory_links.specs.Standing.{IsBetween}
use Rattle.memory_links.proofs.Opening.{open_between, open_other, open_connected, absent_open}

-- the records stay, or one more is added that neither connects nor closes a session
kept_same : (old new : List Record) (n : ℕ) → new ≡ old → IsOpen n old → IsOpen n new
kept_same old new n same here = ap (is_open n) same ∙ here

kept_more : (old new : List Record) (made : Record) (n : ℕ) → IsBetween made.entry.act → new ≡ old ++ made ∷ [] →
    IsOpen n old → IsOpen n new
kept_more old new made n between added here = ap (is_open n) added ∙ open_between n old made between ∙ here

pub kept_acts : {X : Type 0} {old new : DeskView} {moment : ℕ} {what : Act} {session : ℕ}
    (answer : Result X NotMade) →
    Acts old moment what session answer new → IsBetween what → (n : ℕ) → IsOpen n old.mine → IsOpen n new.mine
kept_acts {old = old} {new = new} {moment = moment} {what = what} {session = session} (Ok value) acts between n here =
    kept_more old.mine new.mine (record_of old.pass moment what session false) n between acts.added here
kept_acts {old = old} {new = new} (Err fault) acts between n here =
    kept_same old.mine new.mine n acts.rest.none_added here

pub kept_calls : {X : Type 0} {old new : DeskView} {moment : ℕ} {what : Act} {session : ℕ}
    (answer : Result X NotMade) →
    Calls old moment what session answer new → IsBetween what → (n : ℕ) → IsOpen n old.mine → IsOpen n new.mine
kept_calls {old = old} {new = new} {moment = moment} {what = what} {session = session} (Ok value) calls between n here =
    kept_more old.mine new.mine (record_of old.pass moment what session calls.added.0) n between calls.added.1 here
kept_calls {old = old} {new = new} (Err fault) calls between n here =
    kept_same old.mine new.mine n calls.rest.none_added here

pub kept_drains : {X : Type 0} {old new : DeskView} {moment session : ℕ} {items : List Item}
    (answer : Result X NotMade) → Drains old moment session items answer new → (n : ℕ) → IsOpen n old.mine →
    IsOpen n new.mine
kept_drains {old = old} {new = new} {moment = moment} {session = session} (Ok value) drains n here =
    kept_more old.mine new.mine (record_of old.pass moment (act.Drain session) session false) n tt drains.added here
kept_drains {old = old} {new = new} (Err fault) drains n here =
    kept_same old.mine new.mine n drains.rest.none_added here

kept_unless_short : (old new : DeskView) (moment : ℕ) (fault : NotMade) → AddsNoneOrShort old moment fault new →
    (n : ℕ) → IsOpen n old.mine → IsOpen n new.mine
kept_unless_short old new moment (fault.Gone why.Stopped) (inl same) n here = kept_same old.mine new.mine n same here
kept_unless_short old new moment (fault.Gone why.Stopped) (inr more) n here =
    kept_more old.mine new.mine (record_of old.pass moment act.Flush 0 true) n tt more here
kept_unless_short old new moment (fault.Gone why.Absent) same n here = kept_same old.mine new.mine n same here
kept_unless_short old new moment (fault.Gone why.Dropped) same n here = kept_same old.mine new.mine n same here
kept_unless_short old new moment (fault.Gone why.Overrun) same n here = kept_same old.mine new.mine n same here
kept_unless_short old new moment (fault.Full number) same n here = kept_same old.mine new.mine n same here
kept_unless_short old new moment fault.Memory same n here = kept_same old.mine new.mine n same here

pub kept_flushes : {X : Type 0} {old new : DeskView} {moment : ℕ} (answer : Result X NotMade) →
    Flushes old moment answer new → (n : ℕ) → IsOpen n old.mine → IsOpen n new.mine
kept_flushes {old = old} {new = new} {moment = moment} (Ok value) flushes n here =
    kept_more old.mine new.mine (record_of old.pass moment act.Flush 0 false) n tt flushes.added here
kept_flushes {old = old} {new = new} {moment = moment} (Err fault) flushes n here =
    kept_unless_short old new moment fault flushes.none_added n here

not_absent : (n session : ℕ) (records : List Record) → has_session session records ≡ false → IsOpen n records →
    session ≢ n
not_absent n session records absent here same =
    let closed : is_open session records ≡ false = absent_open session records absent in
    let open' : is_open session records ≡ true = subst (λ n. is_open n records ≡ true) (sym same) here in
    absurd cc

pub kept_connects : {old new : DeskView} {moment : ℕ} {user host : List ℕ} (answer : Result ℕ NotMade) →
    Connects old moment user host answer new → (n : ℕ) → IsOpen n old.mine → IsOpen n new.mine
kept_connects {old} {new} {moment} {user} {host} (Ok session) connects n here =
    ap (is_open n) connects.added
    ∙ open_other n old.mine (record_of old.pass moment (act.Connect user host) session false)
    (not_absent n session old.mine connects.new_number.1 here)
    ∙ here
kept_connects {old} {new} (Err fault) connects n here = kept_same old.mine new.mine n connects.none_added here

pub opened_connects : {old new : DeskView} {moment : ℕ} {user host : List ℕ} (session : ℕ) →
    Connects old moment user host (Ok session) new → IsOpen session new.mine
opened_connects {old} {new} {moment} {user} {host} session connects =
    ap (is_open session) connects.added
    ∙ open_connected old.mine old.pass moment user host session connects.new_number.1
