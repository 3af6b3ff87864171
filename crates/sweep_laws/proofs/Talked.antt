-- What the session of a whole sweep was given is what its history tells.
use Rattle.std.proofs.Common.{◌≡◌, ℕ, ◌+◌, ◌<◌, ◌≤◌, Bool, true, false, cond, ◌&&◌, List, [], ◌∷◌}
use Rattle.std.proofs.Common.{◌++◌, Option, Some, None, refl, sym, ap, ap₂, ◌∙◌, subst, inl, inr, ◌⊎◌, true≢false}
use Rattle.std.proofs.Common.{arith}
use Rattle.std.proofs.Common.{length, take, drop, append-nil, eq-eqb, nat_lt, lt-ltb, find, length-append}
use mathlib.Core.Path.{subst₃}
use Rattle.std.specs.Prelude.{map, flat_map, take_while}
use Rattle.std.specs.List.{AllByRecursion, prefix_len}
use Rattle.std.proofs.lemmas.List.{map-append, take_all, drop_all}
use Rattle.kom_types.specs.Sessions.{Session, Waiting, is_session, after_drain, drained_count, most_drained}
use Rattle.kom_types.specs.Sessions.{fresh_session}
use Rattle.kom_types.specs.declared.acts.Act.{Act}
use Rattle.kom_types.specs.declared.acts.Act.TheVariants as act
use Rattle.kom_types.specs.declared.acts.Record.{Record}
use Rattle.kom_types.specs.declared.answers.NotMade.{NotMade}
use Rattle.kom_types.specs.declared.calls.Call.{Call}
use Rattle.kom_types.specs.declared.items.Item.{Item}
use Rattle.kom_types.specs.declared.items.Item.TheVariants as item
use Rattle.kom_types.specs.declared.replies.Reply.{Reply}
use Rattle.kom_links.specs.Answers.{first_of}
use Rattle.kom_links.specs.DeskCalls.{DeskView}
use Rattle.kom_model.specs.After.{after, moment_of, reply_in, MayFollow}
use Rattle.kom_model.specs.Db.{Db}
use Rattle.kom_model.specs.Legal.{IsLegal}
use Rattle.kom_model.specs.Out.{given_from, given_by, given_along, given_by_pass, waiting_in, waiting_for, items_of}
use Rattle.kom_model.specs.Refusal.{unless_store_refused, drain_refused, is_drained}
use Rattle.kom_model.specs.State.{State, IsSound, session_of, opening_state, IsInOrder}
use Rattle.kom_model.proofs.Soundness.{IsSound-after}
use Rattle.kom_sweep.specs.declared.ends.SweepEnd.TheVariants as end
use Rattle.kom_sweep.specs.Acting.{Seen, acts_in, faults_in, IsOwn, MayLeave}
use Rattle.kom_sweep.specs.Sweeps.{IsSession, IsSwept, user, host, IsClosing}
use Rattle.kom_sweep.specs.Told as Told
use Rattle.kom_sweep.specs.Told.{tell, Exchange, Last, NoCall, told_of, acts_of, told_last, acts_last, reply_of}
use Rattle.sweep_laws.specs.Leaving.{is_swept_call}
use Rattle.sweep_laws.specs.Swept.{SessionTells, SessionLeaves, IsAllOf, IsOf, told_by, told_along}
use Rattle.sweep_laws.proofs.Found.{all-weaker}
use Rattle.sweep_laws.proofs.Judged.{all-unmapped}
use Rattle.sweep_laws.proofs.Sweeping.{swept-leaves, all-swept}
use Rattle.sweep_laws.proofs.Staying.{made_so}
use Rattle.sweep_laws.proofs.Talking.{IsAlone, called, after_item, changed-alone, queued-alone}

-- ---- the greeting
greeted : (session : ℕ) (db : Db) (pass moment : ℕ) (user host : List ℕ) (by : ℕ) (short : Bool) →
    let made : Record = made_so pass moment (act.Connect user host) by short in
    by ≡ session → MayFollow (opening_state db) made →
    IsAlone session (after (opening_state db) made) (after_item [] item.Hello 0)
greeted session db pass moment user host by short same may =
    let start : State = opening_state db in
    let number : ℕ = start.connects + 1 in
    let fresh : Session = fresh_session number pass user host (moment_of start moment) in
    let middle : State = record start { sessions = fresh ∷ []; connects = number } in
    let begun : IsAlone number middle [] =
    record { row = fresh; are = refl; number = refl; accepted = refl; waits = λ none. refl } in
    let queued = queued-alone number 0 middle [] item.Hello begun in
    let alone : IsAlone number (after start (made_so pass moment (act.Connect user host) by short))
    (after_item [] item.Hello 0) = record {
      row = queued.row;
      are = queued.are;
      number = queued.number;
      accepted = queued.accepted;
      waits = queued.waits;
    } in
    subst (λ (n : ℕ). IsAlone n (after start (made_so pass moment (act.Connect user host) by short))
    (after_item [] item.Hello 0)) (sym may.session ∙ same) alone

-- ---- a drain
drain-possible : (store_refused : Bool) (found : Option Session) →
    unless_store_refused store_refused (drain_refused found) ≡ None →
    (store_refused ≡ false) × (drain_refused found ≡ None)
drain-possible true found is = cc
drain-possible false found is = (refl, is)

drain-under : (row : Session) → drain_refused (Some row) ≡ None → row.overrun ≡ false
drain-under row = by (row.seat.ended && is_drained row) row.overrun _ _ where
  by : (dropped over : Bool) (one two : NotMade) → cond dropped (Some one) (cond over (Some two) None) ≡ None →
      over ≡ false
  by true over one two is = cc
  by false true one two is = cc
  by false false one two is = refl

alone-there : (session : ℕ) (state : State) (waiting : List Waiting) (alone : IsAlone session state waiting) →
    session_of session state ≡ Some alone.row
alone-there session state waiting alone =
    ap (find (is_session session)) alone.are
    ∙ ap (λ (here : Bool). cond here (Some alone.row) None) (eq-eqb alone.row.seat.number session alone.number)

abbrev Below : ℕ → List Waiting → Type 0
Below stable waiting = AllByRecursion (λ one. one.entry < stable) waiting

prefix-all : (stable : ℕ) (waiting : List Waiting) → Below stable waiting →
    prefix_len (λ (one : Waiting). nat_lt one.entry stable) waiting ≡ length waiting
prefix-all stable [] below = refl
prefix-all stable (one ∷ waiting) below =
    let passes : nat_lt one.entry stable ≡ true = lt-ltb one.entry stable below.0 in
    let rest = prefix-all stable waiting below.1 in
    rw passes (omega arith)

drained-all : (stable : ℕ) (waiting : List Waiting) → Below stable waiting → length waiting ≤ 64 →
    drained_count stable waiting ≡ length waiting
drained-all stable waiting below few =
    let whole : take_while (λ (one : Waiting). nat_lt one.entry stable) waiting ≡ waiting =
    take_all (prefix_len (λ (one : Waiting). nat_lt one.entry stable) waiting) waiting
    (omega (arith, prefix-all stable waiting below)) in
    ap (λ (rows : List Waiting). length (take most_drained rows)) whole
    ∙ ap (λ (rows : List Waiting). length rows) (take_all most_drained waiting few)

record Drained (session : ℕ) (state : State) (made : Record) (waiting : List Waiting) : Type 0 where
  given : given_from session state ≡ items_of waiting
  alone : IsAlone session (after state made) []

drained : (session : ℕ) (state : State) (pass moment by : ℕ) (short : Bool) (waiting : List Waiting)
    (alone : IsAlone session state waiting) →
    let made : Record = made_so pass moment (act.Drain session) by short in
    MayFollow state made → (alone.row.overrun ≡ false → Below state.stable waiting) → length waiting ≤ 64 →
    Drained session state made waiting
drained session state pass moment by short waiting alone may below few =
    let made : Record = made_so pass moment (act.Drain session) by short in
    let there = alone-there session state waiting alone in
    let possible = drain-possible state.store_refused (session_of session state) may.possible in
    let under : alone.row.overrun ≡ false = drain-under alone.row (sym (ap drain_refused there) ∙ possible.1) in
    let waits : alone.row.waiting ≡ waiting = alone.waits under in
    let all : waiting_for session state ≡ waiting = ap waiting_in there ∙ waits in
    let count : drained_count state.stable waiting ≡ length waiting =
    drained-all state.stable waiting (below under) few in
    let next = changed-alone session session state waiting [] (after_drain state.stable) alone
    (λ row number accepted. (number, accepted))
    (λ row number before. subst (λ (here : Bool). (cond here (after_drain state.stable row) row).overrun ≡ false →
    (cond here (after_drain state.stable row) row).waiting ≡ []) (sym (eq-eqb row.seat.number session number))
    (λ none. ap (λ (rows : List Waiting). drop (drained_count state.stable rows) rows) (before none)
    ∙ drop_all (drained_count state.stable waiting) waiting (omega (arith, count)))) in
    record {
      given = ap (λ (rows : List Waiting). items_of (take (drained_count state.stable rows) rows)) all
          ∙ ap items_of (take_all (drained_count state.stable waiting) waiting (omega (arith, count)));
      alone = record {
        row = next.row;
        are = next.are;
        number = next.number;
        accepted = next.accepted;
        waits = next.waits;
      };
    }

-- ---- a call, a flush, a drain
record Step (session : ℕ) (state : State) (waiting : List Waiting) (reference : ℕ) (what : Call) (m1 m2 m3 : Record)
    : Type 0 where
  body : Reply
  replied : reply_in state m1 ≡ Some body
  told : (rest : List Told.Told) → told_by state m1 ++ (told_by (after state m1) m2
      ++ (told_by (after (after state m1) m2) m3 ++ rest)) ≡ tell what (reply_in state m1) ∷ rest
  gives : (rest : List (List Item)) → given_by state session m1 ++ (given_by (after state m1) session m2
      ++ (given_by (after (after state m1) m2) session m3 ++ rest))
      ≡ given_from session (after (after state m1) m2) ∷ rest
  given : given_from session (after (after state m1) m2)
      ≡ items_of (after_item waiting (item.Reply reference body) state.entries)
  alone : IsAlone session (after (after (after state m1) m2) m3) []

stepped : (session : ℕ) (state : State) (waiting : List Waiting) (reference : ℕ) (what : Call)
    (p1 t1 b1 p2 t2 b2 p3 t3 b3 : ℕ) (h1 h2 h3 : Bool) →
    let m1 : Record = made_so p1 t1 (act.Call session reference what) b1 h1 in
    let m2 : Record = made_so p2 t2 act.Flush b2 h2 in
    let m3 : Record = made_so p3 t3 (act.Drain session) b3 h3 in
    is_swept_call what ≡ true → IsAlone session state waiting → length waiting ≤ 1 → IsSound (after state m1) →
    MayFollow (after (after state m1) m2) m3 → Step session state waiting reference what m1 m2 m3
stepped session state waiting reference what p1 t1 b1 p2 t2 b2 p3 t3 b3 h1 true h3 swept alone few sound may =
    let flushed : State =
    after (after state (made_so p1 t1 (act.Call session reference what) b1 h1)) (made_so p2 t2 act.Flush b2 true) in
    absurd (true≢false (drain-possible true (session_of session flushed) may.possible).0)
stepped session state waiting reference what p1 t1 b1 p2 t2 b2 p3 t3 b3 h1 false h3 swept alone few sound may =
    let m1 : Record = made_so p1 t1 (act.Call session reference what) b1 h1 in
    let m2 : Record = made_so p2 t2 act.Flush b2 false in
    let m3 : Record = made_so p3 t3 (act.Drain session) b3 h3 in
    let one = called session state p1 t1 reference what b1 h1 waiting swept alone in
    let waits : List Waiting = after_item waiting (item.Reply reference one.body) state.entries in
    let flushed : IsAlone session (after (after state m1) m2) waits = record {
      row = one.alone.row;
      are = one.alone.are;
      number = one.alone.number;
      accepted = one.alone.accepted;
      waits = one.alone.waits;
    } in
    let ordered = subst (AllByRecursion (λ (row : Session). IsInOrder (after state m1).entries row.waiting))
    one.alone.are sound.ordered in
    let last = drained session (after (after state m1) m2) p3 t3 b3 h3 waits flushed may
    (λ under. subst (Below (after state m1).entries) (one.alone.waits under) ordered.0.1)
    (omega (arith, length-append waiting (record { item = item.Reply reference one.body; entry = state.entries } ∷ [])))
    in
    record {
      body = one.body;
      replied = one.replied;
      told = λ rest. refl;
      gives = λ rest. rw (eq-eqb session session refl) refl;
      given = last.given;
      alone = last.alone;
    }

-- the same of three records with these acts
step-of : (session : ℕ) (state : State) (waiting : List Waiting) (reference : ℕ) (what : Call) (m1 m2 m3 : Record) →
    m1.entry.act ≡ act.Call session reference what → m2.entry.act ≡ act.Flush → m3.entry.act ≡ act.Drain session →
    is_swept_call what ≡ true → IsAlone session state waiting → length waiting ≤ 1 → IsSound (after state m1) →
    MayFollow (after (after state m1) m2) m3 → Step session state waiting reference what m1 m2 m3
step-of session state waiting reference what m1 m2 m3 e1 e2 e3 swept alone few =
    let made_as : Record → Act → Record =
    λ made what. made_so made.entry.pass made.entry.moment what made.session made.short in
    subst₃ (λ (a1 a2 a3 : Act). IsSound (after state (made_as m1 a1)) →
    MayFollow (after (after state (made_as m1 a1)) (made_as m2 a2)) (made_as m3 a3) →
    Step session state waiting reference what (made_as m1 a1) (made_as m2 a2) (made_as m3 a3))
    (sym e1) (sym e2) (sym e3)
    (stepped session state waiting reference what m1.entry.pass m1.entry.moment m1.session m2.entry.pass
    m2.entry.moment m2.session m3.entry.pass m3.entry.moment m3.session m1.short m2.short m3.short swept alone few)

reply-last : (reference : ℕ) (items : List Item) (body : Reply) →
    Told.reply_in reference (items ++ item.Reply reference body ∷ []) ≡ Some body
reply-last reference [] body = rw (eq-eqb reference reference refl) refl
reply-last reference (one ∷ items) body = rw (reply-last reference items body) refl

-- the reply that the drain gave is that of the record
replied-by : (reference entry : ℕ) (items given : List Item) (waiting : List Waiting) (body : Reply)
    (answer : Option Reply) → items ≡ given →
    given ≡ items_of (after_item waiting (item.Reply reference body) entry) → answer ≡ Some body →
    Told.reply_in reference items ≡ answer
replied-by reference entry items given waiting body answer one two three =
    ap (Told.reply_in reference) (one ∙ two ∙ map-append (λ (one : Waiting). one.item) waiting
    (record { item = item.Reply reference body; entry = entry } ∷ []))
    ∙ reply-last reference (items_of waiting) body ∙ sym three

-- ---- all calls
-- the session was closed at the end, or was not
abbrev IsEnding : ℕ → List Act → Type 0
IsEnding session closing = (closing ≡ act.Close session ∷ []) ⊎ (closing ≡ [])

no-acts : (history : List Record) → acts_in history ≡ [] → history ≡ []
no-acts [] is = refl
no-acts (made ∷ history) is = cc

closed-tells : (state : State) (made : Record) (session : ℕ) → made.entry.act ≡ act.Close session →
    told_by state made ≡ []
closed-tells state made session is =
    subst (λ (what : Act). told_by state (made_so made.entry.pass made.entry.moment what made.session made.short) ≡ [])
    (sym is) refl

ended : (session : ℕ) (state : State) (history : List Record) (closing : List Act) → acts_in history ≡ closing →
    IsEnding session closing → told_along state history ≡ []
ended session state [] closing is ending = refl
ended session state (made ∷ history) closing is (inr none) = let wrong = is ∙ none in cc
ended session state (made ∷ history) closing is (inl close) =
    let all : made.entry.act ∷ acts_in history ≡ act.Close session ∷ [] = is ∙ close in
    let head : made.entry.act ≡ act.Close session = cc all in
    let tail : acts_in history ≡ [] = cc all in
    ap₂ (λ (first rest : List Told.Told). first ++ rest) (closed-tells state made session head)
    (ap (told_along (after state made)) (no-acts history tail))

exchanged : (session : ℕ) (state : State) (history : List Record) (exchanges : List Exchange) (closing : List Act)
    (waiting : List Waiting) → IsSound state → IsAlone session state waiting → length waiting ≤ 1 →
    IsLegal state history → acts_in history ≡ flat_map (acts_of session) exchanges ++ closing →
    IsEnding session closing → AllByRecursion (λ one. is_swept_call one.call ≡ true) exchanges →
    map (λ one. one.items) exchanges ≡ given_along state session history →
    map told_of exchanges ≡ told_along state history
exchanged session state history [] closing waiting sound alone few legal is ending swept given =
    sym (ended session state history closing is ending)
exchanged session state [] (one ∷ exchanges) closing waiting sound alone few legal is ending swept given = cc
exchanged session state (m1 ∷ []) (one ∷ exchanges) closing waiting sound alone few legal is ending swept given = cc
exchanged session state (m1 ∷ m2 ∷ []) (one ∷ exchanges) closing waiting sound alone few legal is ending swept given =
    cc
exchanged session state (m1 ∷ m2 ∷ m3 ∷ history) (one ∷ exchanges) closing waiting sound alone few legal is ending swept
    given =
    let all : m1.entry.act ∷ m2.entry.act ∷ m3.entry.act ∷ acts_in history
    ≡ act.Call session one.reference one.call ∷ act.Flush ∷ act.Drain session
    ∷ (flat_map (acts_of session) exchanges ++ closing) = is in
    let e1 : m1.entry.act ≡ act.Call session one.reference one.call = cc all in
    let e2 : m2.entry.act ≡ act.Flush = cc all in
    let e3 : m3.entry.act ≡ act.Drain session = cc all in
    let rest : acts_in history ≡ flat_map (acts_of session) exchanges ++ closing = cc all in
    let s1 : State = after state m1 in
    let s2 : State = after s1 m2 in
    let s3 : State = after s2 m3 in
    let sound1 = IsSound-after state m1 legal.0.user sound in
    let sound3 = IsSound-after s2 m3 legal.1.1.0.user (IsSound-after s1 m2 legal.1.0.user sound1) in
    let step = step-of session state waiting one.reference one.call m1 m2 m3 e1 e2 e3 swept.0 alone few sound1
    legal.1.1.0 in
    let gives : one.items ∷ map (λ one. one.items) exchanges ≡ given_from session s2 ∷ given_along s3 session history =
    given ∙ step.gives (given_along s3 session history) in
    let items : one.items ≡ given_from session s2 = cc gives in
    let others : map (λ one. one.items) exchanges ≡ given_along s3 session history = cc gives in
    let replied : Told.reply_in one.reference one.items ≡ reply_in state m1 =
    replied-by one.reference state.entries one.items (given_from session s2) waiting step.body (reply_in state m1) items
    step.given step.replied in
    let nothing : List Waiting = [] in
    let none : length nothing ≤ 1 = omega arith in
    ap₂ (λ (reply : Option Reply) (rest : List Told.Told). tell one.call reply ∷ rest) replied
    (exchanged session s3 history exchanges closing [] sound3 step.alone none legal.1.1.1 rest ending swept.1 others)
    ∙ sym (step.told (told_along s3 history))

-- ---- the session
by-pass : (state : State) (pass session : ℕ) (history : List Record) → AllByRecursion (IsOwn pass session) history →
    given_by_pass state pass session history ≡ given_along state session history
by-pass state pass session [] own = refl
by-pass state pass session (made ∷ history) own =
    ap₂ (λ (here : Bool) (rest : List (List Item)). cond here (given_by state session made) [] ++ rest)
    (eq-eqb made.entry.pass pass own.0.by_pass) (by-pass (after state made) pass session history own.1)

no-fault : (faults : List NotMade) → first_of faults ≡ None → faults ≡ []
no-fault [] is = refl
no-fault (fault ∷ faults) is = cc

ending-of : (session : ℕ) (desk : DeskView) (closing : List Act) → IsClosing session desk closing →
    IsEnding session closing
ending-of session desk closing (inl closed) = inl closed
ending-of session desk closing (inr open_) = inr open_.0

-- the greeting, and then the calls
whole-told : (session : ℕ) (db : Db) (history : List Record) (exchanges : List Exchange) (closing : List Act) →
    IsSound (opening_state db) → IsLegal (opening_state db) history →
    acts_in history ≡ act.Connect user host ∷ (flat_map (acts_of session) exchanges ++ closing) →
    AllByRecursion (IsOf session) history → IsEnding session closing →
    AllByRecursion (λ one. is_swept_call one.call ≡ true) exchanges →
    map (λ one. one.items) exchanges ≡ given_along (opening_state db) session history →
    map told_of exchanges ≡ told_along (opening_state db) history
whole-told session db [] exchanges closing sound legal is of ending swept given = cc
whole-told session db (made ∷ history) exchanges closing sound legal is of ending swept given =
    let start : State = opening_state db in
    let connects : made.entry.act ≡ act.Connect user host = cc is in
    let rest : acts_in history ≡ flat_map (acts_of session) exchanges ++ closing = cc is in
    let made_as : Act → Record = λ what. made_so made.entry.pass made.entry.moment what made.session made.short in
    let alone : IsAlone session (after start made) (after_item [] item.Hello 0) =
    subst (λ (what : Act). MayFollow start (made_as what) → IsAlone session (after start (made_as what))
    (after_item [] item.Hello 0)) (sym connects)
    (greeted session db made.entry.pass made.entry.moment user host made.session made.short (own of.0 connects)) legal.0
    in
    let told : told_by start made ≡ [] =
    subst (λ (what : Act). told_by start (made_as what) ≡ []) (sym connects) refl in
    let gives : given_by start session made ≡ [] =
    subst (λ (what : Act). given_by start session (made_as what) ≡ []) (sym connects) refl in
    let one : length (after_item [] item.Hello 0) ≤ 1 = omega arith in
    exchanged session (after start made) history exchanges closing (after_item [] item.Hello 0)
    (IsSound-after start made legal.0.user sound) alone one legal.1 rest ending swept
    (given ∙ ap (λ (first : List (List Item)). first ++ given_along (after start made) session history) gives)
    ∙ sym (ap (λ (first : List Told.Told). first ++ told_along (after start made) history) told) where
      own : IsOf session made → made.entry.act ≡ act.Connect user host → made.session ≡ session
      own (inl same) connects = same
      own (inr flush) connects = let wrong = sym connects ∙ flush in cc

session-told : (db : Db) (history : List Record) (moment session person : ℕ) (password : List ℕ) (old : Seen)
    (desk : DeskView) (gave : Option (List ℕ)) (swept kept : ℕ) →
    IsAllOf (opening_state db) history session old desk →
    (is : IsSession moment session person password old desk gave (end.Done swept kept)) →
    AllByRecursion (IsOf session) history ×
    (map told_of is.exchanges ++ told_last is.last ≡ told_along (opening_state db) history)
session-told db history moment session person password old desk gave swept kept all is =
    let ends = is.ends in
    let added : history ≡ is.added = sym all.mine ∙ is.mine ∙ ap (λ (mine : List Record). mine ++ is.added) all.none in
    let last : is.last ≡ NoCall =
    subst (λ (faults : List NotMade). MayLeave faults is.last) (no-fault (faults_in is.answers) ends.0) is.left in
    let calls : map told_of is.exchanges ++ told_last is.last ≡ map told_of is.exchanges =
    ap (λ (last : Last). map told_of is.exchanges ++ told_last last) last ∙ append-nil (map told_of is.exchanges) in
    let acts : acts_in history
    ≡ act.Connect user host ∷ (flat_map (acts_of session) is.exchanges ++ is.closing) =
    ap acts_in added ∙ is.acts
    ∙ ap (λ (last : Last). act.Connect user host ∷ ((flat_map (acts_of session) is.exchanges ++ acts_last session last)
    ++ is.closing)) last
    ∙ ap (λ (acts : List Act). act.Connect user host ∷ (acts ++ is.closing))
    (append-nil (flat_map (acts_of session) is.exchanges)) in
    let own : AllByRecursion (IsOwn old.desk.pass session) history =
    subst (AllByRecursion (IsOwn old.desk.pass session)) (sym added) is.own in
    let of : AllByRecursion (IsOf session) history =
    all-weaker (IsOwn old.desk.pass session) (IsOf session) (λ made own. own.of_session) history own in
    let given : map (λ one. one.items) is.exchanges ≡ given_along (opening_state db) session history =
    sym is.given.0 ∙ all.gave
    ∙ ap (λ (pass : ℕ). given_by_pass (opening_state db) pass session history) is.pass
    ∙ by-pass (opening_state db) old.desk.pass session history own in
    let swept_calls : AllByRecursion (λ one. is_swept_call one.call ≡ true) is.exchanges =
    all-unmapped (λ (one : Told.Told). is_swept_call one.call ≡ true) told_of is.exchanges
    (subst (AllByRecursion (λ (one : Told.Told). is_swept_call one.call ≡ true)) (sym ends.1.are ∙ calls)
    (all-swept person password ends.1.found ends.1.gone ends.1.logout)) in (
      of,
      calls ∙ whole-told session db history is.exchanges is.closing all.sound all.legal acts of
          (ending-of session desk is.closing is.closed) swept_calls given,
    )

pub session-tells : SessionTells
session-tells db history moment session person password old desk gave swept kept all is =
    subst (λ (calls : List Told.Told). IsSwept moment person password calls swept kept)
    (session-told db history moment session person password old desk gave swept kept all is).1 is.ends.1

pub session-leaves : SessionLeaves
session-leaves db history moment session person password old desk gave swept kept numbered all is lines =
    swept-leaves (opening_state db) history session moment person password swept kept all.sound numbered all.legal
    (session-told db history moment session person password old desk gave swept kept all is).0
    (session-tells db history moment session person password old desk gave swept kept all is) lines
