-- The parts of a whole sweep along its history: the login, both walks, and the deletions.
use Rattle.std.proofs.Common.{◌≡◌, ℕ, ◌<◌, ◌==◌, Bool, true, false, cond, ◌||◌, ◌&&◌, List, [], ◌∷◌, ◌++◌}
use Rattle.std.proofs.Common.{Option, Some, None, refl, sym, ap, ap₂, ◌∙◌, subst, inl, inr, true≢false, arith, ne_eqb}
use Rattle.std.proofs.Common.{append-nil}
use Rattle.std.proofs.lemmas.Grind.{flat_map-append}
use Rattle.std.specs.Prelude.{is_some, flat_map, if◌then◌else◌}
use Rattle.std.specs.List.{AllByRecursion}
use Rattle.std.proofs.lemmas.Bool.{or_right, and_parts}
use Rattle.row_table.specs.Tables.{IsByNumber}
use Rattle.kom_types.specs.declared.acts.Act.{Act}
use Rattle.kom_types.specs.declared.acts.Act.TheVariants as act
use Rattle.kom_types.specs.declared.acts.Record.{Record}
use Rattle.kom_types.specs.declared.calls.Call.{Call}
use Rattle.kom_types.specs.declared.calls.Call.TheVariants as call
use Rattle.kom_types.specs.declared.decisions.Decision.{Decision}
use Rattle.kom_types.specs.declared.errors.TheConstants as error
use Rattle.kom_types.specs.declared.replies.Reply.{Reply}
use Rattle.kom_types.specs.declared.texts.TextRow.{TextRow}
use Rattle.kom_model.specs.After.{after, reply_in, moment_of, MayFollow}
use Rattle.kom_model.specs.Db.{Db}
use Rattle.kom_model.specs.Decide.{asked_in}
use Rattle.kom_model.specs.Legal.{IsLegal, state_after}
use Rattle.kom_model.specs.Rights.{reads, supervises}
use Rattle.kom_model.specs.State.{State, IsSound}
use Rattle.kom_model.specs.calls.Call.{Asked, outcome_of, done_with}
use Rattle.kom_model.specs.calls.Guards.{caller, Guard, login_guard, text_guard, unless, with_guards, strong_guard}
use Rattle.kom_model.specs.calls.Texts.{gone_text, owns_text, made_text, author_of}
use Rattle.kom_model.proofs.Deciding.{decision-meets}
use Rattle.kom_model.proofs.Soundness.{IsSound-after}
use Rattle.kom_laws.proofs.fitting.Guards.{all-pass, passed}
use Rattle.kom_sweep.specs.Replies.{is_refused}
use Rattle.kom_sweep.specs.Told.{Told, tell}
use Rattle.kom_sweep.specs.Walks.{told_deletions}
use Rattle.sweep_laws.specs.Leaving.{passes, is_other_call, deleted_in, named_in, deleted_by, deleted_along}
use Rattle.sweep_laws.specs.Swept.{told_by, told_along, IsOf}
use Rattle.sweep_laws.specs.Told.{is_curbed, answer_to, AsksStrongly, IsToldOf, IsUncurbed}
use Rattle.sweep_laws.specs.Without.{IsWithout, stays}
use Rattle.sweep_laws.proofs.Along.{without-then, record-leaves}
use Rattle.sweep_laws.proofs.Found.{all-both, all-weaker}
use Rattle.sweep_laws.proofs.Judged.{IsThere}
use Rattle.sweep_laws.proofs.Left.{leaves-rest}
use Rattle.sweep_laws.proofs.Others.{other-leaves}
use Rattle.sweep_laws.proofs.Staying.{made_so, Holds, IsStrong, holds-after, strong-call, is_quiet}
use Rattle.sweep_laws.proofs.Strong.{uncut, logged, reads-all, unzero, found-guard}
use Rattle.sweep_laws.proofs.Walked.{all-apart, all-joined}

-- ---- what is told of one record
-- a record tells of no call, or of one
data Tells (state : State) (made : Record) : Type 0 where
  Nothing : told_by state made ≡ [] → named_in made.entry.act ≡ [] → passes is_quiet made.entry.act ≡ true →
      passes is_other_call made.entry.act ≡ true → reply_in state made ≡ None → Tells state made
  OneCall : (number reference : ℕ) (what : Call) → made.entry.act ≡ act.Call number reference what →
      told_by state made ≡ tell what (reply_in state made) ∷ [] → Tells state made

tells-so : (state : State) (pass moment : ℕ) (what : Act) (session : ℕ) (short : Bool) →
    Tells state (made_so pass moment what session short)
tells-so state pass moment (act.Connect user host) session short = Nothing refl refl refl refl refl
tells-so state pass moment (act.Call number reference what) session short = OneCall number reference what refl refl
tells-so state pass moment (act.Broken number) session short = Nothing refl refl refl refl refl
tells-so state pass moment (act.Drain number) session short = Nothing refl refl refl refl refl
tells-so state pass moment act.Flush session short = Nothing refl refl refl refl refl
tells-so state pass moment (act.Close number) session short = Nothing refl refl refl refl refl

tells : (state : State) (made : Record) → Tells state made
tells state made = tells-so state made.entry.pass made.entry.moment made.entry.act made.session made.short

-- a test of all calls that are told is one of all acts
test-act : (test : Call → Bool) (state : State) (pass moment : ℕ) (what : Act) (session : ℕ) (short : Bool) →
    AllByRecursion (λ one. test one.call ≡ true) (told_by state (made_so pass moment what session short)) →
    passes test what ≡ true
test-act test state pass moment (act.Connect user host) session short all = refl
test-act test state pass moment (act.Call number reference what) session short all = all.0
test-act test state pass moment (act.Broken number) session short all = refl
test-act test state pass moment (act.Drain number) session short all = refl
test-act test state pass moment act.Flush session short all = refl
test-act test state pass moment (act.Close number) session short all = refl

pub act-passes : (test : Call → Bool) (state : State) (made : Record) →
    AllByRecursion (λ one. test one.call ≡ true) (told_by state made) → passes test made.entry.act ≡ true
act-passes test state made all =
    test-act test state made.entry.pass made.entry.moment made.entry.act made.session made.short all

pub acts-pass : (test : Call → Bool) (state : State) (history : List Record) →
    AllByRecursion (λ one. test one.call ≡ true) (told_along state history) →
    AllByRecursion (λ made. passes test made.entry.act ≡ true) history
acts-pass test state [] all = tt
acts-pass test state (made ∷ history) all =
    let parts = all-apart (λ (one : Told). test one.call ≡ true) (told_by state made)
    (told_along (after state made) history) all in
    (act-passes test state made parts.0, acts-pass test (after state made) history parts.1)

-- ---- what was told is of a strong session
-- no reply is cut short where none is curbed
whole-made : (state : State) (pass moment number reference : ℕ) (what : Call) (session : ℕ) (short : Bool) →
    let made : Record = made_so pass moment (act.Call number reference what) session short in
    is_curbed (reply_in state made) ≡ false →
    reply_in state made ≡ Some (answer_to (asked_in state (moment_of state moment) number reference) what)
whole-made state pass moment number reference what session true uncurbed = absurd (true≢false uncurbed)
whole-made state pass moment number reference what session false uncurbed = refl

strong-told : (session : ℕ) (db : Db) (state : State) (pass moment number reference : ℕ) (what : Call)
    (by : ℕ) (short : Bool) → let made : Record = made_so pass moment (act.Call number reference what) by short in
    IsSound state → IsWithout [] db state.db → Holds session state → MayFollow state made → IsOf session made →
    is_curbed (reply_in state made) ≡ false → IsToldOf db (tell what (reply_in state made))
strong-told session db state pass moment number reference what by short sound rows holds may of uncurbed =
    record {
      asked = asked_in state (moment_of state moment) number reference;
      rows = rows;
      strongly = record {
        whole = sound.whole;
        strong = strong-call session state number reference what (sym may.session ∙ same of) may.possible holds;
      };
      reply = whole-made state pass moment number reference what by short uncurbed;
      uncurbed = uncurbed;
    } where
      same : IsOf session (made_so pass moment (act.Call number reference what) by short) → by ≡ session
      same (inl is) = is
      same (inr flush) = cc

-- ---- the walks
-- a call that is quiet, and deletes nothing
abbrev pub is_query : Call → Bool
is_query what = is_quiet what && is_other_call what

-- what is true of the session and the rows between two records
pub record Stands (session : ℕ) (db : Db) (state : State) : Type 0 where
  pub sound : IsSound state
  pub rows : IsWithout [] db state.db
  pub holds : Holds session state

-- what is told by a query, without a curb
abbrev pub IsGood : Told → Type 0
IsGood one = (is_query one.call ≡ true) × (is_curbed one.reply ≡ false)

stands-after : (session : ℕ) (db : Db) (state : State) (made : Record) → Stands session db state →
    MayFollow state made → IsOf session made → passes is_quiet made.entry.act ≡ true →
    passes is_other_call made.entry.act ≡ true → Stands session db (after state made)
stands-after session db state made stands may of quiet other = record {
  sound = IsSound-after state made may.user stands.sound;
  rows = without-then [] [] db state.db (after state made).db stands.rows (other-leaves state made other);
  holds = holds-after session state made stands.sound may of quiet stands.holds;
}

query-told : (session : ℕ) (db : Db) (state : State) (pass moment : ℕ) (what : Act) (by : ℕ) (short : Bool) →
    let made : Record = made_so pass moment what by short in
    Stands session db state → MayFollow state made → IsOf session made →
    AllByRecursion IsGood (told_by state made) → AllByRecursion (IsToldOf db) (told_by state made)
query-told session db state pass moment (act.Call number reference what) by short stands may of good = (
  strong-told session db state pass moment number reference what by short stands.sound stands.rows stands.holds may of
      good.0.1,
  tt,
)
query-told session db state pass moment (act.Connect user host) by short stands may of good = tt
query-told session db state pass moment (act.Broken number) by short stands may of good = tt
query-told session db state pass moment (act.Drain number) by short stands may of good = tt
query-told session db state pass moment act.Flush by short stands may of good = tt
query-told session db state pass moment (act.Close number) by short stands may of good = tt

pub walks-told : (session : ℕ) (db : Db) (state : State) (history : List Record) → Stands session db state →
    IsLegal state history → AllByRecursion (IsOf session) history → AllByRecursion IsGood (told_along state history) →
    AllByRecursion (IsToldOf db) (told_along state history) × Stands session db (state_after state history)
walks-told session db state [] stands legal of good = (tt, stands)
walks-told session db state (made ∷ history) stands legal of good =
    let parts = all-apart IsGood (told_by state made) (told_along (after state made) history) good in
    let query : AllByRecursion (λ one. is_query one.call ≡ true) (told_by state made) =
    all-weaker IsGood (λ one. is_query one.call ≡ true) (λ one is. is.0) (told_by state made) parts.0 in
    let quiet : AllByRecursion (λ one. is_quiet one.call ≡ true) (told_by state made) =
    all-weaker (λ (one : Told). is_query one.call ≡ true) (λ one. is_quiet one.call ≡ true)
    (λ one is. (and_parts (is_quiet one.call) (is_other_call one.call) is).0) (told_by state made) query in
    let other : AllByRecursion (λ one. is_other_call one.call ≡ true) (told_by state made) =
    all-weaker (λ (one : Told). is_query one.call ≡ true) (λ one. is_other_call one.call ≡ true)
    (λ one is. (and_parts (is_quiet one.call) (is_other_call one.call) is).1) (told_by state made) query in
    let next = stands-after session db state made stands legal.0 of.0 (act-passes is_quiet state made quiet)
    (act-passes is_other_call state made other) in
    let rest = walks-told session db (after state made) history next legal.1 of.1 parts.1 in (
      all-joined (IsToldOf db) (told_by state made) (told_along (after state made) history)
          (query-told session db state made.entry.pass made.entry.moment made.entry.act made.session made.short stands
          legal.0 of.0 parts.0)
          rest.0,
      rest.1,
    )

-- ---- before the walks
-- what is sound, and the same rows, along calls that delete nothing
pub others-along : (db : Db) (state : State) (history : List Record) → IsSound state → IsWithout [] db state.db →
    IsLegal state history → AllByRecursion (λ made. passes is_other_call made.entry.act ≡ true) history →
    IsSound (state_after state history) × IsWithout [] db (state_after state history).db
others-along db state [] sound rows legal all = (sound, rows)
others-along db state (made ∷ history) sound rows legal all =
    others-along db (after state made) history (IsSound-after state made legal.0.user sound)
    (without-then [] [] db state.db (after state made).db rows (other-leaves state made all.0)) legal.1 all.1

-- a session that has all made stable is strong
strong-synced : (asked : Asked) → is_refused (Some (answer_to asked call.SyncKom)) ≡ false →
    (caller asked).strong ≡ true
strong-synced asked = decision-meets
    (λ (decision : Decision). is_refused (Some decision.reply) ≡ false → (caller asked).strong ≡ true)
    (λ why accepted. absurd (true≢false accepted)) asked call.SyncKom
    (λ pass accepted. passed (caller asked).strong _ _ (all-pass (strong_guard (caller asked) ∷ []) pass).0)

sync-strong : (state : State) (pass moment number reference by : ℕ) (short : Bool) →
    is_refused (reply_in state (made_so pass moment (act.Call number reference call.SyncKom) by short)) ≡ false →
    IsStrong number state
sync-strong state pass moment number reference by true accepted = absurd (true≢false accepted)
sync-strong state pass moment number reference by false accepted =
    strong-synced (asked_in state (moment_of state moment) number reference) accepted

sync-holds : (session : ℕ) (state : State) (pass moment : ℕ) (what : Act) (by : ℕ) (short : Bool)
    (answer : Option Reply) → let made : Record = made_so pass moment what by short in
    told_by state made ≡ tell call.SyncKom answer ∷ [] → is_refused answer ≡ false → MayFollow state made →
    IsOf session made → Holds session state × (passes is_quiet what ≡ true) × (passes is_other_call what ≡ true)
sync-holds session state pass moment (act.Call number reference what) by short answer is accepted may of =
    let one : tell what (reply_in state (made_so pass moment (act.Call number reference what) by short))
    ≡ tell call.SyncKom answer = cc is in
    let called : what ≡ call.SyncKom = ap (λ (one : Told). one.call) one in
    let replied : reply_in state (made_so pass moment (act.Call number reference what) by short) ≡ answer =
    ap (λ (one : Told). one.reply) one in
    let answered : is_refused (reply_in state (made_so pass moment (act.Call number reference call.SyncKom) by short))
    ≡ false =
    ap (λ (what : Call). is_refused (reply_in state (made_so pass moment (act.Call number reference what) by short)))
    (sym called) ∙ ap is_refused replied ∙ accepted in
    let same : number ≡ session = sym may.session ∙ own of in (
      inl (subst (λ (n : ℕ). IsStrong n state) same (sync-strong state pass moment number reference by short answered)),
      ap is_quiet called,
      ap is_other_call called,
    ) where
      own : IsOf session (made_so pass moment (act.Call number reference what) by short) → by ≡ session
      own (inl is) = is
      own (inr flush) = cc
sync-holds session state pass moment (act.Connect user host) by short answer is accepted may of = cc
sync-holds session state pass moment (act.Broken number) by short answer is accepted may of = cc
sync-holds session state pass moment (act.Drain number) by short answer is accepted may of = cc
sync-holds session state pass moment act.Flush by short answer is accepted may of = cc
sync-holds session state pass moment (act.Close number) by short answer is accepted may of = cc

pub synced : (session : ℕ) (db : Db) (state : State) (history : List Record) (answer : Option Reply) →
    IsSound state → IsWithout [] db state.db → IsLegal state history → AllByRecursion (IsOf session) history →
    told_along state history ≡ tell call.SyncKom answer ∷ [] → is_refused answer ≡ false →
    Stands session db (state_after state history)
synced session db state [] answer sound rows legal of is accepted = cc
synced session db state (made ∷ history) answer sound rows legal of is accepted =
    let rest : List Told = told_along (after state made) history in
    elim (tells state made) [
      | Nothing none named quiet other reply ↦
          synced session db (after state made) history answer (IsSound-after state made legal.0.user sound)
          (without-then [] [] db state.db (after state made).db rows (other-leaves state made other)) legal.1 of.1
          (sym (ap (λ (told : List Told). told ++ rest) none) ∙ is) accepted
      | OneCall number reference what kind one ↦
          let all : tell what (reply_in state made) ∷ rest ≡ tell call.SyncKom answer ∷ [] =
          sym (ap (λ (told : List Told). told ++ rest) one) ∙ is in
          let head : tell what (reply_in state made) ≡ tell call.SyncKom answer = cc all in
          let none : rest ≡ [] = cc all in
          let facts = sync-holds session state made.entry.pass made.entry.moment made.entry.act made.session made.short
          answer (one ∙ ap (λ (first : Told). first ∷ []) head) accepted legal.0 of.0 in
          let now : Stands session db state = record { sound = sound; rows = rows; holds = facts.0 } in
          (walks-told session db (after state made) history
          (stands-after session db state made now legal.0 of.0 facts.1 facts.2) legal.1 of.1
          (subst (AllByRecursion IsGood) (sym none) tt)).1
    ]

-- ---- the deletions
-- where no guard refuses, it is done
done-where : (one two three : Guard) (decision : Decision) → one ≡ None → two ≡ None → three ≡ None →
    outcome_of (with_guards (one ∷ two ∷ three ∷ []) decision) ≡ decision
done-where one two three decision first second third = rw (first, second, third) refl

deletion-accepted : (asked : Asked) (text : ℕ) → AsksStrongly asked → 0 < text → IsThere asked.db text →
    IsUncurbed asked (call.DeleteText text) → is_refused (Some (answer_to asked (call.DeleteText text))) ≡ false
deletion-accepted asked text strongly positive there uncurbed =
    let guard : text_guard asked.db (caller asked) text ≡ None =
    found-guard (text == 0) (reads asked.db (caller asked) text) true error.TEXT_ZERO error.NO_SUCH_TEXT text
    (unzero text positive) (reads-all asked.db (caller asked) strongly.strong text ∙ there) in
    let owns : owns_text asked.db (caller asked) text ≡ true =
    or_right (made_text asked.db (caller asked) text
    || supervises asked.db (caller asked).person (author_of asked.db text)) (caller asked).strong strongly.strong in
    ap (λ (body : Reply). is_refused (Some body)) (uncut asked (call.DeleteText text) uncurbed
    ∙ ap (λ (decision : Decision). decision.reply) (done-where (login_guard (caller asked))
    (text_guard asked.db (caller asked) text)
    (unless (owns_text asked.db (caller asked) text) error.PERMISSION_DENIED text)
    (done_with (gone_text asked.db text) []) (logged asked strongly) guard
    (ap (λ (b : Bool). unless b error.PERMISSION_DENIED text) owns)))

reply-accepted : (state : State) (pass moment number reference text by : ℕ) (short : Bool) →
    let made : Record = made_so pass moment (act.Call number reference (call.DeleteText text)) by short in
    IsSound state → IsStrong number state → 0 < text → IsThere state.db text →
    is_curbed (reply_in state made) ≡ false → is_refused (reply_in state made) ≡ false
reply-accepted state pass moment number reference text by true sound strong positive there uncurbed =
    absurd (true≢false uncurbed)
reply-accepted state pass moment number reference text by false sound strong positive there uncurbed =
    deletion-accepted (asked_in state (moment_of state moment) number reference) text
    (record { whole = sound.whole; strong = strong }) positive there uncurbed

-- what a deletion that is told leaves
record Deleted (state : State) (made : Record) (text : ℕ) (answer : Option Reply) : Type 0 where
  accepted : is_refused answer ≡ false
  quiet : passes is_quiet made.entry.act ≡ true
  others : (other : ℕ) → text < other → IsThere state.db other → IsThere (after state made).db other

stays-other : (refused : Bool) (text other : ℕ) → text < other →
    stays (cond refused [] (text ∷ [])) other ≡ true
stays-other true text other less = refl
stays-other false text other less =
    let apart : (text == other) ≡ false = ne_eqb text other (λ same. omega arith) in rw apart refl

deleted-so : (session : ℕ) (state : State) (pass moment number reference text by : ℕ) (short : Bool)
    (answer : Option Reply) →
    let made : Record = made_so pass moment (act.Call number reference (call.DeleteText text)) by short in
    IsSound state → Holds session state → 0 < text → IsThere state.db text → is_curbed answer ≡ false →
    reply_in state made ≡ answer → MayFollow state made → IsOf session made → Deleted state made text answer
deleted-so session state pass moment number reference text by short answer sound holds positive there uncurbed replied
    may of =
    let made : Record = made_so pass moment (act.Call number reference (call.DeleteText text)) by short in
    let strong = strong-call session state number reference (call.DeleteText text) (sym may.session ∙ own of)
    may.possible holds in
    let accepted = reply-accepted state pass moment number reference text by short sound strong positive there
    (ap is_curbed replied ∙ uncurbed) in
    record {
      accepted = sym (ap is_refused replied) ∙ accepted;
      quiet = refl;
      others = λ other less here.
          ap (λ (found : Option TextRow). is_some found)
          (leaves-rest.left (deleted_by state made) state.db (after state made).db other
          (record-leaves state made sound refl) (stays-other (is_refused (reply_in state made)) text other less)).row
          ∙ here;
    } where
      own : IsOf session (made_so pass moment (act.Call number reference (call.DeleteText text)) by short) →
          by ≡ session
      own (inl is) = is
      own (inr flush) = cc

deleted-act : (session : ℕ) (state : State) (pass moment : ℕ) (what : Act) (by : ℕ) (short : Bool) (text : ℕ)
    (answer : Option Reply) → let made : Record = made_so pass moment what by short in
    told_by state made ≡ tell (call.DeleteText text) answer ∷ [] → IsSound state → Holds session state → 0 < text →
    IsThere state.db text → is_curbed answer ≡ false → MayFollow state made → IsOf session made →
    Deleted state made text answer
deleted-act session state pass moment (act.Call number reference what) by short text answer is sound holds positive
    there uncurbed may of =
    let one : tell what (reply_in state (made_so pass moment (act.Call number reference what) by short))
    ≡ tell (call.DeleteText text) answer = cc is in
    let called : what ≡ call.DeleteText text = ap (λ (one : Told). one.call) one in
    let replied : reply_in state (made_so pass moment (act.Call number reference what) by short) ≡ answer =
    ap (λ (one : Told). one.reply) one in
    subst (λ (what : Call). reply_in state (made_so pass moment (act.Call number reference what) by short) ≡ answer →
    MayFollow state (made_so pass moment (act.Call number reference what) by short) →
    IsOf session (made_so pass moment (act.Call number reference what) by short) →
    Deleted state (made_so pass moment (act.Call number reference what) by short) text answer) (sym called)
    (deleted-so session state pass moment number reference text by short answer sound holds positive there uncurbed)
    replied may of
deleted-act session state pass moment (act.Connect user host) by short text answer is sound holds positive there
    uncurbed may of = cc
deleted-act session state pass moment (act.Broken number) by short text answer is sound holds positive there uncurbed
    may of = cc
deleted-act session state pass moment (act.Drain number) by short text answer is sound holds positive there uncurbed may
    of = cc
deleted-act session state pass moment act.Flush by short text answer is sound holds positive there uncurbed may of = cc
deleted-act session state pass moment (act.Close number) by short text answer is sound holds positive there uncurbed may
    of = cc

-- a text that is to be deleted, by its number
abbrev pub IsDeletable : Db → ℕ × Option Reply → Type 0
IsDeletable db one = (0 < one.0) × IsThere db one.0

-- No deletion of texts that are there, by rising numbers, is refused.
pub deletions-accepted : (session : ℕ) (state : State) (history : List Record) (gone : List (ℕ × Option Reply)) →
    IsSound state → Holds session state → IsLegal state history → AllByRecursion (IsOf session) history →
    told_along state history ≡ told_deletions gone → AllByRecursion (λ one. is_curbed one.1 ≡ false) gone →
    IsByNumber (λ (one : ℕ × Option Reply). one.0) gone → AllByRecursion (IsDeletable state.db) gone →
    AllByRecursion (λ one. is_refused one.1 ≡ false) gone
deletions-accepted session state history [] sound holds legal of is uncurbed rising there = tt
deletions-accepted session state [] ((text, answer) ∷ gone) sound holds legal of is uncurbed rising there = cc
deletions-accepted session state (made ∷ history) ((text, answer) ∷ gone) sound holds legal of is uncurbed rising
    there =
    let rest : List Told = told_along (after state made) history in
    elim (tells state made) [
      | Nothing none named quiet other reply ↦
          deletions-accepted session (after state made) history ((text, answer) ∷ gone)
          (IsSound-after state made legal.0.user sound)
          (holds-after session state made sound legal.0 of.0 quiet holds) legal.1 of.1
          (sym (ap (λ (told : List Told). told ++ rest) none) ∙ is) uncurbed rising
          (all-weaker (IsDeletable state.db) (IsDeletable (after state made).db) (λ one here. (
            here.0,
            ap (λ (found : Option TextRow). is_some found) (leaves-rest.left [] state.db (after state made).db one.0
                (other-leaves state made other) refl).row ∙ here.1,
          )) ((text, answer) ∷ gone) there)
      | OneCall number reference what kind one ↦
          let all : tell what (reply_in state made) ∷ rest ≡ tell (call.DeleteText text) answer ∷ told_deletions gone =
          sym (ap (λ (told : List Told). told ++ rest) one) ∙ is in
          let head : tell what (reply_in state made) ≡ tell (call.DeleteText text) answer = cc all in
          let tail : rest ≡ told_deletions gone = cc all in
          let deleted = deleted-act session state made.entry.pass made.entry.moment made.entry.act made.session
          made.short text answer (one ∙ ap (λ (first : Told). first ∷ []) head) sound holds there.0.0 there.0.1 uncurbed.0 legal.0
          of.0 in (
            deleted.accepted,
            deletions-accepted session (after state made) history gone (IsSound-after state made legal.0.user sound)
                (holds-after session state made sound legal.0 of.0 deleted.quiet holds) legal.1 of.1 tail uncurbed.1
                rising.1
                (all-both (λ (one : ℕ × Option Reply). text < one.0) (IsDeletable state.db)
                (IsDeletable (after state made).db) (λ one above here. (here.0, deleted.others one.0 above here.1)) gone
                rising.0 there.1),
          )
    ]

-- ---- which texts go
-- the texts that a call deletes that was answered so
abbrev pub deleted_told : Told → List ℕ
deleted_told one = if is_refused one.reply then [] else deleted_in one.call

deleted-one : (state : State) (pass moment : ℕ) (what : Act) (session : ℕ) (short : Bool) →
    let made : Record = made_so pass moment what session short in
    deleted_by state made ≡ flat_map deleted_told (told_by state made)
deleted-one state pass moment (act.Call number reference what) session short = sym (append-nil _)
deleted-one state pass moment (act.Connect user host) session short = refl
deleted-one state pass moment (act.Broken number) session short = refl
deleted-one state pass moment (act.Drain number) session short = refl
deleted-one state pass moment act.Flush session short = refl
deleted-one state pass moment (act.Close number) session short = refl

pub deleted-told : (state : State) (history : List Record) →
    deleted_along state history ≡ flat_map deleted_told (told_along state history)
deleted-told state [] = refl
deleted-told state (made ∷ history) =
    ap₂ (λ (first rest : List ℕ). first ++ rest)
    (deleted-one state made.entry.pass made.entry.moment made.entry.act made.session made.short)
    (deleted-told (after state made) history)
    ∙ sym (flat_map-append deleted_told (told_by state made) (told_along (after state made) history))

-- ---- a history in two parts
pub record Split (state : State) (history : List Record) (xs ys : List Told) : Type 0 where
  pub first : List Record
  pub second : List Record
  pub whole : history ≡ first ++ second
  pub told_first : told_along state first ≡ xs
  pub told_second : told_along (state_after state first) second ≡ ys

split-more : (state : State) (made : Record) (history : List Record) (one xs ys : List Told) →
    told_by state made ≡ one → Split (after state made) history xs ys → Split state (made ∷ history) (one ++ xs) ys
split-more state made history one xs ys is parts = record {
  first = made ∷ parts.first;
  second = parts.second;
  whole = ap (λ (rest : List Record). made ∷ rest) parts.whole;
  told_first = ap₂ (λ (one rest : List Told). one ++ rest) is parts.told_first;
  told_second = parts.told_second;
}

pub split : (state : State) (history : List Record) (xs ys : List Told) → told_along state history ≡ xs ++ ys →
    Split state history xs ys
split state history [] ys is =
    record { first = []; second = history; whole = refl; told_first = refl; told_second = is }
split state [] (x ∷ xs) ys is = cc
split state (made ∷ history) (x ∷ xs) ys is =
    let rest : List Told = told_along (after state made) history in
    elim (tells state made) [
      | Nothing none named quiet other reply ↦
          split-more state made history [] (x ∷ xs) ys none
          (split (after state made) history (x ∷ xs) ys (sym (ap (λ (told : List Told). told ++ rest) none) ∙ is))
      | OneCall number reference what kind one ↦
          let all : tell what (reply_in state made) ∷ rest ≡ x ∷ (xs ++ ys) =
          sym (ap (λ (told : List Told). told ++ rest) one) ∙ is in
          let head : tell what (reply_in state made) ≡ x = cc all in
          let tail : rest ≡ xs ++ ys = cc all in
          split-more state made history (x ∷ []) xs ys (one ∙ ap (λ (first : Told). first ∷ []) head)
          (split (after state made) history xs ys tail)
    ]

pub legal-apart : (state : State) (one two : List Record) → IsLegal state (one ++ two) →
    IsLegal state one × IsLegal (state_after state one) two
legal-apart state [] two legal = (tt, legal)
legal-apart state (made ∷ one) two legal =
    let rest = legal-apart (after state made) one two legal.1 in ((legal.0, rest.0), rest.1)
