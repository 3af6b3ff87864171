-- What is kept of a record: it fits, and makes of the rows what the record makes of them.
use Rattle.std.proofs.Common.{◌≡◌, ℕ, Bool, true, false, cond, List, [], ◌∷◌, refl, sym, ap, ◌∙◌, subst}
use Rattle.std.proofs.Common.{true≢false}
use Rattle.std.specs.Prelude.{◌&&◌}
use Rattle.kom_types.specs.declared.acts.Act.{Act}
use Rattle.kom_types.specs.declared.acts.Act.TheVariants as act
use Rattle.kom_types.specs.declared.acts.Record.{Record}
use Rattle.kom_types.specs.declared.decisions.Decision.{Decision}
use Rattle.kom_types.specs.declared.effects.Effect.{Effect}
use Rattle.kom_types.specs.Sessions.{waiting_limits}
use Rattle.kom_model.specs.Db.{Db}
use Rattle.kom_model.specs.State.{State}
use Rattle.kom_model.specs.Effects.{fits, after_effect, apply, apply_all, all_fit, fitting_effects}
use Rattle.kom_model.specs.After.{moment_of, deliveries, decision_at, after_act, after}
use Rattle.kom_model.specs.Kept.{effects_of, kept_of}
use Rattle.kom_model.proofs.Protection.{and-first, and-second}
use Rattle.kom_model.proofs.Queueing.{queue_all-rows}
use Rattle.kom_model.proofs.Changing.{make_changes-rows}

-- an effect that does not fit changes nothing
unchanged : (what : Effect) (db : Db) → fits what db ≡ false → apply what db ≡ db
unchanged what db unfit = ap (λ (b : Bool). cond b (after_effect what db) db) unfit

both : (a b : Bool) → a ≡ true → b ≡ true → (a && b) ≡ true
both a b first second = rw first second

pub all_fitted : (effects : List Effect) (db : Db) → all_fit (fitting_effects effects db) db ≡ true
all_fitted [] db = refl
all_fitted (what ∷ effects) db =
    let rest : List Effect = fitting_effects effects (apply what db) in
    let fitted : all_fit rest (apply what db) ≡ true = all_fitted effects (apply what db) in
    elim (fits what db) as (λ b. fits what db ≡ b → all_fit (cond b (what ∷ rest) rest) db ≡ true) [
      | true ↦ λ fit. both (fits what db) (all_fit rest (apply what db)) fit fitted
      | false ↦ λ unfit. subst (λ (d : Db). all_fit rest d ≡ true) (unchanged what db unfit) fitted
    ] refl

pub apply_all-fitting : (effects : List Effect) (db : Db) →
    apply_all (fitting_effects effects db) db ≡ apply_all effects db
apply_all-fitting [] db = refl
apply_all-fitting (what ∷ effects) db =
    let rest : List Effect = fitting_effects effects (apply what db) in
    let made_so : apply_all rest (apply what db) ≡ apply_all effects (apply what db) =
    apply_all-fitting effects (apply what db) in
    elim (fits what db) as (λ b. fits what db ≡ b →
    apply_all (cond b (what ∷ rest) rest) db ≡ apply_all effects (apply what db)) [
      | true ↦ λ fit. made_so
      | false ↦ λ unfit. ap (λ (d : Db). apply_all rest d) (sym (unchanged what db unfit)) ∙ made_so
    ] refl

pub fitting-all : (effects : List Effect) (db : Db) → all_fit effects db ≡ true → fitting_effects effects db ≡ effects
fitting-all [] db all = refl
fitting-all (what ∷ effects) db all =
    let rest : List Effect = fitting_effects effects (apply what db) in
    let first : fits what db ≡ true = and-first (fits what db) (all_fit effects (apply what db)) all in
    let more : all_fit effects (apply what db) ≡ true =
    and-second (fits what db) (all_fit effects (apply what db)) all in
    elim (fits what db) as (λ b. fits what db ≡ b → cond b (what ∷ rest) rest ≡ what ∷ effects) [
      | true ↦ λ fit. ap (λ (list : List Effect). what ∷ list) (fitting-all effects (apply what db) more)
      | false ↦ λ unfit. absurd (true≢false (sym first ∙ unfit))
    ] refl

pub kept_fits : (state : State) (made : Record) → all_fit (kept_of state made) state.db ≡ true
kept_fits state made = elim made.short as
    (λ b. all_fit (cond b [] (fitting_effects (effects_of state made.entry) state.db)) state.db
    ≡ true) [
      | true ↦ refl
      | false ↦ all_fitted (effects_of state made.entry) state.db
    ]

kept_step : (state : State) (pass moment : ℕ) (what : Act) (session : ℕ) (short : Bool) →
    let made : Record = record {
      entry = record { pass = pass; moment = moment; act = what };
      session = session;
      short = short;
    } in
    apply_all (kept_of state made) state.db ≡ (after_act state made).db
kept_step state pass moment (act.Connect user host) session true = refl
kept_step state pass moment (act.Connect user host) session false = refl
kept_step state pass moment (act.Call number reference call) session true = refl
kept_step state pass moment (act.Call number reference call) session false =
    let decision : Decision = decision_at state moment number reference call in
    apply_all-fitting decision.effects state.db
    ∙ sym (ap (λ (s : State). s.db) (make_changes-rows (moment_of state moment) decision.changes
    (record state { db = apply_all decision.effects state.db })))
kept_step state pass moment (act.Broken number) session true = refl
kept_step state pass moment (act.Broken number) session false = refl
kept_step state pass moment (act.Drain number) session true = refl
kept_step state pass moment (act.Drain number) session false = refl
kept_step state pass moment act.Flush session true = refl
kept_step state pass moment act.Flush session false = refl
kept_step state pass moment (act.Close number) session true = refl
kept_step state pass moment (act.Close number) session false = refl

pub kept_makes : (state : State) (made : Record) → apply_all (kept_of state made) state.db ≡ (after state made).db
kept_makes state made =
    kept_step state made.entry.pass made.entry.moment made.entry.act made.session made.short
    ∙ sym (ap (λ (s : State). s.db) (queue_all-rows waiting_limits (deliveries state made) (after_act state made)))
