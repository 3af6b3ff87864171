-- What delete-text makes of whole rows, refused or not.
use Rattle.std.proofs.Common.{◌≡◌, ℕ, Bool, true, false, List, [], ◌∷◌, Option, Some, refl, sym, ap, ◌∙◌}
use Rattle.std.proofs.Common.{true≢false, inl, inr, subst, not, ◌||◌}
use Rattle.std.specs.Prelude.{is_some}
use Rattle.std.proofs.lemmas.Bool.{cases_Bool}
use Rattle.kom_types.specs.declared.acts.Act.{Act}
use Rattle.kom_types.specs.declared.acts.Act.TheVariants as act
use Rattle.kom_types.specs.declared.acts.Record.{Record}
use Rattle.kom_types.specs.declared.calls.Call.{Call}
use Rattle.kom_types.specs.declared.calls.Call.TheVariants as call
use Rattle.kom_types.specs.declared.decisions.Decision.{Decision}
use Rattle.kom_types.specs.declared.effects.Effect.{Effect}
use Rattle.kom_types.specs.declared.errors.TheConstants as error
use Rattle.kom_types.specs.declared.replies.Reply.{Reply}
use Rattle.kom_types.specs.declared.replies.Reply.TheVariants as reply
use Rattle.kom_model.specs.After.{after, reply_in, moment_of}
use Rattle.kom_model.specs.Db.{Db, text_of}
use Rattle.kom_model.specs.Decide.{asked_in, decision_of}
use Rattle.kom_model.specs.Effects.{apply_all}
use Rattle.kom_model.specs.Kept.{kept_of}
use Rattle.kom_model.specs.State.{State}
use Rattle.kom_model.specs.ToWhom as ToWhom
use Rattle.kom_model.specs.Whole.{IsWhole}
use Rattle.kom_model.specs.calls.Call.{Asked}
use Rattle.kom_model.specs.calls.Guards.{caller, login_guard, text_guard, unless}
use Rattle.kom_model.specs.calls.Texts.{gone_text, owns_text}
use Rattle.kom_model.proofs.Deciding.{decision-meets}
use Rattle.kom_model.proofs.Kept.{kept_makes, apply_all-fitting}
use Rattle.kom_laws.proofs.Refusing.{refused-keeps}
use Rattle.kom_laws.proofs.fitting.Guards.{all-pass, text-there}
use Rattle.kom_sweep.specs.Replies.{is_refused}
use Rattle.sweep_laws.specs.Leaving.{DeletionLeaves, deleted_in, named_in}
use Rattle.sweep_laws.specs.Without.{without_texts, stays, stays_link, stays_item}
use Rattle.kom_laws.proofs.masking.Effects.{same-db}
use Rattle.sweep_laws.proofs.Gone.{text-taken}
use Rattle.sweep_laws.proofs.Kept.{filter-all}

-- ---- without none
or-true : (b : Bool) → (b || true) ≡ true
or-true true = refl
or-true false = refl

pub none-without : (db : Db) → without_texts [] db ≡ db
none-without db = same-db refl refl refl refl
    (filter-all (λ row. stays [] row.number) (λ row. refl) db.texts)
    (filter-all (λ row. stays [] row.text) (λ row. refl) db.recipients)
    (filter-all (stays_link []) (λ row. refl) db.links)
    (filter-all (λ row. stays [] row.text) (λ row. refl) db.marks)
    (filter-all (stays_item []) (λ row. or-true (not row.on_text)) db.items) refl refl

-- ---- a refusal
-- the code and the status with which a reply refuses
pub record Refuses (answer : Option Reply) : Type 0 where
  pub code : ℕ
  pub status : ℕ
  pub is : answer ≡ Some (reply.Refused code status)

pub refused-so : (answer : Option Reply) → is_refused answer ≡ true → Refuses answer
refused-so (Some (reply.Refused code status)) is = record { code = code; status = status; is = refl }
refused-so other is = absurd (true≢false (sym is))

pub refused-rows : (state : State) (made : Record) → is_refused (reply_in state made) ≡ true →
    (after state made).db ≡ state.db
refused-rows state made is = let so = refused-so (reply_in state made) is in
    refused-keeps state made so.code so.status so.is

-- of a reply that is there
pub as-refused : (answer : Reply) → is_refused (Some answer) ≡ ToWhom.is_refused answer
as-refused (reply.Refused code status) = refl
as-refused other = refl

-- ---- a deletion that is not refused
record Deletes (asked : Asked) (text : ℕ) (decision : Decision) : Type 0 where
  effects : decision.effects ≡ gone_text asked.db text
  there : is_some (text_of asked.db text) ≡ true

deletes : (asked : Asked) (text : ℕ) →
    ToWhom.is_refused (decision_of asked (call.DeleteText text)).reply ≡ false →
    Deletes asked text (decision_of asked (call.DeleteText text))
deletes asked text = decision-meets (λ decision. ToWhom.is_refused decision.reply ≡ false → Deletes asked text decision)
    (λ why accepted. absurd (true≢false accepted)) asked (call.DeleteText text) (λ passes accepted.
    let pass = all-pass (login_guard (caller asked) ∷ text_guard asked.db (caller asked) text
    ∷ unless (owns_text asked.db (caller asked) text) error.PERMISSION_DENIED text ∷ []) passes in
    record { effects = refl; there = text-there asked.db (caller asked) text pass.1.0 })

kept-deleted : (state : State) (pass moment session reference text number : ℕ) (short : Bool) →
    let made : Record = record {
      entry = record { pass = pass; moment = moment; act = act.Call session reference (call.DeleteText text) };
      session = number;
      short = short;
    } in
    IsWhole state.db → is_refused (reply_in state made) ≡ false →
    apply_all (kept_of state made) state.db ≡ without_texts (text ∷ []) state.db
kept-deleted state pass moment session reference text number true whole accepted = absurd (true≢false accepted)
kept-deleted state pass moment session reference text number false whole accepted =
    let asked : Asked = asked_in state (moment_of state moment) session reference in
    let decision : Decision = decision_of asked (call.DeleteText text) in
    let deleted = deletes asked text (sym (as-refused decision.reply) ∙ accepted) in
    apply_all-fitting decision.effects state.db
    ∙ ap (λ (effects : List Effect). apply_all effects state.db) deleted.effects
    ∙ text-taken text state.db whole deleted.there

named-deleted : (what : Call) (text : ℕ) → deleted_in what ≡ text ∷ [] → what ≡ call.DeleteText text
named-deleted (call.DeleteText number) text is = ap call.DeleteText (first is) where
  first : number ∷ [] ≡ text ∷ [] → number ≡ text
  first is = cc
named-deleted other text is = cc

module _ (state : State) (pass moment session reference number : ℕ) (short : Bool) where
  -- the record of a call
  abbrev called : Call → Record
  called what = record {
    entry = record { pass = pass; moment = moment; act = act.Call session reference what };
    session = number;
    short = short;
  }

  by-call : (what : Call) (text : ℕ) → what ≡ call.DeleteText text → IsWhole state.db →
      is_refused (reply_in state (called what)) ≡ false →
      apply_all (kept_of state (called what)) state.db ≡ without_texts (text ∷ []) state.db
  by-call what text is whole =
      subst (λ (other : Call). is_refused (reply_in state (called other)) ≡ false →
      apply_all (kept_of state (called other)) state.db ≡ without_texts (text ∷ []) state.db) (sym is)
      (kept-deleted state pass moment session reference text number short whole)

by-act : (state : State) (pass moment : ℕ) (what : Act) (number : ℕ) (short : Bool) (text : ℕ) →
    let made : Record = record {
      entry = record { pass = pass; moment = moment; act = what };
      session = number;
      short = short;
    } in
    IsWhole state.db → named_in what ≡ text ∷ [] → is_refused (reply_in state made) ≡ false →
    apply_all (kept_of state made) state.db ≡ without_texts (text ∷ []) state.db
by-act state pass moment (act.Call session reference what) number short text whole named accepted =
    by-call state pass moment session reference number short what text (named-deleted what text named) whole accepted
by-act state pass moment (act.Connect user host) number short text whole named accepted = cc
by-act state pass moment (act.Broken session) number short text whole named accepted = cc
by-act state pass moment (act.Drain session) number short text whole named accepted = cc
by-act state pass moment act.Flush number short text whole named accepted = cc
by-act state pass moment (act.Close session) number short text whole named accepted = cc

pub deletion-leaves : DeletionLeaves
deletion-leaves state made text whole named = elim (cases_Bool (is_refused (reply_in state made))) [
  | inl refused ↦ rw refused (refused-rows state made refused ∙ sym (none-without state.db))
  | inr accepted ↦ rw (accepted, named) (sym (kept_makes state made)
      ∙ by-act state made.entry.pass made.entry.moment made.entry.act made.session made.short text whole named accepted)
]
