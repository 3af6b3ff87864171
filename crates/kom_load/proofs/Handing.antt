-- What a core has made.
use Rattle.std.proofs.Common.{◌≡◌, ℕ, Bool, false, refl, ap, ◌∙◌, subst}
use Rattle.std.specs.Prelude.{Ok}
use Rattle.kom_types.specs.declared.acts.Act.{Act}
use Rattle.kom_types.specs.declared.acts.Entry.{Entry}
use Rattle.kom_types.specs.declared.acts.Record.{Record}
use Rattle.kom_model.specs.State.{State}
use Rattle.kom_model.specs.After.{MayFollow, after, session_in}
use Rattle.kom_core.specs.Acts.{CoreComes}
use Rattle.kom_load.specs.Loading.{record_of, lone_act}
use Rattle.kom_load.specs.Steps.{Leads}

abbrev entry_of : ℕ → Act → Entry
entry_of moment what = record { pass = 0; moment = moment; act = what }

record-is : (one : Record) (entry : Entry) (session : ℕ) (short : Bool) → one.entry ≡ entry →
    one.session ≡ session → one.short ≡ short → one ≡ record { entry = entry; session = session; short = short }
record-is one entry session short entries sessions shorts = rw (← entries, ← sessions, ← shorts) refl

leads-one : {old new : State} (moment : ℕ) (what : Act) (one : Record) → MayFollow old one → new ≡ after old one →
    one ≡ record_of moment (session_in old what) what → Leads old (lone_act moment (session_in old what) what) new
unfolding lone_act
leads-one {old} {new} moment what one follows is same = record {
  legal = (subst (MayFollow old) same follows, tt);
  state = is ∙ ap (after old) same;
}

-- an act that was made, and whose record is not short
pub leads-handed : (old : State) (moment : ℕ) (what : Act) (new : State) (one : Record) →
    CoreComes old (entry_of moment what) new (Ok one) → one.short ≡ false →
    Leads old (lone_act moment (session_in old what) what) new
leads-handed old moment what new one comes long =
    let is = comes.0 in
    let session : one.session ≡ session_in old what =
    is.follows.session ∙ ap (λ (given : Entry). session_in old given.act) is.entry_made in
    leads-one moment what one is.follows is.state (record-is one _ _ _ is.entry_made session long)
