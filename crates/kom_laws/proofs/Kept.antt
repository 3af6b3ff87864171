-- In a sound state all effects fit that a call decides, and so a store keeps them all.
use Rattle.std.proofs.Common.{◌≡◌, ℕ, Bool, true, false, cond, List, [], refl, ap, ◌∙◌}
use Rattle.kom_types.specs.declared.acts.Act.{Act}
use Rattle.kom_types.specs.declared.acts.Act.TheVariants as act
use Rattle.kom_types.specs.declared.acts.Record.{Record}
use Rattle.kom_types.specs.declared.effects.Effect.{Effect}
use Rattle.kom_model.specs.State.{State, IsSound}
use Rattle.kom_model.specs.Decide.{asked_in}
use Rattle.kom_model.specs.Effects.{all_fit, fitting_effects}
use Rattle.kom_model.specs.After.{moment_of}
use Rattle.kom_model.specs.Kept.{effects_of, kept_of}
use Rattle.kom_model.proofs.Kept.{fitting-all}
use Rattle.kom_laws.proofs.Calls.{decided-fit}

sound_step : (state : State) (pass moment : ℕ) (what : Act) → IsSound state →
    all_fit (effects_of state (record { pass = pass; moment = moment; act = what })) state.db ≡ true
sound_step state pass moment (act.Connect user host) sound = refl
sound_step state pass moment (act.Call session reference call) sound =
    decided-fit (asked_in state (moment_of state moment) session reference) call sound.whole sound.seated
sound_step state pass moment (act.Broken session) sound = refl
sound_step state pass moment (act.Drain session) sound = refl
sound_step state pass moment act.Flush sound = refl
sound_step state pass moment (act.Close session) sound = refl

pub sound-fit : (state : State) (made : Record) → IsSound state →
    all_fit (effects_of state made.entry) state.db ≡ true
sound-fit state made sound = sound_step state made.entry.pass made.entry.moment made.entry.act sound

pub kept-decided : (state : State) (made : Record) → IsSound state → made.short ≡ false →
    kept_of state made ≡ effects_of state made.entry
kept-decided state made sound whole =
    let effects : List Effect = effects_of state made.entry in
    ap (λ (short : Bool). cond short [] (fitting_effects effects state.db)) whole
    ∙ fitting-all effects state.db (sound-fit state made sound)
