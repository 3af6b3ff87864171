-- The cases that a command comes to, by what kind of command it is.
use Rattle.std.proofs.Common.{◌≡◌, ◌⊎◌, ◌↔◌, inl, inr, ℕ, Bool, true, false, Option, Some, None, refl, sym, ◌∙◌}
use Rattle.std.proofs.lemmas.Bool.{false≢true}
use Rattle.std.specs.Prelude.{IsTrue, IsSome, IsNone, is_some}
use Rattle.kom_commands.specs.declared.cases.Cases.{Cases}
use Rattle.kom_commands.specs.declared.words.Command.{Command}
use Rattle.kom_commands.specs.declared.words.Command.TheVariants as command
use Rattle.kom_commands.specs.Words.{serves, names_store}
use Rattle.kom_book.specs.declared.ticked.Ticked.{Ticked}
use Rattle.store_check.specs.Stores.{IsWrong, IsUnswept}
use Rattle.kom_serving.specs.Runs.{Service}
use Rattle.kom_server.specs.Statuses.{StoreFails, GateFails, FitsCases}
use Rattle.kom_server.proofs.Carried.{also, neither, there_and, there_or}

-- either of two facts, where one of them is told so
pub gate_either : (F A H B R : Type 0) → (F ↔ (A ⊎ B)) → (A ↔ H) → (B ↔ R) → (F ↔ (R ⊎ H))
gate_either F A H B R so one other = (
  λ failed. elim (so.0 failed) [ inl a ↦ inr (one.0 a) | inr b ↦ inl (other.0 b) ],
  λ either. so.1 (elim either [ inl r ↦ inr (other.1 r) | inr h ↦ inl (one.1 h) ]),
)

-- of what is not there none has failed
pub alone : (F R : Type 0) → (F ↔ R) → (F ↔ (R ⊎ ⊥))
alone F R so = (λ failed. inl (so.0 failed), λ either. elim either [ inl r ↦ so.1 r | inr none ↦ absurd none ])

pub gate_alone : (gate told : Bool) (R : Type 0) → gate ≡ told → (IsTrue told ↔ R) → (IsTrue gate ↔ (R ⊎ ⊥))
gate_alone gate told R same so =
    alone (IsTrue gate) R (λ failed. so.0 (sym same ∙ failed), λ r. same ∙ so.1 r)

module _ {D L : Type 0} (faults : D → ℕ) where
  -- a command that serves
  pub served_fits : (said : Command) (failed : Type 0) (cases : Cases) (disk : Option D)
      (end : Option (Service (Ticked D) L)) → serves said ≡ true →
      (IsTrue cases.store_failed ↔ StoreFails faults (IsTrue (names_store said) × failed) disk end) →
      (IsTrue cases.gate_failed ↔ GateFails failed end) →
      (IsTrue cases.is_unfit → IsTrue (names_store said) × IsNone end) → (IsTrue cases.no_memory → IsNone end) →
      IsWrong cases ⊎ IsSome end → IsUnswept cases → FitsCases faults said failed cases disk end
  served_fits said failed cases disk end is store gate named unserved served unswept = record {
    store = store;
    gate = also (serves said) is gate;
    named = named;
    unserved = λ serving. unserved;
    serves = λ serving. served;
    swept = inl unswept;
    sweeps = λ person other. served;
  }

  -- a command that only writes a report, and sweeps nothing
  pub report_fits : (said : Command) (failed : Type 0) (cases : Cases) (disk : Option D)
      (end : Option (Service (Ticked D) L)) → serves said ≡ false →
      ((person : ℕ) → said ≡ command.Sweep person → ⊥) →
      (IsTrue cases.store_failed ↔ StoreFails faults (IsTrue (names_store said) × failed) disk end) →
      cases.gate_failed ≡ false → (IsTrue cases.is_unfit → IsTrue (names_store said) × IsNone end) →
      IsUnswept cases → FitsCases faults said failed cases disk end
  report_fits said failed cases disk end idle other store gate named unswept = record {
    store = store;
    gate = neither cases.gate_failed (serves said) gate idle;
    named = named;
    unserved = λ serving. absurd (false≢true (sym idle ∙ serving));
    serves = λ serving. absurd (false≢true (sym idle ∙ serving));
    swept = inl unswept;
    sweeps = λ person is. absurd (other person is);
  }

  -- a sweep
  pub sweep_fits : (person : ℕ) (failed : Type 0) (cases : Cases) (disk : Option D)
      (end : Option (Service (Ticked D) L)) →
      (IsTrue cases.store_failed ↔ StoreFails faults (IsTrue (names_store (command.Sweep person)) × failed) disk end) →
      cases.gate_failed ≡ false → (IsTrue cases.is_unfit → IsNone end) →
      (IsNone end → IsUnswept cases × IsWrong cases) →
      FitsCases faults (command.Sweep person) failed cases disk end
  sweep_fits person failed cases disk end store gate unfit opened = record {
    store = store;
    gate = neither cases.gate_failed false gate refl;
    named = λ is. (refl, unfit is);
    unserved = λ serving. absurd (false≢true serving);
    serves = λ serving. absurd (false≢true serving);
    swept = there_and _ _ (is_some end) (λ none. (opened none).0) (person, refl);
    sweeps = λ other is. there_or _ (is_some end) (λ none. (opened none).1);
  }

  -- a sweep of a store that was opened fails for no fact of the world
  pub sweep_there : (person : ℕ) (one other : Type 0) (cases : Cases) (disk : Option D)
      (end : Option (Service (Ticked D) L)) → is_some disk ≡ true →
      FitsCases faults (command.Sweep person) one cases disk end →
      FitsCases faults (command.Sweep person) other cases disk end
  sweep_there person one other cases None end there fits = absurd (false≢true there)
  sweep_there person one other cases (Some disk) end there fits = record {
    store = fits.store;
    gate = (λ is. absurd (false≢true (fits.gate.0 is).0), λ both. absurd (false≢true both.0));
    named = fits.named;
    unserved = fits.unserved;
    serves = fits.serves;
    swept = fits.swept;
    sweeps = fits.sweeps;
  }
