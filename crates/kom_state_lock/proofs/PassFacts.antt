-- A pass, as contracts see it, and its seat.
use Rattle.std.proofs.Common.{◌≡◌, ℕ, false, refl, List, Option, sym, ap, ◌∙◌, subst}
use Rattle.atomic_table.specs.Table.{Me}
use Rattle.kom_state_lock.specs.declared.views.Turn.TheVariants.{Resting, Waiting, Holding, Logged, Spent, Closed}
use Rattle.kom_state_lock.specs.declared.views.Turn.{Turn}
use Rattle.kom_state_lock.specs.declared.views.View.{View}
use Rattle.kom_state_lock.specs.Views.{after_log, slots_in, is_over, is_served}
use Rattle.kom_state_lock.specs.Passes.{IsPass, HoldsNoTurn}

module _ {B E : Type 0} where
  -- a pass that has logged is a pass
  pub logged_is_pass : (number : ℕ) (refused : Option ℕ) (me n : Me (Option B) (View B E)) (ticket : ℕ) (taken : B)
      (before : List E) (entry : E) (left : B)
      → IsPass number refused me → me.0.turn ≡ Holding ticket taken before → n ≡ (after_log entry left me.0, me.1)
      → IsPass number refused n
  logged_is_pass number refused me n ticket taken before entry left is holds e =
      subst (λ m. IsPass number refused m) (sym e) record {
        numbered = is.numbered;
        carries = is.carries ∙ ap slots_in holds;
        full = is.full ∙ (let h = holds in cc);
        large = λ k waits. absurd cc;
        below = λ k waits. absurd cc;
      }

  pub free_goes : (turn : Turn B E) → HoldsNoTurn turn → is_over turn ≡ false
  free_goes Resting free = refl
  free_goes (Waiting ticket) free = refl
  free_goes (Holding ticket taken before) free = absurd free
  free_goes (Logged ticket left) free = absurd free
  free_goes Spent free = absurd free
  free_goes Closed free = absurd free

  pub free_idle : (turn : Turn B E) → HoldsNoTurn turn → is_served turn ≡ false
  free_idle Resting free = refl
  free_idle (Waiting ticket) free = refl
  free_idle (Holding ticket taken before) free = absurd free
  free_idle (Logged ticket left) free = absurd free
  free_idle Spent free = absurd free
  free_idle Closed free = absurd free
