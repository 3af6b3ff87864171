-- What the last seat of a hall knows, as passes are joined into it and the hall is closed.
use Rattle.std.specs.Prelude.{◌≡◌, ℕ, ◌<◌, ◌≤◌, ◌⊎◌, List, []}
use mathlib.Core.List.{IsPrefix}
use mathlib.Core.Option as maybe
use lib.ListN.{get_elem?}
use Rattle.kom_state_lock.specs.declared.views.Share.{Share}
use Rattle.kom_state_lock.specs.declared.views.View.{View}
use Rattle.kom_state_lock.specs.Views.{entries_of}
use Rattle.kom_state_lock.specs.Passes.{PassModel}

-- x stands somewhere in the list
abbrev pub Among : {A : Type 0} → List A → A → Type 0
Among xs x = (k : ℕ) × (get_elem? xs k ≡ maybe.some x)

abbrev pub HasShare : {E : Type 0} → List (Share E) → ℕ → List E → Type 0
HasShare shares number mine = Among shares (record { number = number; mine = mine })

module _ {B E : Type 0} where
  -- what a seat knows of a pass that was joined into it, or is its own
  pub record IsIn (v : View B E) (pass : PassModel B E) : Type 0 where
    pub mine : ((pass.number ≡ v.number) × (pass.mine ≡ v.mine))
        ⊎ HasShare v.joined pass.number pass.mine
    pub seen : (pass.seen ≡ v.seen) ⊎ Among v.beginnings pass.seen
    pub drawn : pass.drawn ≤ v.drawn

  -- all numbers of a hall are the seat's own, or of passes that were joined into it
  abbrev pub Covers : ℕ → View B E → Type 0
  Covers passes v = (n : ℕ) → n < passes → (n ≡ v.number)
      ⊎ ((k : ℕ) × (share : Share E) × (get_elem? v.joined k ≡ maybe.some share)
      × (share.number ≡ n))

  -- the last seat has a number of the hall, and what it has seen is the whole history: each pass's
  -- entries are all of its number, what it had seen is a beginning, and no other pass has entries
  pub record IsSettled (pass_of : E → ℕ) (passes : ℕ) (v : View B E) : Type 0 where
    pub within : v.number < passes
    pub mine : v.mine ≡ entries_of pass_of v.number v.seen
    pub joined : (k : ℕ) (share : Share E) → get_elem? v.joined k ≡ maybe.some share
        → share.mine ≡ entries_of pass_of share.number v.seen
    pub beginnings : (k : ℕ) (seen : List E) → get_elem? v.beginnings k ≡ maybe.some seen
        → IsPrefix seen v.seen
    pub strangers : (n : ℕ) → passes ≤ n → entries_of pass_of n v.seen ≡ []
