-- What a desk in memory keeps to.
use Rattle.std.specs.Prelude.{◌≡◌, ℕ, ◌+◌, ◌<◌, ◌≤◌, ◌^◌, nat_le, Bool, false, List, [], count_by}
use Rattle.std.specs.List.{range_with_len}
use Rattle.kom_types.specs.declared.acts.Act.{Act}
use Rattle.kom_types.specs.declared.acts.Act.TheVariants as act
use Rattle.kom_types.specs.declared.acts.Record.{Record}
use Rattle.kom_types.specs.declared.answers.NotMade.{NotMade}
use Rattle.kom_types.specs.declared.answers.NotMade.TheVariants as fault
use Rattle.kom_links.specs.Records.{has_session, is_open}
use Rattle.memory_links.specs.declared.planned_items.Drained.{Drained}
use Rattle.memory_links.specs.PlannedItems.{given_in}

-- a fault says that no turn of the lock is left
abbrev pub says_lock_full : NotMade → Bool
says_lock_full (fault.Gone why) = false
says_lock_full (fault.Full number) = nat_le (2 ^ 62) number
says_lock_full fault.Memory = false

-- the act neither connects nor closes a session
abbrev pub IsBetween : Act → Type 0
IsBetween (act.Connect user host) = ⊥
IsBetween (act.Call session reference call) = Unit {0}
IsBetween (act.Broken session) = Unit {0}
IsBetween (act.Drain session) = Unit {0}
IsBetween act.Flush = Unit {0}
IsBetween (act.Close session) = ⊥

-- how many of the sessions with the numbers up to this one are open
abbrev pub count_open : ℕ → List Record → ℕ
count_open last records =
    count_by (λ session. is_open session records) (range_with_len 0 (last + 1))

-- So many sessions were connected, with the numbers from 1: nothing was recorded of, or given to,
-- one with a higher number, and there is room for as many records as there are open sessions.
pub record Stands (sessions : ℕ) (records : List Record) (drains : List Drained)
    (room : ℕ) : Type 0 where
  pub absent : (session : ℕ) → sessions < session → has_session session records ≡ false
  pub ungiven : (session : ℕ) → sessions < session → given_in drains session ≡ []
  pub counted : count_open sessions records ≤ room
