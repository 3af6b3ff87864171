-- How far the service of a session has come.
use Rattle.std.specs.Prelude.{◌≡◌, ℕ, ◌⊎◌, Bool, true, false, IsTrue, List, [], ◌∷◌, ◌++◌, length}
use Rattle.std.specs.List.{list_all}
use Rattle.kom_types.specs.declared.acts.Act.TheVariants as act
use Rattle.kom_types.specs.declared.acts.Record.{Record}
use Rattle.kom_types.specs.declared.items.Item.{Item}
use Rattle.kom_types.specs.Reading.{Request}
use Rattle.kom_links.specs.Records.{IsOpen}
use Rattle.kom_links.specs.Talk.{Step, Connects, Asks, Breaks, Flushes, Drains, Closes, steps_of}
use Rattle.kom_links.specs.Talk.{requests_in, drains_in, breaks_in, IsSpaced}

-- neither a Connect nor a call, nor that the stream is at fault
abbrev pub is_still : Step → Bool
is_still (Connects user host) = false
is_still (Asks request) = false
is_still Breaks = false
is_still Flushes = true
is_still (Drains items) = true
is_still Closes = true

-- All that the session did before was flushed.
abbrev pub IsFlushed : List Step → Type 0
IsFlushed steps =
    (before after : List Step) × (steps ≡ before ++ Flushes ∷ after)
    × IsTrue (list_all is_still after)

-- All that the session did before was flushed, and then drained until nothing was given.
abbrev pub IsSettled : List Step → Type 0
IsSettled steps =
    (before between after : List Step) × (steps ≡ before ++ Flushes ∷ between ++ Drains [] ∷ after)
    × IsTrue (list_all is_still between) × IsTrue (list_all is_still after) × (drains_in after ≡ 0)

-- so many calls were made since the last that was settled
abbrev pub IsRecent : ℕ → List Step → Type 0
IsRecent lines steps = (settled recent : List Step) × (steps ≡ settled ++ recent)
    × ((requests_in settled ≡ []) ⊎ IsSettled settled) × (length (requests_in recent) ≡ lines)

-- whether it was said that the stream is at fault; if so, once and after all calls
abbrev pub IsAtFault : Bool → List Step → Type 0
IsAtFault false steps = breaks_in steps ≡ 0
IsAtFault true steps = (before after : List Step) × (steps ≡ before ++ Breaks ∷ after)
    × (breaks_in before ≡ 0) × (breaks_in after ≡ 0) × (requests_in after ≡ [])

-- the first of these records is the session's Connect
abbrev pub IsConnected : ℕ → List ℕ → List ℕ → List Record → Type 0
IsConnected session host user added =
    (first : Record) × (rest : List Record) × (added ≡ first ∷ rest)
    × (first.entry.act ≡ act.Connect user host) × (first.session ≡ session)

-- The records that were added in the service of one session of this user at this host: it made
-- these calls, in order, and its drains gave these items.
pub record IsCourse (session : ℕ) (host user : List ℕ) (requests : List Request) (fault : Bool)
    (added : List Record) (given : List (List Item)) : Type 0 where
  pub connected : IsConnected session host user added
  pub asked : requests_in (steps_of session added given) ≡ requests
  pub drains : drains_in (steps_of session added given) ≡ length given
  pub at_fault : IsAtFault fault (steps_of session added given)
  pub spaced : IsSpaced (steps_of session added given)
  pub is_open : IsOpen session added
