-- What acts that are no calls make of two states that are the same for a group.
use Rattle.std.specs.Prelude.{◌≡◌, ℕ, Bool, true, false, not, Some, None, IsTrue}
use Rattle.kom_types.specs.declared.acts.Act.{Act}
use Rattle.kom_types.specs.declared.acts.Act.TheVariants as act
use Rattle.kom_types.specs.declared.acts.Record.{Record}
use Rattle.kom_model.specs.After.{after}
use Rattle.kom_model.specs.Kinds.{is_among}
use Rattle.kom_model.specs.Legal.{session_served}
use Rattle.kom_model.specs.Out.{given_from}
use Rattle.kom_model.specs.Refusal.{refusal_of}
use Rattle.kom_model.specs.State.{State}
use Rattle.kom_laws.specs.Groups.{Group}
use Rattle.kom_laws.specs.Erasing.{erase}

abbrev pub is_call : Act → Bool
is_call (act.Connect user host) = false
is_call (act.Call session reference call) = true
is_call (act.Broken session) = false
is_call (act.Drain session) = false
is_call act.Flush = false
is_call (act.Close session) = false

-- an act is of a session of the group, or of none that is there
abbrev pub is_by : Group → Act → Bool
is_by group what = elim (session_served what) [
  | None ↦ true
  | Some session ↦ is_among group.sessions session
]

-- Two states that are the same but for what is hidden from a group refuse the same acts of its
-- sessions, and give these the same items; and any act that is no call, whoever makes it, leaves
-- such states.
pub record ActsStandErased : Type 0 where
  pub refused : (group : Group) (one other : State) (what : Act)
      → erase group one ≡ erase group other → IsTrue (is_by group what)
      → refusal_of one what ≡ refusal_of other what
  pub given : (group : Group) (one other : State) (session : ℕ)
      → erase group one ≡ erase group other → IsTrue (is_among group.sessions session)
      → given_from session one ≡ given_from session other
  pub after : (group : Group) (one other : State) (made : Record)
      → erase group one ≡ erase group other → IsTrue (not (is_call made.entry.act))
      → erase group (after one made) ≡ erase group (after other made)
