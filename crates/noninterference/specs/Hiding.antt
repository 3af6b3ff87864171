-- What the rights hide from a group changes nothing that it is sent.
use Rattle.std.specs.Prelude.{◌≡◌, ℕ, false, List, map, IsTrue, ◌⊎◌}
use Rattle.kom_types.specs.declared.acts.Entry.{Entry}
use Rattle.kom_types.specs.declared.acts.Record.{Record}
use Rattle.kom_model.specs.After.{MayFollow, after}
use Rattle.kom_model.specs.Kinds.{is_among}
use Rattle.kom_model.specs.Legal.{state_after}
use Rattle.kom_model.specs.Out.{queued_for, given_by, out_of, given_along}
use Rattle.kom_model.specs.State.{State, IsSound}
use Rattle.kom_laws.specs.Groups.{Group}
use Rattle.noninterference.specs.respect.Hidden.{MayDiffer, AreAlike}
use Rattle.noninterference.specs.respect.Quiet.{IsQuiet, AreQuietly, AreQuiet}
use Rattle.noninterference.specs.steps.Acts.{is_by}
use Rattle.noninterference.specs.steps.Same.{IsSameFor}

-- the entries of a history
abbrev pub entries_of : List Record → List Entry
entries_of history = map (λ made. made.entry) history

-- Two entries at one place: equal moments, and equal entries or acts that may be others.
abbrev pub StandAlike : Group → Entry → Entry → Type 0
StandAlike group one other =
    (one.moment ≡ other.moment) × ((one ≡ other) ⊎ MayDiffer group one.act other.act)

-- Two records are the same step to a group: the states after them are the same for it, and each of
-- its sessions is queued and given the same.
pub record IsSameStep (group : Group) (one : State) (made : Record) (other : State)
    (made' : Record) : Type 0 where
  pub states : IsSameFor group (after one made) (after other made')
  pub queued : (session : ℕ) → IsTrue (is_among group.sessions session)
      → queued_for session one made ≡ queued_for session other made'
  pub given : (session : ℕ) → IsTrue (is_among group.sessions session)
      → given_by one session made ≡ given_by other session made'

-- Output and step consistency, and local respect: from two sound states that are the same for a
-- group, two quiet records whose entries may stand at one place are the same step to it, whoever
-- makes them.
abbrev pub StepsHide : Type 0
StepsHide = (group : Group) (one other : State) (made made' : Record)
    → IsSound one → IsSound other → IsSameFor group one other
    → StandAlike group made.entry made'.entry → AreQuietly group one other made made'
    → IsSameStep group one made other made'

-- Output and step consistency of a group's own acts: from two such states, an act of one of its
-- sessions, or of none, that is quiet in the one is quiet in the other, if it may follow there and
-- is not short, and it is the same step to the group.
abbrev pub OwnStepsHide : Type 0
OwnStepsHide = (group : Group) (one other : State) (made made' : Record)
    → IsSound one → IsSound other → IsSameFor group one other
    → IsTrue (is_by group made.entry.act) → made.entry ≡ made'.entry
    → IsQuiet group one made → MayFollow other made' → made'.short ≡ false
    → IsSameStep group one made other made' × IsQuiet group other made'

-- a session is to be sent the same along two histories, and its drains give the same
pub record IsSentSame (session : ℕ) (one : State) (history : List Record) (other : State)
    (history' : List Record) : Type 0 where
  pub out : out_of one session history ≡ out_of other session history'
  pub given : given_along one session history ≡ given_along other session history'

-- Two histories are the same to a group: they lead to states that are the same for it, and each of
-- its sessions is sent the same along both.
pub record AreSameTo (group : Group) (one : State) (history : List Record) (other : State)
    (history' : List Record) : Type 0 where
  pub states : IsSameFor group (state_after one history) (state_after other history')
  pub sent : (session : ℕ) → IsTrue (is_among group.sessions session)
      → IsSentSame session one history other history'

-- Along a history from a state, whatever else may have been hidden from a group: it is the same to
-- the group as any history that is alike and quiet beside it, from any sound state that is the same
-- for the group.
abbrev pub IsHiding : State → List Record → Type 0
IsHiding one history = (group : Group) (other : State) (history' : List Record)
    → IsSound other → IsSameFor group one other
    → AreAlike group (entries_of history) (entries_of history')
    → AreQuiet group one history other history' → AreSameTo group one history other history'

-- Noninterference: every history from a sound state hides.
abbrev pub AllHide : Type 0
AllHide = (state : State) (history : List Record) → IsSound state → IsHiding state history

-- Histories of these entries that are quiet beside each other, from two sound states that are the
-- same for the group, are the same to it.
abbrev pub AreSameAlong : Group → List Entry → List Entry → Type 0
AreSameAlong group ones others = (one other : State) (history history' : List Record)
    → entries_of history ≡ ones → entries_of history' ≡ others
    → IsSound one → IsSound other → IsSameFor group one other
    → AreQuiet group one history other history' → AreSameTo group one history other history'
